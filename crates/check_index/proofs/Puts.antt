-- Texts and numbers put behind the first bytes of a buffer. Assumes nothing.
use Prim.Native.Nat.{ℕ, ◌+◌, ◌<◌}
use Rattle.check_index.specs.Line.{tabbed, counted}
use mathlib.Core.Path.{◌≡◌, refl, sym, ap, ◌∙◌}
use mathlib.Core.List.{List, [], ◌∷◌, ◌++◌, append_assoc}
use native.Mathlib.Numerals.{add-one}
use lib.ListN.{length, take, get_or}
use lib.Seq.{take-suc}

-- a text and then another, behind what is there
pub put_both :
    (t u v : List ℕ) (r s : List ℕ) → s ≡ t ++ u → r ≡ s ++ v → r ≡ t ++ (u ++ v)
put_both t u v r s e f = f ∙ ap (λ (w : List ℕ). w ++ v) e ∙ append_assoc t u v

-- numbers behind tabs, and then others
counted_append : (t ns ms : List ℕ) → counted t (ns ++ ms) ≡ counted (counted t ns) ms
counted_append t [] ms = refl
counted_append t (n ∷ ns) ms = counted_append (t ++ tabbed n) ns ms

-- one number more
pub counted_more : (t ns : List ℕ) (i : ℕ) → i < length ns → counted (counted t (take i ns)) (get_or ns i 0 ∷ []) ≡ counted t (take (i + 1) ns)
counted_more t ns i h =
    sym (ap (counted t) (ap (λ (k : ℕ). take k ns) (add-one i) ∙ take-suc ns i 0 h) ∙ counted_append t (take i ns) (get_or ns i 0 ∷ []))
