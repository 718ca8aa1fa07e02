-- The eleven words of an expression's row, by their number. Assumes nothing.
use mathlib.Core.Path.{◌≡◌, sym, ap, ◌∙◌}
use Prim.Native.Nat.{ℕ, zero, suc, ◌+◌, ◌<◌}
use native.Mathlib.Nat.{add-zero}
use native.Mathlib.Omega.{arith}
use mathlib.Core.List.{List, [], ◌∷◌}
use Rattle.records.specs.Layout.{word}

-- words that are those from a place on, by their number
pub eleven_words : (words : List ℕ) (at : ℕ) {a b c d e f g h i j l : ℕ}
    → a ≡ word words at → b ≡ word words (at + 1) → c ≡ word words (at + 2) → d ≡ word words (at + 3) → e ≡ word words (at + 4) → f ≡ word words (at + 5) → g ≡ word words (at + 6) → h ≡ word words (at + 7) → i ≡ word words (at + 8) → j ≡ word words (at + 9) → l ≡ word words (at + 10)
    → (k : ℕ) → k < 11 → word (a ∷ b ∷ c ∷ d ∷ e ∷ f ∷ g ∷ h ∷ i ∷ j ∷ l ∷ []) k ≡ word words (at + k)
eleven_words words at pa pb pc pd pe pf pg ph pi pj pl zero less = pa ∙ ap (word words) (sym (add-zero at))
eleven_words words at pa pb pc pd pe pf pg ph pi pj pl (suc zero) less = pb
eleven_words words at pa pb pc pd pe pf pg ph pi pj pl (suc (suc zero)) less = pc
eleven_words words at pa pb pc pd pe pf pg ph pi pj pl (suc (suc (suc zero))) less = pd
eleven_words words at pa pb pc pd pe pf pg ph pi pj pl (suc (suc (suc (suc zero)))) less = pe
eleven_words words at pa pb pc pd pe pf pg ph pi pj pl (suc (suc (suc (suc (suc zero))))) less = pf
eleven_words words at pa pb pc pd pe pf pg ph pi pj pl (suc (suc (suc (suc (suc (suc zero)))))) less = pg
eleven_words words at pa pb pc pd pe pf pg ph pi pj pl (suc (suc (suc (suc (suc (suc (suc zero))))))) less = ph
eleven_words words at pa pb pc pd pe pf pg ph pi pj pl (suc (suc (suc (suc (suc (suc (suc (suc zero)))))))) less = pi
eleven_words words at pa pb pc pd pe pf pg ph pi pj pl (suc (suc (suc (suc (suc (suc (suc (suc (suc zero))))))))) less = pj
eleven_words words at pa pb pc pd pe pf pg ph pi pj pl (suc (suc (suc (suc (suc (suc (suc (suc (suc (suc zero)))))))))) less = pl
eleven_words words at pa pb pc pd pe pf pg ph pi pj pl (suc (suc (suc (suc (suc (suc (suc (suc (suc (suc (suc k))))))))))) less = absurd (omega arith)
