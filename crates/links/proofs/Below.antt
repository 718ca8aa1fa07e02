-- Laws of `all_below` and of tests one after the other. Assumes nothing.
use mathlib.Core.Path.{◌≡◌, refl, sym, ap, ◌∙◌}
use mathlib.Core.Bool.{Bool, true, false, ◌&&◌}
use Prim.Native.Nat.{ℕ, zero, suc, ◌+◌}
use mathlib.Core.List.{List, [], ◌∷◌, ◌++◌}
use Rattle.std.specs.Prelude.{Option, None, Some, IsTrue, MatchOption, option_map}
use lib.Dec.{ltb}
use Rattle.model.specs.Common.{every}
use Rattle.model.specs.Links.{link, links, field_types}
use Rattle.format.specs.LinkCheck.{all_below}
use Rattle.records.specs.Layout.{each, item_value, numbers_at, links_at, names_with_types_at, link_by}
use Rattle.records.proofs.Searches.{each_from}

-- ------------------------------------------------------------------ two tests, the second made where the first passes

module _ (b x y : Bool) (is : b ≡ x) where
  pub and_stop : b ≡ false → b ≡ (x && y)
  and_stop h = h ∙ ap (λ x. x && y) (sym h ∙ is)

  pub and_go : (c : Bool) → b ≡ true → c ≡ y → c ≡ (x && y)
  and_go c h e = e ∙ ap (λ x. x && y) (sym h ∙ is)

-- ------------------------------------------------------------------ all-below by the parts of a list

module _ (n : ℕ) where
  pub below_first : (k : ℕ) (ks : List ℕ) → (ltb k n && all_below n ks) ≡ all_below n (k ∷ ks)
  unfolding all_below
  below_first k ks = by (ltb k n)
    where
      by : (b : Bool) → (b && all_below n ks) ≡ elim b [ true ↦ all_below n ks | false ↦ false ]
      by true = refl
      by false = refl

  -- a list of one number
  pub below_one : (k : ℕ) → ltb k n ≡ all_below n (k ∷ [])
  unfolding all_below
  below_one k = by (ltb k n)
    where
      by : (b : Bool) → b ≡ elim b [ true ↦ true | false ↦ false ]
      by true = refl
      by false = refl

  -- a link that is absent, or whose number passes
  pub link_passes : {R : Type 0} (number : R → ℕ) (P : R → Type 0) (to : Option R) (b : Bool) → MatchOption to (IsTrue b) P
      → ((k : R) → P k → b ≡ ltb (number k) n) → b ≡ all_below n (link (option_map number to))
  unfolding all_below
  link_passes number P None b is tests = is
  link_passes number P (Some k) b is tests = tests k is ∙ below_one (number k)

  -- a link that equals the one that was tested
  pub link_same : (b : Bool) (p o : Option ℕ) → b ≡ all_below n (link p) → p ≡ o → b ≡ all_below n (link o)
  link_same b p o is e = is ∙ ap (λ o. all_below n (link o)) e

  pub below_append : (ks js : List ℕ) → (all_below n ks && all_below n js) ≡ all_below n (ks ++ js)
  unfolding all_below
  below_append [] js = refl
  below_append (k ∷ ks) js = by (ltb k n) ∙ ap (λ r. elim (ltb k n) [ true ↦ r | false ↦ false ]) (below_append ks js)
    where
      by : (b : Bool)
          → (elim b [ true ↦ all_below n ks | false ↦ false ] && all_below n js) ≡ elim b [ true ↦ all_below n ks && all_below n js | false ↦ false ]
      by true = refl
      by false = refl

  -- one part after the other
  module _ (ks js : List ℕ) (b : Bool) (is : b ≡ all_below n ks) where
    pub parts_stop : b ≡ false → b ≡ all_below n (ks ++ js)
    parts_stop h = and_stop b (all_below n ks) (all_below n js) is h ∙ below_append ks js

    pub parts_go : (c : Bool) → b ≡ true → c ≡ all_below n js → c ≡ all_below n (ks ++ js)
    parts_go c h e = and_go b (all_below n ks) (all_below n js) is c h e ∙ below_append ks js

-- a bound that equals the one that was tested
pub bound_same : (ks : List ℕ) (n k : ℕ) → n ≡ k → all_below n ks ≡ all_below k ks
bound_same ks n k e = ap (λ n. all_below n ks) e

-- ------------------------------------------------------------------ the lists of a row

module _ (n : ℕ) where
  numbers_every : (ks : List ℕ) → all_below n ks ≡ every (λ k. ltb k n) ks
  unfolding all_below
  numbers_every [] = refl
  numbers_every (k ∷ ks) = sym (below_first n k ks) ∙ ap (λ r. ltb k n && r) (numbers_every ks)

  links_every : (os : List (Option ℕ)) → all_below n (links os) ≡ every (λ o. all_below n (link o)) os
  unfolding all_below
  links_every [] = refl
  links_every (o ∷ os) = sym (below_append n (link o) (links os)) ∙ ap (λ r. all_below n (link o) && r) (links_every os)

  -- the code's answer is whether each item of the list passes
  module _ (words : List ℕ) (from count : ℕ) (b : Bool) where
    pub numbers_pass : b ≡ every (λ k. ltb k n) (each (λ i. item_value words (from + i)) 0 count) → b ≡ all_below n (numbers_at words from count)
    unfolding numbers_at
    numbers_pass is =
        is
        ∙ ap (every (λ k. ltb k n)) (each_from (item_value words) from count)
        ∙ sym (numbers_every (each (item_value words) from count))

    pub links_pass : b ≡ every (λ o. all_below n (link o)) (each (λ i. link_by (item_value words (from + i))) 0 count)
        → b ≡ all_below n (links (links_at words from count))
    unfolding links_at
    links_pass is =
        is
        ∙ ap (every (λ o. all_below n (link o))) (each_from (λ i. link_by (item_value words i)) from count)
        ∙ sym (links_every (each (λ i. link_by (item_value words i)) from count))

-- the T of names with types are the values of the same items
pub field_types_at : (file words : List ℕ) (from count : ℕ) → numbers_at words from count ≡ field_types (names_with_types_at file words from count)
unfolding numbers_at names_with_types_at each
field_types_at file words from zero = refl
field_types_at file words from (suc count) = ap (λ l. item_value words from ∷ l) (field_types_at file words (suc from) count)
