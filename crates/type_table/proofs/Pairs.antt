-- Two lists compared element by element. Assumes nothing.
use Prim.Native.Nat.{ℕ, suc}
use mathlib.Core.Path.{◌≡◌, refl, sym, ap, ◌∙◌}
use mathlib.Core.Bool.{Bool, true, false, ◌&&◌}
use mathlib.Core.List.{List, [], ◌∷◌, map}
use native.Mathlib.Omega.{arith}
use Rattle.std.specs.List.{list_all, zip}
use lib.Dec.{eqb}
use lib.Pointwise.{pointwise}
use lib.ListN.{length}
use Rattle.model.specs.Common.{eq_numbers}
use Rattle.model.specs.Records.{Name}
use Rattle.resolution.specs.Types.{eq_names}
use Rattle.resolution.specs.Compatible.{all_pairs}

-- two lists of numbers, their first ones apart
pub numbers_cons : (x y : ℕ) (xs ys : List ℕ) → eq_numbers (x ∷ xs) (y ∷ ys) ≡ (eqb x y && eq_numbers xs ys)
unfolding eq_numbers
numbers_cons x y xs ys = go (eqb x y)
  where
    go : (b : Bool) → elim b [ true ↦ eq_numbers xs ys | false ↦ false ] ≡ (b && eq_numbers xs ys)
    go true = refl
    go false = refl

and_false : (b : Bool) → b && false ≡ false
and_false true = refl
and_false false = refl

pub pairs_length : (test : ℕ → ℕ → Bool) (a b : List ℕ) → (length a ≡ length b → ⊥) → all_pairs test a b ≡ false
unfolding all_pairs
pairs_length test [] [] other = absurd (other refl)
pairs_length test [] (y ∷ ys) other = refl
pairs_length test (x ∷ xs) [] other = refl
pairs_length test (x ∷ xs) (y ∷ ys) other =
    ap (λ r. test x y && r) (pairs_length test xs ys (λ e. other (ap suc e))) ∙ and_false (test x y)

-- `==` of two slices of numbers
pub same_numbers : (a b : List ℕ) → pointwise eqb a b ≡ eq_numbers a b
unfolding eq_numbers
same_numbers [] [] = refl
same_numbers [] (y ∷ ys) = refl
same_numbers (x ∷ xs) [] = refl
same_numbers (x ∷ xs) (y ∷ ys) = ap (λ r. eqb x y && r) (same_numbers xs ys) ∙ sym (numbers_cons x y xs ys)

pub pairs_names : (f : ℕ → Name) (a b : List ℕ) → eq_names (map f a) (map f b) ≡ all_pairs (λ x y. eq_numbers (f x) (f y)) a b
unfolding all_pairs eq_names
pairs_names f [] [] = refl
pairs_names f [] (y ∷ ys) = refl
pairs_names f (x ∷ xs) [] = refl
pairs_names f (x ∷ xs) (y ∷ ys) = ap (λ r. eq_numbers (f x) (f y) && r) (pairs_names f xs ys)

-- two lists of one length, pair by pair
pub pairs_zip : (test : ℕ → ℕ → Bool) (a b : List ℕ) → length a ≡ length b → all_pairs test a b ≡ list_all (λ (p : ℕ × ℕ). test p.0 p.1) (zip a b)
unfolding all_pairs
pairs_zip test [] [] same = refl
pairs_zip test [] (y ∷ ys) same = absurd (omega arith)
pairs_zip test (x ∷ xs) [] same = absurd (omega arith)
pairs_zip test (x ∷ xs) (y ∷ ys) same = ap (λ r. test x y && r) (pairs_zip test xs ys (omega arith))
