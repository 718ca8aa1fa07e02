-- Elements of a list by their place. Assumes nothing.
use Prim.Native.Nat.{ℕ, zero, suc, ◌<◌, zero-le, suc-le-suc}
use native.Mathlib.Nat.{le_of_suc-le-suc, not-suc-le-zero}
use mathlib.Core.Path.{◌≡◌, refl, ap}
use mathlib.Core.List.{List, [], ◌∷◌, ◌++◌}
use Rattle.std.specs.Prelude.{Option, Some}
use mathlib.Core.Logic.{◌⊎◌, inl, inr, ⊎_elim}
use Rattle.std.specs.Prelude.{slice_get}
use lib.ListN.{length, get_or}
use Rattle.model.specs.Common.{let_some}
use Rattle.model.proofs.Tests.{none≢some}

module _ {A : Type 0} where
  pub getElem_there : (xs : List A) (n : ℕ) → n < length xs → (x : A) × (slice_get xs n ≡ Some x)
  getElem_there [] n h = absurd (not-suc-le-zero h)
  getElem_there (x ∷ xs) zero h = (x, refl)
  getElem_there (x ∷ xs) (suc n) h = getElem_there xs n (le_of_suc-le-suc h)

  pub getElem_below : (xs : List A) (n : ℕ) {x : A} → slice_get xs n ≡ Some x → n < length xs
  getElem_below [] n e = absurd (none≢some e)
  getElem_below (y ∷ ys) zero e = suc-le-suc zero-le
  getElem_below (y ∷ ys) (suc n) e = suc-le-suc (getElem_below ys n e)

  pub getElem_append : (xs ys : List A) (n : ℕ) → n < length xs → slice_get (xs ++ ys) n ≡ slice_get xs n
  getElem_append [] ys n h = absurd (not-suc-le-zero h)
  getElem_append (x ∷ xs) ys zero h = refl
  getElem_append (x ∷ xs) ys (suc n) h = getElem_append xs ys n (le_of_suc-le-suc h)

  pub getElem_last : (xs : List A) (x : A) → slice_get (xs ++ (x ∷ [])) (length xs) ≡ Some x
  getElem_last [] x = refl
  getElem_last (y ∷ ys) x = getElem_last ys x

  -- an element of a list with one more is an element of the list, or the last
  pub getElem_snoc : (xs : List A) (x y : A) (n : ℕ) → slice_get (xs ++ (x ∷ [])) n ≡ Some y
      → (slice_get xs n ≡ Some y) ⊎ ((n ≡ length xs) × (x ≡ y))
  getElem_snoc [] x y zero e = inr (refl, ap (λ (o : Option A). let_some o x (λ z. z)) e)
  getElem_snoc [] x y (suc n) e = absurd (none≢some e)
  getElem_snoc (z ∷ zs) x y zero e = inl e
  getElem_snoc (z ∷ zs) x y (suc n) e = ⊎_elim (λ l. inl l) (λ r. inr (ap suc r.0, r.1)) (getElem_snoc zs x y n e)

  pub getD_cases : (xs : List A) (n : ℕ) (d : A) → (slice_get xs n ≡ Some (get_or xs n d)) ⊎ (get_or xs n d ≡ d)
  getD_cases [] n d = inr refl
  getD_cases (x ∷ xs) zero d = inl refl
  getD_cases (x ∷ xs) (suc n) d = getD_cases xs n d
