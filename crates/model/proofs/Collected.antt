-- What `collect` and `joined` make of a list. Assumes nothing.
use Prim.Native.Nat.{ℕ, zero, suc, ◌≤◌, zero-le, suc-le-suc}
use native.Mathlib.Omega.{arith}
use mathlib.Core.Path.{◌≡◌, refl, sym, ◌∙◌, ap, subst}
use mathlib.Core.List.{List, [], ◌∷◌, ◌++◌, Memᴰ}
use Rattle.std.specs.Prelude.{Option, None, Some}
use Rattle.std.specs.Prelude.{slice_get}
use lib.ListN.{length, drop}
use Rattle.model.specs.Common.{Text, let_some, collect, joined}
use Rattle.model.proofs.Tests.{none≢some}

module _ {A B : Type 0} (f : A → Option B) where
  -- each element that was collected is given for one of the list
  pub collected_from : (xs : List A) (n : ℕ) {y : B} → slice_get (collect f xs) n ≡ Some y → (x : A) × (Memᴰ x xs) × (f x ≡ Some y)
  unfolding collect
  collected_from [] n e = absurd (none≢some e)
  collected_from (x ∷ xs) n {y} e = go (λ k h. collected_from xs k h) (f x) refl n e
    where
      later : (z : A) × (Memᴰ z xs) × (f z ≡ Some y) → (z : A) × (Memᴰ z (x ∷ xs)) × (f z ≡ Some y)
      later (z, mem, h) = (z, Memᴰ.tail mem, h)

      go : ((k : ℕ) → slice_get (collect f xs) k ≡ Some y → (z : A) × (Memᴰ z xs) × (f z ≡ Some y))
          → (o : Option B) → f x ≡ o → (k : ℕ) → slice_get (let_some o (collect f xs) (λ z. z ∷ collect f xs)) k ≡ Some y
          → (z : A) × (Memᴰ z (x ∷ xs)) × (f z ≡ Some y)
      go rest None h k e' = later (rest k e')
      go rest (Some z) h zero e' = (x, Memᴰ.head refl, h ∙ e')
      go rest (Some z) h (suc k) e' = later (rest k e')

  -- and each that is given for one of the list was collected
  pub collected_there : (xs : List A) {x : A} {y : B} → Memᴰ x xs → f x ≡ Some y → (n : ℕ) × (slice_get (collect f xs) n ≡ Some y)
  unfolding collect
  collected_there [] {y = y} x4 h = elim x4 [ ]
  collected_there (x ∷ xs) {y = y} (Memᴰ.head e) h =
      (0, ap (λ o. slice_get (let_some o (collect f xs) (λ z. z ∷ collect f xs)) 0) (ap f (sym e) ∙ h))
  collected_there (x ∷ xs) {y = y} (Memᴰ.tail mem) h = go (f x) (collected_there xs mem h)
    where
      go : (o : Option B) → (n : ℕ) × (slice_get (collect f xs) n ≡ Some y)
          → (n : ℕ) × (slice_get (let_some o (collect f xs) (λ z. z ∷ collect f xs)) n ≡ Some y)
      go None found = found
      go (Some z) (n, found) = (suc n, found)

  pub collected_length : (xs : List A) → length (collect f xs) ≤ length xs
  unfolding collect
  collected_length [] = zero-le
  collected_length (x ∷ xs) = go (f x) (collected_length xs)
    where
      go : (o : Option B) → length (collect f xs) ≤ length xs → length (let_some o (collect f xs) (λ z. z ∷ collect f xs)) ≤ suc (length xs)
      go None h = omega (arith, h)
      go (Some z) h = suc-le-suc h

-- ------------------------------------------------------------------ texts by their numbers

-- the texts that a function gives from a number on, up to the first that it doesn't give, at most as many as the first number says
unfoldable pub texts_from : ℕ → (ℕ → Option Text) → ℕ → Text
texts_from zero f n = []
texts_from (suc more) f n = elim (f n) [ None ↦ [] | Some text ↦ text ++ texts_from more f (suc n) ]

-- what is left of a list at a place
data At {A : Type 0} (xs : List A) (n : ℕ) : Type 0 where
  over : slice_get xs n ≡ None → drop n xs ≡ [] → At xs n
  there : (x : A) → slice_get xs n ≡ Some x → drop n xs ≡ x ∷ drop (suc n) xs → At xs n

at : {A : Type 0} (xs : List A) (n : ℕ) → At xs n
at [] zero = over refl refl
at [] (suc n) = over refl refl
at (x ∷ xs) zero = there x refl refl
at (x ∷ xs) (suc n) = up (at xs n)
  where
    up : At xs n → At (x ∷ xs) (suc n)
    up (over e d) = over e d
    up (there y e d) = there y e d

-- they are the texts of a list's elements, where the function gives these by their numbers
module _ {A : Type 0} (text : A → Text) (xs : List A) (f : ℕ → Option Text) (is : (n : ℕ) → f n ≡ let_some (slice_get xs n) None (λ x. Some (text x))) where
  texts_at : (more n : ℕ) → length (drop n xs) ≤ more → texts_from more f n ≡ joined text (drop n xs)
  unfolding texts_from joined
  texts_at zero n h = ap (joined text) (sym (nothing_left (drop n xs) h))
    where
      nothing_left : (ys : List A) → length ys ≤ 0 → ys ≡ []
      nothing_left [] k = refl
      nothing_left (y ∷ ys) k = absurd (omega arith)
  texts_at (suc more) n h = go (at xs n) (λ k. texts_at more (suc n) k)
    where
      next : Option Text → Text
      next o = elim o [ None ↦ [] | Some t ↦ t ++ texts_from more f (suc n) ]

      go : At xs n → (length (drop (suc n) xs) ≤ more → texts_from more f (suc n) ≡ joined text (drop (suc n) xs)) → next (f n) ≡ joined text (drop n xs)
      go (over e d) rest = ap next (is n ∙ ap (λ o. let_some o None (λ x. Some (text x))) e) ∙ ap (joined text) (sym d)
      go (there x e d) rest =
          ap next (is n ∙ ap (λ o. let_some o None (λ y. Some (text y))) e)
          ∙ ap (λ t. text x ++ t) (rest (shorter (subst (λ l. length l ≤ suc more) d h)))
          ∙ ap (joined text) (sym d)
        where
          shorter : length (x ∷ drop (suc n) xs) ≤ suc more → length (drop (suc n) xs) ≤ more
          shorter k = omega arith

  pub texts_are : (more : ℕ) → length xs ≤ more → texts_from more f 0 ≡ joined text xs
  texts_are more h = texts_at more 0 h
