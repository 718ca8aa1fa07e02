-- Searches in lists: what `first` and `last` find, by the places at which the test passes. Assumes nothing.
use Prim.Native.Nat.{ℕ, zero, suc, ◌<◌, zero-le, suc-le-suc}
use mathlib.Core.Path.{◌≡◌, refl, sym, ◌∙◌, ap, subst}
use mathlib.Core.Bool.{Bool, true, false, ◌||◌, false≢true}
use mathlib.Core.List.{List, [], ◌∷◌, ◌++◌}
use Rattle.std.specs.Prelude.{Option, None, Some}
use Rattle.std.specs.Prelude.{slice_get}
use lib.ListN.{length}
use Rattle.std.specs.Prelude.{if◌then◌else◌}
use Rattle.model.specs.Common.{let_some, or_else, next, first, last, any}
use Rattle.model.proofs.Tests.{or_right}

-- ------------------------------------------------------------------ places

-- the list has an element at the place, and it passes the test
abbrev pub passes : {A : Type 0} → (A → Bool) → List A → ℕ → Bool
passes test xs n = let_some (slice_get xs n) false test

-- a test that passes has an element
pub passes_some : {A : Type 0} (o : Option A) (test : A → Bool) → let_some o false test ≡ true → (x : A) × (o ≡ Some x) × (test x ≡ true)
passes_some None test e = absurd (false≢true e)
passes_some (Some x) test e = (x, refl, e)

pub some_passes : {A : Type 0} {o : Option A} {x : A} (test : A → Bool) → o ≡ Some x → test x ≡ true → let_some o false test ≡ true
some_passes test e h = subst (λ r. let_some r false test ≡ true) (sym e) h

-- ------------------------------------------------------------------ two lists whose tests pass at the same places

pub first_same : {A : Type 0} (test test' : A → Bool) (xs ys : List A)
    → ((n : ℕ) → passes test xs n ≡ passes test' ys n) → first test xs ≡ first test' ys
unfolding first
first_same test test' [] [] h = refl
first_same test test' [] (y ∷ ys) h =
    λ i. if h zero i then Some zero else next (first_same test test' [] ys (λ n. h (suc n)) i)
first_same test test' (x ∷ xs) [] h =
    λ i. if h zero i then Some zero else next (first_same test test' xs [] (λ n. h (suc n)) i)
first_same test test' (x ∷ xs) (y ∷ ys) h =
    λ i. if h zero i then Some zero else next (first_same test test' xs ys (λ n. h (suc n)) i)

pub last_same : {A : Type 0} (test test' : A → Bool) (xs ys : List A)
    → ((n : ℕ) → passes test xs n ≡ passes test' ys n) → last test xs ≡ last test' ys
unfolding last
last_same test test' [] [] h = refl
last_same test test' [] (y ∷ ys) h =
    λ i. or_else (next (last_same test test' [] ys (λ n. h (suc n)) i)) (if h zero i then Some zero else None)
last_same test test' (x ∷ xs) [] h =
    λ i. or_else (next (last_same test test' xs [] (λ n. h (suc n)) i)) (if h zero i then Some zero else None)
last_same test test' (x ∷ xs) (y ∷ ys) h =
    λ i. or_else (next (last_same test test' xs ys (λ n. h (suc n)) i)) (if h zero i then Some zero else None)

pub any_same : {A : Type 0} (test test' : A → Bool) (xs ys : List A)
    → ((n : ℕ) → passes test xs n ≡ passes test' ys n) → any test xs ≡ any test' ys
unfolding any
any_same test test' [] [] h = refl
any_same test test' [] (y ∷ ys) h = λ i. h zero i || any_same test test' [] ys (λ n. h (suc n)) i
any_same test test' (x ∷ xs) [] h = λ i. h zero i || any_same test test' xs [] (λ n. h (suc n)) i
any_same test test' (x ∷ xs) (y ∷ ys) h = λ i. h zero i || any_same test test' xs ys (λ n. h (suc n)) i

pub any_none : {A : Type 0} (test : A → Bool) (xs : List A) → ((n : ℕ) → passes test xs n ≡ false) → any test xs ≡ false
unfolding any
any_none test xs h = any_same test test xs [] h

pub any_some : {A : Type 0} (test : A → Bool) (xs : List A) (n : ℕ) → passes test xs n ≡ true → any test xs ≡ true
unfolding any
any_some test [] n e = absurd (false≢true e)
any_some test (x ∷ xs) zero e = ap (λ b. b || any test xs) e
any_some test (x ∷ xs) (suc n) e = or_right (test x) (any test xs) (any_some test xs n e)

-- ------------------------------------------------------------------ nothing is found where no test passes

pub first_none : {A : Type 0} (test : A → Bool) (xs : List A) → ((n : ℕ) → passes test xs n ≡ false) → first test xs ≡ None
unfolding first
first_none test xs h = first_same test test xs [] h

pub last_none : {A : Type 0} (test : A → Bool) (xs : List A) → ((n : ℕ) → passes test xs n ≡ false) → last test xs ≡ None
unfolding last
last_none test xs h = last_same test test xs [] h

-- ------------------------------------------------------------------ the first that passes, the last that passes

pub first_is : {A : Type 0} (test : A → Bool) (xs : List A) (n : ℕ) → passes test xs n ≡ true → ((k : ℕ) → k < n → passes test xs k ≡ false)
    → first test xs ≡ Some n
unfolding first
first_is test [] n e h = absurd (false≢true e)
first_is test (x ∷ xs) zero e h = ap (λ b. if b then Some zero else next (first test xs)) e
first_is test (x ∷ xs) (suc n) e h =
    ap (λ b. if b then Some zero else next (first test xs)) (h zero (suc-le-suc zero-le))
    ∙ ap next (first_is test xs n e (λ k k<n. h (suc k) (suc-le-suc k<n)))

pub last_is : {A : Type 0} (test : A → Bool) (xs : List A) (n : ℕ) → passes test xs n ≡ true → ((k : ℕ) → n < k → passes test xs k ≡ false)
    → last test xs ≡ Some n
unfolding last
last_is test [] n e h = absurd (false≢true e)
last_is test (x ∷ xs) zero e h =
    λ i. or_else (next (last_none test xs (λ k. h (suc k) (suc-le-suc zero-le)) i)) (if e i then Some zero else None)
last_is test (x ∷ xs) (suc n) e h =
    ap (λ o. or_else (next o) (if test x then Some zero else None)) (last_is test xs n e (λ k n<k. h (suc k) (suc-le-suc n<k)))

-- ------------------------------------------------------------------ what is found passes the test

abbrev Holds : {A : Type 0} → (A → Bool) → List A → Option ℕ → Type 0
Holds test xs None = Unit {0}
Holds test xs (Some n) = passes test xs n ≡ true

first_step : {A : Type 0} (test : A → Bool) (x : A) (xs : List A) (b : Bool) → test x ≡ b → (o : Option ℕ) → Holds test xs o
    → Holds test (x ∷ xs) (if b then Some zero else next o)
first_step test x xs true e o h = e
first_step test x xs false e None h = tt
first_step test x xs false e (Some n) h = h

first_holds : {A : Type 0} (test : A → Bool) (xs : List A) → Holds test xs (first test xs)
unfolding first
first_holds test [] = tt
first_holds test (x ∷ xs) = first_step test x xs (test x) refl (first test xs) (first_holds test xs)

last_step : {A : Type 0} (test : A → Bool) (x : A) (xs : List A) (b : Bool) → test x ≡ b → (o : Option ℕ) → Holds test xs o
    → Holds test (x ∷ xs) (or_else (next o) (if b then Some zero else None))
last_step test x xs true e None h = e
last_step test x xs false e None h = tt
last_step test x xs b e (Some n) h = h

last_holds : {A : Type 0} (test : A → Bool) (xs : List A) → Holds test xs (last test xs)
unfolding last
last_holds test [] = tt
last_holds test (x ∷ xs) = last_step test x xs (test x) refl (last test xs) (last_holds test xs)

pub first_passes : {A : Type 0} (test : A → Bool) (xs : List A) (n : ℕ) → first test xs ≡ Some n → passes test xs n ≡ true
first_passes test xs n e = subst (Holds test xs) e (first_holds test xs)

pub last_passes : {A : Type 0} (test : A → Bool) (xs : List A) (n : ℕ) → last test xs ≡ Some n → passes test xs n ≡ true
last_passes test xs n e = subst (Holds test xs) e (last_holds test xs)

-- ------------------------------------------------------------------ nothing found: no test passes

next_none : (o : Option ℕ) → next o ≡ None → o ≡ None
next_none None e = refl
next_none (Some n) e = absurd (subst (λ (r : Option ℕ). let_some r ⊥ (λ k. Unit {0})) e tt)

pub first_none_fails : {A : Type 0} (test : A → Bool) (xs : List A) → first test xs ≡ None → (n : ℕ) → passes test xs n ≡ false
unfolding first
first_none_fails test [] e n = refl
first_none_fails test (x ∷ xs) e n = go (λ f k. first_none_fails test xs f k) (test x) refl e n
  where
    go : (first test xs ≡ None → (k : ℕ) → passes test xs k ≡ false) → (b : Bool) → test x ≡ b
        → (if b then Some zero else next (first test xs)) ≡ None → (k : ℕ) → passes test (x ∷ xs) k ≡ false
    go rest true h f k = absurd (subst (λ (r : Option ℕ). let_some r ⊥ (λ j. Unit {0})) f tt)
    go rest false h f zero = h
    go rest false h f (suc k) = rest (next_none (first test xs) f) k

-- ------------------------------------------------------------------ one more element at the end: for a loop that goes forward

pub last_append : {A : Type 0} (test : A → Bool) (xs : List A) (x : A)
    → last test (xs ++ (x ∷ [])) ≡ (if test x then Some (length xs) else last test xs)
unfolding last
last_append test [] x = refl
last_append test (y ∷ ys) x =
    ap (λ o. or_else (next o) (if test y then Some zero else None)) (last_append test ys x) ∙ go (test x)
  where
    go : (b : Bool) → or_else (next (if b then Some (length ys) else last test ys)) (if test y then Some zero else None)
        ≡ (if b then Some (suc (length ys)) else or_else (next (last test ys)) (if test y then Some zero else None))
    go true = refl
    go false = refl
