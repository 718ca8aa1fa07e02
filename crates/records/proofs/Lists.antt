-- Laws of the lists that the words hold: `each f first count`. Assumes nothing.
use mathlib.Core.Path.{◌≡◌, refl, sym, ap, ap₂, ◌∙◌}
use Prim.Native.Nat.{ℕ, zero, suc, ◌+◌, ◌-◌, ◌≤◌, ◌<◌}
use native.Mathlib.Nat.{not-suc-le-zero, le_of_suc-le-suc, add-zero, zero-add, sub-zero}
use native.Mathlib.Omega.{arith}
use mathlib.Core.List.{List, [], ◌∷◌, ◌++◌}
use Rattle.std.specs.Prelude.{Option, None, Some, is_some, IfSome, MatchOption, option_map}
use mathlib.Core.Bool.{Bool, true, false}
use lib.Dec.{ltb}
use borrow.Author.Tests.{ltb-true, ltb-false}
use Rattle.std.specs.Prelude.{slice_get}
use lib.ListN.{length}
use Rattle.std.specs.Prelude.{if◌then◌else◌}
use Rattle.model.specs.Common.{let_some}
use Rattle.records.specs.Layout.{word, each, begin_of, count_of, rows_of}

module _ {A : Type 0} (f : ℕ → A) where
  pub each_at : (first count i : ℕ) → i < count → slice_get (each f first count) i ≡ Some (f (first + i))
  unfolding each
  each_at first zero i h = absurd (not-suc-le-zero h)
  each_at first (suc count) zero h = ap (λ n. Some (f n)) (sym (add-zero first))
  each_at first (suc count) (suc i) h = each_at (suc first) count i (le_of_suc-le-suc h) ∙ ap (λ n. Some (f n)) (over first i)
    where
      over : (a b : ℕ) → suc a + b ≡ a + suc b
      over a b = omega arith

  pub each_past : (first count i : ℕ) → count ≤ i → slice_get (each f first count) i ≡ None
  unfolding each
  each_past first zero i h = refl
  each_past first (suc count) zero h = absurd (not-suc-le-zero h)
  each_past first (suc count) (suc i) h = each_past (suc first) count i (le_of_suc-le-suc h)

  pub each_length : (first count : ℕ) → length (each f first count) ≡ count
  unfolding each
  each_length first zero = refl
  each_length first (suc count) = ap suc (each_length (suc first) count)

  -- a list that begins at 0
  pub each_if : (count i : ℕ) (b : Bool) → ltb i count ≡ b → slice_get (each f 0 count) i ≡ (if b then Some (f i) else None)
  each_if count i true h = each_at 0 count i (ltb-true i count h) ∙ ap (λ k. Some (f k)) (zero-add i)
  each_if count i false h = each_past 0 count i (ltb-false i count h)

-- what `then` gives of an item below the count: each of its values is one that `P` holds of, and means the item
module _ {A B : Type 0} (mean : A → B) (row : ℕ → B) (first count i : ℕ) (P : A → Type 0) (answers : (x : A) → P x → mean x ≡ row (first + i)) where
  pub then_item : (r : Option A) → is_some r ≡ ltb i count → IfSome r P → option_map mean r ≡ slice_get (each row first count) i
  then_item None e p = sym (each_past row first count i (ltb-false i count (sym e)))
  then_item (Some x) e p = ap Some (answers x p) ∙ sym (each_at row first count i (ltb-true i count (sym e)))

  -- a module's record by number, from where its rows begin and how many there are
  pub then_row : (words : List ℕ) (m kind : ℕ) → first ≡ begin_of words m kind → count ≡ count_of words m kind
      → (r : Option A) → is_some r ≡ ltb i count → IfSome r P → option_map mean r ≡ slice_get (rows_of row words m kind) i
  unfolding rows_of
  then_row words m kind begins counts r e p = then_item r e p ∙ ap₂ (λ a n. slice_get (each row a n) i) begins counts

-- a value that means itself
pub as_it_is : {A : Type 0} (r : Option A) → r ≡ option_map (λ x. x) r
as_it_is None = refl
as_it_is (Some x) = refl

-- what `is_some_and` says of an option whose value means another
pub some_and : {A B : Type 0} (mean : A → B) (test : B → Bool) (P : A → Type 0) (r : Option A) (b : Bool) → MatchOption r (b ≡ false) P
    → ((x : A) → P x → b ≡ test (mean x)) → b ≡ let_some (option_map mean r) false test
some_and mean test P None b answer tests = answer
some_and mean test P (Some x) b answer tests = tests x answer

-- how many rows of a kind a module has
module _ {A : Type 0} (row : ℕ → A) (words : List ℕ) (m kind count : ℕ) (counts : count ≡ count_of words m kind) where
  pub row_count : count ≡ length (rows_of row words m kind)
  unfolding rows_of
  row_count = counts ∙ sym (each_length row (begin_of words m kind) (count_of words m kind))

-- what is left of a list after i turns of a loop over it
pub each_unroll : {A : Type 0} (f : ℕ → A) (first count i : ℕ) → i < count → each f (first + i) (count - i) ≡ f (first + i) ∷ each f (first + (i + 1)) (count - (i + 1))
unfolding each
each_unroll f first count i h = ap₂ (λ n k. each f n k) refl (one_less count i h) ∙ ap (λ n. f (first + i) ∷ each f n (count - (i + 1))) (next first i)
  where
    one_less : (n i : ℕ) → i < n → n - i ≡ suc (n - (i + 1))
    one_less n i h = omega arith

    next : (a i : ℕ) → suc (a + i) ≡ a + (i + 1)
    next a i = omega arith

pub each_ended : {A : Type 0} (f : ℕ → A) (first count i : ℕ) → count ≤ i → each f (first + i) (count - i) ≡ []
unfolding each
each_ended f first count i h = ap (each f (first + i)) (ended count i h)
  where
    ended : (n i : ℕ) → n ≤ i → n - i ≡ 0
    ended n i h = omega arith

pub each_begun : {A : Type 0} (f : ℕ → A) (first count : ℕ) → each f first count ≡ each f (first + 0) (count - 0)
each_begun f first count = ap₂ (each f) (sym (add-zero first)) (sym (sub-zero count))

-- a list is what it holds at each place
pub each_shift : {A : Type 0} (f : ℕ → A) (first count : ℕ) → each f (suc first) count ≡ each (λ i. f (suc i)) first count
unfolding each
each_shift f first zero = refl
each_shift f first (suc count) = ap (λ l. f (suc first) ∷ l) (each_shift f (suc first) count)

pub each_list : (l : List ℕ) → l ≡ each (word l) 0 (length l)
unfolding each
each_list [] = refl
each_list (x ∷ l) = ap (λ r. x ∷ r) (each_list l ∙ sym (each_shift (word (x ∷ l)) 0 (length l)))

-- ------------------------------------------------------------------ lists of rows

pub each_same : {A : Type 0} (f g : ℕ → A) (first count : ℕ) → ((i : ℕ) → first ≤ i → i < first + count → f i ≡ g i) → each f first count ≡ each g first count
unfolding each
each_same f g first zero same = refl
each_same f g first (suc count) same =
    ap₂ ◌∷◌ (same first (here first) (below first count)) (each_same f g (suc first) count (λ i le lt. same i (lower first i le) (higher first count i lt)))
  where
    here : (a : ℕ) → a ≤ a
    here a = omega arith

    below : (a n : ℕ) → a < a + suc n
    below a n = omega arith

    lower : (a i : ℕ) → suc a ≤ i → a ≤ i
    lower a i h = omega arith

    higher : (a n i : ℕ) → i < suc a + n → i < a + suc n
    higher a n i h = omega arith

-- one row more
pub each_snoc : {A : Type 0} (f : ℕ → A) (first count : ℕ) → each f first (suc count) ≡ each f first count ++ (f (first + count) ∷ [])
unfolding each
each_snoc f first zero = ap (λ n. f n ∷ []) (sym (add-zero first))
each_snoc f first (suc count) =
    ap (λ l. f first ∷ l) (each_snoc f (suc first) count ∙ ap (λ n. each f (suc first) count ++ (f n ∷ [])) (over first count))
  where
    over : (a b : ℕ) → suc a + b ≡ a + suc b
    over a b = omega arith
