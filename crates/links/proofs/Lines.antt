-- The first test of a list that fails: row after row, and part after part. Assumes nothing.
use mathlib.Core.Path.{◌≡◌, refl, sym, ap, ap₂, ◌∙◌}
use mathlib.Core.Bool.{Bool, true, false, not}
use Prim.Native.Nat.{ℕ, zero, suc, ◌+◌, ◌<◌}
use native.Mathlib.Nat.{add-zero}
use native.Mathlib.Omega.{arith}
use mathlib.Core.List.{List, [], ◌∷◌, ◌++◌, map}
use Rattle.std.specs.Prelude.{Option, None, Some}
use Rattle.std.specs.Prelude.{slice_get}
use lib.ListN.{length}
use Rattle.std.specs.Prelude.{if◌then◌else◌}
use Rattle.model.specs.Common.{next, first}
use Rattle.model.proofs.Places.{getElem_below}
use Rattle.model.proofs.Search.{passes_some, first_passes}
use Rattle.format.specs.LinkCheck.{map_from}
use Rattle.records.specs.Layout.{each, begin_of, count_of, rows_of}
use Rattle.records.proofs.Searches.{shifted, shifted_next, shifted_0}

-- ------------------------------------------------------------------ tests from a place on

-- the place of the first test that fails, where the list's own place is n
unfoldable pub fault_in : ℕ → List Bool → Option ℕ
fault_in n bs = shifted n (first not bs)

pub fault_begin : (bs : List Bool) → first not bs ≡ fault_in 0 bs
unfolding fault_in
fault_begin bs = shifted_0 (first not bs)

module _ (n : ℕ) where
  module _ (b : Bool) (bs : List Bool) where
    pub fault_here : b ≡ false → fault_in n (b ∷ bs) ≡ Some n
    unfolding fault_in shifted first
    fault_here e = ap (λ b. shifted n (if not b then Some zero else next (first not bs))) e ∙ ap Some (add-zero n)

    pub fault_later : b ≡ true → fault_in n (b ∷ bs) ≡ fault_in (n + 1) bs
    unfolding fault_in first
    fault_later e = ap (λ b. shifted n (if not b then Some zero else next (first not bs))) e ∙ shifted_next n (first not bs)

-- ------------------------------------------------------------------ part after part

-- what the first part gives, or what the second gives, whose own place is n
abbrev pub joined : Option ℕ → ℕ → Option ℕ → Option ℕ
joined None n o = shifted n o
joined (Some k) n o = Some k

-- the place of the first test that fails in two lists, one behind the other
pub first_parts : (bs cs : List Bool) → first not (bs ++ cs) ≡ joined (first not bs) (length bs) (first not cs)
unfolding first shifted
first_parts [] cs = shifted_0 (first not cs)
first_parts (false ∷ bs) cs = refl
first_parts (true ∷ bs) cs = ap next (first_parts bs cs) ∙ by (first not bs) (first not cs)
  where
    by : (p o : Option ℕ) → next (joined p (length bs) o) ≡ joined (next p) (suc (length bs)) o
    by (Some k) o = refl
    by None None = refl
    by None (Some k) = ap Some (over (length bs) k)
      where
        over : (a b : ℕ) → suc (a + b) ≡ suc a + b
        over a b = omega arith

module _ (n : ℕ) (bs cs : List Bool) (o : Option ℕ) (is : o ≡ first not bs) where
  -- what is found in the first part is found
  pub part_hit : (k : ℕ) → o ≡ Some k → fault_in n (bs ++ cs) ≡ Some (n + k)
  unfolding fault_in shifted
  part_hit k e = ap (shifted n) (first_parts bs cs) ∙ ap (λ p. shifted n (joined p (length bs) (first not cs))) (sym is ∙ e)

  -- where the first part passes, the second begins behind it
  pub part_miss : (l : ℕ) → l ≡ length bs → o ≡ None → fault_in n (bs ++ cs) ≡ fault_in (n + l) cs
  unfolding fault_in shifted
  part_miss l long e =
      ap (shifted n) (first_parts bs cs)
      ∙ ap₂ (λ p l. shifted n (joined p l (first not cs))) (sym is ∙ e) (sym long)
      ∙ by (first not cs)
    where
      by : (o : Option ℕ) → shifted n (shifted l o) ≡ shifted (n + l) o
      by None = refl
      by (Some k) = ap Some (over n l k)
        where
          over : (a b c : ℕ) → a + (b + c) ≡ a + b + c
          over a b c = omega arith

-- the last part
module _ (n : ℕ) (bs : List Bool) (o : Option ℕ) (is : o ≡ first not bs) where
  pub last_hit : (k : ℕ) → o ≡ Some k → fault_in n bs ≡ Some (n + k)
  unfolding fault_in shifted
  last_hit k e = ap (shifted n) (sym is ∙ e)

  pub last_miss : o ≡ None → fault_in n bs ≡ None
  unfolding fault_in shifted
  last_miss e = ap (shifted n) (sym is ∙ e)

-- a place that is found is one of the list's
pub first_below : (bs : List Bool) (k : ℕ) → first not bs ≡ Some k → k < length bs
first_below bs k e = let (b, found, fails) = passes_some (slice_get bs k) not (first_passes not bs k e) in getElem_below bs k found

-- ------------------------------------------------------------------ number after number

-- a test that does not look at the row's number
map_numbered : {A : Type 0} (test : A → Bool) (n : ℕ) (xs : List A) → map test xs ≡ map_from (λ k. test) n xs
unfolding map_from
map_numbered test n [] = refl
map_numbered test n (x ∷ xs) = ap (λ bs. test x ∷ bs) (map_numbered test (suc n) xs)

pub map_from_length : {A : Type 0} (test : ℕ → A → Bool) (n : ℕ) (xs : List A) → length (map_from test n xs) ≡ length xs
unfolding map_from
map_from_length test n [] = refl
map_from_length test n (x ∷ xs) = ap suc (map_from_length test (suc n) xs)

-- ------------------------------------------------------------------ the tests of rows by their numbers

-- what a test of each row gives, with the rows' numbers
each_numbered : {A : Type 0} (test : ℕ → A → Bool) (row : ℕ → A) (from n count : ℕ)
    → each (λ k. test k (row (from + k))) n count ≡ map_from test n (each row (from + n) count)
unfolding each map_from
each_numbered test row from n zero = refl
each_numbered test row from n (suc count) =
    ap (λ bs. test n (row (from + n)) ∷ bs)
    (each_numbered test row from (suc n) count ∙ ap (λ a. map_from test (suc n) (each row a count)) (over from n))
  where
    over : (a b : ℕ) → a + suc b ≡ suc (a + b)
    over a b = omega arith

-- over rows that begin at `from`, and over a module's rows of a kind, with the rows' numbers or without
module _ {A : Type 0} (row : ℕ → A) (from count : ℕ) where
  rows_numbered : (test : ℕ → A → Bool) → each (λ k. test k (row (from + k))) 0 count ≡ map_from test 0 (each row from count)
  rows_numbered test = each_numbered test row from 0 count ∙ ap (λ a. map_from test 0 (each row a count)) (add-zero from)

  module _ (words : List ℕ) (m kind : ℕ) (begins : from ≡ begin_of words m kind) (counts : count ≡ count_of words m kind) where
    pub numbered_tests : (test : ℕ → A → Bool) → each (λ k. test k (row (from + k))) 0 count ≡ map_from test 0 (rows_of row words m kind)
    unfolding rows_of
    numbered_tests test = rows_numbered test ∙ ap₂ (λ a n. map_from test 0 (each row a n)) begins counts

    pub rows_tests : (test : A → Bool) → each (λ k. test (row (from + k))) 0 count ≡ map test (rows_of row words m kind)
    rows_tests test = numbered_tests (λ k. test) ∙ sym (map_numbered test 0 (rows_of row words m kind))

-- over a list whose rows have their numbers in the file
pub list_tests : {A : Type 0} (test : A → Bool) (row : ℕ → A) (from count : ℕ) → each (λ k. test (row k)) from count ≡ map test (each row from count)
unfolding each
list_tests test row from zero = refl
list_tests test row from (suc count) = ap (λ bs. test (row from) ∷ bs) (list_tests test row (suc from) count)
