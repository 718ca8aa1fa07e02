-- The first row that passes a test. Assumes nothing.
use Prim.Native.Nat.{ℕ, zero, suc, ◌≤◌, ◌<◌, zero-le, suc-le-suc}
use mathlib.Core.Path.{◌≡◌, refl, sym, ap, ap₂, ◌∙◌}
use mathlib.Core.Bool.{Bool, true, false}
use mathlib.Core.List.{List, [], ◌∷◌}
use Rattle.std.specs.Prelude.{Option, None, Some, cond, find, zip}
use Rattle.std.specs.Option.{MatchOption, option_map}
use denote.Ref.{Bor}
use native.Mathlib.Nat.{not-suc-le-zero, le_of_suc-le-suc}
use native.Mathlib.Omega.{arith}
use lib.ListN.{length, get_or}
use Rattle.std.specs.Prelude.{if◌then◌else◌}
use Rattle.model.specs.Common.{first, next, eq_numbers}
use Rattle.model.specs.Records.{Name}
use Rattle.resolution.specs.TypeData.{TypeData}
use Rattle.resolution.specs.Types.{eq_type, find_type, field_type}
use Rattle.records.specs.Layout.{name_by}
use Rattle.type_table.specs.Layout.{row_at, rows_of, table_of, type_count, fields_of}
use Rattle.type_table.proofs.Rows.{length_rows, rows_get}

first_none : {A : Type 0} (test : A → Bool) (d : A) (l : List A) → ((k : ℕ) → k < length l → test (get_or l k d) ≡ false) → first test l ≡ None
unfolding first
first_none test d [] all = refl
first_none test d (x ∷ l) all =
    ap₂ (λ b r. if b then Some zero else next r) (all zero (suc-le-suc zero-le)) (first_none test d l (λ k below. all (suc k) (suc-le-suc below)))

first_at : {A : Type 0} (test : A → Bool) (d : A) (l : List A) (i : ℕ) → i < length l → test (get_or l i d) ≡ true
    → ((k : ℕ) → k < i → test (get_or l k d) ≡ false) → first test l ≡ Some i
unfolding first
first_at test d [] i below here all = absurd (not-suc-le-zero below)
first_at test d (x ∷ l) zero below here all = ap (λ b. if b then Some zero else next (first test l)) here
first_at test d (x ∷ l) (suc i) below here all =
    ap₂ (λ b r. if b then Some zero else next r) (all zero (suc-le-suc zero-le))
    (first_at test d l i (le_of_suc-le-suc below) here (λ k lower. all (suc k) (suc-le-suc lower)))

module _ (file w : List ℕ) (row : TypeData) where
  pub found_none : ((k : ℕ) → k < type_count w → eq_type row (row_at file w k) ≡ false) → find_type (table_of file w) row ≡ None
  unfolding find_type table_of
  found_none all =
      first_none (λ other. eq_type row other) TypeData.Error (rows_of file w (type_count w))
      (λ k below. ap (eq_type row) (rows_get file w (type_count w) k (within k below)) ∙ all k (within k below))
    where
      within : (k : ℕ) → k < length (rows_of file w (type_count w)) → k < type_count w
      within k below = omega (arith, length_rows file w (type_count w))

  pub found_at : (t : ℕ) → t < type_count w → eq_type row (row_at file w t) ≡ true → ((k : ℕ) → k < t → eq_type row (row_at file w k) ≡ false)
      → find_type (table_of file w) row ≡ Some t
  unfolding find_type table_of
  found_at t below here all =
      first_at (λ other. eq_type row other) TypeData.Error (rows_of file w (type_count w)) t (omega (arith, length_rows file w (type_count w)))
      (ap (eq_type row) (rows_get file w (type_count w) t below) ∙ here)
      (λ k lower. ap (eq_type row) (rows_get file w (type_count w) k (omega arith)) ∙ all k lower)

  -- what a search of the numbers gives, by a test that is that of the rows
  pub found : (r : Option ℕ) (same : ℕ → Bool) → ((k : ℕ) → k < type_count w → eq_type row (row_at file w k) ≡ same k)
      → MatchOption r ((k : ℕ) → 0 ≤ k → k < type_count w → same k ≡ false) (λ t. (0 ≤ t) × (t < type_count w) × (same t ≡ true) × ((k : ℕ) → 0 ≤ k → k < t → same k ≡ false))
      → r ≡ find_type (table_of file w) row
  found None same is none = sym (found_none (λ k below. is k below ∙ none k zero-le below))
  found (Some t) same is there =
      sym (found_at t there.1 (is t there.1 ∙ there.2) (λ k lower. is k (omega (arith, there.1)) ∙ there.3 k zero-le lower))

-- ------------------------------------------------------------------ fields by name

module _ (file : List ℕ) (name : Name) where
  -- the type beside the first such name
  field_is : (names items : List ℕ) → field_type (fields_of file names items) name ≡ option_map (λ (p : ℕ × ℕ). p.1) (find (λ (p : ℕ × ℕ). eq_numbers (name_by file p.0) name) (zip names items))
  unfolding fields_of field_type
  field_is [] items = refl
  field_is (n ∷ names) [] = refl
  field_is (n ∷ names) (t ∷ items) = go (eq_numbers (name_by file n) name) (field_is names items)
    where
      go : (b : Bool) → field_type (fields_of file names items) name ≡ option_map (λ (p : ℕ × ℕ). p.1) (find (λ (p : ℕ × ℕ). eq_numbers (name_by file p.0) name) (zip names items))
          → (if b then Some t else field_type (fields_of file names items) name)
          ≡ option_map (λ (p : ℕ × ℕ). p.1) (cond b (Some (n, t)) (find (λ (p : ℕ × ℕ). eq_numbers (name_by file p.0) name) (zip names items)))
      go true below = refl
      go false below = below

  pub field_found : (names items : List ℕ) (pair : Option (Bor ℕ × Bor ℕ)) (r : Option ℕ)
      → option_map (λ p. (p.0.now, p.1.now)) pair ≡ find (λ (p : ℕ × ℕ). eq_numbers (name_by file p.0) name) (zip names items)
      → MatchOption pair (r ≡ None) (λ p. r ≡ Some p.1.now) → r ≡ field_type (fields_of file names items) name
  field_found names items None r is given = given ∙ ap (option_map (λ (p : ℕ × ℕ). p.1)) is ∙ sym (field_is names items)
  field_found names items (Some p) r is given = given ∙ ap (option_map (λ (p : ℕ × ℕ). p.1)) is ∙ sym (field_is names items)
