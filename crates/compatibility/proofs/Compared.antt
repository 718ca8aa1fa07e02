-- What the code's tests say of two types: by their numbers, by their rows, and of two lists from a place on. Assumes nothing.
use Prim.Native.Nat.{ℕ, zero, ◌<◌, zero-le, suc-le-suc}
use mathlib.Core.Path.{◌≡◌, refl, sym, ap, ap₂, subst, ◌∙◌}
use mathlib.Core.Logic.{∥∥₁_elim}
use mathlib.Core.Bool.{Bool, Bool-set, true, false, true≢false, not, ◌&&◌, ◌||◌}
use mathlib.Core.List.{List, [], ◌∷◌}
use borrow.Author.Tests.{eq-eqb, ne_eqb, not-true, not-false, ltb-true, ltb-false}
use lib.Dec.{eqb, ltb}
use lib.ListN.{length}
use Rattle.resolution.specs.TypeData.{TypeData}
use Rattle.resolution.specs.Types.{kind_number, data_of, is_error_or_unknown}
use Rattle.resolution.specs.Compatible.{all_pairs, compatible_rows, compatible_within, are_types_compatible}
use Rattle.resolution.specs.TableOk.{row_types, TableOk}
use Rattle.resolution.proofs.Steps.{compatible_step}
use Rattle.type_table.specs.declared.TypeList.{TypeList}
use Rattle.type_table.specs.declared.TypeData.{TypeData as Row}
use Rattle.type_table.specs.Layout.{type_count, table_of, types_of, AllBelow, Sound}
use Rattle.type_table.specs.Meaning.{data_is}
use Rattle.type_table.specs.Promises.{DataRead}
use Rattle.type_table.proofs.Rows.{data_past}
use Rattle.type_table.proofs.Laws.{lower}
use Rattle.type_table.proofs.Pairs.{pairs_length}
use Rattle.compatibility.specs.Pairs.{rows_compatible, lists_compatible}
use Rattle.compatibility.proofs.ByKind.{Apart, apart_rows, left_open, right_open, tuples, arrays, pointers}

-- ------------------------------------------------------------------ numbers

pub numbers_equal : (file w : List ℕ) (a e : ℕ) → a ≡ e → true ≡ are_types_compatible (table_of file w) a e
unfolding are_types_compatible compatible_within
numbers_equal file w a e same =
    sym
    (ap (λ b. b || compatible_rows (λ x y. compatible_within a (table_of file w) x y) (data_of (table_of file w) a) (data_of (table_of file w) e)) (eq-eqb a e same))

-- other numbers: as the rows say
pub numbers_other : (file w : List ℕ) → ∥ TableOk (table_of file w) ∥₁ → (a e : ℕ) → (a ≡ e → ⊥) → (r : Bool) → r ≡ rows_compatible (table_of file w) a e
    → r ≡ are_types_compatible (table_of file w) a e
unfolding rows_compatible
numbers_other file w held a e other r rows =
    ∥∥₁_elim held (Bool-set _ _)
    (λ ok.
    rows
    ∙ sym
    (compatible_step ok a e
    ∙ ap (λ b. b || compatible_rows (are_types_compatible (table_of file w)) (data_of (table_of file w) a) (data_of (table_of file w) e)) (ne_eqb a e other)))

-- what the code returns where it has tested the rows
pub rows_tested : (file w : List ℕ) → ∥ TableOk (table_of file w) ∥₁ → (a e : ℕ) → (a ≡ e → ⊥) → (r b : Bool) → r ≡ rows_compatible (table_of file w) a e → r ≡ b
    → b ≡ are_types_compatible (table_of file w) a e
rows_tested file w ok a e other r b rows test = numbers_other file w ok a e other b (sym test ∙ rows)

-- ------------------------------------------------------------------ one row

error_open : is_error_or_unknown TypeData.Error ≡ true
unfolding is_error_or_unknown kind_number
error_open = refl

module _ {w : List ℕ} {t : ℕ} {row : Row} (read : DataRead w t row) (file : List ℕ) where
  -- a number past the table is that of error
  pub below_of : is_error_or_unknown (data_is file w row) ≡ false → t < type_count w
  below_of shut = go (ltb t (type_count w)) refl
    where
      go : (b : Bool) → ltb t (type_count w) ≡ b → t < type_count w
      go true h = ltb-true t (type_count w) h
      go false h = let lost : is_error_or_unknown (data_is file w row) ≡ true = ap is_error_or_unknown (read.same file ∙ data_past file w t (ltb-false t (type_count w) h)) ∙ error_open in absurd (true≢false (sym lost ∙ shut))

  module _ (sound : Sound file w) where
    -- what stands inside has a lower number
    inner_below : (inner : TypeData) → data_is file w row ≡ inner → AllBelow t (row_types inner)
    inner_below inner is = subst (λ (r : TypeData). AllBelow t (row_types r)) (sym (read.same file) ∙ is) (lower file w sound t)

    pub pointer_below : {u : ℕ} → row ≡ Row.Pointer u → u < t
    unfolding row_types
    pointer_below {u} e = inner_below (TypeData.Pointer u) (ap (data_is file w) e) zero (suc-le-suc zero-le)

    pub array_below : {u size : ℕ} → row ≡ Row.FixedArray u size → u < t
    unfolding row_types
    array_below {u} {size} e = inner_below (TypeData.FixedArray u size) (ap (data_is file w) e) zero (suc-le-suc zero-le)

    pub tuple_below : {list : TypeList} → row ≡ Row.Tuple list → AllBelow t (types_of w list)
    unfolding row_types
    tuple_below {list} e = inner_below (TypeData.Tuple (types_of w list)) (ap (data_is file w) e)

  -- a kind that has something inside is that of a type of the table
  pub pointer_in : {u : ℕ} → row ≡ Row.Pointer u → t < type_count w
  unfolding is_error_or_unknown kind_number
  pointer_in e = below_of (ap (λ r. is_error_or_unknown (data_is file w r)) e)

  pub array_in : {u size : ℕ} → row ≡ Row.FixedArray u size → t < type_count w
  unfolding is_error_or_unknown kind_number
  array_in e = below_of (ap (λ r. is_error_or_unknown (data_is file w r)) e)

  pub tuple_in : {list : TypeList} → row ≡ Row.Tuple list → t < type_count w
  unfolding is_error_or_unknown kind_number
  tuple_in e = below_of (ap (λ r. is_error_or_unknown (data_is file w r)) e)

-- ------------------------------------------------------------------ two rows

module _ {w : List ℕ} {a e : ℕ} {x y : Row} (left : DataRead w a x) (right : DataRead w e y) (file : List ℕ) where
  -- the rows as they are
  rows_as : (p q : Row) → x ≡ p → y ≡ q → compatible_rows (are_types_compatible (table_of file w)) (data_is file w p) (data_is file w q) ≡ rows_compatible (table_of file w) a e
  unfolding rows_compatible
  rows_as p q ep eq =
      ap₂ (λ u v. compatible_rows (are_types_compatible (table_of file w)) (data_is file w u) (data_is file w v)) (sym ep) (sym eq)
      ∙ ap₂ (λ u v. compatible_rows (are_types_compatible (table_of file w)) u v) (left.same file) (right.same file)

  pub rows_pointer : {u v : ℕ} (r : Bool) → x ≡ Row.Pointer u → y ≡ Row.Pointer v → r ≡ are_types_compatible (table_of file w) u v → r ≡ rows_compatible (table_of file w) a e
  rows_pointer {u} {v} r ex ey er = er ∙ sym (pointers (are_types_compatible (table_of file w)) u v) ∙ rows_as _ _ ex ey

  module _ {u m v n : ℕ} (ex : x ≡ Row.FixedArray u m) (ey : y ≡ Row.FixedArray v n) where
    array_rows : (eqb m n && are_types_compatible (table_of file w) u v) ≡ rows_compatible (table_of file w) a e
    array_rows = sym (arrays (are_types_compatible (table_of file w)) u m v n) ∙ rows_as _ _ ex ey

    pub rows_sizes : (m ≡ n → ⊥) → false ≡ rows_compatible (table_of file w) a e
    rows_sizes other = sym (ap (λ b. b && are_types_compatible (table_of file w) u v) (ne_eqb _ _ other)) ∙ array_rows

    pub rows_array : (r : Bool) → m ≡ n → r ≡ are_types_compatible (table_of file w) u v → r ≡ rows_compatible (table_of file w) a e
    rows_array r size er = er ∙ sym (ap (λ b. b && are_types_compatible (table_of file w) u v) (eq-eqb _ _ size)) ∙ array_rows

  pub rows_tuple : {xs ys : TypeList} (r : Bool) (l m : List ℕ) → x ≡ Row.Tuple xs → y ≡ Row.Tuple ys → l ≡ types_of w xs → m ≡ types_of w ys
      → r ≡ lists_compatible (table_of file w) l m → r ≡ rows_compatible (table_of file w) a e
  unfolding lists_compatible
  rows_tuple {xs} {ys} r l m ex ey el em er =
      er ∙ ap₂ (λ u v. all_pairs (are_types_compatible (table_of file w)) u v) el em
      ∙ sym (tuples (are_types_compatible (table_of file w)) (types_of w xs) (types_of w ys))
      ∙ rows_as _ _ ex ey

  -- two kinds, or one that holds nothing to compare
  pub rows_apart : Apart x y → (is_error_or_unknown (data_is file w x) || is_error_or_unknown (data_is file w y)) ≡ rows_compatible (table_of file w) a e
  rows_apart apart = sym (apart_rows file w (are_types_compatible (table_of file w)) x y apart) ∙ rows_as x y refl refl

  -- one of them is error or unknown
  pub rows_left : is_error_or_unknown (data_is file w x) ≡ true → true ≡ rows_compatible (table_of file w) a e
  rows_left o = left_open _ _ _ o ∙ rows_as x y refl refl

  pub rows_right : is_error_or_unknown (data_is file w y) ≡ true → true ≡ rows_compatible (table_of file w) a e
  rows_right o = right_open _ _ _ o ∙ rows_as x y refl refl

  -- neither is, and they are apart
  pub rows_closed : is_error_or_unknown (data_is file w x) ≡ false → is_error_or_unknown (data_is file w y) ≡ false → Apart x y → false ≡ rows_compatible (table_of file w) a e
  rows_closed cx cy apart = sym (ap₂ (λ p q. p || q) cx cy) ∙ rows_apart apart

-- ------------------------------------------------------------------ lists

-- by their first elements
module _ (file w : List ℕ) (x y : ℕ) (l m : List ℕ) (r : Bool) (here : r ≡ are_types_compatible (table_of file w) x y) where
  pub lists_step : not r ≡ false → lists_compatible (table_of file w) (x ∷ l) (y ∷ m) ≡ lists_compatible (table_of file w) l m
  unfolding lists_compatible all_pairs
  lists_step e = ap (λ b. b && all_pairs (are_types_compatible (table_of file w)) l m) (sym here ∙ not-false r e)

  pub lists_stop : not r ≡ true → lists_compatible (table_of file w) (x ∷ l) (y ∷ m) ≡ false
  unfolding lists_compatible all_pairs
  lists_stop e = ap (λ b. b && all_pairs (are_types_compatible (table_of file w)) l m) (sym here ∙ not-true r e)

pub lists_end : (file w : List ℕ) → lists_compatible (table_of file w) [] [] ≡ true
unfolding lists_compatible all_pairs
lists_end file w = refl

pub lists_length : (file w : List ℕ) (l m : List ℕ) → (length l ≡ length m → ⊥) → false ≡ lists_compatible (table_of file w) l m
unfolding lists_compatible
lists_length file w l m other = sym (pairs_length (are_types_compatible (table_of file w)) l m other)
