-- The rows of a table by their numbers. Assumes nothing.
use Prim.Native.Nat.{ℕ, zero, suc, ◌+◌, ◌≤◌, ◌<◌}
use mathlib.Core.Path.{◌≡◌, refl, sym, ap, ◌∙◌}
use mathlib.Core.Logic.{⊎_elim}
use mathlib.Core.List.{List, [], ◌∷◌, ◌++◌}
use native.Mathlib.Nat.{not-suc-le-zero, eq-or-lt_of_le, le_of_suc-le-suc}
use native.Mathlib.Numerals.{add-one}
use native.Mathlib.Omega.{arith}
use borrow.Author.Tests.{eq-eqb}
use lib.ListN.{length, get_or, length-append, get_or-append, get_or-eq_default, length-map}
use lib.Seq.{get_or_at}
use Rattle.resolution.specs.TypeData.{TypeData}
use Rattle.resolution.specs.Types.{Table, data_of, row_items, table_items}
use Rattle.type_table.specs.declared.Head.{Head}
use Rattle.type_table.specs.Layout.{head_at, start_at, count_at, names_at, items_at, names_by, names_from, data_by, data_from, row_at, rows_of, table_of, type_count, items_of}

pub length_rows : (file w : List ℕ) (n : ℕ) → length (rows_of file w n) ≡ n
unfolding rows_of
length_rows file w zero = refl
length_rows file w (suc n) =
    length-append (rows_of file w n) (row_at file w n ∷ []) ∙ ap (λ k. k + 1) (length_rows file w n) ∙ add-one n

pub length_table : (file w : List ℕ) → length (table_of file w) ≡ type_count w
unfolding table_of
length_table file w = length_rows file w (type_count w)

pub rows_get : (file w : List ℕ) (n t : ℕ) → t < n → get_or (rows_of file w n) t TypeData.Error ≡ row_at file w t
unfolding rows_of
rows_get file w zero t below = absurd (not-suc-le-zero below)
rows_get file w (suc n) t below =
    ⊎_elim
    (λ same. get_or_at (rows_of file w n) (row_at file w n) [] TypeData.Error t (length_rows file w n ∙ sym same) ∙ ap (row_at file w) (sym same))
    (λ lower. get_or-append (rows_of file w n) (row_at file w n ∷ []) TypeData.Error t (omega (arith, length_rows file w n)) ∙ rows_get file w n t lower)
    (eq-or-lt_of_le (le_of_suc-le-suc below))

-- a type by its number
pub data_below : (file w : List ℕ) (t : ℕ) → t < type_count w → data_of (table_of file w) t ≡ row_at file w t
unfolding data_of table_of
data_below file w t below = rows_get file w (type_count w) t below

pub data_past : (file w : List ℕ) (t : ℕ) → type_count w ≤ t → data_of (table_of file w) t ≡ TypeData.Error
unfolding data_of table_of
data_past file w t past =
    get_or-eq_default (rows_of file w (type_count w)) TypeData.Error (omega (arith, length_rows file w (type_count w)))

-- a row by its kind
pub row_by : (file w : List ℕ) (t k : ℕ) (head : Head) → head ≡ head_at w t → head.kind ≡ k
    → row_at file w t ≡ data_by file k head (names_at w t) (items_at w t)
unfolding row_at data_from
row_by file w t k head same kind =
    ap (λ h. data_by file h.kind h (names_at w t) (items_at w t)) (sym same)
    ∙ ap (λ n. data_by file n head (names_at w t) (items_at w t)) kind

pub data_kind : (file w : List ℕ) (t k : ℕ) (head : Head) → t < type_count w → head ≡ head_at w t → head.kind ≡ k
    → data_of (table_of file w) t ≡ data_by file k head (names_at w t) (items_at w t)
data_kind file w t k head below same kind = data_below file w t below ∙ row_by file w t k head same kind

-- the names of a struct's row
pub names_struct : (w : List ℕ) (t : ℕ) (head : Head) → head ≡ head_at w t → head.kind ≡ 8 → names_at w t ≡ names_from w (start_at w t) (count_at w t)
unfolding names_by head_at
names_struct w t head same kind = ap (λ b. names_by b w (start_at w t) (count_at w t)) (eq-eqb _ _ (sym (ap (λ h. h.kind) same) ∙ kind))

-- any other kind is error
pub no_kind : (file : List ℕ) (k : ℕ) (head : Head) (names items : List ℕ)
    → (k ≡ 0 → ⊥) → (k ≡ 1 → ⊥) → (k ≡ 2 → ⊥) → (k ≡ 3 → ⊥) → (k ≡ 5 → ⊥) → (k ≡ 6 → ⊥) → (k ≡ 7 → ⊥) → (k ≡ 8 → ⊥) → (k ≡ 9 → ⊥)
    → data_by file k head names items ≡ TypeData.Error
unfolding data_by
no_kind file zero head names items n0 n1 n2 n3 n5 n6 n7 n8 n9 = absurd (n0 refl)
no_kind file (suc zero) head names items n0 n1 n2 n3 n5 n6 n7 n8 n9 = absurd (n1 refl)
no_kind file (suc (suc zero)) head names items n0 n1 n2 n3 n5 n6 n7 n8 n9 = absurd (n2 refl)
no_kind file (suc (suc (suc zero))) head names items n0 n1 n2 n3 n5 n6 n7 n8 n9 = absurd (n3 refl)
no_kind file (suc (suc (suc (suc zero)))) head names items n0 n1 n2 n3 n5 n6 n7 n8 n9 = refl
no_kind file (suc (suc (suc (suc (suc zero))))) head names items n0 n1 n2 n3 n5 n6 n7 n8 n9 = absurd (n5 refl)
no_kind file (suc (suc (suc (suc (suc (suc zero)))))) head names items n0 n1 n2 n3 n5 n6 n7 n8 n9 = absurd (n6 refl)
no_kind file (suc (suc (suc (suc (suc (suc (suc zero))))))) head names items n0 n1 n2 n3 n5 n6 n7 n8 n9 = absurd (n7 refl)
no_kind file (suc (suc (suc (suc (suc (suc (suc (suc zero)))))))) head names items n0 n1 n2 n3 n5 n6 n7 n8 n9 = absurd (n8 refl)
no_kind file (suc (suc (suc (suc (suc (suc (suc (suc (suc zero))))))))) head names items n0 n1 n2 n3 n5 n6 n7 n8 n9 = absurd (n9 refl)
no_kind file (suc (suc (suc (suc (suc (suc (suc (suc (suc (suc k)))))))))) head names items n0 n1 n2 n3 n5 n6 n7 n8 n9 = refl

-- ------------------------------------------------------------------ items held

pub row_items_are : (row : TypeData) → row_items row ≡ length (items_of row)
unfolding row_items items_of
row_items_are TypeData.Felt = refl
row_items_are TypeData.Bool = refl
row_items_are TypeData.U32 = refl
row_items_are TypeData.Unknown = refl
row_items_are TypeData.Error = refl
row_items_are (TypeData.Tuple ts) = refl
row_items_are (TypeData.Pointer t) = refl
row_items_are (TypeData.FixedArray t size) = refl
row_items_are (TypeData.Struct m d fields) = sym (length-map fields (λ field. field.type))
row_items_are (TypeData.Function m d params t) = refl

pub items_appended : (table : Table) (row : TypeData) → table_items (table ++ (row ∷ [])) ≡ table_items table + row_items row
unfolding table_items
items_appended [] row = omega arith
items_appended (r ∷ table) row = ap (λ n. row_items r + n) (items_appended table row) ∙ regroup (row_items r) (table_items table) (row_items row)
  where
    regroup : (a b c : ℕ) → a + (b + c) ≡ a + b + c
    regroup a b c = omega arith
