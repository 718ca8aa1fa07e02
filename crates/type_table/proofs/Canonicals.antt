-- The head and the lists of each kind of type are canonical. Assumes nothing.
use Prim.Native.Nat.{ℕ, zero, suc, ◌+◌, ◌≤◌, ◌<◌, zero-le, suc-le-suc}
use mathlib.Core.Path.{◌≡◌, refl, ap, ap₂, ◌∙◌}
use mathlib.Core.List.{List, [], ◌∷◌, map}
use native.Mathlib.Nat.{not-suc-le-zero, le_of_suc-le-suc}
use native.Mathlib.Omega.{arith}
use lib.ListN.{length, take}
use Rattle.resolution.specs.Types.{row_names}
use Rattle.resolution.specs.TypeData.{TypeData}
use Rattle.resolution.specs.Views.{typed_fields}
use Rattle.records.specs.Layout.{word, name_by, each, item_name, name_with_type_row, names_with_types_at}
use Rattle.type_table.specs.Layout.{fields_of, data_by, data_from, bare, head_of, items_of, AllBelow, Canonical}

pub pointer_canonical : (file : List ℕ) (t : ℕ) → Canonical file (record { kind = 6; home = 0; definition = 0; element = t; size = 0 }) [] []
unfolding data_from data_by head_of items_of row_names
pointer_canonical file t = record { same_head = refl; same_items = refl; same_names = refl }

pub array_canonical : (file : List ℕ) (t size : ℕ) → Canonical file (record { kind = 7; home = 0; definition = 0; element = t; size = size }) [] []
unfolding data_from data_by head_of items_of row_names
array_canonical file t size = record { same_head = refl; same_items = refl; same_names = refl }

pub tuple_canonical : (file items : List ℕ) → Canonical file (bare 5) [] items
unfolding data_from data_by head_of items_of row_names
tuple_canonical file items = record { same_head = refl; same_items = refl; same_names = refl }

pub function_canonical : (file : List ℕ) (m d t : ℕ) (items : List ℕ) → Canonical file (record { kind = 9; home = m; definition = d; element = t; size = 0 }) [] items
unfolding data_from data_by head_of items_of row_names
function_canonical file m d t items = record { same_head = refl; same_items = refl; same_names = refl }

field_types : (file names items : List ℕ) → length names ≡ length items → items ≡ map (λ field. field.type) (fields_of file names items)
unfolding fields_of
field_types file [] [] e = refl
field_types file [] (t ∷ items) e = absurd (omega arith)
field_types file (n ∷ names) [] e = absurd (omega arith)
field_types file (n ∷ names) (t ∷ items) e = ap (λ l. t ∷ l) (field_types file names items (omega arith))

field_names : (file names items : List ℕ) → length names ≡ length items → map (name_by file) names ≡ map (λ field. field.name) (fields_of file names items)
unfolding fields_of
field_names file [] [] e = refl
field_names file [] (t ∷ items) e = absurd (omega arith)
field_names file (n ∷ names) [] e = absurd (omega arith)
field_names file (n ∷ names) (t ∷ items) e = ap (λ l. name_by file n ∷ l) (field_names file names items (omega arith))

pub struct_canonical : (file : List ℕ) (m d : ℕ) (names items : List ℕ) → length names ≡ length items
    → Canonical file (record { kind = 8; home = m; definition = d; element = 0; size = 0 }) names items
unfolding data_from data_by head_of items_of row_names
struct_canonical file m d names items e = record { same_head = refl; same_items = field_types file names items e; same_names = field_names file names items e }

pub struct_below : (n : ℕ) (file names items : List ℕ) → length names ≡ length items → AllBelow n items → AllBelow n (map (λ field. field.type) (fields_of file names items))
struct_below n file names items e all = rw (← field_types file names items e) all

-- one more number that is below
pub below_cons : (n t : ℕ) (l : List ℕ) → t < n → AllBelow n l → AllBelow n (t ∷ l)
below_cons n t l h all zero past = h
below_cons n t l h all (suc i) past = all i (le_of_suc-le-suc past)

pub below_none : (n : ℕ) → AllBelow n []
below_none n i past = absurd (not-suc-le-zero past)

-- ------------------------------------------------------------------ names that were copied from the record words

copied_names : (words : List ℕ) (first count : ℕ) (names : List ℕ) → count ≤ length names
    → ((j : ℕ) → j < count → word names j ≡ item_name words (first + j)) → take count names ≡ each (item_name words) first count
unfolding each
copied_names words first zero names fits same = refl
copied_names words first (suc n) [] fits same = absurd (not-suc-le-zero fits)
copied_names words first (suc n) (x ∷ names) fits same =
    ap₂ (λ y l. y ∷ l) (same zero (suc-le-suc zero-le) ∙ ap (item_name words) here)
    (copied_names words (suc first) n names (le_of_suc-le-suc fits) (λ j below. same (suc j) (suc-le-suc below) ∙ ap (item_name words) (moved j)))
  where
    here : first + 0 ≡ first
    here = omega arith

    moved : (j : ℕ) → first + suc j ≡ suc first + j
    moved j = omega arith

fields_named : (file words : List ℕ) (first n : ℕ) (ts : List ℕ)
    → fields_of file (each (item_name words) first n) ts ≡ typed_fields (each (name_with_type_row file words) first n) ts
unfolding fields_of typed_fields each
fields_named file words first zero ts = refl
fields_named file words first (suc n) [] = refl
fields_named file words first (suc n) (t ∷ ts) = ap (λ l. record { name = name_by file (item_name words first); type = t } ∷ l) (fields_named file words (suc first) n ts)

-- the row of a struct whose names were copied
pub struct_row : (file words : List ℕ) (first count m d : ℕ) (names items : List ℕ) → count ≤ length names
    → ((j : ℕ) → j < count → word names j ≡ item_name words (first + j))
    → data_from file (record { kind = 8; home = m; definition = d; element = 0; size = 0 }) (take count names) items
    ≡ TypeData.Struct m d (typed_fields (names_with_types_at file words first count) items)
unfolding data_from data_by names_with_types_at
struct_row file words first count m d names items fits same =
    ap (TypeData.Struct m d) (ap (λ l. fields_of file l items) (copied_names words first count names fits same) ∙ fields_named file words first count items)
