-- The types of one question (`types.rs`): a table of rows, in which equal types have one number. Assumes nothing.
use Rattle.std.specs.Prelude.{ℕ, ◌+◌, Bool, true, false, ◌&&◌, ◌||◌, List, [], ◌∷◌, map, eqb, leb, ltb, length, get_or}
use Rattle.std.specs.Prelude.{Option, None, Some}
use Rattle.std.specs.Prelude.{if◌then◌else◌}
use Rattle.model.specs.Common.{first, eq_numbers}
use Rattle.model.specs.Records.{Name, NameWithType}
use Rattle.resolution.specs.TypeData.{TypeData}

-- ------------------------------------------------------------------ equal types

-- the kind of a row as a number
unfoldable pub kind_number : TypeData → ℕ
kind_number TypeData.Felt = 0
kind_number TypeData.Bool = 1
kind_number TypeData.U32 = 2
kind_number TypeData.Unknown = 3
kind_number TypeData.Error = 4
kind_number (TypeData.Tuple ts) = 5
kind_number (TypeData.Pointer t) = 6
kind_number (TypeData.FixedArray t size) = 7
kind_number (TypeData.Struct m d fields) = 8
kind_number (TypeData.Function m d params t) = 9

-- the numbers that a row holds
unfoldable pub row_numbers : TypeData → List ℕ
row_numbers TypeData.Felt = []
row_numbers TypeData.Bool = []
row_numbers TypeData.U32 = []
row_numbers TypeData.Unknown = []
row_numbers TypeData.Error = []
row_numbers (TypeData.Tuple ts) = ts
row_numbers (TypeData.Pointer t) = t ∷ []
row_numbers (TypeData.FixedArray t size) = t ∷ size ∷ []
row_numbers (TypeData.Struct m d fields) = m ∷ d ∷ map (λ field. field.type) fields
row_numbers (TypeData.Function m d params t) = m ∷ d ∷ t ∷ params

-- the names that a row holds
unfoldable pub row_names : TypeData → List Name
row_names TypeData.Felt = []
row_names TypeData.Bool = []
row_names TypeData.U32 = []
row_names TypeData.Unknown = []
row_names TypeData.Error = []
row_names (TypeData.Tuple ts) = []
row_names (TypeData.Pointer t) = []
row_names (TypeData.FixedArray t size) = []
row_names (TypeData.Struct m d fields) = map (λ field. field.name) fields
row_names (TypeData.Function m d params t) = []

unfoldable pub eq_names : List Name → List Name → Bool
eq_names [] [] = true
eq_names [] (y ∷ ys) = false
eq_names (x ∷ xs) [] = false
eq_names (x ∷ xs) (y ∷ ys) = eq_numbers x y && eq_names xs ys

-- equal types: one kind, the same numbers, the same names
unfoldable pub eq_type : TypeData → TypeData → Bool
eq_type a b =
    (eqb (kind_number a) (kind_number b) && eq_numbers (row_numbers a) (row_numbers b)) && eq_names (row_names a) (row_names b)

-- ------------------------------------------------------------------ what a row is

-- `TypeData::U32 | TypeData::Felt`
unfoldable pub is_u32_or_felt : TypeData → Bool
is_u32_or_felt row = eqb (kind_number row) (kind_number TypeData.U32) || eqb (kind_number row) (kind_number TypeData.Felt)

unfoldable pub is_error_or_unknown : TypeData → Bool
is_error_or_unknown row = eqb (kind_number row) (kind_number TypeData.Error) || eqb (kind_number row) (kind_number TypeData.Unknown)

-- the elements of a tuple
unfoldable pub as_tuple : TypeData → Option (List ℕ)
as_tuple TypeData.Felt = None
as_tuple TypeData.Bool = None
as_tuple TypeData.U32 = None
as_tuple TypeData.Unknown = None
as_tuple TypeData.Error = None
as_tuple (TypeData.Tuple ts) = Some ts
as_tuple (TypeData.Pointer t) = None
as_tuple (TypeData.FixedArray t size) = None
as_tuple (TypeData.Struct m d fields) = None
as_tuple (TypeData.Function m d params t) = None

-- the element of a pointer
unfoldable pub as_pointer : TypeData → Option ℕ
as_pointer TypeData.Felt = None
as_pointer TypeData.Bool = None
as_pointer TypeData.U32 = None
as_pointer TypeData.Unknown = None
as_pointer TypeData.Error = None
as_pointer (TypeData.Tuple ts) = None
as_pointer (TypeData.Pointer t) = Some t
as_pointer (TypeData.FixedArray t size) = None
as_pointer (TypeData.Struct m d fields) = None
as_pointer (TypeData.Function m d params t) = None

pub record Array : Type 0 where
  pub element : ℕ
  pub size : ℕ

-- the element and the size of an array
unfoldable pub as_array : TypeData → Option Array
as_array TypeData.Felt = None
as_array TypeData.Bool = None
as_array TypeData.U32 = None
as_array TypeData.Unknown = None
as_array TypeData.Error = None
as_array (TypeData.Tuple ts) = None
as_array (TypeData.Pointer t) = None
as_array (TypeData.FixedArray t size) = Some (record { element = t; size = size })
as_array (TypeData.Struct m d fields) = None
as_array (TypeData.Function m d params t) = None

-- the fields of a struct
unfoldable pub as_struct : TypeData → Option (List NameWithType)
as_struct TypeData.Felt = None
as_struct TypeData.Bool = None
as_struct TypeData.U32 = None
as_struct TypeData.Unknown = None
as_struct TypeData.Error = None
as_struct (TypeData.Tuple ts) = None
as_struct (TypeData.Pointer t) = None
as_struct (TypeData.FixedArray t size) = None
as_struct (TypeData.Struct m d fields) = Some fields
as_struct (TypeData.Function m d params t) = None

pub record Signature : Type 0 where
  pub params : List ℕ
  pub return_type : ℕ

-- the signature of a function
unfoldable pub as_function : TypeData → Option Signature
as_function TypeData.Felt = None
as_function TypeData.Bool = None
as_function TypeData.U32 = None
as_function TypeData.Unknown = None
as_function TypeData.Error = None
as_function (TypeData.Tuple ts) = None
as_function (TypeData.Pointer t) = None
as_function (TypeData.FixedArray t size) = None
as_function (TypeData.Struct m d fields) = None
as_function (TypeData.Function m d params t) = Some (record { params = params; return_type = t })

-- the type of the first field of the name: `field_type` of a struct type, where the number is a row's, and `fields_ast.iter().find(..)` of a
-- struct definition, where it is a T's
unfoldable pub field_type : List NameWithType → Name → Option ℕ
field_type [] name = None
field_type (field ∷ fields) name = if eq_numbers field.name name then Some field.type else field_type fields name

-- ------------------------------------------------------------------ the table

abbrev pub Table : Type 0
Table = List TypeData

-- the numbers of the types that every question starts with
abbrev pub felt : ℕ
felt = 0

abbrev pub bool : ℕ
bool = 1

abbrev pub u32 : ℕ
u32 = 2

abbrev pub unknown : ℕ
unknown = 3

abbrev pub error : ℕ
error = 4

-- `()`
abbrev pub unit : ℕ
unit = 5

-- "Each question starts with a type buffer holding felt, bool, u32, unknown, error and `()`"
unfoldable pub first_table : Table
first_table =
    TypeData.Felt ∷ TypeData.Bool ∷ TypeData.U32 ∷ TypeData.Unknown ∷ TypeData.Error ∷ TypeData.Tuple [] ∷ []

-- `type_id.data(db)`
unfoldable pub data_of : Table → ℕ → TypeData
data_of table t = get_or table t TypeData.Error

-- the "items held for tuples, fields and parameters (once for each tuple, struct and function type; ..)"
unfoldable pub row_items : TypeData → ℕ
row_items TypeData.Felt = 0
row_items TypeData.Bool = 0
row_items TypeData.U32 = 0
row_items TypeData.Unknown = 0
row_items TypeData.Error = 0
row_items (TypeData.Tuple ts) = length ts
row_items (TypeData.Pointer t) = 0
row_items (TypeData.FixedArray t size) = 0
row_items (TypeData.Struct m d fields) = length fields
row_items (TypeData.Function m d params t) = length params

unfoldable pub table_items : Table → ℕ
table_items [] = 0
table_items (row ∷ rows) = row_items row + table_items rows

abbrev pub max_types : ℕ
max_types = 256

abbrev pub max_type_items : ℕ
max_type_items = 2048

-- there is room for one more row
unfoldable pub has_room : Table → TypeData → Bool
has_room table row = ltb (length table) max_types && leb (table_items table + row_items row) max_type_items

-- the number of a row that the table has
unfoldable pub find_type : Table → TypeData → Option ℕ
find_type table row = first (eq_type row) table
