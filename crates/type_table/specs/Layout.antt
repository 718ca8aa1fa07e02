-- How the words of the type buffer hold a table of types. Definitions only; assumes nothing.
--
--     0                 how many types
--     1                 how many items their lists hold
--     2 + 8 t           the row of type t: kind, module, definition, element (or return type), size (low word, high word),
--                       start and count of its list
--     2050 + i          the type of item i
--     4098 + i          the name of item i, for a field of a struct: a name word of the record words
--     6146 to 8191      unused
use Rattle.std.specs.Prelude.{ℕ, zero, suc, ◌+◌, ◌*◌, ◌≤◌, ◌<◌, ◌≡◌, Bool, true, false, List, [], ◌∷◌, ◌++◌, map, eqb, length, get_or, take, drop}
use Rattle.model.specs.Records.{NameWithType}
use Rattle.records.specs.Layout.{word, name_by}
use Rattle.resolution.specs.TypeData.{TypeData}
use Rattle.resolution.specs.Types.{Table, row_names, table_items}
use Rattle.resolution.specs.TableOk.{row_types}
use Rattle.type_table.specs.declared.Head.{Head}
use Rattle.type_table.specs.declared.TypeList.{TypeList}

-- ------------------------------------------------------------------ words

-- so many elements from a place on
abbrev pub part : List ℕ → ℕ → ℕ → List ℕ
part w from count = take count (drop from w)

abbrev pub type_count : List ℕ → ℕ
type_count w = word w 0

abbrev pub item_count : List ℕ → ℕ
item_count w = word w 1

unfoldable pub head_at : List ℕ → ℕ → Head
head_at w t =
    record {
      kind = word w (8 * t + 2);
      home = word w (8 * t + 3);
      definition = word w (8 * t + 4);
      element = word w (8 * t + 5);
      size = word w (8 * t + 6) + 4294967296 * word w (8 * t + 7);
    }

abbrev pub start_at : List ℕ → ℕ → ℕ
start_at w t = word w (8 * t + 8)

abbrev pub count_at : List ℕ → ℕ → ℕ
count_at w t = word w (8 * t + 9)

-- the list of item types from an item on
abbrev pub items_from : List ℕ → ℕ → ℕ → List ℕ
items_from w start count = part w (2050 + start) count

-- the types of a list
abbrev pub types_of : List ℕ → TypeList → List ℕ
types_of w list = items_from w list.first list.count

abbrev pub names_from : List ℕ → ℕ → ℕ → List ℕ
names_from w start count = part w (4098 + start) count

-- ------------------------------------------------------------------ rows

unfoldable pub fields_of : List ℕ → List ℕ → List ℕ → List NameWithType
fields_of file [] ts = []
fields_of file (n ∷ ns) [] = []
fields_of file (n ∷ ns) (t ∷ ts) = record { name = name_by file n; type = t } ∷ fields_of file ns ts

-- by the kind's number; `kind_number` of the definition
unfoldable pub data_by : List ℕ → ℕ → Head → List ℕ → List ℕ → TypeData
data_by file zero head names items = TypeData.Felt
data_by file (suc zero) head names items = TypeData.Bool
data_by file (suc (suc zero)) head names items = TypeData.U32
data_by file (suc (suc (suc zero))) head names items = TypeData.Unknown
data_by file (suc (suc (suc (suc zero)))) head names items = TypeData.Error
data_by file (suc (suc (suc (suc (suc zero))))) head names items = TypeData.Tuple items
data_by file (suc (suc (suc (suc (suc (suc zero)))))) head names items = TypeData.Pointer head.element
data_by file (suc (suc (suc (suc (suc (suc (suc zero))))))) head names items = TypeData.FixedArray head.element head.size
data_by file (suc (suc (suc (suc (suc (suc (suc (suc zero)))))))) head names items = TypeData.Struct head.home head.definition (fields_of file names items)
data_by file (suc (suc (suc (suc (suc (suc (suc (suc (suc zero))))))))) head names items = TypeData.Function head.home head.definition items head.element
data_by file (suc (suc (suc (suc (suc (suc (suc (suc (suc (suc k)))))))))) head names items = TypeData.Error

-- the type that a head with its lists means
unfoldable pub data_from : List ℕ → Head → List ℕ → List ℕ → TypeData
data_from file head names items = data_by file head.kind head names items

-- the name words of a row: a struct's alone
unfoldable pub names_by : Bool → List ℕ → ℕ → ℕ → List ℕ
names_by true w start count = names_from w start count
names_by false w start count = []

abbrev pub names_at : List ℕ → ℕ → List ℕ
names_at w t = names_by (eqb (word w (8 * t + 2)) 8) w (start_at w t) (count_at w t)

abbrev pub items_at : List ℕ → ℕ → List ℕ
items_at w t = items_from w (start_at w t) (count_at w t)

unfoldable pub row_at : List ℕ → List ℕ → ℕ → TypeData
row_at file w t = data_from file (head_at w t) (names_at w t) (items_at w t)

unfoldable pub rows_of : List ℕ → List ℕ → ℕ → Table
rows_of file w zero = []
rows_of file w (suc n) = rows_of file w n ++ (row_at file w n ∷ [])

-- the table that the words hold, whatever words they are
unfoldable pub table_of : List ℕ → List ℕ → Table
table_of file w = rows_of file w (type_count w)

-- ------------------------------------------------------------------ words as interning leaves them

abbrev pub bare : ℕ → Head
bare kind = record { kind = kind; home = 0; definition = 0; element = 0; size = 0 }

-- the head of a type: what its kind has no use for is zero
unfoldable pub head_of : TypeData → Head
head_of TypeData.Felt = bare 0
head_of TypeData.Bool = bare 1
head_of TypeData.U32 = bare 2
head_of TypeData.Unknown = bare 3
head_of TypeData.Error = bare 4
head_of (TypeData.Tuple ts) = bare 5
head_of (TypeData.Pointer t) = record { kind = 6; home = 0; definition = 0; element = t; size = 0 }
head_of (TypeData.FixedArray t size) = record { kind = 7; home = 0; definition = 0; element = t; size = size }
head_of (TypeData.Struct m d fields) = record { kind = 8; home = m; definition = d; element = 0; size = 0 }
head_of (TypeData.Function m d params t) = record { kind = 9; home = m; definition = d; element = t; size = 0 }

-- the list of a type
unfoldable pub items_of : TypeData → List ℕ
items_of TypeData.Felt = []
items_of TypeData.Bool = []
items_of TypeData.U32 = []
items_of TypeData.Unknown = []
items_of TypeData.Error = []
items_of (TypeData.Tuple ts) = ts
items_of (TypeData.Pointer t) = []
items_of (TypeData.FixedArray t size) = []
items_of (TypeData.Struct m d fields) = map (λ field. field.type) fields
items_of (TypeData.Function m d params t) = params

-- every number of the list is below n
abbrev pub AllBelow : ℕ → List ℕ → Type 0
AllBelow n l = (i : ℕ) → i < length l → get_or l i 0 < n

-- a head with its lists is the one that the type which it means has
pub record Canonical (file : List ℕ) (head : Head) (names items : List ℕ) : Type 0 where
  pub same_head : head ≡ head_of (data_from file head names items)
  pub same_items : items ≡ items_of (data_from file head names items)
  pub same_names : map (name_by file) names ≡ row_names (data_from file head names items)

pub record SoundRow (file w : List ℕ) (t : ℕ) : Type 0 where
  pub within : start_at w t + count_at w t ≤ item_count w
  pub canonical : Canonical file (head_at w t) (names_at w t) (items_at w t)
  -- "an element's number below its holder's"
  pub below : AllBelow t (row_types (row_at file w t))

-- what every function keeps
pub record Sound (file w : List ℕ) : Type 0 where
  pub long : 8192 ≤ length w
  pub first : 6 ≤ type_count w
  pub types : type_count w ≤ 256
  pub room : item_count w ≤ 2048
  pub held : item_count w ≡ table_items (table_of file w)
  pub rows : (t : ℕ) → t < type_count w → SoundRow file w t
