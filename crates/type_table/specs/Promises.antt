-- The promises of the functions over the type buffer. Definitions only; assumes nothing.
use Rattle.std.specs.Prelude.{ℕ, ◌+◌, ◌*◌, ◌≤◌, ◌<◌, min, ◌≡◌, Bool, ◌&&◌, List, ◌++◌, map, eqb, length, drop, replicate, set}
use Rattle.std.specs.Prelude.{Option, Some, Result, Ok, Err}
use Rattle.model.specs.Common.{eq_numbers}
use Rattle.records.specs.Layout.{word, name_by, item_name}
use Rattle.resolution.specs.TypeData.{TypeData}
use Rattle.resolution.specs.Types.{Table, eq_names, first_table, data_of, as_tuple, as_function}
use Rattle.resolution.specs.Views.{element_contexts}
use Rattle.resolution.specs.Run.{Outcome, answered, refused, enter_type}
use Rattle.refusals.specs.declared.Refusal.{Refusal}
use Rattle.refusals.specs.Numbers.{refusal_number}
use Rattle.type_table.specs.declared.Head.{Head}
use Rattle.type_table.specs.declared.TypeList.{TypeList}
use Rattle.type_table.specs.declared.Signature.{Signature}
use Rattle.type_table.specs.declared.TypeData.{TypeData as Row}
use Rattle.type_table.specs.Layout.{types_of, items_from, names_from, head_at, names_at, items_at, type_count, item_count, table_of, Sound}
use Rattle.type_table.specs.Meaning.{data_is, list_of, found_types_of, found_signature_of}

-- a type with the table that the words hold, or a refusal
abbrev pub outcome_of : List ℕ → Result ℕ Refusal → List ℕ → Outcome ℕ
outcome_of file (Ok t) w = answered t (table_of file w)
outcome_of file (Err refusal) w = refused (refusal_number refusal)

-- src now stands from a place on; all other words are as they were
pub record Copied (at : ℕ) (src w w' : List ℕ) : Type 0 where
  pub same_length : length w' ≡ length w
  pub inside : (j : ℕ) → j < length src → word w' (at + j) ≡ word src j
  pub before : (j : ℕ) → j < at → word w' j ≡ word w j
  pub behind : (j : ℕ) → at + length src ≤ j → word w' j ≡ word w j

-- the name words of item rows of the record words now stand at the start
pub record NamesCopied (words : List ℕ) (first count : ℕ) (names names' : List ℕ) : Type 0 where
  pub same_length : length names' ≡ length names
  pub inside : (j : ℕ) → j < count → word names' j ≡ item_name words (first + j)

-- what stands in a later table of the same question: no fewer types, and the items that were there. "In longer ones the rest stays"
pub record Grows (w w' : List ℕ) : Type 0 where
  pub types : type_count w ≤ type_count w'
  pub items : item_count w ≤ item_count w'
  pub kept : (j : ℕ) → 2050 ≤ j → j < 2050 + item_count w → word w' j ≡ word w j
  pub rest : drop 8192 w' ≡ drop 8192 w
  pub same_length : length w' ≡ length w

-- interning: the number of a row of the table, which enters it if it is new, or refusal 9
pub record Interns (file : List ℕ) (row : TypeData) (w w' : List ℕ) (r : Result ℕ Refusal) : Type 0 where
  pub outcome : outcome_of file r w' ≡ enter_type row (table_of file w)
  pub sound : Sound file w'
  pub grows : Grows w w'
  pub below : (t : ℕ) → r ≡ Ok t → t < type_count w'
  pub kept : (refusal : Refusal) → r ≡ Err refusal → w' ≡ w

-- ------------------------------------------------------------------ reading

-- the result is what is read from the table that the words hold
pub record Reads {A : Type 0} (file types : List ℕ) (read : Table → A) (r : A) : Type 0 where
  pub same : r ≡ read (table_of file types)

-- a list lies within the items
abbrev pub Within : List ℕ → TypeList → Type 0
Within w list = list.first + list.count ≤ item_count w

-- a row by its number, and its list lies within the items
pub record DataRead (types : List ℕ) (t : ℕ) (r : Row) : Type 0 where
  pub same : (file : List ℕ) → data_is file types r ≡ data_of (table_of file types) t
  pub within : (file : List ℕ) → Sound file types → Within types (list_of r)

-- the elements of a tuple, and their list lies within the items
pub record TupleRead (types : List ℕ) (t : ℕ) (r : Option TypeList) : Type 0 where
  pub same : (file : List ℕ) → found_types_of types r ≡ as_tuple (data_of (table_of file types) t)
  pub within : (file : List ℕ) → Sound file types → (list : TypeList) → r ≡ Some list → Within types list

-- the signature of a function, and its list lies within the items
pub record SignatureRead (types : List ℕ) (t : ℕ) (r : Option Signature) : Type 0 where
  pub same : (file : List ℕ) → found_signature_of types r ≡ as_function (data_of (table_of file types) t)
  pub within : (file : List ℕ) → Sound file types → (signature : Signature) → r ≡ Some signature → Within types signature.params

-- the elements of a context that is a tuple of that length, and their list lies within the items
pub record ContextsRead (types : List ℕ) (context : Option ℕ) (count : ℕ) (r : TypeList) : Type 0 where
  pub same : (file : List ℕ) → types_of types r ≡ element_contexts (table_of file types) context count
  pub within : (file : List ℕ) → Sound file types → Within types r

-- ------------------------------------------------------------------ the whole buffer

-- zeros in the first 8,192 words, or in all where there are fewer
unfoldable pub cleared : List ℕ → List ℕ
cleared w = replicate (min 8192 (length w)) 0 ++ drop 8192 w

-- six types, numbered by their kinds, and zeros
unfoldable pub started : List ℕ → List ℕ
started w = set (set (set (set (set (set (cleared w) 0 6) 10 1) 18 2) 26 3) 34 4) 42 5

-- what starting leaves; a buffer that is too short stays as it was
pub record Starts (w w' : List ℕ) : Type 0 where
  pub short : length w < 8192 → w' ≡ w
  pub words : 8192 ≤ length w → w' ≡ started w
  pub rest : drop 8192 w' ≡ drop 8192 w
  pub table : 8192 ≤ length w → (file : List ℕ) → table_of file w' ≡ first_table
  pub sound : 8192 ≤ length w → (file : List ℕ) → Sound file w'

-- ------------------------------------------------------------------ one row

unfoldable pub same_heads : Head → Head → Bool
same_heads a b =
    eqb a.kind b.kind
    && (eqb a.home b.home && (eqb a.definition b.definition && (eqb a.element b.element && eqb a.size b.size)))

-- a head with its lists against those of the row of a type
unfoldable pub same_rows : List ℕ → Head → List ℕ → List ℕ → List ℕ → ℕ → Bool
same_rows file head names items w t =
    same_heads head (head_at w t)
    && (eq_numbers items (items_at w t) && eq_names (map (name_by file) names) (map (name_by file) (names_at w t)))

-- one row more, with its lists behind those of the others
pub record Added (head : Head) (names items w w' : List ℕ) : Type 0 where
  pub same_length : length w' ≡ length w
  pub counted : type_count w' ≡ type_count w + 1
  pub filled : item_count w' ≡ item_count w + length items
  pub heads : head_at w' (type_count w) ≡ head
  pub starts : word w' (8 * type_count w + 8) ≡ item_count w
  pub counts : word w' (8 * type_count w + 9) ≡ length items
  pub types : items_from w' (item_count w) (length items) ≡ items
  pub labels : names_from w' (item_count w) (length names) ≡ names
  pub rows_kept : (j : ℕ) → 2 ≤ j → j < 8 * type_count w + 2 → word w' j ≡ word w j
  pub items_kept : (j : ℕ) → 2050 ≤ j → j < 2050 + item_count w → word w' j ≡ word w j
  pub names_kept : (j : ℕ) → 4098 ≤ j → j < 4098 + item_count w → word w' j ≡ word w j
  pub rest_kept : (j : ℕ) → 8192 ≤ j → word w' j ≡ word w j
