-- Pairs of types that are known to be compatible. Definitions only; assumes nothing.
use Rattle.std.specs.Prelude.{ℕ, ◌+◌, ◌*◌, ◌/◌, ◌%◌, ◌^◌, ◌<◌, ◌≡◌, Bool, true, List, length}
use Rattle.records.specs.Layout.{word}
use Rattle.resolution.specs.Types.{Table, data_of}
use Rattle.resolution.specs.Compatible.{all_pairs, compatible_rows, are_types_compatible}
use Rattle.type_table.specs.Layout.{type_count, table_of}

-- a store of marks, a bit for each place: a word holds the marks of 32 places
abbrev pub mark_at : List ℕ → ℕ → ℕ
mark_at seen at = (word seen (at / 32) / 2 ^ (at % 32)) % 2

-- a store after a place of it was marked: its own mark is set, and every other is what it was
pub record Marks (seen : List ℕ) (at : ℕ) (after : List ℕ) : Type 0 where
  pub places : length after ≡ length seen
  pub here : mark_at after at ≡ 1
  pub others : (j : ℕ) → (j ≡ at → ⊥) → mark_at after j ≡ mark_at seen j

-- a store of 256 x 256 marks: a pair that is marked is compatible
pub record Remembers (file w seen : List ℕ) : Type 0 where
  pub places : length seen ≡ 2048
  pub marked : (x y : ℕ) → x < type_count w → y < type_count w → mark_at seen (256 * x + y) ≡ 1 → are_types_compatible (table_of file w) x y ≡ true

-- the rows of two types, and two lists
unfoldable pub rows_compatible : Table → ℕ → ℕ → Bool
rows_compatible table a e = compatible_rows (are_types_compatible table) (data_of table a) (data_of table e)

unfoldable pub lists_compatible : Table → List ℕ → List ℕ → Bool
lists_compatible table l m = all_pairs (are_types_compatible table) l m
