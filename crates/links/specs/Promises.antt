-- The promise that has more than one part. Definitions only.
use Rattle.std.specs.Prelude.{◌≡◌, ℕ, ◌+◌, ◌*◌, ◌<◌, List, length}
use Rattle.format.specs.LinkCheck.{module_lines}
use Rattle.records.specs.Layout.{module_row}

-- the number of a module's lines: one for the module, and one for each of its rows, of which there are fewer than 2^32 of each kind
pub record LineCount (words : List ℕ) (m r : ℕ) : Type 0 where
  pub counts : (file : List ℕ) → r ≡ length (module_lines (module_row file words m))
  pub bounded : r < 1 + 4 * 4294967296
