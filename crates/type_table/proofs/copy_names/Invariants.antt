-- `type_table::copy_names` meets its contract. Assumes nothing.
use Prim.Native.Nat.{ℕ, ◌+◌, ◌≤◌, ◌<◌}
use mathlib.Core.Path.{◌≡◌}
use lib.ListN.{length}
use Rattle.records.specs.Layout.{word, item_name}
use Rattle.type_table.proofs.copy_names.Given as goal

abbrev pub invariant-loop-i : goal.invariant-loop-i
invariant-loop-i l = (l.i ≤ l.i-end) × (l.i-end ≤ length l.names) × (length l.names ≡ length l.initial.names) × ((j : ℕ) → j < l.i → word l.names j ≡ item_name l.words (l.first + j))
