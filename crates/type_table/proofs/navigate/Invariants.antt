-- `type_table::navigate` meets its contract. Assumes nothing.
use Prim.Native.Nat.{ℕ, ◌≤◌}
use mathlib.Core.List.{List}
use mathlib.Core.Path.{◌≡◌}
use Rattle.records.specs.Layout.{numbers_at}
use Rattle.resolution.specs.Views.{navigate}
use Rattle.type_table.specs.Layout.{table_of}
use Rattle.type_table.proofs.Reading.{path_from}
use Rattle.type_table.proofs.navigate.Given as goal

abbrev pub invariant-loop-i : goal.invariant-loop-i
invariant-loop-i l = (l.i ≤ l.count) × ((file : List ℕ) → navigate (table_of file l.types) l.current (numbers_at l.words l.first l.count) ≡ path_from l.words (table_of file l.types) l.at l.first l.count l.i)
