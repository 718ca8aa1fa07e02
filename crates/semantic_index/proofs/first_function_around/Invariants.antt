-- `semantic_index::first_function_around` meets its contract: no definition before d is a function around s. Assumes nothing.
use Rattle.std.specs.Prelude.{None}
use mathlib.Core.Path.{◌≡◌}
use Prim.Native.Nat.{ℕ, ◌-◌}
use mathlib.Core.List.{List}
use Rattle.semantic_index.proofs.Searches.{first_from}
use Rattle.model.specs.Lookups.{chain_from, scope_chain, among, function_around, first_function_around}
use Rattle.records.specs.Layout.{definition_row, module_row}
use Rattle.semantic_index.proofs.first_function_around.Given as goal

abbrev pub invariant-loop : goal.invariant-loop
invariant-loop l = (l.found ≡ l.initial.found) × ((file : List ℕ) → among l.scope.0 (scope_chain (module_row file l.words l.m) l.s.0) ≡ among l.scope.0 (chain_from (l.enough - l.counter) (module_row file l.words l.m) l.at.0))

abbrev pub invariant-definitions : goal.invariant-definitions
invariant-definitions l = (l.found ≡ None) × ((file : List ℕ) → first_function_around (module_row file l.words l.m) l.s.0 ≡ first_from (function_around (module_row file l.words l.m) l.s.0) (definition_row file l.words) l.first l.count l.d)
