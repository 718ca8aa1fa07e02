-- `semantic_index::first_in_chain` meets its contract: the scopes that are left decide the whole. Assumes nothing.
use Rattle.std.proofs.Common.{◌≡◌, ℕ, List, ◌-◌}
use Rattle.std.specs.Prelude.{Option}
use Rattle.model.specs.Common.{first_some}
use Rattle.model.specs.Lookups.{chain_from, scope_chain}
use Rattle.records.specs.Layout.{module_row}
use Rattle.semantic_index.specs.Meaning.{Finds}
use Rattle.semantic_index.proofs.first_in_chain.Given as goal

abbrev pub invariant-loop : goal.invariant-loop
invariant-loop g l =
    (file : List ℕ) (find : ℕ → Option ℕ) → Finds (goal.F-post g l.find) find
    → first_some find (scope_chain (module_row file l.words l.m) l.fn.s.0)
    ≡ first_some find (chain_from (l.enough - l.counter) (module_row file l.words l.m) l.current.0)
