-- `semantic_index::parent_scope` meets its contract: the record decides. Assumes nothing.
use mathlib.Core.Path.{ap, ◌∙◌}
use Rattle.model.specs.Lookups.{parent}
use Rattle.records.specs.Meaning.{scope_link_of}
use Rattle.semantic_index.proofs.Scopes.{parent_absent, parent_found}
use Rattle.semantic_index.proofs.parent_scope.Goals as goal

pub returns-in_err-scope : goal.returns-in_err-scope
unfolding parent
returns-in_err-scope c = λ file. ap scope_link_of c.from_residual.ensures ∙ parent_absent _ _ c.in_err-scope.was (c.scope_at.ensures file)

pub returns : goal.returns
unfolding parent
returns c = λ file. parent_found _ _ _ c.in_ok-scope.was (c.scope_at.ensures file)
