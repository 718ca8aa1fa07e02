-- `links::definition_linked` meets its contract: its scope, then its T, then its E. Assumes nothing.
use mathlib.Core.Path.{ap, ◌∙◌}
use lib.Dec.{ltb}
use borrow.Author.Tests.{lt-ltb, le-ltb}
use Rattle.links.proofs.Below.{and_stop, and_go, bound_same}
use Rattle.links.proofs.Rows.{definition_stops, definition_goes}
use Rattle.links.proofs.definition_linked.Goals as goal
use Rattle.links.proofs.definition_linked.Goals.{then-definition-scopes, else-definition-scopes}

pub returns-then-definition_types_below : goal.returns-then-definition_types_below
returns-then-definition_types_below c = λ file.
    definition_goes _ _ _ (c.definition_row-definition.ensures file) _
    (elim c.if-definition-scopes.branch [
      | then-definition-scopes w ↦ w.value-is ∙ and_go _ _ _ (ap (ltb _) (c.scope_count-scopes.ensures file)) _ (lt-ltb _ _ w.if-definition-scopes.true) (w.definition_types_below.ensures file ∙ bound_same _ _ _ (c.type_expr_count-types.ensures file))
      | else-definition-scopes w ↦ w.value-is ∙ and_stop _ _ _ (ap (ltb _) (c.scope_count-scopes.ensures file)) (le-ltb _ _ w.if-definition-scopes.false)
    ])
    c.if-definition_types_below.true _ (c.definition_expressions_below.ensures file _ ∙ bound_same _ _ _ (c.expression_count-expressions.ensures file))

pub returns-else-definition_types_below : goal.returns-else-definition_types_below
returns-else-definition_types_below c = λ file.
    definition_stops _ _ _ (c.definition_row-definition.ensures file) _
    (elim c.if-definition-scopes.branch [
      | then-definition-scopes w ↦ w.value-is ∙ and_go _ _ _ (ap (ltb _) (c.scope_count-scopes.ensures file)) _ (lt-ltb _ _ w.if-definition-scopes.true) (w.definition_types_below.ensures file ∙ bound_same _ _ _ (c.type_expr_count-types.ensures file))
      | else-definition-scopes w ↦ w.value-is ∙ and_stop _ _ _ (ap (ltb _) (c.scope_count-scopes.ensures file)) (le-ltb _ _ w.if-definition-scopes.false)
    ])
    c.if-definition_types_below.false
