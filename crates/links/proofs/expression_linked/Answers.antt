-- `links::expression_linked` meets its contract: its scope, then its T, its definition and its E. Assumes nothing.
use mathlib.Core.Path.{◌∙◌}
use Rattle.links.proofs.Rows.{scope_past, scope_there, types_past, types_there, expression_past, expression_tested}
use Rattle.links.proofs.expression_linked.Goals as goal
use Rattle.links.proofs.expression_linked.Goals.{then-expression-scopes, else-expression-scopes, then-expression_types_below, else-expression_types_below}

pub returns-then-link_below : goal.returns-then-link_below
returns-then-link_below c = λ file.
    expression_tested _ _ _ (c.expression_row-expression.ensures file) _
    (elim c.if-expression_types_below.branch [
      | then-expression_types_below w ↦ w.value-is ∙ types_there _ _ _
          (elim c.if-expression-scopes.branch [
            | then-expression-scopes s ↦ s.value-is ∙ scope_there _ _ _ (c.scope_count-scopes.ensures file) s.if-expression-scopes.true _ _ (c.type_expr_count-types.ensures file) (s.expression_types_below.ensures file _)
            | else-expression-scopes s ↦ s.value-is ∙ scope_past _ _ _ (c.scope_count-scopes.ensures file) s.if-expression-scopes.false
          ])
          w.if-expression_types_below.true _ _ (c.definition_count-definitions.ensures file) w.link_below.ensures
      | else-expression_types_below w ↦ w.value-is ∙ types_past _ _ _
          (elim c.if-expression-scopes.branch [
            | then-expression-scopes s ↦ s.value-is ∙ scope_there _ _ _ (c.scope_count-scopes.ensures file) s.if-expression-scopes.true _ _ (c.type_expr_count-types.ensures file) (s.expression_types_below.ensures file _)
            | else-expression-scopes s ↦ s.value-is ∙ scope_past _ _ _ (c.scope_count-scopes.ensures file) s.if-expression-scopes.false
          ])
          w.if-expression_types_below.false
    ])
    c.if-link_below.true _ _ (c.expression_count-expressions.ensures file) (c.expression_expressions_below.ensures file)

pub returns-else-link_below : goal.returns-else-link_below
returns-else-link_below c = λ file.
    expression_past _ _ _ (c.expression_row-expression.ensures file) _
    (elim c.if-expression_types_below.branch [
      | then-expression_types_below w ↦ w.value-is ∙ types_there _ _ _
          (elim c.if-expression-scopes.branch [
            | then-expression-scopes s ↦ s.value-is ∙ scope_there _ _ _ (c.scope_count-scopes.ensures file) s.if-expression-scopes.true _ _ (c.type_expr_count-types.ensures file) (s.expression_types_below.ensures file _)
            | else-expression-scopes s ↦ s.value-is ∙ scope_past _ _ _ (c.scope_count-scopes.ensures file) s.if-expression-scopes.false
          ])
          w.if-expression_types_below.true _ _ (c.definition_count-definitions.ensures file) w.link_below.ensures
      | else-expression_types_below w ↦ w.value-is ∙ types_past _ _ _
          (elim c.if-expression-scopes.branch [
            | then-expression-scopes s ↦ s.value-is ∙ scope_there _ _ _ (c.scope_count-scopes.ensures file) s.if-expression-scopes.true _ _ (c.type_expr_count-types.ensures file) (s.expression_types_below.ensures file _)
            | else-expression-scopes s ↦ s.value-is ∙ scope_past _ _ _ (c.scope_count-scopes.ensures file) s.if-expression-scopes.false
          ])
          w.if-expression_types_below.false
    ])
    c.if-link_below.false
