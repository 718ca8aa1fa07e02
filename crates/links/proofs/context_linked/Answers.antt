-- `links::context_linked` meets its contract: the module is there, or not, and so is the expression. Assumes nothing.
use mathlib.Core.Path.{sym, ap, ◌∙◌}
use mathlib.Core.Bool.{not, false≢true}
use borrow.Author.Tests.{leb-true, leb-false}
use Rattle.links.proofs.Questions.{context_no_module, context_no_expression, context_tested}
use Rattle.links.proofs.context_linked.Goals as goal
use Rattle.links.proofs.context_linked.Goals.{then-not-has_module, else-not-has_module}

pub returns-then-expression_count-e : goal.returns-then-expression_count-e
returns-then-expression_count-e c = λ file.
    let there = c.has_module.ensures file in
    elim c.if-not-has_module.branch [
      | then-not-has_module w ↦ c.if-expression_count-e.true ∙ context_no_module file _ _ c.has_module.result there _ _ w.if-not-has_module.true
      | else-not-has_module w ↦ c.if-expression_count-e.true ∙ context_no_expression file _ _ c.has_module.result there _ _ _ w.if-not-has_module.false (w.expression_count.ensures file) (leb-true _ _ (sym w.value-is ∙ c.if-expression_count-e.true))
    ]

pub returns-else-expression_count-e : goal.returns-else-expression_count-e
returns-else-expression_count-e c = λ file.
    elim c.if-not-has_module.branch [
      | then-not-has_module w ↦ absurd (false≢true (sym c.if-expression_count-e.false ∙ w.value-is ∙ ap not w.if-not-has_module.true))
      | else-not-has_module w ↦ context_tested file _ _ c.has_module.result (c.has_module.ensures file) _ _ _ _ _ w.if-not-has_module.false (w.expression_count.ensures file) (leb-false _ _ (sym w.value-is ∙ c.if-expression_count-e.false)) (c.type_expr_count.ensures file) c.link_below.ensures
    ]
