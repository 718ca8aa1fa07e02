-- `links::type_question_linked` meets its contract: the module is there, or not, and so is the T. Assumes nothing.
use mathlib.Core.Path.{ap, ◌∙◌}
use mathlib.Core.Bool.{not}
use Rattle.links.proofs.Questions.{type_no_module, type_past, type_there}
use Rattle.links.proofs.type_question_linked.Goals as goal

pub returns-then-not-has_module : goal.returns-then-not-has_module
returns-then-not-has_module c = λ file. ap not c.if-not-has_module.true ∙ type_no_module file _ _ c.has_module.result (c.has_module.ensures file) _ _ c.if-not-has_module.true

pub returns-then-t-type_expr_count : goal.returns-then-t-type_expr_count
returns-then-t-type_expr_count c = λ file. type_there file _ _ c.has_module.result (c.has_module.ensures file) _ _ _ _ c.if-not-has_module.false (c.type_expr_count.ensures file) c.if-t-type_expr_count.true (c.scope_count.ensures file)

pub returns-else-t-type_expr_count : goal.returns-else-t-type_expr_count
returns-else-t-type_expr_count c = λ file. type_past file _ _ c.has_module.result (c.has_module.ensures file) _ _ _ c.if-not-has_module.false (c.type_expr_count.ensures file) c.if-t-type_expr_count.false
