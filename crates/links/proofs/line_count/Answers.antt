-- `links::line_count` meets its contract: the four counts are those of the rows. Assumes nothing.
use native.Mathlib.Omega.{arith}
use Rattle.links.proofs.Modules.{module_lines_length}
use Rattle.links.proofs.line_count.Goals as goal

pub returns : goal.returns
returns c = record { counts = λ file. module_lines_length _ _ _ _ _ (c.scope_count-scopes.ensures file) (c.type_expr_count-types.ensures file) (c.definition_count-definitions.ensures file) (c.expression_count-expressions.ensures file); bounded = omega arith }
