-- `semantic_index::definition_for_identifier_expr` meets its contract: the record decides. Assumes nothing.
use Rattle.semantic_index.proofs.Definitions.{recorded_absent, recorded_found}
use mathlib.Core.Path.{ap, ◌∙◌}
use Rattle.records.specs.Meaning.{definition_link_of}
use Rattle.model.specs.Lookups.{definition_for_identifier_expr}
use Rattle.semantic_index.proofs.definition_for_identifier_expr.Goals as goal

pub returns-in_err-expression : goal.returns-in_err-expression
unfolding definition_for_identifier_expr
returns-in_err-expression c = λ file. ap definition_link_of c.from_residual.ensures ∙ recorded_absent file _ _ _ (c.expression_at.ensures file) c.in_err-expression.was

pub returns : goal.returns
unfolding definition_for_identifier_expr
returns c = λ file. recorded_found file _ _ _ (c.expression_at.ensures file) _ c.in_ok-expression.was
