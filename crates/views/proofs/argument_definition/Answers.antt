-- `views::argument_definition` meets its contract: what stands behind each link decides. Assumes nothing.
use mathlib.Core.Path.{ap, ◌∙◌}
use Rattle.records.specs.Meaning.{definition_link_of}
use Rattle.views.proofs.Nodes.{other_than_identifier, an_identifier}
use Rattle.views.proofs.Chains.{no_expression, an_expression, argument_absent, argument_other, argument_named}
use Rattle.views.proofs.argument_definition.Goals as goal

pub returns-in_err-callee_info : goal.returns-in_err-callee_info
returns-in_err-callee_info c = record { same = λ file. ap definition_link_of c.from_residual.ensures ∙ argument_absent _ _ (no_expression file _ _ _ (c.expression_at.ensures file) c.in_err-callee_info.was) }

pub returns-in_default : goal.returns-in_default
returns-in_default c =
    record { same = λ file. argument_other _ _ _ (an_expression file _ _ _ (c.expression_at.ensures file) _ c.in_ok-callee_info.was) (other_than_identifier file c.args.words.now c.in_ok-callee_info.callee_info.node c.in_default.in_default-own.keys2) }

pub returns : goal.returns
returns c =
    record { same = λ file. argument_named _ _ _ (an_expression file _ _ _ (c.expression_at.ensures file) _ c.in_ok-callee_info.was) _ _ (an_identifier file _ _ _ c.in-Identifier.is) (c.definition_for_identifier_expr.ensures file) }
