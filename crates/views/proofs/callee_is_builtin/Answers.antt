-- `views::callee_is_builtin` meets its contract: what stands behind each link decides. Assumes nothing.
use Rattle.views.proofs.Nodes.{other_than_identifier, an_identifier}
use Rattle.views.proofs.Chains.{no_expression, an_expression, callee_absent, callee_lost, callee_other, callee_named}
use Rattle.views.proofs.callee_is_builtin.Goals as goal

pub returns-in_default : goal.returns-in_default
returns-in_default c = record { same = callee_absent _ _ c.in_default.is }

pub returns-in_default-expression_at : goal.returns-in_default-expression_at
returns-in_default-expression_at c =
    record { same = callee_lost _ _ _ c.in-Some.is (no_expression _ _ _ _ (c.expression_at.ensures _) c.in_default-expression_at.is) }

pub returns-in_default-node : goal.returns-in_default-node
returns-in_default-node c =
    record { same = callee_other _ _ _ c.in-Some.is _ (an_expression _ _ _ _ (c.expression_at.ensures _) _ c.in-Some-expression_at.is) (other_than_identifier c.args.index.now.file.now c.args.index.now.words.now c.in-Some-expression_at.callee_info.node c.in_default-node.in_default-node-own.keys2) }

pub returns : goal.returns
returns c =
    record { same = callee_named _ _ _ c.in-Some.is _ _ _ (an_expression _ _ _ _ (c.expression_at.ensures _) _ c.in-Some-expression_at.is) (an_identifier _ _ _ _ c.in-Identifier.is) c.is_builtin_function_name.ensures }
