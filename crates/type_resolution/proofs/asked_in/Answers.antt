-- `type_resolution::asked_in` meets its contract. Assumes nothing.
use Rattle.type_resolution.proofs.Running.{then_given, then_refused}
use Rattle.type_resolution.proofs.Finding.{in_context_found, in_context_absent}
use Rattle.type_resolution.proofs.asked_in.Goals as goal

pub returns-in_default : goal.returns-in_default
returns-in_default c = in_context_absent c.requires _ _ _ c.expression_in.ensures c.in_default.is

pub returns-in_err-context : goal.returns-in_err-context
returns-in_err-context c =
    in_context_found _ _ _ c.expression_in.ensures c.in-Some.is (then_refused c.ast_type.ensures _ c.in_err-context.was c.from_residual.ensures)

pub returns : goal.returns
returns c =
    in_context_found _ _ _ c.expression_in.ensures c.in-Some.is (then_given c.ast_type.ensures _ c.in_ok-context.was c.expr_type.ensures)
