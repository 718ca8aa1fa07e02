-- `views::is_commutative` meets its contract: by the number of the operator. Assumes nothing.
use borrow.Enum.Refused.{shut}
use Rattle.views.proofs.Nodes.{commutes, keeps_order}
use Rattle.views.proofs.is_commutative.Goals as goal

pub returns-in-Add : goal.returns-in-Add
returns-in-Add c = commutes c.args.op (shut c.in-Add.in-Add-own.keys1)

pub returns-in_default : goal.returns-in_default
returns-in_default c = keeps_order c.args.op c.in_default.in_default-own.keys2
