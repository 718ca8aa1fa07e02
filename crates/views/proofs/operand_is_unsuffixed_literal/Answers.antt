-- `views::operand_is_unsuffixed_literal` meets its contract: the record decides. Assumes nothing.
use Rattle.std.proofs.Common.{rules}
use Rattle.views.proofs.Chains.{operand_by}
use Rattle.views.proofs.operand_is_unsuffixed_literal.Goals as goal

pub returns : goal.returns
returns c = λ file. operand_by file _ _ _ _ (c.expression_at.ensures file) _ _ c.is_some_and.ensures (λ x h. search rules)
