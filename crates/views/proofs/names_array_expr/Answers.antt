-- `views::names_array_expr` meets its contract: the record decides. Assumes nothing.
use Rattle.std.proofs.Common.{rules}
use Rattle.views.proofs.Chains.{array_by}
use Rattle.views.proofs.names_array_expr.Goals as goal

pub returns : goal.returns
returns c = record { same = λ file. array_by file _ _ _ _ (c.type_expr_at.ensures file) _ _ c.is_some_and.ensures (λ x h. search rules) }
