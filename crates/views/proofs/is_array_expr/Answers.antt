-- `views::is_array_expr` meets its contract: by the number of the kind. Assumes nothing.
use mathlib.Core.List.{[], ◌∷◌}
use borrow.Enum.Refused.{shut}
use Rattle.views.proofs.Nodes.{array_expr, other_than_array}
use Rattle.views.proofs.is_array_expr.Goals as goal

pub returns-in-FixedArray : goal.returns-in-FixedArray
returns-in-FixedArray c = λ file words. array_expr file words c.args.t (shut {ks = 6 ∷ []} c.in-FixedArray.in-FixedArray-own.keys1)

pub returns-in_default : goal.returns-in_default
returns-in_default c = λ file words. other_than_array file words c.args.t c.in_default.in_default-own.keys2
