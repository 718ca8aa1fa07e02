-- `semantic_index::is_top_level_allowed` meets its contract: the kind's number is among the three, or not. Assumes nothing.
use borrow.Enum.Refused.{shut}
use Rattle.semantic_index.proofs.ByKind.{top_level, not_top_level}
use Rattle.semantic_index.proofs.is_top_level_allowed.Goals as goal

pub returns-in-Function : goal.returns-in-Function
returns-in-Function c = λ file words. top_level file words c.args.kind (shut c.in-Function.in-Function-own.keys1)

pub returns-in_default : goal.returns-in_default
returns-in_default c = λ file words. not_top_level file words c.args.kind c.in_default.in_default-own.keys2
