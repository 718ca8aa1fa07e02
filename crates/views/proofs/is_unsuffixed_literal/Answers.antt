-- `views::is_unsuffixed_literal` meets its contract: the node decides, and then its suffix. Assumes nothing.
use Rattle.views.proofs.Nodes.{other_than_literal, suffix_decides}
use Rattle.views.proofs.is_unsuffixed_literal.Goals as goal

pub returns-in_default : goal.returns-in_default
returns-in_default c = record { same = λ file words. other_than_literal file words c.args.node c.in_default.in_default-own.keys2 }

pub returns : goal.returns
returns c = record { same = λ file words. suffix_decides file words _ _ _ c.in-Literal.is c.is_none.ensures }
