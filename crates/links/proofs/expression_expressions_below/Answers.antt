-- `links::expression_expressions_below` meets its contract: the origin's E, then those of the node. Assumes nothing.
use Rattle.links.proofs.Below.{parts_stop, parts_go}
use Rattle.links.proofs.expression_expressions_below.Goals as goal

pub returns-then-origin_below : goal.returns-then-origin_below
returns-then-origin_below c = λ file. parts_go _ _ _ _ (c.origin_below.ensures file) _ c.if-origin_below.true (c.node_expressions_below.ensures file)

pub returns-else-origin_below : goal.returns-else-origin_below
returns-else-origin_below c = λ file. parts_stop _ _ _ _ (c.origin_below.ensures file) c.if-origin_below.false
