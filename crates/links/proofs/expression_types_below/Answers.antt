-- `links::expression_types_below` meets its contract: the expected T, then those of the node. Assumes nothing.
use Rattle.links.proofs.Below.{parts_stop, parts_go}
use Rattle.links.proofs.expression_types_below.Goals as goal

pub returns-then-link_below : goal.returns-then-link_below
returns-then-link_below c = λ file words. parts_go _ _ _ _ c.link_below.ensures _ c.if-link_below.true (c.node_types_below.ensures file words)

pub returns-else-link_below : goal.returns-else-link_below
returns-else-link_below c = λ file words. parts_stop _ _ _ _ c.link_below.ensures c.if-link_below.false
