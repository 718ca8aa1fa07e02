-- `links::both_below` meets its contract: one link, then the other. Assumes nothing.
use Rattle.links.proofs.Below.{parts_stop, parts_go}
use Rattle.links.proofs.both_below.Goals as goal

pub returns-then-link_below : goal.returns-then-link_below
returns-then-link_below c = parts_go _ _ _ _ c.link_below.ensures _ c.if-link_below.true c.link_below-then-link_below.ensures

pub returns-else-link_below : goal.returns-else-link_below
returns-else-link_below c = parts_stop _ _ _ _ c.link_below.ensures c.if-link_below.false
