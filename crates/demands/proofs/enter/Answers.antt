-- `demands::enter` meets its contract: by the two tests, 7 before 8. Assumes nothing.
use Rattle.demands.proofs.Entering.{opens}
use Rattle.demands.proofs.enter.Goals as goal

pub returns : goal.returns
returns c = opens _ _ _ _ _ c.from.ensures c.is_open.ensures c.if-is_open.false c.if-depth-ge-PLACES.false c.requires.1
