-- `links::link_below` meets its contract: the link is absent, or a list of one number. Assumes nothing.
use Rattle.std.proofs.Common.{rules, tests}
use Rattle.links.proofs.Below.{link_passes}
use Rattle.links.proofs.link_below.Goals as goal

pub returns : goal.returns
returns g c = link_passes _ g.R.RecordNumber.number _ _ _ c.is_none_or.ensures (λ k h. search (rules, tests))
