-- `loader::items::read_list` meets its contract. Assumes nothing.
use lib.ListN.{length, drop}
use Rattle.loader.specs.Items.{Behind}
use Rattle.loader.proofs.Listing.{SoFar}
use Rattle.loader.proofs.items.read_list.Given as goal

abbrev pub invariant-loop-listed : goal.invariant-loop-listed
invariant-loop-listed l = Behind l.first l.initial.words l.words × SoFar l.file l.words l.listed (drop l.at l.file) l.first l.end l.count

abbrev pub decreases-loop-listed : goal.decreases-loop-listed
decreases-loop-listed l = length (drop l.end l.file)
