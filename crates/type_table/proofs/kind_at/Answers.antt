-- `type_table::kind_at` meets its contract. Assumes nothing.
use Rattle.type_table.specs.Layout.{head_at}
use Rattle.type_table.proofs.kind_at.Goals as goal

pub returns : goal.returns
unfolding head_at
returns c = c.word_at.ensures
