-- `records::expression_end` meets its contract. Assumes nothing.
use Rattle.records.specs.Layout.{expression_row}
use Rattle.records.proofs.expression_end.Goals as goal

pub returns : goal.returns
unfolding expression_row
returns c = λ file. c.word_at.ensures
