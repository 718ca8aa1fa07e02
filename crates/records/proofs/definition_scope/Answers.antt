-- `records::definition_scope` meets its contract. Assumes nothing.
use Rattle.records.specs.Layout.{definition_row}
use Rattle.records.proofs.definition_scope.Goals as goal

pub returns : goal.returns
unfolding definition_row
returns c = λ file. c.word_at.ensures
