-- `records::question_row` meets its contract: its four words. Assumes nothing.
use mathlib.Core.Path.{◌∙◌}
use Rattle.records.proofs.Congruence.{ap₄}
use Rattle.records.specs.Layout.{question_by, question_row}
use Rattle.records.proofs.question_row.Goals as goal

pub returns : goal.returns
unfolding question_row
returns c = c.question_of.ensures ∙ ap₄ question_by c.word_at-kind.ensures c.word_at-m.ensures c.word_at-a.ensures c.word_at-b.ensures
