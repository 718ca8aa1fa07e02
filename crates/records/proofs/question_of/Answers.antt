-- `records::question_of` meets its contract: the first word picks the kind. Assumes nothing.
use mathlib.Core.Path.{refl}
use Rattle.model.specs.Records.{Question}
use Rattle.records.proofs.Congruence.{ap₃}
use Rattle.records.proofs.Options.{option_here, option_last, none_below}
use Rattle.records.specs.Layout.{question_by}
use Rattle.records.proofs.question_of.Goals as goal

pub returns-in-0 : goal.returns-in-0
unfolding question_by
returns-in-0 c = option_here 0 _ _ _ _ c.in-0.is (ap₃ Question.expr refl refl c.link.ensures)

pub returns-in-1 : goal.returns-in-1
unfolding question_by
returns-in-1 c = option_here 1 _ _ _ _ c.in-1.is refl

pub returns-in-2 : goal.returns-in-2
unfolding question_by
returns-in-2 c = option_here 2 _ _ _ _ c.in-2.is refl

pub returns-in_default : goal.returns-in_default
unfolding question_by
returns-in_default c = option_last _ _ _ _ (none_below 3 _ c.in_default.in_default-own.rest) refl
