-- `answers::answer_line` meets its contract: by what is asked at the number, and what became of it. Assumes nothing.
use Rattle.std.specs.Prelude.{Err}
use Rattle.std.proofs.Common.{sym, ap, subst, ◌∙◌}
use Rattle.views.specs.Asking.{found_asked_of}
use Rattle.answers.specs.Steps.{AskedAnswered}
use Rattle.answers.proofs.Asking.{row_asked, past_step, typed_step, no_room_step, refused_step}
use Rattle.answers.proofs.answer_line.Goals as goal

pub returns-in_default : goal.returns-in_default
returns-in_default c =
    past_step c.args.index.now.file.now _ _ _ (row_asked _ _ _ _ c.question_row-question.ensures c.requires.number_in_bounds) _ _ _ _
    (ap found_asked_of (sym c.in_default.is) ∙ c.asked_at.ensures _)

pub returns-in-Ok : goal.returns-in-Ok
returns-in-Ok c =
    typed_step _ _ _ _ (row_asked _ _ _ _ c.question_row-question.ensures c.requires.number_in_bounds) _ c.args.types.now c.args.demands.now _ _
    (ap found_asked_of (sym c.in-Some.is) ∙ c.asked_at.ensures _) _ _ _ _ (subst (AskedAnswered _ _ _ _ _ _ _) c.in-Ok.is c.answer_asked.ensures)

pub returns-in-NoRoom : goal.returns-in-NoRoom
returns-in-NoRoom c =
    no_room_step c.args.index.now.file.now _ _ _ (row_asked _ _ _ _ c.question_row-question.ensures c.requires.number_in_bounds) _ c.args.types.now c.args.demands.now _ _
    (ap found_asked_of (sym c.in-Some.is) ∙ c.asked_at.ensures _) _ _ _ (subst (AskedAnswered _ _ _ _ _ _ _) (c.in-Err.is ∙ ap Err c.in-NoRoom.is) c.answer_asked.ensures)

pub returns-in-Refused : goal.returns-in-Refused
returns-in-Refused c =
    refused_step _ _ _ _ (row_asked _ _ _ _ c.question_row-question.ensures c.requires.number_in_bounds) _ c.args.types.now c.args.demands.now _ _
    (ap found_asked_of (sym c.in-Some.is) ∙ c.asked_at.ensures _) _ _ _ _ (subst (AskedAnswered _ _ _ _ _ _ _) (c.in-Err.is ∙ ap Err c.in-Refused.is) c.answer_asked.ensures) _ _ c.answer_refused.ensures
