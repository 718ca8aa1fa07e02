-- `answers::answer_loaded` meets its contract: by whether the file has the question, and the question the line. Assumes nothing.
use Rattle.std.specs.Prelude.{Err}
use Rattle.std.proofs.Common.{sym, ap, subst, ◌∙◌, replicate}
use Rattle.records.specs.Meaning.{found_question_of}
use Rattle.views.specs.Asking.{found_asked_of}
use Rattle.answers.specs.Steps.{AskedAnswered}
use Rattle.answers.proofs.Asking.{types_zero, places_zero}
use Rattle.answers.proofs.Entries.{lacking, past_reply, typed_reply, refused_reply, room}
use Rattle.answers.proofs.answer_loaded.Goals as goal

pub returns-in_default : goal.returns-in_default
returns-in_default c =
    lacking _ _ _ _ _ _ _ _ c.requires.holds_file.is (ap found_question_of (sym c.in_default.is) ∙ c.question_at.ensures c.args.file.now)
    (c.clear.ensures ∙ ap (λ n. replicate n 0) c.requires.holds_file.exact.words_long)

pub returns-in_default-asked_at : goal.returns-in_default-asked_at
returns-in_default-asked_at c =
    let pre = c.requires.holds_file in
    past_reply _ _ _ _ _ _ _ _ pre.is (sym (c.question_at.ensures c.args.file.now) ∙ ap found_question_of c.in-Some.is) _ _ c.args.out.now
    (ap found_asked_of (sym c.in_default-asked_at.is) ∙ c.asked_at.ensures _)
    (c.clear_both.ensures.types ∙ types_zero c.args.types.now pre.exact.types_long) (c.clear_both.ensures.demands ∙ places_zero c.args.demands.now pre.exact.places_long)

pub returns-in-Ok : goal.returns-in-Ok
returns-in-Ok c =
    typed_reply _ _ _ _ _ _ _ _ c.requires.holds_file.is (sym (c.question_at.ensures c.args.file.now) ∙ ap found_question_of c.in-Some.is) _ _ _ _
    (ap found_asked_of (sym c.in-Some-asked_at.is) ∙ c.asked_at.ensures _) _ (subst (AskedAnswered _ _ _ _ _ _ _) c.in-Ok.is c.answer_asked.ensures)

pub returns-in-Refused : goal.returns-in-Refused
returns-in-Refused c =
    refused_reply _ _ _ _ _ _ _ _ c.requires.holds_file.is (sym (c.question_at.ensures c.args.file.now) ∙ ap found_question_of c.in-Some.is) _ _ _ _
    (ap found_asked_of (sym c.in-Some-asked_at.is) ∙ c.asked_at.ensures _) _ (subst (AskedAnswered _ _ _ _ _ _ _) (c.in-Err.is ∙ ap Err c.in-Refused.is) c.answer_asked.ensures)

pub returns-in-NoRoom : goal.returns-in-NoRoom
returns-in-NoRoom c =
    let a = c.args in
    absurd
    (room a.file.now a.number a.line a.types.now a.demands.now a.out.now a.words.now _ c.requires.holds_file.is (sym (c.question_at.ensures a.file.now) ∙ ap found_question_of c.in-Some.is) _ _ _ _
    (ap found_asked_of (sym c.in-Some-asked_at.is) ∙ c.asked_at.ensures _) c.requires.in_bounds (subst (AskedAnswered _ _ _ _ _ _ _) (c.in-Err.is ∙ ap Err c.in-NoRoom.is) c.answer_asked.ensures))
