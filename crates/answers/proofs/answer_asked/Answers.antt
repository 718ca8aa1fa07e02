-- `answers::answer_asked` meets its contract: the table starts anew, and what is said is the definition's. Assumes nothing.
use Rattle.std.proofs.Common.{refl, ap, ◌∙◌}
use Rattle.std.specs.Prelude.{Ok}
use Rattle.refusals.specs.Numbers.{refusal_number}
use Rattle.resolution.specs.Answer.{Verdict}
use Rattle.answers.proofs.Asking.{starts_ready, refused_as, typed_answer, none_answer, types_zero, places_zero}
use Rattle.answers.proofs.answer_asked.Goals as goal

pub resolve_asked-said-requires : goal.resolve_asked-said-requires
resolve_asked-said-requires c = starts_ready _ _ _ _ _ c.requires c.start.ensures

pub returns-in-Some : goal.returns-in-Some
returns-in-Some c =
    let said = c.resolve_asked-said in
    typed_answer _ _ _ _ _ c.requires c.start.ensures _ _ _ _ said.ensures _ _ _ _ _ (c.clear.ensures ∙ places_zero said.new.demands (said.auto.demands ∙ c.requires.exact.places_long)) _ (c.in-Ok.is ∙ ap Ok c.in-Some.is) c.answer_typed.ensures

pub returns-in-None : goal.returns-in-None
returns-in-None c =
    let said = c.resolve_asked-said in
    none_answer _ _ _ _ _ c.requires c.start.ensures _ _ _ _ said.ensures _ _ _ _ _ (c.clear.ensures ∙ places_zero said.new.demands (said.auto.demands ∙ c.requires.exact.places_long)) (c.in-Ok.is ∙ ap Ok c.in-None.is) c.answer_none.ensures

pub returns-in-Err : goal.returns-in-Err
returns-in-Err c =
    let said = c.resolve_asked-said in
    record {
      v = Verdict.refused (refusal_number c.in-Err.refusal);
      has = refused_as _ _ _ _ _ c.requires c.start.ensures _ _ _ _ said.ensures _ c.in-Err.is;
      is = record { is = refl; same = refl };
      types_are = c.clear-in-Err.ensures ∙ types_zero said.new.types (said.ensures.grows.same_length ∙ c.start.auto.types ∙ c.requires.exact.types_long);
      demands_are = c.clear.ensures ∙ places_zero said.new.demands (said.auto.demands ∙ c.requires.exact.places_long);
    }
