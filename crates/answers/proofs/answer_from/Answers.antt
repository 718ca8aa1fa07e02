-- `answers::answer_from` meets its contract: a short buffer is refused, and else the first words and places are lent. Assumes nothing.
use Rattle.std.proofs.Common.{◌∙◌}
use lib.Seq.{length-take-le}
use Rattle.answers.proofs.Entries.{answered_from}
use Rattle.answers.proofs.answer_from.Goals as goal

pub lines_exact-requires-clause-exact : goal.lines_exact-requires-clause-exact
lines_exact-requires-clause-exact c =
    let a = c.args in
    let long = c.if-not-are_long.ensures in
    record {
      words_long = length-take-le 16384 a.records.now long.records_long;
      types_long = length-take-le 8192 a.types.now long.types_long;
      places_long = length-take-le 256 a.demands.now long.places_long;
    }

pub returns-clause-full : goal.returns-clause-full
returns-clause-full c =
    let a = c.args in
    let long = c.if-not-are_long.ensures in
    let r = c.lines_exact in
    λ h. answered_from _ _ _ _ _ _ (r.auto.words ∙ length-take-le 16384 a.records.now long.records_long) (r.auto.types ∙ length-take-le 8192 a.types.now long.types_long)
    (r.auto.demands ∙ length-take-le 256 a.demands.now long.places_long) _ _ long.bytes_long (r.auto.out ∙ length-take-le 4160 a.out.now long.bytes_long) _ _ _ _ r.ensures
