-- `words::word` meets its contract: the word at the place that was found, if one was. Assumes nothing.
use mathlib.Core.Path.{sym, ap, ◌∙◌}
use Rattle.std.specs.Prelude.{None, option_map, slice_get}
use Rattle.model.specs.Common.{let_some}
use Rattle.format.specs.Words.{word_in}
use Rattle.words.proofs.word.Goals as goal

pub returns-in_err-k : goal.returns-in_err-k
unfolding word_in
returns-in_err-k g c =
    let w = g.W.PlaceWord in
    c.from_residual.ensures ∙ ap (λ o. let_some o None λ n. option_map (λ k. k.word) (slice_get w.words n)) (sym c.in_err-k.was ∙ c.find.ensures) ∙ g.met.W.PlaceWord.by_words c.args.field.now

pub returns : goal.returns
unfolding word_in
returns g c =
    let w = g.W.PlaceWord in
    c.at.ensures ∙ ap (λ o. let_some o None λ n. option_map (λ k. k.word) (slice_get w.words n)) (sym c.in_ok-k.was ∙ c.find.ensures) ∙ g.met.W.PlaceWord.by_words c.args.field.now
