-- `loader::values::three_words` meets its contract. Assumes nothing.
use mathlib.Core.Path.{ap, ◌∙◌}
use Rattle.format.specs.Tails.{three}
use Rattle.loader.specs.Values.{three_words_is}
use Rattle.loader.proofs.Holding.{words_found, words_lost}
use Rattle.loader.proofs.values.three_words.Goals as goal

pub returns-in_err-a : goal.returns-in_err-a
unfolding three
returns-in_err-a c =
    ap (three_words_is c.args.ka c.args.kb c.args.kc c.args.file.now) c.from_residual.ensures ∙ rw (words_lost c.args.file.now _ c.args.ka c.slot_words.result c.slot_words.ensures c.in_err-a.was)

pub returns-in_err-b : goal.returns-in_err-b
unfolding three
returns-in_err-b c =
    ap (three_words_is c.args.ka c.args.kb c.args.kc c.args.file.now) c.from_residual-in_err-b.ensures ∙ rw ((words_found c.args.file.now _ c.args.ka c.slot_words.result c.slot_words.ensures c.in_ok-a.a c.in_ok-a.was), words_lost c.args.file.now _ c.args.kb c.slot_words-2.result c.slot_words-2.ensures c.in_err-b.was)

pub returns-in_err-c : goal.returns-in_err-c
unfolding three
returns-in_err-c c =
    ap (three_words_is c.args.ka c.args.kb c.args.kc c.args.file.now) c.from_residual-in_err-c.ensures ∙ rw ((words_found c.args.file.now _ c.args.ka c.slot_words.result c.slot_words.ensures c.in_ok-a.a c.in_ok-a.was), (words_found c.args.file.now _ c.args.kb c.slot_words-2.result c.slot_words-2.ensures c.in_ok-b.b c.in_ok-b.was), words_lost c.args.file.now _ c.args.kc c.slot_words-3.result c.slot_words-3.ensures c.in_err-c.was)

pub returns : goal.returns
unfolding three
returns c =
    rw ((words_found c.args.file.now _ c.args.ka c.slot_words.result c.slot_words.ensures c.in_ok-a.a c.in_ok-a.was), (words_found c.args.file.now _ c.args.kb c.slot_words-2.result c.slot_words-2.ensures c.in_ok-b.b c.in_ok-b.was), (words_found c.args.file.now _ c.args.kc c.slot_words-3.result c.slot_words-3.ensures c.in_ok-c.c c.in_ok-c.was))
