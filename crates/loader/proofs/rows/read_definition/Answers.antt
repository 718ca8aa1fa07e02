-- `loader::rows::read_definition` meets its contract. Assumes nothing.
use mathlib.Core.Path.{sym, ap, ◌∙◌}
use mathlib.Core.List.{[], ◌∷◌}
use Rattle.format.specs.declared.Kind.{Kind}
use Rattle.format.specs.Words.{definition_word_of}
use Rattle.fields.proofs.Slots.{word_read, word_lost}
use Rattle.loader.specs.Lines.{path_fits}
use Rattle.loader.proofs.Tailing.{three_found, three_lost, tail_of, tail_none, tail_put_as}
use Rattle.loader.proofs.Leaving.{line_lost, left_self, behind_left, put_same}
use Rattle.loader.proofs.DefinitionLines.{definition_no_first, definition_no_second, definition_no_word, definition_no_tail, definition_no_path, definition_put_as}
use Rattle.loader.proofs.rows.read_definition.Goals as goal

pub returns-in_err-head : goal.returns-in_err-head
returns-in_err-head c =
    line_lost c.from_residual.ensures (left_self c.args.n _) (definition_no_first c.args.file.now _ (three_lost c.args.file.now _ Kind.Number Kind.Name Kind.Position c.three_words.result c.three_words.ensures c.in_err-head.was))

pub returns-in_err-spans : goal.returns-in_err-spans
returns-in_err-spans c =
    let h = c.in_ok-head.head in
    line_lost c.from_residual-in_err-spans.ensures (left_self c.args.n _) (definition_no_second c.args.file.now _ h (three_found c.args.file.now _ Kind.Number Kind.Name Kind.Position c.three_words.result c.three_words.ensures h c.in_ok-head.was) (three_lost c.args.file.now _ Kind.Position Kind.Position Kind.Position c.three_words-2.result c.three_words-2.ensures c.in_err-spans.was))

pub returns-in_err-kind : goal.returns-in_err-kind
returns-in_err-kind c =
    let h = c.in_ok-head.head in
    let s = c.in_ok-spans.spans in
    line_lost c.from_residual-in_err-kind.ensures (left_self c.args.n _) (definition_no_word c.args.file.now _ h (three_found c.args.file.now _ Kind.Number Kind.Name Kind.Position c.three_words.result c.three_words.ensures h c.in_ok-head.was) s (three_found c.args.file.now _ Kind.Position Kind.Position Kind.Position c.three_words-2.result c.three_words-2.ensures s c.in_ok-spans.was) (word_lost definition_word_of c.args.file.now _ _ c.word_here.ensures.is c.in_err-kind.was))

pub returns-in_err-tail : goal.returns-in_err-tail
returns-in_err-tail c =
    let tp = tail_put_as {words' = c.read_tail.new.words} c.definition_shape-shape.ensures c.read_tail.ensures in
    let h = c.in_ok-head.head in
    let s = c.in_ok-spans.spans in
    let k = c.in_ok-kind.kind in
    line_lost c.from_residual-in_err-tail.ensures (behind_left c.args.n c.requires.0 tp.behind) (definition_no_tail c.args.file.now _ h (three_found c.args.file.now _ Kind.Number Kind.Name Kind.Position c.three_words.result c.three_words.ensures h c.in_ok-head.was) s (three_found c.args.file.now _ Kind.Position Kind.Position Kind.Position c.three_words-2.result c.three_words-2.ensures s c.in_ok-spans.was) k.word k.end (word_read definition_word_of c.args.file.now _ _ c.word_here.ensures.is k c.in_ok-kind.was) (tail_none c.args.file.now _ _ _ _ tp.tail c.in_err-tail.was))

pub returns-then-not-path_fits : goal.returns-then-not-path_fits
returns-then-not-path_fits c =
    let tp = tail_put_as {words' = c.read_tail.new.words} c.definition_shape-shape.ensures c.read_tail.ensures in
    let h = c.in_ok-head.head in
    let s = c.in_ok-spans.spans in
    let k = c.in_ok-kind.kind in
    record { left = behind_left c.args.n c.requires.0 tp.behind; line = definition_no_path c.args.file.now _ h (three_found c.args.file.now _ Kind.Number Kind.Name Kind.Position c.three_words.result c.three_words.ensures h c.in_ok-head.was) s (three_found c.args.file.now _ Kind.Position Kind.Position Kind.Position c.three_words-2.result c.three_words-2.ensures s c.in_ok-spans.was) k.word k.end (word_read definition_word_of c.args.file.now _ _ c.word_here.ensures.is k c.in_ok-kind.was) c.args.n c.in_ok-tail.tail (tail_of c.args.file.now _ _ _ c.args.n.items tp.tail c.in_ok-tail.tail c.in_ok-tail.was) c.requires.0.items (ap (λ p. path_fits k.word p c.in_ok-tail.tail.items.count) (sym c.low.ensures) ∙ sym c.path_fits.ensures ∙ c.if-not-path_fits.true) }

pub returns : goal.returns
returns c =
    let tp = tail_put_as {words' = c.read_tail.new.words} c.definition_shape-shape.ensures c.read_tail.ensures in
    let h = c.in_ok-head.head in
    let s = c.in_ok-spans.spans in
    let k = c.in_ok-kind.kind in
    definition_put_as c.args.file.now _ h (three_found c.args.file.now _ Kind.Number Kind.Name Kind.Position c.three_words.result c.three_words.ensures h c.in_ok-head.was) s (three_found c.args.file.now _ Kind.Position Kind.Position Kind.Position c.three_words-2.result c.three_words-2.ensures s c.in_ok-spans.was) k.word k.end (word_read definition_word_of c.args.file.now _ _ c.word_here.ensures.is k c.in_ok-kind.was) c.args.n c.in_ok-tail.tail (tail_of c.args.file.now _ _ _ c.args.n.items tp.tail c.in_ok-tail.tail c.in_ok-tail.was) c.requires.0.items c.requires.0 c.requires.1 (ap (λ p. path_fits k.word p c.in_ok-tail.tail.items.count) (sym c.low.ensures) ∙ sym c.path_fits.ensures ∙ c.if-not-path_fits.false) tp.behind (put_same (λ i. c.definition_number.ensures i ∷ c.low-2.ensures i ∷ c.low-3.ensures i ∷ c.low-4.ensures i ∷ c.low-5.ensures i ∷ c.low-6.ensures i ∷ c.low-7.ensures i ∷ c.low-8.ensures i ∷ c.low-9.ensures i ∷ c.low-10.ensures i ∷ c.in_ok-tail.tail.list ∷ 0 ∷ []) c.put.ensures)
