-- `loader::rows::read_scope` meets its contract. Assumes nothing.
use mathlib.Core.Path.{sym, ap, ◌∙◌}
use mathlib.Core.List.{[], ◌∷◌}
use Rattle.format.specs.Words.{scope_word_of}
use Rattle.format.specs.declared.Kind.{Kind}
use Rattle.fields.proofs.Slots.{word_read, word_lost}
use Rattle.loader.specs.Lines.{scope_fits}
use Rattle.loader.specs.Values.{parts}
use Rattle.loader.proofs.Holding.{words_found, words_lost}
use Rattle.loader.proofs.Tailing.{tail_of, tail_none, tail_put_as}
use Rattle.loader.proofs.Leaving.{line_lost, left_self, behind_left, put_same}
use Rattle.loader.proofs.ScopeLines.{scope_no_parent, scope_no_word, scope_no_tail, scope_no_fit, scope_put_as}
use Rattle.loader.proofs.rows.read_scope.Goals as goal

pub returns-in_err-up : goal.returns-in_err-up
returns-in_err-up c =
    line_lost c.from_residual.ensures (left_self c.args.n _) (scope_no_parent c.args.file.now _ (words_lost c.args.file.now _ Kind.MaybeNumber c.slot_words.result c.slot_words.ensures c.in_err-up.was))

pub returns-in_err-kind : goal.returns-in_err-kind
returns-in_err-kind c =
    let up = c.in_ok-up.up in
    line_lost c.from_residual-in_err-kind.ensures (left_self c.args.n _) (scope_no_word c.args.file.now _ (parts up.words).low up.end (words_found c.args.file.now _ Kind.MaybeNumber c.slot_words.result c.slot_words.ensures up c.in_ok-up.was) (word_lost scope_word_of c.args.file.now _ _ c.word_here.ensures.is c.in_err-kind.was))

pub returns-in_err-tail : goal.returns-in_err-tail
returns-in_err-tail c =
    let tp = tail_put_as {words' = c.read_tail.new.words} c.bare.ensures c.read_tail.ensures in
    let up = c.in_ok-up.up in
    let k = c.in_ok-kind.kind in
    line_lost c.from_residual-in_err-tail.ensures (behind_left c.args.n c.requires.0 tp.behind) (scope_no_tail c.args.file.now _ (parts up.words).low up.end (words_found c.args.file.now _ Kind.MaybeNumber c.slot_words.result c.slot_words.ensures up c.in_ok-up.was) k.word k.end (word_read scope_word_of c.args.file.now _ _ c.word_here.ensures.is k c.in_ok-kind.was) (tail_none c.args.file.now _ _ _ _ tp.tail c.in_err-tail.was))

pub returns-then-not-scope_fits : goal.returns-then-not-scope_fits
returns-then-not-scope_fits c =
    let tp = tail_put_as {words' = c.read_tail.new.words} c.bare.ensures c.read_tail.ensures in
    let up = c.in_ok-up.up in
    let k = c.in_ok-kind.kind in
    record { left = behind_left c.args.n c.requires.0 tp.behind; line = scope_no_fit c.args.file.now _ (parts up.words).low up.end (words_found c.args.file.now _ Kind.MaybeNumber c.slot_words.result c.slot_words.ensures up c.in_ok-up.was) k.word k.end (word_read scope_word_of c.args.file.now _ _ c.word_here.ensures.is k c.in_ok-kind.was) c.args.n c.in_ok-tail.tail (tail_of c.args.file.now _ _ _ c.args.n.items tp.tail c.in_ok-tail.tail c.in_ok-tail.was) (ap (λ p. scope_fits p k.word) (sym c.low-parent.ensures) ∙ sym c.scope_fits.ensures ∙ c.if-not-scope_fits.true) }

pub returns : goal.returns
returns c =
    let tp = tail_put_as {words' = c.read_tail.new.words} c.bare.ensures c.read_tail.ensures in
    let up = c.in_ok-up.up in
    let k = c.in_ok-kind.kind in
    scope_put_as c.args.file.now _ (parts up.words).low up.end (words_found c.args.file.now _ Kind.MaybeNumber c.slot_words.result c.slot_words.ensures up c.in_ok-up.was) k.word k.end (word_read scope_word_of c.args.file.now _ _ c.word_here.ensures.is k c.in_ok-kind.was) c.args.n c.in_ok-tail.tail (tail_of c.args.file.now _ _ _ c.args.n.items tp.tail c.in_ok-tail.tail c.in_ok-tail.was) c.requires.0 c.requires.1 (ap (λ p. scope_fits p k.word) (sym c.low-parent.ensures) ∙ sym c.scope_fits.ensures ∙ c.if-not-scope_fits.false) tp.behind (put_same (λ i. c.low-parent.ensures i ∷ c.scope_number.ensures i ∷ []) c.put.ensures)
