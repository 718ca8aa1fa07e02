-- `loader::rows::read_expression` meets its contract. Assumes nothing.
use mathlib.Core.Path.{ap, subst, ◌∙◌}
use mathlib.Core.List.{[], ◌∷◌}
use Prim.Native.Nat.{◌+◌, ◌*◌}
use lib.ListN.{drop}
use Rattle.format.specs.declared.Kind.{Kind}
use Rattle.format.specs.Words.{node_word_of}
use Rattle.fields.proofs.Slots.{word_read, word_lost}
use Rattle.loader.specs.Lines.{OriginIs, last_word}
use Rattle.loader.proofs.Tailing.{three_found, three_lost, tail_of, tail_none, tail_put_as}
use Rattle.loader.proofs.Leaving.{line_lost, left_self, behind_left, put_same}
use Rattle.loader.proofs.ExpressionLines.{expression_no_first, expression_no_second, expression_no_origin, expression_no_word, expression_no_tail, expression_put_as}
use Rattle.loader.proofs.rows.read_expression.Goals as goal

pub returns-in_err-head : goal.returns-in_err-head
returns-in_err-head c =
    line_lost c.from_residual.ensures (left_self c.args.n _) (expression_no_first c.args.file.now _ (three_lost c.args.file.now _ Kind.Number Kind.Position Kind.Position c.three_words.result c.three_words.ensures c.in_err-head.was))

pub returns-in_err-links : goal.returns-in_err-links
returns-in_err-links c =
    let h = c.in_ok-head.head in
    line_lost c.from_residual-in_err-links.ensures (left_self c.args.n _) (expression_no_second c.args.file.now _ h (three_found c.args.file.now _ Kind.Number Kind.Position Kind.Position c.three_words.result c.three_words.ensures h c.in_ok-head.was) (three_lost c.args.file.now _ Kind.MaybeNumber Kind.MaybeNumber Kind.Nothing c.three_words-2.result c.three_words-2.ensures c.in_err-links.was))

pub returns-in_err-origin : goal.returns-in_err-origin
returns-in_err-origin c =
    let h = c.in_ok-head.head in
    let l = c.in_ok-links.links in
    line_lost c.from_residual-in_err-origin.ensures (left_self c.args.n _) (expression_no_origin c.args.file.now _ h (three_found c.args.file.now _ Kind.Number Kind.Position Kind.Position c.three_words.result c.three_words.ensures h c.in_ok-head.was) l (three_found c.args.file.now _ Kind.MaybeNumber Kind.MaybeNumber Kind.Nothing c.three_words-2.result c.three_words-2.ensures l c.in_ok-links.was) (subst (OriginIs c.args.file.now (drop l.end c.args.file.now)) c.in_err-origin.was c.read_origin.ensures))

pub returns-in_err-kind : goal.returns-in_err-kind
returns-in_err-kind c =
    let h = c.in_ok-head.head in
    let l = c.in_ok-links.links in
    let o = c.in_ok-origin.origin in
    line_lost c.from_residual-in_err-kind.ensures (left_self c.args.n _) (expression_no_word c.args.file.now _ h (three_found c.args.file.now _ Kind.Number Kind.Position Kind.Position c.three_words.result c.three_words.ensures h c.in_ok-head.was) l (three_found c.args.file.now _ Kind.MaybeNumber Kind.MaybeNumber Kind.Nothing c.three_words-2.result c.three_words-2.ensures l c.in_ok-links.was) o (subst (OriginIs c.args.file.now (drop l.end c.args.file.now)) c.in_ok-origin.was c.read_origin.ensures) (word_lost node_word_of c.args.file.now _ _ c.word_here.ensures.is c.in_err-kind.was))

pub returns-in_err-tail : goal.returns-in_err-tail
returns-in_err-tail c =
    let tp = tail_put_as {words' = c.read_tail.new.words} c.node_shape-shape.ensures c.read_tail.ensures in
    let h = c.in_ok-head.head in
    let l = c.in_ok-links.links in
    let o = c.in_ok-origin.origin in
    let k = c.in_ok-kind.kind in
    line_lost c.from_residual-in_err-tail.ensures (behind_left c.args.n c.requires.0 tp.behind) (expression_no_tail c.args.file.now _ h (three_found c.args.file.now _ Kind.Number Kind.Position Kind.Position c.three_words.result c.three_words.ensures h c.in_ok-head.was) l (three_found c.args.file.now _ Kind.MaybeNumber Kind.MaybeNumber Kind.Nothing c.three_words-2.result c.three_words-2.ensures l c.in_ok-links.was) o (subst (OriginIs c.args.file.now (drop l.end c.args.file.now)) c.in_ok-origin.was c.read_origin.ensures) k.word k.end (word_read node_word_of c.args.file.now _ _ c.word_here.ensures.is k c.in_ok-kind.was) (tail_none c.args.file.now _ _ _ _ tp.tail c.in_err-tail.was))

pub returns : goal.returns
returns c =
    let tp = tail_put_as {words' = c.read_tail.new.words} c.node_shape-shape.ensures c.read_tail.ensures in
    let h = c.in_ok-head.head in
    let l = c.in_ok-links.links in
    let o = c.in_ok-origin.origin in
    let k = c.in_ok-kind.kind in
    expression_put_as c.args.file.now _ h (three_found c.args.file.now _ Kind.Number Kind.Position Kind.Position c.three_words.result c.three_words.ensures h c.in_ok-head.was) l (three_found c.args.file.now _ Kind.MaybeNumber Kind.MaybeNumber Kind.Nothing c.three_words-2.result c.three_words-2.ensures l c.in_ok-links.was) o (subst (OriginIs c.args.file.now (drop l.end c.args.file.now)) c.in_ok-origin.was c.read_origin.ensures) k.word k.end (word_read node_word_of c.args.file.now _ _ c.word_here.ensures.is k c.in_ok-kind.was) c.args.n c.in_ok-tail.tail (tail_of c.args.file.now _ _ _ c.args.n.items tp.tail c.in_ok-tail.tail c.in_ok-tail.was) c.requires.0 c.requires.1 tp.behind (put_same (λ i. (c.node_number.ensures i + 256 * o.kind) ∷ c.low.ensures i ∷ c.low-2.ensures i ∷ c.low-3.ensures i ∷ c.low-4.ensures i ∷ c.low-5.ensures i ∷ o.link ∷ o.value ∷ c.low-6.ensures i ∷ c.low-7.ensures i ∷ (c.last_word.ensures ∙ ap (λ s. last_word s c.in_ok-tail.tail) c.node_shape-shape.ensures) i ∷ []) c.put.ensures)
