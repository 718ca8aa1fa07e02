-- `loader::rows::read_origin` meets its contract. Assumes nothing.
use mathlib.Core.Path.{◌≡◌, sym, subst}
use Rattle.std.specs.Prelude.{Some}
use lib.ListN.{drop}
use Rattle.format.specs.declared.Kind.{Kind}
use Rattle.format.specs.Tails as tails
use Rattle.format.specs.Words.{origin_word_of}
use Rattle.format.specs.Shapes.{origin_shape}
use Rattle.fields.proofs.Slots.{word_read, word_lost}
use Rattle.loader.specs.Lines.{OriginIs}
use Rattle.loader.specs.Values.{three_words_is}
use Rattle.loader.proofs.Tailing.{three_found, three_lost}
use Rattle.loader.proofs.ExpressionLines.{origin_no_word, origin_no_three, origin_held}
use Rattle.loader.proofs.rows.read_origin.Goals as goal

pub returns-in_err-kind : goal.returns-in_err-kind
returns-in_err-kind c =
    subst (OriginIs c.args.file.now _) (sym c.from_residual.ensures) (origin_no_word c.args.file.now _ (word_lost origin_word_of c.args.file.now _ _ c.word_here.ensures.is c.in_err-kind.was))

pub returns-in_err-three : goal.returns-in_err-three
returns-in_err-three c =
    let k = c.in_ok-kind.kind in
    let th = subst (λ s. three_words_is s.a s.b Kind.Nothing c.args.file.now c.three_words.result ≡ tails.three s.a s.b Kind.Nothing (drop k.end c.args.file.now)) c.origin_shape-shape.ensures c.three_words.ensures in
    subst (OriginIs c.args.file.now _) (sym c.from_residual-in_err-three.ensures) (origin_no_three c.args.file.now _ k.word k.end (word_read origin_word_of c.args.file.now _ _ c.word_here.ensures.is k c.in_ok-kind.was) (three_lost c.args.file.now _ (origin_shape k.word).a (origin_shape k.word).b Kind.Nothing c.three_words.result th c.in_err-three.was))

pub returns : goal.returns
returns c =
    let k = c.in_ok-kind.kind in
    let th = subst (λ s. three_words_is s.a s.b Kind.Nothing c.args.file.now c.three_words.result ≡ tails.three s.a s.b Kind.Nothing (drop k.end c.args.file.now)) c.origin_shape-shape.ensures c.three_words.ensures in
    subst (OriginIs c.args.file.now _) (λ i. Some (record { kind = sym c.origin_number.ensures i; link = sym c.low.ensures i; value = sym c.low-2.ensures i; end = c.in_ok-three.three.end })) (origin_held c.args.file.now _ k.word k.end (word_read origin_word_of c.args.file.now _ _ c.word_here.ensures.is k c.in_ok-kind.was) c.in_ok-three.three (three_found c.args.file.now _ (origin_shape k.word).a (origin_shape k.word).b Kind.Nothing c.three_words.result th c.in_ok-three.three c.in_ok-three.was))
