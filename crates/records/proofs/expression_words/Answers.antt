-- `records::expression_words` meets its contract. Assumes nothing.
use Prim.Native.Nat.{◌+◌}
use mathlib.Core.Path.{refl}
use Rattle.records.specs.Layout.{expression_place}
use Rattle.records.proofs.Eleven.{eleven_words}
use Rattle.records.proofs.expression_words.Goals as goal

pub returns : goal.returns
returns c = eleven_words c.args.words.now (expression_place (c.args.first + c.args.i)) c.word_at.ensures c.word_at-2.ensures c.word_at-3.ensures c.word_at-4.ensures c.word_at-5.ensures c.word_at-6.ensures c.word_at-7.ensures c.word_at-8.ensures c.word_at-9.ensures c.word_at-10.ensures c.word_at-11.ensures

pub returns-then-at-words : goal.returns-then-at-words
returns-then-at-words c = eleven_words c.args.words.now (expression_place (c.args.first + c.args.i)) refl refl refl refl refl refl refl refl refl refl refl
