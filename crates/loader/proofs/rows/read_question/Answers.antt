-- `loader::rows::read_question` meets its contract. Assumes nothing.
use mathlib.Core.List.{[], ◌∷◌}
use Rattle.format.specs.Words.{question_word_of}
use Rattle.fields.proofs.Slots.{word_read, word_lost}
use Rattle.loader.proofs.Tailing.{tail_of, tail_none, tail_put_as}
use Rattle.loader.proofs.Leaving.{line_lost, left_self, behind_left, put_same}
use Rattle.loader.proofs.QuestionLines.{question_no_word, question_no_tail, question_put_as}
use Rattle.loader.proofs.rows.read_question.Goals as goal

pub returns-in_err-kind : goal.returns-in_err-kind
returns-in_err-kind c =
    line_lost c.from_residual.ensures (left_self c.args.n _) (question_no_word c.args.file.now _ (word_lost question_word_of c.args.file.now _ _ c.word_here.ensures.is c.in_err-kind.was))

pub returns-in_err-tail : goal.returns-in_err-tail
returns-in_err-tail c =
    let tp = tail_put_as {words' = c.read_tail.new.words} c.question_shape-shape.ensures c.read_tail.ensures in
    let k = c.in_ok-kind.kind in
    line_lost c.from_residual-in_err-tail.ensures (behind_left c.args.n c.requires.0 tp.behind) (question_no_tail c.args.file.now _ k.word k.end (word_read question_word_of c.args.file.now _ _ c.word_here.ensures.is k c.in_ok-kind.was) (tail_none c.args.file.now _ _ _ _ tp.tail c.in_err-tail.was))

pub returns : goal.returns
returns c =
    let tp = tail_put_as {words' = c.read_tail.new.words} c.question_shape-shape.ensures c.read_tail.ensures in
    let k = c.in_ok-kind.kind in
    question_put_as c.args.file.now _ k.word k.end (word_read question_word_of c.args.file.now _ _ c.word_here.ensures.is k c.in_ok-kind.was) c.args.n c.in_ok-tail.tail (tail_of c.args.file.now _ _ _ c.args.n.items tp.tail c.in_ok-tail.tail c.in_ok-tail.was) c.requires.0 c.requires.1 tp.behind (put_same (λ i. c.question_number.ensures i ∷ c.low.ensures i ∷ c.low-2.ensures i ∷ c.low-3.ensures i ∷ []) c.put.ensures)
