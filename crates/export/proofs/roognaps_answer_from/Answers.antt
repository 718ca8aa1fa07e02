-- `export::roognaps_answer_from` meets its contract: the number stands for the answer, and is read as it. Assumes nothing.
use Rattle.answers.specs.Numbers.{lines_numbers}
use Rattle.answers.proofs.Sizes.{any_answers_fit}
use Rattle.export.proofs.roognaps_answer_from.Goals as goal

pub returns : goal.returns
returns c =
    let call = c.answer_from in
    let packed = c.lines_result.ensures in
    record { answer = lines_numbers call.result; is = packed.is; reads = packed.reads (any_answers_fit _ _ _ _ _ (lines_numbers call.result) call.ensures.short call.ensures.full); short = call.ensures.short; full = call.ensures.full }
