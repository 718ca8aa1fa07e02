-- `export::roognaps_answer` meets its contract: the number stands for the answer, and is read as it. Assumes nothing.
use Rattle.answers.specs.Numbers.{line_numbers}
use Rattle.answers.proofs.Sizes.{an_answer_fits}
use Rattle.export.proofs.roognaps_answer.Goals as goal

pub returns : goal.returns
returns c =
    let call = c.answer in
    let packed = c.line_result.ensures in
    record { answer = line_numbers call.result; is = packed.is; reads = packed.reads (an_answer_fits _ _ _ _ _ (line_numbers call.result) call.ensures.short call.ensures.full); short = call.ensures.short; full = call.ensures.full }
