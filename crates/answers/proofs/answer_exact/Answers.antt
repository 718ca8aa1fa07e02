-- `answers::answer_exact` meets its contract: by whether the file is accepted. Assumes nothing.
use native.Mathlib.Omega.{arith}
use mathlib.Core.Path.{sym, subst}
use Rattle.answers.specs.Numbers.{line_numbers}
use Rattle.answers.specs.Promises.{ExactAnswered}
use Rattle.answers.proofs.Entries.{handed_on, file_loaded, file_refused, words_zero, refused_file}
use Rattle.answers.proofs.answer_exact.Goals as goal

pub answer_loaded-requires-clause-holds_file : goal.answer_loaded-requires-clause-holds_file
answer_loaded-requires-clause-holds_file c = file_loaded _ _ _ _ _ c.requires.exact (c.in_ok-load.ensures.full (omega (arith, c.requires.exact.words_long)))

pub returns-in_err-load : goal.returns-in_err-load
returns-in_err-load c =
    let a = c.args in
    let pre = c.requires.exact in
    let filled = c.in_err-load.ensures.full (omega (arith, pre.words_long)) in
    subst (λ r. ExactAnswered a.file.now a.number a.line a.types.now a.demands.now a.out.now c.load.new.records a.types.now a.demands.now a.out.now (line_numbers r)) (sym (handed_on c.from_residual.ensures))
    (refused_file _ _ _ _ _ _ _ _ _ (file_refused _ _ _ _ _ pre _ filled) (words_zero _ _ _ _ _ pre _ filled))
