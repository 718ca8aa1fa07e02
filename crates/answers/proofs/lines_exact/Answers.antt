-- `answers::lines_exact` meets its contract: by whether the file is accepted and has the first question. Assumes nothing.
use Rattle.std.proofs.Common.{ap, ◌∙◌, replicate}
use native.Mathlib.Omega.{arith}
use mathlib.Core.Path.{sym, subst}
use Rattle.answers.specs.Numbers.{lines_numbers}
use Rattle.answers.specs.Promises.{ExactAnsweredFrom}
use Rattle.answers.proofs.Entries.{handed_on, file_loaded, file_refused, words_zero, refused_lines, past, lines_reply}
use Rattle.answers.proofs.lines_exact.Goals as goal

pub returns-then-question_count-from : goal.returns-then-question_count-from
returns-then-question_count-from c =
    let loaded = file_loaded _ _ _ _ _ c.requires.exact (c.in_ok-load.ensures.full (omega (arith, c.requires.exact.words_long))) in
    past _ _ _ _ _ _ _ _ loaded.is (omega (arith, c.question_count.ensures c.args.file.now, c.if-question_count-from.true)) (c.clear.ensures ∙ ap (λ n. replicate n 0) loaded.exact.words_long)

pub answer_lines-requires-clause-holds_file : goal.answer_lines-requires-clause-holds_file
answer_lines-requires-clause-holds_file c = file_loaded _ _ _ _ _ c.requires.exact (c.in_ok-load.ensures.full (omega (arith, c.requires.exact.words_long)))

pub returns-in_err-load : goal.returns-in_err-load
returns-in_err-load c =
    let a = c.args in
    let pre = c.requires.exact in
    let filled = c.in_err-load.ensures.full (omega (arith, pre.words_long)) in
    subst (λ r. ExactAnsweredFrom a.file.now a.from a.line a.types.now a.demands.now a.out.now c.load.new.records a.types.now a.demands.now a.out.now (lines_numbers r)) (sym (handed_on c.from_residual.ensures))
    (refused_lines _ _ _ _ _ _ _ _ _ (file_refused _ _ _ _ _ pre _ filled) (words_zero _ _ _ _ _ pre _ filled))

pub returns : goal.returns
returns c =
    let loaded = file_loaded _ _ _ _ _ c.requires.exact (c.in_ok-load.ensures.full (omega (arith, c.requires.exact.words_long))) in
    lines_reply _ _ _ _ _ _ _ loaded.is (omega (arith, c.question_count.ensures c.args.file.now, c.if-question_count-from.false)) _ _ _ _ c.answer_lines.ensures
