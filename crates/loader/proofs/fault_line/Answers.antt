-- `loader::fault_line` meets its contract. Assumes nothing.
use mathlib.Core.Path.{sym, ◌∙◌}
use mathlib.Core.List.{[]}
use native.Mathlib.Omega.{arith}
use Rattle.loader.proofs.Faults.{faults_begun, modules_are, module_hit, hit_below, module_miss, question_hit, question_below, question_miss}
use Rattle.loader.proofs.fault_line.Goals as goal

pub loop-m-init : goal.loop-m-init
loop-m-init c = (omega arith, λ file. faults_begun file c.args.words.now)

pub overflow_add-result : goal.overflow_add-result
overflow_add-result c =
    let is = c.module_count-modules.ensures [] ∙ modules_are [] c.args.words.now in
    let below = hit_below [] c.args.words.now c.loop-m.place c.loop-m.m (omega (arith, is, c.loop-m-test.true)) c.module_fault.result (c.module_fault.ensures []) c.in-Some.k c.in-Some.is in
    omega (arith, is, c.requires, below, c.line_count-count.ensures.counts [], c.line_count-count.ensures.bounded, c.loop-m.invariant.0, c.loop-m-test.true)

pub returns-in-Some : goal.returns-in-Some
returns-in-Some c =
    let is = c.module_count-modules.ensures [] ∙ modules_are [] c.args.words.now in
    λ file. sym (c.loop-m.invariant.1 file ∙ module_hit file c.args.words.now c.loop-m.place c.loop-m.m (omega (arith, is, c.loop-m-test.true)) c.module_fault.result (c.module_fault.ensures file) c.in-Some.k c.in-Some.is)

pub overflow_add-place : goal.overflow_add-place
overflow_add-place c =
    let is = c.module_count-modules.ensures [] ∙ modules_are [] c.args.words.now in
    omega (arith, is, c.requires, c.line_count-count.ensures.bounded, c.loop-m.invariant.0, c.loop-m-test.true)

pub loop-m-preserved : goal.loop-m-preserved
loop-m-preserved c =
    let is = c.module_count-modules.ensures [] ∙ modules_are [] c.args.words.now in
    (omega (arith, c.loop-m.invariant.0, c.line_count-count.ensures.bounded), λ file. c.loop-m.invariant.1 file ∙ module_miss file c.args.words.now c.loop-m.place c.loop-m.m (omega (arith, is, c.loop-m-test.true)) c.module_fault.result (c.module_fault.ensures file) c.line_count-count.result (c.line_count-count.ensures.counts file) c.in_default.is)

pub returns-in_err-k : goal.returns-in_err-k
returns-in_err-k c =
    let is = c.module_count-modules.ensures [] ∙ modules_are [] c.args.words.now in
    λ file. c.from_residual.ensures ∙ sym (c.loop-m.invariant.1 file ∙ question_miss file c.args.words.now c.loop-m.place c.loop-m.m (omega (arith, is, c.loop-m-test.false)) c.question_fault.result (c.question_fault.ensures file) c.in_err-k.was)

pub overflow_add-result-2 : goal.overflow_add-result-2
overflow_add-result-2 c =
    let is = c.module_count-modules.ensures [] ∙ modules_are [] c.args.words.now in
    let below = question_below [] c.args.words.now c.loop-m.place c.loop-m.m (omega (arith, is, c.loop-m-test.false)) c.question_fault.result (c.question_fault.ensures []) c.in_ok-k.k c.in_ok-k.was in
    let fits_word = c.type_inv.words 1 in
    omega (arith, is, c.requires, below, fits_word, c.loop-m.invariant.0, c.loop-m.auto.m-end)

pub returns : goal.returns
returns c =
    let is = c.module_count-modules.ensures [] ∙ modules_are [] c.args.words.now in
    λ file. sym (c.loop-m.invariant.1 file ∙ question_hit file c.args.words.now c.loop-m.place c.loop-m.m (omega (arith, is, c.loop-m-test.false)) c.question_fault.result (c.question_fault.ensures file) c.in_ok-k.k c.in_ok-k.was)
