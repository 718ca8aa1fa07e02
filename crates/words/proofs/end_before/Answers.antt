-- `words::end_before` meets its contract: the bytes from `e` on end where those from `from` on do. Assumes nothing.
use mathlib.Core.Path.{refl, sym, ap, ◌∙◌}
use native.Mathlib.Omega.{arith}
use lib.ListN.{length}
use Rattle.words.proofs.Bytes.{until_stop, until_more, until_end}
use Rattle.words.proofs.end_before.Goals as goal

pub loop-e-init : goal.loop-e-init
loop-e-init g c = λ stop tests. refl

pub returns-then-stop : goal.returns-then-stop
returns-then-stop g c =
    record { ends = λ stop tests. omega (arith, c.loop-e.invariant stop tests, ap length (until_stop stop c.args.file.now c.loop-e.e c.loop-e-test.true (sym (tests _ _ c.stop.ensures) ∙ c.if-stop.true))) }

pub loop-e-preserved : goal.loop-e-preserved
loop-e-preserved g c =
    λ stop tests. omega (arith, c.loop-e.invariant stop tests, ap length (until_more stop c.args.file.now c.loop-e.e c.loop-e-test.true (sym (tests _ _ c.stop.ensures) ∙ c.if-stop.false)))

pub returns : goal.returns
returns g c =
    record { ends = λ stop tests. c.max.ensures ∙ until_end stop c.args.file.now c.args.from c.loop-e.e c.loop-e.auto.e-end c.loop-e-test.false (c.loop-e.invariant stop tests) }
