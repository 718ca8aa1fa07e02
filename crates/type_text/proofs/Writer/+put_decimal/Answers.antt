-- The digits written: a tenth of a number is below it, so the calls end. Assumes nothing.
use Prim.Native.Nat.{◌+◌, ◌/◌, ◌%◌}
use mathlib.Core.Path.{sym, ap}
use mathlib.Core.List.{[], ◌∷◌}
use native.Mathlib.Omega.{arith}
use lib.ListN.{length}
use Rattle.resolution.specs.Answer.{decimal}
use Rattle.type_text.proofs.Decimals.{decimal_small, decimal_large, length_large}
use Rattle.type_text.proofs.Writing.{writes_then, writes_as}
use Rattle.type_text.proofs.Writer.+put_decimal.Goals as goal

pub put-requires : goal.put-requires
put-requires t c = omega (arith, c.requires, ap length (decimal_small c.args.n c.if-n-lt10.true))

pub returns-then-n-lt10 : goal.returns-then-n-lt10
returns-then-n-lt10 t c = writes_as _ _ _ _ (sym (decimal_small c.args.n c.if-n-lt10.true)) c.put.ensures

pub put_decimal-requires : goal.put_decimal-requires
put_decimal-requires t c = (omega arith, omega (arith, c.requires, length_large c.args.n c.if-n-lt10.false))

pub put-requires-2 : goal.put-requires-2
put-requires-2 t c = omega (arith, c.put_decimal.ensures.wrote.next, c.put_decimal.ensures.long, c.requires, length_large c.args.n c.if-n-lt10.false)

pub returns : goal.returns
returns t c =
    writes_as _ _ _ _ (sym (decimal_large c.args.n c.if-n-lt10.false))
    (writes_then (decimal (c.args.n / 10)) ((48 + c.args.n % 10) ∷ []) _ _ _ (omega (arith, c.requires)) c.put_decimal.ensures c.put-2.ensures)
