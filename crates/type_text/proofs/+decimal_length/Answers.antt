-- The digits counted: a tenth of a number is below it, so the calls end. Assumes nothing.
use Prim.Native.Nat.{◌+◌}
use mathlib.Core.Path.{sym, ap, ◌∙◌}
use native.Mathlib.Omega.{arith}
use lib.ListN.{length}
use Rattle.type_text.proofs.Decimals.{decimal_small, length_large, decimal_short}
use Rattle.type_text.proofs.+decimal_length.Goals as goal

pub returns-then-n-lt10 : goal.returns-then-n-lt10
returns-then-n-lt10 t c = record { count = sym (ap length (decimal_small c.args.n c.if-n-lt10.true)); few = omega arith }

pub returns : goal.returns
returns t c = let here = ap (λ k. k + 1) c.decimal_length.ensures.count ∙ sym (length_large c.args.n c.if-n-lt10.false) in
    record { count = here; few = omega (arith, here, decimal_short c.args.n c.ranges.n.fits) }
