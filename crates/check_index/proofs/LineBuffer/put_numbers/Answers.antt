-- `check_index::LineBuffer::put_numbers` meets its contract: number by number. Assumes nothing.
use mathlib.Core.Path.{ap, ◌∙◌}
use mathlib.Core.List.{[], ◌∷◌}
use native.Mathlib.Omega.{arith}
use lib.ListN.{get_or}
use Rattle.check_index.specs.Line.{counted}
use Rattle.check_index.proofs.Puts.{counted_more}
use Rattle.check_index.proofs.LineBuffer.put_numbers.Goals as goal

pub loop-n-preserved : goal.loop-n-preserved
loop-n-preserved c =
    let i = c.loop-n.n-index in
    let ns = c.args.numbers.now in
    let put = c.put_number.ensures in (
      omega (arith, put.ends, c.loop-n.invariant.0),
      put.puts ∙ ap (λ t. counted t (get_or ns i 0 ∷ [])) c.loop-n.invariant.1 ∙ counted_more c.args.self.now ns i c.loop-n-test.true,
    )
