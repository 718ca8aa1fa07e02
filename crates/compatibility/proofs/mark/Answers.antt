-- `compatibility::mark` meets its contract: the bit of the place is set in the word that holds it. Assumes nothing.
use native.Mathlib.Omega.{arith}
use Rattle.compatibility.proofs.Bits.{shifted_one}
use Rattle.compatibility.proofs.Store.{bit_set}
use Rattle.compatibility.proofs.mark.Goals as goal

pub returns : goal.returns
returns c =
    bit_set c.args.seen.now c.args.at _ c.requires (shifted_one _ (omega arith))
