-- `type_text::copy` meets its contract: byte for byte. Assumes nothing.
use native.Mathlib.Omega.{arith}
use Rattle.std.proofs.lemmas.List.{ext_get_or}
use Rattle.type_text.proofs.copy.Goals as goal

pub returns : goal.returns
returns c = ext_get_or 0 c.loop-i.to c.args.text.now c.loop-i.invariant.1 (λ j less. c.loop-i.invariant.2 j (omega arith))
