-- `check_index::LineBuffer::put_numbers` meets its contract: number by number. Assumes nothing.
use Prim.Native.Nat.{◌+◌, ◌*◌, ◌≤◌}
use mathlib.Core.Path.{◌≡◌}
use lib.ListN.{length, take}
use Rattle.check_index.specs.Line.{counted}
use Rattle.check_index.proofs.LineBuffer.put_numbers.Given as goal

abbrev pub invariant-loop-n : goal.invariant-loop-n
invariant-loop-n l = (length l.self ≤ length l.initial.self + 21 * l.n-index)
    × (l.self ≡ counted l.initial.self (take l.n-index l.numbers))
