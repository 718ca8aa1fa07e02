-- `loader::pass::first_pass` meets its contract. Assumes nothing.
use mathlib.Core.Path.{◌≡◌}
use Prim.Native.Nat.{◌+◌, ◌≤◌}
use lib.ListN.{length, drop}
use Rattle.format.specs.FirstPass.{first_pass}
use Rattle.loader.specs.State.{seen_as}
use Rattle.loader.specs.Steps.{Good}
use Rattle.loader.proofs.Finishing.{lines_from}
use Rattle.loader.proofs.pass.first_pass.Given as goal

abbrev pub invariant-loop-at : goal.invariant-loop-at
invariant-loop-at l = Good l.file l.words l.n
    × (length l.words ≡ length l.initial.words)
    × (l.line + length (drop l.at l.file) ≤ 2 + length (drop l.from l.file))
    × (first_pass l.version (drop l.from l.file) ≡ lines_from l.line (seen_as l.version l.file l.words l.n) (drop l.at l.file))

abbrev pub decreases-loop-at : goal.decreases-loop-at
decreases-loop-at l = length (drop l.at l.file)
