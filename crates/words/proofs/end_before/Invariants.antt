-- `words::end_before` meets its contract: the bytes from `e` on end where those from `from` on do. Assumes nothing.
use Rattle.std.proofs.Common.{◌≡◌, ℕ}
use Rattle.std.specs.Prelude.{Bool, ◌+◌, length, drop}
use Rattle.words.specs.Ends.{until, Tests}
use Rattle.words.proofs.end_before.Given as goal

abbrev pub invariant-loop-e : goal.invariant-loop-e
invariant-loop-e g l =
    (stop : ℕ → Bool) → Tests (goal.F-post g l.stop) stop → l.e + length (until stop (drop l.e l.file)) ≡ l.from + length (until stop (drop l.from l.file))
