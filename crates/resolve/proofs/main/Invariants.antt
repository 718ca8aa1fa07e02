-- The buffers stay as long as they are, and each part leaves fewer lines.
use Rattle.std.proofs.Common.{◌≡◌, length}
use Rattle.answers.specs.Whole.{lines_left}
use Rattle.resolve.proofs.main.Given as goal

abbrev pub invariant-loop-question : goal.invariant-loop-question
invariant-loop-question l = (16384 ≡ length l.records) × (8192 ≡ length l.types) × (256 ≡ length l.demands) × (4160 ≡ length l.out)

abbrev pub decreases-loop-question : goal.decreases-loop-question
decreases-loop-question l = lines_left l.file l.from l.line
