-- `answers::answer_lines`: before each line those so far stand at the start, and what is to be filled is the same.
use Rattle.std.proofs.Common.{◌+◌, ◌-◌, ◌*◌}
use Rattle.records.specs.Layout.{index_of}
use Rattle.answers.proofs.Filling.{Filling}
use Rattle.answers.proofs.answer_lines.Given as goal

abbrev pub invariant-loop-next : goal.invariant-loop-next
invariant-loop-next l =
    Filling l.index.file.now (index_of l.index.file.now l.index.words.now) l.from l.start l.initial.types l.initial.demands l.initial.out l.types l.demands l.out l.next l.line l.at

abbrev pub decreases-loop-next : goal.decreases-loop-next
decreases-loop-next l = (l.count - l.next) * 1024 + (513 - l.line)
