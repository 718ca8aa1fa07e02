-- `answers::answer_lines` meets its contract: before each line those so far stand at the start, and what is to be filled is the same. Assumes nothing.
use native.Mathlib.Omega.{arith}
use Rattle.answers.proofs.AskedLines.{few}
use Rattle.answers.proofs.Filling.{filling_on, filling_past, filled_more, filled_end}
use Rattle.answers.proofs.answer_lines.Goals as goal

pub returns-in-NoRoom : goal.returns-in-NoRoom
returns-in-NoRoom c = filled_more _ _ _ _ _ _ _ _ _ _ _ _ _ c.loop-next.invariant c.requires.out_len _ _ _ c.in-NoRoom.ensures

pub overflow_add-line : goal.overflow_add-line
overflow_add-line c = omega (arith, few c.args.index.now.file.now _ c.requires.holds_file.is _ _ c.loop-next.line c.in-Line.ensures.after.there.is_line)

pub loop-next-smaller-in-Line : goal.loop-next-smaller-in-Line
loop-next-smaller-in-Line c = omega (arith, few c.args.index.now.file.now _ c.requires.holds_file.is _ _ c.loop-next.line c.in-Line.ensures.after.there.is_line)

pub loop-next-preserved-in-Line : goal.loop-next-preserved-in-Line
loop-next-preserved-in-Line c =
    let all = c.answer_line.auto in
    filling_on _ _ _ _ _ _ _ _ _ _ _ _ _ c.loop-next.invariant c.requires.out_len _ _ _ _ c.in-Line.ensures all.types all.demands

pub loop-next-preserved : goal.loop-next-preserved
loop-next-preserved c = filling_past _ _ _ _ _ _ _ _ _ _ _ _ _ c.loop-next.invariant c.requires.out_len _ _ _ c.in-PastLast.ensures

pub returns : goal.returns
returns c = filled_end _ _ _ _ _ _ _ _ _ _ _ _ _ c.loop-next.invariant (omega (arith, c.question_count-count.ensures c.args.index.now.file.now))
