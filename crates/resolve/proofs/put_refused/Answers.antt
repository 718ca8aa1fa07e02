-- `resolve::put_refused` meets its contract: its parts one behind the other. Assumes nothing.
use mathlib.Core.Path.{sym, ap, ◌∙◌}
use native.Mathlib.Omega.{arith}
use lib.ListN.{length}
use Rattle.std.proofs.Common.{◌++◌}
use Rattle.model.specs.Common.{bytes}
use Rattle.resolution.specs.Answer.{decimal}
use Rattle.resolution.specs.Resolve.{refusal_line}
use Rattle.type_text.proofs.Writing.{writes_then, from_start}
use Rattle.line_text.proofs.Lines.{ten_digits}
use Rattle.resolve.proofs.put_refused.Goals as goal

pub put-requires : goal.put-requires
put-requires c = omega (arith, c.requires, c.new-writer.ensures.at, ap length c.new-writer.ensures.bytes)

pub put_decimal-requires : goal.put_decimal-requires
put_decimal-requires c =
    let begun = c.new-writer.ensures in
    let word = c.put.ensures in
    omega (arith, c.requires, begun.at, ap length begun.bytes, word.wrote.next, word.long, ten_digits c.args.number c.ranges.number.fits)

pub put-requires-2 : goal.put-requires-2
put-requires-2 c =
    let begun = c.new-writer.ensures in
    let word = c.put.ensures in
    let first = c.put_decimal.ensures in
    omega (arith, c.requires, begun.at, ap length begun.bytes, word.wrote.next, word.long, ten_digits c.args.number c.ranges.number.fits, first.wrote.next, first.long)

pub put_decimal-requires-2 : goal.put_decimal-requires-2
put_decimal-requires-2 c =
    let begun = c.new-writer.ensures in
    let word = c.put.ensures in
    let first = c.put_decimal.ensures in
    let tab = c.put-2.ensures in
    omega (arith, c.requires, begun.at, ap length begun.bytes, word.wrote.next, word.long, ten_digits c.args.number c.ranges.number.fits, first.wrote.next, first.long, tab.wrote.next, tab.long, ten_digits c.args.line c.ranges.line.fits)

pub put-requires-3 : goal.put-requires-3
put-requires-3 c =
    let begun = c.new-writer.ensures in
    let word = c.put.ensures in
    let first = c.put_decimal.ensures in
    let tab = c.put-2.ensures in
    let second = c.put_decimal-2.ensures in
    omega (arith, c.requires, begun.at, ap length begun.bytes, word.wrote.next, word.long, ten_digits c.args.number c.ranges.number.fits, first.wrote.next, first.long, tab.wrote.next, tab.long, ten_digits c.args.line c.ranges.line.fits, second.wrote.next, second.long)

pub returns : goal.returns
unfolding refusal_line
returns c =
    let a = c.args in
    let begun = c.new-writer.ensures in
    let room = ap length begun.bytes in
    let one = c.put.ensures in
    let two = c.put_decimal.ensures in
    let three = c.put-2.ensures in
    let four = c.put_decimal-2.ensures in
    let five = c.put-3.ensures in
    let m = ten_digits a.number c.ranges.number.fits in
    let n = ten_digits a.line c.ranges.line.fits in
    let all =
    writes_then (bytes "refused\t") (decimal a.number ++ (bytes "\t" ++ (decimal a.line ++ bytes "\n"))) _ _ _ (omega (arith, begun.at)) one
    (writes_then (decimal a.number) (bytes "\t" ++ (decimal a.line ++ bytes "\n")) _ _ _ (omega (arith, c.requires, begun.at, room, one.wrote.next, one.long)) two
    (writes_then (bytes "\t") (decimal a.line ++ bytes "\n") _ _ _ (omega (arith, c.requires, begun.at, room, m, one.wrote.next, one.long, two.wrote.next, two.long)) three
    (writes_then (decimal a.line) (bytes "\n") _ _ _ (omega (arith, c.requires, begun.at, room, m, one.wrote.next, one.long, two.wrote.next, two.long, three.wrote.next, three.long)) four five))) in
    record {
      wrote = from_start _ _ _ _ _ begun.bytes begun.at (c.out-1.given.1.1 (sym begun.same_buffer ∙ sym all.same_buffer)) all;
      few = omega (arith, begun.at, m, n, one.wrote.next, two.wrote.next, three.wrote.next, four.wrote.next, five.wrote.next);
    }
