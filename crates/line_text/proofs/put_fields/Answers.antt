-- `line_text::put_fields` meets its contract: its parts one behind the other. Assumes nothing.
use mathlib.Core.List.{◌++◌}
use native.Mathlib.Omega.{arith}
use Rattle.model.specs.Common.{bytes}
use Rattle.resolution.specs.Answer.{decimal}
use Rattle.type_text.proofs.Writing.{writes_then}
use Rattle.line_text.proofs.Lines.{ten_digits, lead_few}
use Rattle.line_text.proofs.put_fields.Goals as goal

pub put_decimal-requires : goal.put_decimal-requires
put_decimal-requires c =
    omega (arith, c.requires.kind_len_bound, c.requires.in_bounds, c.put.ensures.wrote.next, c.put.ensures.long, ten_digits c.args.m c.ranges.m.fits)

pub put-requires-2 : goal.put-requires-2
put-requires-2 c =
    omega (arith, c.requires.kind_len_bound, c.requires.in_bounds, c.put.ensures.wrote.next, c.put.ensures.long, ten_digits c.args.m c.ranges.m.fits, c.put_decimal.ensures.wrote.next, c.put_decimal.ensures.long)

pub put_decimal-requires-2 : goal.put_decimal-requires-2
put_decimal-requires-2 c =
    omega (arith, c.requires.kind_len_bound, c.requires.in_bounds, c.put.ensures.wrote.next, c.put.ensures.long, ten_digits c.args.m c.ranges.m.fits, c.put_decimal.ensures.wrote.next, c.put_decimal.ensures.long, c.put-2.ensures.wrote.next, c.put-2.ensures.long, ten_digits c.args.n c.ranges.n.fits)

pub put-requires-3 : goal.put-requires-3
put-requires-3 c =
    omega (arith, c.requires.kind_len_bound, c.requires.in_bounds, c.put.ensures.wrote.next, c.put.ensures.long, ten_digits c.args.m c.ranges.m.fits, c.put_decimal.ensures.wrote.next, c.put_decimal.ensures.long, c.put-2.ensures.wrote.next, c.put-2.ensures.long, ten_digits c.args.n c.ranges.n.fits, c.put_decimal-2.ensures.wrote.next, c.put_decimal-2.ensures.long)

pub returns : goal.returns
returns c =
    let m = ten_digits c.args.m c.ranges.m.fits in
    let n = ten_digits c.args.n c.ranges.n.fits in
    record {
      writes =
          writes_then c.args.kind.now (decimal c.args.m ++ (bytes "\t" ++ (decimal c.args.n ++ bytes "\t"))) _ _ _ (omega (arith, c.requires.in_bounds)) c.put.ensures
          (writes_then (decimal c.args.m) (bytes "\t" ++ (decimal c.args.n ++ bytes "\t")) _ _ _ (omega (arith, c.requires.kind_len_bound, c.requires.in_bounds, c.put.ensures.wrote.next, c.put.ensures.long)) c.put_decimal.ensures
          (writes_then (bytes "\t") (decimal c.args.n ++ bytes "\t") _ _ _ (omega (arith, c.requires.kind_len_bound, c.requires.in_bounds, m, c.put.ensures.wrote.next, c.put.ensures.long, c.put_decimal.ensures.wrote.next, c.put_decimal.ensures.long)) c.put-2.ensures
          (writes_then (decimal c.args.n) (bytes "\t") _ _ _ (omega (arith, c.requires.kind_len_bound, c.requires.in_bounds, m, c.put.ensures.wrote.next, c.put.ensures.long, c.put_decimal.ensures.wrote.next, c.put_decimal.ensures.long, c.put-2.ensures.wrote.next, c.put-2.ensures.long)) c.put_decimal-2.ensures c.put-3.ensures)));
      few = lead_few c.args.kind.now c.args.m c.args.n c.requires.kind_len_bound m n;
    }
