-- `line_text::write_refused` meets its contract: the word and the number stand behind the lead fields. Assumes nothing.
use mathlib.Core.Path.{sym, ap, subst, ◌∙◌}
use mathlib.Core.List.{◌++◌, append_assoc}
use native.Mathlib.Omega.{arith}
use lib.ListN.{length}
use lib.Seq.{length-take-le}
use Rattle.model.specs.Common.{bytes}
use Rattle.views.specs.Asking.{asked_of}
use Rattle.resolution.specs.Answer.{decimal, asked_lead, verdict_fields}
use Rattle.type_text.proofs.Writing.{writes_then, start_is}
use Rattle.line_text.specs.Lines.{WrittenIs}
use Rattle.line_text.proofs.Lines.{ten_digits}
use Rattle.line_text.proofs.write_refused.Goals as goal

pub put_decimal-requires : goal.put_decimal-requires
put_decimal-requires c =
    let begun = c.new-writer.ensures in
    omega (arith, c.put.ensures.wrote.next, c.put.ensures.long, begun.at, ap length begun.bytes, ten_digits c.args.number c.ranges.number.fits)

pub slice_bounds-fields-end : goal.slice_bounds-fields-end
slice_bounds-fields-end c =
    let digits = ten_digits c.args.number c.ranges.number.fits in
    omega (arith, digits, c.new-writer.ensures.at, c.put.ensures.wrote.next, c.put_decimal.ensures.wrote.next, c.fields-2-1.given.1.0)

pub slice_bounds-write_fields-end : goal.slice_bounds-write_fields-end
slice_bounds-write_fields-end c =
    let digits = ten_digits c.args.number c.ranges.number.fits in
    sym (length-take-le c.put_decimal.new.self.at _ (omega (arith, digits, c.new-writer.ensures.at, c.put.ensures.wrote.next, c.put_decimal.ensures.wrote.next, c.fields-2-1.given.1.0)))

pub returns : goal.returns
unfolding verdict_fields
returns c =
    let digits = ten_digits c.args.number c.ranges.number.fits in
    let lead = asked_lead (asked_of c.args.asked) in
    let begun = c.new-writer.ensures in
    let fields = bytes "refused\t" ++ decimal c.args.number in
    let all = writes_then (bytes "refused\t") (decimal c.args.number) _ _ _ (omega (arith, begun.at)) c.put.ensures c.put_decimal.ensures in
    let front =
    start_is fields _ _ _ _ begun.bytes begun.at (c.fields-2-1.given.1.1 (sym begun.same_buffer ∙ sym all.same_buffer))
    (omega (arith, all.wrote.next, digits, c.put.ensures.wrote.next, c.put_decimal.ensures.wrote.next, begun.at, ap length begun.bytes))
    all in
    (subst (λ l. WrittenIs (lead ++ l) c.args.out.now c.write_fields.new.out c.write_fields.result) (ap (λ l. l ++ bytes "\n") front ∙ append_assoc (bytes "refused\t") (decimal c.args.number) (bytes "\n")) c.write_fields.ensures)
