-- `line_text::write_fields` meets its contract: its parts one behind the other, and then all of it where there is room. Assumes nothing.
use mathlib.Core.Path.{◌≡◌, sym, ap, ap₂, ◌∙◌}
use mathlib.Core.List.{◌++◌}
use native.Mathlib.Omega.{arith}
use lib.ListN.{length, drop}
use Rattle.model.specs.Common.{bytes}
use Rattle.views.specs.Asking.{asked_of}
use Rattle.resolution.specs.Answer.{asked_lead}
use Rattle.type_text.proofs.Writing.{writes_then, start_is}
use Rattle.line_text.proofs.write_fields.Goals as goal

pub returns : goal.returns
returns c =
    let lead = asked_lead (asked_of c.args.asked) in
    let line = lead ++ (c.args.fields.now ++ bytes "\n") in
    let begun = c.new-writer.ensures in
    let led = c.put_lead.ensures in
    let all =
    writes_then lead (c.args.fields.now ++ bytes "\n") _ _ _ (omega (arith, begun.at)) led.writes
    (writes_then c.args.fields.now (bytes "\n") _ _ _ (omega (arith, led.few, led.writes.wrote.next, led.writes.long, begun.at, ap length begun.bytes)) c.put.ensures c.put-2.ensures) in
    let long : c.put-2.new.self.at ≡ length line = omega (arith, all.wrote.next, begun.at) in
    let front =
    start_is line _ _ _ _ begun.bytes begun.at (c.line-2-1.given.1.1 (sym begun.same_buffer ∙ sym all.same_buffer))
    (omega (arith, all.wrote.next, c.put-2.ensures.wrote.next, c.put.ensures.wrote.next, led.writes.wrote.next, led.few, c.requires, begun.at, ap length begun.bytes))
    all in
    record {
      long = long;
      fits = c.if-out-end.false;
      bytes = ap₂ (λ l n. l ++ drop n c.args.out.now) (c.copy_from_slice.ensures.after ∙ front) long;
    }
