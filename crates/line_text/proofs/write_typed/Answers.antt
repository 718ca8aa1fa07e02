-- `line_text::write_typed` meets its contract: the text stands between the lead fields and the LF, or nothing is written. Assumes nothing.
use Prim.Native.Nat.{◌+◌, ◌-◌, ◌<◌}
use mathlib.Core.Path.{◌≡◌, refl, sym, ap, subst, ◌∙◌}
use mathlib.Core.List.{◌++◌}
use native.Mathlib.Omega.{arith}
use borrow.Rule.Slice.PartMut.{mid_of, put_same, put_mid, same_len_mid}
use lib.ListN.{length, drop, length-append, length-take, length-drop}
use Rattle.std.specs.Prelude.{Err}
use Rattle.model.specs.Common.{Text, bytes}
use Rattle.views.specs.Asking.{asked_of}
use Rattle.resolution.specs.Answer.{type_text, text_verdict, asked_lead}
use Rattle.type_table.specs.Layout.{table_of}
use Rattle.type_text.specs.declared.TextError.{TextError}
use Rattle.type_text.specs.Text.{Wrote}
use Rattle.type_text.proofs.Writing.{writes_then, start_is, from_start}
use Rattle.type_text.proofs.Laws.{written, too_long, no_room, verdict_typed, verdict_refused}
use Rattle.line_text.specs.Lines.{line_error_of, LinePut, TriedIs, Answering, line_with}
use Rattle.line_text.proofs.Lines.{handed_on, between, typed_line, typed_length, line_longer}
use Rattle.line_text.proofs.write_typed.Goals as goal

pub returns-then-len-at : goal.returns-then-len-at
returns-then-len-at c =
    let lead = asked_lead (asked_of c.args.asked) in
    let text = type_text (table_of c.args.types.now.file.now c.args.types.now.words.now) c.args.t in
    let begun = c.new-writer.ensures in
    let all = writes_then lead (bytes "type\t") _ _ _ (omega (arith, begun.at)) c.put_lead.ensures.writes c.put.ensures in
    record {
      short = omega (arith, line_longer lead text, all.wrote.next, begun.at, length-append lead (bytes "type\t"), c.if-len-at.true);
      same = refl;
    }

pub overflow_add-line : goal.overflow_add-line
overflow_add-line c = omega (arith, c.if-len-at.false, (written c.write_text.ensures c.in_ok-n.n c.in_ok-n.was).fits, length-take (length c.args.out.now - 1 - c.put.new.self.at) (drop c.put.new.self.at c.args.out.now), length-drop c.put.new.self.at c.args.out.now)

pub put-requires-3 : goal.put-requires-3
put-requires-3 c =
    let stands = written c.write_text.ensures c.in_ok-n.n c.in_ok-n.was in
    let long = same_len_mid c.put.new.self.at (length c.args.out.now - 1 - c.put.new.self.at) c.args.out.now c.write_text.new.out stands.same_length in
    omega (arith, c.if-len-at.false, stands.fits, length-take (length c.args.out.now - 1 - c.put.new.self.at) (drop c.put.new.self.at c.args.out.now), length-drop c.put.new.self.at c.args.out.now, c.put-2.ensures.long, ap length c.new-line.ensures.bytes, long)

pub returns-in_err-n : goal.returns-in_err-n
returns-in_err-n c =
    handed_on lead (text_verdict text) c.args.out.now (put_mid c.put.new.self.at (length c.args.out.now - 1 - c.put.new.self.at) c.args.out.now c.write_text.new.out) c.in_err-n.field-0.0 c.from_residual.result c.from_residual.ensures.1
    (tried c.in_err-n.field-0.0 c.in_err-n.was)
  where
    lead : Text
    lead = asked_lead (asked_of c.args.asked)

    text : Text
    text = type_text (table_of c.args.types.now.file.now c.args.types.now.words.now) c.args.t

    kept : c.write_text.new.out ≡ mid_of c.put.new.self.at (length c.args.out.now - 1 - c.put.new.self.at) c.args.out.now
        → put_mid c.put.new.self.at (length c.args.out.now - 1 - c.put.new.self.at) c.args.out.now c.write_text.new.out ≡ c.args.out.now
    kept same =
        ap (put_mid c.put.new.self.at (length c.args.out.now - 1 - c.put.new.self.at) c.args.out.now) same
        ∙ put_same c.put.new.self.at (length c.args.out.now - 1 - c.put.new.self.at) c.args.out.now

    tried : (cause : TextError) → c.write_text.result ≡ Err cause
        → TriedIs lead (text_verdict text) c.args.out.now (put_mid c.put.new.self.at (length c.args.out.now - 1 - c.put.new.self.at) c.args.out.now c.write_text.new.out) (Err (line_error_of cause))
    tried TextError.TooLong is =
        let over = too_long c.write_text.ensures is in
        record { is = verdict_refused text over.0; same = kept over.1 }
    tried TextError.NoRoom is =
        let begun = c.new-writer.ensures in
        let all = writes_then lead (bytes "type\t") _ _ _ (omega (arith, begun.at)) c.put_lead.ensures.writes c.put.ensures in
        let none = no_room c.write_text.ensures is in
        record {
          short = subst (λ v. length c.args.out.now < length (line_with lead v)) (sym (verdict_typed text none.0)) (omega (arith, none.1, typed_length lead text, all.wrote.next, begun.at, length-append lead (bytes "type\t"), length-take (length c.args.out.now - 1 - c.put.new.self.at) (drop c.put.new.self.at c.args.out.now), length-drop c.put.new.self.at c.args.out.now, c.if-len-at.false));
          same = kept none.2;
        }

pub returns : goal.returns
returns c =
    let lead = asked_lead (asked_of c.args.asked) in
    let text = type_text (table_of c.args.types.now.file.now c.args.types.now.words.now) c.args.t in
    let begun = c.new-writer.ensures in
    let line = c.new-line.ensures in
    let all = writes_then lead (bytes "type\t") _ _ _ (omega (arith, begun.at)) c.put_lead.ensures.writes c.put.ensures in
    let stands = written c.write_text.ensures c.in_ok-n.n c.in_ok-n.was in
    let typed = verdict_typed text (omega (arith, stands.exact, stands.small)) in
    let at : length (lead ++ bytes "type\t") ≡ c.put.new.self.at = omega (arith, all.wrote.next, begun.at) in
    let front =
    start_is (lead ++ bytes "type\t") _ _ _ _ begun.bytes begun.at (c.lead-2-1.given.1.1 (sym begun.same_buffer ∙ sym all.same_buffer))
    (omega (arith, at, c.put_lead.ensures.few, c.put_lead.ensures.writes.wrote.next, c.put.ensures.wrote.next, begun.at, ap length begun.bytes))
    all in
    let last = c.put-3.ensures in
    let ends = c.out-2-1.given.1.1 (sym line.same_buffer ∙ sym c.put-2.ensures.same_buffer ∙ sym last.same_buffer) in
    record {
      answering = subst Answering (sym typed) tt;
      put =
          subst (λ l. LinePut l c.args.out.now c.out-2-1.given.0 c.put-3.new.self.at) (typed_line lead text ∙ ap (line_with lead) (sym typed))
          (between (lead ++ bytes "type\t") text c.args.out.now c.write_text.new.out c.put-2.new.self.out.now c.put.new.self.at c.in_ok-n.n c.put-2.new.self.at at c.if-len-at.false stands
          (subst (λ l. Wrote l 0 (put_mid c.put.new.self.at (length c.args.out.now - 1 - c.put.new.self.at) c.args.out.now c.write_text.new.out) c.put-2.new.self.out.now c.put-2.new.self.at) front (from_start _ _ _ _ _ line.bytes line.at refl c.put-2.ensures))
          c.out-2-1.given.0 c.put-3.new.self.at (subst (λ o. Wrote (bytes "\n") (c.put.new.self.at + c.in_ok-n.n) c.put-2.new.self.out.now o c.put-3.new.self.at) (sym ends) last.wrote));
    }
