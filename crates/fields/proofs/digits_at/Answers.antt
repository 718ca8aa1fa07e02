-- `fields::digits_at` meets its contract: the whole number is what is left of it, behind the digits that were read. Assumes nothing.
use mathlib.Core.Bool.{true, false}
use mathlib.Core.Path.{◌≡◌, sym, ap, ◌∙◌}
use mathlib.Core.Logic.{inl, inr}
use Prim.Native.Nat.{◌+◌, ◌-◌, ◌*◌, ◌<◌}
use lib.ListN.{get_or, drop_of_length-le}
use Rattle.std.specs.Prelude.{Some}
use Rattle.format.specs.Fields.{stops, is_digit, number}
use native.Mathlib.Omega.{arith}
use Rattle.words.proofs.Bytes.{field_stop, field_out, stops_tab, stops_lf, stops_no}
use Rattle.fields.proofs.Numbers.{digit_yes, digit_low, digit_high, scan_end, scan_bad, scan_more, scan_over}
use Rattle.fields.proofs.digits_at.Goals.{then-most-d-via-then-most-d, then-most-d-via-else-most-d+then-most-d-2}
use Rattle.fields.proofs.digits_at.Goals as goal

pub returns-then-b-eq9 : goal.returns-then-b-eq9
returns-then-b-eq9 c =
    let s = c.args.file.now in
    let e = c.loop-e.e in
    let n = c.loop-e.n in
    let most = c.args.most in
    let stop : stops (get_or s e 0) ≡ true = elim c.then-b-eq9.either [ inl q ↦ stops_tab _ q | inr q ↦ stops_lf _ q.1 ] in
    sym (c.loop-e.invariant.1 ∙ scan_end s e n most (field_stop s e (omega arith) stop) c.loop-e.invariant.0)

pub returns-then-b-lt48 : goal.returns-then-b-lt48
returns-then-b-lt48 c =
    let s = c.args.file.now in
    let e = c.loop-e.e in
    let n = c.loop-e.n in
    let most = c.args.most in
    let other : is_digit (get_or s e 0) ≡ false = elim c.then-b-lt48.either [ inl q ↦ digit_low _ q | inr q ↦ digit_high _ q.0 q.1 ] in
    sym (c.loop-e.invariant.1 ∙ scan_bad s e n most (omega arith) (stops_no _ c.if-b-eq9.false c.if-b-eq10.false) other)

pub returns-then-most-d : goal.returns-then-most-d
returns-then-most-d c =
    let s = c.args.file.now in
    let e = c.loop-e.e in
    let n = c.loop-e.n in
    let most = c.args.most in
    let above : most < n * 10 + (get_or s e 0 - 48) = elim c.then-most-d.branch [ then-most-d-via-then-most-d w ↦ omega (arith, w.if-most-d.true) | then-most-d-via-else-most-d+then-most-d-2 w ↦ omega (arith, w.if-most-d.false, w.if-most-d-2.true) ] in
    sym (c.loop-e.invariant.1 ∙ scan_over s e n most (omega arith) (stops_no _ c.if-b-eq9.false c.if-b-eq10.false) (digit_yes _ c.if-b-lt48.false c.if-b-gt57.false) above)

pub loop-e-preserved : goal.loop-e-preserved
loop-e-preserved c =
    let s = c.args.file.now in
    let e = c.loop-e.e in
    let n = c.loop-e.n in
    let most = c.args.most in
    (omega arith, c.loop-e.invariant.1 ∙ scan_more s e n most (omega arith) (stops_no _ c.if-b-eq9.false c.if-b-eq10.false) (digit_yes _ c.if-b-lt48.false c.if-b-gt57.false))

pub returns : goal.returns
returns c =
    let s = c.args.file.now in
    let e = c.loop-e.e in
    let n = c.loop-e.n in
    let most = c.args.most in
    let out = field_out s e c.loop-e-test.false in
    ap (λ t. Some (record { value = number n; rest = t })) (drop_of_length-le s (omega (arith, c.max.ensures)) ∙ sym (drop_of_length-le s c.loop-e-test.false))
    ∙ sym (c.loop-e.invariant.1 ∙ scan_end s e n most out c.loop-e.invariant.0)
