-- `fields::number_at` meets its contract. Assumes nothing.
use Prim.Native.Nat.{ℕ, ◌+◌, ◌<◌}
use mathlib.Core.Path.{◌≡◌, sym, ap, ◌∙◌}
use mathlib.Core.Bool.{Bool, true, false}
use lib.ListN.{length, drop, get_or}
use Rattle.std.specs.Bool.{then_some}
use Rattle.model.specs.Common.{Text, is_empty}
use Rattle.format.specs.Fields.{stops, field_of, numbered, number_of}
use Rattle.fields.specs.declared.Value.{Value}
use Rattle.fields.specs.Held.{slot_is, field_as}
use Rattle.fields.proofs.Numbers.{is_empty_of, begins_here, not_stop, number_none, number_digits, number_zero, number_after_zero}
use Rattle.fields.proofs.number_at.Goals as goal

pub returns-then-is_end : goal.returns-then-is_end
returns-then-is_end c =
    let a = c.args in
    sym (number_none a.file.now a.from a.most (is_empty_of a.file.now a.from (sym c.is_end.ensures ∙ c.if-is_end.true)))

pub bounds-file-from : goal.bounds-file-from
bounds-file-from c =
    let a = c.args in begins_here a.file.now a.from (sym c.is_end.ensures ∙ c.if-is_end.false)

-- a zero is a number where the field ends behind it
zero_alone : (s : Text) (e most : ℕ) → e < length s → stops (get_or s e 0) ≡ false → get_or s e 0 ≡ 48 → (b : Bool) → b ≡ is_empty (field_of (drop (e + 1) s))
    → slot_is s (then_some b (record { value = Value.Number 0; end = e + 1 })) ≡ field_as (λ u. numbered (number_of most u)) (drop e s)
zero_alone s e most inside not_stop zero true is = sym (number_zero s e most inside not_stop zero (is_empty_of s (e + 1) (sym is)))
zero_alone s e most inside not_stop zero false is = sym (number_after_zero s e most inside not_stop zero (sym is))

pub returns-then-file-from-eq48 : goal.returns-then-file-from-eq48
returns-then-file-from-eq48 c =
    let a = c.args in
    let s = a.file.now in
    let full = sym c.is_end.ensures ∙ c.if-is_end.false in
    let inside = begins_here s a.from full in
    ap (slot_is s) c.then_some.ensures
    ∙ zero_alone s a.from a.most inside (not_stop s a.from inside full) c.if-file-from-eq48.true c.is_end-then-file-from-eq48.result c.is_end-then-file-from-eq48.ensures

pub returns : goal.returns
returns c =
    let a = c.args in
    let s = a.file.now in
    let full = sym c.is_end.ensures ∙ c.if-is_end.false in
    let inside = begins_here s a.from full in
    c.digits_at.ensures ∙ sym (number_digits s a.from a.most inside (not_stop s a.from inside full) c.if-file-from-eq48.false)
