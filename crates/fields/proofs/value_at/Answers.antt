-- `fields::value_at` meets its contract. Assumes nothing.
use mathlib.Core.Path.{sym, ap, ◌∙◌}
use mathlib.Core.Bool.{◌&&◌}
use mathlib.Core.Logic.{inl, inr}
use native.Mathlib.Omega.{arith}
use lib.ListN.{drop}
use Rattle.format.specs.declared.Kind.{Kind}
use Rattle.format.specs.Fields.{field_of, is_dash, value_of}
use Rattle.fields.specs.Held.{may_be_absent}
use Rattle.fields.proofs.Numbers.{is_empty_of, begins_here}
use Rattle.fields.proofs.Slots.{empty_wrong, nothing_wrong, of_kind}
use Rattle.fields.proofs.Names.{absent_yes, unused_no, maybe_number_no, maybe_name_no}
use Rattle.fields.proofs.value_at.Goals as goal

pub returns-then-is_end : goal.returns-then-is_end
returns-then-is_end c =
    let a = c.args in
    sym (empty_wrong a.kind (drop a.from a.file.now) (is_empty_of a.file.now a.from (sym c.is_end.ensures ∙ c.if-is_end.true)))

pub overflow_add-result : goal.overflow_add-result
overflow_add-result c =
    let a = c.args in
    omega (arith, begins_here a.file.now a.from (sym c.is_end.ensures ∙ c.if-is_end.false))

pub returns-then-is_absent_at : goal.returns-then-is_absent_at
returns-then-is_absent_at c =
    let a = c.args in
    sym (absent_yes a.file.now a.from a.kind (sym c.is_absent_at.ensures ∙ c.if-is_absent_at.true))

pub unary_op_at-requires : goal.unary_op_at-requires
unary_op_at-requires c =
    let a = c.args in
    omega (arith, begins_here a.file.now a.from (sym c.is_end.ensures ∙ c.if-is_end.false))

pub binary_op_at-requires : goal.binary_op_at-requires
binary_op_at-requires c =
    let a = c.args in
    omega (arith, begins_here a.file.now a.from (sym c.is_end.ensures ∙ c.if-is_end.false))

pub returns-in-Nothing : goal.returns-in-Nothing
returns-in-Nothing c =
    let t = drop c.args.from c.args.file.now in
    elim c.in-Nothing.is [
      | inl e ↦ sym (nothing_wrong t) ∙ of_kind c.args.kind Kind.Nothing t e
      | inr e ↦ sym (unused_no c.args.file.now c.args.from (ap (λ k. may_be_absent k && is_dash (field_of t)) (sym e) ∙ sym c.is_absent_at.ensures ∙ c.if-is_absent_at.false)) ∙ of_kind c.args.kind Kind.Unused t e
    ]

pub returns-in-Number : goal.returns-in-Number
unfolding value_of
returns-in-Number c =
    let t = drop c.args.from c.args.file.now in
    elim c.in-Number.is [
      | inl e ↦ c.number_at.ensures ∙ of_kind c.args.kind Kind.Number t e
      | inr e ↦ c.number_at.ensures ∙ sym (maybe_number_no c.args.file.now c.args.from (ap (λ k. may_be_absent k && is_dash (field_of t)) (sym e) ∙ sym c.is_absent_at.ensures ∙ c.if-is_absent_at.false)) ∙ of_kind c.args.kind Kind.MaybeNumber t e
    ]

pub returns-in-Position : goal.returns-in-Position
unfolding value_of
returns-in-Position c =
    let a = c.args in
    c.number_at-in-Position.ensures ∙ of_kind a.kind Kind.Position (drop a.from a.file.now) c.in-Position.is

pub returns-in-Size : goal.returns-in-Size
unfolding value_of
returns-in-Size c =
    let a = c.args in
    c.number_at-in-Size.ensures ∙ of_kind a.kind Kind.Size (drop a.from a.file.now) c.in-Size.is

pub returns-in-Name : goal.returns-in-Name
unfolding value_of
returns-in-Name c =
    let t = drop c.args.from c.args.file.now in
    elim c.in-Name.is [
      | inl e ↦ c.name_at.ensures ∙ of_kind c.args.kind Kind.Name t e
      | inr e ↦ c.name_at.ensures ∙ sym (maybe_name_no c.args.file.now c.args.from (ap (λ k. may_be_absent k && is_dash (field_of t)) (sym e) ∙ sym c.is_absent_at.ensures ∙ c.if-is_absent_at.false)) ∙ of_kind c.args.kind Kind.MaybeName t e
    ]
