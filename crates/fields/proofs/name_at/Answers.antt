-- `fields::name_at` meets its contract. Assumes nothing.
use Prim.Native.Nat.{◌+◌, ◌-◌}
use mathlib.Core.Path.{◌≡◌, sym, ap, ◌∙◌}
use mathlib.Core.Logic.{inl, inr}
use Rattle.std.specs.Prelude.{Some}
use lib.ListN.{length, drop}
use Rattle.model.specs.Common.{is_empty}
use Rattle.records.specs.Layout.{bytes_at}
use Rattle.format.specs.Fields.{field_of, text}
use Rattle.fields.specs.Held.{visible_run}
use native.Mathlib.Omega.{arith}
use Rattle.fields.proofs.Numbers.{is_empty_of}
use Rattle.fields.proofs.Names.{name_dash, name_hidden, name_empty, name_long, name_is}
use Rattle.fields.proofs.name_at.Goals as goal

pub returns-then-is_dash_at : goal.returns-then-is_dash_at
returns-then-is_dash_at c =
    let a = c.args in
    sym (name_dash a.file.now a.from (sym c.is_dash_at.ensures ∙ c.if-is_dash_at.true))

pub returns-then-not-is_end : goal.returns-then-not-is_end
returns-then-not-is_end c =
    let a = c.args in
    let s = a.file.now in
    let q = c.visible_end-e.ensures in
    sym (name_hidden s a.from (ap (λ n. is_empty (field_of (drop n s))) (sym q) ∙ sym c.is_end.ensures ∙ c.if-not-is_end.true))

pub returns-then-n-lt1 : goal.returns-then-n-lt1
returns-then-n-lt1 c =
    let a = c.args in
    let s = a.file.now in
    let p = a.from in
    let q = c.visible_end-e.ensures in
    let ends = is_empty_of s (p + length (visible_run (drop p s))) (ap (λ n. is_empty (field_of (drop n s))) (sym q) ∙ sym c.is_end.ensures ∙ c.if-not-is_end.false) in
    elim c.then-n-lt1.either [ inl h ↦ sym (name_empty s p ends (omega (arith, q, h))) | inr h ↦ sym (name_long s p ends (omega (arith, q, h.1))) ]

pub returns : goal.returns
returns c =
    let a = c.args in
    let s = a.file.now in
    let p = a.from in
    let q = c.visible_end-e.ensures in
    let ends = is_empty_of s (p + length (visible_run (drop p s))) (ap (λ n. is_empty (field_of (drop n s))) (sym q) ∙ sym c.is_end.ensures ∙ c.if-not-is_end.false) in
    let m : c.visible_end-e.result - p ≡ length (visible_run (drop p s)) = omega (arith, q) in
    (λ i. Some (record { value = text (bytes_at s p (m i)); rest = drop (q i) s }))
    ∙ sym (name_is s p ends (sym c.is_dash_at.ensures ∙ c.if-is_dash_at.false) (omega (arith, q)) (omega (arith, q)))
