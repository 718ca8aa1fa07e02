-- `fields::field_here` meets its contract. Assumes nothing.
use Prim.Native.Nat.{◌+◌}
use mathlib.Core.Path.{refl, sym, ◌∙◌}
use native.Mathlib.Omega.{arith}
use Rattle.words.proofs.Bytes.{begins_in}
use Rattle.std.specs.Prelude.{Some}
use Rattle.fields.proofs.Slots.{field_fits, word_no_tab, word_found}
use Rattle.fields.proofs.field_here.Goals as goal

pub returns-then-not-is_byte-clause-is : goal.returns-then-not-is_byte-clause-is
returns-then-not-is_byte-clause-is c = sym (word_no_tab Some c.args.file.now c.args.at (sym c.is_byte.ensures ∙ c.if-not-is_byte.true))

pub returns-clause-is : goal.returns-clause-is
returns-clause-is c = sym (word_found Some c.args.file.now c.args.at c.field_end-end.result _ (sym c.is_byte.ensures ∙ c.if-not-is_byte.false) c.field_end-end.ensures refl)

pub returns-clause-lent : goal.returns-clause-lent
returns-clause-lent c =
    let s = c.args.file.now in
    let inside = begins_in 9 s c.args.at (sym c.is_byte.ensures ∙ c.if-not-is_byte.false) in
    let ends = field_fits s (c.args.at + 1) (omega (arith, inside)) in
    (omega arith, omega (arith, c.field_end-end.ensures), omega (arith, c.field_end-end.ensures, ends))
