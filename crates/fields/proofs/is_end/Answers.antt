-- `fields::is_end` meets its contract. Assumes nothing.
use mathlib.Core.Path.{sym, ◌∙◌}
use mathlib.Core.Bool.{false≢true}
use native.Mathlib.Omega.{arith}
use borrow.Author.Tests.{eq-eqb, le-leb}
use Rattle.model.proofs.Tests.{eqb_sound}
use Rattle.words.proofs.Bytes.{field_stop, field_out, stops_tab}
use Rattle.fields.proofs.Numbers.{empty_is, empty_at}
use Rattle.fields.proofs.is_end.Goals.{then-file-from, else-file-from}
use Rattle.fields.proofs.is_end.Goals as goal

pub returns-then-file-from-eq9 : goal.returns-then-file-from-eq9
returns-then-file-from-eq9 c =
    let s = c.args.file.now in
    let p = c.args.from in
    c.if-file-from-eq9.true
    ∙ empty_is s p (elim c.if-file-from.branch [
      | then-file-from w ↦ field_out s p w.if-file-from.true
      | else-file-from w ↦ field_stop s p (omega (arith, w.if-file-from.false)) (stops_tab _ (eqb_sound _ 9 (sym w.value-is ∙ c.if-file-from-eq9.true)))
    ])

pub returns-else-file-from-eq9 : goal.returns-else-file-from-eq9
returns-else-file-from-eq9 c =
    let s = c.args.file.now in
    let p = c.args.from in
    elim c.if-file-from.branch [
      | then-file-from w ↦ absurd (false≢true (sym c.if-file-from-eq9.false ∙ w.value-is ∙ le-leb _ p w.if-file-from.true))
      | else-file-from w ↦ empty_at s p (omega (arith, w.if-file-from.false)) λ e. false≢true (sym c.if-file-from-eq9.false ∙ w.value-is ∙ eq-eqb _ 9 e)
    ]
