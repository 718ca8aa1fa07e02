-- `fields::operator_at` meets its contract. Assumes nothing.
use mathlib.Core.Path.{sym, ap, ◌∙◌}
use native.Mathlib.Omega.{arith}
use lib.ListN.{drop}
use Rattle.format.specs.Fields.{reading, numbered}
use Rattle.fields.specs.Held.{slot_is}
use Rattle.fields.proofs.Slots.{field_fits, operator_is}
use Rattle.fields.proofs.operator_at.Goals as goal

pub slice_bounds-find_word-end : goal.slice_bounds-find_word-end
slice_bounds-find_word-end c =
    let a = c.args in
    omega (arith, c.field_end-end.ensures, field_fits a.file.now a.from c.requires)

pub returns-in_err-k : goal.returns-in_err-k
returns-in_err-k c =
    let a = c.args in
    let s = a.file.now in
    ap (slot_is s) c.from_residual.ensures
    ∙ sym
    (operator_is s a.from _ _ _ c.find_word.result c.field_end-end.ensures c.find_word.ensures
    ∙ ap (λ r. reading (drop c.field_end-end.result s) (numbered r)) (c.in_err-k.was {u = _}))

pub returns : goal.returns
returns c =
    let a = c.args in
    let s = a.file.now in
    sym
    (operator_is s a.from _ _ _ c.find_word.result c.field_end-end.ensures c.find_word.ensures
    ∙ ap (λ r. reading (drop c.field_end-end.result s) (numbered r)) c.in_ok-k.was)
