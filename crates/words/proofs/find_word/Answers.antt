-- `words::find_word` meets its contract: the map gives the one place, and the word there is compared. Assumes nothing.
use Prim.Native.Nat.{ℕ, ◌+◌, ◌-◌, ◌≤◌, ◌<◌}
use mathlib.Core.Path.{refl, ap, ◌∙◌}
use mathlib.Core.Logic.{◌⊎◌, inl, inr}
use native.Mathlib.Omega.{arith}
use Rattle.std.specs.Str.{bytes_eq}
use Rattle.words.proofs.Bytes.{part_as_numbers, then_some_if}
use Rattle.words.proofs.Tables.{place_out, place_cut, place_same}
use Rattle.words.proofs.find_word.Goals as goal

-- no part of the table begins at `from` with n bytes
no_part : (from n long : ℕ) → from ≤ long → (from + n < from) ⊎ (long < from + n) → long - from < n
no_part from n long inside (inl back) = omega (arith, back)
no_part from n long inside (inr past) = omega (arith, inside, past)

pub returns-in_err-n : goal.returns-in_err-n
returns-in_err-n c =
    let a = c.args in
    c.from_residual.ensures ∙ place_out a.field.now a.table.now a.map.now _ _ c.hash-h.ensures refl c.in_err-n.ensures.lookup.3

pub returns-in_err-word : goal.returns-in_err-word
returns-in_err-word c =
    let a = c.args in
    let n = c.in_ok-n.ensures.lookup in
    c.from_residual-in_err-word.ensures
    ∙ place_cut a.field.now a.table.now a.map.now _ _ c.hash-h.ensures refl _ (n.4 (omega arith) 0) n.3.0 (no_part _ _ _ (omega (arith, n.3.0)) c.in_err-word.ensures.lookup.0)

pub returns : goal.returns
returns c =
    let a = c.args in
    let n = c.in_ok-n.ensures.lookup in
    let word = c.in_ok-word.ensures.lookup.0 in
    c.then_some.ensures
    ∙ then_some_if c.eq.result _
    ∙ place_same a.field.now a.table.now a.map.now _ _ c.hash-h.ensures refl _ (n.4 (omega arith) 0) n.3.0 (omega (arith, word.1)) _
    (c.eq.ensures ∙ ap (bytes_eq a.field.now) word.2 ∙ part_as_numbers a.field.now a.table.now _ _)
