-- `type_table::copy_to` meets its contract: the words before `i` stand, and the others are as they were. Assumes nothing.
use Prim.Native.Nat.{ℕ, ◌≤◌, ◌<◌, ◌+◌}
use mathlib.Core.Path.{◌≡◌}
use lib.ListN.{length}
use Rattle.records.specs.Layout.{word}
use Rattle.type_table.proofs.copy_to.Given as goal

abbrev pub invariant-loop-i : goal.invariant-loop-i
invariant-loop-i l = (l.i ≤ length l.src) × (length l.words ≡ length l.initial.words) × ((j : ℕ) → j < l.i → word l.words (l.at + j) ≡ word l.src j) × ((j : ℕ) → j < l.at → word l.words j ≡ word l.initial.words j) × ((j : ℕ) → l.at + l.i ≤ j → word l.words j ≡ word l.initial.words j)
