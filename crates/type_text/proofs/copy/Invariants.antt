-- `type_text::copy` meets its contract: the bytes before `i` are the text's. Assumes nothing.
use Rattle.std.proofs.Common.{◌≡◌, ℕ, ◌≤◌, ◌<◌, length, slice_index_or}
use Rattle.type_text.proofs.copy.Given as goal

abbrev pub invariant-loop-i : goal.invariant-loop-i
invariant-loop-i l = (l.i ≤ length l.text) × (length l.to ≡ length l.text) × ((j : ℕ) → j < l.i → slice_index_or l.to j 0 ≡ slice_index_or l.text j 0)
