-- `fields::digits_at` meets its contract: the whole number is what is left of it, behind the digits that were read. Assumes nothing.
use Prim.Native.Nat.{◌≤◌}
use mathlib.Core.Path.{◌≡◌}
use Rattle.fields.specs.Held.{scanned}
use Rattle.fields.proofs.digits_at.Given as goal

abbrev pub invariant-loop-e : goal.invariant-loop-e
invariant-loop-e l = (l.n ≤ l.most) × (scanned l.most 0 l.file l.from ≡ scanned l.most l.n l.file l.e)
