-- `loader::fault_line` meets its contract. Assumes nothing.
use Prim.Native.Nat.{ℕ, ◌+◌, ◌*◌, ◌≤◌}
use mathlib.Core.Path.{◌≡◌}
use mathlib.Core.List.{List}
use Rattle.format.specs.LinkCheck.{link_fault}
use Rattle.records.specs.Layout.{index_of}
use Rattle.loader.proofs.Faults.{faults_from}
use Rattle.loader.proofs.fault_line.Given as goal

abbrev pub invariant-loop-m : goal.invariant-loop-m
invariant-loop-m l = (l.place ≤ 2 + 17179869185 * l.m)
    × ((file : List ℕ) → link_fault (index_of file l.words) ≡ faults_from file l.words l.place l.m)
