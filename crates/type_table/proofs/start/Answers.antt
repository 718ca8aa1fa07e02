-- `type_table::start` meets its contract. Assumes nothing.
use Prim.Native.Nat.{ℕ}
use mathlib.Core.Path.{refl, sym, subst}
use mathlib.Core.List.{List}
use native.Mathlib.Omega.{arith}
use lib.ListN.{set}
use Rattle.type_table.specs.Promises.{Starts, started}
use Rattle.type_table.proofs.Started.{started_rest, started_table, started_sound}
use Rattle.type_table.proofs.start.Goals as goal

pub returns : goal.returns
unfolding started
returns c =
    subst (λ (l : List ℕ). Starts c.args.types.now (set (set (set (set (set (set l 0 6) 10 1) 18 2) 26 3) 34 4) 42 5)) (sym c.clear.ensures)
    (record {
      short = λ few. absurd (omega arith);
      words = λ long. refl;
      rest = started_rest c.args.types.now (omega arith);
      table = λ long file. started_table c.args.types.now long file;
      sound = λ long file. started_sound c.args.types.now long file;
    })
