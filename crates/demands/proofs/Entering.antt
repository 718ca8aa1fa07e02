-- Entering a demand that is not open, where there is room. Assumes nothing.
use mathlib.Core.Path.{◌≡◌, sym, ap, ◌∙◌}
use mathlib.Core.Bool.{Bool, false}
use Prim.Native.Nat.{ℕ, ◌+◌, ◌≤◌, ◌<◌}
use native.Mathlib.Omega.{arith}
use mathlib.Core.List.{List}
use lib.ListN.{length, set, length-set}
use lib.Seq.{drop-set-lt}
use borrow.Author.Tests.{lt-ltb}
use Rattle.std.specs.Prelude.{Ok}
use Rattle.resolution.specs.Run.{is_open}
use Rattle.demands.specs.declared.OpenDemand.{OpenDemand}
use Rattle.demands.specs.Meaning.{place_of, demand_of, open_demands}
use Rattle.demands.specs.Promises.{Opens}
use Rattle.demands.proofs.Places.{open_kept, open_pushed}

pub opens : (d : OpenDemand) (depth : ℕ) (l : List (List ℕ)) (place : List ℕ) (b : Bool) → place ≡ place_of d
    → b ≡ is_open (open_demands depth l) (demand_of d) → b ≡ false → depth < 256 → 256 ≤ length l
    → Opens (demand_of d) depth l (set l depth place) (Ok (depth + 1))
opens d depth l place b e h closed room long =
    let test = lt-ltb depth 256 room in
    record {
      outcome = cc;
      kept = open_kept depth depth l place (omega arith);
      pushed = λ n at.
          let here : depth + 1 ≡ n = cc in
          ap (λ m. open_demands m (set l depth place)) (sym here) ∙ ap (λ p. open_demands (depth + 1) (set l depth p)) e ∙ open_pushed depth l d (omega arith);
      next = λ n at. let here : depth + 1 ≡ n = cc in (sym here, room);
      same_length = length-set l depth place;
      rest = drop-set-lt 256 l depth place room;
    }
