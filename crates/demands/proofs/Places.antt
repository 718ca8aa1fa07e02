-- The list of open demands: what is read of it, a place that is written, and places that are cleared. Assumes nothing.
use mathlib.Core.Path.{◌≡◌, refl, sym, ap, ap₂, ◌∙◌}
use mathlib.Core.Bool.{Bool, ◌||◌}
use Prim.Native.Nat.{ℕ, zero, suc, ◌+◌, ◌≤◌, ◌<◌, min}
use native.Mathlib.Numerals.{add-one}
use native.Mathlib.Omega.{arith}
use mathlib.Core.List.{List, [], ◌∷◌, ◌++◌}
use lib.ListN.{length, set, get_or, take, drop, replicate}
use lib.Seq.{get_or-set_same, get_or-set_other}
use Rattle.std.specs.Prelude.{Some, None}
use Rattle.std.specs.List.{list_any}
use Rattle.std.proofs.Math.Bool.{or_comm}
use Rattle.std.proofs.lemmas.List.Folds.{list_any_more}
use Rattle.model.specs.Common.{any}
use Rattle.resolution.specs.Programs.{Demand}
use Rattle.resolution.specs.Run.{eq_demand, is_open}
use Rattle.demands.specs.declared.OpenDemand.{OpenDemand}
use Rattle.demands.specs.Meaning.{zero_place, place_of, place_demand, place_at, demand_of, open_demands, cleared}

-- ------------------------------------------------------------------ searching

-- the search goes over the first places, the definition over their demands
pub is_open_by : (d : Demand) (l : List (List ℕ)) (n : ℕ) → n ≤ length l
    → list_any (λ place. eq_demand d (place_demand place)) (take n l) ≡ is_open (open_demands n l) d
unfolding is_open open_demands place_at any
is_open_by d l zero le = refl
is_open_by d l (suc n) le =
    let test : List ℕ → Bool = λ place. eq_demand d (place_demand place) in
    ap (λ m. list_any test (take m l)) (sym (add-one n))
    ∙ list_any_more test l n [] (omega arith)
    ∙ ap (λ x. x || test (get_or l n [])) (is_open_by d l n (omega arith))
    ∙ or_comm (is_open (open_demands n l) d) (test (get_or l n []))

-- ------------------------------------------------------------------ writing

-- what a demand is written as stands for it
place_back : (d : OpenDemand) → place_demand (place_of d) ≡ demand_of d
place_back (OpenDemand.«Type» m t s) = refl
place_back (OpenDemand.Definition m d) = refl
place_back (OpenDemand.Expression m e None) = refl
place_back (OpenDemand.Expression m e (Some t)) = refl
place_back (OpenDemand.Struct m d) = refl
place_back (OpenDemand.Signature m d) = refl

-- a demand that is written past the open ones leaves them, and is then the last one opened
pub open_kept : (n i : ℕ) (l : List (List ℕ)) (place : List ℕ) → n ≤ i → open_demands n (set l i place) ≡ open_demands n l
unfolding open_demands place_at
open_kept zero i l place le = refl
open_kept (suc n) i l place le =
    ap₂ ◌∷◌ (ap place_demand (get_or-set_other l i n place [] (λ e. omega arith))) (open_kept n i l place (omega arith))

pub open_pushed : (n : ℕ) (l : List (List ℕ)) (d : OpenDemand) → n < length l
    → open_demands (n + 1) (set l n (place_of d)) ≡ demand_of d ∷ open_demands n l
unfolding open_demands place_at
open_pushed n l d lt =
    ap (λ m. open_demands m (set l n (place_of d))) (add-one n)
    ∙ ap₂ ◌∷◌ (ap place_demand (get_or-set_same l n (place_of d) [] lt) ∙ place_back d) (open_kept n n l (place_of d) (omega arith))

-- ------------------------------------------------------------------ clearing

-- a front of zeros, of so many places or all
pub cleared_by : (n k : ℕ) (l : List (List ℕ)) → k ≡ min (length l) n → replicate (length (take k l)) zero_place ++ drop k l ≡ cleared n l
unfolding cleared
cleared_by zero zero l e = refl
cleared_by zero (suc k) l e = absurd (omega arith)
cleared_by (suc n) zero [] e = refl
cleared_by (suc n) (suc k) [] e = refl
cleared_by (suc n) zero (x ∷ l) e = absurd (omega arith)
cleared_by (suc n) (suc k) (x ∷ l) e = ap (λ t. zero_place ∷ t) (cleared_by n k l (omega arith))
