-- For callers: a demand that is refused, and one that is opened, as the definition's `demand` goes. Assumes nothing.
use mathlib.Core.Path.{◌≡◌, refl, sym, ap, ◌∙◌}
use mathlib.Core.Bool.{Bool, true, false, cond}
use Prim.Native.Nat.{ℕ, zero, suc, ◌+◌, ◌-◌, ◌≤◌, ◌<◌}
use native.Mathlib.Numerals.{add-one}
use native.Mathlib.Omega.{arith}
use mathlib.Core.List.{List, [], ◌∷◌}
use lib.ListN.{length}
use lib.Dec.{ltb}
use borrow.Author.Tests.{ltb-false}
use Rattle.std.specs.Prelude.{Result, Ok, Err}
use Rattle.model.specs.Records.{Index}
use Rattle.resolution.specs.Types.{Table}
use Rattle.resolution.specs.Programs.{Demand}
use Rattle.resolution.specs.TypeResolution.{program}
use Rattle.resolution.specs.Run.{refused, run, is_open, demand}
use Rattle.resolution.proofs.RunLaws.{demand_open, demand_full, demand_runs}
use Rattle.refusals.specs.declared.Refusal.{Refusal}
use Rattle.refusals.specs.Numbers.{refusal_number}
use Rattle.demands.specs.Meaning.{open_demands, cleared, cleared_places}
use Rattle.demands.specs.Promises.{Opens}

-- ------------------------------------------------------------------ which test decided

entered_at : (b l : Bool) (depth n : ℕ) → Ok n ≡ cond b (Err Refusal.OpenDemand) (cond l (Ok (depth + 1)) (Err Refusal.Depth)) → b ≡ false
entered_at true l depth n e = absurd cc
entered_at false l depth n e = refl

module _ (depth : ℕ) (index : Index) (opened : List Demand) (d : Demand) (table : Table) where
  refused_by : (why : Refusal) (b l : Bool) → is_open opened d ≡ b → ltb depth 256 ≡ l → depth ≤ 256
      → Err why ≡ cond b (Err Refusal.OpenDemand) (cond l (Ok (depth + 1)) (Err Refusal.Depth))
      → demand (256 - depth) index opened d table ≡ refused (refusal_number why)
  refused_by why true l hb hl le e =
      let z : Refusal.OpenDemand ≡ why = cc in
      demand_open (256 - depth) index opened d table hb ∙ ap (λ x. refused (refusal_number x)) z
  refused_by why false true hb hl le e = absurd cc
  refused_by why false false hb hl le e =
      let z : Refusal.Depth ≡ why = cc in
      let past = ltb-false depth 256 hl in
      let none : 256 - depth ≡ 0 = omega arith in
      ap (λ free. demand free index opened d table) none ∙ demand_full index opened d table hb ∙ ap (λ x. refused (refusal_number x)) z

  runs_by : (n : ℕ) → n ≡ depth + 1 → depth < 256 → is_open opened d ≡ false
      → demand (256 - depth) index opened d table ≡ run (demand (256 - n) index (d ∷ opened)) (program index d) table
  runs_by n e lt hb =
      let more : 256 - depth ≡ suc (256 - n) = omega arith in
      ap (λ free. demand free index opened d table) more ∙ demand_runs (256 - n) index opened d table hb

-- ------------------------------------------------------------------ for callers

module _ {d : Demand} {depth : ℕ} {places places' : List (List ℕ)} {r : Result ℕ Refusal} (o : Opens d depth places places' r) where
  -- there is as much room afterwards
  pub still_long : 256 ≤ length places → 256 ≤ length places'
  still_long long = let same = o.same_length in omega (arith, same)

  -- the definition's `demand` gives the same refusal
  pub refused_demand : {why : Refusal} → r ≡ Err why → depth ≤ 256 → (index : Index) (table : Table)
      → demand (256 - depth) index (open_demands depth places) d table ≡ refused (refusal_number why)
  refused_demand {why} h le index table = refused_by depth index (open_demands depth places) d table why (is_open (open_demands depth places) d) (ltb depth 256) refl refl le (sym h ∙ o.outcome)

  -- the definition's `demand` runs the demand's program with one place fewer and the demand among the open ones
  pub opened_demand : {n : ℕ} → r ≡ Ok n → (index : Index) (table : Table)
      → demand (256 - depth) index (open_demands depth places) d table
      ≡ run (demand (256 - n) index (open_demands n places')) (program index d) table
  opened_demand {n} h index table =
      let at = o.next n h in
      runs_by depth index (open_demands depth places) d table n at.0 at.1 (entered_at (is_open (open_demands depth places) d) (ltb depth 256) depth n (sym h ∙ o.outcome))
      ∙ ap (λ os. run (demand (256 - n) index os) (program index d) table) (sym (o.pushed n h))

  -- one place deeper there is room to ask again, with fewer places free
  pub next_below : {n : ℕ} → r ≡ Ok n → n ≤ 256
  next_below {n} h = let at = o.next n h in omega (arith, at.0, at.1)

-- ------------------------------------------------------------------ going back

open_tail : (n : ℕ) (l l' : List (List ℕ)) → open_demands (suc n) l ≡ open_demands (suc n) l' → open_demands n l ≡ open_demands n l'
unfolding open_demands
open_tail n l l' e = ap tail e
  where
    tail : List Demand → List Demand
    tail [] = []
    tail (x ∷ xs) = xs

-- whoever keeps the open demands one place deeper keeps them here
pub kept_through : {d : Demand} {depth : ℕ} {places places₁ : List (List ℕ)} {r : Result ℕ Refusal} → Opens d depth places places₁ r → {n : ℕ} → r ≡ Ok n
    → (places₂ : List (List ℕ)) → open_demands n places₂ ≡ open_demands n places₁ → open_demands depth places₂ ≡ open_demands depth places
kept_through {depth} {places} {places₁} o {n} h places₂ e =
    let same : suc depth ≡ n = sym ((o.next n h).0 ∙ add-one depth) in
    open_tail depth places₂ places₁ (ap (λ k. open_demands k places₂) same ∙ e ∙ ap (λ k. open_demands k places₁) (sym same)) ∙ o.kept

-- ------------------------------------------------------------------ cleared places

length_by : (n : ℕ) (l : List (List ℕ)) → length (cleared n l) ≡ length l
unfolding cleared
length_by zero l = refl
length_by (suc n) [] = refl
length_by (suc n) (x ∷ l) = ap suc (length_by n l)

pub cleared_length : (l : List (List ℕ)) → length (cleared_places l) ≡ length l
cleared_length l = length_by 256 l
