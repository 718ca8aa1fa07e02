-- How a run goes on: for a walk through code that does what a program says. Assumes nothing.
use Prim.Native.Nat.{ℕ, suc, zero}
use mathlib.Core.Path.{◌≡◌, refl, sym, ◌∙◌, ap}
use mathlib.Core.Bool.{true, false}
use mathlib.Core.List.{List, [], ◌∷◌, ◌++◌}
use Rattle.std.specs.Prelude.{None, Some}
use Rattle.std.specs.Prelude.{slice_get}
use lib.ListN.{length, get_or, drop}
use Rattle.std.specs.Prelude.{if◌then◌else◌}
use Rattle.model.specs.Common.{let_some}
use Rattle.model.specs.Records.{Index}
use Rattle.resolution.specs.TypeData.{TypeData}
use Rattle.resolution.specs.Types.{Table, find_type, has_room}
use Rattle.resolution.specs.Programs.{Demand, Answer, Program, done, refuse, ask, enter, look, ◌>>=◌}
use Rattle.resolution.specs.TypeResolution.{program}
use Rattle.resolution.specs.Run.{Outcome, answered, refused, go_on, enter_type, run, demand_key, eq_demand, is_open, demand}
use Rattle.model.proofs.Tests.{eq_numbers_sound, eq_numbers_self}

-- ------------------------------------------------------------------ one step

module _ {A : Type 0} (h : (d : Demand) → Table → Outcome (Answer d)) where
  pub run_done : (a : A) (table : Table) → run h (done a) table ≡ answered a table
  unfolding run
  run_done a table = refl

  pub run_refuse : (n : ℕ) (table : Table) → run {A = A} h (refuse n) table ≡ refused n
  unfolding run
  run_refuse n table = refl

  -- a demand that was answered, or refused
  pub run_ask_answered : (d : Demand) (k : Answer d → Program A) (table after : Table) (a : Answer d)
      → h d table ≡ answered a after → run h (ask d k) table ≡ run h (k a) after
  unfolding run go_on
  run_ask_answered d k table after a e = ap (λ o. go_on o (λ x. run h (k x))) e

  pub run_ask_refused : (d : Demand) (k : Answer d → Program A) (table : Table) (n : ℕ)
      → h d table ≡ refused n → run h (ask d k) table ≡ refused n
  unfolding run go_on
  run_ask_refused d k table n e = ap (λ o. go_on o (λ x. run h (k x))) e

  pub run_enter_answered : (row : TypeData) (k : ℕ → Program A) (table after : Table) (t : ℕ)
      → enter_type row table ≡ answered t after → run h (enter row k) table ≡ run h (k t) after
  unfolding run go_on
  run_enter_answered row k table after t e = ap (λ o. go_on o (λ x. run h (k x))) e

  pub run_enter_refused : (row : TypeData) (k : ℕ → Program A) (table : Table) (n : ℕ)
      → enter_type row table ≡ refused n → run h (enter row k) table ≡ refused n
  unfolding run go_on
  run_enter_refused row k table n e = ap (λ o. go_on o (λ x. run h (k x))) e

  pub run_look : (k : Table → Program A) (table : Table) → run h (look k) table ≡ run h (k table) table
  unfolding run
  run_look k table = refl

-- one program after another
go_on_go_on : {A B C : Type 0} (o : Outcome A) (f : A → Table → Outcome B) (g : B → Table → Outcome C)
    → go_on o (λ a table. go_on (f a table) g) ≡ go_on (go_on o f) g
unfolding go_on
go_on_go_on (answered a table) f g = refl
go_on_go_on (refused n) f g = refl

pub run_bind : {A B : Type 0} (h : (d : Demand) → Table → Outcome (Answer d)) (p : Program A) (f : A → Program B) (table : Table)
    → run h (p >>= f) table ≡ go_on (run h p table) (λ a. run h (f a))
unfolding run go_on ◌>>=◌
run_bind h (done a) f table = refl
run_bind h (refuse n) f table = refl
run_bind h (ask d k) f table =
    (λ i. go_on (h d table) (λ a after. run_bind h (k a) f after i)) ∙ go_on_go_on (h d table) (λ a. run h (k a)) (λ a. run h (f a))
run_bind h (enter row k) f table =
    (λ i. go_on (enter_type row table) (λ t after. run_bind h (k t) f after i)) ∙ go_on_go_on (enter_type row table) (λ t. run h (k t)) (λ a. run h (f a))
run_bind h (look k) f table = run_bind h (k table) f table

-- ------------------------------------------------------------------ entering a row

pub enter_found : (row : TypeData) (table : Table) (t : ℕ) → find_type table row ≡ Some t → enter_type row table ≡ answered t table
unfolding enter_type
enter_found row table t e = ap (λ o. let_some o (if has_room table row then answered (length table) (table ++ (row ∷ [])) else refused 9) (λ u. answered u table)) e

pub enter_new : (row : TypeData) (table : Table) → find_type table row ≡ None → has_room table row ≡ true
    → enter_type row table ≡ answered (length table) (table ++ (row ∷ []))
unfolding enter_type
enter_new row table e room =
    λ i. let_some (e i) (if room i then answered (length table) (table ++ (row ∷ [])) else refused 9) (λ u. answered u table)

pub enter_no_room : (row : TypeData) (table : Table) → find_type table row ≡ None → has_room table row ≡ false → enter_type row table ≡ refused 9
unfolding enter_type
enter_no_room row table e room =
    λ i. let_some (e i) (if room i then answered (length table) (table ++ (row ∷ [])) else refused 9) (λ u. answered u table)

-- ------------------------------------------------------------------ a demand

pub demand_open : (free : ℕ) (index : Index) (open_demands : List Demand) (d : Demand) (table : Table)
    → is_open open_demands d ≡ true → demand free index open_demands d table ≡ refused 7
unfolding demand
demand_open zero index open_demands d table e = λ i. elim (e i) [ true ↦ refused 7 | false ↦ refused 8 ]
demand_open (suc free) index open_demands d table e =
    λ i. elim (e i) [ true ↦ refused 7 | false ↦ run (λ d'. demand free index (d ∷ open_demands) d') (program index d) table ]

pub demand_full : (index : Index) (open_demands : List Demand) (d : Demand) (table : Table)
    → is_open open_demands d ≡ false → demand zero index open_demands d table ≡ refused 8
unfolding demand
demand_full index open_demands d table e = λ i. elim (e i) [ true ↦ refused 7 | false ↦ refused 8 ]

pub demand_runs : (free : ℕ) (index : Index) (open_demands : List Demand) (d : Demand) (table : Table)
    → is_open open_demands d ≡ false
    → demand (suc free) index open_demands d table ≡ run (demand free index (d ∷ open_demands)) (program index d) table
unfolding demand
demand_runs free index open_demands d table e =
    λ i. elim (e i) [ true ↦ refused 7 | false ↦ run (λ d'. demand free index (d ∷ open_demands) d') (program index d) table ]

-- ------------------------------------------------------------------ equal demands

demand_of : ℕ → ℕ → ℕ → List ℕ → Demand
demand_of zero m t rest = Demand.type m t (get_or rest 0 0)
demand_of (suc zero) m d rest = Demand.definition m d
demand_of (suc (suc zero)) m e rest = Demand.expression m e (slice_get rest 0)
demand_of (suc (suc (suc zero))) m d rest = Demand.struct m d
demand_of (suc (suc (suc (suc k)))) m d rest = Demand.signature m d

-- a demand from its key
demand_from : List ℕ → Demand
demand_from key = demand_of (get_or key 0 0) (get_or key 1 0) (get_or key 2 0) (drop 3 key)

demand_back : (d : Demand) → demand_from (demand_key d) ≡ d
unfolding demand_from demand_of demand_key
demand_back (Demand.type m t s) = refl
demand_back (Demand.definition m d) = refl
demand_back (Demand.expression m e None) = refl
demand_back (Demand.expression m e (Some t)) = refl
demand_back (Demand.struct m d) = refl
demand_back (Demand.signature m d) = refl

-- the test passes exactly for equal demands
pub eq_demand_sound : (a b : Demand) → eq_demand a b ≡ true → a ≡ b
unfolding eq_demand
eq_demand_sound a b e = sym (demand_back a) ∙ ap demand_from (eq_numbers_sound (demand_key a) (demand_key b) e) ∙ demand_back b

pub eq_demand_self : (a : Demand) → eq_demand a a ≡ true
unfolding eq_demand
eq_demand_self a = eq_numbers_self (demand_key a)
