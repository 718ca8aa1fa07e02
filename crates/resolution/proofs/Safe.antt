-- Programs that stay within the table of types: what they hand on is a type of the table. Assumes nothing.
use Prim.Native.Nat.{ℕ, ◌<◌}
use mathlib.Core.Path.{◌≡◌, refl}
use mathlib.Core.Bool.{Bool, true, false}
use mathlib.Core.List.{Memᴰ}
use Rattle.std.specs.Prelude.{Option, None, Some}
use lib.Dec.{lit≤}
use Rattle.resolution.specs.TypeData.{TypeData}
use Rattle.resolution.specs.Types.{Table}
use Rattle.resolution.specs.Programs.{Demand, Answer, Program, done, refuse, ask, enter, look, ◌>>=◌, when◌then◌else◌, let_some}
use Rattle.resolution.specs.Run.{Outcome, answered, refused, go_on, enter_type, run}
use Rattle.resolution.specs.TableOk.{row_types, TableOk, Extends, Below, DemandOk, AnswerOk, OutcomeOk}
use Rattle.resolution.proofs.Tables.{extends_refl, extends_trans, base_below, enter_ok}

-- ------------------------------------------------------------------ programs that stay within the table

-- started at this table, every number that the program hands on is a type of the table then, and what it reads of the table it would read of
-- every later one
pub data Safe {A : Type 0} (Good : Table → A → Type 0) : Table → Program A → Type 0 where
  safe_done : {table : Table} {a : A} → Good table a → Safe Good table (done a)
  safe_refuse : {table : Table} → Safe Good table (refuse 6)
  safe_ask : {table : Table} (d : Demand) {k : Answer d → Program A} → DemandOk table d
      → ((after : Table) → TableOk after → Extends table after → (a : Answer d) → AnswerOk d after a → Safe Good after (k a))
      → Safe Good table (ask d k)
  safe_enter : {table : Table} (row : TypeData) {k : ℕ → Program A} → ((t : ℕ) → Memᴰ t (row_types row) → Below table t)
      → ((after : Table) → TableOk after → Extends table after → (t : ℕ) → Below after t → Safe Good after (k t))
      → Safe Good table (enter row k)
  safe_look : {table : Table} {k : Table → Program A} → ((after : Table) → Extends table after → k after ≡ k table)
      → Safe Good table (k table) → Safe Good table (look k)

weaken : {A : Type 0} (Good : Table → A → Type 0) {table after : Table} → Extends table after → (o : Outcome A)
    → OutcomeOk Good after o → OutcomeOk Good table o
weaken Good x (answered a last) h = (h.0, extends_trans x h.1, h.2)
weaken Good x (refused n) h = h

go_on_ok : {A B : Type 0} (GoodA : Table → A → Type 0) (GoodB : Table → B → Type 0) (table : Table) (o : Outcome A) (f : A → Table → Outcome B)
    → OutcomeOk GoodA table o
    → ((a : A) (after : Table) → TableOk after → Extends table after → GoodA after a → OutcomeOk GoodB after (f a after))
    → OutcomeOk GoodB table (go_on o f)
unfolding go_on
go_on_ok GoodA GoodB table (answered a after) f h g = weaken GoodB h.1 (f a after) (g a after h.0 h.1 h.2)
go_on_ok GoodA GoodB table (refused n) f h g = h

-- a handler under which every demand is as it should be
abbrev pub HandlerOk : ((d : Demand) → Table → Outcome (Answer d)) → Type 0
HandlerOk h = (d : Demand) (table : Table) → TableOk table → DemandOk table d → OutcomeOk (AnswerOk d) table (h d table)

pub run_safe : {A : Type 0} (Good : Table → A → Type 0) (h : (d : Demand) → Table → Outcome (Answer d)) → HandlerOk h
    → {table : Table} {p : Program A} → Safe Good table p → TableOk table → OutcomeOk Good table (run h p table)
unfolding run
run_safe Good h handler {table} (safe_done good) ok = (ok, extends_refl table, good)
run_safe Good h handler safe_refuse ok = (lit≤ tt, lit≤ tt)
run_safe Good h handler {table} (safe_ask d {k} fits rest) ok =
    go_on_ok (AnswerOk d) Good table (h d table) (λ a. run h (k a)) (handler d table ok fits)
    (λ a after ok' x good. run_safe Good h handler (rest after ok' x a good) ok')
run_safe Good h handler {table} (safe_enter row {k} inner rest) ok =
    go_on_ok Below Good table (enter_type row table) (λ t. run h (k t)) (enter_ok table row ok inner)
    (λ t after ok' x good. run_safe Good h handler (rest after ok' x t good) ok')
run_safe Good h handler (safe_look steady rest) ok = run_safe Good h handler rest ok

pub safe_bind : {A B : Type 0} {GoodA : Table → A → Type 0} {GoodB : Table → B → Type 0} {table : Table} {p : Program A} {f : A → Program B}
    → TableOk table → Safe GoodA table p
    → ((after : Table) → TableOk after → Extends table after → (a : A) → GoodA after a → Safe GoodB after (f a))
    → Safe GoodB table (p >>= f)
unfolding ◌>>=◌
safe_bind {table = table} ok (safe_done {a = a} good) g = g table ok (extends_refl table) a good
safe_bind ok safe_refuse g = safe_refuse
safe_bind ok (safe_ask d fits rest) g =
    safe_ask d fits (λ after ok' x a good. safe_bind ok' (rest after ok' x a good) (λ last ok'' y. g last ok'' (extends_trans x y)))
safe_bind ok (safe_enter row inner rest) g =
    safe_enter row inner (λ after ok' x t good. safe_bind ok' (rest after ok' x t good) (λ last ok'' y. g last ok'' (extends_trans x y)))
safe_bind {f = f} ok (safe_look steady rest) g = safe_look (λ after x i. steady after x i >>= f) (safe_bind ok rest g)

module _ {A B : Type 0} {Good : Table → B → Type 0} {table : Table} where
  pub safe_let_some : (o : Option A) {p : Program B} {f : A → Program B} → Safe Good table p → ((x : A) → o ≡ Some x → Safe Good table (f x))
      → Safe Good table (let_some o p f)
  unfolding let_some
  safe_let_some None h g = h
  safe_let_some (Some x) h g = g x refl

pub safe_if : {A : Type 0} {Good : Table → A → Type 0} {table : Table} (b : Bool) {p q : Program A} → Safe Good table p → Safe Good table q
    → Safe Good table (when b then p else q)
unfolding when◌then◌else◌
safe_if true h g = h
safe_if false h g = g

-- one demand, one row
pub safe_asked : {table : Table} (d : Demand) → DemandOk table d → Safe (AnswerOk d) table (ask d done)
safe_asked d fits = safe_ask d fits (λ after ok x a good. safe_done good)

pub safe_entered : {table : Table} (row : TypeData) → ((t : ℕ) → Memᴰ t (row_types row) → Below table t) → Safe Below table (enter row done)
safe_entered row inner = safe_enter row inner (λ after ok x t good. safe_done good)

-- the number of a type of the first table
pub known : {table : Table} → TableOk table → (t : ℕ) → t < 6 → Safe Below table (done t)
known ok t h = safe_done (base_below ok t h)
