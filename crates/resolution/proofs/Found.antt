-- Two lookups that find the same, with something known of what they find; and two programs that are the same tree, with something known of
-- every demand they ask. Assumes nothing.
use Prim.Native.Nat.{ℕ}
use mathlib.Core.Path.{◌≡◌, refl, sym, subst}
use mathlib.Core.Bool.{Bool, true, false}
use mathlib.Core.List.{Memᴰ}
use Rattle.std.specs.Prelude.{Option, None, Some}
use Rattle.model.specs.Common.{or_else}
use Rattle.resolution.specs.TypeData.{TypeData}
use Rattle.resolution.specs.Types.{Table}
use Rattle.resolution.specs.Programs.{Demand, Answer, Program, done, refuse, ask, enter, look, ◌>>=◌, when◌then◌else◌, let_some}
use Rattle.resolution.specs.Run.{Outcome, go_on, enter_type, run}
use Rattle.model.specs.Links.{link}

-- ------------------------------------------------------------------ lookups

-- both find nothing, or both find the same x, of which P x holds
pub data Found {A : Type 0} (P : A → Type 0) : Option A → Option A → Type 0 where
  neither : Found P None None
  both : (x : A) → P x → Found P (Some x) (Some x)

pub found_self : {A : Type 0} (o : Option A) → Found (λ x. o ≡ Some x) o o
found_self None = neither
found_self (Some x) = both x refl

-- one lookup, of which P is known
pub found_one : {A : Type 0} (P : A → Type 0) (o : Option A) → ((x : A) → o ≡ Some x → P x) → Found P o o
found_one P None h = neither
found_one P (Some x) h = both x (h x refl)

pub found_by : {A : Type 0} (P : A → Type 0) {o o' : Option A} → o ≡ o' → ((x : A) → o ≡ Some x → P x) → Found P o o'
found_by P {o} e h = subst (λ r. Found P o r) e (found_one P o h)

pub found_link : (o : Option ℕ) → Found (λ x. Memᴰ x (link o)) o o
found_link None = neither
found_link (Some x) = both x (Memᴰ.head refl)

-- each finds something, x and y, of which R x y holds
pub data Each {A : Type 0} (R : A → A → Type 0) : Option A → Option A → Type 0 where
  each : (x y : A) → R x y → Each R (Some x) (Some y)

-- both find nothing, or each something, of which R holds
pub data Both {A : Type 0} (R : A → A → Type 0) : Option A → Option A → Type 0 where
  nor : Both R None None
  and : (x y : A) → R x y → Both R (Some x) (Some y)

pub each_two : {A : Type 0} {R : A → A → Type 0} {o o' : Option A} {x y : A} → o ≡ Some x → o' ≡ Some y → R x y → Each R o o'
each_two {R = R} {o' = o'} {x = x} {y = y} e e' r =
    subst (λ z. Each R z o') (sym e) (subst (λ z. Each R (Some x) z) (sym e') (each x y r))

pub found_or_else : {A : Type 0} {P : A → Type 0} {a a' b b' : Option A} → Found P a a' → Found P b b' → Found P (or_else a b) (or_else a' b')
found_or_else neither g = g
found_or_else (both x p) g = both x p

-- ------------------------------------------------------------------ programs

-- the same tree, and every demand asked is good
pub data Same (Good : Demand → Type 0) {A : Type 0} : Program A → Program A → Type 0 where
  same_done : (a : A) → Same Good (done a) (done a)
  same_refuse : (n : ℕ) → Same Good (refuse n) (refuse n)
  same_ask : (d : Demand) {k k' : Answer d → Program A} → Good d → ((a : Answer d) → Same Good (k a) (k' a)) → Same Good (ask d k) (ask d k')
  same_enter : (row : TypeData) {k k' : ℕ → Program A} → ((t : ℕ) → Same Good (k t) (k' t)) → Same Good (enter row k) (enter row k')
  same_look : {k k' : Table → Program A} → ((table : Table) → Same Good (k table) (k' table)) → Same Good (look k) (look k')

module _ {Good : Demand → Type 0} where
  pub same_bind : {A B : Type 0} {p p' : Program A} {f f' : A → Program B}
      → Same Good p p' → ((a : A) → Same Good (f a) (f' a)) → Same Good (p >>= f) (p' >>= f')
  unfolding ◌>>=◌
  same_bind (same_done a) g = g a
  same_bind (same_refuse n) g = same_refuse n
  same_bind (same_ask d good h) g = same_ask d good (λ a. same_bind (h a) g)
  same_bind (same_enter row h) g = same_enter row (λ t. same_bind (h t) g)
  same_bind (same_look h) g = same_look (λ table. same_bind (h table) g)

  pub same_asked : (d : Demand) → Good d → Same Good (ask d done) (ask d done)
  same_asked d good = same_ask d good (λ a. same_done a)

  pub same_entered : (row : TypeData) → Same Good (enter row done) (enter row done)
  same_entered row = same_enter row (λ t. same_done t)

  -- what a program reads from the table alone
  pub same_read : {A : Type 0} (f : Table → A) → Same Good (look (λ table. done (f table))) (look (λ table. done (f table)))
  same_read f = same_look (λ table. same_done (f table))

  -- two lookups that find the same
  pub same_let_some : {A B : Type 0} {P : A → Type 0} {o o' : Option A} {p p' : Program B} {f f' : A → Program B}
      → Found P o o' → Same Good p p' → ((x : A) → P x → Same Good (f x) (f' x)) → Same Good (let_some o p f) (let_some o' p' f')
  unfolding let_some
  same_let_some neither h g = h
  same_let_some (both x q) h g = g x q

  -- two lookups that find something each
  pub same_each : {A B : Type 0} {R : A → A → Type 0} {o o' : Option A} {p p' : Program B} {f f' : A → Program B}
      → Each R o o' → Same Good p p' → ((x y : A) → R x y → Same Good (f x) (f' y)) → Same Good (let_some o p f) (let_some o' p' f')
  unfolding let_some
  same_each (each x y r) h g = g x y r

  pub same_both : {A B : Type 0} {R : A → A → Type 0} {o o' : Option A} {p p' : Program B} {f f' : A → Program B}
      → Both R o o' → Same Good p p' → ((x y : A) → R x y → Same Good (f x) (f' y)) → Same Good (let_some o p f) (let_some o' p' f')
  unfolding let_some
  same_both nor h g = h
  same_both (and x y r) h g = g x y r

  pub same_if : {A : Type 0} (b : Bool) {p p' q q' : Program A} → Same Good p p' → Same Good q q'
      → Same Good (when b then p else q) (when b then p' else q')
  unfolding when◌then◌else◌
  same_if true h g = h
  same_if false h g = g

  -- two tests that are equal
  pub same_ifs : {A : Type 0} (b b' : Bool) {p p' q q' : Program A} → b ≡ b' → Same Good p p' → Same Good q q'
      → Same Good (when b then p else q) (when b' then p' else q')
  same_ifs b b' {p} {p'} {q} {q'} e h g = subst (λ r. Same Good (when b then p else q) (when r then p' else q')) e (same_if b h g)

  -- the same tree, run by two handlers that agree on good demands, gives the same
  pub run_same : {A : Type 0} {p p' : Program A} (h h' : (d : Demand) → Table → Outcome (Answer d))
      → ((d : Demand) → Good d → (table : Table) → h d table ≡ h' d table) → Same Good p p' → (table : Table) → run h p table ≡ run h' p' table
  unfolding run
  run_same h h' agree (same_done a) table = refl
  run_same h h' agree (same_refuse n) table = refl
  run_same h h' agree (same_ask d good g) table =
      λ i. go_on (agree d good table i) (λ a rest. run_same h h' agree (g a) rest i)
  run_same h h' agree (same_enter row g) table = λ i. go_on (enter_type row table) (λ t rest. run_same h h' agree (g t) rest i)
  run_same h h' agree (same_look g) table = run_same h h' agree (g table) table
