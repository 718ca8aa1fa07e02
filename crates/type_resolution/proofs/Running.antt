-- How a program runs over the lent words, one step at a time: what each function of the cycle cites at its calls and returns. Assumes nothing.
use mathlib.Core.Path.{◌≡◌, refl, sym, ap, subst, subst⁻¹, ◌∙◌}
use mathlib.Core.Bool.{Bool, true, false, false≢true}
use Prim.Native.Nat.{ℕ, ◌+◌, ◌*◌, ◌-◌, ◌<◌}
use native.Mathlib.Omega.{arith}
use Rattle.std.specs.Prelude.{Option, None, Some, Result, Ok, Err, IsErr, IsErrAnd, ok_or}
use Rattle.std.specs.Result.{result_ok}
use mathlib.Core.List.{List}
use Rattle.records.specs.Layout.{index_of}
use Rattle.records.specs.Meaning.{expression_link_of}
use Rattle.records.specs.declared.ExpressionId.{ExpressionId}
use Rattle.resolution.specs.TypeData.{TypeData}
use Rattle.resolution.specs.Types.{Table, data_of}
use Rattle.resolution.specs.Programs.{Demand, Answer, Program, done, refuse, ask, look, ◌>>=◌, let_some, when◌then◌else◌, type_data}
use Rattle.resolution.specs.TypeResolution.{program}
use Rattle.resolution.specs.Run.{Outcome, answered, refused, go_on, run, demand}
use Rattle.resolution.proofs.RunLaws.{run_bind}
use Rattle.type_table.specs.Layout.{table_of}
use Rattle.type_table.specs.Promises.{Reads}
use Rattle.type_table.proofs.Growth.{grows_refl, grows_trans}
use Rattle.demands.specs.Meaning.{open_demands}
use Rattle.demands.specs.Promises.{Opens}
use Rattle.demands.proofs.Laws.{still_long, refused_demand, opened_demand, next_below, kept_through}
use Rattle.refusals.specs.Numbers.{refusal_number}
use Rattle.refusals.specs.declared.Refusal.{Refusal}
use Rattle.type_resolution.specs.State.{Ready, Runs, answer_by, typed, linked}

-- how the demands of a program are answered
abbrev pub handler : List ℕ → List ℕ → ℕ → List (List ℕ) → (d : Demand) → Table → Outcome (Answer d)
handler file words depth demands = demand (256 - depth) (index_of file words) (open_demands depth demands)

-- ------------------------------------------------------------------ what a result means

-- a result stands for an answer, or for a refusal, whatever the table
pub record Gives {A R : Type 0} (meaning : R → Table → Outcome A) (r : R) (a : A) : Type 0 where
  pub gives : (t : Table) → meaning r t ≡ answered a t

pub record Stops {A R : Type 0} (meaning : R → Table → Outcome A) (r : R) (n : ℕ) : Type 0 where
  pub stops : (t : Table) → meaning r t ≡ refused n

ok_gives : {A B : Type 0} (f : A → B) (x : A) (t : Table) → answer_by f (Ok x) t ≡ answered (f x) t
unfolding answer_by
ok_gives f x t = refl

err_stops : {A B : Type 0} (f : A → B) (refusal : Refusal) (t : Table) → answer_by f (Err refusal) t ≡ refused (refusal_number refusal)
unfolding answer_by
err_stops f refusal t = refl

pub is_ok : {A B : Type 0} (f : A → B) {r : Result A Refusal} {x : A} → r ≡ Ok x → Gives (answer_by f) r (f x)
is_ok f {x = x} e = record { gives = λ t. ap (λ r. answer_by f r t) e ∙ ok_gives f x t }

pub is_err : {A B : Type 0} (f : A → B) {r : Result A Refusal} {refusal : Refusal} → r ≡ Err refusal → Stops (answer_by f) r (refusal_number refusal)
is_err f {refusal = refusal} e = record { stops = λ t. ap (λ r. answer_by f r t) e ∙ err_stops f refusal t }

-- a refusal that `?` handed on
pub handed_on : {A : Type 0} {r : Result A Refusal} {refusal : Refusal} → IsErr r × IsErrAnd r (λ e. e ≡ refusal) → r ≡ Err refusal
handed_on {r = Ok x} h = absurd (false≢true h.0)
handed_on {r = Err e} h = ap Err h.1

pub is_handed_on : {A B : Type 0} (f : A → B) (refusal : Refusal) {r : Result A Refusal} → IsErr r × IsErrAnd r (λ e. e ≡ refusal) → Stops (answer_by f) r (refusal_number refusal)
is_handed_on f refusal h = is_err f (handed_on h)

-- a link that `ok_or` finds, and one that it refuses
pub was_there : {A : Type 0} {o : Option A} {r : Result A Refusal} {x : A} → o ≡ result_ok r → r ≡ Ok x → o ≡ Some x
was_there is e = is ∙ ap result_ok e

pub was_missing : {A : Type 0} {o : Option A} {r : Result A Refusal} {refusal : Refusal} → o ≡ result_ok r → r ≡ Err refusal → o ≡ None
was_missing is e = is ∙ ap result_ok e

refusal_in : {A : Type 0} → Refusal → Result A Refusal → Refusal
refusal_in given (Ok x) = given
refusal_in given (Err refusal) = refusal

given_in : {A : Type 0} (o : Option A) (given : Refusal) → refusal_in given (ok_or o given) ≡ given
unfolding refusal_in
given_in None given = refl
given_in (Some x) given = refl

-- the refusal is the one that it was given
is_given : {A : Type 0} (o : Option A) (given : Refusal) {r : Result A Refusal} {refusal : Refusal} → r ≡ ok_or o given → r ≡ Err refusal → refusal ≡ given
unfolding refusal_in
is_given o given is e = sym (ap (refusal_in given) e) ∙ ap (refusal_in given) is ∙ given_in o given

-- ------------------------------------------------------------------ ends

module _ {A R : Type 0} {meaning : R → Table → Outcome A} {file words : List ℕ} {depth : ℕ} {T : List ℕ} {O : List (List ℕ)} (ok : Ready file words depth T O) where
  pub ends : {a : A} {r : R} → Gives meaning r a → Runs meaning file words (done a) depth T O T O r
  unfolding run
  ends is = record { outcome = is.gives (table_of file T); ready = ok; kept = refl; rest = refl; grows = grows_refl T }

  pub stops : {n : ℕ} {r : R} → Stops meaning r n → Runs meaning file words (refuse n) depth T O T O r
  unfolding run
  stops is = record { outcome = is.stops (table_of file T); ready = ok; kept = refl; rest = refl; grows = grows_refl T }

module _ {file words : List ℕ} {depth : ℕ} {T : List ℕ} {O : List (List ℕ)} (ok : Ready file words depth T O) where
  -- a known type
  pub answers : {n m : ℕ} → n ≡ m → Runs typed file words (done m) depth T O T O (Ok n)
  answers e = ends ok (is_ok _ (ap Ok e))

  -- a missing link, refused as `ok_or` was told
  pub missing_runs : {A : Type 0} (o : Option A) (given : Refusal) {r : Result A Refusal} {refusal : Refusal} {s : Result ℕ Refusal} → r ≡ ok_or o given → r ≡ Err refusal
      → IsErr s × IsErrAnd s (λ e. e ≡ refusal) → Runs typed file words (refuse (refusal_number given)) depth T O T O s
  missing_runs o given {s = s} is e h = stops ok (subst (λ n. Stops (answer_by (λ t. t)) s (refusal_number n)) (is_given o given is e) (is_handed_on _ _ h))

  pub knows : {n m : ℕ} → n ≡ m → Runs linked file words (done (Some m)) depth T O T O (Ok (Some n))
  knows e = ends ok (is_ok _ (ap (λ n. Ok (Some n)) e))

  pub knows_nothing : Runs linked file words (done None) depth T O T O (Ok None)
  knows_nothing = ends ok (is_ok _ refl)

  -- what is read of the table
  pub reads : {read : Table → ℕ} {n : ℕ} → Reads file T read n → Runs typed file words (look (λ table. done (read table))) depth T O T O (Ok n)
  unfolding run answer_by
  reads is = record { outcome = ap (λ n. answered n (table_of file T)) is.same; ready = ok; kept = refl; rest = refl; grows = grows_refl T }

-- ------------------------------------------------------------------ one program, then another

module _ {A B R S : Type 0} {means : R → Table → Outcome A} {meaning : S → Table → Outcome B} {file words : List ℕ} {depth : ℕ}
    {T : List ℕ} {O : List (List ℕ)} {T' : List ℕ} {O' : List (List ℕ)} {r : R} {p : Program A} (a : Runs means file words p depth T O T' O' r) where
  pub then_on : (f : A → Program B) {x : A} {T'' : List ℕ} {O'' : List (List ℕ)} {s : S} → Gives means r x
      → Runs meaning file words (f x) depth T' O' T'' O'' s → Runs meaning file words (p >>= f) depth T O T'' O'' s
  unfolding go_on
  then_on f {x} is b = record {
    outcome =
        b.outcome
        ∙ ap (λ os. run (demand (256 - depth) (index_of file words) os) (f x) (table_of file T')) a.kept
        ∙ sym (run_bind (handler file words depth O) p f (table_of file T)
        ∙ ap (λ o. go_on o (λ y. run (handler file words depth O) (f y))) (sym a.outcome ∙ is.gives (table_of file T')));
    ready = b.ready;
    kept = b.kept ∙ a.kept;
    rest = b.rest ∙ a.rest;
    grows = grows_trans a.grows b.grows;
  }

  pub then_stop : (f : A → Program B) {n : ℕ} {s : S} → Stops means r n → Stops meaning s n → Runs meaning file words (p >>= f) depth T O T' O' s
  unfolding go_on
  then_stop f {n} is so = record {
    outcome =
        so.stops (table_of file T')
        ∙ sym (run_bind (handler file words depth O) p f (table_of file T)
        ∙ ap (λ o. go_on o (λ y. run (handler file words depth O) (f y))) (sym a.outcome ∙ is.stops (table_of file T')));
    ready = a.ready;
    kept = a.kept;
    rest = a.rest;
    grows = a.grows;
  }

-- the program goes on with what a call gave, or ends with the refusal that `?` hands on
module _ {A B : Type 0} {file words : List ℕ} {depth : ℕ} {T : List ℕ} {O : List (List ℕ)} {T' : List ℕ} {O' : List (List ℕ)} {r : Result A Refusal} {p : Program A}
    (a : Runs (answer_by (λ x. x)) file words p depth T O T' O' r) (f : A → Program B) where
  pub then_given : {S : Type 0} {meaning : S → Table → Outcome B} {x : A} {T'' : List ℕ} {O'' : List (List ℕ)} {s : S} → r ≡ Ok x
      → Runs meaning file words (f x) depth T' O' T'' O'' s → Runs meaning file words (p >>= f) depth T O T'' O'' s
  then_given e b = then_on a f (is_ok (λ x. x) e) b

  pub then_refused : {s : Result B Refusal} {refusal : Refusal} → r ≡ Err refusal → IsErr s × IsErrAnd s (λ e. e ≡ refusal)
      → Runs (answer_by (λ x. x)) file words (p >>= f) depth T O T' O' s
  then_refused e handed = then_stop a f (is_err (λ x. x) e) (is_handed_on (λ x. x) _ handed)

-- ------------------------------------------------------------------ choices

module _ {A R : Type 0} {meaning : R → Table → Outcome A} {file words : List ℕ} {depth : ℕ} {T : List ℕ} {O : List (List ℕ)} {T' : List ℕ} {O' : List (List ℕ)} {r : R} where
  pub if_true : (b : Bool) (p q : Program A) {x : Bool} → x ≡ b → x ≡ true → Runs meaning file words p depth T O T' O' r → Runs meaning file words (when b then p else q) depth T O T' O' r
  unfolding when◌then◌else◌
  if_true b p q h e a = subst (λ y. Runs meaning file words (when y then p else q) depth T O T' O' r) (sym e ∙ h) a

  pub if_false : (b : Bool) (p q : Program A) {x : Bool} → x ≡ b → x ≡ false → Runs meaning file words q depth T O T' O' r → Runs meaning file words (when b then p else q) depth T O T' O' r
  unfolding when◌then◌else◌
  if_false b p q h e a = subst (λ y. Runs meaning file words (when y then p else q) depth T O T' O' r) (sym e ∙ h) a

  pub some_runs : {X : Type 0} (o : Option X) (p : Program A) (f : X → Program A) {x : X} → o ≡ Some x → Runs meaning file words (f x) depth T O T' O' r → Runs meaning file words (let_some o p f) depth T O T' O' r
  unfolding let_some
  some_runs o p f e a = subst⁻¹ (λ y. Runs meaning file words (let_some y p f) depth T O T' O' r) e a

  -- a child that `ok_or` finds
  pub child_runs : {o : Option ExpressionId} {e : Result ExpressionId Refusal} {x : ExpressionId} (p : Program A) (f : ℕ → Program A) → o ≡ result_ok e → e ≡ Ok x
      → Runs meaning file words (f x.0) depth T O T' O' r → Runs meaning file words (let_some (expression_link_of o) p f) depth T O T' O' r
  child_runs p f is h a = some_runs _ p f (ap expression_link_of (was_there is h)) a

  pub none_runs : {X : Type 0} (o : Option X) (p : Program A) (f : X → Program A) → o ≡ None → Runs meaning file words p depth T O T' O' r → Runs meaning file words (let_some o p f) depth T O T' O' r
  unfolding let_some
  none_runs o p f e a = subst⁻¹ (λ y. Runs meaning file words (let_some y p f) depth T O T' O' r) e a

  -- the table as it stands
  pub look_runs : (k : Table → Program A) → Runs meaning file words (k (table_of file T)) depth T O T' O' r → Runs meaning file words (look k) depth T O T' O' r
  unfolding run
  look_runs k a = record { outcome = a.outcome; ready = a.ready; kept = a.kept; rest = a.rest; grows = a.grows }

  -- a program that is another
  pub same_runs : {p q : Program A} → p ≡ q → Runs meaning file words q depth T O T' O' r → Runs meaning file words p depth T O T' O' r
  same_runs e a = subst⁻¹ (λ p. Runs meaning file words p depth T O T' O' r) e a

-- a run whose state has another name where two ways meet
module _ {A R : Type 0} {meaning : R → Table → Outcome A} {file words : List ℕ} {p : Program A} {depth : ℕ} {T T₁ T₂ : List ℕ} {O O₁ O₂ : List (List ℕ)} {r : R} where
  pub joined : T₂ ≡ T₁ → O₂ ≡ O₁ → Runs meaning file words p depth T O T₁ O₁ r → Runs meaning file words p depth T O T₂ O₂ r
  joined e h a =
      subst⁻¹ (λ y. Runs meaning file words p depth T O y O₂ r) e (subst⁻¹ (λ y. Runs meaning file words p depth T O T₁ y r) h a)

-- ------------------------------------------------------------------ opening a demand

-- what an answer is handed on to, itself
pub go_on_answered : {A : Type 0} (o : Outcome A) → go_on o answered ≡ o
unfolding go_on
go_on_answered (answered a table) = refl
go_on_answered (refused n) = refl

-- asking and giving the answer is what the handler gives
pub run_ask_done : (h : (d : Demand) → Table → Outcome (Answer d)) (d : Demand) (t : Table) → run h (ask d done) t ≡ h d t
unfolding run
run_ask_done h d t = go_on_answered (h d t)

module _ {file words : List ℕ} {depth : ℕ} {T : List ℕ} {O O₁ : List (List ℕ)} {d : Demand} {e : Result ℕ Refusal} (ok : Ready file words depth T O) (o : Opens d depth O O₁ e) where
  pub entered_ready : {next : ℕ} → e ≡ Ok next → Ready file words next T O₁
  entered_ready h = record {
    few = ok.few;
    sound = ok.sound;
    ok = ok.ok;
    places = still_long o ok.places;
    below = next_below o h;
  }

  module _ {R : Type 0} {meaning : R → Table → Outcome (Answer d)} where
    -- 7 or 8
    pub entered_stops : {refusal : Refusal} {r : R} → e ≡ Err refusal → Stops meaning r (refusal_number refusal) → Runs meaning file words (ask d done) depth T O T O₁ r
    entered_stops h is = record {
      outcome =
          is.stops (table_of file T)
          ∙ sym (run_ask_done (handler file words depth O) d (table_of file T) ∙ refused_demand o h ok.below (index_of file words) (table_of file T));
      ready = record { few = ok.few; sound = ok.sound; ok = ok.ok; places = still_long o ok.places; below = ok.below };
      kept = o.kept;
      rest = o.rest;
      grows = grows_refl T;
    }

    -- the demand's program, with one place fewer
    pub entered_runs : {next : ℕ} {T' : List ℕ} {O' : List (List ℕ)} {r : R} → e ≡ Ok next
        → Runs meaning file words (program (index_of file words) d) next T O₁ T' O' r → Runs meaning file words (ask d done) depth T O T' O' r
    entered_runs {next} {T'} {O'} h b = record {
      outcome =
          b.outcome
          ∙ sym (run_ask_done (handler file words depth O) d (table_of file T) ∙ opened_demand o h (index_of file words) (table_of file T));
      ready = record { few = b.ready.few; sound = b.ready.sound; ok = b.ready.ok; places = b.ready.places; below = ok.below };
      kept = kept_through o h O' b.kept;
      rest = b.rest ∙ o.rest;
      grows = b.grows;
    }

-- ------------------------------------------------------------------ one row of the table

module _ {A R : Type 0} {meaning : R → Table → Outcome A} {file words : List ℕ} {depth : ℕ} {T : List ℕ} {O : List (List ℕ)} {T' : List ℕ} {O' : List (List ℕ)} {r : R} where
  pub data_runs : (t : ℕ) (f : TypeData → Program A) → Runs meaning file words (f (data_of (table_of file T) t)) depth T O T' O' r
      → Runs meaning file words (type_data t >>= f) depth T O T' O' r
  unfolding run ◌>>=◌
  data_runs t f a = record { outcome = a.outcome; ready = a.ready; kept = a.kept; rest = a.rest; grows = a.grows }

-- ------------------------------------------------------------------ free places

-- a function that opened its demand has fewer places free, whatever its callee's rank
pub enter_falls : (rank : ℕ) → rank < 8 → {d : Demand} {depth : ℕ} {places places₁ : List (List ℕ)} {e : Result ℕ Refusal} {next t : ℕ} → Opens d depth places places₁ e → e ≡ Ok next
    → t ≡ 8 * (256 - depth) → 8 * (256 - next) + rank < t
enter_falls rank small {next = next} o h is = let at = o.next next h in omega (arith, small, at.0, at.1, is)
