-- The numbers that are answered are types of the table: what interning asks. Assumes nothing.
use Rattle.std.specs.Prelude.{Result, Ok, Err}
use Rattle.refusals.specs.declared.Refusal.{Refusal}
use Rattle.type_resolution.specs.State.{answer_by}
use mathlib.Core.Path.{◌≡◌, refl, sym, subst, subst⁻¹, ◌∙◌}
use Prim.Native.Nat.{ℕ, ◌-◌, ◌<◌}
use native.Mathlib.Omega.{arith}
use Rattle.std.specs.Prelude.{Option}
use mathlib.Core.List.{List}
use lib.ListN.{take}
use Rattle.records.specs.Layout.{index_of}
use Rattle.resolution.specs.TypeData.{TypeData}
use Rattle.resolution.specs.Types.{Table}
use Rattle.resolution.specs.Programs.{Demand, Program, done, ask, enter}
use Rattle.resolution.specs.TypeResolution.{resolve_all, infer_elements}
use Rattle.resolution.specs.Run.{Outcome, enter_type, run}
use Rattle.resolution.specs.TableOk.{Below, OptionBelow, OutcomeOk}
use Rattle.resolution.proofs.Safe.{Safe, run_safe, safe_asked}
use Rattle.demands.specs.Meaning.{open_demands}
use Rattle.resolution.proofs.SafeReads.{AllBelow as AllOfTable, contexts_below}
use Rattle.resolution.proofs.SafePrograms.{demand_ok, resolve_all_safe, infer_elements_safe}
use Rattle.type_table.specs.Layout.{table_of, type_count, types_of, AllBelow}
use Rattle.type_table.specs.Promises.{Grows, Interns, ContextsRead, outcome_of}
use Rattle.type_table.specs.declared.TypeList.{TypeList}
use Rattle.type_table.proofs.Rows.{length_table}
use Rattle.type_table.proofs.Laws.{below_members, interned_ok}
use Rattle.type_resolution.specs.State.{Ready, Runs, typed, collected}
use Rattle.type_resolution.proofs.Running.{handler, Gives, is_ok, go_on_answered}

-- ------------------------------------------------------------------ what is answered

module _ {A R : Type 0} {meaning : R → Table → Outcome A} {file words : List ℕ} {depth : ℕ} {T : List ℕ} {O : List (List ℕ)} {T' : List ℕ} {O' : List (List ℕ)} {r : R} {p : Program A}
    (ok : Ready file words depth T O) (a : Runs meaning file words p depth T O T' O' r) where
  -- an answer of a program that stays within the table
  pub answered_good : (Good : Table → A → Type 0) → Safe Good (table_of file T) p → {x : A} → Gives meaning r x → Good (table_of file T') x
  answered_good Good safe {x} is =
      (subst⁻¹ (OutcomeOk Good (table_of file T)) (sym (is.gives (table_of file T')) ∙ a.outcome)
      (run_safe Good (handler file words depth O) (demand_ok (256 - depth) (index_of file words) (open_demands depth O)) safe ok.ok)).2

all_of_table : (file T' l : List ℕ) → AllOfTable (table_of file T') l → AllBelow (type_count T') l
all_of_table file T' l all = below_members (type_count T') l (λ u named. subst (λ k. u < k) (length_table file T') (all u named))

module _ {file words : List ℕ} {depth : ℕ} {T : List ℕ} {O : List (List ℕ)} {T' : List ℕ} {O' : List (List ℕ)} (ok : Ready file words depth T O) where
  -- the answer of a type's demand
  pub type_below : {r : Result ℕ Refusal} {m t s n : ℕ} → Runs typed file words (ask (Demand.type m t s) done) depth T O T' O' r → r ≡ Ok n → n < type_count T'
  type_below {m = m} {t} {s} {n} a e =
      subst (λ k. n < k) (length_table file T') (answered_good ok a Below (safe_asked (Demand.type m t s) tt) (is_ok _ e))

  -- the answer of an expression's demand, whose context is a type of the table
  pub expression_below : {r : Result ℕ Refusal} {m x n : ℕ} {context : Option ℕ} → OptionBelow (table_of file T) context
      → Runs typed file words (ask (Demand.expression m x context) done) depth T O T' O' r → r ≡ Ok n → n < type_count T'
  expression_below {m = m} {x} {n} {context} fits a e =
      subst (λ k. n < k) (length_table file T') (answered_good ok a Below (safe_asked (Demand.expression m x context) fits) (is_ok _ e))

  -- the types of a list
  pub collected_below : (out : List ℕ) (m s : ℕ) (ts : List ℕ) {r : Result ℕ Refusal} {n : ℕ} → Runs (collected out) file words (resolve_all m s ts) depth T O T' O' r → r ≡ Ok n
      → AllBelow (type_count T') (take n out)
  collected_below out m s ts {n = n} a e =
      all_of_table file T' (take n out) (answered_good ok a AllOfTable (resolve_all_safe ok.ok m s ts) (is_ok _ e))

  -- the types of a tuple's elements, whose contexts are types of the table
  pub elements_below : (out contexts : List ℕ) (m i : ℕ) (es : List (Option ℕ)) {r : Result ℕ Refusal} {n : ℕ} → AllOfTable (table_of file T) contexts
      → Runs (collected out) file words (infer_elements m contexts i es) depth T O T' O' r → r ≡ Ok n → AllBelow (type_count T') (take n out)
  elements_below out contexts m i es {n = n} fits a e =
      all_of_table file T' (take n out) (answered_good ok a AllOfTable (infer_elements_safe ok.ok m contexts fits i es) (is_ok _ e))

-- the contexts that a tuple gives its elements
pub contexts_good : {file words : List ℕ} {depth : ℕ} {T : List ℕ} {O : List (List ℕ)} → Ready file words depth T O → {context : Option ℕ} {count : ℕ} {list : TypeList}
    → ContextsRead T context count list → AllOfTable (table_of file T) (types_of T list)
contexts_good {file} {T = T} ok {context} {count} is = subst⁻¹ (AllOfTable (table_of file T)) (is.same file) (contexts_below ok.ok context count)

-- numbers that are below stay so
pub later_below : {T T' : List ℕ} {n : ℕ} → Grows T T' → n < type_count T → n < type_count T'
later_below g lt = omega (arith, lt, g.types)

pub later_all_below : {T T' : List ℕ} (l : List ℕ) → Grows T T' → AllBelow (type_count T) l → AllBelow (type_count T') l
later_all_below l g all i lt = let b = all i lt in omega (arith, b, g.types)

-- ------------------------------------------------------------------ interning

same_outcome : (file w : List ℕ) (r : Result ℕ Refusal) → typed r (table_of file w) ≡ outcome_of file r w
unfolding answer_by
same_outcome file w (Ok t) = refl
same_outcome file w (Err refusal) = refl

pub interns_runs : {file words : List ℕ} {depth : ℕ} {T : List ℕ} {O : List (List ℕ)} {row : TypeData} {T' : List ℕ} {r : Result ℕ Refusal} → Ready file words depth T O → Interns file row T T' r
    → Runs typed file words (enter row done) depth T O T' O r
unfolding run
interns_runs {file} {T = T} {row = row} {T' = T'} {r = r} ok i = record {
  outcome = same_outcome file T' r ∙ i.outcome ∙ sym (go_on_answered (enter_type row (table_of file T)));
  ready = record { few = ok.few; sound = i.sound; ok = interned_ok i ok.ok; places = ok.places; below = ok.below };
  kept = refl;
  rest = refl;
  grows = i.grows;
}
