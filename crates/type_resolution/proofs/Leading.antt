-- A loop over a list: what a program gives is what the program over what is left gives. Assumes nothing.
use Rattle.std.specs.Prelude.{Result, Ok, Err, IsErr, IsErrAnd}
use Rattle.refusals.specs.declared.Refusal.{Refusal}
use mathlib.Core.Path.{◌≡◌, refl, sym, ap, ◌∙◌}
use mathlib.Core.Bool.{Bool, true, false}
use Prim.Native.Nat.{ℕ, zero, suc, ◌+◌, ◌-◌, ◌≤◌, ◌<◌, min}
use native.Mathlib.Numerals.{add-one}
use native.Mathlib.Omega.{arith}
use mathlib.Core.List.{List, [], ◌∷◌, ◌++◌, append_assoc, append-nil}
use Rattle.std.specs.Prelude.{Option, None, Some}
use Rattle.std.specs.Prelude.{slice_get}
use lib.ListN.{length, take, drop, set, get_or, length-take, length-drop}
use lib.Seq.{take-suc-set, ext_get_or, get_or-take, get_or-drop}
use Rattle.records.specs.Layout.{index_of, each, item_value, link_by, numbers_at, links_at}
use Rattle.records.specs.Meaning.{expression_link_of}
use Rattle.records.specs.declared.ExpressionId.{ExpressionId}
use Rattle.resolution.specs.Types.{Table}
use Rattle.resolution.specs.Compatible.{are_types_compatible}
use Rattle.resolution.specs.Programs.{Demand, Program, done, ask, look, ◌>>=◌, when◌then◌else◌, expression_semantic_type}
use Rattle.resolution.specs.TypeResolution.{resolve_all, infer_only, infer_arguments, infer_elements, all_same_type}
use Rattle.resolution.specs.Run.{Outcome, go_on, run, demand}
use Rattle.resolution.proofs.RunLaws.{run_bind}
use Rattle.demands.specs.Meaning.{open_demands}
use Rattle.type_table.specs.Layout.{table_of, types_of, item_count}
use Rattle.type_table.specs.declared.TypeList.{TypeList}
use Rattle.type_table.specs.Promises.{Grows}
use Rattle.type_table.proofs.Growth.{grows_refl, grows_trans}
use Rattle.type_resolution.specs.State.{Ready, Runs, typed, ignored, collected, compared, AtMost}
use Rattle.type_resolution.proofs.Running.{handler, Gives, is_ok, is_err, ends, then_stop, is_handed_on}
use Rattle.type_resolution.proofs.Shaped.{bind_assoc, bind_done}

-- the program `p`, from where the loop began, gives what `q` gives from here
pub record Leads {A : Type 0} (file words : List ℕ) (depth : ℕ) (p : Program A) (T₀ : List ℕ) (O₀ : List (List ℕ)) (q : Program A) (T : List ℕ) (O : List (List ℕ)) : Type 0 where
  pub same : run (handler file words depth O₀) p (table_of file T₀) ≡ run (handler file words depth O) q (table_of file T)
  pub ready : Ready file words depth T O
  pub kept : open_demands depth O ≡ open_demands depth O₀
  pub rest : drop 256 O ≡ drop 256 O₀
  pub grows : Grows T₀ T

module _ {A : Type 0} {file words : List ℕ} {depth : ℕ} where
  pub leads_from : {p : Program A} {T : List ℕ} {O : List (List ℕ)} (q : Program A) → p ≡ q → Ready file words depth T O → Leads file words depth p T O q T O
  leads_from {T = T} {O} q e ok = record { same = ap (λ x. run (handler file words depth O) x (table_of file T)) e; ready = ok; kept = refl; rest = refl; grows = grows_refl T }

  module _ {p : Program A} {T₀ : List ℕ} {O₀ : List (List ℕ)} {q : Program A} {T : List ℕ} {O : List (List ℕ)} (l : Leads file words depth p T₀ O₀ q T O) where
    pub leads_as : (q' : Program A) → q ≡ q' → Leads file words depth p T₀ O₀ q' T O
    leads_as q' e = record { same = l.same ∙ ap (λ x. run (handler file words depth O) x (table_of file T)) e; ready = l.ready; kept = l.kept; rest = l.rest; grows = l.grows }

    -- the loop's end
    pub leads_runs : {R : Type 0} {meaning : R → Table → Outcome A} {T' : List ℕ} {O' : List (List ℕ)} {r : R} → Runs meaning file words q depth T O T' O' r
        → Runs meaning file words p depth T₀ O₀ T' O' r
    leads_runs b = record { outcome = b.outcome ∙ sym l.same; ready = b.ready; kept = b.kept ∙ l.kept; rest = b.rest ∙ l.rest; grows = grows_trans l.grows b.grows }

  -- one demand, and on
  pub leads_on : {B R : Type 0} {means : R → Table → Outcome B} {p : Program A} {T₀ : List ℕ} {O₀ : List (List ℕ)} {first : Program B} (f : B → Program A) {T : List ℕ} {O : List (List ℕ)} {T' : List ℕ} {O' : List (List ℕ)} {r : R} {x : B}
      → Leads file words depth p T₀ O₀ (first >>= f) T O → Runs means file words first depth T O T' O' r → Gives means r x → Leads file words depth p T₀ O₀ (f x) T' O'
  unfolding go_on
  leads_on {first = first} f {T} {O} {T'} {O'} {x = x} l a is = record {
    same =
        l.same
        ∙ run_bind (handler file words depth O) first f (table_of file T)
        ∙ ap (λ o. go_on o (λ y. run (handler file words depth O) (f y))) (sym a.outcome ∙ is.gives (table_of file T'))
        ∙ ap (λ os. run (demand (256 - depth) (index_of file words) os) (f x) (table_of file T')) (sym a.kept);
    ready = a.ready;
    kept = a.kept ∙ l.kept;
    rest = a.rest ∙ l.rest;
    grows = grows_trans l.grows a.grows;
  }

  pub leads_look : {p : Program A} {T₀ : List ℕ} {O₀ : List (List ℕ)} (k : Table → Program A) {T : List ℕ} {O : List (List ℕ)} → Leads file words depth p T₀ O₀ (look k) T O
      → Leads file words depth p T₀ O₀ (k (table_of file T)) T O
  unfolding run
  leads_look k l = record { same = l.same; ready = l.ready; kept = l.kept; rest = l.rest; grows = l.grows }

-- ------------------------------------------------------------------ what is left of a list

module _ {B : Type 0} (f : ℕ → B) where
  each_step : (first count i : ℕ) → i < count → each f (first + i) (count - i) ≡ f (first + i) ∷ each f (first + (i + 1)) (count - (i + 1))
  unfolding each
  each_step first count i lt =
      let more : count - i ≡ suc (count - (i + 1)) = omega arith in
      let next : suc (first + i) ≡ first + (i + 1) = omega arith in
      ap (λ n. each f (first + i) n) more ∙ ap (λ n. f (first + i) ∷ each f n (count - (i + 1))) next

  each_over : (first count i : ℕ) → count ≤ i → each f (first + i) (count - i) ≡ []
  unfolding each
  each_over first count i le = let none_left : count - i ≡ 0 = omega arith in ap (λ n. each f (first + i) n) none_left

  each_begin : (first count : ℕ) → each f first count ≡ each f (first + 0) (count - 0)
  each_begin first count = let a : first ≡ first + 0 = omega arith in let b : count ≡ count - 0 = omega arith in ap (λ n. each f n count) a ∙ ap (λ n. each f (first + 0) n) b

  each_behind : (first count : ℕ) → 1 ≤ count → drop 1 (each f first count) ≡ each f (first + 1) (count - 1)
  unfolding each
  each_behind first zero le = absurd (omega arith)
  each_behind first (suc count) le = let a : suc first ≡ first + 1 = omega arith in let b : count ≡ suc count - 1 = omega arith in ap (λ n. each f n count) a ∙ ap (λ n. each f (first + 1) n) b

abbrev pub links_left : List ℕ → ℕ → ℕ → ℕ → List (Option ℕ)
links_left words first count i = links_at words (first + i) (count - i)

abbrev pub numbers_left : List ℕ → ℕ → ℕ → ℕ → List ℕ
numbers_left words first count i = numbers_at words (first + i) (count - i)

module _ (words : List ℕ) (first count : ℕ) where
  pub links_step : (i : ℕ) → i < count → links_left words first count i ≡ link_by (item_value words (first + i)) ∷ links_left words first count (i + 1)
  unfolding links_at
  links_step i lt = each_step (λ k. link_by (item_value words k)) first count i lt

  pub links_over : (i : ℕ) → count ≤ i → links_left words first count i ≡ []
  unfolding links_at
  links_over i le = each_over (λ k. link_by (item_value words k)) first count i le

  pub links_begin : links_at words first count ≡ links_left words first count 0
  unfolding links_at
  links_begin = each_begin (λ k. link_by (item_value words k)) first count

  pub links_behind_first : 1 ≤ count → drop 1 (links_at words first count) ≡ links_left words first count 1
  unfolding links_at
  links_behind_first le = each_behind (λ k. link_by (item_value words k)) first count le

  pub numbers_step : (i : ℕ) → i < count → numbers_left words first count i ≡ item_value words (first + i) ∷ numbers_left words first count (i + 1)
  unfolding numbers_at
  numbers_step i lt = each_step (item_value words) first count i lt

  pub numbers_over : (i : ℕ) → count ≤ i → numbers_left words first count i ≡ []
  unfolding numbers_at
  numbers_over i le = each_over (item_value words) first count i le

  pub numbers_begin : numbers_at words first count ≡ numbers_left words first count 0
  unfolding numbers_at
  numbers_begin = each_begin (item_value words) first count

-- ------------------------------------------------------------------ what was collected

pub collected_more : (out : List ℕ) (n x : ℕ) → n < length out → (ns : List ℕ) → take (n + 1) (set out n x) ++ ns ≡ take n out ++ (x ∷ ns)
collected_more out n x lt ns =
    ap (λ k. take k (set out n x) ++ ns) (add-one n) ∙ ap (λ l. l ++ ns) (take-suc-set out n x lt) ∙ append_assoc (take n out) (x ∷ []) ns

-- ------------------------------------------------------------------ the four lists of demands

-- each T: so many are collected, and these are left
abbrev pub collecting : ℕ → ℕ → List ℕ → List ℕ → Program (List ℕ)
collecting m s got ts = resolve_all m s ts >>= (λ ns. done (got ++ ns))

pub collecting_begin : (m s : ℕ) (ts : List ℕ) → resolve_all m s ts ≡ collecting m s [] ts
collecting_begin m s ts = sym (bind_done (resolve_all m s ts))

pub collecting_step : (m s : ℕ) (got : List ℕ) (t : ℕ) (ts : List ℕ) → collecting m s got (t ∷ ts) ≡ ask (Demand.type m t s) done >>= (λ n. resolve_all m s ts >>= (λ ns. done (got ++ (n ∷ ns))))
unfolding resolve_all ◌>>=◌
collecting_step m s got t ts i = ask (Demand.type m t s) (λ n. bind_assoc (resolve_all m s ts) (λ ns. done (n ∷ ns)) (λ ns. done (got ++ ns)) i)

pub collecting_end : (m s : ℕ) (got : List ℕ) → collecting m s got [] ≡ done got
unfolding resolve_all ◌>>=◌
collecting_end m s got = ap done (append-nil got)

-- each element of a tuple
abbrev pub gathering : ℕ → List ℕ → ℕ → List ℕ → List (Option ℕ) → Program (List ℕ)
gathering m contexts i got es = infer_elements m contexts i es >>= (λ ns. done (got ++ ns))

pub gathering_begin : (m : ℕ) (contexts : List ℕ) (es : List (Option ℕ)) → infer_elements m contexts 0 es ≡ gathering m contexts 0 [] es
gathering_begin m contexts es = sym (bind_done (infer_elements m contexts 0 es))

pub gathering_skip : (m : ℕ) (contexts : List ℕ) (i : ℕ) (got : List ℕ) (es : List (Option ℕ)) → gathering m contexts i got (None ∷ es) ≡ gathering m contexts (i + 1) got es
unfolding infer_elements
gathering_skip m contexts i got es = ap (λ k. gathering m contexts k got es) (sym (add-one i))

pub gathering_step : (m : ℕ) (contexts : List ℕ) (i : ℕ) (got : List ℕ) (e : ℕ) (es : List (Option ℕ)) → gathering m contexts i got (Some e ∷ es)
    ≡ ask (Demand.expression m e (slice_get contexts i)) done >>= (λ n. infer_elements m contexts (i + 1) es >>= (λ ns. done (got ++ (n ∷ ns))))
unfolding infer_elements ◌>>=◌
gathering_step m contexts i got e es =
    (λ j. ask (Demand.expression m e (slice_get contexts i)) (λ n. bind_assoc (infer_elements m contexts (suc i) es) (λ ns. done (n ∷ ns)) (λ ns. done (got ++ ns)) j))
    ∙ ap (λ k. ask (Demand.expression m e (slice_get contexts i)) (λ n. infer_elements m contexts k es >>= (λ ns. done (got ++ (n ∷ ns))))) (sym (add-one i))

pub gathering_end : (m : ℕ) (contexts : List ℕ) (i : ℕ) (got : List ℕ) → gathering m contexts i got [] ≡ done got
unfolding infer_elements ◌>>=◌
gathering_end m contexts i got = ap done (append-nil got)

-- each argument of a call
pub arguments_step : (m : ℕ) (params : List ℕ) (i : ℕ) (arg : Option ℕ) (args : List (Option ℕ)) → infer_arguments m params i (arg ∷ args)
    ≡ infer_only m arg (slice_get params i) >>= (λ u. infer_arguments m params (i + 1) args)
unfolding infer_arguments
arguments_step m params i arg args = ap (λ k. infer_only m arg (slice_get params i) >>= (λ u. infer_arguments m params k args)) (sym (add-one i))

pub arguments_end : (m : ℕ) (params : List ℕ) (i : ℕ) → infer_arguments m params i [] ≡ done tt
unfolding infer_arguments
arguments_end m params i = refl

-- each element of an array behind the first
pub same_missing : (m t : ℕ) (es : List (Option ℕ)) → all_same_type m t (None ∷ es) ≡ done false
unfolding all_same_type
same_missing m t es = refl

pub same_step : (m t e : ℕ) (es : List (Option ℕ)) → all_same_type m t (Some e ∷ es)
    ≡ expression_semantic_type m e (Some t) >>= (λ x. look (λ table. when are_types_compatible table x t then all_same_type m t es else done false))
unfolding all_same_type
same_step m t e es = refl

pub same_end : (m t : ℕ) → all_same_type m t [] ≡ done true
unfolding all_same_type
same_end m t = refl

-- ------------------------------------------------------------------ one turn of each loop, and its end

-- each T of a list
module _ {file words : List ℕ} {depth : ℕ} {p : Program (List ℕ)} {T₀ : List ℕ} {O₀ : List (List ℕ)} {T : List ℕ} {O : List (List ℕ)} (m s first count i : ℕ) (out : List ℕ)
    (l : Leads file words depth p T₀ O₀ (collecting m s (take i out) (numbers_left words first count i)) T O) where
  all_next : (t : ℕ) → i < count → t ≡ item_value words (first + i)
      → Leads file words depth p T₀ O₀ (ask (Demand.type m t s) done >>= (λ n. resolve_all m s (numbers_left words first count (i + 1)) >>= (λ ns. done (take i out ++ (n ∷ ns))))) T O
  all_next t lt e =
      leads_as l _
      (ap (collecting m s (take i out)) (numbers_step words first count i lt)
      ∙ collecting_step m s (take i out) (item_value words (first + i)) (numbers_left words first count (i + 1))
      ∙ ap (λ k. ask (Demand.type m k s) done >>= (λ n. resolve_all m s (numbers_left words first count (i + 1)) >>= (λ ns. done (take i out ++ (n ∷ ns))))) (sym e))

  module _ {t : ℕ} {T' : List ℕ} {O' : List (List ℕ)} {r : Result ℕ Refusal} (lt : i < count) (e : t ≡ item_value words (first + i)) (a : Runs typed file words (ask (Demand.type m t s) done) depth T O T' O' r) where
    pub all_more : {x : ℕ} → r ≡ Ok x → i < length out
        → Leads file words depth p T₀ O₀ (collecting m s (take (i + 1) (set out i x)) (numbers_left words first count (i + 1))) T' O'
    all_more {x} h room =
        leads_as (leads_on _ (all_next t lt e) a (is_ok _ h)) _
        (λ j. resolve_all m s (numbers_left words first count (i + 1)) >>= (λ ns. done (sym (collected_more out i x room ns) j)))

    pub all_stops : {refusal : Refusal} (out' : List ℕ) → r ≡ Err refusal → {u : Result ℕ Refusal} → IsErr u × IsErrAnd u (λ e. e ≡ refusal) → Runs (collected out') file words p depth T₀ O₀ T' O' u
    all_stops out' h k = leads_runs (all_next t lt e) (then_stop a _ (is_err _ h) (is_handed_on _ _ k))

  pub all_ends : i ≤ count → count ≤ i → Runs (collected out) file words p depth T₀ O₀ T O (Ok count)
  all_ends le ge =
      let here : i ≡ count = omega arith in
      leads_runs
      (leads_as l (done (take count out))
      (ap (collecting m s (take i out)) (numbers_over words first count i ge) ∙ collecting_end m s (take i out) ∙ ap (λ k. done (take k out)) here))
      (ends l.ready (is_ok _ refl))

-- each element of a tuple
module _ {file words : List ℕ} {depth : ℕ} {p : Program (List ℕ)} {T₀ : List ℕ} {O₀ : List (List ℕ)} {T : List ℕ} {O : List (List ℕ)} (m : ℕ) (contexts : List ℕ) (first count i n : ℕ) (out : List ℕ)
    (l : Leads file words depth p T₀ O₀ (gathering m contexts i (take n out) (links_left words first count i)) T O) where
  pub elements_skip : (link : Option ExpressionId) → i < count → expression_link_of link ≡ link_by (item_value words (first + i)) → link ≡ None
      → Leads file words depth p T₀ O₀ (gathering m contexts (i + 1) (take n out) (links_left words first count (i + 1))) T O
  elements_skip link lt e h =
      leads_as l _
      (ap (gathering m contexts i (take n out)) (links_step words first count i lt ∙ ap (λ o. o ∷ links_left words first count (i + 1)) (sym e ∙ ap expression_link_of h))
      ∙ gathering_skip m contexts i (take n out) (links_left words first count (i + 1)))

  elements_next : (link : Option ExpressionId) {x : ExpressionId} (context : Option ℕ) → i < count → expression_link_of link ≡ link_by (item_value words (first + i)) → link ≡ Some x
      → context ≡ slice_get contexts i
      → Leads file words depth p T₀ O₀ (ask (Demand.expression m x.0 context) done >>= (λ t. infer_elements m contexts (i + 1) (links_left words first count (i + 1)) >>= (λ ns. done (take n out ++ (t ∷ ns))))) T O
  elements_next link {x} context lt e h same =
      leads_as l _
      (ap (gathering m contexts i (take n out)) (links_step words first count i lt ∙ ap (λ o. o ∷ links_left words first count (i + 1)) (sym e ∙ ap expression_link_of h))
      ∙ gathering_step m contexts i (take n out) x.0 (links_left words first count (i + 1))
      ∙ ap (λ o. ask (Demand.expression m x.0 o) done >>= (λ t. infer_elements m contexts (i + 1) (links_left words first count (i + 1)) >>= (λ ns. done (take n out ++ (t ∷ ns))))) (sym same))

  module _ (link : Option ExpressionId) {x : ExpressionId} {context : Option ℕ} {T' : List ℕ} {O' : List (List ℕ)} {r : Result ℕ Refusal} (lt : i < count)
      (e : expression_link_of link ≡ link_by (item_value words (first + i))) (h : link ≡ Some x) (same : context ≡ slice_get contexts i)
      (a : Runs typed file words (ask (Demand.expression m x.0 context) done) depth T O T' O' r) where
    pub elements_more : {t : ℕ} → r ≡ Ok t → n < length out
        → Leads file words depth p T₀ O₀ (gathering m contexts (i + 1) (take (n + 1) (set out n t)) (links_left words first count (i + 1))) T' O'
    elements_more {t} k room =
        leads_as (leads_on _ (elements_next link context lt e h same) a (is_ok _ k)) _
        (λ j. infer_elements m contexts (i + 1) (links_left words first count (i + 1)) >>= (λ ns. done (sym (collected_more out n t room ns) j)))

    pub elements_stop : {refusal : Refusal} (out' : List ℕ) → r ≡ Err refusal → {u : Result ℕ Refusal} → IsErr u × IsErrAnd u (λ e. e ≡ refusal) → Runs (collected out') file words p depth T₀ O₀ T' O' u
    elements_stop out' k on = leads_runs (elements_next link context lt e h same) (then_stop a _ (is_err _ k) (is_handed_on _ _ on))

  pub elements_end : count ≤ i → Runs (collected out) file words p depth T₀ O₀ T O (Ok n)
  elements_end ge =
      leads_runs (leads_as l (done (take n out)) (ap (gathering m contexts i (take n out)) (links_over words first count i ge) ∙ gathering_end m contexts i (take n out)))
      (ends l.ready (is_ok _ refl))

-- each argument of a call
module _ {file words : List ℕ} {depth : ℕ} {p : Program (Unit {0})} {T₀ : List ℕ} {O₀ : List (List ℕ)} {T : List ℕ} {O : List (List ℕ)} (m : ℕ) (params : List ℕ) (first count i : ℕ)
    (l : Leads file words depth p T₀ O₀ (infer_arguments m params i (links_left words first count i)) T O) where
  arguments_next : (link context : Option ℕ) → i < count → link ≡ link_by (item_value words (first + i)) → context ≡ slice_get params i
      → Leads file words depth p T₀ O₀ (infer_only m link context >>= (λ u. infer_arguments m params (i + 1) (links_left words first count (i + 1)))) T O
  arguments_next link context lt e same =
      leads_as l _
      (ap (infer_arguments m params i) (links_step words first count i lt)
      ∙ arguments_step m params i (link_by (item_value words (first + i))) (links_left words first count (i + 1))
      ∙ ap (λ o. infer_only m o (slice_get params i) >>= (λ u. infer_arguments m params (i + 1) (links_left words first count (i + 1)))) (sym e)
      ∙ ap (λ o. infer_only m link o >>= (λ u. infer_arguments m params (i + 1) (links_left words first count (i + 1)))) (sym same))

  module _ (link context : Option ℕ) {T' : List ℕ} {O' : List (List ℕ)} {r : Result (Unit {0}) Refusal} (lt : i < count) (e : link ≡ link_by (item_value words (first + i))) (same : context ≡ slice_get params i)
      (a : Runs ignored file words (infer_only m link context) depth T O T' O' r) where
    pub arguments_more : r ≡ Ok tt → Leads file words depth p T₀ O₀ (infer_arguments m params (i + 1) (links_left words first count (i + 1))) T' O'
    arguments_more h = leads_on _ (arguments_next link context lt e same) a (is_ok _ h)

    pub arguments_stop : {refusal : Refusal} → r ≡ Err refusal → {u : Result (Unit {0}) Refusal} → IsErr u × IsErrAnd u (λ e. e ≡ refusal) → Runs ignored file words p depth T₀ O₀ T' O' u
    arguments_stop h on = leads_runs (arguments_next link context lt e same) (then_stop a _ (is_err _ h) (is_handed_on _ _ on))

  pub arguments_done : count ≤ i → Runs ignored file words p depth T₀ O₀ T O (Ok tt)
  arguments_done ge =
      leads_runs (leads_as l (done tt) (ap (infer_arguments m params i) (links_over words first count i ge) ∙ arguments_end m params i)) (ends l.ready (is_ok _ refl))

-- each element of an array behind the first
module _ {file words : List ℕ} {depth : ℕ} {p : Program Bool} {T₀ : List ℕ} {O₀ : List (List ℕ)} {T : List ℕ} {O : List (List ℕ)} (m t first count i : ℕ)
    (l : Leads file words depth p T₀ O₀ (all_same_type m t (links_left words first count i)) T O) where
  pub same_absent : (link : Option ExpressionId) → i < count → expression_link_of link ≡ link_by (item_value words (first + i)) → link ≡ None
      → Runs compared file words p depth T₀ O₀ T O (Ok false)
  same_absent link lt e h =
      leads_runs
      (leads_as l (done false)
      (ap (all_same_type m t) (links_step words first count i lt ∙ ap (λ o. o ∷ links_left words first count (i + 1)) (sym e ∙ ap expression_link_of h))
      ∙ same_missing m t (links_left words first count (i + 1))))
      (ends l.ready (is_ok _ refl))

  same_next : (link : Option ExpressionId) (x : ExpressionId) → i < count → expression_link_of link ≡ link_by (item_value words (first + i)) → link ≡ Some x
      → Leads file words depth p T₀ O₀
      (expression_semantic_type m x.0 (Some t) >>= (λ u. look (λ table. when are_types_compatible table u t then all_same_type m t (links_left words first count (i + 1)) else done false))) T O
  same_next link x lt e h =
      leads_as l _
      (ap (all_same_type m t) (links_step words first count i lt ∙ ap (λ o. o ∷ links_left words first count (i + 1)) (sym e ∙ ap expression_link_of h))
      ∙ same_step m t x.0 (links_left words first count (i + 1)))

  module _ (link : Option ExpressionId) {x : ExpressionId} {T' : List ℕ} {O' : List (List ℕ)} {r : Result ℕ Refusal} (lt : i < count)
      (e : expression_link_of link ≡ link_by (item_value words (first + i))) (h : link ≡ Some x)
      (a : Runs typed file words (expression_semantic_type m x.0 (Some t)) depth T O T' O' r) where
    same_answered : {u : ℕ} (b : Bool) → r ≡ Ok u → are_types_compatible (table_of file T') u t ≡ b
        → Leads file words depth p T₀ O₀ (when b then all_same_type m t (links_left words first count (i + 1)) else done false) T' O'
    same_answered {u} b k fits =
        leads_as (leads_look _ (leads_on _ (same_next link x lt e h) a (is_ok _ k))) _ (ap (λ y. when y then all_same_type m t (links_left words first count (i + 1)) else done false) fits)

    pub same_more : {u : ℕ} → r ≡ Ok u → are_types_compatible (table_of file T') u t ≡ true → Leads file words depth p T₀ O₀ (all_same_type m t (links_left words first count (i + 1))) T' O'
    unfolding when◌then◌else◌
    same_more k fits = same_answered true k fits

    pub same_differs : {u : ℕ} → r ≡ Ok u → are_types_compatible (table_of file T') u t ≡ false → Runs compared file words p depth T₀ O₀ T' O' (Ok false)
    unfolding when◌then◌else◌
    same_differs k fits = leads_runs (same_answered false k fits) (ends a.ready (is_ok _ refl))

    pub same_stops : {refusal : Refusal} → r ≡ Err refusal → {u : Result Bool Refusal} → IsErr u × IsErrAnd u (λ e. e ≡ refusal) → Runs compared file words p depth T₀ O₀ T' O' u
    same_stops k on = leads_runs (same_next link x lt e h) (then_stop a _ (is_err _ k) (is_handed_on _ _ on))

  pub same_all : count ≤ i → Runs compared file words p depth T₀ O₀ T O (Ok true)
  same_all ge = leads_runs (leads_as l (done true) (ap (all_same_type m t) (links_over words first count i ge) ∙ same_end m t)) (ends l.ready (is_ok _ refl))

-- ------------------------------------------------------------------ a list of the table stays while it grows

pub types_kept : {w w' : List ℕ} → Grows w w' → (list : TypeList) → list.first + list.count ≤ item_count w → types_of w' list ≡ types_of w list
types_kept {w} {w'} g list within =
    ext_get_or 0 (types_of w' list) (types_of w list) (same_lengths g list)
    (λ i lt. let below = part_below w' (2050 + list.first) list.count i lt in
    part_at w' (2050 + list.first) list.count i below
    ∙ g.kept (2050 + list.first + i) (omega arith) (omega (arith, below, within))
    ∙ sym (part_at w (2050 + list.first) list.count i below))
  where
    part_at : (l : List ℕ) (a n i : ℕ) → i < n → get_or (take n (drop a l)) i 0 ≡ get_or l (a + i) 0
    part_at l a n i lt = get_or-take n (drop a l) i 0 lt ∙ get_or-drop a l i 0

    part_below : (l : List ℕ) (a n i : ℕ) → i < length (take n (drop a l)) → i < n
    part_below l a n i lt = let e = length-take n (drop a l) in omega (arith, e, lt)

    same_lengths : {w w' : List ℕ} → Grows w w' → (list : TypeList) → length (types_of w' list) ≡ length (types_of w list)
    same_lengths {w} {w'} g list =
        length-take list.count (drop (2050 + list.first) w') ∙ ap (λ n. min list.count n) (length-drop (2050 + list.first) w' ∙ ap (λ n. n - (2050 + list.first)) g.same_length ∙ sym (length-drop (2050 + list.first) w))
        ∙ sym (length-take list.count (drop (2050 + list.first) w))

-- ------------------------------------------------------------------ how many were collected

pub at_most_all : (count n : ℕ) → n ≤ count → AtMost count (Ok n)
at_most_all count n le = record { number = λ k e. let same : n ≡ k = cc in omega (arith, le, same) }

pub taken_length : (n : ℕ) (l : List ℕ) → n ≤ length l → n ≡ length (take n l)
taken_length n l le = let e = length-take n l in omega (arith, e, le)
