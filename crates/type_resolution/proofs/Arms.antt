-- Which arm of a program a value's variant takes, and results that are turned over once more. Assumes nothing.
use Rattle.std.specs.Prelude.{Result, Ok}
use Rattle.refusals.specs.declared.Refusal.{Refusal}
use Rattle.type_resolution.specs.State.{answer_by}
use Rattle.records.specs.declared.DefinitionIndex.{DefinitionIndex}
use mathlib.Core.Path.{◌≡◌, refl, sym, ap, subst, subst⁻¹, ◌∙◌}
use mathlib.Core.Bool.{Bool, true, false, false≢true, not}
use Prim.Native.Nat.{ℕ, ◌<◌}
use native.Mathlib.Omega.{arith}
use mathlib.Core.List.{List}
use Rattle.std.specs.Prelude.{Option, None, Some, unwrap_or}
use Rattle.std.specs.Option.{is_some}
use Rattle.model.specs.Common.{let_some as from_some}
use Rattle.model.specs.Records as model
use Rattle.records.specs.Meaning.{type_expr_of, definition_kind_of, definition_link_of, expression_of, origin_of, info_of, names_with_types_of}
use Rattle.records.specs.declared.TypeExpr.{TypeExpr}
use Rattle.records.specs.declared.DefinitionKind.{DefinitionKind}
use Rattle.records.specs.declared.Expression.{Expression}
use Rattle.records.specs.declared.ExpressionInfo.{ExpressionInfo}
use Rattle.records.specs.declared.Origin.{Origin}
use Rattle.records.specs.declared.Items.{Items}
use Rattle.resolution.specs.Types.{Table, Array, data_of, as_array, error}
use Rattle.resolution.specs.Views.{numeric, numeric_context}
use Rattle.resolution.specs.Programs.{Program, done, look, let_some, resolve_ast_type, expression_semantic_type, ◌>>=◌}
use Rattle.resolution.specs.TypeResolution.{type_expr_type, definition_kind_type, struct_kind_data, function_kind_signature, node_type, context_expected, context_from_origin, signature_param, signature_return_type, let_type, resolve_variable_type, array_repeat_type}
use Rattle.resolution.specs.Run.{answered, run}
use Rattle.type_table.specs.Layout.{table_of, type_count}
use Rattle.type_table.specs.declared.Array.{Array as ArrayRow}
use Rattle.type_table.specs.Meaning.{found_array_of}
use Rattle.type_table.specs.Promises.{Reads}
use Rattle.type_table.specs.Reads.{array_read, param_read, return_read, navigate_read, element_hint_read}
use Rattle.type_table.proofs.Growth.{grows_refl}
use Rattle.type_table.proofs.Rows.{length_table}
use Rattle.resolution.specs.TableOk.{OptionBelow}
use Rattle.resolution.proofs.SafeReads.{hint_below, array_below, row_below}
use Rattle.model.proofs.Tests.{eqb_self, eqb_sound}
use lib.Dec.{eqb}
use Rattle.type_resolution.specs.State.{Ready, Runs, typed, linked}
use Rattle.type_resolution.specs.Shapes.{struct_named, struct_type, signature_type, declared_type, repeat_in}
use Rattle.type_resolution.specs.Leaves.{Passed, Returned, NumericOr, HintBelow}
use Rattle.type_resolution.proofs.Running.{is_ok, ends, answers, knows, knows_nothing, then_on, some_runs, none_runs, look_runs, same_runs}
use Rattle.type_resolution.proofs.Shaped.{param_reads, return_reads}

-- ------------------------------------------------------------------ the variant that a value has

module _ {file words : List ℕ} {depth : ℕ} {T : List ℕ} {O : List (List ℕ)} {T' : List ℕ} {O' : List (List ℕ)} where
  pub by_type_expr : (m : ℕ) (the_module : model.Module) (s : ℕ) {x v : TypeExpr} {r : Result ℕ Refusal} → x ≡ v
      → Runs typed file words (type_expr_type m the_module s (type_expr_of file words v)) depth T O T' O' r
      → Runs typed file words (type_expr_type m the_module s (type_expr_of file words x)) depth T O T' O' r
  by_type_expr m the_module s {r = r} e a = subst⁻¹ (λ y. Runs typed file words (type_expr_type m the_module s (type_expr_of file words y)) depth T O T' O' r) e a

  pub by_kind : (index : model.Index) (m d s : ℕ) {x v : DefinitionKind} {r : Result ℕ Refusal} → x ≡ v
      → Runs typed file words (definition_kind_type index m d s (definition_kind_of file words v)) depth T O T' O' r
      → Runs typed file words (definition_kind_type index m d s (definition_kind_of file words x)) depth T O T' O' r
  by_kind index m d s {r = r} e a = subst⁻¹ (λ y. Runs typed file words (definition_kind_type index m d s (definition_kind_of file words y)) depth T O T' O' r) e a

  pub by_node : (m : ℕ) (the_module : model.Module) (info : model.ExpressionInfo) (context : Option ℕ) {x v : Expression} {r : Result ℕ Refusal} → x ≡ v
      → Runs typed file words (node_type m the_module info context (expression_of file words v)) depth T O T' O' r
      → Runs typed file words (node_type m the_module info context (expression_of file words x)) depth T O T' O' r
  by_node m the_module info context {r = r} e a = subst⁻¹ (λ y. Runs typed file words (node_type m the_module info context (expression_of file words y)) depth T O T' O' r) e a

  -- a struct that a lookup's answer leads to
  pub led_to : (m : ℕ) (found : Option DefinitionIndex) (o : Option ℕ) {r : Result ℕ Refusal} → definition_link_of found ≡ o
      → Runs typed file words (struct_named m (definition_link_of found)) depth T O T' O' r → Runs typed file words (struct_named m o) depth T O T' O' r
  led_to m found o {r} e a = subst (λ y. Runs typed file words (struct_named m y) depth T O T' O' r) e a

  -- without a context the origin decides
  pub from_origin : (m : ℕ) (the_module : model.Module) (info : ExpressionInfo) (context : Option ℕ) (o : Origin) {r : Result (Option ℕ) Refusal} → context ≡ None → info.origin ≡ o
      → Runs linked file words (context_from_origin m the_module (info_of file words info) (origin_of file o)) depth T O T' O' r
      → Runs linked file words (context_expected m the_module (info_of file words info) context) depth T O T' O' r
  unfolding context_expected
  from_origin m the_module info context o {r} absent is a =
      subst⁻¹ (λ y. Runs linked file words (context_expected m the_module (info_of file words info) y) depth T O T' O' r) absent
      (subst⁻¹ (λ y. Runs linked file words (context_from_origin m the_module (info_of file words info) (origin_of file y)) depth T O T' O' r) is a)

-- a given context overrides the origin
pub given_context : {file words : List ℕ} {depth : ℕ} {T : List ℕ} {O : List (List ℕ)} → Ready file words depth T O
    → (m : ℕ) (the_module : model.Module) (info : model.ExpressionInfo) (context : Option ℕ) {t : ℕ} → context ≡ Some t
    → Runs linked file words (context_expected m the_module info context) depth T O T O (Ok (Some t))
unfolding context_expected
given_context {file} {words} {depth} {T} {O} ok m the_module info context {t} e =
    subst⁻¹ (λ y. Runs linked file words (context_expected m the_module info y) depth T O T O (Ok (Some t))) e (knows ok refl)

-- ------------------------------------------------------------------ kinds of definitions

module _ {file words : List ℕ} {depth : ℕ} {T : List ℕ} {O : List (List ℕ)} {T' : List ℕ} {O' : List (List ℕ)} {r : Result (Option ℕ) Refusal} (m d s : ℕ) where
  pub struct_fielded : (kind : DefinitionKind) (list : Items) → kind ≡ DefinitionKind.Struct list
      → Runs linked file words (struct_type m d s (names_with_types_of file words list)) depth T O T' O' r
      → Runs linked file words (struct_kind_data m d s (definition_kind_of file words kind)) depth T O T' O' r
  unfolding struct_type struct_kind_data
  struct_fielded kind list is a = subst⁻¹ (λ k. Runs linked file words (struct_kind_data m d s (definition_kind_of file words k)) depth T O T' O' r) is a

  pub function_parted : (kind : DefinitionKind) (u : ℕ) (list : Items) → kind ≡ DefinitionKind.Function u list
      → Runs linked file words (signature_type m d s u (names_with_types_of file words list)) depth T O T' O' r
      → Runs linked file words (function_kind_signature m d s (definition_kind_of file words kind)) depth T O T' O' r
  unfolding signature_type function_kind_signature
  function_parted kind u list is a = subst⁻¹ (λ k. Runs linked file words (function_kind_signature m d s (definition_kind_of file words k)) depth T O T' O' r) is a

module _ {file words : List ℕ} {depth : ℕ} {T : List ℕ} {O : List (List ℕ)} (ok : Ready file words depth T O) (m d s : ℕ) where
  -- a definition of another kind
  pub no_struct : (kind : DefinitionKind) → ((list : Items) → kind ≡ DefinitionKind.Struct list → ⊥)
      → Runs linked file words (struct_kind_data m d s (definition_kind_of file words kind)) depth T O T O (Ok None)
  unfolding struct_kind_data
  no_struct (DefinitionKind.Struct l) other = absurd (other l refl)
  no_struct (DefinitionKind.Function t l) other = knows_nothing ok
  no_struct (DefinitionKind.Const t e) other = knows_nothing ok
  no_struct (DefinitionKind.Let t e v path) other = knows_nothing ok
  no_struct (DefinitionKind.Parameter t) other = knows_nothing ok
  no_struct (DefinitionKind.Use home item) other = knows_nothing ok
  no_struct DefinitionKind.LoopVariable other = knows_nothing ok

  pub no_function : (kind : DefinitionKind) → ((u : ℕ) (list : Items) → kind ≡ DefinitionKind.Function u list → ⊥)
      → Runs linked file words (function_kind_signature m d s (definition_kind_of file words kind)) depth T O T O (Ok None)
  unfolding function_kind_signature
  no_function (DefinitionKind.Struct l) other = knows_nothing ok
  no_function (DefinitionKind.Function t l) other = absurd (other t l refl)
  no_function (DefinitionKind.Const t e) other = knows_nothing ok
  no_function (DefinitionKind.Let t e v path) other = knows_nothing ok
  no_function (DefinitionKind.Parameter t) other = knows_nothing ok
  no_function (DefinitionKind.Use home item) other = knows_nothing ok
  no_function DefinitionKind.LoopVariable other = knows_nothing ok

-- ------------------------------------------------------------------ results that are turned over

read_linked : {file words : List ℕ} {depth : ℕ} {T : List ℕ} {O : List (List ℕ)} → Ready file words depth T O → (read : Table → Option ℕ) {r : Option ℕ}
    → r ≡ read (table_of file T) → Runs linked file words (look (λ table. done (read table))) depth T O T O (Ok r)
unfolding run answer_by
read_linked {file} {T = T} ok read e =
    record { outcome = ap (λ r. answered r (table_of file T)) e; ready = ok; kept = refl; rest = refl; grows = grows_refl T }

module _ {file words : List ℕ} {depth : ℕ} {T : List ℕ} {O : List (List ℕ)} {T' : List ℕ} {O' : List (List ℕ)} {p : Program (Option ℕ)}
    {x : Result (Option ℕ) Refusal} (a : Runs linked file words p depth T O T' O' x) where
  pub or_error_runs : (o : Option ℕ) {n : ℕ} → x ≡ Ok o → n ≡ unwrap_or o error → Runs typed file words (p >>= (λ o. let_some o (done error) done)) depth T O T' O' (Ok n)
  or_error_runs (Some t) is e = then_on a _ (is_ok _ is) (some_runs _ _ _ refl (answers a.ready e))
  or_error_runs None is e = then_on a _ (is_ok _ is) (none_runs _ _ _ refl (answers a.ready e))

  pub passed_runs : (o : Option ℕ) {r : Option ℕ} {i : ℕ} → x ≡ Ok o → Passed T' o i r → Runs linked file words (p >>= (λ signature. signature_param signature i)) depth T O T' O' (Ok r)
  unfolding signature_param
  passed_runs (Some t) {i = i} is k = then_on a _ (is_ok _ is) (same_runs (param_reads t i) (read_linked a.ready (param_read t i) (k.same file)))
  passed_runs None is k = then_on a _ (is_ok _ is) (ends a.ready (is_ok _ (ap Ok (k.same file))))

  pub returned_runs : (o : Option ℕ) {r : Option ℕ} → x ≡ Ok o → Returned T' o r → Runs linked file words (p >>= (λ signature. signature_return_type signature)) depth T O T' O' (Ok r)
  unfolding signature_return_type
  returned_runs (Some t) is k = then_on a _ (is_ok _ is) (same_runs (return_reads t) (read_linked a.ready (return_read t) (k.same file)))
  returned_runs None is k = then_on a _ (is_ok _ is) (ends a.ready (is_ok _ (ap Ok (k.same file))))

-- ------------------------------------------------------------------ reads

module _ {file words : List ℕ} {depth : ℕ} {T : List ℕ} {O : List (List ℕ)} (ok : Ready file words depth T O) where
  numeric_by : (o : Option ℕ) (context : Option ℕ) (n : ℕ) → n ≡ from_some o (numeric_context (table_of file T) context) (λ k. k)
      → Runs typed file words (let_some o (look (λ table. done (numeric_context table context))) done) depth T O T O (Ok n)
  numeric_by None context n e = none_runs None _ _ refl (look_runs _ (answers ok e))
  numeric_by (Some k) context n e = some_runs (Some k) _ _ refl (answers ok e)

  -- u32 and felt stay; else the context decides
  pub numeric_runs : {t n : ℕ} {context : Option ℕ} → NumericOr T t context n
      → Runs typed file words (let_some (numeric (table_of file T) t) (look (λ table. done (numeric_context table context))) done) depth T O T O (Ok n)
  numeric_runs {t} {n} {context} is = numeric_by (numeric (table_of file T) t) context n (is.same file)

-- whether a row is an array
pub is_array : {file T : List ℕ} (t : ℕ) {r : Option ArrayRow} {array : ArrayRow} → Reads file T (array_read t) (found_array_of r) → r ≡ Some array
    → as_array (data_of (table_of file T) t) ≡ Some (record { element = array.element; size = array.size })
unfolding array_read
is_array t a e = sym a.same ∙ ap found_array_of e

pub no_array : {file T : List ℕ} (t : ℕ) {r : Option ArrayRow} → Reads file T (array_read t) (found_array_of r) → r ≡ None → as_array (data_of (table_of file T) t) ≡ None
unfolding array_read
no_array t a e = sym a.same ∙ ap found_array_of e

-- an array is there, or none, by `is_some`
pub there_is : {A : Type 0} (r : Option A) → is_some r ≡ true → (x : A) × (r ≡ Some x)
there_is None e = absurd (false≢true e)
there_is (Some x) e = (x, refl)

pub there_is_none : {A : Type 0} (r : Option A) → is_some r ≡ false → r ≡ None
there_is_none None e = refl
there_is_none (Some x) e = absurd (false≢true (sym e))

-- ------------------------------------------------------------------ consts and lets

module _ {file words : List ℕ} {depth : ℕ} {T : List ℕ} {O : List (List ℕ)} {T' : List ℕ} {O' : List (List ℕ)} {r : Result ℕ Refusal} where
  module _ (m s : ℕ) (t e v : Option ℕ) (path : List ℕ) where
    pub let_whole : v ≡ None → Runs typed file words (resolve_variable_type m s t e) depth T O T' O' r → Runs typed file words (let_type m s t e v path) depth T O T' O' r
    unfolding let_type
    let_whole h a = subst⁻¹ (λ x. Runs typed file words (let_type m s t e x path) depth T O T' O' r) h a

    -- along the path of a destructured value
    pub let_part : {x : ℕ} → v ≡ Some x → Runs typed file words (expression_semantic_type m x None >>= (λ current. look (λ table. done (navigate_read current path table)))) depth T O T' O' r
        → Runs typed file words (let_type m s t e v path) depth T O T' O' r
    unfolding let_type navigate_read
    let_part h a = subst⁻¹ (λ y. Runs typed file words (let_type m s t e y path) depth T O T' O' r) h a

  module _ (m s : ℕ) (t e : Option ℕ) (otherwise : ℕ) where
    pub declared_as : {x : ℕ} → Runs typed file words (resolve_ast_type m x s) depth T O T' O' r → t ≡ Some x → Runs typed file words (declared_type m s t e otherwise) depth T O T' O' r
    unfolding declared_type
    declared_as a h = subst⁻¹ (λ y. Runs typed file words (declared_type m s y e otherwise) depth T O T' O' r) h a

    pub valued_as : {x : ℕ} → Runs typed file words (expression_semantic_type m x None) depth T O T' O' r → t ≡ None → e ≡ Some x
        → Runs typed file words (declared_type m s t e otherwise) depth T O T' O' r
    unfolding declared_type
    valued_as a h k =
        subst⁻¹ (λ y. Runs typed file words (declared_type m s y e otherwise) depth T O T' O' r) h
        (subst⁻¹ (λ y. Runs typed file words (declared_type m s None y otherwise) depth T O T' O' r) k a)

    pub neither_as : Runs typed file words (done otherwise) depth T O T' O' r → t ≡ None → e ≡ None → Runs typed file words (declared_type m s t e otherwise) depth T O T' O' r
    unfolding declared_type
    neither_as a h k =
        subst⁻¹ (λ y. Runs typed file words (declared_type m s y e otherwise) depth T O T' O' r) h
        (subst⁻¹ (λ y. Runs typed file words (declared_type m s None y otherwise) depth T O T' O' r) k a)

-- ------------------------------------------------------------------ hints

pub repeated : {file words : List ℕ} {depth : ℕ} {T : List ℕ} {O : List (List ℕ)} {T' : List ℕ} {O' : List (List ℕ)} {r : Result ℕ Refusal} (m : ℕ) (context element : Option ℕ) (size : ℕ) {hint : Option ℕ}
    → Reads file T (element_hint_read context) hint → Runs typed file words (array_repeat_type m hint element size) depth T O T' O' r → Runs typed file words (repeat_in m context element size) depth T O T' O' r
unfolding repeat_in element_hint_read
repeated {file} {words} {depth} {T} {O} {T'} {O'} {r} m context element size is a =
    look_runs _ (subst (λ h. Runs typed file words (array_repeat_type m h element size) depth T O T' O' r) is.same a)

module _ {file words : List ℕ} {depth : ℕ} {T : List ℕ} {O : List (List ℕ)} (ok : Ready file words depth T O) where
  -- the element of a context is a type of the table
  pub hinted : (context hint : Option ℕ) → Reads file T (element_hint_read context) hint → OptionBelow (table_of file T) hint
  unfolding element_hint_read
  hinted context hint is = subst⁻¹ (λ h. OptionBelow (table_of file T) h) is.same (hint_below ok.ok context)

  hint_by : (hint : Option ℕ) → OptionBelow (table_of file T) hint → HintBelow T hint
  hint_by None below = tt
  hint_by (Some t) below = subst (λ n. t < n) (length_table file T) below

  pub hint_found : (context : Option ℕ) (hint : Option ℕ) → Reads file T (element_hint_read context) hint → HintBelow T hint
  hint_found context hint is = hint_by hint (hinted context hint is)

  pub element_below : (t : ℕ) {array : Array} → as_array (data_of (table_of file T) t) ≡ Some array → array.element < type_count T
  element_below t {array} e =
      subst (λ n. array.element < n) (length_table file T) (array_below ok.ok (data_of (table_of file T) t) array e (row_below ok.ok t))

pub hint_at : (T : List ℕ) (hint : Option ℕ) {t : ℕ} → hint ≡ Some t → HintBelow T hint → t < type_count T
hint_at T hint e below = subst (HintBelow T) e below

-- ------------------------------------------------------------------ tests

pub eq-eqb : (a b : ℕ) → a ≡ b → eqb a b ≡ true
eq-eqb a b e = subst (λ x. eqb a x ≡ true) e (eqb_self a)

pub ne_eqb : (a b : ℕ) → (a ≡ b → ⊥) → eqb a b ≡ false
ne_eqb a b n = by (eqb a b) refl
  where
    by : (x : Bool) → eqb a b ≡ x → eqb a b ≡ false
    by true e = absurd (n (eqb_sound a b e))
    by false e = e

pub not-false : (b : Bool) → not b ≡ false → b ≡ true
not-false true e = refl
not-false false e = let z : ◌≡◌ {A = ℕ} 0 1 = cc in absurd (omega arith)
