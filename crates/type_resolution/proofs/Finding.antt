-- The records that a module has, as the programs find them. Assumes nothing.
use Rattle.std.specs.Prelude.{Result, Ok}
use Rattle.refusals.specs.declared.Refusal.{Refusal}
use mathlib.Core.Path.{◌≡◌, refl, sym, ap, ◌∙◌}
use mathlib.Core.Bool.{Bool, true, false}
use Prim.Native.Nat.{ℕ}
use native.Mathlib.Omega.{arith}
use mathlib.Core.List.{List}
use Rattle.std.specs.Prelude.{Option, None, Some}
use Rattle.std.specs.Prelude.{if◌then◌else◌}
use Rattle.model.specs.Records.{Module}
use Rattle.model.specs.Lookups.{type_expr_at, definition_at, expression_at}
use Rattle.records.specs.Layout.{index_of, module_row}
use Rattle.records.specs.Meaning.{type_expr_of, found_type_expr_of, definition_kind_of, found_definition_of, info_of, expression_of, found_expression_of}
use Rattle.records.specs.declared.TypeExpr.{TypeExpr}
use Rattle.records.specs.declared.Definition.{Definition}
use Rattle.records.specs.declared.ExpressionInfo.{ExpressionInfo}
use Rattle.resolution.specs.Types.{Table, error}
use Rattle.resolution.specs.Programs.{Demand, Program, done, let_some, resolve_ast_type, expression_semantic_type, ◌>>=◌}
use Rattle.resolution.specs.TypeResolution.{program, type_program, definition_program, struct_program, signature_program, expression_program, expression_in_context, type_expr_type, definition_kind_type, struct_kind_data, function_kind_signature, context_expected, node_type}
use Rattle.resolution.specs.Run.{Outcome}
use Rattle.type_resolution.specs.State.{Ready, Runs, typed, linked}
use Rattle.type_resolution.specs.Leaves.{TypeIn, DefinitionIn, ExpressionIn}
use Rattle.type_resolution.proofs.Running.{some_runs, none_runs, answers, knows_nothing}

-- ------------------------------------------------------------------ for every kind of record

module _ {X A R : Type 0} {meaning : R → Table → Outcome A} {file words : List ℕ} {depth : ℕ} {T : List ℕ} {O : List (List ℕ)} {T' : List ℕ} {O' : List (List ℕ)} {r : R}
    (at : Module → Option X) (q : Program A) (f : Module → X → Program A) where
  found_by : (there : Bool) (the_module : Module) (o : Option Module) (v : X) → o ≡ (if there then Some the_module else None)
      → Some v ≡ (if there then at the_module else None) → Runs meaning file words (f the_module v) depth T O T' O' r
      → Runs meaning file words (let_some o q (λ home. let_some (at home) q (f home))) depth T O T' O' r
  found_by true the_module o v e h a = some_runs o q (λ home. let_some (at home) q (f home)) e (some_runs (at the_module) q (f the_module) (sym h) a)
  found_by false the_module o v e h a = let z : ◌≡◌ {A = ℕ} 0 1 = cc in absurd (omega arith)

  absent_by : (there : Bool) (the_module : Module) (o : Option Module) → o ≡ (if there then Some the_module else None)
      → None ≡ (if there then at the_module else None) → Runs meaning file words q depth T O T' O' r
      → Runs meaning file words (let_some o q (λ home. let_some (at home) q (f home))) depth T O T' O' r
  absent_by true the_module o e h a = some_runs o q (λ home. let_some (at home) q (f home)) e (none_runs (at the_module) q (f the_module) (sym h) a)
  absent_by false the_module o e h a = none_runs o q (λ home. let_some (at home) q (f home)) e a

-- ------------------------------------------------------------------ the programs of the five

module _ {file words : List ℕ} {depth : ℕ} {T : List ℕ} {O : List (List ℕ)} {T' : List ℕ} {O' : List (List ℕ)} where
  pub type_found : {r : Result ℕ Refusal} (m t s : ℕ) {x : Option TypeExpr} {v : TypeExpr} → TypeIn words m t x → x ≡ Some v
      → Runs typed file words (type_expr_type m (module_row file words m) s (type_expr_of file words v)) depth T O T' O' r
      → Runs typed file words (program (index_of file words) (Demand.type m t s)) depth T O T' O' r
  unfolding program type_program
  type_found m t s {v = v} i h a =
      found_by (λ home. type_expr_at home t) (done error) (λ home. type_expr_type m home s) i.there (module_row file words m) _ (type_expr_of file words v)
      (i.module_is file) (sym (ap (found_type_expr_of file words) h) ∙ i.same file) a

  pub definition_found : {r : Result ℕ Refusal} (m d : ℕ) {x : Option Definition} {v : Definition} → DefinitionIn words m d x → x ≡ Some v
      → Runs typed file words (definition_kind_type (index_of file words) m d v.scope.0 (definition_kind_of file words v.kind)) depth T O T' O' r
      → Runs typed file words (program (index_of file words) (Demand.definition m d)) depth T O T' O' r
  unfolding program definition_program
  definition_found m d i h a =
      found_by (λ home. definition_at home d) (done error) (λ home x. definition_kind_type (index_of file words) m d x.scope x.kind) i.there (module_row file words m) _ _
      (i.module_is file) (sym (ap (found_definition_of file words) h) ∙ i.same file) a

  pub struct_found : {r : Result (Option ℕ) Refusal} (m d : ℕ) {x : Option Definition} {v : Definition} → DefinitionIn words m d x → x ≡ Some v
      → Runs linked file words (struct_kind_data m d v.scope.0 (definition_kind_of file words v.kind)) depth T O T' O' r
      → Runs linked file words (program (index_of file words) (Demand.struct m d)) depth T O T' O' r
  unfolding program struct_program
  struct_found m d i h a =
      found_by (λ home. definition_at home d) (done None) (λ home x. struct_kind_data m d x.scope x.kind) i.there (module_row file words m) _ _
      (i.module_is file) (sym (ap (found_definition_of file words) h) ∙ i.same file) a

  pub signature_found : {r : Result (Option ℕ) Refusal} (m d : ℕ) {x : Option Definition} {v : Definition} → DefinitionIn words m d x → x ≡ Some v
      → Runs linked file words (function_kind_signature m d v.scope.0 (definition_kind_of file words v.kind)) depth T O T' O' r
      → Runs linked file words (program (index_of file words) (Demand.signature m d)) depth T O T' O' r
  unfolding program signature_program
  signature_found m d i h a =
      found_by (λ home. definition_at home d) (done None) (λ home x. function_kind_signature m d x.scope x.kind) i.there (module_row file words m) _ _
      (i.module_is file) (sym (ap (found_definition_of file words) h) ∙ i.same file) a

  pub expression_found : {r : Result ℕ Refusal} (m e : ℕ) (given : Option ℕ) {x : Option ExpressionInfo} {v : ExpressionInfo} → ExpressionIn words m e x → x ≡ Some v
      → Runs typed file words
      (context_expected m (module_row file words m) (info_of file words v) given >>= (λ context. node_type m (module_row file words m) (info_of file words v) context (expression_of file words v.node))) depth T O T' O' r
      → Runs typed file words (program (index_of file words) (Demand.expression m e given)) depth T O T' O' r
  unfolding program expression_program
  expression_found m e given i h a =
      found_by (λ home. expression_at home e) (done error) (λ home info. context_expected m home info given >>= (λ context. node_type m home info context info.node)) i.there (module_row file words m) _ _
      (i.module_is file) (sym (ap (found_expression_of file words) h) ∙ i.same file) a

  -- an expression with a context, which is resolved first
  pub in_context_found : {r : Result ℕ Refusal} (m e t : ℕ) {x : Option ExpressionInfo} {v : ExpressionInfo} → ExpressionIn words m e x → x ≡ Some v
      → Runs typed file words (resolve_ast_type m t v.scope.0 >>= (λ context. expression_semantic_type m e (Some context))) depth T O T' O' r
      → Runs typed file words (expression_in_context (index_of file words) m e t) depth T O T' O' r
  unfolding expression_in_context
  in_context_found m e t i h a =
      found_by (λ home. expression_at home e) (done error) (λ home info. resolve_ast_type m t info.scope >>= (λ context. expression_semantic_type m e (Some context))) i.there (module_row file words m) _ _
      (i.module_is file) (sym (ap (found_expression_of file words) h) ∙ i.same file) a

-- ------------------------------------------------------------------ where there is none

module _ {file words : List ℕ} {depth : ℕ} {T : List ℕ} {O : List (List ℕ)} (ok : Ready file words depth T O) where
  pub type_absent : (m t s : ℕ) {x : Option TypeExpr} → TypeIn words m t x → x ≡ None
      → Runs typed file words (program (index_of file words) (Demand.type m t s)) depth T O T O (Ok error)
  unfolding program type_program
  type_absent m t s i h =
      absent_by (λ home. type_expr_at home t) (done error) (λ home. type_expr_type m home s) i.there (module_row file words m) _
      (i.module_is file) (sym (ap (found_type_expr_of file words) h) ∙ i.same file) (answers ok refl)

  pub definition_absent : (m d : ℕ) {x : Option Definition} → DefinitionIn words m d x → x ≡ None
      → Runs typed file words (program (index_of file words) (Demand.definition m d)) depth T O T O (Ok error)
  unfolding program definition_program
  definition_absent m d i h =
      absent_by (λ home. definition_at home d) (done error) (λ home x. definition_kind_type (index_of file words) m d x.scope x.kind) i.there (module_row file words m) _
      (i.module_is file) (sym (ap (found_definition_of file words) h) ∙ i.same file) (answers ok refl)

  pub struct_absent : (m d : ℕ) {x : Option Definition} → DefinitionIn words m d x → x ≡ None
      → Runs linked file words (program (index_of file words) (Demand.struct m d)) depth T O T O (Ok None)
  unfolding program struct_program
  struct_absent m d i h =
      absent_by (λ home. definition_at home d) (done None) (λ home x. struct_kind_data m d x.scope x.kind) i.there (module_row file words m) _
      (i.module_is file) (sym (ap (found_definition_of file words) h) ∙ i.same file) (knows_nothing ok)

  pub signature_absent : (m d : ℕ) {x : Option Definition} → DefinitionIn words m d x → x ≡ None
      → Runs linked file words (program (index_of file words) (Demand.signature m d)) depth T O T O (Ok None)
  unfolding program signature_program
  signature_absent m d i h =
      absent_by (λ home. definition_at home d) (done None) (λ home x. function_kind_signature m d x.scope x.kind) i.there (module_row file words m) _
      (i.module_is file) (sym (ap (found_definition_of file words) h) ∙ i.same file) (knows_nothing ok)

  pub expression_absent : (m e : ℕ) (given : Option ℕ) {x : Option ExpressionInfo} → ExpressionIn words m e x → x ≡ None
      → Runs typed file words (program (index_of file words) (Demand.expression m e given)) depth T O T O (Ok error)
  unfolding program expression_program
  expression_absent m e given i h =
      absent_by (λ home. expression_at home e) (done error) (λ home info. context_expected m home info given >>= (λ context. node_type m home info context info.node)) i.there (module_row file words m) _
      (i.module_is file) (sym (ap (found_expression_of file words) h) ∙ i.same file) (answers ok refl)

  pub in_context_absent : (m e t : ℕ) {x : Option ExpressionInfo} → ExpressionIn words m e x → x ≡ None
      → Runs typed file words (expression_in_context (index_of file words) m e t) depth T O T O (Ok error)
  unfolding expression_in_context
  in_context_absent m e t i h =
      absent_by (λ home. expression_at home e) (done error) (λ home info. resolve_ast_type m t info.scope >>= (λ context. expression_semantic_type m e (Some context))) i.there (module_row file words m) _
      (i.module_is file) (sym (ap (found_expression_of file words) h) ∙ i.same file) (answers ok refl)
