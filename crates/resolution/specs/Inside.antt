-- Inside and outside of a function's body (document 01, "Inside a function"; of `at`, the change request that adds it). Assumes nothing.
use Rattle.std.specs.Prelude.{ℕ, ◌≡◌, true}
use mathlib.Core.List.{Memᴰ}
use Rattle.std.specs.Prelude.{None, Some}
use Rattle.model.specs.Records.{ScopeKind, Scope, TypeExpr, Definition, ExpressionInfo, Index}
use Rattle.model.specs.Lookups.{covers}
use Rattle.model.specs.Links.{
  scope_in,
  type_in,
  definition_in,
  expression_in,
  type_types,
  definition_types,
  definition_expressions,
  expression_types,
  expression_definitions,
  expression_expressions,
}
use Rattle.model.specs.WellFormed.{Present}
use Rattle.resolution.specs.Asked.{Asked, asked_module, asked_types}

-- a function's body: the numbers of a module and of a `function` scope in it
pub record Body : Type 0 where
  pub module_number : ℕ
  pub scope_number : ℕ

pub record IsBody (index : Index) (body : Body) : Type 0 where
  pub scope : Scope
  pub found : scope_in index body.module_number body.scope_number ≡ Some scope
  pub is_function : scope.kind ≡ ScopeKind.FunctionScope

module _ (index : Index) (body : Body) where
  -- "One `function` scope, the scopes below it": module, scope
  pub data Inside : ℕ → ℕ → Type 0 where
    body_scope : {m s : ℕ} → m ≡ body.module_number → s ≡ body.scope_number → Inside m s
    below : {m s p : ℕ} {scope : Scope} → scope_in index m s ≡ Some scope → scope.parent ≡ Some p → Inside m p → Inside m s

  -- "the rest .. is outside": a scope, and a definition or an expression by its scope
  pub record OutsideScope (m s : ℕ) : Type 0 where
    pub scope : Scope
    pub found : scope_in index m s ≡ Some scope
    pub not_inside : Inside m s → ⊥

  pub record OutsideDefinition (m d : ℕ) : Type 0 where
    pub definition : Definition
    pub found : definition_in index m d ≡ Some definition
    pub not_inside : Inside m definition.scope → ⊥

  pub record OutsideExpression (m e : ℕ) : Type 0 where
    pub expression : ExpressionInfo
    pub found : expression_in index m e ≡ Some expression
    pub not_inside : Inside m expression.scope → ⊥

  -- "Of the T, those count as outside that an outside record, an outside T or the question names": module, T
  pub data OutsideType (asked : Asked) : ℕ → ℕ → Type 0 where
    definition_names : {m d t : ℕ} (outside : OutsideDefinition m d) → Memᴰ t (definition_types outside.definition.kind) → OutsideType asked m t
    expression_names : {m e t : ℕ} (outside : OutsideExpression m e) → Memᴰ t (expression_types outside.expression) → OutsideType asked m t
    type_names : {m t u : ℕ} {type : TypeExpr} → OutsideType asked m t → type_in index m t ≡ Some type → Memᴰ u (type_types type) → OutsideType asked m u
    question_names : {m t : ℕ} → m ≡ asked_module asked → Memᴰ t (asked_types asked) → OutsideType asked m t

  -- Demand 3: "nothing outside links inside". (An outside scope's parent and an outside record's scope are outside as it stands)
  pub record NothingLinksInside : Type 0 where
    pub definition_to_expression : (m d e : ℕ) (outside : OutsideDefinition m d) → Memᴰ e (definition_expressions outside.definition.kind)
        → (expression : ExpressionInfo) → expression_in index m e ≡ Some expression → Inside m expression.scope → ⊥
    pub expression_to_definition : (m e d : ℕ) (outside : OutsideExpression m e) → Memᴰ d (expression_definitions outside.expression)
        → (definition : Definition) → definition_in index m d ≡ Some definition → Inside m definition.scope → ⊥
    pub expression_to_expression : (m e f : ℕ) (outside : OutsideExpression m e) → Memᴰ f (expression_expressions outside.expression)
        → (expression : ExpressionInfo) → expression_in index m f ≡ Some expression → Inside m expression.scope → ⊥

  -- of `at`, in the change request's words: "only where every expression covering that byte lies outside and no inside span of either index covers it"
  abbrev pub NotCoveredInside : ℕ → ℕ → Type 0
  NotCoveredInside m position =
      (e : ℕ) (expression : ExpressionInfo) → expression_in index m e ≡ Some expression → covers position expression ≡ true
      → Inside m expression.scope → ⊥

  -- "A question is about the outside if all it names are outside records, present" in the index; of a byte `NotCoveredInside`, and its module need not be there
  abbrev pub AboutOutside : Asked → Type 0
  AboutOutside (Asked.expr m e None) = OutsideExpression m e
  AboutOutside (Asked.expr m e (Some t)) = OutsideExpression m e × Present (type_in index m t)
  AboutOutside (Asked.def m d) = OutsideDefinition m d
  AboutOutside (Asked.type m t s) = Present (type_in index m t) × OutsideScope m s
  AboutOutside (Asked.at m position) = NotCoveredInside m position
