-- What the proofs use of what loading makes sure of (document 01, "The file `resolve` reads"). Assumes nothing.
use Rattle.std.specs.Prelude.{ℕ, ◌≤◌, ◌<◌, ◌≡◌, length}
use mathlib.Core.List.{Memᴰ}
use Rattle.std.specs.Prelude.{Option, None, Some}
use Rattle.std.specs.Prelude.{slice_get}
use Rattle.model.specs.Records.{Name, ScopeKind, Scope, TypeExpr, Definition, ExpressionInfo, Module, Question, Index}
use Rattle.model.specs.Lookups.{module_at, scope_at, parent}
use Rattle.model.specs.Links.{
  module_name,
  scope_in,
  type_in,
  definition_in,
  expression_in,
  type_types,
  definition_types,
  definition_expressions,
  expression_types,
  expression_definitions,
  expression_expressions,
}
use Rattle.model.specs.Limits.{
  max_number,
  max_position,
  max_modules,
  max_scopes,
  max_type_exprs,
  max_definitions,
  max_expressions,
  max_questions,
  max_items,
  scope_count,
  type_expr_count,
  definition_count,
  expression_count,
  item_count,
}

-- the record is there
abbrev pub Present : {A : Type 0} → Option A → Type 0
Present {A = A} o = (a : A) × (o ≡ Some a)

-- ------------------------------------------------------------------ links

-- Every link leads to a record of its kind
pub record LinksLead (index : Index) : Type 0 where
  pub parent_found : (m s p : ℕ) (scope : Scope) → scope_in index m s ≡ Some scope → scope.parent ≡ Some p → Present (scope_in index m p)
  pub type_types_found : (m t u : ℕ) (type : TypeExpr) → type_in index m t ≡ Some type → Memᴰ u (type_types type) → Present (type_in index m u)
  pub definition_scope_found : (m d : ℕ) (definition : Definition) → definition_in index m d ≡ Some definition → Present (scope_in index m definition.scope)
  pub definition_types_found : (m d t : ℕ) (definition : Definition) → definition_in index m d ≡ Some definition → Memᴰ t (definition_types definition.kind) → Present (type_in index m t)
  pub definition_expressions_found : (m d e : ℕ) (definition : Definition) → definition_in index m d ≡ Some definition → Memᴰ e (definition_expressions definition.kind) → Present (expression_in index m e)
  pub expression_scope_found : (m e : ℕ) (expression : ExpressionInfo) → expression_in index m e ≡ Some expression → Present (scope_in index m expression.scope)
  pub expression_types_found : (m e t : ℕ) (expression : ExpressionInfo) → expression_in index m e ≡ Some expression → Memᴰ t (expression_types expression) → Present (type_in index m t)
  pub expression_definitions_found : (m e d : ℕ) (expression : ExpressionInfo) → expression_in index m e ≡ Some expression → Memᴰ d (expression_definitions expression) → Present (definition_in index m d)
  pub expression_expressions_found : (m e f : ℕ) (expression : ExpressionInfo) → expression_in index m e ≡ Some expression → Memᴰ f (expression_expressions expression) → Present (expression_in index m f)

-- ------------------------------------------------------------------ scopes

-- "others have a lower-numbered one"
abbrev pub ParentsLower : Module → Type 0
ParentsLower the_module = (s p : ℕ) → parent the_module s ≡ Some p → p < s

-- scope 0 is there and has no parent
pub record HasRoot (the_module : Module) : Type 0 where
  pub scope : Scope
  pub found : scope_at the_module 0 ≡ Some scope
  pub no_parent : scope.parent ≡ None

-- ------------------------------------------------------------------ limits and questions

-- the "At most" line
pub record WithinLimits (index : Index) : Type 0 where
  pub modules : length index.modules ≤ max_modules
  pub scopes : scope_count index ≤ max_scopes
  pub types : type_expr_count index ≤ max_type_exprs
  pub definitions : definition_count index ≤ max_definitions
  pub expressions : expression_count index ≤ max_expressions
  pub questions : length index.questions ≤ max_questions
  pub items : item_count index ≤ max_items

-- "A context or `type` question's links are checked if the module, and for `expr` the expression, exists"
abbrev pub QuestionLinks : Index → Question → Type 0
QuestionLinks index (Question.expr m e None) = Unit {0}
QuestionLinks index (Question.expr m e (Some t)) = Present (expression_in index m e) → Present (type_in index m t)
QuestionLinks index (Question.def m d) = Unit {0}
QuestionLinks index (Question.type m t s) = Present (module_at index m) → Present (type_in index m t) × Present (scope_in index m s)
QuestionLinks index (Question.at m position) = Unit {0}

-- "links, counts and indexes are below 65,536, positions below 2^32": those that the answer line shows
abbrev pub QuestionNumbers : Question → Type 0
QuestionNumbers (Question.expr m e context) = (m ≤ max_number) × (e ≤ max_number)
QuestionNumbers (Question.def m d) = (m ≤ max_number) × (d ≤ max_number)
QuestionNumbers (Question.type m t s) = (m ≤ max_number) × (t ≤ max_number)
QuestionNumbers (Question.at m position) = (m ≤ max_number) × (position ≤ max_position)

-- ------------------------------------------------------------------ the whole

pub record WellFormed (index : Index) : Type 0 where
  pub version : index.version ≡ 1
  pub links : LinksLead index
  -- "names differ"
  pub names_differ : (m m' : ℕ) (name : Name) → module_name index m ≡ Some name → module_name index m' ≡ Some name → m ≡ m'
  -- "`module` (with `-` and only then ..)"
  pub root_kind : (m s : ℕ) (scope : Scope) → scope_in index m s ≡ Some scope → scope.parent ≡ None → scope.kind ≡ ScopeKind.ModuleScope
  -- "Scope 0 has no parent; others have a lower-numbered one"
  pub has_root : (m : ℕ) (the_module : Module) → module_at index m ≡ Some the_module → HasRoot the_module
  pub one_root : (m s : ℕ) (scope : Scope) → scope_in index m s ≡ Some scope → scope.parent ≡ None → s ≡ 0
  pub parents_lower : (m : ℕ) (the_module : Module) → module_at index m ≡ Some the_module → ParentsLower the_module
  -- "Each t is an earlier T"
  pub types_earlier : (m t u : ℕ) (type : TypeExpr) → type_in index m t ≡ Some type → Memᴰ u (type_types type) → u < t
  pub questions : (n : ℕ) (question : Question) → slice_get index.questions n ≡ Some question → QuestionLinks index question
  pub question_numbers : (n : ℕ) (question : Question) → slice_get index.questions n ≡ Some question → QuestionNumbers question
  pub limits : WithinLimits index
