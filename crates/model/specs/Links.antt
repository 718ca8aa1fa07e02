-- The links of a record: "A link is a field that holds a record's number; a name is none". The records by kind, module and number. Assumes nothing.
use Rattle.std.specs.Prelude.{ℕ, List, [], ◌∷◌, ◌++◌, map}
use Rattle.std.specs.Prelude.{Option, None, Some}
use Rattle.model.specs.Common.{let_some}
use Rattle.model.specs.Records.{Name, Scope, TypeExpr, NameWithType, DefinitionKind, Definition, Origin, Expression, ExpressionInfo, Index}
use Rattle.model.specs.Lookups.{module_at, scope_at, type_expr_at, definition_at, expression_at}

-- ------------------------------------------------------------------ records by module and number

abbrev pub module_name : Index → ℕ → Option Name
module_name index m = let_some (module_at index m) None (λ the_module. Some the_module.name)

abbrev pub scope_in : Index → ℕ → ℕ → Option Scope
scope_in index m s = let_some (module_at index m) None (λ the_module. scope_at the_module s)

abbrev pub type_in : Index → ℕ → ℕ → Option TypeExpr
type_in index m t = let_some (module_at index m) None (λ the_module. type_expr_at the_module t)

abbrev pub definition_in : Index → ℕ → ℕ → Option Definition
definition_in index m d = let_some (module_at index m) None (λ the_module. definition_at the_module d)

abbrev pub expression_in : Index → ℕ → ℕ → Option ExpressionInfo
expression_in index m e = let_some (module_at index m) None (λ the_module. expression_at the_module e)

-- ------------------------------------------------------------------ links

-- a link that may be missing
abbrev pub link : Option ℕ → List ℕ
link None = []
link (Some n) = n ∷ []

abbrev pub links : List (Option ℕ) → List ℕ
links [] = []
links (o ∷ os) = link o ++ links os

-- the T that a T names
unfoldable pub type_types : TypeExpr → List ℕ
type_types TypeExpr.Felt = []
type_types TypeExpr.Bool = []
type_types TypeExpr.U32 = []
type_types (TypeExpr.Custom name) = []
type_types (TypeExpr.Pointer t) = t ∷ []
type_types (TypeExpr.Tuple ts) = ts
type_types (TypeExpr.FixedArray t size) = t ∷ []

abbrev pub field_types : List NameWithType → List ℕ
field_types fields = map (λ field. field.type) fields

-- the T that a D names
unfoldable pub definition_types : DefinitionKind → List ℕ
definition_types (DefinitionKind.Function t params) = t ∷ field_types params
definition_types (DefinitionKind.Struct fields) = field_types fields
definition_types (DefinitionKind.Const t e) = link t
definition_types (DefinitionKind.Let t e v path) = link t
definition_types (DefinitionKind.Parameter t) = t ∷ []
definition_types (DefinitionKind.Use m item) = []
definition_types DefinitionKind.LoopVariable = []

-- the E that a D names
unfoldable pub definition_expressions : DefinitionKind → List ℕ
definition_expressions (DefinitionKind.Function t params) = []
definition_expressions (DefinitionKind.Struct fields) = []
definition_expressions (DefinitionKind.Const t e) = link e
definition_expressions (DefinitionKind.Let t e v path) = link e ++ link v
definition_expressions (DefinitionKind.Parameter t) = []
definition_expressions (DefinitionKind.Use m item) = []
definition_expressions DefinitionKind.LoopVariable = []

-- the E that an origin names
unfoldable pub origin_expressions : Origin → List ℕ
origin_expressions Origin.Plain = []
origin_expressions (Origin.StructField parent name) = parent ∷ []
origin_expressions (Origin.Arg callee index) = callee ∷ []
origin_expressions (Origin.AssignmentRhs lhs) = lhs ∷ []
origin_expressions Origin.ReturnExpr = []
origin_expressions Origin.Condition = []

-- the E that a node names
unfoldable pub node_expressions : Expression → List ℕ
node_expressions (Expression.Literal suffix) = []
node_expressions Expression.BooleanLiteral = []
node_expressions (Expression.Identifier name) = []
node_expressions (Expression.Unary op e) = link e
node_expressions (Expression.Binary op left right) = link left ++ link right
node_expressions (Expression.FunctionCall callee args) = link callee ++ links args
node_expressions (Expression.MemberAccess object field) = link object
node_expressions (Expression.IndexAccess array index) = link array ++ link index
node_expressions (Expression.StructLiteral name start end) = []
node_expressions (Expression.Tuple elements) = links elements
node_expressions (Expression.TupleIndex tuple index) = link tuple
node_expressions (Expression.ArrayLiteral elements) = links elements
node_expressions (Expression.ArrayRepeat element count) = link element
node_expressions (Expression.Cast t) = []
node_expressions (Expression.New t count) = link count
node_expressions (Expression.Parenthesized inner) = link inner

-- the T that a node names
unfoldable pub node_types : Expression → List ℕ
node_types (Expression.Literal suffix) = []
node_types Expression.BooleanLiteral = []
node_types (Expression.Identifier name) = []
node_types (Expression.Unary op e) = []
node_types (Expression.Binary op left right) = []
node_types (Expression.FunctionCall callee args) = []
node_types (Expression.MemberAccess object field) = []
node_types (Expression.IndexAccess array index) = []
node_types (Expression.StructLiteral name start end) = []
node_types (Expression.Tuple elements) = []
node_types (Expression.TupleIndex tuple index) = []
node_types (Expression.ArrayLiteral elements) = []
node_types (Expression.ArrayRepeat element count) = []
node_types (Expression.Cast t) = t ∷ []
node_types (Expression.New t count) = t ∷ []
node_types (Expression.Parenthesized inner) = []

-- the E, the D and the T that an E names
abbrev pub expression_expressions : ExpressionInfo → List ℕ
expression_expressions expression = origin_expressions expression.origin ++ node_expressions expression.node

abbrev pub expression_definitions : ExpressionInfo → List ℕ
expression_definitions expression = link expression.definition

abbrev pub expression_types : ExpressionInfo → List ℕ
expression_types expression = link expression.expected ++ node_types expression.node
