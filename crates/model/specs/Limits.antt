-- The numbers of document 01: what a number may be, the "At most" line, and what is counted over the whole file. Assumes nothing.
use Rattle.std.specs.Prelude.{ℕ, ◌+◌, length}
use Rattle.model.specs.Common.{total}
use Rattle.model.specs.Records.{TypeExpr, DefinitionKind, Definition, Expression, ExpressionInfo, Module, Index}

-- ------------------------------------------------------------------ "links, counts and indexes are below 65,536, positions below 2^32, array sizes below 2^64"

abbrev pub max_number : ℕ
max_number = 65535

abbrev pub max_position : ℕ
max_position = 4294967295

abbrev pub max_size : ℕ
max_size = 18446744073709551615

-- ------------------------------------------------------------------ "At most, over the whole file"

abbrev pub max_bytes : ℕ
max_bytes = 65536

abbrev pub max_modules : ℕ
max_modules = 8

abbrev pub max_scopes : ℕ
max_scopes = 128

abbrev pub max_type_exprs : ℕ
max_type_exprs = 512

abbrev pub max_definitions : ℕ
max_definitions = 256

abbrev pub max_expressions : ℕ
max_expressions = 512

abbrev pub max_questions : ℕ
max_questions = 256

abbrev pub max_items : ℕ
max_items = 2048

-- ------------------------------------------------------------------ "Record buffer 16,384 and type buffer 8,192 words .., answer buffer 4,160 bytes, list of open demands 256 places"

abbrev pub record_words : ℕ
record_words = 16384

abbrev pub type_words : ℕ
type_words = 8192

abbrev pub answer_bytes : ℕ
answer_bytes = 4160

abbrev pub max_open_demands : ℕ
max_open_demands = 256

-- ------------------------------------------------------------------ records of a kind in all modules

unfoldable pub scope_count : Index → ℕ
scope_count index = total (λ the_module. length the_module.scopes) index.modules

unfoldable pub type_expr_count : Index → ℕ
type_expr_count index = total (λ the_module. length the_module.types) index.modules

unfoldable pub definition_count : Index → ℕ
definition_count index = total (λ the_module. length the_module.definitions) index.modules

unfoldable pub expression_count : Index → ℕ
expression_count index = total (λ the_module. length the_module.expressions) index.modules

-- ------------------------------------------------------------------ items "in all `..` lists (a name with its t is one)"

unfoldable pub type_expr_items : TypeExpr → ℕ
type_expr_items TypeExpr.Felt = 0
type_expr_items TypeExpr.Bool = 0
type_expr_items TypeExpr.U32 = 0
type_expr_items (TypeExpr.Custom name) = 0
type_expr_items (TypeExpr.Pointer t) = 0
type_expr_items (TypeExpr.Tuple ts) = length ts
type_expr_items (TypeExpr.FixedArray t size) = 0

unfoldable pub kind_items : DefinitionKind → ℕ
kind_items (DefinitionKind.Function t params) = length params
kind_items (DefinitionKind.Struct fields) = length fields
kind_items (DefinitionKind.Const t e) = 0
kind_items (DefinitionKind.Let t e v path) = length path
kind_items (DefinitionKind.Parameter t) = 0
kind_items (DefinitionKind.Use m item) = 0
kind_items DefinitionKind.LoopVariable = 0

unfoldable pub node_items : Expression → ℕ
node_items (Expression.Literal suffix) = 0
node_items Expression.BooleanLiteral = 0
node_items (Expression.Identifier name) = 0
node_items (Expression.Unary op e) = 0
node_items (Expression.Binary op left right) = 0
node_items (Expression.FunctionCall callee args) = length args
node_items (Expression.MemberAccess object field) = 0
node_items (Expression.IndexAccess array index) = 0
node_items (Expression.StructLiteral name start end) = 0
node_items (Expression.Tuple elements) = length elements
node_items (Expression.TupleIndex tuple index) = 0
node_items (Expression.ArrayLiteral elements) = length elements
node_items (Expression.ArrayRepeat element count) = 0
node_items (Expression.Cast t) = 0
node_items (Expression.New t count) = 0
node_items (Expression.Parenthesized inner) = 0

abbrev pub definition_items : Definition → ℕ
definition_items definition = kind_items definition.kind

abbrev pub expression_items : ExpressionInfo → ℕ
expression_items expression = node_items expression.node

abbrev pub module_items : Module → ℕ
module_items the_module =
    total type_expr_items the_module.types
    + (total definition_items the_module.definitions + total expression_items the_module.expressions)

unfoldable pub item_count : Index → ℕ
item_count index = total module_items index.modules
