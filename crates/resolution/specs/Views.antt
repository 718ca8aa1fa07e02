-- What the resolution functions read without asking: what a record is, and what a row of the table is. Assumes nothing.
use Rattle.std.specs.Prelude.{ℕ, Bool, true, false, not, ◌&&◌, List, [], ◌∷◌, eqb, length}
use Rattle.std.specs.Prelude.{Option, None, Some}
use Rattle.std.specs.Prelude.{slice_get}
use Rattle.std.specs.Prelude.{if◌then◌else◌}
use Rattle.model.specs.Common.{let_some, eq_numbers, bytes}
use Rattle.model.specs.Records.{Name, TypeExpr, NameWithType, DefinitionKind, BinaryOp, Expression, Module}
use Rattle.model.specs.Lookups.{type_expr_at, expression_at, is_builtin_function_name}
use Rattle.resolution.specs.Types.{Table, field_type, is_u32_or_felt, as_tuple, as_array, data_of, felt, u32, error}
use Rattle.resolution.specs.Compatible.{is_commutative}

-- ------------------------------------------------------------------ what a record is

-- `AstTypeExpr::FixedArray { .. }`
unfoldable pub is_array_expr : TypeExpr → Bool
is_array_expr TypeExpr.Felt = false
is_array_expr TypeExpr.Bool = false
is_array_expr TypeExpr.U32 = false
is_array_expr (TypeExpr.Custom name) = false
is_array_expr (TypeExpr.Pointer t) = false
is_array_expr (TypeExpr.Tuple ts) = false
is_array_expr (TypeExpr.FixedArray t size) = true

-- `Expression::Literal(_, None)`
unfoldable pub is_unsuffixed_literal : Expression → Bool
is_unsuffixed_literal (Expression.Literal None) = true
is_unsuffixed_literal (Expression.Literal (Some suffix)) = false
is_unsuffixed_literal Expression.BooleanLiteral = false
is_unsuffixed_literal (Expression.Identifier name) = false
is_unsuffixed_literal (Expression.Unary op e) = false
is_unsuffixed_literal (Expression.Binary op left right) = false
is_unsuffixed_literal (Expression.FunctionCall callee args) = false
is_unsuffixed_literal (Expression.MemberAccess object field) = false
is_unsuffixed_literal (Expression.IndexAccess array index) = false
is_unsuffixed_literal (Expression.StructLiteral name start end) = false
is_unsuffixed_literal (Expression.Tuple elements) = false
is_unsuffixed_literal (Expression.TupleIndex tuple index) = false
is_unsuffixed_literal (Expression.ArrayLiteral elements) = false
is_unsuffixed_literal (Expression.ArrayRepeat element count) = false
is_unsuffixed_literal (Expression.Cast t) = false
is_unsuffixed_literal (Expression.New t count) = false
is_unsuffixed_literal (Expression.Parenthesized inner) = false

-- the name of an identifier
unfoldable pub as_identifier : Expression → Option Name
as_identifier (Expression.Literal suffix) = None
as_identifier Expression.BooleanLiteral = None
as_identifier (Expression.Identifier name) = Some name
as_identifier (Expression.Unary op e) = None
as_identifier (Expression.Binary op left right) = None
as_identifier (Expression.FunctionCall callee args) = None
as_identifier (Expression.MemberAccess object field) = None
as_identifier (Expression.IndexAccess array index) = None
as_identifier (Expression.StructLiteral name start end) = None
as_identifier (Expression.Tuple elements) = None
as_identifier (Expression.TupleIndex tuple index) = None
as_identifier (Expression.ArrayLiteral elements) = None
as_identifier (Expression.ArrayRepeat element count) = None
as_identifier (Expression.Cast t) = None
as_identifier (Expression.New t count) = None
as_identifier (Expression.Parenthesized inner) = None

-- a name with its span
pub record SpannedName : Type 0 where
  pub name : Name
  pub start : ℕ
  pub end : ℕ

-- the name of a struct literal
unfoldable pub as_struct_literal : Expression → Option SpannedName
as_struct_literal (Expression.Literal suffix) = None
as_struct_literal Expression.BooleanLiteral = None
as_struct_literal (Expression.Identifier name) = None
as_struct_literal (Expression.Unary op e) = None
as_struct_literal (Expression.Binary op left right) = None
as_struct_literal (Expression.FunctionCall callee args) = None
as_struct_literal (Expression.MemberAccess object field) = None
as_struct_literal (Expression.IndexAccess array index) = None
as_struct_literal (Expression.StructLiteral name start end) = Some (record { name = name; start = start; end = end })
as_struct_literal (Expression.Tuple elements) = None
as_struct_literal (Expression.TupleIndex tuple index) = None
as_struct_literal (Expression.ArrayLiteral elements) = None
as_struct_literal (Expression.ArrayRepeat element count) = None
as_struct_literal (Expression.Cast t) = None
as_struct_literal (Expression.New t count) = None
as_struct_literal (Expression.Parenthesized inner) = None

-- the t of a struct definition's field
unfoldable pub struct_field : DefinitionKind → Name → Option ℕ
struct_field (DefinitionKind.Function t params) name = None
struct_field (DefinitionKind.Struct fields) name = field_type fields name
struct_field (DefinitionKind.Const t e) name = None
struct_field (DefinitionKind.Let t e v path) name = None
struct_field (DefinitionKind.Parameter t) name = None
struct_field (DefinitionKind.Use m item) name = None
struct_field DefinitionKind.LoopVariable name = None

-- the fields of a struct, each with the number of its type
unfoldable pub typed_fields : List NameWithType → List ℕ → List NameWithType
typed_fields [] ts = []
typed_fields (field ∷ fields) [] = []
typed_fields (field ∷ fields) (t ∷ ts) = record { name = field.name; type = t } ∷ typed_fields fields ts

-- `matches!(element_type.value(), AstTypeExpr::FixedArray { .. })`, by the T's number
unfoldable pub names_array_expr : Module → ℕ → Bool
names_array_expr the_module t = let_some (type_expr_at the_module t) false is_array_expr

-- an operand is an unsuffixed literal
unfoldable pub operand_is_unsuffixed_literal : Module → ℕ → Bool
operand_is_unsuffixed_literal the_module e =
    let_some (expression_at the_module e) false λ operand. is_unsuffixed_literal operand.node

-- the right operand is typed first, and its type is the left one's context. The Rust, of commutative operators: "check if either operand is a
-- literal - if so, we want to infer its type from the other operand"
unfoldable pub right_first : Module → BinaryOp → ℕ → ℕ → Bool
right_first the_module op left_id right_id =
    is_commutative op
    && (operand_is_unsuffixed_literal the_module left_id && not (operand_is_unsuffixed_literal the_module right_id))

-- the callee is the built-in `assert`; a missing callee is no identifier
unfoldable pub callee_is_builtin : Module → Option ℕ → Bool
callee_is_builtin the_module callee =
    let_some callee false λ callee_id.
    let_some (expression_at the_module callee_id) false λ callee_info.
    let_some (as_identifier callee_info.node) false is_builtin_function_name

-- ------------------------------------------------------------------ reading the table

-- along the path of a destructured value
unfoldable pub navigate : Table → ℕ → List ℕ → ℕ
navigate table current [] = current
navigate table current (index ∷ path) =
    let_some (as_tuple (data_of table current)) error λ elements.
    let_some (slice_get elements index) error λ t. navigate table t path

-- the type itself, if it is u32 or felt
unfoldable pub numeric : Table → ℕ → Option ℕ
numeric table t = if is_u32_or_felt (data_of table t) then Some t else None

-- the context itself if it is u32 or felt, else felt
unfoldable pub numeric_context : Table → Option ℕ → ℕ
numeric_context table None = felt
numeric_context table (Some t) = let_some (numeric table t) felt (λ u. u)

-- the elements of a context that is a tuple of that length, else none
unfoldable pub element_contexts : Table → Option ℕ → ℕ → List ℕ
element_contexts table None count = []
element_contexts table (Some t) count =
    let_some (as_tuple (data_of table t)) [] λ ts. if eqb (length ts) count then ts else []

-- the element of a context that is an array
unfoldable pub element_hint : Table → Option ℕ → Option ℕ
element_hint table None = None
element_hint table (Some t) = let_some (as_array (data_of table t)) None λ array. Some array.element

-- u32 and felt, the suffixes that decide
unfoldable pub suffix_type : Option Name → Option ℕ
suffix_type None = None
suffix_type (Some suffix) =
    if eq_numbers suffix (bytes "u32") then Some u32 else if eq_numbers suffix (bytes "felt") then Some felt else None
