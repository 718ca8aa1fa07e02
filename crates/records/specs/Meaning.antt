-- What the values of the code mean in the model: names are parts of the file, lists are ranges of the item rows. Definitions only.
use Rattle.std.specs.Prelude.{ℕ, List, Option, option_map}
use Rattle.model.specs.Records as model
use Rattle.records.specs.Layout.{bytes_at, numbers_at, links_at, names_with_types_at, scope_rows, type_expr_rows, definition_rows, expression_rows}
use Rattle.records.specs.declared.FileScopeId.{FileScopeId}
use Rattle.records.specs.declared.DefinitionIndex.{DefinitionIndex}
use Rattle.records.specs.declared.ExpressionId.{ExpressionId}
use Rattle.records.specs.declared.Name.{Name}
use Rattle.records.specs.declared.NameWithType.{NameWithType}
use Rattle.records.specs.declared.Items.{Items}
use Rattle.records.specs.declared.ScopeKind.{ScopeKind}
use Rattle.records.specs.declared.Scope.{Scope}
use Rattle.records.specs.declared.TypeExpr.{TypeExpr}
use Rattle.records.specs.declared.DefinitionKind.{DefinitionKind}
use Rattle.records.specs.declared.Definition.{Definition}
use Rattle.records.specs.declared.Origin.{Origin}
use Rattle.records.specs.declared.UnaryOp.{UnaryOp}
use Rattle.records.specs.declared.BinaryOp.{BinaryOp}
use Rattle.records.specs.declared.Expression.{Expression}
use Rattle.records.specs.declared.ExpressionInfo.{ExpressionInfo}
use Rattle.records.specs.declared.Question.{Question}
use Rattle.records.specs.declared.RowKind.{RowKind}

abbrev pub row_kind_number : RowKind → ℕ
row_kind_number RowKind.Scope = scope_rows
row_kind_number RowKind.TypeExpr = type_expr_rows
row_kind_number RowKind.Definition = definition_rows
row_kind_number RowKind.Expression = expression_rows

abbrev pub name_of : List ℕ → Name → model.Name
name_of file n = bytes_at file n.start n.length

abbrev pub numbers_of : List ℕ → Items → List ℕ
numbers_of words l = numbers_at words l.first l.count

abbrev pub links_of : List ℕ → Items → List (Option ℕ)
links_of words l = links_at words l.first l.count

abbrev pub names_with_types_of : List ℕ → List ℕ → Items → List model.NameWithType
names_with_types_of file words l = names_with_types_at file words l.first l.count

abbrev pub scope_link_of : Option FileScopeId → Option ℕ
scope_link_of = option_map (λ s. s.0)

abbrev pub type_link_of : Option ℕ → Option ℕ
type_link_of = option_map (λ t. t)

abbrev pub definition_link_of : Option DefinitionIndex → Option ℕ
definition_link_of = option_map (λ d. d.0)

abbrev pub expression_link_of : Option ExpressionId → Option ℕ
expression_link_of = option_map (λ e. e.0)

abbrev pub suffix_of : List ℕ → Option Name → Option model.Name
suffix_of file = option_map (name_of file)

-- ------------------------------------------------------------------ records

abbrev pub scope_kind_of : ScopeKind → model.ScopeKind
scope_kind_of ScopeKind.Module = model.ScopeKind.ModuleScope
scope_kind_of ScopeKind.Function = model.ScopeKind.FunctionScope
scope_kind_of ScopeKind.Block = model.ScopeKind.BlockScope
scope_kind_of ScopeKind.Loop = model.ScopeKind.LoopScope

abbrev pub scope_of : Scope → model.Scope
scope_of s = record { parent = scope_link_of s.parent; kind = scope_kind_of s.kind }

abbrev pub found_scope_of : Option Scope → Option model.Scope
found_scope_of = option_map scope_of

abbrev pub type_expr_of : List ℕ → List ℕ → TypeExpr → model.TypeExpr
type_expr_of file words TypeExpr.Felt = model.TypeExpr.Felt
type_expr_of file words TypeExpr.Bool = model.TypeExpr.Bool
type_expr_of file words TypeExpr.U32 = model.TypeExpr.U32
type_expr_of file words (TypeExpr.Custom n) = model.TypeExpr.Custom (name_of file n)
type_expr_of file words (TypeExpr.Pointer t) = model.TypeExpr.Pointer t
type_expr_of file words (TypeExpr.Tuple l) = model.TypeExpr.Tuple (numbers_of words l)
type_expr_of file words (TypeExpr.FixedArray t size) = model.TypeExpr.FixedArray t size

abbrev pub found_type_expr_of : List ℕ → List ℕ → Option TypeExpr → Option model.TypeExpr
found_type_expr_of file words = option_map (type_expr_of file words)

abbrev pub definition_kind_of : List ℕ → List ℕ → DefinitionKind → model.DefinitionKind
definition_kind_of file words (DefinitionKind.Function t l) = model.DefinitionKind.Function t (names_with_types_of file words l)
definition_kind_of file words (DefinitionKind.Struct l) = model.DefinitionKind.Struct (names_with_types_of file words l)
definition_kind_of file words (DefinitionKind.Const t e) = model.DefinitionKind.Const (type_link_of t) (expression_link_of e)
definition_kind_of file words (DefinitionKind.Let t e v l) =
    model.DefinitionKind.Let (type_link_of t) (expression_link_of e) (expression_link_of v) (numbers_of words l)
definition_kind_of file words (DefinitionKind.Parameter t) = model.DefinitionKind.Parameter t
definition_kind_of file words (DefinitionKind.Use m i) = model.DefinitionKind.Use (name_of file m) (name_of file i)
definition_kind_of file words DefinitionKind.LoopVariable = model.DefinitionKind.LoopVariable

abbrev pub definition_of : List ℕ → List ℕ → Definition → model.Definition
definition_of file words d =
    record {
      scope = d.scope.0;
      name = name_of file d.name;
      name_start = d.name_span.start;
      name_end = d.name_span.end;
      full_start = d.full_span.start;
      full_end = d.full_span.end;
      kind = definition_kind_of file words d.kind;
    }

abbrev pub found_definition_of : List ℕ → List ℕ → Option Definition → Option model.Definition
found_definition_of file words = option_map (definition_of file words)

abbrev pub origin_of : List ℕ → Origin → model.Origin
origin_of file Origin.Plain = model.Origin.Plain
origin_of file (Origin.StructField e n) = model.Origin.StructField e.0 (name_of file n)
origin_of file (Origin.Arg e i) = model.Origin.Arg e.0 i
origin_of file (Origin.AssignmentRhs e) = model.Origin.AssignmentRhs e.0
origin_of file Origin.ReturnExpr = model.Origin.ReturnExpr
origin_of file Origin.Condition = model.Origin.Condition

abbrev pub unary_op_of : UnaryOp → model.UnaryOp
unary_op_of UnaryOp.Not = model.UnaryOp.Not
unary_op_of UnaryOp.Neg = model.UnaryOp.Neg

abbrev pub binary_op_of : BinaryOp → model.BinaryOp
binary_op_of BinaryOp.Add = model.BinaryOp.Add
binary_op_of BinaryOp.Sub = model.BinaryOp.Sub
binary_op_of BinaryOp.Mul = model.BinaryOp.Mul
binary_op_of BinaryOp.Div = model.BinaryOp.Div
binary_op_of BinaryOp.Mod = model.BinaryOp.Mod
binary_op_of BinaryOp.Eq = model.BinaryOp.Eq
binary_op_of BinaryOp.Neq = model.BinaryOp.Neq
binary_op_of BinaryOp.Less = model.BinaryOp.Less
binary_op_of BinaryOp.Greater = model.BinaryOp.Greater
binary_op_of BinaryOp.LessEqual = model.BinaryOp.LessEqual
binary_op_of BinaryOp.GreaterEqual = model.BinaryOp.GreaterEqual
binary_op_of BinaryOp.And = model.BinaryOp.And
binary_op_of BinaryOp.Or = model.BinaryOp.Or
binary_op_of BinaryOp.BitwiseAnd = model.BinaryOp.BitwiseAnd
binary_op_of BinaryOp.BitwiseOr = model.BinaryOp.BitwiseOr
binary_op_of BinaryOp.BitwiseXor = model.BinaryOp.BitwiseXor

abbrev pub expression_of : List ℕ → List ℕ → Expression → model.Expression
expression_of file words (Expression.Literal s) = model.Expression.Literal (suffix_of file s)
expression_of file words Expression.BooleanLiteral = model.Expression.BooleanLiteral
expression_of file words (Expression.Identifier n) = model.Expression.Identifier (name_of file n)
expression_of file words (Expression.Unary op e) = model.Expression.Unary (unary_op_of op) (expression_link_of e)
expression_of file words (Expression.Binary op a b) =
    model.Expression.Binary (binary_op_of op) (expression_link_of a) (expression_link_of b)
expression_of file words (Expression.FunctionCall e l) = model.Expression.FunctionCall (expression_link_of e) (links_of words l)
expression_of file words (Expression.MemberAccess e n) = model.Expression.MemberAccess (expression_link_of e) (name_of file n)
expression_of file words (Expression.IndexAccess a b) = model.Expression.IndexAccess (expression_link_of a) (expression_link_of b)
expression_of file words (Expression.StructLiteral n span) = model.Expression.StructLiteral (name_of file n) span.start span.end
expression_of file words (Expression.Tuple l) = model.Expression.Tuple (links_of words l)
expression_of file words (Expression.TupleIndex e i) = model.Expression.TupleIndex (expression_link_of e) i
expression_of file words (Expression.ArrayLiteral l) = model.Expression.ArrayLiteral (links_of words l)
expression_of file words (Expression.ArrayRepeat e size) = model.Expression.ArrayRepeat (expression_link_of e) size
expression_of file words (Expression.Cast t) = model.Expression.Cast t
expression_of file words (Expression.New t e) = model.Expression.New t (expression_link_of e)
expression_of file words (Expression.Parenthesized e) = model.Expression.Parenthesized (expression_link_of e)

abbrev pub info_of : List ℕ → List ℕ → ExpressionInfo → model.ExpressionInfo
info_of file words e =
    record {
      scope = e.scope.0;
      start = e.span.start;
      end = e.span.end;
      expected = type_link_of e.expected;
      definition = definition_link_of e.definition;
      origin = origin_of file e.origin;
      node = expression_of file words e.node;
    }

abbrev pub found_expression_of : List ℕ → List ℕ → Option ExpressionInfo → Option model.ExpressionInfo
found_expression_of file words = option_map (info_of file words)

abbrev pub question_of : Question → model.Question
question_of (Question.Expr m e t) = model.Question.expr m e.0 (type_link_of t)
question_of (Question.Def m d) = model.Question.def m d.0
question_of (Question.«Type» m t s) = model.Question.type m t s.0
question_of (Question.At m position) = model.Question.at m position

abbrev pub found_question_of : Option Question → Option model.Question
found_question_of = option_map question_of

-- ------------------------------------------------------------------ items

abbrev pub link_item_of : Option (Option ExpressionId) → Option (Option ℕ)
link_item_of = option_map expression_link_of

abbrev pub named_type_of : List ℕ → NameWithType → model.NameWithType
named_type_of file item = record { name = name_of file item.name; type = item.type_expr }

abbrev pub name_with_type_item_of : List ℕ → Option NameWithType → Option model.NameWithType
name_with_type_item_of file = option_map (named_type_of file)
