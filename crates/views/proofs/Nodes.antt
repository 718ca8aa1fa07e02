-- The kinds that an arm of a `match` has, by their numbers: what holds of each. Assumes nothing.
use mathlib.Core.Path.{◌≡◌, refl, sym}
use mathlib.Core.Bool.{Bool, true, false, not, false≢true}
use Prim.Native.Nat.{ℕ}
use mathlib.Core.List.{List, [], ◌∷◌}
use Rattle.std.specs.Prelude.{Option, None, Some, is_some}
use types.Run.{miss}
use borrow.Enum.Refused.{Among, opened}
use denote.Enum.Declared.{tag_of}
use Rattle.model.specs.Records.{Name}
use Rattle.resolution.specs.Compatible.{is_commutative}
use Rattle.resolution.specs.Views.{is_array_expr, is_unsuffixed_literal, as_identifier, as_struct_literal, struct_field}
use Rattle.resolution.specs.Types.{field_type}
use Rattle.records.specs.Meaning.{name_of, names_with_types_of, type_expr_of, definition_kind_of, binary_op_of, expression_of}
use Rattle.records.specs.declared.Name.{Name as DeclaredName}
use Rattle.records.specs.declared.Span.{Span}
use Rattle.records.specs.declared.Items.{Items}
use Rattle.records.specs.declared.TypeExpr.{TypeExpr}
use Rattle.records.specs.declared.DefinitionKind.{DefinitionKind}
use Rattle.records.specs.declared.BinaryOp.{BinaryOp}
use Rattle.records.specs.declared.Expression.{Expression}
use Rattle.records.specs.contracts.TypeExpr as type_expr
use Rattle.records.specs.contracts.DefinitionKind as definition_kind
use Rattle.records.specs.contracts.BinaryOp as binary_op
use Rattle.records.specs.contracts.Expression as expression

-- type expressions
pub array_expr : (file words : List ℕ) (t : TypeExpr) → Among (6 ∷ []) (tag_of type_expr.the_type t) → true ≡ is_array_expr (type_expr_of file words t)
unfolding is_array_expr
array_expr file words TypeExpr.Felt h = absurd (miss (6 ∷ []) 0 tt (opened h))
array_expr file words TypeExpr.Bool h = absurd (miss (6 ∷ []) 1 tt (opened h))
array_expr file words TypeExpr.U32 h = absurd (miss (6 ∷ []) 2 tt (opened h))
array_expr file words (TypeExpr.Custom n) h = absurd (miss (6 ∷ []) 3 tt (opened h))
array_expr file words (TypeExpr.Pointer t) h = absurd (miss (6 ∷ []) 4 tt (opened h))
array_expr file words (TypeExpr.Tuple l) h = absurd (miss (6 ∷ []) 5 tt (opened h))
array_expr file words (TypeExpr.FixedArray t size) h = refl

pub other_than_array : (file words : List ℕ) (t : TypeExpr) → Among (0 ∷ 1 ∷ 2 ∷ 3 ∷ 4 ∷ 5 ∷ []) (tag_of type_expr.the_type t) → false ≡ is_array_expr (type_expr_of file words t)
unfolding is_array_expr
other_than_array file words TypeExpr.Felt h = refl
other_than_array file words TypeExpr.Bool h = refl
other_than_array file words TypeExpr.U32 h = refl
other_than_array file words (TypeExpr.Custom n) h = refl
other_than_array file words (TypeExpr.Pointer t) h = refl
other_than_array file words (TypeExpr.Tuple l) h = refl
other_than_array file words (TypeExpr.FixedArray t size) h = absurd (miss (0 ∷ 1 ∷ 2 ∷ 3 ∷ 4 ∷ 5 ∷ []) 6 tt (opened h))

-- operators
pub commutes : (op : BinaryOp) → Among (0 ∷ 2 ∷ 5 ∷ 6 ∷ []) (tag_of binary_op.the_type op) → true ≡ is_commutative (binary_op_of op)
unfolding is_commutative
commutes BinaryOp.Add h = refl
commutes BinaryOp.Sub h = absurd (miss (0 ∷ 2 ∷ 5 ∷ 6 ∷ []) 1 tt (opened h))
commutes BinaryOp.Mul h = refl
commutes BinaryOp.Div h = absurd (miss (0 ∷ 2 ∷ 5 ∷ 6 ∷ []) 3 tt (opened h))
commutes BinaryOp.Mod h = absurd (miss (0 ∷ 2 ∷ 5 ∷ 6 ∷ []) 4 tt (opened h))
commutes BinaryOp.Eq h = refl
commutes BinaryOp.Neq h = refl
commutes BinaryOp.Less h = absurd (miss (0 ∷ 2 ∷ 5 ∷ 6 ∷ []) 7 tt (opened h))
commutes BinaryOp.Greater h = absurd (miss (0 ∷ 2 ∷ 5 ∷ 6 ∷ []) 8 tt (opened h))
commutes BinaryOp.LessEqual h = absurd (miss (0 ∷ 2 ∷ 5 ∷ 6 ∷ []) 9 tt (opened h))
commutes BinaryOp.GreaterEqual h = absurd (miss (0 ∷ 2 ∷ 5 ∷ 6 ∷ []) 10 tt (opened h))
commutes BinaryOp.And h = absurd (miss (0 ∷ 2 ∷ 5 ∷ 6 ∷ []) 11 tt (opened h))
commutes BinaryOp.Or h = absurd (miss (0 ∷ 2 ∷ 5 ∷ 6 ∷ []) 12 tt (opened h))
commutes BinaryOp.BitwiseAnd h = absurd (miss (0 ∷ 2 ∷ 5 ∷ 6 ∷ []) 13 tt (opened h))
commutes BinaryOp.BitwiseOr h = absurd (miss (0 ∷ 2 ∷ 5 ∷ 6 ∷ []) 14 tt (opened h))
commutes BinaryOp.BitwiseXor h = absurd (miss (0 ∷ 2 ∷ 5 ∷ 6 ∷ []) 15 tt (opened h))

pub keeps_order : (op : BinaryOp) → Among (1 ∷ 3 ∷ 4 ∷ 7 ∷ 8 ∷ 9 ∷ 10 ∷ 11 ∷ 12 ∷ 13 ∷ 14 ∷ 15 ∷ []) (tag_of binary_op.the_type op) → false ≡ is_commutative (binary_op_of op)
unfolding is_commutative
keeps_order BinaryOp.Add h = absurd (miss (1 ∷ 3 ∷ 4 ∷ 7 ∷ 8 ∷ 9 ∷ 10 ∷ 11 ∷ 12 ∷ 13 ∷ 14 ∷ 15 ∷ []) 0 tt (opened h))
keeps_order BinaryOp.Sub h = refl
keeps_order BinaryOp.Mul h = absurd (miss (1 ∷ 3 ∷ 4 ∷ 7 ∷ 8 ∷ 9 ∷ 10 ∷ 11 ∷ 12 ∷ 13 ∷ 14 ∷ 15 ∷ []) 2 tt (opened h))
keeps_order BinaryOp.Div h = refl
keeps_order BinaryOp.Mod h = refl
keeps_order BinaryOp.Eq h = absurd (miss (1 ∷ 3 ∷ 4 ∷ 7 ∷ 8 ∷ 9 ∷ 10 ∷ 11 ∷ 12 ∷ 13 ∷ 14 ∷ 15 ∷ []) 5 tt (opened h))
keeps_order BinaryOp.Neq h = absurd (miss (1 ∷ 3 ∷ 4 ∷ 7 ∷ 8 ∷ 9 ∷ 10 ∷ 11 ∷ 12 ∷ 13 ∷ 14 ∷ 15 ∷ []) 6 tt (opened h))
keeps_order BinaryOp.Less h = refl
keeps_order BinaryOp.Greater h = refl
keeps_order BinaryOp.LessEqual h = refl
keeps_order BinaryOp.GreaterEqual h = refl
keeps_order BinaryOp.And h = refl
keeps_order BinaryOp.Or h = refl
keeps_order BinaryOp.BitwiseAnd h = refl
keeps_order BinaryOp.BitwiseOr h = refl
keeps_order BinaryOp.BitwiseXor h = refl

-- nodes
pub other_than_literal : (file words : List ℕ) (node : Expression) → Among (1 ∷ 2 ∷ 3 ∷ 4 ∷ 5 ∷ 6 ∷ 7 ∷ 8 ∷ 9 ∷ 10 ∷ 11 ∷ 12 ∷ 13 ∷ 14 ∷ 15 ∷ []) (tag_of expression.the_type node) → false ≡ is_unsuffixed_literal (expression_of file words node)
unfolding is_unsuffixed_literal
other_than_literal file words (Expression.Literal s) h = absurd (miss (1 ∷ 2 ∷ 3 ∷ 4 ∷ 5 ∷ 6 ∷ 7 ∷ 8 ∷ 9 ∷ 10 ∷ 11 ∷ 12 ∷ 13 ∷ 14 ∷ 15 ∷ []) 0 tt (opened h))
other_than_literal file words Expression.BooleanLiteral h = refl
other_than_literal file words (Expression.Identifier n) h = refl
other_than_literal file words (Expression.Unary op e) h = refl
other_than_literal file words (Expression.Binary op a b) h = refl
other_than_literal file words (Expression.FunctionCall e l) h = refl
other_than_literal file words (Expression.MemberAccess e n) h = refl
other_than_literal file words (Expression.IndexAccess a b) h = refl
other_than_literal file words (Expression.StructLiteral n span) h = refl
other_than_literal file words (Expression.Tuple l) h = refl
other_than_literal file words (Expression.TupleIndex e i) h = refl
other_than_literal file words (Expression.ArrayLiteral l) h = refl
other_than_literal file words (Expression.ArrayRepeat e size) h = refl
other_than_literal file words (Expression.Cast t) h = refl
other_than_literal file words (Expression.New t e) h = refl
other_than_literal file words (Expression.Parenthesized e) h = refl

pub other_than_identifier : (file words : List ℕ) (node : Expression) → Among (0 ∷ 1 ∷ 3 ∷ 4 ∷ 5 ∷ 6 ∷ 7 ∷ 8 ∷ 9 ∷ 10 ∷ 11 ∷ 12 ∷ 13 ∷ 14 ∷ 15 ∷ []) (tag_of expression.the_type node) → as_identifier (expression_of file words node) ≡ None
unfolding as_identifier
other_than_identifier file words (Expression.Literal s) h = refl
other_than_identifier file words Expression.BooleanLiteral h = refl
other_than_identifier file words (Expression.Identifier n) h = absurd (miss (0 ∷ 1 ∷ 3 ∷ 4 ∷ 5 ∷ 6 ∷ 7 ∷ 8 ∷ 9 ∷ 10 ∷ 11 ∷ 12 ∷ 13 ∷ 14 ∷ 15 ∷ []) 2 tt (opened h))
other_than_identifier file words (Expression.Unary op e) h = refl
other_than_identifier file words (Expression.Binary op a b) h = refl
other_than_identifier file words (Expression.FunctionCall e l) h = refl
other_than_identifier file words (Expression.MemberAccess e n) h = refl
other_than_identifier file words (Expression.IndexAccess a b) h = refl
other_than_identifier file words (Expression.StructLiteral n span) h = refl
other_than_identifier file words (Expression.Tuple l) h = refl
other_than_identifier file words (Expression.TupleIndex e i) h = refl
other_than_identifier file words (Expression.ArrayLiteral l) h = refl
other_than_identifier file words (Expression.ArrayRepeat e size) h = refl
other_than_identifier file words (Expression.Cast t) h = refl
other_than_identifier file words (Expression.New t e) h = refl
other_than_identifier file words (Expression.Parenthesized e) h = refl

pub other_than_struct_literal : (file words : List ℕ) (node : Expression) → Among (0 ∷ 1 ∷ 2 ∷ 3 ∷ 4 ∷ 5 ∷ 6 ∷ 7 ∷ 9 ∷ 10 ∷ 11 ∷ 12 ∷ 13 ∷ 14 ∷ 15 ∷ []) (tag_of expression.the_type node) → as_struct_literal (expression_of file words node) ≡ None
unfolding as_struct_literal
other_than_struct_literal file words (Expression.Literal s) h = refl
other_than_struct_literal file words Expression.BooleanLiteral h = refl
other_than_struct_literal file words (Expression.Identifier n) h = refl
other_than_struct_literal file words (Expression.Unary op e) h = refl
other_than_struct_literal file words (Expression.Binary op a b) h = refl
other_than_struct_literal file words (Expression.FunctionCall e l) h = refl
other_than_struct_literal file words (Expression.MemberAccess e n) h = refl
other_than_struct_literal file words (Expression.IndexAccess a b) h = refl
other_than_struct_literal file words (Expression.StructLiteral n span) h = absurd (miss (0 ∷ 1 ∷ 2 ∷ 3 ∷ 4 ∷ 5 ∷ 6 ∷ 7 ∷ 9 ∷ 10 ∷ 11 ∷ 12 ∷ 13 ∷ 14 ∷ 15 ∷ []) 8 tt (opened h))
other_than_struct_literal file words (Expression.Tuple l) h = refl
other_than_struct_literal file words (Expression.TupleIndex e i) h = refl
other_than_struct_literal file words (Expression.ArrayLiteral l) h = refl
other_than_struct_literal file words (Expression.ArrayRepeat e size) h = refl
other_than_struct_literal file words (Expression.Cast t) h = refl
other_than_struct_literal file words (Expression.New t e) h = refl
other_than_struct_literal file words (Expression.Parenthesized e) h = refl

-- a node of a known kind
module _ (file words : List ℕ) (node : Expression) where
  -- a literal is unsuffixed if its suffix is absent
  pub suffix_decides : (s : Option DeclaredName) (b : Bool) → node ≡ Expression.Literal s → is_some s ≡ not b → b ≡ is_unsuffixed_literal (expression_of file words node)
  unfolding is_unsuffixed_literal
  suffix_decides None true h e = rw h
  suffix_decides None false h e = absurd (false≢true e)
  suffix_decides (Some n) true h e = absurd (false≢true (sym e))
  suffix_decides (Some n) false h e = rw h

  pub an_identifier : (n : DeclaredName) → node ≡ Expression.Identifier n → as_identifier (expression_of file words node) ≡ Some (name_of file n)
  unfolding as_identifier
  an_identifier n h = rw h

  pub a_struct_literal : (n : DeclaredName) (span : Span) → node ≡ Expression.StructLiteral n span
      → as_struct_literal (expression_of file words node) ≡ Some (record { name = name_of file n; start = span.start; end = span.end })
  unfolding as_struct_literal
  a_struct_literal n span h = rw h

-- definitions
pub a_struct : (file words : List ℕ) (name : Name) (kind : DefinitionKind) (fields : Items) (o : Option ℕ) → kind ≡ DefinitionKind.Struct fields
    → o ≡ field_type (names_with_types_of file words fields) name → o ≡ struct_field (definition_kind_of file words kind) name
unfolding struct_field
a_struct file words name kind fields o h e = rw h e

pub other_than_struct : (file words : List ℕ) (name : Name) (kind : DefinitionKind) → Among (0 ∷ 2 ∷ 3 ∷ 4 ∷ 5 ∷ 6 ∷ []) (tag_of definition_kind.the_type kind) → None ≡ struct_field (definition_kind_of file words kind) name
unfolding struct_field
other_than_struct file words name (DefinitionKind.Function t l) h = refl
other_than_struct file words name (DefinitionKind.Struct l) h = absurd (miss (0 ∷ 2 ∷ 3 ∷ 4 ∷ 5 ∷ 6 ∷ []) 1 tt (opened h))
other_than_struct file words name (DefinitionKind.Const t e) h = refl
other_than_struct file words name (DefinitionKind.Let t e v l) h = refl
other_than_struct file words name (DefinitionKind.Parameter t) h = refl
other_than_struct file words name (DefinitionKind.Use m i) h = refl
other_than_struct file words name DefinitionKind.LoopVariable h = refl
