-- The programs of the helpers that the definition has no name for, in the definition's own words, and what is asked of lists: they are at most
-- as long as the limit of items. Definitions only.
use Rattle.std.specs.Prelude.{ℕ, ◌≤◌, List, drop}
use Rattle.std.specs.Prelude.{Option, None, Some}
use Rattle.model.specs.Records as model
use Rattle.model.specs.Records.{Name, NameWithType, ExpressionInfo}
use Rattle.model.specs.Limits.{max_items}
use Rattle.model.specs.Links.{field_types}
use Rattle.records.specs.Meaning.{links_of}
use Rattle.records.specs.declared.Items.{Items}
use Rattle.records.specs.declared.TypeExpr.{TypeExpr}
use Rattle.records.specs.declared.Expression.{Expression}
use Rattle.resolution.specs.TypeData.{TypeData}
use Rattle.resolution.specs.Types.{error}
use Rattle.resolution.specs.Views.{typed_fields, element_hint}
use Rattle.resolution.specs.Programs.{Program, done, look, let_some, type_id_new, resolve_ast_type, definition_semantic_type, expression_semantic_type, ◌>>=◌}
use Rattle.resolution.specs.TypeResolution.{resolve_all, literal_type, array_literal_type, empty_array_type, array_repeat_type}
use Rattle.type_table.specs.Reads.{struct_or_error}

-- the type of a definition that a name led to, where it is a struct: `custom_type` and `struct_literal_type` behind their lookups
unfoldable pub struct_named : ℕ → Option ℕ → Program ℕ
struct_named m found = let_some found (done error) λ d. do
  def_type ← definition_semantic_type m d
  look λ table. done (struct_or_error def_type table)

unfoldable pub tuple_expr_type : ℕ → ℕ → List ℕ → Program ℕ
tuple_expr_type m s ts = do
  elements ← resolve_all m s ts
  type_id_new (TypeData.Tuple elements)

-- `resolve_variable_type` and `const_type`, with the type for neither a T nor a value
unfoldable pub declared_type : ℕ → ℕ → Option ℕ → Option ℕ → ℕ → Program ℕ
declared_type m s (Some t) e otherwise = resolve_ast_type m t s
declared_type m s None (Some e) otherwise = expression_semantic_type m e None
declared_type m s None None otherwise = done otherwise

-- `struct_kind_data` of a struct
unfoldable pub struct_type : ℕ → ℕ → ℕ → List NameWithType → Program (Option ℕ)
struct_type m d s fields = do
  types ← resolve_all m s (field_types fields)
  t ← type_id_new (TypeData.Struct m d (typed_fields fields types))
  done (Some t)

-- `function_kind_signature` of a function
unfoldable pub signature_type : ℕ → ℕ → ℕ → ℕ → List NameWithType → Program (Option ℕ)
signature_type m d s return_t params = do
  param_types ← resolve_all m s (field_types params)
  return_type ← resolve_ast_type m return_t s
  t ← type_id_new (TypeData.Function m d param_types return_type)
  done (Some t)

-- ------------------------------------------------------------------ nodes that look at the expression's scope and expected T alone

abbrev pub info_with : ℕ → Option ℕ → ExpressionInfo
info_with s expected =
    record {
      scope = s;
      start = 0;
      end = 0;
      expected = expected;
      definition = None;
      origin = model.Origin.Plain;
      node = model.Expression.BooleanLiteral;
    }

unfoldable pub literal_in : ℕ → ℕ → Option ℕ → Option ℕ → Option Name → Program ℕ
literal_in m s expected context suffix = literal_type m (info_with s expected) context suffix

unfoldable pub array_literal_in : ℕ → ℕ → Option ℕ → Option ℕ → List (Option ℕ) → Program ℕ
array_literal_in m s expected context elements = look λ table. array_literal_type m (info_with s expected) (element_hint table context) elements

unfoldable pub empty_array_in : ℕ → ℕ → Option ℕ → Option ℕ → Program ℕ
empty_array_in m s expected hint =
    let_some hint (empty_array_type m (info_with s expected)) λ element. type_id_new (TypeData.FixedArray element 0)

unfoldable pub repeat_in : ℕ → Option ℕ → Option ℕ → ℕ → Program ℕ
repeat_in m context element size = look λ table. array_repeat_type m (element_hint table context) element size

-- ------------------------------------------------------------------ lists

-- the children of a list behind the first
abbrev pub links_behind : List ℕ → Items → List (Option ℕ)
links_behind words list = drop 1 (links_of words list)

abbrev pub ShortType : TypeExpr → Type 0
ShortType TypeExpr.Felt = Unit {0}
ShortType TypeExpr.Bool = Unit {0}
ShortType TypeExpr.U32 = Unit {0}
ShortType (TypeExpr.Custom name) = Unit {0}
ShortType (TypeExpr.Pointer t) = Unit {0}
ShortType (TypeExpr.Tuple list) = list.count ≤ max_items
ShortType (TypeExpr.FixedArray t size) = Unit {0}

abbrev pub ShortNode : Expression → Type 0
ShortNode (Expression.Literal suffix) = Unit {0}
ShortNode Expression.BooleanLiteral = Unit {0}
ShortNode (Expression.Identifier name) = Unit {0}
ShortNode (Expression.Unary op e) = Unit {0}
ShortNode (Expression.Binary op left right) = Unit {0}
ShortNode (Expression.FunctionCall callee list) = Unit {0}
ShortNode (Expression.MemberAccess object field) = Unit {0}
ShortNode (Expression.IndexAccess array index) = Unit {0}
ShortNode (Expression.StructLiteral name span) = Unit {0}
ShortNode (Expression.Tuple list) = list.count ≤ max_items
ShortNode (Expression.TupleIndex tuple index) = Unit {0}
ShortNode (Expression.ArrayLiteral list) = Unit {0}
ShortNode (Expression.ArrayRepeat element size) = Unit {0}
ShortNode (Expression.Cast t) = Unit {0}
ShortNode (Expression.New t count) = Unit {0}
ShortNode (Expression.Parenthesized inner) = Unit {0}
