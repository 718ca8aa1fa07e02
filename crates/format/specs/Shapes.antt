-- The lines' words: which fields stand behind each (document 01's list of M, S, T, D, E, Q), and the record that they make. Assumes nothing.
use Rattle.std.specs.Prelude.{ℕ, List, [], ◌∷◌, map, Bool, true, false}
use Rattle.std.specs.Prelude.{Option, None, Some}
use Rattle.model.specs.Common.{Text}
use Rattle.model.specs.Records.{ScopeKind, Scope, TypeExpr, NameWithType, DefinitionKind, Origin, Expression, Question}
use Rattle.format.specs.declared.Kind.{Kind}
use Rattle.format.specs.declared.Listed.{Listed}
use Rattle.format.specs.declared.Shape.{Shape}
use Rattle.format.specs.declared.ScopeWord.{ScopeWord}
use Rattle.format.specs.declared.TypeWord.{TypeWord}
use Rattle.format.specs.declared.DefinitionWord.{DefinitionWord}
use Rattle.format.specs.declared.OriginWord.{OriginWord}
use Rattle.format.specs.declared.NodeWord.{NodeWord}
use Rattle.format.specs.declared.QuestionWord.{QuestionWord}
use Rattle.format.specs.Words.{unary_op_at, binary_op_at}
use Rattle.format.specs.Fields.{Value, absent, number, text, only_if}
use Rattle.format.specs.Tails.{Three, Item, Tail}

-- ------------------------------------------------------------------ parts of a value, where its kind has them

abbrev pub num : Value → ℕ
num absent = 0
num (number n) = n
num (text t) = 0

abbrev pub maybe_num : Value → Option ℕ
maybe_num absent = None
maybe_num (number n) = Some n
maybe_num (text t) = None

abbrev pub txt : Value → Text
txt absent = []
txt (number n) = []
txt (text t) = t

abbrev pub maybe_txt : Value → Option Text
maybe_txt absent = None
maybe_txt (number n) = None
maybe_txt (text t) = Some t

abbrev pub nums : List Item → List ℕ
nums is = map (λ (i : Item). num i.first) is

abbrev pub maybe_nums : List Item → List (Option ℕ)
maybe_nums is = map (λ (i : Item). maybe_num i.first) is

abbrev pub fields : List Item → List NameWithType
fields is = map (λ (i : Item). record { name = txt i.first; type = num i.second }) is

-- ------------------------------------------------------------------ words: what stands behind each, and what it stands for

abbrev pub shape : Kind → Kind → Kind → Listed → Shape
shape a b c l = record { a = a; b = b; c = c; list = l }

abbrev pub bare : Shape
bare = shape Kind.Nothing Kind.Nothing Kind.Nothing Listed.Empty

-- M
abbrev pub module_shape : Shape
module_shape = shape Kind.Name Kind.Nothing Kind.Nothing Listed.Empty

-- S: "parent or `-`, then `module` (with `-` and only then, else 4), `function`, `block` or `loop`"
abbrev a_scope_of : Option ℕ → ScopeKind → Option Scope
a_scope_of parent kind = Some (record { parent = parent; kind = kind })

unfoldable pub scope_as : Option ℕ → ScopeWord → Option Scope
scope_as None ScopeWord.Module = a_scope_of None ScopeKind.ModuleScope
scope_as None ScopeWord.Function = None
scope_as None ScopeWord.Block = None
scope_as None ScopeWord.Loop = None
scope_as (Some p) ScopeWord.Module = None
scope_as (Some p) ScopeWord.Function = a_scope_of (Some p) ScopeKind.FunctionScope
scope_as (Some p) ScopeWord.Block = a_scope_of (Some p) ScopeKind.BlockScope
scope_as (Some p) ScopeWord.Loop = a_scope_of (Some p) ScopeKind.LoopScope

-- T
abbrev pub type_shape : TypeWord → Shape
type_shape TypeWord.Felt = bare
type_shape TypeWord.Bool = bare
type_shape TypeWord.U32 = bare
type_shape TypeWord.Custom = shape Kind.Name Kind.Nothing Kind.Nothing Listed.Empty
type_shape TypeWord.Ptr = shape Kind.Number Kind.Nothing Kind.Nothing Listed.Empty
type_shape TypeWord.Tuple = shape Kind.Nothing Kind.Nothing Kind.Nothing Listed.Numbers
type_shape TypeWord.Array = shape Kind.Number Kind.Size Kind.Nothing Listed.Empty

unfoldable pub type_as : TypeWord → Tail → TypeExpr
type_as TypeWord.Felt x = TypeExpr.Felt
type_as TypeWord.Bool x = TypeExpr.Bool
type_as TypeWord.U32 x = TypeExpr.U32
type_as TypeWord.Custom x = TypeExpr.Custom (txt x.a)
type_as TypeWord.Ptr x = TypeExpr.Pointer (num x.a)
type_as TypeWord.Tuple x = TypeExpr.Tuple (nums x.list)
type_as TypeWord.Array x = TypeExpr.FixedArray (num x.a) (num x.b)

-- D, behind the spans. A let: "v is the destructured value; with `-` there is no path"
abbrev pub path_ok : Option ℕ → List ℕ → Bool
path_ok None [] = true
path_ok None (n ∷ ns) = false
path_ok (Some v) ns = true

abbrev pub definition_shape : DefinitionWord → Shape
definition_shape DefinitionWord.Fn = shape Kind.Number Kind.Nothing Kind.Nothing Listed.Fields
definition_shape DefinitionWord.Struct = shape Kind.Nothing Kind.Nothing Kind.Nothing Listed.Fields
definition_shape DefinitionWord.Const = shape Kind.MaybeNumber Kind.MaybeNumber Kind.Nothing Listed.Empty
definition_shape DefinitionWord.Let = shape Kind.MaybeNumber Kind.MaybeNumber Kind.MaybeNumber Listed.Numbers
definition_shape DefinitionWord.Param = shape Kind.Number Kind.Nothing Kind.Nothing Listed.Empty
definition_shape DefinitionWord.Use = shape Kind.Name Kind.Name Kind.Nothing Listed.Empty
definition_shape DefinitionWord.Loop = bare

unfoldable pub definition_as : DefinitionWord → Tail → Option DefinitionKind
definition_as DefinitionWord.Fn x = Some (DefinitionKind.Function (num x.a) (fields x.list))
definition_as DefinitionWord.Struct x = Some (DefinitionKind.Struct (fields x.list))
definition_as DefinitionWord.Const x = Some (DefinitionKind.Const (maybe_num x.a) (maybe_num x.b))
definition_as DefinitionWord.Let x =
    only_if (path_ok (maybe_num x.c) (nums x.list))
    (DefinitionKind.Let (maybe_num x.a) (maybe_num x.b) (maybe_num x.c) (nums x.list))
definition_as DefinitionWord.Param x = Some (DefinitionKind.Parameter (num x.a))
definition_as DefinitionWord.Use x = Some (DefinitionKind.Use (txt x.a) (txt x.b))
definition_as DefinitionWord.Loop x = Some DefinitionKind.LoopVariable

-- E: the origin with its link and value, and the node
abbrev pub origin_shape : OriginWord → Shape
origin_shape OriginWord.Plain = shape Kind.Unused Kind.Unused Kind.Nothing Listed.Empty
origin_shape OriginWord.Field = shape Kind.Number Kind.Name Kind.Nothing Listed.Empty
origin_shape OriginWord.Arg = shape Kind.Number Kind.Number Kind.Nothing Listed.Empty
origin_shape OriginWord.Assign = shape Kind.Number Kind.Unused Kind.Nothing Listed.Empty
origin_shape OriginWord.Return = shape Kind.Unused Kind.Unused Kind.Nothing Listed.Empty
origin_shape OriginWord.Cond = shape Kind.Unused Kind.Unused Kind.Nothing Listed.Empty

unfoldable pub origin_as : OriginWord → Three → Origin
origin_as OriginWord.Plain x = Origin.Plain
origin_as OriginWord.Field x = Origin.StructField (num x.a) (txt x.b)
origin_as OriginWord.Arg x = Origin.Arg (num x.a) (num x.b)
origin_as OriginWord.Assign x = Origin.AssignmentRhs (num x.a)
origin_as OriginWord.Return x = Origin.ReturnExpr
origin_as OriginWord.Cond x = Origin.Condition

abbrev pub node_shape : NodeWord → Shape
node_shape NodeWord.Lit = shape Kind.MaybeName Kind.Nothing Kind.Nothing Listed.Empty
node_shape NodeWord.Bool = bare
node_shape NodeWord.Ident = shape Kind.Name Kind.Nothing Kind.Nothing Listed.Empty
node_shape NodeWord.Un = shape Kind.UnaryOp Kind.MaybeNumber Kind.Nothing Listed.Empty
node_shape NodeWord.Bin = shape Kind.BinaryOp Kind.MaybeNumber Kind.MaybeNumber Listed.Empty
node_shape NodeWord.Call = shape Kind.MaybeNumber Kind.Nothing Kind.Nothing Listed.MaybeNumbers
node_shape NodeWord.Member = shape Kind.MaybeNumber Kind.Name Kind.Nothing Listed.Empty
node_shape NodeWord.Index = shape Kind.MaybeNumber Kind.MaybeNumber Kind.Nothing Listed.Empty
node_shape NodeWord.Slit = shape Kind.Name Kind.Position Kind.Position Listed.Empty
node_shape NodeWord.Tuple = shape Kind.Nothing Kind.Nothing Kind.Nothing Listed.MaybeNumbers
node_shape NodeWord.Tidx = shape Kind.MaybeNumber Kind.Number Kind.Nothing Listed.Empty
node_shape NodeWord.Arr = shape Kind.Nothing Kind.Nothing Kind.Nothing Listed.MaybeNumbers
node_shape NodeWord.Rep = shape Kind.MaybeNumber Kind.Size Kind.Nothing Listed.Empty
node_shape NodeWord.Cast = shape Kind.Number Kind.Nothing Kind.Nothing Listed.Empty
node_shape NodeWord.New = shape Kind.Number Kind.MaybeNumber Kind.Nothing Listed.Empty
node_shape NodeWord.Paren = shape Kind.MaybeNumber Kind.Nothing Kind.Nothing Listed.Empty

unfoldable pub node_as : NodeWord → Tail → Expression
node_as NodeWord.Lit x = Expression.Literal (maybe_txt x.a)
node_as NodeWord.Bool x = Expression.BooleanLiteral
node_as NodeWord.Ident x = Expression.Identifier (txt x.a)
node_as NodeWord.Un x = Expression.Unary (unary_op_at (num x.a)) (maybe_num x.b)
node_as NodeWord.Bin x = Expression.Binary (binary_op_at (num x.a)) (maybe_num x.b) (maybe_num x.c)
node_as NodeWord.Call x = Expression.FunctionCall (maybe_num x.a) (maybe_nums x.list)
node_as NodeWord.Member x = Expression.MemberAccess (maybe_num x.a) (txt x.b)
node_as NodeWord.Index x = Expression.IndexAccess (maybe_num x.a) (maybe_num x.b)
node_as NodeWord.Slit x = Expression.StructLiteral (txt x.a) (num x.b) (num x.c)
node_as NodeWord.Tuple x = Expression.Tuple (maybe_nums x.list)
node_as NodeWord.Tidx x = Expression.TupleIndex (maybe_num x.a) (num x.b)
node_as NodeWord.Arr x = Expression.ArrayLiteral (maybe_nums x.list)
node_as NodeWord.Rep x = Expression.ArrayRepeat (maybe_num x.a) (num x.b)
node_as NodeWord.Cast x = Expression.Cast (num x.a)
node_as NodeWord.New x = Expression.New (num x.a) (maybe_num x.b)
node_as NodeWord.Paren x = Expression.Parenthesized (maybe_num x.a)

-- Q
abbrev pub question_shape : QuestionWord → Shape
question_shape QuestionWord.Expr = shape Kind.Number Kind.Number Kind.MaybeNumber Listed.Empty
question_shape QuestionWord.Def = shape Kind.Number Kind.Number Kind.Nothing Listed.Empty
question_shape QuestionWord.OfType = shape Kind.Number Kind.Number Kind.Number Listed.Empty
question_shape QuestionWord.At = shape Kind.Number Kind.Position Kind.Nothing Listed.Empty

unfoldable pub question_as : QuestionWord → Tail → Question
question_as QuestionWord.Expr x = Question.expr (num x.a) (num x.b) (maybe_num x.c)
question_as QuestionWord.Def x = Question.def (num x.a) (num x.b)
question_as QuestionWord.OfType x = Question.type (num x.a) (num x.b) (num x.c)
question_as QuestionWord.At x = Question.at (num x.a) (num x.b)
