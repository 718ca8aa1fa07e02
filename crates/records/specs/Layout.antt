-- The index that the record words hold, whatever words they are: fixed regions, one row for each record, rows of a kind numbered over the
-- whole file. A word past the end is 0; a kind past the last is the last. Assumes nothing: these are definitions.
use Rattle.std.specs.Prelude.{ℕ, zero, suc, ◌+◌, ◌-◌, ◌*◌, ◌/◌, ◌%◌, List, [], ◌∷◌, get_or}
use Rattle.std.specs.Prelude.{Option, None, Some}
use Rattle.model.specs.Records.{
  Name,
  ScopeKind,
  Scope,
  TypeExpr,
  NameWithType,
  DefinitionKind,
  Definition,
  Origin,
  UnaryOp,
  BinaryOp,
  Expression,
  ExpressionInfo,
  Module,
  Question,
  Index,
}

-- ------------------------------------------------------------------ regions

-- Where a row begins: its region, and a number of words for each row. The header stands at 0
abbrev pub module_place : ℕ → ℕ
module_place m = 16 + 8 * m

abbrev pub scope_place : ℕ → ℕ
scope_place s = 256 + 2 * s

abbrev pub type_expr_place : ℕ → ℕ
type_expr_place t = 512 + 4 * t

abbrev pub definition_place : ℕ → ℕ
definition_place d = 2560 + 12 * d

abbrev pub expression_place : ℕ → ℕ
expression_place e = 5632 + 11 * e

abbrev pub question_place : ℕ → ℕ
question_place q = 11264 + 4 * q

abbrev pub item_place : ℕ → ℕ
item_place i = 12288 + 2 * i

-- ------------------------------------------------------------------ forms of a word

abbrev pub word : List ℕ → ℕ → ℕ
word words i = get_or words i 0

-- what f gives at `count` numbers, from `first` on
unfoldable pub each : {A : Type 0} → (ℕ → A) → ℕ → ℕ → List A
each f first zero = []
each f first (suc count) = f first ∷ each f (suc first) count

-- a link or `-`
abbrev pub link_by : ℕ → Option ℕ
link_by zero = None
link_by (suc n) = Some n

-- the bytes of the file from `start` on
abbrev pub bytes_at : List ℕ → ℕ → ℕ → Name
bytes_at file start length = each (word file) start length

-- the low 16 bits say where a name or a list begins, the others how long it is
abbrev pub start_of : ℕ → ℕ
start_of v = v % 65536

abbrev pub length_of : ℕ → ℕ
length_of v = v / 65536

unfoldable pub name_by : List ℕ → ℕ → Name
name_by file v = bytes_at file (start_of v) (length_of v)

-- a name or `-`
unfoldable pub suffix_by : List ℕ → ℕ → Option Name
suffix_by file zero = None
suffix_by file (suc v) = Some (name_by file (suc v))

-- an array's size, the low 32 bits first
abbrev pub size_by : ℕ → ℕ → ℕ
size_by low high = low + 4294967296 * high

-- the option that stands at a kind's number, and the last for all numbers past the list
unfoldable pub option_at : {A : Type 0} → ℕ → List A → A → A
option_at kind options last = get_or options kind last

-- ------------------------------------------------------------------ items

abbrev pub item_value : List ℕ → ℕ → ℕ
item_value words i = word words (item_place i)

abbrev pub item_name : List ℕ → ℕ → ℕ
item_name words i = word words (item_place i + 1)

unfoldable pub numbers_at : List ℕ → ℕ → ℕ → List ℕ
numbers_at words first count = each (item_value words) first count

unfoldable pub links_at : List ℕ → ℕ → ℕ → List (Option ℕ)
links_at words first count = each (λ i. link_by (item_value words i)) first count

abbrev pub name_with_type_row : List ℕ → List ℕ → ℕ → NameWithType
name_with_type_row file words i = record { name = name_by file (item_name words i); type = item_value words i }

unfoldable pub names_with_types_at : List ℕ → List ℕ → ℕ → ℕ → List NameWithType
names_with_types_at file words first count = each (name_with_type_row file words) first count

-- ------------------------------------------------------------------ S

unfoldable pub scope_kind_by : ℕ → ScopeKind
scope_kind_by kind = option_at kind (ScopeKind.ModuleScope ∷ ScopeKind.FunctionScope ∷ ScopeKind.BlockScope ∷ []) ScopeKind.LoopScope

unfoldable pub scope_row : List ℕ → ℕ → Scope
scope_row words s =
    record { parent = link_by (word words (scope_place s)); kind = scope_kind_by (word words (scope_place s + 1)) }

-- ------------------------------------------------------------------ T

unfoldable pub type_expr_by : List ℕ → List ℕ → ℕ → ℕ → ℕ → ℕ → TypeExpr
type_expr_by file words kind a b c =
    option_at
    kind
    (TypeExpr.Felt
    ∷ TypeExpr.Bool
    ∷ TypeExpr.U32
    ∷ TypeExpr.Custom (name_by file a)
    ∷ TypeExpr.Pointer a
    ∷ TypeExpr.Tuple (numbers_at words (start_of c) (length_of c))
    ∷ [])
    (TypeExpr.FixedArray a (size_by b c))

unfoldable pub type_expr_row : List ℕ → List ℕ → ℕ → TypeExpr
type_expr_row file words t =
    type_expr_by
    file
    words
    (word words (type_expr_place t))
    (word words (type_expr_place t + 1))
    (word words (type_expr_place t + 2))
    (word words (type_expr_place t + 3))

-- ------------------------------------------------------------------ D

-- a, b and c are the words behind the spans, and d is the list's
unfoldable pub definition_kind_by : List ℕ → List ℕ → ℕ → ℕ → ℕ → ℕ → ℕ → DefinitionKind
definition_kind_by file words kind a b c d =
    option_at
    kind
    (DefinitionKind.Function a (names_with_types_at file words (start_of d) (length_of d))
    ∷ DefinitionKind.Struct (names_with_types_at file words (start_of d) (length_of d))
    ∷ DefinitionKind.Const (link_by a) (link_by b)
    ∷ DefinitionKind.Let (link_by a) (link_by b) (link_by c) (numbers_at words (start_of d) (length_of d))
    ∷ DefinitionKind.Parameter a
    ∷ DefinitionKind.Use (name_by file a) (name_by file b)
    ∷ [])
    DefinitionKind.LoopVariable

abbrev pub definition_word : List ℕ → ℕ → ℕ → ℕ
definition_word words d k = word words (definition_place d + k)

unfoldable pub definition_row : List ℕ → List ℕ → ℕ → Definition
definition_row file words d =
    record {
      scope = definition_word words d 1;
      name = name_by file (definition_word words d 2);
      name_start = definition_word words d 3;
      name_end = definition_word words d 4;
      full_start = definition_word words d 5;
      full_end = definition_word words d 6;
      kind =
          definition_kind_by
          file
          words
          (word words (definition_place d))
          (definition_word words d 7)
          (definition_word words d 8)
          (definition_word words d 9)
          (definition_word words d 10);
    }

-- ------------------------------------------------------------------ E

unfoldable pub origin_by : List ℕ → ℕ → ℕ → ℕ → Origin
origin_by file kind link value =
    option_at
    kind
    (Origin.Plain
    ∷ Origin.StructField link (name_by file value)
    ∷ Origin.Arg link value
    ∷ Origin.AssignmentRhs link
    ∷ Origin.ReturnExpr
    ∷ [])
    Origin.Condition

unfoldable pub unary_op_by : ℕ → UnaryOp
unary_op_by op = option_at op (UnaryOp.Not ∷ []) UnaryOp.Neg

unfoldable pub binary_op_by : ℕ → BinaryOp
binary_op_by op =
    option_at
    op
    (BinaryOp.Add
    ∷ BinaryOp.Sub
    ∷ BinaryOp.Mul
    ∷ BinaryOp.Div
    ∷ BinaryOp.Mod
    ∷ BinaryOp.Eq
    ∷ BinaryOp.Neq
    ∷ BinaryOp.Less
    ∷ BinaryOp.Greater
    ∷ BinaryOp.LessEqual
    ∷ BinaryOp.GreaterEqual
    ∷ BinaryOp.And
    ∷ BinaryOp.Or
    ∷ BinaryOp.BitwiseAnd
    ∷ BinaryOp.BitwiseOr
    ∷ [])
    BinaryOp.BitwiseXor

-- a, b and c are the last three words
unfoldable pub expression_by : List ℕ → List ℕ → ℕ → ℕ → ℕ → ℕ → Expression
expression_by file words kind a b c =
    option_at
    kind
    (Expression.Literal (suffix_by file a)
    ∷ Expression.BooleanLiteral
    ∷ Expression.Identifier (name_by file a)
    ∷ Expression.Unary (unary_op_by a) (link_by b)
    ∷ Expression.Binary (binary_op_by a) (link_by b) (link_by c)
    ∷ Expression.FunctionCall (link_by a) (links_at words (start_of c) (length_of c))
    ∷ Expression.MemberAccess (link_by a) (name_by file b)
    ∷ Expression.IndexAccess (link_by a) (link_by b)
    ∷ Expression.StructLiteral (name_by file a) b c
    ∷ Expression.Tuple (links_at words (start_of c) (length_of c))
    ∷ Expression.TupleIndex (link_by a) b
    ∷ Expression.ArrayLiteral (links_at words (start_of c) (length_of c))
    ∷ Expression.ArrayRepeat (link_by a) (size_by b c)
    ∷ Expression.Cast a
    ∷ Expression.New a (link_by b)
    ∷ [])
    (Expression.Parenthesized (link_by a))

abbrev pub expression_word : List ℕ → ℕ → ℕ → ℕ
expression_word words e k = word words (expression_place e + k)

-- the first word holds the node's kind, and from 256 on the origin's
unfoldable pub expression_row : List ℕ → List ℕ → ℕ → ExpressionInfo
expression_row file words e =
    record {
      scope = expression_word words e 1;
      start = expression_word words e 2;
      end = expression_word words e 3;
      expected = link_by (expression_word words e 4);
      definition = link_by (expression_word words e 5);
      origin = origin_by file (word words (expression_place e) / 256) (expression_word words e 6) (expression_word words e 7);
      node =
          expression_by
          file
          words
          (word words (expression_place e) % 256)
          (expression_word words e 8)
          (expression_word words e 9)
          (expression_word words e 10);
    }

-- ------------------------------------------------------------------ Q

unfoldable pub question_by : ℕ → ℕ → ℕ → ℕ → Question
question_by kind m a b =
    option_at
    kind
    (Question.expr m a (link_by b) ∷ Question.def m a ∷ Question.type m a b ∷ [])
    (Question.at m a)

unfoldable pub question_row : List ℕ → ℕ → Question
question_row words q =
    question_by
    (word words (question_place q))
    (word words (question_place q + 1))
    (word words (question_place q + 2))
    (word words (question_place q + 3))

-- ------------------------------------------------------------------ modules

-- the word of a module's row that says where its records of a kind begin. They end where those of the next row begin
abbrev pub scope_rows : ℕ
scope_rows = 1

abbrev pub type_expr_rows : ℕ
type_expr_rows = 2

abbrev pub definition_rows : ℕ
definition_rows = 3

abbrev pub expression_rows : ℕ
expression_rows = 4

abbrev pub begin_of : List ℕ → ℕ → ℕ → ℕ
begin_of words m k = word words (module_place m + k)

abbrev pub end_of : List ℕ → ℕ → ℕ → ℕ
end_of words m k = word words (module_place m + 8 + k)

abbrev pub count_of : List ℕ → ℕ → ℕ → ℕ
count_of words m k = end_of words m k - begin_of words m k

-- the module's own rows of a kind
unfoldable pub rows_of : {A : Type 0} → (ℕ → A) → List ℕ → ℕ → ℕ → List A
rows_of row words m k = each row (begin_of words m k) (count_of words m k)

unfoldable pub module_row : List ℕ → List ℕ → ℕ → Module
module_row file words m =
    record {
      name = name_by file (word words (module_place m));
      scopes = rows_of (scope_row words) words m scope_rows;
      types = rows_of (type_expr_row file words) words m type_expr_rows;
      definitions = rows_of (definition_row file words) words m definition_rows;
      expressions = rows_of (expression_row file words) words m expression_rows;
    }

-- ------------------------------------------------------------------ the header, and the whole

abbrev pub module_count : List ℕ → ℕ
module_count words = word words 0

abbrev pub question_count : List ℕ → ℕ
question_count words = word words 1

abbrev pub version_of : List ℕ → ℕ
version_of words = word words 3

-- the index that the words hold
unfoldable pub index_of : List ℕ → List ℕ → Index
index_of file words =
    record {
      version = version_of words;
      modules = each (module_row file words) 0 (module_count words);
      questions = each (question_row words) 0 (question_count words);
    }
