-- The records of an index, as document 01 lists them under "The file `resolve` reads". A record is known by its place in its module's
-- list of its kind, counted from 0, and a link is such a number: an ExpressionId, a DefinitionIndex or a FileScopeId, by the field that holds
-- it. (The code has three types for these.) Names follow the Rust where it has one. Assumes nothing.
use Rattle.std.specs.Prelude.{ℕ, List}
use Rattle.std.specs.Prelude.{Option}
use Rattle.model.specs.Common.{Text}

-- "1 to 64 bytes from 21 to 7E hexadecimal, and not `-`"
abbrev pub Name : Type 0
Name = Text

-- S
pub data ScopeKind : Type 0 where
  ModuleScope FunctionScope BlockScope LoopScope : ScopeKind

pub record Scope : Type 0 where
  pub parent : Option ℕ
  pub kind : ScopeKind

-- T
pub data TypeExpr : Type 0 where
  Felt Bool U32 : TypeExpr
  Custom : Name → TypeExpr
  -- t
  Pointer : ℕ → TypeExpr
  -- t..
  Tuple : List ℕ → TypeExpr
  -- t, size
  FixedArray : ℕ → ℕ → TypeExpr

-- a name with its t: a field of a struct or a parameter of a function
pub record NameWithType : Type 0 where
  pub name : Name
  pub type : ℕ

-- D
pub data DefinitionKind : Type 0 where
  -- return-t, (name t)..
  Function : ℕ → List NameWithType → DefinitionKind
  -- (name t)..
  Struct : List NameWithType → DefinitionKind
  -- t, e
  Const : Option ℕ → Option ℕ → DefinitionKind
  -- t, e, v, path..: v is the destructured value
  Let : Option ℕ → Option ℕ → Option ℕ → List ℕ → DefinitionKind
  -- t
  Parameter : ℕ → DefinitionKind
  -- module, item
  Use : Name → Name → DefinitionKind
  LoopVariable : DefinitionKind

pub record Definition : Type 0 where
  pub scope : ℕ
  pub name : Name
  pub name_start : ℕ
  pub name_end : ℕ
  pub full_start : ℕ
  pub full_end : ℕ
  pub kind : DefinitionKind

-- E: the origin, with its link and its value
pub data Origin : Type 0 where
  -- also TupleElem and ArrayElem
  Plain : Origin
  -- parent, name
  StructField : ℕ → Name → Origin
  -- callee, index
  Arg : ℕ → ℕ → Origin
  -- lhs
  AssignmentRhs : ℕ → Origin
  ReturnExpr Condition : Origin

pub data UnaryOp : Type 0 where
  Not Neg : UnaryOp

pub data BinaryOp : Type 0 where
  Add Sub Mul Div Mod Eq Neq Less Greater LessEqual GreaterEqual And Or BitwiseAnd BitwiseOr BitwiseXor : BinaryOp

-- E: the node. A child e is `none` where `expression_id_by_span` has none
pub data Expression : Type 0 where
  -- suffix
  Literal : Option Name → Expression
  BooleanLiteral : Expression
  Identifier : Name → Expression
  Unary : UnaryOp → Option ℕ → Expression
  -- op, left, right
  Binary : BinaryOp → Option ℕ → Option ℕ → Expression
  -- callee, arguments
  FunctionCall : Option ℕ → List (Option ℕ) → Expression
  -- object, field
  MemberAccess : Option ℕ → Name → Expression
  -- array, index
  IndexAccess : Option ℕ → Option ℕ → Expression
  -- name, start and end of the name's span
  StructLiteral : Name → ℕ → ℕ → Expression
  Tuple : List (Option ℕ) → Expression
  TupleIndex : Option ℕ → ℕ → Expression
  ArrayLiteral : List (Option ℕ) → Expression
  -- element, count
  ArrayRepeat : Option ℕ → ℕ → Expression
  -- t
  Cast : ℕ → Expression
  -- t, count
  New : ℕ → Option ℕ → Expression
  Parenthesized : Option ℕ → Expression

pub record ExpressionInfo : Type 0 where
  pub scope : ℕ
  pub start : ℕ
  pub end : ℕ
  -- expected t
  pub expected : Option ℕ
  -- recorded definition
  pub definition : Option ℕ
  pub origin : Origin
  pub node : Expression

-- M, with the records that follow it
pub record Module : Type 0 where
  pub name : Name
  pub scopes : List Scope
  pub types : List TypeExpr
  pub definitions : List Definition
  pub expressions : List ExpressionInfo

-- Q
pub data Question : Type 0 where
  -- module, e, context t
  expr : ℕ → ℕ → Option ℕ → Question
  -- module, d
  def : ℕ → ℕ → Question
  -- module, t, scope
  type : ℕ → ℕ → ℕ → Question
  -- module, position
  at : ℕ → ℕ → Question

-- what a file holds: the version of its first line, and the records of the lines behind it
pub record Index : Type 0 where
  pub version : ℕ
  pub modules : List Module
  pub questions : List Question
