-- The words of the format: one table for each place where a word stands, and which word a field is. Assumes nothing.
use Rattle.std.specs.Prelude.{ℕ, List, [], ◌∷◌, Bool}
use Prim.Native.String.{String}
use Rattle.std.specs.Prelude.{Option, None, option_map, slice_get}
use Rattle.model.specs.Common.{Text, bytes, let_some, first, eq_numbers}
use Rattle.model.specs.Records.{UnaryOp, BinaryOp}
use Rattle.format.specs.declared.LineWord.{LineWord}
use Rattle.format.specs.declared.ScopeWord.{ScopeWord}
use Rattle.format.specs.declared.TypeWord.{TypeWord}
use Rattle.format.specs.declared.DefinitionWord.{DefinitionWord}
use Rattle.format.specs.declared.OriginWord.{OriginWord}
use Rattle.format.specs.declared.NodeWord.{NodeWord}
use Rattle.format.specs.declared.QuestionWord.{QuestionWord}

-- ------------------------------------------------------------------ tables of words

-- a word as it stands in the file, and what it means
pub record Keyword (A : Type 0) : Type 0 where
  pub text : Text
  pub word : A

abbrev pub keyword : {A : Type 0} → String → A → Keyword A
keyword s w = record { text = bytes s; word = w }

-- the field is this word
unfoldable pub is_keyword : {A : Type 0} → Text → Keyword A → Bool
is_keyword t k = eq_numbers t k.text

-- the place in the table of the word that the field is
unfoldable pub place_in : {A : Type 0} → List (Keyword A) → Text → Option ℕ
place_in table t = first (is_keyword t) table

-- the word at a place of the table, else the other
unfoldable pub word_at : {A : Type 0} → List (Keyword A) → A → ℕ → A
word_at table other n = let_some (slice_get table n) other λ k. k.word

-- the word that the field is; none where it is none of the table
unfoldable pub word_in : {A : Type 0} → List (Keyword A) → Text → Option A
word_in table t = let_some (place_in table t) None λ n. option_map (λ k. k.word) (slice_get table n)

-- ------------------------------------------------------------------ the tables

abbrev pub line_words : List (Keyword LineWord)
line_words =
    keyword "M" LineWord.M
    ∷ keyword "S" LineWord.S
    ∷ keyword "T" LineWord.T
    ∷ keyword "D" LineWord.D
    ∷ keyword "E" LineWord.E
    ∷ keyword "Q" LineWord.Q
    ∷ []

abbrev pub scope_words : List (Keyword ScopeWord)
scope_words =
    keyword "module" ScopeWord.Module
    ∷ keyword "function" ScopeWord.Function
    ∷ keyword "block" ScopeWord.Block
    ∷ keyword "loop" ScopeWord.Loop
    ∷ []

abbrev pub type_words : List (Keyword TypeWord)
type_words =
    keyword "felt" TypeWord.Felt
    ∷ keyword "bool" TypeWord.Bool
    ∷ keyword "u32" TypeWord.U32
    ∷ keyword "custom" TypeWord.Custom
    ∷ keyword "ptr" TypeWord.Ptr
    ∷ keyword "tuple" TypeWord.Tuple
    ∷ keyword "array" TypeWord.Array
    ∷ []

abbrev pub definition_words : List (Keyword DefinitionWord)
definition_words =
    keyword "fn" DefinitionWord.Fn
    ∷ keyword "struct" DefinitionWord.Struct
    ∷ keyword "const" DefinitionWord.Const
    ∷ keyword "let" DefinitionWord.Let
    ∷ keyword "param" DefinitionWord.Param
    ∷ keyword "use" DefinitionWord.Use
    ∷ keyword "loop" DefinitionWord.Loop
    ∷ []

abbrev pub origin_words : List (Keyword OriginWord)
origin_words =
    keyword "plain" OriginWord.Plain
    ∷ keyword "field" OriginWord.Field
    ∷ keyword "arg" OriginWord.Arg
    ∷ keyword "assign" OriginWord.Assign
    ∷ keyword "return" OriginWord.Return
    ∷ keyword "cond" OriginWord.Cond
    ∷ []

abbrev pub node_words : List (Keyword NodeWord)
node_words =
    keyword "lit" NodeWord.Lit
    ∷ keyword "bool" NodeWord.Bool
    ∷ keyword "ident" NodeWord.Ident
    ∷ keyword "un" NodeWord.Un
    ∷ keyword "bin" NodeWord.Bin
    ∷ keyword "call" NodeWord.Call
    ∷ keyword "member" NodeWord.Member
    ∷ keyword "index" NodeWord.Index
    ∷ keyword "slit" NodeWord.Slit
    ∷ keyword "tuple" NodeWord.Tuple
    ∷ keyword "tidx" NodeWord.Tidx
    ∷ keyword "arr" NodeWord.Arr
    ∷ keyword "rep" NodeWord.Rep
    ∷ keyword "cast" NodeWord.Cast
    ∷ keyword "new" NodeWord.New
    ∷ keyword "paren" NodeWord.Paren
    ∷ []

abbrev pub question_words : List (Keyword QuestionWord)
question_words =
    keyword "expr" QuestionWord.Expr
    ∷ keyword "def" QuestionWord.Def
    ∷ keyword "type" QuestionWord.OfType
    ∷ keyword "at" QuestionWord.At
    ∷ []

-- "`! -`"
abbrev pub unary_op_words : List (Keyword UnaryOp)
unary_op_words = keyword "!" UnaryOp.Not ∷ keyword "-" UnaryOp.Neg ∷ []

-- "`+ - * / % == != < > <= >= && || & | ^`"
abbrev pub binary_op_words : List (Keyword BinaryOp)
binary_op_words =
    keyword "+" BinaryOp.Add
    ∷ keyword "-" BinaryOp.Sub
    ∷ keyword "*" BinaryOp.Mul
    ∷ keyword "/" BinaryOp.Div
    ∷ keyword "%" BinaryOp.Mod
    ∷ keyword "==" BinaryOp.Eq
    ∷ keyword "!=" BinaryOp.Neq
    ∷ keyword "<" BinaryOp.Less
    ∷ keyword ">" BinaryOp.Greater
    ∷ keyword "<=" BinaryOp.LessEqual
    ∷ keyword ">=" BinaryOp.GreaterEqual
    ∷ keyword "&&" BinaryOp.And
    ∷ keyword "||" BinaryOp.Or
    ∷ keyword "&" BinaryOp.BitwiseAnd
    ∷ keyword "|" BinaryOp.BitwiseOr
    ∷ keyword "^" BinaryOp.BitwiseXor
    ∷ []

-- ------------------------------------------------------------------ which word a field is

unfoldable pub line_word_of : Text → Option LineWord
line_word_of = word_in line_words

unfoldable pub scope_word_of : Text → Option ScopeWord
scope_word_of = word_in scope_words

unfoldable pub type_word_of : Text → Option TypeWord
type_word_of = word_in type_words

unfoldable pub definition_word_of : Text → Option DefinitionWord
definition_word_of = word_in definition_words

unfoldable pub origin_word_of : Text → Option OriginWord
origin_word_of = word_in origin_words

unfoldable pub node_word_of : Text → Option NodeWord
node_word_of = word_in node_words

unfoldable pub question_word_of : Text → Option QuestionWord
question_word_of = word_in question_words

-- the operator at a place of its list
unfoldable pub unary_op_at : ℕ → UnaryOp
unary_op_at = word_at unary_op_words UnaryOp.Neg

unfoldable pub binary_op_at : ℕ → BinaryOp
binary_op_at = word_at binary_op_words BinaryOp.BitwiseXor
