-- The number of a word in a row: its place in the list of its words (document 01's; of questions, those of the change requests behind them). Assumes nothing.
use Rattle.std.specs.Prelude.{ℕ}
use Rattle.format.specs.declared.ScopeWord.{ScopeWord}
use Rattle.format.specs.declared.TypeWord.{TypeWord}
use Rattle.format.specs.declared.DefinitionWord.{DefinitionWord}
use Rattle.format.specs.declared.OriginWord.{OriginWord}
use Rattle.format.specs.declared.NodeWord.{NodeWord}
use Rattle.format.specs.declared.QuestionWord.{QuestionWord}

abbrev pub scope_number : ScopeWord → ℕ
scope_number ScopeWord.Module = 0
scope_number ScopeWord.Function = 1
scope_number ScopeWord.Block = 2
scope_number ScopeWord.Loop = 3

abbrev pub type_number : TypeWord → ℕ
type_number TypeWord.Felt = 0
type_number TypeWord.Bool = 1
type_number TypeWord.U32 = 2
type_number TypeWord.Custom = 3
type_number TypeWord.Ptr = 4
type_number TypeWord.Tuple = 5
type_number TypeWord.Array = 6

abbrev pub definition_number : DefinitionWord → ℕ
definition_number DefinitionWord.Fn = 0
definition_number DefinitionWord.Struct = 1
definition_number DefinitionWord.Const = 2
definition_number DefinitionWord.Let = 3
definition_number DefinitionWord.Param = 4
definition_number DefinitionWord.Use = 5
definition_number DefinitionWord.Loop = 6

abbrev pub origin_number : OriginWord → ℕ
origin_number OriginWord.Plain = 0
origin_number OriginWord.Field = 1
origin_number OriginWord.Arg = 2
origin_number OriginWord.Assign = 3
origin_number OriginWord.Return = 4
origin_number OriginWord.Cond = 5

abbrev pub node_number : NodeWord → ℕ
node_number NodeWord.Lit = 0
node_number NodeWord.Bool = 1
node_number NodeWord.Ident = 2
node_number NodeWord.Un = 3
node_number NodeWord.Bin = 4
node_number NodeWord.Call = 5
node_number NodeWord.Member = 6
node_number NodeWord.Index = 7
node_number NodeWord.Slit = 8
node_number NodeWord.Tuple = 9
node_number NodeWord.Tidx = 10
node_number NodeWord.Arr = 11
node_number NodeWord.Rep = 12
node_number NodeWord.Cast = 13
node_number NodeWord.New = 14
node_number NodeWord.Paren = 15

abbrev pub question_number : QuestionWord → ℕ
question_number QuestionWord.Expr = 0
question_number QuestionWord.Def = 1
question_number QuestionWord.OfType = 2
question_number QuestionWord.At = 3
