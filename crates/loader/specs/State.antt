-- What the words hold while the lines are read: rows, and the counts beside them. Assumes nothing.
use Rattle.std.specs.Prelude.{ℕ, suc, ◌+◌, ◌-◌, ◌≤◌, ◌<◌, ◌≡◌, List, Bool, eqb, ltb, length}
use Rattle.std.specs.Prelude.{if◌then◌else◌}
use Rattle.model.specs.Common.{Text}
use Rattle.model.specs.Records.{Module, Index}
use Rattle.format.specs.declared.LineWord.{LineWord}
use Rattle.format.specs.Lines.{Entry, a_module, a_scope, a_type, a_definition, an_expression, a_question}
use Rattle.format.specs.FirstPass.{Seen, stage_of}
use Rattle.records.specs.Layout.{
  module_place,
  scope_place,
  type_expr_place,
  definition_place,
  expression_place,
  question_place,
  item_place,
  word,
  each,
  name_by,
  scope_row,
  type_expr_row,
  definition_row,
  expression_row,
  question_row,
  scope_rows,
  type_expr_rows,
  definition_rows,
  expression_rows,
  begin_of,
  end_of,
}
use Rattle.records.specs.Promises.{Same}
use Rattle.loader.specs.declared.rows.Counts.{Counts}

-- ------------------------------------------------------------------ the index so far

-- where a module's rows of a kind end: the last module's are all that there are so far
abbrev pub end_so_far : ℕ → ℕ → List ℕ → ℕ → ℕ → ℕ
end_so_far total modules words m k = if eqb (suc m) modules then total else end_of words m k

unfoldable pub rows_so_far : {A : Type 0} → (ℕ → A) → ℕ → ℕ → List ℕ → ℕ → ℕ → List A
rows_so_far row total modules words m k = each row (begin_of words m k) (end_so_far total modules words m k - begin_of words m k)

-- the first numbers: how many modules, scopes, type expressions, definitions and expressions there are
unfoldable pub module_by : Text → List ℕ → ℕ → ℕ → ℕ → ℕ → ℕ → ℕ → Module
module_by file words modules scopes types definitions expressions m =
    record {
      name = name_by file (word words (module_place m));
      scopes = rows_so_far (scope_row words) scopes modules words m scope_rows;
      types = rows_so_far (type_expr_row file words) types modules words m type_expr_rows;
      definitions = rows_so_far (definition_row file words) definitions modules words m definition_rows;
      expressions = rows_so_far (expression_row file words) expressions modules words m expression_rows;
    }

abbrev pub module_so_far : Text → List ℕ → Counts → ℕ → Module
module_so_far file words n m = module_by file words n.modules n.scopes n.types n.definitions n.expressions m

unfoldable pub index_so_far : ℕ → Text → List ℕ → Counts → Index
index_so_far version file words n =
    record {
      version = version;
      modules = each (module_so_far file words n) 0 n.modules;
      questions = each (question_row words) 0 n.questions;
    }

abbrev pub seen_as : ℕ → Text → List ℕ → Counts → Seen
seen_as version file words n = record { stage = n.stage; index = index_so_far version file words n }

-- ------------------------------------------------------------------ the next row of a kind

unfoldable pub row_entry : LineWord → Text → List ℕ → Counts → Entry
row_entry LineWord.M file words n = a_module (name_by file (word words (module_place n.modules)))
row_entry LineWord.S file words n = a_scope (scope_row words n.scopes)
row_entry LineWord.T file words n = a_type (type_expr_row file words n.types)
row_entry LineWord.D file words n = a_definition (definition_row file words n.definitions)
row_entry LineWord.E file words n = an_expression (expression_row file words n.expressions)
row_entry LineWord.Q file words n = a_question (question_row words n.questions)

-- where a module's rows begin: behind those that there are
pub record BeginsAt (words : List ℕ) (m : ℕ) (n : Counts) : Type 0 where
  pub scopes : begin_of words m scope_rows ≡ n.scopes
  pub types : begin_of words m type_expr_rows ≡ n.types
  pub definitions : begin_of words m definition_rows ≡ n.definitions
  pub expressions : begin_of words m expression_rows ≡ n.expressions

abbrev pub Begins : LineWord → List ℕ → Counts → Type 0
Begins LineWord.M words n = BeginsAt words n.modules n
Begins LineWord.S words n = Unit {0}
Begins LineWord.T words n = Unit {0}
Begins LineWord.D words n = Unit {0}
Begins LineWord.E words n = Unit {0}
Begins LineWord.Q words n = Unit {0}

-- ------------------------------------------------------------------ room, and what a store leaves

-- the words of all rows that are counted are the same
pub record Left (n : Counts) (words words' : List ℕ) : Type 0 where
  pub long : length words' ≡ length words
  pub modules : Same words words' (module_place 0) (module_place n.modules)
  pub scopes : Same words words' (scope_place 0) (scope_place n.scopes)
  pub types : Same words words' (type_expr_place 0) (type_expr_place n.types)
  pub definitions : Same words words' (definition_place 0) (definition_place n.definitions)
  pub expressions : Same words words' (expression_place 0) (expression_place n.expressions)
  pub questions : Same words words' (question_place 0) (question_place n.questions)
  pub items : Same words words' (item_place 0) (item_place n.items)

-- a file that is not too long, words enough, and counts within document 01's limits
pub record Fine (file words : List ℕ) (n : Counts) : Type 0 where
  pub short : length file ≤ 65536
  pub room : length words ≡ 16384
  pub modules : n.modules ≤ 8
  pub scopes : n.scopes ≤ 128
  pub types : n.types ≤ 512
  pub definitions : n.definitions ≤ 256
  pub expressions : n.expressions ≤ 512
  pub questions : n.questions ≤ 256
  pub items : n.items ≤ 2048

-- ------------------------------------------------------------------ the counts with one line more

abbrev pub counts_after : LineWord → Counts → ℕ → Counts
counts_after LineWord.M n count =
    record { stage = stage_of LineWord.M; modules = n.modules + 1; scopes = n.scopes; types = n.types; definitions = n.definitions; expressions = n.expressions; questions = n.questions; items = n.items + count }
counts_after LineWord.S n count =
    record { stage = stage_of LineWord.S; modules = n.modules; scopes = n.scopes + 1; types = n.types; definitions = n.definitions; expressions = n.expressions; questions = n.questions; items = n.items + count }
counts_after LineWord.T n count =
    record { stage = stage_of LineWord.T; modules = n.modules; scopes = n.scopes; types = n.types + 1; definitions = n.definitions; expressions = n.expressions; questions = n.questions; items = n.items + count }
counts_after LineWord.D n count =
    record { stage = stage_of LineWord.D; modules = n.modules; scopes = n.scopes; types = n.types; definitions = n.definitions + 1; expressions = n.expressions; questions = n.questions; items = n.items + count }
counts_after LineWord.E n count =
    record { stage = stage_of LineWord.E; modules = n.modules; scopes = n.scopes; types = n.types; definitions = n.definitions; expressions = n.expressions + 1; questions = n.questions; items = n.items + count }
counts_after LineWord.Q n count =
    record { stage = stage_of LineWord.Q; modules = n.modules; scopes = n.scopes; types = n.types; definitions = n.definitions; expressions = n.expressions; questions = n.questions + 1; items = n.items + count }

-- there is room for one more line of the kind
abbrev pub HasRoom : LineWord → Counts → Type 0
HasRoom LineWord.M n = n.modules < 8
HasRoom LineWord.S n = n.scopes < 128
HasRoom LineWord.T n = n.types < 512
HasRoom LineWord.D n = n.definitions < 256
HasRoom LineWord.E n = n.expressions < 512
HasRoom LineWord.Q n = n.questions < 256

abbrev pub has_room : LineWord → Counts → Bool
has_room LineWord.M n = ltb n.modules 8
has_room LineWord.S n = ltb n.scopes 128
has_room LineWord.T n = ltb n.types 512
has_room LineWord.D n = ltb n.definitions 256
has_room LineWord.E n = ltb n.expressions 512
has_room LineWord.Q n = ltb n.questions 256
