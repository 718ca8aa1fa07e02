-- What holds of the table of types in every question: "equal types one number", "an element's number below its holder's", the limits of refusal 9.
-- Assumes nothing.
use Rattle.std.specs.Prelude.{ℕ, ◌≤◌, ◌<◌, ◌≡◌, length}
use mathlib.Core.List.{List, [], ◌∷◌, ◌++◌, map, Memᴰ}
use Rattle.std.specs.Prelude.{Option, None, Some}
use Rattle.std.specs.Prelude.{slice_get}
use Rattle.resolution.specs.TypeData.{TypeData}
use Rattle.resolution.specs.Types.{Table, first_table, table_items, max_types, max_type_items}
use Rattle.resolution.specs.Programs.{Demand, Answer, Said}
use Rattle.resolution.specs.Run.{Outcome, answered, refused}

-- the types inside a row
unfoldable pub row_types : TypeData → List ℕ
row_types TypeData.Felt = []
row_types TypeData.Bool = []
row_types TypeData.U32 = []
row_types TypeData.Unknown = []
row_types TypeData.Error = []
row_types (TypeData.Tuple ts) = ts
row_types (TypeData.Pointer t) = t ∷ []
row_types (TypeData.FixedArray t size) = t ∷ []
row_types (TypeData.Struct m d fields) = map (λ field. field.type) fields
row_types (TypeData.Function m d params t) = t ∷ params

-- a later table of the same question
pub record Extends (table after : Table) : Type 0 where
  pub more : Table
  pub is_more : after ≡ table ++ more

pub record TableOk (table : Table) : Type 0 where
  pub start : Extends first_table table
  -- an element's number is below its holder's
  pub lower : (k t : ℕ) (row : TypeData) → slice_get table k ≡ Some row → Memᴰ t (row_types row) → t < k
  -- equal types one number
  pub one_number : (j k : ℕ) (row : TypeData) → slice_get table j ≡ Some row → slice_get table k ≡ Some row → j ≡ k
  pub few_types : length table ≤ max_types
  pub few_items : table_items table ≤ max_type_items

-- the number of a type of the table
abbrev pub Below : Table → ℕ → Type 0
Below table t = t < length table

abbrev pub OptionBelow : Table → Option ℕ → Type 0
OptionBelow table None = Unit {0}
OptionBelow table (Some t) = Below table t

-- a demand's context is a type of the table
abbrev pub DemandOk : Table → Demand → Type 0
DemandOk table (Demand.type m t s) = Unit {0}
DemandOk table (Demand.definition m d) = Unit {0}
DemandOk table (Demand.expression m e context) = OptionBelow table context
DemandOk table (Demand.struct m d) = Unit {0}
DemandOk table (Demand.signature m d) = Unit {0}

-- an answer is a type of the table
abbrev pub AnswerOk : (d : Demand) → Table → Answer d → Type 0
AnswerOk (Demand.type m t s) table a = Below table a
AnswerOk (Demand.definition m d) table a = Below table a
AnswerOk (Demand.expression m e context) table a = Below table a
AnswerOk (Demand.struct m d) table a = OptionBelow table a
AnswerOk (Demand.signature m d) table a = OptionBelow table a

-- the type that a line says is a type of the table; a word has at most five bytes
abbrev pub SaidOk : Table → Said → Type 0
SaidOk table (Said.type t) = Below table t
SaidOk table (Said.word word) = length word ≤ 5
SaidOk table Said.nothing = Unit {0}

-- an answer with a table that is as it should be, or a refusal from 6 to 9
abbrev pub OutcomeOk : {A : Type 0} → (Table → A → Type 0) → Table → Outcome A → Type 0
OutcomeOk Good table (answered a after) = TableOk after × Extends table after × Good after a
OutcomeOk Good table (refused n) = (6 ≤ n) × (n ≤ 9)
