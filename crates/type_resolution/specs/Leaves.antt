-- What the small functions beside the cycle promise, each as a record of its own: its parameters are then found by unification.
-- Definitions only.
use Rattle.std.specs.Prelude.{◌≡◌, ℕ, ◌<◌, Bool, List}
use Rattle.std.specs.Prelude.{Option, None, Some}
use Rattle.std.specs.Prelude.{if◌then◌else◌}
use Rattle.model.specs.Common.{let_some}
use Rattle.model.specs.Lookups.{module_at, type_expr_at, definition_at, expression_at}
use Rattle.records.specs.Layout.{index_of, module_row}
use Rattle.records.specs.Meaning.{found_type_expr_of, found_definition_of, found_expression_of}
use Rattle.records.specs.declared.TypeExpr.{TypeExpr}
use Rattle.records.specs.declared.Definition.{Definition}
use Rattle.records.specs.declared.ExpressionInfo.{ExpressionInfo}
use Rattle.resolution.specs.Types.{Table}
use Rattle.resolution.specs.Views.{numeric, numeric_context}
use Rattle.type_table.specs.Layout.{table_of, type_count}
use Rattle.type_table.specs.Reads.{param_read, return_read}

-- ------------------------------------------------------------------ a record of a module, none where there is no such module

pub record TypeIn (words : List ℕ) (m t : ℕ) (r : Option TypeExpr) : Type 0 where
  pub there : Bool
  pub module_is : (file : List ℕ) → module_at (index_of file words) m ≡ (if there then Some (module_row file words m) else None)
  pub same : (file : List ℕ) → found_type_expr_of file words r ≡ (if there then type_expr_at (module_row file words m) t else None)

pub record DefinitionIn (words : List ℕ) (m d : ℕ) (r : Option Definition) : Type 0 where
  pub there : Bool
  pub module_is : (file : List ℕ) → module_at (index_of file words) m ≡ (if there then Some (module_row file words m) else None)
  pub same : (file : List ℕ) → found_definition_of file words r ≡ (if there then definition_at (module_row file words m) d else None)

pub record ExpressionIn (words : List ℕ) (m e : ℕ) (r : Option ExpressionInfo) : Type 0 where
  pub there : Bool
  pub module_is : (file : List ℕ) → module_at (index_of file words) m ≡ (if there then Some (module_row file words m) else None)
  pub same : (file : List ℕ) → found_expression_of file words r ≡ (if there then expression_at (module_row file words m) e else None)

-- ------------------------------------------------------------------ results

-- what is read of a signature, where there is one
abbrev pub read_of : (ℕ → Table → Option ℕ) → Option ℕ → Table → Option ℕ
read_of read signature table = let_some signature None (λ t. read t table)

pub record Passed (types : List ℕ) (signature : Option ℕ) (i : ℕ) (r : Option ℕ) : Type 0 where
  pub same : (file : List ℕ) → r ≡ read_of (λ t. param_read t i) signature (table_of file types)

pub record Returned (types : List ℕ) (signature : Option ℕ) (r : Option ℕ) : Type 0 where
  pub same : (file : List ℕ) → r ≡ read_of return_read signature (table_of file types)

pub record NumericOr (types : List ℕ) (t : ℕ) (context : Option ℕ) (r : ℕ) : Type 0 where
  pub same : (file : List ℕ)
      → r ≡ let_some (numeric (table_of file types) t) (numeric_context (table_of file types) context) (λ n. n)

-- ------------------------------------------------------------------ a hint

-- the element type that a context gave is a type of the table
abbrev pub HintBelow : List ℕ → Option ℕ → Type 0
HintBelow types None = Unit {0}
HintBelow types (Some t) = t < type_count types
