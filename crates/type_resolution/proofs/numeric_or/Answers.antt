-- `type_resolution::numeric_or` meets its contract. Assumes nothing.
use Prim.Native.Nat.{ℕ}
use mathlib.Core.List.{List}
use mathlib.Core.Path.{◌≡◌, ap, ◌∙◌}
use Rattle.std.proofs.Common.{rules, tests}
use Rattle.std.specs.Prelude.{Option, None, Some, MatchOption}
use Rattle.resolution.specs.Views.{numeric_context}
use Rattle.type_table.specs.Layout.{table_of}
use Rattle.type_table.specs.Promises.{Reads}
use Rattle.model.specs.Common.{let_some}
use Rattle.type_table.specs.Reads.{numeric_read, numeric_context_read}
use Rattle.type_resolution.specs.Leaves.{NumericOr}
use Rattle.type_resolution.proofs.numeric_or.Goals as goal

numeric_else : (types : List ℕ) (t : ℕ) (context n : Option ℕ) (P : Type 0) (r : ℕ)
    → ((file : List ℕ) → Reads file types (numeric_read t) n) → MatchOption n P (λ x. r ≡ x)
    → (P → (file : List ℕ) → Reads file types (numeric_context_read context) r) → NumericOr types t context r
unfolding numeric_read numeric_context_read
numeric_else types t context None P r is said then = record { same = λ file. (then said file).same ∙ ap (λ o. let_some o (numeric_context (table_of file types) context) (λ n. n)) (is file).same }
numeric_else types t context (Some x) P r is said then = record { same = λ file. said ∙ ap (λ o. let_some o (numeric_context (table_of file types) context) (λ n. n)) (is file).same }

pub returns : goal.returns
returns c = numeric_else _ _ _ c.numeric.result _ _ c.numeric.ensures c.unwrap_or_else.ensures (λ p. search (rules, tests))
