-- `type_table::numeric_context` meets its contract. Assumes nothing.
use mathlib.Core.Path.{◌≡◌, refl, ◌∙◌}
use Prim.Native.Nat.{ℕ}
use Rattle.std.specs.Prelude.{Option, None, Some}
use Rattle.model.specs.Common.{let_some}
use Rattle.resolution.specs.Types.{Table}
use Rattle.std.proofs.Common.{rules, tests}
use Rattle.std.proofs.lemmas.Iterator.Adapters.{option_map_id}
use Rattle.resolution.specs.Views.{numeric, numeric_context}
use Rattle.type_table.specs.Layout.{table_of}
use Rattle.type_table.specs.Reads.{numeric_context_read, numeric_read}
use Rattle.type_table.proofs.Reading.{chained_or}
use Rattle.type_table.proofs.numeric_context.Goals as goal

context_is : (table : Table) (context : Option ℕ) → let_some context 0 (λ t. let_some (numeric table t) 0 (λ u. u)) ≡ numeric_context table context
unfolding numeric_context
context_is table None = refl
context_is table (Some t) = refl

pub returns : goal.returns
unfolding numeric_context_read numeric_read
returns c =
    λ file. record { same = c.unwrap_or.ensures ∙ chained_or (λ t. t) (numeric (table_of file c.args.types.now)) 0 c.args.context c.and_then.result (option_map_id c.args.context) (search (rules, tests)) ∙ context_is (table_of file c.args.types.now) c.args.context }
