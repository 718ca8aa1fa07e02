-- `records::scope_count` meets its contract. Assumes nothing.
use Rattle.records.proofs.Lists.{row_count}
use Rattle.records.specs.Layout.{scope_row, module_row, scope_rows}
use Rattle.records.proofs.scope_count.Goals as goal

pub returns : goal.returns
unfolding module_row
returns c = λ file. row_count (scope_row _) _ _ scope_rows _ c.rows_of-rows.ensures.counts
