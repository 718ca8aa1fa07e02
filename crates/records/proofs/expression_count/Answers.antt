-- `records::expression_count` meets its contract. Assumes nothing.
use Rattle.records.proofs.Lists.{row_count}
use Rattle.records.specs.Layout.{expression_row, module_row, expression_rows}
use Rattle.records.proofs.expression_count.Goals as goal

pub returns : goal.returns
unfolding module_row
returns c = λ file. row_count (expression_row file _) _ _ expression_rows _ c.rows_of-rows.ensures.counts
