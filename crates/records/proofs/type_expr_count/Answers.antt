-- `records::type_expr_count` meets its contract. Assumes nothing.
use Rattle.records.proofs.Lists.{row_count}
use Rattle.records.specs.Layout.{type_expr_row, module_row, type_expr_rows}
use Rattle.records.proofs.type_expr_count.Goals as goal

pub returns : goal.returns
unfolding module_row
returns c = λ file. row_count (type_expr_row file _) _ _ type_expr_rows _ c.rows_of-rows.ensures.counts
