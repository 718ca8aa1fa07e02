-- `records::definition_count` meets its contract. Assumes nothing.
use Rattle.records.proofs.Lists.{row_count}
use Rattle.records.specs.Layout.{definition_row, module_row, definition_rows}
use Rattle.records.proofs.definition_count.Goals as goal

pub returns : goal.returns
unfolding module_row
returns c = λ file. row_count (definition_row file _) _ _ definition_rows _ c.rows_of-rows.ensures.counts
