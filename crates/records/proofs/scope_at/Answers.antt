-- `records::scope_at` meets its contract: the number is below the count of rows, or not. Assumes nothing.
use Rattle.std.proofs.Common.{rules}
use Rattle.records.proofs.Lists.{then_row}
use Rattle.records.specs.Layout.{scope_row, module_row, scope_rows}
use Rattle.records.specs.Meaning.{scope_of}
use Rattle.records.proofs.scope_at.Goals as goal

pub returns : goal.returns
unfolding module_row
returns c = λ file. then_row scope_of (scope_row c.args.words.now) c.rows_of-rows.result.first _ _ _ (λ x answers. search rules) _ _ scope_rows c.rows_of-rows.ensures.begins c.rows_of-rows.ensures.counts _ c.then.ensures.variant c.then.ensures.some
