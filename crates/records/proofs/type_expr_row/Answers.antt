-- `records::type_expr_row` meets its contract: its four words. Assumes nothing.
use mathlib.Core.Path.{◌∙◌}
use Rattle.records.proofs.Congruence.{ap₄}
use Rattle.records.specs.Layout.{type_expr_by, type_expr_row}
use Rattle.records.proofs.type_expr_row.Goals as goal

pub returns : goal.returns
unfolding type_expr_row
returns c = λ file. c.type_expr_of.ensures file _ ∙ ap₄ (type_expr_by file _) c.word_at-kind.ensures c.word_at-a.ensures c.word_at-b.ensures c.word_at-c.ensures
