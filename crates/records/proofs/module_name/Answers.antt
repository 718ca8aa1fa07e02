-- `records::module_name` meets its contract. Assumes nothing.
use mathlib.Core.Path.{ap, ◌∙◌}
use Rattle.records.specs.Layout.{name_by, module_row}
use Rattle.records.proofs.module_name.Goals as goal

pub returns : goal.returns
unfolding module_row
returns c = λ file. c.name_of.ensures file ∙ ap (name_by file) c.word_at.ensures
