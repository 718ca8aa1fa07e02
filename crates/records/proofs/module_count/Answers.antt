-- `records::module_count` meets its contract. Assumes nothing.
use mathlib.Core.Path.{sym, ◌∙◌}
use Rattle.records.proofs.Lists.{each_length}
use Rattle.records.specs.Layout.{module_row, index_of}
use Rattle.records.proofs.module_count.Goals as goal

pub returns : goal.returns
unfolding index_of
returns c = λ file. c.word_at.ensures ∙ sym (each_length (module_row file _) 0 _)
