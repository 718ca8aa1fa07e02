-- `records::has_module` meets its contract. Assumes nothing.
use lib.Dec.{ltb}
use mathlib.Core.Path.{sym, ap}
use Rattle.records.proofs.Lists.{each_if}
use Rattle.records.specs.Layout.{module_row, index_of}
use Rattle.records.proofs.has_module.Goals as goal

pub returns : goal.returns
unfolding index_of
returns c = λ file. each_if (module_row file _) _ _ _ (ap (ltb _) (sym c.word_at.ensures))
