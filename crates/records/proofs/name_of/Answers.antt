-- `records::name_of` meets its contract. Assumes nothing.
use mathlib.Core.Path.{refl}
use Rattle.records.specs.Layout.{name_by}
use Rattle.records.proofs.name_of.Goals as goal

pub returns : goal.returns
unfolding name_by
returns c = λ file. refl
