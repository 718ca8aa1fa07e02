-- `fields::unary_op_at` meets its contract: the map is right for the table. Assumes nothing.
use mathlib.Core.Path.{refl}
use lib.ListN.{drop}
use Rattle.model.specs.Common.{eq_numbers}
use Rattle.words.proofs.Tables.{maps_from}
use Rattle.fields.proofs.Slots.{unary_op_is}
use Rattle.fields.proofs.unary_op_at.Goals as goal

pub returns : goal.returns
unfolding maps_from eq_numbers
returns c = unary_op_is (drop c.args.from c.args.file.now) _ _ _ c.operator_at.ensures refl
