-- `records::unary_op` meets its contract: the table's operator at the number, and the last past it. Assumes nothing.
use mathlib.Core.Path.{refl}
use mathlib.Core.List.{List, [], ◌∷◌}
use Rattle.std.proofs.Common.{rules}
use Rattle.records.proofs.Options.{option_mapped}
use Rattle.records.specs.Layout.{unary_op_by}
use Rattle.records.specs.Meaning.{unary_op_of}
use Rattle.records.specs.declared.UnaryOp.{UnaryOp}
use Rattle.records.proofs.unary_op.Goals as goal

-- the constant of the code
abbrev table : List UnaryOp
table = UnaryOp.Not ∷ UnaryOp.Neg ∷ []

pub returns : goal.returns
unfolding unary_op_by
returns c = option_mapped unary_op_of table _ _ _ UnaryOp.Neg _ (search rules) refl refl
