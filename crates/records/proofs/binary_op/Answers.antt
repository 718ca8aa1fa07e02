-- `records::binary_op` meets its contract: the table's operator at the number, and the last past it. Assumes nothing.
use mathlib.Core.Path.{refl}
use mathlib.Core.List.{List, [], ◌∷◌}
use Rattle.std.proofs.Common.{rules}
use Rattle.records.proofs.Options.{option_mapped}
use Rattle.records.specs.Layout.{binary_op_by}
use Rattle.records.specs.Meaning.{binary_op_of}
use Rattle.records.specs.declared.BinaryOp.{BinaryOp}
use Rattle.records.proofs.binary_op.Goals as goal

-- the constant of the code
abbrev table : List BinaryOp
table = BinaryOp.Add ∷ BinaryOp.Sub ∷ BinaryOp.Mul ∷ BinaryOp.Div ∷ BinaryOp.Mod ∷ BinaryOp.Eq ∷ BinaryOp.Neq ∷ BinaryOp.Less ∷ BinaryOp.Greater ∷ BinaryOp.LessEqual ∷ BinaryOp.GreaterEqual ∷ BinaryOp.And ∷ BinaryOp.Or ∷ BinaryOp.BitwiseAnd ∷ BinaryOp.BitwiseOr ∷ BinaryOp.BitwiseXor ∷ []

pub returns : goal.returns
unfolding binary_op_by
returns c = option_mapped binary_op_of table _ _ _ BinaryOp.BitwiseXor _ (search rules) refl refl
