-- The rows of the operators as the code has them. Definitions only; assumes nothing.
use Rattle.std.specs.Prelude.{ℕ, Bool, ◌&&◌, eqb}
use Rattle.model.specs.Records.{UnaryOp, BinaryOp}
use Rattle.records.specs.Meaning.{unary_op_of, binary_op_of}
use Rattle.resolution.specs.Types.{Table}
use Rattle.resolution.specs.Compatible.{UnaryOpSignature, OperatorSignature, unary_number, binary_number, are_types_compatible}
use Rattle.compatibility.specs.declared.UnaryRow.{UnaryRow}
use Rattle.compatibility.specs.declared.BinaryRow.{BinaryRow}

-- what a row of the code means
abbrev pub unary_signature_of : UnaryRow → UnaryOpSignature
unary_signature_of row = record { op = unary_op_of row.op; operand = row.operand; result = row.result }

abbrev pub binary_signature_of : BinaryRow → OperatorSignature
binary_signature_of row = record { op = binary_op_of row.op; left = row.left; right = row.right; result = row.result }

-- the definition's test of a row
abbrev pub unary_row_fits : Table → UnaryOp → ℕ → UnaryOpSignature → Bool
unary_row_fits table op operand row = eqb (unary_number row.op) (unary_number op) && are_types_compatible table operand row.operand

abbrev pub binary_row_fits : Table → BinaryOp → ℕ → ℕ → OperatorSignature → Bool
binary_row_fits table op left right row =
    eqb (binary_number row.op) (binary_number op)
    && (are_types_compatible table left row.left && are_types_compatible table right row.right)
