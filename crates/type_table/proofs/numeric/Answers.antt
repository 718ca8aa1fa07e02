-- `type_table::numeric` meets its contract. Assumes nothing.
use borrow.Enum.Refused.{shut}
use Rattle.type_table.proofs.Reading.{numeric_found, numeric_absent}
use Rattle.type_table.proofs.numeric.Goals as goal

pub returns-in-Felt : goal.returns-in-Felt
returns-in-Felt c = numeric_found c.data.ensures (shut c.in-Felt.in-Felt-own.keys1)

pub returns-in_default : goal.returns-in_default
returns-in_default c = numeric_absent c.data.ensures c.in_default.in_default-own.keys2
