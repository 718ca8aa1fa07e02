-- `type_table::array_of` meets its contract. Assumes nothing.
use Rattle.type_table.proofs.Reading.{array_found, array_absent}
use Rattle.type_table.proofs.array_of.Goals as goal

pub returns-in-FixedArray : goal.returns-in-FixedArray
returns-in-FixedArray c = array_found c.data.ensures c.in-FixedArray.is

pub returns-in_default : goal.returns-in_default
returns-in_default c = array_absent c.data.ensures c.in_default.in_default-own.keys2
