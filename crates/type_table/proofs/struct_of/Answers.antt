-- `type_table::struct_of` meets its contract. Assumes nothing.
use Rattle.type_table.proofs.Reading.{struct_found, struct_absent}
use Rattle.type_table.proofs.struct_of.Goals as goal

pub returns-in-Struct : goal.returns-in-Struct
returns-in-Struct c = struct_found c.data.ensures c.in-Struct.is

pub returns-in_default : goal.returns-in_default
returns-in_default c = struct_absent c.data.ensures c.in_default.in_default-own.keys2
