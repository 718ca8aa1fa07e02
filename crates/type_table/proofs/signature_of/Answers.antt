-- `type_table::signature_of` meets its contract. Assumes nothing.
use Rattle.type_table.proofs.Reading.{signature_found, signature_absent}
use Rattle.type_table.proofs.signature_of.Goals as goal

pub returns-in-Function : goal.returns-in-Function
returns-in-Function c = signature_found c.data.ensures c.in-Function.is

pub returns-in_default : goal.returns-in_default
returns-in_default c = signature_absent c.data.ensures c.in_default.in_default-own.keys2
