-- `type_table::element_type` meets its contract. Assumes nothing.
use Rattle.type_table.proofs.Reading.{element_in_array, element_in_pointer, element_absent}
use Rattle.type_table.proofs.element_type.Goals as goal

pub returns-in-FixedArray : goal.returns-in-FixedArray
returns-in-FixedArray c = element_in_array c.data.ensures c.in-FixedArray.is

pub returns-in-Pointer : goal.returns-in-Pointer
returns-in-Pointer c = element_in_pointer c.data.ensures c.in-Pointer.is

pub returns-in_default : goal.returns-in_default
returns-in_default c = element_absent c.data.ensures c.in_default.in_default-own.keys3
