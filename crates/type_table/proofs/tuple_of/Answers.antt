-- `type_table::tuple_of` meets its contract. Assumes nothing.
use Rattle.type_table.proofs.Reading.{tuple_found, tuple_absent}
use Rattle.type_table.proofs.tuple_of.Goals as goal

pub returns-in-Tuple : goal.returns-in-Tuple
returns-in-Tuple c = tuple_found c.data.ensures c.in-Tuple.is

pub returns-in_default : goal.returns-in_default
returns-in_default c = tuple_absent c.data.ensures c.in_default.in_default-own.keys2
