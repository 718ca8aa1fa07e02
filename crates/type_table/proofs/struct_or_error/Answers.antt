-- `type_table::struct_or_error` meets its contract. Assumes nothing.
use Rattle.std.proofs.Common.{rules, tests}
use Rattle.type_table.specs.Meaning.{fields_in}
use Rattle.type_table.specs.Reads.{struct_or_error}
use Rattle.type_table.proofs.Reading.{mapped_or}
use Rattle.type_table.proofs.struct_or_error.Goals as goal

pub returns : goal.returns
unfolding struct_or_error
returns c =
    λ file. record { same = mapped_or (fields_in file c.args.types.now) (λ fields. c.args.t) 4 c.struct_of.result c.map_or.result (c.struct_of.ensures file) (search (rules, tests)) }
