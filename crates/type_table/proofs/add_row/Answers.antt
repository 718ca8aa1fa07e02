-- `type_table::add_row` meets its contract. Assumes nothing.
use native.Mathlib.Omega.{arith}
use Rattle.type_table.proofs.Grow.{added, names_few}
use Rattle.type_table.proofs.add_row.Goals as goal

pub copy_to-requires-3 : goal.copy_to-requires-3
copy_to-requires-3 c =
    let new = c.args.new.now in
    omega (arith, names_few new.file.now new.head new.names.now new.items.now new.canonical, c.copy_to.ensures.same_length, c.copy_to-2.ensures.same_length)

pub returns : goal.returns
returns c =
    let new = c.args.new.now in
    added new.head new.names.now new.items.now c.args.types.now c.copy_to.new.words c.copy_to-2.new.words c.copy_to-3.new.words c.requires.in_bounds c.requires.types_bound c.requires.bound
    (names_few new.file.now new.head new.names.now new.items.now new.canonical) c.copy_to.ensures c.copy_to-2.ensures c.copy_to-3.ensures
