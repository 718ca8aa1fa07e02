-- `type_table::intern_tuple` meets its contract. Assumes nothing.
use Rattle.resolution.specs.TableOk.{row_types}
use Rattle.type_table.specs.Layout.{data_from, data_by}
use Rattle.type_table.proofs.Canonicals.{tuple_canonical}
use Rattle.type_table.proofs.intern_tuple.Goals as goal

pub intern-requires-clause-all_below : goal.intern-requires-clause-all_below
unfolding data_from data_by row_types
intern-requires-clause-all_below c =
    c.requires.all_below

pub invariant_of-intern : goal.invariant_of-intern
unfolding data_from data_by row_types
invariant_of-intern c =
    record { canonical = tuple_canonical c.args.file.now c.args.elements.now }

pub returns : goal.returns
unfolding data_from data_by
returns c = c.intern.ensures
