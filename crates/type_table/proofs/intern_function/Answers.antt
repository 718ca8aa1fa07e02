-- `type_table::intern_function` meets its contract. Assumes nothing.
use Rattle.resolution.specs.TableOk.{row_types}
use Rattle.type_table.specs.Layout.{data_from, data_by}
use Rattle.type_table.proofs.Canonicals.{function_canonical, below_cons}
use Rattle.type_table.proofs.intern_function.Goals as goal

pub intern-requires-clause-all_below : goal.intern-requires-clause-all_below
unfolding data_from data_by row_types
intern-requires-clause-all_below c =
    below_cons _ _ c.args.params.now c.requires.return_type_bound c.requires.all_below

pub invariant_of-intern : goal.invariant_of-intern
unfolding data_from data_by row_types
invariant_of-intern c =
    record { canonical = function_canonical c.args.file.now c.args.m c.args.d c.args.return_type c.args.params.now }

pub returns : goal.returns
unfolding data_from data_by
returns c = c.intern.ensures
