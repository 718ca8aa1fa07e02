-- `type_table::intern_array` meets its contract. Assumes nothing.
use mathlib.Core.List.{[]}
use Rattle.resolution.specs.TableOk.{row_types}
use Rattle.type_table.specs.Layout.{data_from, data_by}
use Rattle.type_table.proofs.Canonicals.{array_canonical, below_cons, below_none}
use Rattle.type_table.proofs.intern_array.Goals as goal

pub intern-requires-clause-all_below : goal.intern-requires-clause-all_below
unfolding data_from data_by row_types
intern-requires-clause-all_below c =
    below_cons _ _ [] c.requires.element_bound (below_none _)

pub invariant_of-intern : goal.invariant_of-intern
unfolding data_from data_by row_types
invariant_of-intern c =
    record { canonical = array_canonical c.args.file.now c.args.element c.args.size }

pub returns : goal.returns
unfolding data_from data_by
returns c = c.intern.ensures
