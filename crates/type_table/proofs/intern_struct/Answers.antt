-- `type_table::intern_struct` meets its contract. Assumes nothing.
use mathlib.Core.Path.{sym, subst, ◌∙◌}
use lib.ListN.{take}
use lib.Seq.{length-take-le}
use Rattle.type_table.specs.Layout.{data_from, data_by}
use Rattle.resolution.specs.TableOk.{row_types}
use Rattle.type_table.specs.Promises.{Interns}
use Rattle.type_table.proofs.Canonicals.{struct_canonical, struct_below, struct_row}
use native.Mathlib.Omega.{arith}
use Rattle.type_table.proofs.intern_struct.Goals as goal

pub intern-requires-clause-all_below : goal.intern-requires-clause-all_below
unfolding data_from data_by row_types
intern-requires-clause-all_below c =
    let same = length-take-le c.args.fields.count c.copy_names.new.names (omega (arith, c.copy_names.ensures.same_length, c.requires.elements_len.1)) ∙ sym c.requires.elements_len.0 in struct_below _ c.args.index.now.file.now (take c.args.fields.count c.copy_names.new.names) c.args.elements.now same c.requires.all_below

pub invariant_of-intern : goal.invariant_of-intern
unfolding data_from data_by row_types
invariant_of-intern c =
    let same = length-take-le c.args.fields.count c.copy_names.new.names (omega (arith, c.copy_names.ensures.same_length, c.requires.elements_len.1)) ∙ sym c.requires.elements_len.0 in record { canonical = struct_canonical c.args.index.now.file.now c.args.m c.args.d (take c.args.fields.count c.copy_names.new.names) c.args.elements.now same }

pub returns : goal.returns
returns c =
    subst (λ row. Interns c.args.index.now.file.now row c.args.types.now c.intern.new.types c.intern.result)
    (struct_row c.args.index.now.file.now c.args.index.now.words.now c.args.fields.first c.args.fields.count c.args.m c.args.d c.copy_names.new.names c.args.elements.now (omega (arith, c.copy_names.ensures.same_length, c.requires.elements_len.1)) c.copy_names.ensures.inside)
    c.intern.ensures
