-- `type_table::navigate` meets its contract. Assumes nothing.
use mathlib.Core.Path.{sym, ap, ◌∙◌}
use Rattle.type_table.specs.Layout.{table_of}
use Rattle.type_table.specs.Meaning.{found_types_of}
use Rattle.type_table.specs.Reads.{navigate_read}
use Rattle.type_table.proofs.Reading.{path_end, path_no_tuple, path_no_element, path_on}
use native.Mathlib.Omega.{arith}
use Rattle.type_table.proofs.navigate.Goals as goal

pub returns-in_default : goal.returns-in_default
unfolding navigate_read
returns-in_default c =
    λ file. record { same = path_no_tuple c.args.words.now (table_of file c.args.types.now) c.loop-i.at c.args.path.first c.args.path.count c.loop-i.i (omega arith) (c.tuple_of.ensures.same file) (ap (found_types_of c.args.types.now) c.in_default.is) ∙ sym (c.loop-i.invariant.1 file) }

pub returns-in_default-item : goal.returns-in_default-item
unfolding navigate_read
returns-in_default-item c =
    λ file. record { same = path_no_element c.args.words.now (table_of file c.args.types.now) c.loop-i.at c.args.path.first c.args.path.count c.loop-i.i (omega arith) (c.tuple_of.ensures.same file) (ap (found_types_of c.args.types.now) c.in-Some.is) c.item.ensures c.item_value-index.ensures c.in_default-item.is ∙ sym (c.loop-i.invariant.1 file) }

pub loop-i-preserved : goal.loop-i-preserved
loop-i-preserved c =
    (omega arith, λ file. c.loop-i.invariant.1 file ∙ path_on c.args.words.now (table_of file c.args.types.now) c.loop-i.at c.args.path.first c.args.path.count c.loop-i.i (omega arith) (c.tuple_of.ensures.same file) (ap (found_types_of c.args.types.now) c.in-Some.is) c.item.ensures c.item_value-index.ensures c.in-Some-item.is)

pub returns : goal.returns
unfolding navigate_read
returns c =
    λ file. record { same = sym (c.loop-i.invariant.1 file ∙ path_end c.args.words.now (table_of file c.args.types.now) c.loop-i.at c.args.path.first c.args.path.count c.loop-i.i (omega arith)) }
