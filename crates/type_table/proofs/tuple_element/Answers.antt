-- `type_table::tuple_element` meets its contract. Assumes nothing.
use mathlib.Core.Path.{◌∙◌}
use Rattle.std.specs.Prelude.{slice_get}
use Rattle.std.proofs.Common.{rules, tests}
use Rattle.type_table.specs.Layout.{types_of}
use Rattle.type_table.specs.Reads.{tuple_element_read}
use Rattle.type_table.proofs.Reading.{chained_or}
use Rattle.type_table.proofs.tuple_element.Goals as goal

pub returns : goal.returns
unfolding tuple_element_read
returns c =
    λ file. record {
      same =
          c.unwrap_or.ensures
          ∙ chained_or (types_of c.args.types.now) (λ elements. slice_get elements c.args.i) 4 c.tuple_of.result c.and_then.result (c.tuple_of.ensures.same file) (search (rules, tests));
    }
