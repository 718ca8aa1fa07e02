-- `type_table::member_type` meets its contract. Assumes nothing.
use mathlib.Core.Path.{◌∙◌}
use Rattle.std.proofs.Common.{rules, tests}
use Rattle.records.specs.Meaning.{name_of}
use Rattle.resolution.specs.Types.{field_type}
use Rattle.type_table.specs.Meaning.{fields_in}
use Rattle.type_table.specs.Reads.{member_read}
use Rattle.type_table.proofs.Reading.{chained_or}
use Rattle.type_table.proofs.member_type.Goals as goal

pub returns : goal.returns
unfolding member_read
returns c = record {
  same =
      c.unwrap_or.ensures
      ∙ chained_or (fields_in c.args.file.now c.args.types.now) (λ fields. field_type fields (name_of c.args.file.now c.args.name)) 4 c.struct_of.result c.and_then.result (c.struct_of.ensures c.args.file.now) (search (rules, tests));
}
