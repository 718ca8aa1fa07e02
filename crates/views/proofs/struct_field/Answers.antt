-- `views::struct_field` meets its contract: by the kind. Assumes nothing.
use Rattle.views.proofs.Nodes.{a_struct, other_than_struct}
use Rattle.views.proofs.struct_field.Goals as goal

pub returns-in-Struct : goal.returns-in-Struct
returns-in-Struct c = a_struct _ _ _ _ _ _ c.in-Struct.is c.field_type.ensures

pub returns-in_default : goal.returns-in_default
returns-in_default c =
    other_than_struct c.args.index.now.file.now c.args.index.now.words.now _ c.args.kind c.in_default.in_default-own.keys2
