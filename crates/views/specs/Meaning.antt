-- What the answers of this crate mean. Definitions only.
use Rattle.std.specs.Prelude.{Option, option_map}
use Rattle.views.specs.Reads as reads
use Rattle.views.specs.declared.ScopedType.{ScopedType}
use Rattle.views.specs.declared.Imported.{Imported}

-- the T of a struct literal's field and the scope of the literal, or none
abbrev pub found_field_type_of : Option ScopedType → Option reads.ScopedType
found_field_type_of = option_map (λ found. record { type = found.type_expr; scope = found.scope.0 })

-- a definition of another module, or none: the module's number, and the definition's there
abbrev pub found_import_of : Option Imported → Option reads.Imported
found_import_of = option_map (λ found. record { source = found.source; definition = found.definition.0 })
