-- What a resolution function reads of the records up to its first demand, as its parts in `TypeResolution` say. Definitions only.
use Rattle.std.specs.Prelude.{ℕ}
use Rattle.std.specs.Prelude.{Option, None, Some}
use Rattle.model.specs.Common.{let_some}
use Rattle.model.specs.Records.{Name, Module, Index}
use Rattle.model.specs.Lookups.{
  module_at,
  definition_at,
  expression_at,
  module_by_name,
  root_scope,
  latest_definition_index_by_name,
  resolve_name_at_position,
  definition_for_identifier_expr,
  expression_at_position,
}
use Rattle.resolution.specs.Views.{as_identifier, as_struct_literal, struct_field}

-- a T of a module, and the scope that it is resolved in
pub record ScopedType : Type 0 where
  pub type : ℕ
  pub scope : ℕ

-- a definition of another module: the module's number, and the definition's there
pub record Imported : Type 0 where
  pub source : ℕ
  pub definition : ℕ

-- `argument_context` up to its demand: the definition that the callee records, if the callee is an identifier
unfoldable pub argument_definition : Module → ℕ → Option ℕ
argument_definition the_module callee =
    let_some (expression_at the_module callee) None λ callee_info.
    let_some (as_identifier callee_info.node) None λ name. definition_for_identifier_expr the_module callee

-- `field_context` up to its demand: the T of the literal's field, in the literal's scope
unfoldable pub field_type_expr : Module → ℕ → Name → Option ScopedType
field_type_expr the_module parent field =
    let_some (expression_at the_module parent) None λ parent_info.
    let_some (as_struct_literal parent_info.node) None λ literal.
    let_some (resolve_name_at_position the_module literal.name parent_info.scope literal.start literal.end) None λ d.
    let_some (definition_at the_module d) None λ definition.
    let_some (struct_field definition.kind field) None λ t. Some (record { type = t; scope = parent_info.scope })

-- `use_type` up to its demand: the item in the other module's root scope
unfoldable pub imported_definition : Index → Name → Name → Option Imported
imported_definition index imported_module item =
    let_some (module_by_name index imported_module) None λ imported.
    let_some (module_at index imported) None λ imported_index.
    let_some (root_scope imported_index) None λ imported_root.
    let_some (latest_definition_index_by_name imported_index imported_root item) None λ d.
    Some (record { source = imported; definition = d })

-- `identifier_type` up to its demand, for a name that is not built in: the recorded definition; else the name at this position
unfoldable pub identifier_definition : Module → Option ℕ → Name → ℕ → ℕ → ℕ → Option ℕ
identifier_definition the_module definition name s start end =
    let_some definition (resolve_name_at_position the_module name s start end) Some

-- `at_program` up to its demand: the expression at a byte of a module
unfoldable pub position_expression : Index → ℕ → ℕ → Option ℕ
position_expression index m position =
    let_some (module_at index m) None λ the_module. expression_at_position the_module position
