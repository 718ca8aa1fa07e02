-- One name that opens every definition of the lookups, links and counts: a theorem by computation says `unfolding looks_up`.
-- Written by tools/computes.py. Assumes nothing.
use Rattle.model.specs.Common.{first_some, first, last, any, total, eq_numbers, collect, joined}
use Rattle.model.specs.Lookups.{is_builtin_function_name, module_named, module_by_name, parent, without_parent, root_scope, chain_from, scope_chain, named, latest_definition_index_by_name, latest_definition_index_by_name_in_chain, is_top_level_allowed, let_value, covered, in_let_initializer, in_order, visible_at, named_and_visible, latest_visible_by_name, resolve_name_at_position, definition_for_identifier_expr, covers, covers_shorter, covers_shortest, expression_at_position, is_function, among, function_around, first_function_around}
use Rattle.model.specs.Links.{type_types, definition_types, definition_expressions, origin_expressions, node_expressions, node_types}
use Rattle.model.specs.Limits.{scope_count, type_expr_count, definition_count, expression_count, type_expr_items, kind_items, node_items, item_count}

unfoldable pub looks_up : Unit {0}
unfolding first_some first last any total eq_numbers collect joined is_builtin_function_name module_named module_by_name parent without_parent root_scope chain_from scope_chain named latest_definition_index_by_name latest_definition_index_by_name_in_chain is_top_level_allowed let_value covered in_let_initializer in_order visible_at named_and_visible latest_visible_by_name resolve_name_at_position definition_for_identifier_expr covers covers_shorter covers_shortest expression_at_position is_function among function_around first_function_around type_types definition_types definition_expressions origin_expressions node_expressions node_types scope_count type_expr_count definition_count expression_count type_expr_items kind_items node_items item_count
looks_up = tt
