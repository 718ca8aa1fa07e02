-- One name that opens every definition of what `resolve` prints: a theorem by computation says `unfolding resolves`.
-- Written by tools/computes.py. Assumes nothing.
use Rattle.format.specs.Computes.{loads}
use Rattle.resolution.specs.Types.{kind_number, row_numbers, row_names, eq_names, eq_type, is_u32_or_felt, is_error_or_unknown, as_tuple, as_pointer, as_array, as_struct, as_function, field_type, first_table, data_of, row_items, table_items, has_room, find_type}
use Rattle.resolution.specs.Compatible.{all_pairs, both_some, compatible_rows, compatible_within, are_types_compatible, unary_number, binary_number, unary_op_signatures, binary_op_signatures, unary_result, binary_result, is_commutative}
use Rattle.resolution.specs.Asked.{asked_module, asked_types, question_asked}
use Rattle.resolution.specs.Programs.{◌>>=◌, when◌then◌else◌, let_some}
use Rattle.resolution.specs.Views.{is_array_expr, is_unsuffixed_literal, as_identifier, as_struct_literal, struct_field, typed_fields, names_array_expr, operand_is_unsuffixed_literal, right_first, callee_is_builtin, navigate, numeric, numeric_context, element_contexts, element_hint, suffix_type}
use Rattle.resolution.specs.TypeResolution.{resolve_all, infer_only, infer_arguments, infer_elements, all_same_type, custom_type, array_type, type_expr_type, type_program, resolve_variable_type, let_type, const_type, use_type, definition_kind_type, definition_program, struct_kind_data, struct_program, function_kind_signature, signature_program, signature_param, signature_return_type, assignment_context, argument_context, return_context, field_context, context_from_origin, context_expected, expected_numeric, literal_type, parenthesized_type, identifier_type, new_type, unary_type, binary_type, member_type, call_type, struct_literal_type, index_type, tuple_type, tuple_index_type, empty_array_type, array_literal_type, array_repeat_type, node_type, expression_program, program, expression_in_context, says_type, says_at, at_program, asked_program}
use Rattle.resolution.specs.Run.{go_on, enter_type, run, demand_key, eq_demand, is_open, demand, resolve_asked}
use Rattle.resolution.specs.Answer.{decimal_digits, decimal, comma_texts, row_text, text_within, type_text, text_verdict, said_verdict, outcome_verdict, verdict, lead_of, asked_lead, verdict_fields, line_text, written, asked_line, question_lines, question_text, answers}
use Rattle.resolution.specs.Resolve.{refusal_line, printed, resolve, line_of, written_of, line_at, ask_loaded, answer}

unfoldable pub resolves : Unit {0}
unfolding loads kind_number row_numbers row_names eq_names eq_type is_u32_or_felt is_error_or_unknown as_tuple as_pointer as_array as_struct as_function field_type first_table data_of row_items table_items has_room find_type all_pairs both_some compatible_rows compatible_within are_types_compatible unary_number binary_number unary_op_signatures binary_op_signatures unary_result binary_result is_commutative asked_module asked_types question_asked ◌>>=◌ when◌then◌else◌ let_some is_array_expr is_unsuffixed_literal as_identifier as_struct_literal struct_field typed_fields names_array_expr operand_is_unsuffixed_literal right_first callee_is_builtin navigate numeric numeric_context element_contexts element_hint suffix_type resolve_all infer_only infer_arguments infer_elements all_same_type custom_type array_type type_expr_type type_program resolve_variable_type let_type const_type use_type definition_kind_type definition_program struct_kind_data struct_program function_kind_signature signature_program signature_param signature_return_type assignment_context argument_context return_context field_context context_from_origin context_expected expected_numeric literal_type parenthesized_type identifier_type new_type unary_type binary_type member_type call_type struct_literal_type index_type tuple_type tuple_index_type empty_array_type array_literal_type array_repeat_type node_type expression_program program expression_in_context says_type says_at at_program asked_program go_on enter_type run demand_key eq_demand is_open demand resolve_asked decimal_digits decimal comma_texts row_text text_within type_text text_verdict said_verdict outcome_verdict verdict lead_of asked_lead verdict_fields line_text written asked_line question_lines question_text answers refusal_line printed resolve line_of written_of line_at ask_loaded answer
resolves = tt
