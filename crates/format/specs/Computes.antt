-- One name that opens every definition of loading: a theorem by computation says `unfolding loads`.
-- Written by tools/computes.py. Assumes nothing.
use Rattle.model.specs.Computes.{looks_up}
use Rattle.format.specs.Words.{is_keyword, place_in, word_at, word_in, line_word_of, scope_word_of, type_word_of, definition_word_of, origin_word_of, node_word_of, question_word_of, unary_op_at, binary_op_at}
use Rattle.format.specs.Fields.{field_of, behind, digits, alone, plain_number, number_of, all_visible, is_name, name_value, or_dash, value_of, behind_tab, slot_field, slot}
use Rattle.format.specs.Tails.{three, at_end, items_within, items, tail}
use Rattle.format.specs.Shapes.{scope_as, type_as, definition_as, origin_as, node_as, question_as}
use Rattle.format.specs.Lines.{entry_items, word_here, module_line, scope_line, type_line, definition_line, origin_here, expression_line, question_line, line_from}
use Rattle.format.specs.FirstPass.{on_last, add, has_line_room, is_again, step_on, lines_within, first_pass}
use Rattle.format.specs.LinkCheck.{all_below, scope_linked, type_linked, definition_linked, expression_linked, question_linked, map_from, module_lines, modules_lines, linked_lines, link_fault}
use Rattle.format.specs.Load.{version_of, load_lines, load}

unfoldable pub loads : Unit {0}
unfolding looks_up is_keyword place_in word_at word_in line_word_of scope_word_of type_word_of definition_word_of origin_word_of node_word_of question_word_of unary_op_at binary_op_at field_of behind digits alone plain_number number_of all_visible is_name name_value or_dash value_of behind_tab slot_field slot three at_end items_within items tail scope_as type_as definition_as origin_as node_as question_as entry_items word_here module_line scope_line type_line definition_line origin_here expression_line question_line line_from on_last add has_line_room is_again step_on lines_within first_pass all_below scope_linked type_linked definition_linked expression_linked question_linked map_from module_lines modules_lines linked_lines link_fault version_of load_lines load
loads = tt
