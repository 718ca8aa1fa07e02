-- `views::field_type_expr` meets its contract: what stands behind each link decides. Assumes nothing.
use mathlib.Core.Path.{ap, ◌∙◌}
use Rattle.views.specs.Meaning.{found_field_type_of}
use Rattle.views.proofs.Nodes.{other_than_struct_literal, a_struct_literal}
use Rattle.views.proofs.Chains.{no_definition, a_definition, no_expression, an_expression, no_link, to_definition, no_type, to_type}
use Rattle.views.proofs.Chains.{literal_absent, no_literal, struct_absent, struct_lost, field_absent, field_found}
use Rattle.views.proofs.field_type_expr.Goals as goal

pub returns-in_err-parent_info : goal.returns-in_err-parent_info
returns-in_err-parent_info c = record { same = ap found_field_type_of c.from_residual.ensures ∙ literal_absent _ _ _ (no_expression _ _ _ _ (c.expression_at.ensures _) c.in_err-parent_info.was) }

pub returns-in_default : goal.returns-in_default
returns-in_default c =
    record { same = no_literal _ _ _ _ (an_expression _ _ _ _ (c.expression_at.ensures _) _ c.in_ok-parent_info.was) (other_than_struct_literal c.args.index.now.file.now c.args.index.now.words.now c.in_ok-parent_info.parent_info.node c.in_default.in_default-own.keys2) }

pub returns-in_err-d : goal.returns-in_err-d
returns-in_err-d c =
    record { same = ap found_field_type_of c.from_residual-in_err-d.ensures ∙ struct_absent _ _ _ _ (an_expression _ _ _ _ (c.expression_at.ensures _) _ c.in_ok-parent_info.was) _ (a_struct_literal _ _ _ _ _ c.in-StructLiteral.is) (no_link _ _ c.resolve_name_at_position.ensures c.in_err-d.was) }

pub returns-in_err-definition : goal.returns-in_err-definition
returns-in_err-definition c =
    record { same = ap found_field_type_of c.from_residual-in_err-definition.ensures ∙ struct_lost _ _ _ _ (an_expression _ _ _ _ (c.expression_at.ensures _) _ c.in_ok-parent_info.was) _ (a_struct_literal _ _ _ _ _ c.in-StructLiteral.is) _ (to_definition _ _ c.resolve_name_at_position.ensures _ c.in_ok-d.was) (no_definition _ _ _ _ (c.definition_at.ensures _) c.in_err-definition.was) }

pub returns-in_err-t : goal.returns-in_err-t
returns-in_err-t c =
    record { same = ap found_field_type_of c.from_residual-in_err-t.ensures ∙ field_absent _ _ _ _ (an_expression _ _ _ _ (c.expression_at.ensures _) _ c.in_ok-parent_info.was) _ (a_struct_literal _ _ _ _ _ c.in-StructLiteral.is) _ (to_definition _ _ c.resolve_name_at_position.ensures _ c.in_ok-d.was) _ (a_definition _ _ _ _ (c.definition_at.ensures _) _ c.in_ok-definition.was) (no_type _ _ c.struct_field.ensures c.in_err-t.was) }

pub returns : goal.returns
returns c =
    record { same = field_found _ _ _ _ (an_expression _ _ _ _ (c.expression_at.ensures _) _ c.in_ok-parent_info.was) _ (a_struct_literal _ _ _ _ _ c.in-StructLiteral.is) _ (to_definition _ _ c.resolve_name_at_position.ensures _ c.in_ok-d.was) _ (a_definition _ _ _ _ (c.definition_at.ensures _) _ c.in_ok-definition.was) _ (to_type _ _ c.struct_field.ensures _ c.in_ok-t.was) }
