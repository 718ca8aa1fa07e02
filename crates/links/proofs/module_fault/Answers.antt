-- `links::module_fault` meets its contract: the lines of one kind follow those of the other. Assumes nothing.
use mathlib.Core.Path.{sym, ◌∙◌}
use Rattle.records.specs.Layout.{module_row}
use Rattle.links.proofs.Lines.{part_hit, last_hit, last_miss}
use Rattle.links.proofs.Modules.{no_scope, some_scope, past_numbered, past_rows}
use Rattle.links.proofs.module_fault.Goals as goal

pub returns-then-scopes-eq0 : goal.returns-then-scopes-eq0
returns-then-scopes-eq0 c = λ file. no_scope _ _ (c.scope_count-scopes.ensures file) c.if-scopes-eq0.true

pub returns-in-Some : goal.returns-in-Some
returns-in-Some c = λ file. sym (some_scope _ _ (c.scope_count-scopes.ensures file) c.if-scopes-eq0.false ∙ part_hit _ _ _ _ (c.scope_fault.ensures file) _ (c.in-Some.is))

pub returns-in-Some-type_fault : goal.returns-in-Some-type_fault
returns-in-Some-type_fault c = λ file. sym (some_scope _ _ (c.scope_count-scopes.ensures file) c.if-scopes-eq0.false ∙ past_numbered _ _ _ _ (c.scope_count-scopes.ensures file) _ _ (c.scope_fault.ensures file) (c.in_default.is) ∙ part_hit _ _ _ _ (c.type_fault.ensures file) _ (c.in-Some-type_fault.is))

pub returns-in-Some-definition_fault : goal.returns-in-Some-definition_fault
returns-in-Some-definition_fault c = λ file. sym (some_scope _ _ (c.scope_count-scopes.ensures file) c.if-scopes-eq0.false ∙ past_numbered _ _ _ _ (c.scope_count-scopes.ensures file) _ _ (c.scope_fault.ensures file) (c.in_default.is) ∙ past_numbered _ _ _ _ (c.type_expr_count-types.ensures file) _ _ (c.type_fault.ensures file) (c.in_default-type_fault.is) ∙ part_hit _ _ _ _ (c.definition_fault.ensures file) _ (c.in-Some-definition_fault.is))

pub returns-in-Some-expression_fault : goal.returns-in-Some-expression_fault
returns-in-Some-expression_fault c = λ file. sym (some_scope _ _ (c.scope_count-scopes.ensures file) c.if-scopes-eq0.false ∙ past_numbered _ _ _ _ (c.scope_count-scopes.ensures file) _ _ (c.scope_fault.ensures file) (c.in_default.is) ∙ past_numbered _ _ _ _ (c.type_expr_count-types.ensures file) _ _ (c.type_fault.ensures file) (c.in_default-type_fault.is) ∙ past_rows _ (module_row file _ _).definitions _ _ (c.definition_count-definitions.ensures file) _ _ (c.definition_fault.ensures file) (c.in_default-definition_fault.is) ∙ last_hit _ _ _ (c.expression_fault.ensures file) _ (c.in-Some-expression_fault.is))

pub returns : goal.returns
returns c = λ file. sym (some_scope _ _ (c.scope_count-scopes.ensures file) c.if-scopes-eq0.false ∙ past_numbered _ _ _ _ (c.scope_count-scopes.ensures file) _ _ (c.scope_fault.ensures file) (c.in_default.is) ∙ past_numbered _ _ _ _ (c.type_expr_count-types.ensures file) _ _ (c.type_fault.ensures file) (c.in_default-type_fault.is) ∙ past_rows _ (module_row file _ _).definitions _ _ (c.definition_count-definitions.ensures file) _ _ (c.definition_fault.ensures file) (c.in_default-definition_fault.is) ∙ last_miss _ _ _ (c.expression_fault.ensures file) (c.in_default-expression_fault.is))
