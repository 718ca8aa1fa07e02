-- The proof of the cycle of calls. Assumes nothing.
use mathlib.Core.Path.{refl, ap, ap₂, ◌∙◌, sym, subst, subst⁻¹}
use native.Mathlib.Omega.{arith}
use lib.ListN.{take}
use Rattle.std.specs.Prelude.{slice_get}
use Rattle.refusals.specs.declared.Refusal.{Refusal}
use Rattle.records.specs.Meaning.{expression_link_of, type_link_of, definition_link_of, binary_op_of}
use Rattle.resolution.specs.Compatible.{binary_result, binary_op_signatures}
use Rattle.resolution.specs.TypeResolution.{resolve_all, infer_arguments, infer_elements, array_type, all_same_type, binary_type, call_type, definition_kind_type, empty_array_type, new_type, node_type, parenthesized_type, infer_only, context_from_origin, assignment_context, return_context, array_repeat_type, tuple_type, type_expr_type, unary_type}
use Rattle.views.specs.Meaning.{found_import_of, found_field_type_of}
use Rattle.type_table.specs.Layout.{table_of, Sound}
use Rattle.resolution.specs.TableOk.{TableOk}
use Rattle.type_table.specs.Reads.{numeric_context_read}
use Rattle.type_table.specs.Meaning.{found_signature_of}
use Rattle.type_resolution.specs.Shapes.{ShortNode, ShortType, empty_array_in, struct_named, repeat_in, tuple_expr_type}
use Rattle.type_resolution.proofs.Leading.{leads_from, numbers_begin, collecting_begin, all_more, all_stops, all_ends, links_begin, arguments_more, arguments_stop, arguments_done, types_kept, gathering_begin, elements_more, elements_skip, elements_stop, elements_end, at_most_all, taken_length, links_behind_first, same_absent, same_more, same_differs, same_stops, same_all}
use Rattle.type_resolution.proofs.Running.{joined, then_given, then_refused, child_runs, is_ok, is_err, is_handed_on, was_there, was_missing, missing_runs, answers, then_on, then_stop, if_true, if_false, some_runs, none_runs, data_runs, entered_ready, entered_stops, entered_runs, enter_falls, look_runs, reads, same_runs, ends, knows, knows_nothing}
use Rattle.type_resolution.proofs.Below.{expression_below, later_below, interns_runs, type_below, collected_below, later_all_below, elements_below, contexts_good}
use Rattle.type_resolution.proofs.Arms.{hinted, hint_found, there_is, there_is_none, is_array, no_array, by_kind, or_error_runs, let_whole, let_part, element_below, hint_at, eq-eqb, ne_eqb, function_parted, no_function, numeric_runs, by_node, led_to, from_origin, given_context, passed_runs, returned_runs, repeated, struct_fielded, no_struct, by_type_expr, declared_as, valued_as, neither_as}
use Rattle.type_resolution.proofs.Chains.{no_elements, some_elements, use_shaped, struct_listed, literal_numbered, identifier_shaped, literal_shaped, array_shaped, argument_shaped, field_shaped, signature_listed, tuple_looked}
use Rattle.type_resolution.proofs.Finding.{type_found, type_absent, definition_found, definition_absent, expression_found, expression_absent, signature_found, signature_absent, struct_found, struct_absent}
use Rattle.type_resolution.proofs.Short.{short_type, short_node, short_params, short_fields, links_length}
use Rattle.type_resolution.proofs.Shaped.{const_declared, let_declared, index_reads, member_reads, literal_named, tuple_index_reads, custom_named}
use Rattle.type_resolution.proofs.+resolution.Goals as goal
use Rattle.type_resolution.proofs.+resolution.Goals.{bin-then-right_first+in_ok-y+in_ok-x, bin-else-right_first+in_ok-x-2+in_ok-y-2}

pub all-loop-i-init : goal.all-loop-i-init
all-loop-i-init t c = leads_from _ (ap (resolve_all _ _) (numbers_begin _ _ _) ∙ collecting_begin _ _ _) c.requires.ready

pub all-ast_type-requires : goal.all-ast_type-requires
all-ast_type-requires t c = (omega (arith, c.decreases), c.loop-i.invariant.ready)

pub all-returns-in_err-x-clause-runs : goal.all-returns-in_err-x-clause-runs
all-returns-in_err-x-clause-runs t c = all_stops _ _ _ _ _ _ c.loop-i.invariant c.loop-i-test.true c.item_value-t.ensures c.ast_type.ensures _ c.in_err-x.was c.from_residual.ensures

pub all-loop-i-preserved : goal.all-loop-i-preserved
all-loop-i-preserved t c = all_more _ _ _ _ _ _ c.loop-i.invariant c.loop-i-test.true c.item_value-t.ensures c.ast_type.ensures c.in_ok-x.was (omega (arith, c.loop-i-test.true, c.loop-i.auto.out, c.requires.count_in_bounds))

pub all-returns-clause-runs : goal.all-returns-clause-runs
all-returns-clause-runs t c = all_ends _ _ _ _ _ _ c.loop-i.invariant c.loop-i.auto.i-end c.loop-i-test.false

pub args-loop-i-init : goal.args-loop-i-init
args-loop-i-init t c = leads_from _ (ap (infer_arguments _ _ 0) (links_begin _ _ _)) c.requires.ready

pub args-only-requires : goal.args-only-requires
args-only-requires t c = (omega (arith, c.decreases), c.loop-i.invariant.ready)

pub args-returns-in_err-only : goal.args-returns-in_err-only
args-returns-in_err-only t c = arguments_stop _ _ _ _ _ c.loop-i.invariant _ _ c.loop-i-test.true c.item_link-arg.ensures (c.item-context.ensures ∙ ap (λ l. slice_get l c.loop-i.i) (types_kept c.loop-i.invariant.grows c.args.params c.requires.count_bound)) c.only.ensures c.in_err-only.was c.from_residual.ensures

pub args-loop-i-preserved : goal.args-loop-i-preserved
args-loop-i-preserved t c = arguments_more _ _ _ _ _ c.loop-i.invariant _ _ c.loop-i-test.true c.item_link-arg.ensures (c.item-context.ensures ∙ ap (λ l. slice_get l c.loop-i.i) (types_kept c.loop-i.invariant.grows c.args.params c.requires.count_bound)) c.only.ensures c.in_ok-only.was

pub args-returns : goal.args-returns
args-returns t c = arguments_done _ _ _ _ _ c.loop-i.invariant c.loop-i-test.false

pub arr-empty-requires : goal.arr-empty-requires
arr-empty-requires t c = (omega (arith, c.decreases), (c.requires, hint_found c.requires _ c.element_hint-hint.result (c.element_hint-hint.ensures _)))

pub arr-returns-then-count-eq0 : goal.arr-returns-then-count-eq0
arr-returns-then-count-eq0 t c = no_elements _ _ _ _ c.element_hint-hint.result (c.element_hint-hint.ensures _) _ _ c.if-count-eq0.true c.empty.ensures

pub arr-returns-in_err-e : goal.arr-returns-in_err-e
arr-returns-in_err-e t c = some_elements _ _ _ _ c.element_hint-hint.result (c.element_hint-hint.ensures _) _ _ (omega (arith, c.if-count-eq0.false)) (none_runs _ _ _ (sym c.item_link.ensures ∙ ap expression_link_of (was_missing c.ok_or.ensures.ok_part c.in_err-e.was)) (missing_runs c.requires _ Refusal.MissingChild c.ok_or.ensures.value c.in_err-e.was c.from_residual.ensures))

pub arr-expr_type-requires : goal.arr-expr_type-requires
arr-expr_type-requires t c = (omega (arith, c.decreases), c.requires)

pub arr-returns-in_err-t : goal.arr-returns-in_err-t
arr-returns-in_err-t t c = some_elements _ _ _ _ c.element_hint-hint.result (c.element_hint-hint.ensures _) _ _ (omega (arith, c.if-count-eq0.false)) (some_runs _ _ _ (sym c.item_link.ensures ∙ ap expression_link_of (was_there c.ok_or.ensures.ok_part c.in_ok-e.was)) (then_refused c.expr_type.ensures _ c.in_err-t.was c.from_residual-in_err-t.ensures))

pub arr-same-requires : goal.arr-same-requires
arr-same-requires t c = (omega (arith, c.decreases), (c.expr_type.ensures.ready, omega (arith, c.if-count-eq0.false)))

pub arr-returns-in_err-fits : goal.arr-returns-in_err-fits
arr-returns-in_err-fits t c = some_elements _ _ _ _ c.element_hint-hint.result (c.element_hint-hint.ensures _) _ _ (omega (arith, c.if-count-eq0.false)) (some_runs _ _ _ (sym c.item_link.ensures ∙ ap expression_link_of (was_there c.ok_or.ensures.ok_part c.in_ok-e.was)) (then_given c.expr_type.ensures _ c.in_ok-t.was (then_refused c.same.ensures _ c.in_err-fits.was c.from_residual-in_err-fits.ensures)))

pub arr-intern_array-requires-clause-element_bound : goal.arr-intern_array-requires-clause-element_bound
arr-intern_array-requires-clause-element_bound t c = later_below c.same.ensures.grows (expression_below c.requires (hinted c.requires _ _ (c.element_hint-hint.ensures _)) c.expr_type.ensures c.in_ok-t.was)

pub arr-returns-then-fits : goal.arr-returns-then-fits
arr-returns-then-fits t c = some_elements _ _ _ _ c.element_hint-hint.result (c.element_hint-hint.ensures _) _ _ (omega (arith, c.if-count-eq0.false)) (some_runs _ _ _ (sym c.item_link.ensures ∙ ap expression_link_of (was_there c.ok_or.ensures.ok_part c.in_ok-e.was)) (then_given c.expr_type.ensures _ c.in_ok-t.was (then_given c.same.ensures _ c.in_ok-fits.was (if_true _ _ _ refl c.if-fits.true (interns_runs c.same.ensures.ready c.intern_array.ensures)))))

pub arr-returns-else-fits : goal.arr-returns-else-fits
arr-returns-else-fits t c = some_elements _ _ _ _ c.element_hint-hint.result (c.element_hint-hint.ensures _) _ _ (omega (arith, c.if-count-eq0.false)) (some_runs _ _ _ (sym c.item_link.ensures ∙ ap expression_link_of (was_there c.ok_or.ensures.ok_part c.in_ok-e.was)) (then_given c.expr_type.ensures _ c.in_ok-t.was (then_given c.same.ensures _ c.in_ok-fits.was (if_false _ _ _ refl c.if-fits.false (answers c.same.ensures.ready refl)))))

pub array-returns-then-names_array_expr : goal.array-returns-then-names_array_expr
unfolding array_type
array-returns-then-names_array_expr t c = if_true _ _ _ (c.names_array_expr.ensures.same _) c.if-names_array_expr.true (answers c.requires refl)

pub array-ast_type-requires : goal.array-ast_type-requires
array-ast_type-requires t c = (omega (arith, c.decreases), c.requires)

pub array-returns-in_err-element : goal.array-returns-in_err-element
unfolding array_type
array-returns-in_err-element t c = if_false _ _ _ (c.names_array_expr.ensures.same _) c.if-names_array_expr.false (then_refused c.ast_type.ensures _ c.in_err-element.was c.from_residual.ensures)

pub array-intern_array-requires-clause-sound : goal.array-intern_array-requires-clause-sound
array-intern_array-requires-clause-sound t c = c.ast_type.ensures.ready.sound

pub array-intern_array-requires-clause-element_bound : goal.array-intern_array-requires-clause-element_bound
array-intern_array-requires-clause-element_bound t c = type_below c.requires c.ast_type.ensures c.in_ok-element.was

pub array-returns-then-is_some : goal.array-returns-then-is_some
unfolding array_type
array-returns-then-is_some t c = if_false _ _ _ (c.names_array_expr.ensures.same _) c.if-names_array_expr.false (then_given c.ast_type.ensures _ c.in_ok-element.was (data_runs _ _ (some_runs _ _ _ (is_array _ (c.array_of.ensures _) (there_is c.array_of.result (sym c.is_some.ensures ∙ c.if-is_some.true)).1) (answers c.ast_type.ensures.ready refl))))

pub array-returns : goal.array-returns
unfolding array_type
array-returns t c = if_false _ _ _ (c.names_array_expr.ensures.same _) c.if-names_array_expr.false (then_given c.ast_type.ensures _ c.in_ok-element.was (data_runs _ _ (none_runs _ _ _ (no_array _ (c.array_of.ensures _) (there_is_none c.array_of.result (sym c.is_some.ensures ∙ c.if-is_some.false))) (interns_runs c.ast_type.ensures.ready c.intern_array.ensures))))

pub ast_type-returns-in_err-next : goal.ast_type-returns-in_err-next
ast_type-returns-in_err-next t c = entered_stops c.requires c.enter.ensures c.in_err-next.was (is_handed_on _ _ c.from_residual.ensures)

pub ast_type-returns-in_default : goal.ast_type-returns-in_default
ast_type-returns-in_default t c = entered_runs c.requires c.enter.ensures c.in_ok-next.was (type_absent (entered_ready c.requires c.enter.ensures c.in_ok-next.was) _ _ _ c.type_in.ensures c.in_default.is)

pub ast_type-ty-requires : goal.ast_type-ty-requires
ast_type-ty-requires t c = (enter_falls 3 (omega arith) c.enter.ensures c.in_ok-next.was (sym c.decreases), ((entered_ready c.requires c.enter.ensures c.in_ok-next.was), short_type c.requires c.type_in.ensures c.in-Some.is))

pub ast_type-returns : goal.ast_type-returns
ast_type-returns t c = entered_runs c.requires c.enter.ensures c.in_ok-next.was (type_found _ _ _ c.type_in.ensures c.in-Some.is c.ty.ensures)

pub bin-returns-in_err-a : goal.bin-returns-in_err-a
unfolding binary_type
bin-returns-in_err-a t c = none_runs _ _ _ (ap expression_link_of (was_missing c.ok_or.ensures.ok_part c.in_err-a.was)) (missing_runs c.requires _ Refusal.MissingChild c.ok_or.ensures.value c.in_err-a.was c.from_residual.ensures)

pub bin-returns-in_err-b : goal.bin-returns-in_err-b
unfolding binary_type
bin-returns-in_err-b t c = child_runs _ _ c.ok_or.ensures.ok_part c.in_ok-a.was (none_runs _ _ _ (ap expression_link_of (was_missing c.ok_or-2.ensures.ok_part c.in_err-b.was)) (missing_runs c.requires _ Refusal.MissingChild c.ok_or-2.ensures.value c.in_err-b.was c.from_residual-in_err-b.ensures))

pub bin-expr_type-requires : goal.bin-expr_type-requires
bin-expr_type-requires t c = (omega (arith, c.decreases), c.requires)

pub bin-returns-in_err-y : goal.bin-returns-in_err-y
unfolding binary_type
bin-returns-in_err-y t c = child_runs _ _ c.ok_or.ensures.ok_part c.in_ok-a.was (child_runs _ _ c.ok_or-2.ensures.ok_part c.in_ok-b.was (if_true _ _ _ (c.right_first.ensures.same _) c.if-right_first.true (then_refused c.expr_type.ensures _ c.in_err-y.was c.from_residual-in_err-y.ensures)))

pub bin-expr_type-requires-then-right_first : goal.bin-expr_type-requires-then-right_first
bin-expr_type-requires-then-right_first t c = (omega (arith, c.decreases), c.expr_type.ensures.ready)

pub bin-returns-in_err-x : goal.bin-returns-in_err-x
unfolding binary_type
bin-returns-in_err-x t c = child_runs _ _ c.ok_or.ensures.ok_part c.in_ok-a.was (child_runs _ _ c.ok_or-2.ensures.ok_part c.in_ok-b.was (if_true _ _ _ (c.right_first.ensures.same _) c.if-right_first.true (then_given c.expr_type.ensures _ c.in_ok-y.was (then_refused c.expr_type-then-right_first.ensures _ c.in_err-x.was c.from_residual-in_err-x.ensures))))

pub bin-expr_type-requires-else-right_first : goal.bin-expr_type-requires-else-right_first
bin-expr_type-requires-else-right_first t c = (omega (arith, c.decreases), c.requires)

pub bin-returns-in_err-x-2 : goal.bin-returns-in_err-x-2
unfolding binary_type
bin-returns-in_err-x-2 t c = child_runs _ _ c.ok_or.ensures.ok_part c.in_ok-a.was (child_runs _ _ c.ok_or-2.ensures.ok_part c.in_ok-b.was (if_false _ _ _ (c.right_first.ensures.same _) c.if-right_first.false (then_refused c.expr_type-else-right_first.ensures _ c.in_err-x-2.was c.from_residual-in_err-x-2.ensures)))

pub bin-expr_type-requires-else-right_first-2 : goal.bin-expr_type-requires-else-right_first-2
bin-expr_type-requires-else-right_first-2 t c = (omega (arith, c.decreases), c.expr_type-else-right_first.ensures.ready)

pub bin-returns-in_err-y-2 : goal.bin-returns-in_err-y-2
unfolding binary_type
bin-returns-in_err-y-2 t c = child_runs _ _ c.ok_or.ensures.ok_part c.in_ok-a.was (child_runs _ _ c.ok_or-2.ensures.ok_part c.in_ok-b.was (if_false _ _ _ (c.right_first.ensures.same _) c.if-right_first.false (then_given c.expr_type-else-right_first.ensures _ c.in_ok-x-2.was (then_refused c.expr_type-else-right_first-2.ensures _ c.in_err-y-2.was c.from_residual-in_err-y-2.ensures))))

pub bin-invariant_of-binary_result-clause-sound : goal.bin-invariant_of-binary_result-clause-sound
bin-invariant_of-binary_result-clause-sound t c =
    elim c.if-right_first.branch [
      | bin-then-right_first+in_ok-y+in_ok-x w ↦ subst⁻¹ (Sound c.args.index.now.file.now) w.types-is w.expr_type-then-right_first.ensures.ready.sound
      | bin-else-right_first+in_ok-x-2+in_ok-y-2 w ↦ subst⁻¹ (Sound c.args.index.now.file.now) w.types-is w.expr_type-else-right_first-2.ensures.ready.sound
    ]

pub bin-invariant_of-binary_result-clause-table_ok : goal.bin-invariant_of-binary_result-clause-table_ok
bin-invariant_of-binary_result-clause-table_ok t c =
    elim c.if-right_first.branch [
      | bin-then-right_first+in_ok-y+in_ok-x w ↦ ∣ subst⁻¹ (λ T. TableOk (table_of c.args.index.now.file.now T)) w.types-is w.expr_type-then-right_first.ensures.ready.ok ∣₁
      | bin-else-right_first+in_ok-x-2+in_ok-y-2 w ↦ ∣ subst⁻¹ (λ T. TableOk (table_of c.args.index.now.file.now T)) w.types-is w.expr_type-else-right_first-2.ensures.ready.ok ∣₁
    ]

pub bin-returns : goal.bin-returns
unfolding binary_type
bin-returns t c =
    elim c.if-right_first.branch [
      | bin-then-right_first+in_ok-y+in_ok-x w ↦
          child_runs _ _ c.ok_or.ensures.ok_part c.in_ok-a.was (child_runs _ _ c.ok_or-2.ensures.ok_part c.in_ok-b.was
          (joined w.types-is w.demands-is (if_true _ _ _ (c.right_first.ensures.same _) w.if-right_first.true (then_given w.expr_type.ensures _ w.in_ok-y.was (then_given w.expr_type-then-right_first.ensures _ w.in_ok-x.was (look_runs _ (answers w.expr_type-then-right_first.ensures.ready (c.binary_result.ensures ∙ ap₂ (λ T x. binary_result (table_of c.args.index.now.file.now T) binary_op_signatures (binary_op_of c.args.op) x.0 x.1) w.types-is w.x-is))))))))
      | bin-else-right_first+in_ok-x-2+in_ok-y-2 w ↦
          child_runs _ _ c.ok_or.ensures.ok_part c.in_ok-a.was (child_runs _ _ c.ok_or-2.ensures.ok_part c.in_ok-b.was
          (joined w.types-is w.demands-is (if_false _ _ _ (c.right_first.ensures.same _) w.if-right_first.false (then_given w.expr_type-else-right_first.ensures _ w.in_ok-x-2.was (then_given w.expr_type-else-right_first-2.ensures _ w.in_ok-y-2.was (look_runs _ (answers w.expr_type-else-right_first-2.ensures.ready (c.binary_result.ensures ∙ ap₂ (λ T x. binary_result (table_of c.args.index.now.file.now T) binary_op_signatures (binary_op_of c.args.op) x.0 x.1) w.types-is w.x-is))))))))
    ]

pub call-returns-then-callee_is_builtin : goal.call-returns-then-callee_is_builtin
unfolding call_type
call-returns-then-callee_is_builtin t c = if_true _ _ _ c.callee_is_builtin.ensures.same c.if-callee_is_builtin.true (answers c.requires refl)

pub call-returns-in_default : goal.call-returns-in_default
unfolding call_type
call-returns-in_default t c = if_false _ _ _ c.callee_is_builtin.ensures.same c.if-callee_is_builtin.false (none_runs _ _ _ (ap expression_link_of c.in_default.is) (answers c.requires refl))

pub call-expr_type-requires : goal.call-expr_type-requires
call-expr_type-requires t c = (omega (arith, c.decreases), c.requires)

pub call-returns-in_err-t : goal.call-returns-in_err-t
unfolding call_type
call-returns-in_err-t t c = if_false _ _ _ c.callee_is_builtin.ensures.same c.if-callee_is_builtin.false (some_runs _ _ _ (ap expression_link_of c.in-Some.is) (then_refused c.expr_type.ensures _ c.in_err-t.was c.from_residual.ensures))

pub call-returns-in_default-signature_of : goal.call-returns-in_default-signature_of
unfolding call_type
call-returns-in_default-signature_of t c = if_false _ _ _ c.callee_is_builtin.ensures.same c.if-callee_is_builtin.false (some_runs _ _ _ (ap expression_link_of c.in-Some.is) (then_given c.expr_type.ensures _ c.in_ok-t.was (data_runs _ _ (none_runs _ _ _ (sym (c.signature_of.ensures.same _) ∙ ap (found_signature_of _) c.in_default-signature_of.is) (answers c.expr_type.ensures.ready refl)))))

pub call-args-requires : goal.call-args-requires
call-args-requires t c = (omega (arith, c.decreases), (c.expr_type.ensures.ready, c.signature_of.ensures.within _ c.expr_type.ensures.ready.sound _ c.in-Some-signature_of.is))

pub call-returns-in_err-args : goal.call-returns-in_err-args
unfolding call_type
call-returns-in_err-args t c = if_false _ _ _ c.callee_is_builtin.ensures.same c.if-callee_is_builtin.false (some_runs _ _ _ (ap expression_link_of c.in-Some.is) (then_given c.expr_type.ensures _ c.in_ok-t.was (data_runs _ _ (some_runs _ _ _ (sym (c.signature_of.ensures.same _) ∙ ap (found_signature_of _) c.in-Some-signature_of.is) (then_refused c.args-2.ensures _ c.in_err-args.was c.from_residual-in_err-args.ensures)))))

pub call-returns : goal.call-returns
unfolding call_type
call-returns t c = if_false _ _ _ c.callee_is_builtin.ensures.same c.if-callee_is_builtin.false (some_runs _ _ _ (ap expression_link_of c.in-Some.is) (then_given c.expr_type.ensures _ c.in_ok-t.was (data_runs _ _ (some_runs _ _ _ (sym (c.signature_of.ensures.same _) ∙ ap (found_signature_of _) c.in-Some-signature_of.is) (then_given c.args-2.ensures _ c.in_ok-args.was (answers c.args-2.ensures.ready refl))))))

pub def-fn_signature-requires : goal.def-fn_signature-requires
def-fn_signature-requires t c = (omega (arith, c.decreases), c.requires)

pub def-struct_data-requires : goal.def-struct_data-requires
def-struct_data-requires t c = (omega (arith, c.decreases), c.requires)

pub def-var-requires : goal.def-var-requires
def-var-requires t c = (omega (arith, c.decreases), c.requires)

pub def-expr_type-requires : goal.def-expr_type-requires
def-expr_type-requires t c = (omega (arith, c.decreases), c.requires)

pub def-ast_type-requires : goal.def-ast_type-requires
def-ast_type-requires t c = (omega (arith, c.decreases), c.requires)

pub def-def_type-requires : goal.def-def_type-requires
def-def_type-requires t c = (omega (arith, c.decreases), c.requires)

pub def-var-requires-in_default : goal.def-var-requires-in_default
def-var-requires-in_default t c = (omega (arith, c.decreases), c.requires)

pub def-returns-in_err-signature-in-Function : goal.def-returns-in_err-signature-in-Function
unfolding definition_kind_type
def-returns-in_err-signature-in-Function t c = by_kind _ _ _ _ c.in-Function.is (then_refused c.fn_signature.ensures _ c.in_err-signature-in-Function.was c.from_residual.ensures)

pub def-returns-in_err-data-in-Struct : goal.def-returns-in_err-data-in-Struct
unfolding definition_kind_type
def-returns-in_err-data-in-Struct t c = by_kind _ _ _ _ c.in-Struct.is (then_refused c.struct_data.ensures _ c.in_err-data-in-Struct.was c.from_residual-in_err-data-in-Struct.ensures)

pub def-returns-in_ok-signature-in-Function : goal.def-returns-in_ok-signature-in-Function
unfolding definition_kind_type
def-returns-in_ok-signature-in-Function t c = by_kind _ _ _ _ c.in-Function.is (or_error_runs c.fn_signature.ensures _ c.in_ok-signature-in-Function.was c.unwrap_or.ensures)

pub def-returns-in_ok-data-in-Struct : goal.def-returns-in_ok-data-in-Struct
unfolding definition_kind_type
def-returns-in_ok-data-in-Struct t c = by_kind _ _ _ _ c.in-Struct.is (or_error_runs c.struct_data.ensures _ c.in_ok-data-in-Struct.was c.unwrap_or-in-Struct.ensures)

pub def-returns-in-Const : goal.def-returns-in-Const
unfolding definition_kind_type
def-returns-in-Const t c = by_kind _ _ _ _ c.in-Const.is (same_runs (const_declared _ _ _ _) c.var.ensures)

pub def-returns-in_default : goal.def-returns-in_default
unfolding definition_kind_type
def-returns-in_default t c = by_kind _ _ _ _ c.in-Let.is (let_whole _ _ _ _ _ _ (ap expression_link_of c.in_default.is) (same_runs (let_declared _ _ _ _) c.var-in_default.ensures))

pub def-returns-in_err-current-in-Let : goal.def-returns-in_err-current-in-Let
unfolding definition_kind_type
def-returns-in_err-current-in-Let t c = by_kind _ _ _ _ c.in-Let.is (let_part _ _ _ _ _ _ (ap expression_link_of c.in-Some.is) (then_refused c.expr_type.ensures _ c.in_err-current-in-Let.was c.from_residual-in_err-current-in-Let.ensures))

pub def-returns-in_ok-current-in-Let : goal.def-returns-in_ok-current-in-Let
unfolding definition_kind_type
def-returns-in_ok-current-in-Let t c = by_kind _ _ _ _ c.in-Let.is (let_part _ _ _ _ _ _ (ap expression_link_of c.in-Some.is) (then_given c.expr_type.ensures _ c.in_ok-current-in-Let.was (reads c.expr_type.ensures.ready (c.navigate.ensures _))))

pub def-returns-in-Parameter : goal.def-returns-in-Parameter
unfolding definition_kind_type
def-returns-in-Parameter t c = by_kind _ _ _ _ c.in-Parameter.is c.ast_type.ensures

pub def-returns-in_default-imported_definition : goal.def-returns-in_default-imported_definition
unfolding definition_kind_type
def-returns-in_default-imported_definition t c = by_kind _ _ _ _ c.in-Use.is (same_runs (use_shaped _ _ _) (none_runs _ _ _ (sym c.imported_definition.ensures.same ∙ ap found_import_of c.in_default-imported_definition.is) (answers c.requires refl)))

pub def-returns-in-Some-imported_definition : goal.def-returns-in-Some-imported_definition
unfolding definition_kind_type
def-returns-in-Some-imported_definition t c = by_kind _ _ _ _ c.in-Use.is (same_runs (use_shaped _ _ _) (some_runs _ _ _ (sym c.imported_definition.ensures.same ∙ ap found_import_of c.in-Some-imported_definition.is) c.def_type.ensures))

pub def-returns-in-LoopVariable : goal.def-returns-in-LoopVariable
unfolding definition_kind_type
def-returns-in-LoopVariable t c = by_kind _ _ _ _ c.in-LoopVariable.is (answers c.requires refl)

pub def_type-returns-in_err-next : goal.def_type-returns-in_err-next
def_type-returns-in_err-next t c = entered_stops c.requires c.enter.ensures c.in_err-next.was (is_handed_on _ _ c.from_residual.ensures)

pub def_type-returns-in_default : goal.def_type-returns-in_default
def_type-returns-in_default t c = entered_runs c.requires c.enter.ensures c.in_ok-next.was (definition_absent (entered_ready c.requires c.enter.ensures c.in_ok-next.was) _ _ c.definition_in.ensures c.in_default.is)

pub def_type-def-requires : goal.def_type-def-requires
def_type-def-requires t c = (enter_falls 2 (omega arith) c.enter.ensures c.in_ok-next.was (sym c.decreases), (entered_ready c.requires c.enter.ensures c.in_ok-next.was))

pub def_type-returns : goal.def_type-returns
def_type-returns t c = entered_runs c.requires c.enter.ensures c.in_ok-next.was (definition_found _ _ c.definition_in.ensures c.in-Some.is c.def.ensures)

pub elems-loop-i-init : goal.elems-loop-i-init
elems-loop-i-init t c = (omega arith, leads_from _ (ap (infer_elements _ _ 0) (links_begin _ _ _) ∙ gathering_begin _ _ _) c.requires.ready)

pub elems-loop-i-preserved-in_default : goal.elems-loop-i-preserved-in_default
elems-loop-i-preserved-in_default t c = (omega (arith, c.loop-i.invariant.0), elements_skip _ _ _ _ _ c.loop-i.n c.loop-i.out c.loop-i.invariant.1 _ c.loop-i-test.true c.item_link.ensures c.in_default.is)

pub elems-expr_type-requires : goal.elems-expr_type-requires
elems-expr_type-requires t c = (omega (arith, c.decreases), c.loop-i.invariant.1.ready)

pub elems-returns-in_err-t-clause-runs : goal.elems-returns-in_err-t-clause-runs
elems-returns-in_err-t-clause-runs t c = elements_stop _ _ _ _ _ c.loop-i.n c.loop-i.out c.loop-i.invariant.1 _ c.loop-i-test.true c.item_link.ensures c.in-Some.is (c.item-context.ensures ∙ ap (λ l. slice_get l c.loop-i.i) (types_kept c.loop-i.invariant.1.grows c.args.contexts c.requires.count_bound)) c.expr_type.ensures _ c.in_err-t.was c.from_residual.ensures

pub elems-offset_bounds-out-n : goal.elems-offset_bounds-out-n
elems-offset_bounds-out-n t c = omega (arith, c.loop-i-test.true, c.loop-i.invariant.0)

pub elems-bounds-out-n : goal.elems-bounds-out-n
elems-bounds-out-n t c = omega (arith, c.loop-i-test.true, c.loop-i.invariant.0, c.loop-i.auto.out, c.requires.count_in_bounds)

pub elems-overflow_add-n : goal.elems-overflow_add-n
elems-overflow_add-n t c = omega (arith, c.loop-i-test.true, c.loop-i.invariant.0)

pub elems-loop-i-preserved : goal.elems-loop-i-preserved
elems-loop-i-preserved t c = (omega (arith, c.loop-i.invariant.0), elements_more _ _ _ _ _ c.loop-i.n c.loop-i.out c.loop-i.invariant.1 _ c.loop-i-test.true c.item_link.ensures c.in-Some.is (c.item-context.ensures ∙ ap (λ l. slice_get l c.loop-i.i) (types_kept c.loop-i.invariant.1.grows c.args.contexts c.requires.count_bound)) c.expr_type.ensures c.in_ok-t.was (omega (arith, c.loop-i-test.true, c.loop-i.invariant.0, c.loop-i.auto.out, c.requires.count_in_bounds)))

pub elems-returns-clause-runs : goal.elems-returns-clause-runs
elems-returns-clause-runs t c = elements_end _ _ _ _ _ _ _ c.loop-i.invariant.1 c.loop-i-test.false

pub elems-returns-clause-at_most : goal.elems-returns-clause-at_most
elems-returns-clause-at_most t c = at_most_all _ _ (omega (arith, c.loop-i.invariant.0, c.loop-i.auto.i-end))

pub empty-returns-in-Some : goal.empty-returns-in-Some
unfolding empty_array_type empty_array_in
empty-returns-in-Some t c = some_runs _ _ _ c.in-Some.is (interns_runs c.requires.ready c.intern_array.ensures)

pub empty-intern_array-requires-clause-element_bound : goal.empty-intern_array-requires-clause-element_bound
empty-intern_array-requires-clause-element_bound t c = hint_at c.args.types.now _ c.in-Some.is c.requires.hint_below

pub empty-returns-in_default-expected : goal.empty-returns-in_default-expected
unfolding empty_array_type empty_array_in
empty-returns-in_default-expected t c = none_runs _ _ _ c.in_default.is (none_runs _ _ _ (ap type_link_of c.in_default-expected.is) (answers c.requires.ready refl))

pub empty-ast_type-requires : goal.empty-ast_type-requires
empty-ast_type-requires t c = (omega (arith, c.decreases), c.requires.ready)

pub empty-returns-in_err-x : goal.empty-returns-in_err-x
unfolding empty_array_type empty_array_in
empty-returns-in_err-x t c = none_runs _ _ _ c.in_default.is (some_runs _ _ _ (ap type_link_of c.in-Some-expected.is) (then_refused c.ast_type.ensures _ c.in_err-x.was c.from_residual.ensures))

pub empty-returns-in_default-array_of : goal.empty-returns-in_default-array_of
unfolding empty_array_type empty_array_in
empty-returns-in_default-array_of t c = none_runs _ _ _ c.in_default.is (some_runs _ _ _ (ap type_link_of c.in-Some-expected.is) (then_given c.ast_type.ensures _ c.in_ok-x.was (data_runs _ _ (none_runs _ _ _ (no_array _ (c.array_of.ensures _) c.in_default-array_of.is) (answers c.ast_type.ensures.ready refl)))))

pub empty-intern_array-requires-then-array-eq0-clause-sound : goal.empty-intern_array-requires-then-array-eq0-clause-sound
empty-intern_array-requires-then-array-eq0-clause-sound t c = c.ast_type.ensures.ready.sound

pub empty-intern_array-requires-then-array-eq0-clause-element_bound : goal.empty-intern_array-requires-then-array-eq0-clause-element_bound
empty-intern_array-requires-then-array-eq0-clause-element_bound t c = element_below c.ast_type.ensures.ready _ (is_array _ (c.array_of.ensures _) c.in-Some-array_of.is)

pub empty-returns-then-array-eq0 : goal.empty-returns-then-array-eq0
unfolding empty_array_type empty_array_in
empty-returns-then-array-eq0 t c = none_runs _ _ _ c.in_default.is (some_runs _ _ _ (ap type_link_of c.in-Some-expected.is) (then_given c.ast_type.ensures _ c.in_ok-x.was (data_runs _ _ (some_runs _ _ _ (is_array _ (c.array_of.ensures _) c.in-Some-array_of.is) (if_true _ _ _ (sym (eq-eqb _ _ c.if-array-eq0.true)) refl (interns_runs c.ast_type.ensures.ready c.intern_array-then-array-eq0.ensures))))))

pub empty-returns-else-array-eq0 : goal.empty-returns-else-array-eq0
unfolding empty_array_type empty_array_in
empty-returns-else-array-eq0 t c = none_runs _ _ _ c.in_default.is (some_runs _ _ _ (ap type_link_of c.in-Some-expected.is) (then_given c.ast_type.ensures _ c.in_ok-x.was (data_runs _ _ (some_runs _ _ _ (is_array _ (c.array_of.ensures _) c.in-Some-array_of.is) (if_false _ _ _ (sym (ne_eqb _ _ c.if-array-eq0.false)) refl (answers c.ast_type.ensures.ready refl))))))

pub expr_type-returns-in_err-next : goal.expr_type-returns-in_err-next
expr_type-returns-in_err-next t c = entered_stops c.requires c.enter.ensures c.in_err-next.was (is_handed_on _ _ c.from_residual.ensures)

pub expr_type-returns-in_default : goal.expr_type-returns-in_default
expr_type-returns-in_default t c = entered_runs c.requires c.enter.ensures c.in_ok-next.was (expression_absent (entered_ready c.requires c.enter.ensures c.in_ok-next.was) _ _ _ c.expression_in.ensures c.in_default.is)

pub expr_type-origin-requires : goal.expr_type-origin-requires
expr_type-origin-requires t c = (enter_falls 1 (omega arith) c.enter.ensures c.in_ok-next.was (sym c.decreases), (entered_ready c.requires c.enter.ensures c.in_ok-next.was))

pub expr_type-returns-in_err-expected : goal.expr_type-returns-in_err-expected
expr_type-returns-in_err-expected t c = entered_runs c.requires c.enter.ensures c.in_ok-next.was (expression_found _ _ _ c.expression_in.ensures c.in-Some.is (then_refused c.origin.ensures _ c.in_err-expected.was c.from_residual-in_err-expected.ensures))

pub expr_type-node-requires : goal.expr_type-node-requires
expr_type-node-requires t c = (enter_falls 4 (omega arith) c.enter.ensures c.in_ok-next.was (sym c.decreases), (c.origin.ensures.ready, short_node c.requires c.expression_in.ensures c.in-Some.is))

pub expr_type-returns : goal.expr_type-returns
expr_type-returns t c = entered_runs c.requires c.enter.ensures c.in_ok-next.was (expression_found _ _ _ c.expression_in.ensures c.in-Some.is (then_given c.origin.ensures _ c.in_ok-expected.was c.node.ensures))

pub fields-all-requires : goal.fields-all-requires
fields-all-requires t c = (omega (arith, c.decreases), (c.requires.ready, c.requires.count_bound))

pub fields-returns-in_err-n : goal.fields-returns-in_err-n
fields-returns-in_err-n t c = same_runs (struct_listed _ _ _ _ _ _ _) (then_stop c.all.ensures.runs _ (is_err _ c.in_err-n.was) (is_handed_on _ _ c.from_residual.ensures))

pub fields-intern_struct-requires-clause-all_below : goal.fields-intern_struct-requires-clause-all_below
fields-intern_struct-requires-clause-all_below t c = collected_below c.requires.ready _ _ _ _ c.all.ensures.runs c.in_ok-n.was

pub fields-returns-in_err-t : goal.fields-returns-in_err-t
fields-returns-in_err-t t c = same_runs (struct_listed _ _ _ _ _ _ _) (then_on c.all.ensures.runs _ (is_ok _ c.in_ok-n.was) (then_stop (interns_runs c.all.ensures.runs.ready c.intern_struct.ensures) _ (is_err _ c.in_err-t.was) (is_handed_on _ _ c.from_residual-in_err-t.ensures)))

pub fields-returns : goal.fields-returns
fields-returns t c = same_runs (struct_listed _ _ _ _ _ _ _) (then_on c.all.ensures.runs _ (is_ok _ c.in_ok-n.was) (then_on (interns_runs c.all.ensures.runs.ready c.intern_struct.ensures) _ (is_ok _ c.in_ok-t.was) (knows (interns_runs c.all.ensures.runs.ready c.intern_struct.ensures).ready refl)))

pub fn_signature-returns-in_err-next : goal.fn_signature-returns-in_err-next
fn_signature-returns-in_err-next t c = entered_stops c.requires c.enter.ensures c.in_err-next.was (is_handed_on _ _ c.from_residual.ensures)

pub fn_signature-returns-in_default : goal.fn_signature-returns-in_default
fn_signature-returns-in_default t c = entered_runs c.requires c.enter.ensures c.in_ok-next.was (signature_absent (entered_ready c.requires c.enter.ensures c.in_ok-next.was) _ _ c.definition_in.ensures c.in_default.is)

pub fn_signature-returns-in_default-kind : goal.fn_signature-returns-in_default-kind
fn_signature-returns-in_default-kind t c = entered_runs c.requires c.enter.ensures c.in_ok-next.was (signature_found _ _ c.definition_in.ensures c.in-Some.is (no_function (entered_ready c.requires c.enter.ensures c.in_ok-next.was) _ _ _ _ c.in_default-kind.not-Function))

pub fn_signature-sig-requires : goal.fn_signature-sig-requires
fn_signature-sig-requires t c = (enter_falls 2 (omega arith) c.enter.ensures c.in_ok-next.was (sym c.decreases), ((entered_ready c.requires c.enter.ensures c.in_ok-next.was), short_params c.requires c.definition_in.ensures c.in-Some.is c.in-Function.is))

pub fn_signature-returns : goal.fn_signature-returns
fn_signature-returns t c = entered_runs c.requires c.enter.ensures c.in_ok-next.was (signature_found _ _ c.definition_in.ensures c.in-Some.is (function_parted _ _ _ _ _ _ c.in-Function.is c.sig.ensures))

pub index-returns-in_default : goal.index-returns-in_default
index-returns-in_default t c = same_runs (index_reads _ _ _) (none_runs _ _ _ (ap expression_link_of c.in_default.is) (answers c.requires refl))

pub index-expr_type-requires : goal.index-expr_type-requires
index-expr_type-requires t c = (omega (arith, c.decreases), c.requires)

pub index-returns-in_err-t : goal.index-returns-in_err-t
index-returns-in_err-t t c = same_runs (index_reads _ _ _) (some_runs _ _ _ (ap expression_link_of c.in-Some.is) (then_refused c.expr_type.ensures _ c.in_err-t.was c.from_residual.ensures))

pub index-only-requires : goal.index-only-requires
index-only-requires t c = (omega (arith, c.decreases), c.expr_type.ensures.ready)

pub index-returns-in_err-only : goal.index-returns-in_err-only
index-returns-in_err-only t c = same_runs (index_reads _ _ _) (some_runs _ _ _ (ap expression_link_of c.in-Some.is) (then_given c.expr_type.ensures _ c.in_ok-t.was (then_refused c.only.ensures _ c.in_err-only.was c.from_residual-in_err-only.ensures)))

pub index-returns : goal.index-returns
index-returns t c = same_runs (index_reads _ _ _) (some_runs _ _ _ (ap expression_link_of c.in-Some.is) (then_given c.expr_type.ensures _ c.in_ok-t.was (then_given c.only.ensures _ c.in_ok-only.was (reads c.only.ensures.ready (c.element_type.ensures _)))))

pub lit-returns-in-Some : goal.lit-returns-in-Some
unfolding numeric_context_read
lit-returns-in-Some t c = same_runs (literal_numbered _ _ _ _ _) (some_runs _ _ _ (sym c.suffix_type.ensures ∙ c.in-Some.is) (answers c.requires refl))

pub lit-returns-in_default-expected : goal.lit-returns-in_default-expected
unfolding numeric_context_read
lit-returns-in_default-expected t c = same_runs (literal_numbered _ _ _ _ _) (none_runs _ _ _ (sym c.suffix_type.ensures ∙ c.in_default.is) (none_runs _ _ _ (ap type_link_of c.in_default-expected.is) (none_runs _ _ _ refl (reads c.requires (c.numeric_context.ensures _)))))

pub lit-ast_type-requires : goal.lit-ast_type-requires
lit-ast_type-requires t c = (omega (arith, c.decreases), c.requires)

pub lit-returns-in_err-x : goal.lit-returns-in_err-x
unfolding numeric_context_read
lit-returns-in_err-x t c = same_runs (literal_numbered _ _ _ _ _) (none_runs _ _ _ (sym c.suffix_type.ensures ∙ c.in_default.is) (some_runs _ _ _ (ap type_link_of c.in-Some-expected.is) (then_refused c.ast_type.ensures _ c.in_err-x.was c.from_residual.ensures)))

pub lit-returns : goal.lit-returns
unfolding numeric_context_read
lit-returns t c = same_runs (literal_numbered _ _ _ _ _) (none_runs _ _ _ (sym c.suffix_type.ensures ∙ c.in_default.is) (some_runs _ _ _ (ap type_link_of c.in-Some-expected.is) (then_given c.ast_type.ensures _ c.in_ok-x.was (look_runs _ (numeric_runs c.ast_type.ensures.ready c.numeric_or.ensures)))))

pub member-returns-in_default : goal.member-returns-in_default
member-returns-in_default t c = same_runs (member_reads _ _ _) (none_runs _ _ _ (ap expression_link_of c.in_default.is) (answers c.requires refl))

pub member-expr_type-requires : goal.member-expr_type-requires
member-expr_type-requires t c = (omega (arith, c.decreases), c.requires)

pub member-returns-in_err-t : goal.member-returns-in_err-t
member-returns-in_err-t t c = same_runs (member_reads _ _ _) (some_runs _ _ _ (ap expression_link_of c.in-Some.is) (then_refused c.expr_type.ensures _ c.in_err-t.was c.from_residual.ensures))

pub member-returns : goal.member-returns
member-returns t c = same_runs (member_reads _ _ _) (some_runs _ _ _ (ap expression_link_of c.in-Some.is) (then_given c.expr_type.ensures _ c.in_ok-t.was (reads c.expr_type.ensures.ready c.member_type.ensures)))

pub named-returns-in_default : goal.named-returns-in_default
unfolding struct_named
named-returns-in_default t c = none_runs _ _ _ (ap definition_link_of c.in_default.is) (answers c.requires refl)

pub named-def_type-requires : goal.named-def_type-requires
named-def_type-requires t c = (omega (arith, c.decreases), c.requires)

pub named-returns-in_err-t : goal.named-returns-in_err-t
unfolding struct_named
named-returns-in_err-t t c = some_runs _ _ _ (ap definition_link_of c.in-Some.is) (then_refused c.def_type.ensures _ c.in_err-t.was c.from_residual.ensures)

pub named-returns : goal.named-returns
unfolding struct_named
named-returns t c = some_runs _ _ _ (ap definition_link_of c.in-Some.is) (then_given c.def_type.ensures _ c.in_ok-t.was (reads c.def_type.ensures.ready (c.struct_or_error.ensures _)))

pub new-only-requires : goal.new-only-requires
new-only-requires t c = (omega (arith, c.decreases), c.requires)

pub new-returns-in_err-only : goal.new-returns-in_err-only
unfolding new_type
new-returns-in_err-only t c = then_refused c.only.ensures _ c.in_err-only.was c.from_residual.ensures

pub new-ast_type-requires : goal.new-ast_type-requires
new-ast_type-requires t c = (omega (arith, c.decreases), c.only.ensures.ready)

pub new-returns-in_err-element : goal.new-returns-in_err-element
unfolding new_type
new-returns-in_err-element t c = then_given c.only.ensures _ c.in_ok-only.was (then_refused c.ast_type.ensures _ c.in_err-element.was c.from_residual-in_err-element.ensures)

pub new-intern_pointer-requires-clause-element_bound : goal.new-intern_pointer-requires-clause-element_bound
new-intern_pointer-requires-clause-element_bound t c = type_below c.only.ensures.ready c.ast_type.ensures c.in_ok-element.was

pub new-returns : goal.new-returns
unfolding new_type
new-returns t c = then_given c.only.ensures _ c.in_ok-only.was (then_given c.ast_type.ensures _ c.in_ok-element.was (interns_runs c.ast_type.ensures.ready c.intern_pointer.ensures))

pub node-lit-requires : goal.node-lit-requires
node-lit-requires t c = (omega (arith, c.decreases), c.requires.ready)

pub node-def_type-requires : goal.node-def_type-requires
node-def_type-requires t c = (omega (arith, c.decreases), c.requires.ready)

pub node-un-requires : goal.node-un-requires
node-un-requires t c = (omega (arith, c.decreases), c.requires.ready)

pub node-bin-requires : goal.node-bin-requires
node-bin-requires t c = (omega (arith, c.decreases), c.requires.ready)

pub node-call-requires : goal.node-call-requires
node-call-requires t c = (omega (arith, c.decreases), c.requires.ready)

pub node-member-requires : goal.node-member-requires
node-member-requires t c = (omega (arith, c.decreases), c.requires.ready)

pub node-index-requires : goal.node-index-requires
node-index-requires t c = (omega (arith, c.decreases), c.requires.ready)

pub node-named-requires : goal.node-named-requires
node-named-requires t c = (omega (arith, c.decreases), c.requires.ready)

pub node-tidx-requires : goal.node-tidx-requires
node-tidx-requires t c = (omega (arith, c.decreases), c.requires.ready)

pub node-arr-requires : goal.node-arr-requires
node-arr-requires t c = (omega (arith, c.decreases), c.requires.ready)

pub node-rep-requires : goal.node-rep-requires
node-rep-requires t c = (omega (arith, c.decreases), c.requires.ready)

pub node-ast_type-requires : goal.node-ast_type-requires
node-ast_type-requires t c = (omega (arith, c.decreases), c.requires.ready)

pub node-new-requires : goal.node-new-requires
node-new-requires t c = (omega (arith, c.decreases), c.requires.ready)

pub node-expr_type-requires : goal.node-expr_type-requires
node-expr_type-requires t c = (omega (arith, c.decreases), c.requires.ready)

pub node-tuple-requires : goal.node-tuple-requires
node-tuple-requires t c = (omega (arith, c.decreases), (c.requires.ready, subst ShortNode c.in-Tuple.is c.requires.short_node))

pub node-returns-then-is_builtin_function_name : goal.node-returns-then-is_builtin_function_name
unfolding repeat_in parenthesized_type node_type
node-returns-then-is_builtin_function_name t c = by_node _ _ _ _ c.in-Identifier.is (same_runs (identifier_shaped _ _ _ _) (if_true _ _ _ c.is_builtin_function_name.ensures c.if-is_builtin_function_name.true (answers c.requires.ready refl)))

pub node-returns-in_default : goal.node-returns-in_default
unfolding repeat_in parenthesized_type node_type
node-returns-in_default t c = by_node _ _ _ _ c.in-Identifier.is (same_runs (identifier_shaped _ _ _ _) (if_false _ _ _ c.is_builtin_function_name.ensures c.if-is_builtin_function_name.false (none_runs _ _ _ (sym c.identifier_definition.ensures.same ∙ ap definition_link_of c.in_default.is) (answers c.requires.ready refl))))

pub node-returns-in-Some : goal.node-returns-in-Some
unfolding repeat_in parenthesized_type node_type
node-returns-in-Some t c = by_node _ _ _ _ c.in-Identifier.is (same_runs (identifier_shaped _ _ _ _) (if_false _ _ _ c.is_builtin_function_name.ensures c.if-is_builtin_function_name.false (some_runs _ _ _ (sym c.identifier_definition.ensures.same ∙ ap definition_link_of c.in-Some.is) c.def_type.ensures)))

pub node-returns-in-Literal : goal.node-returns-in-Literal
unfolding repeat_in parenthesized_type node_type
node-returns-in-Literal t c = by_node _ _ _ _ c.in-Literal.is (same_runs (literal_shaped _ _ _ _) c.lit.ensures)

pub node-returns-in-BooleanLiteral : goal.node-returns-in-BooleanLiteral
unfolding repeat_in parenthesized_type node_type
node-returns-in-BooleanLiteral t c = by_node _ _ _ _ c.in-BooleanLiteral.is (answers c.requires.ready refl)

pub node-returns-in-Unary : goal.node-returns-in-Unary
unfolding repeat_in parenthesized_type node_type
node-returns-in-Unary t c = by_node _ _ _ _ c.in-Unary.is c.un.ensures

pub node-returns-in-Binary : goal.node-returns-in-Binary
unfolding repeat_in parenthesized_type node_type
node-returns-in-Binary t c = by_node _ _ _ _ c.in-Binary.is c.bin.ensures

pub node-returns-in-FunctionCall : goal.node-returns-in-FunctionCall
unfolding repeat_in parenthesized_type node_type
node-returns-in-FunctionCall t c = by_node _ _ _ _ c.in-FunctionCall.is c.call.ensures

pub node-returns-in-MemberAccess : goal.node-returns-in-MemberAccess
unfolding repeat_in parenthesized_type node_type
node-returns-in-MemberAccess t c = by_node _ _ _ _ c.in-MemberAccess.is c.member.ensures

pub node-returns-in-IndexAccess : goal.node-returns-in-IndexAccess
unfolding repeat_in parenthesized_type node_type
node-returns-in-IndexAccess t c = by_node _ _ _ _ c.in-IndexAccess.is c.index.ensures

pub node-returns-in-Tuple : goal.node-returns-in-Tuple
unfolding repeat_in parenthesized_type node_type
node-returns-in-Tuple t c = by_node _ _ _ _ c.in-Tuple.is c.tuple.ensures

pub node-returns-in-TupleIndex : goal.node-returns-in-TupleIndex
unfolding repeat_in parenthesized_type node_type
node-returns-in-TupleIndex t c = by_node _ _ _ _ c.in-TupleIndex.is c.tidx.ensures

pub node-returns-in-ArrayRepeat : goal.node-returns-in-ArrayRepeat
unfolding repeat_in parenthesized_type node_type
node-returns-in-ArrayRepeat t c = by_node _ _ _ _ c.in-ArrayRepeat.is c.rep.ensures

pub node-returns-in-Cast : goal.node-returns-in-Cast
unfolding repeat_in parenthesized_type node_type
node-returns-in-Cast t c = by_node _ _ _ _ c.in-Cast.is c.ast_type.ensures

pub node-returns-in-New : goal.node-returns-in-New
unfolding repeat_in parenthesized_type node_type
node-returns-in-New t c = by_node _ _ _ _ c.in-New.is c.new.ensures

pub node-returns-in-StructLiteral : goal.node-returns-in-StructLiteral
unfolding repeat_in parenthesized_type node_type
node-returns-in-StructLiteral t c = by_node _ _ _ _ c.in-StructLiteral.is (same_runs (literal_named _ _ _ _ _ _) (led_to _ c.resolve_name_at_position-found.result _ c.resolve_name_at_position-found.ensures c.named.ensures))

pub node-returns-in-ArrayLiteral : goal.node-returns-in-ArrayLiteral
unfolding repeat_in parenthesized_type node_type
node-returns-in-ArrayLiteral t c = by_node _ _ _ _ c.in-ArrayLiteral.is (same_runs (array_shaped _ _ _ _) c.arr.ensures)

pub node-returns-in_default-inner : goal.node-returns-in_default-inner
unfolding repeat_in parenthesized_type node_type
node-returns-in_default-inner t c = by_node _ _ _ _ c.in-Parenthesized.is (none_runs _ _ _ (ap expression_link_of c.in_default-inner.is) (answers c.requires.ready refl))

pub node-returns-in-Some-inner : goal.node-returns-in-Some-inner
unfolding repeat_in parenthesized_type node_type
node-returns-in-Some-inner t c = by_node _ _ _ _ c.in-Parenthesized.is (some_runs _ _ _ (ap expression_link_of c.in-Some-inner.is) c.expr_type.ensures)

pub only-returns-in_default : goal.only-returns-in_default
unfolding infer_only
only-returns-in_default t c = none_runs _ _ _ (ap expression_link_of c.in_default.is) (ends c.requires (is_ok _ refl))

pub only-expr_type-requires : goal.only-expr_type-requires
only-expr_type-requires t c = (omega (arith, c.decreases), c.requires)

pub only-returns-in_err-expr_type : goal.only-returns-in_err-expr_type
unfolding infer_only
only-returns-in_err-expr_type t c = some_runs _ _ _ (ap expression_link_of c.in-Some.is) (then_refused c.expr_type.ensures _ c.in_err-expr_type.was c.from_residual.ensures)

pub only-returns : goal.only-returns
unfolding infer_only
only-returns t c = some_runs _ _ _ (ap expression_link_of c.in-Some.is) (then_given c.expr_type.ensures _ c.in_ok-expr_type.was (ends c.expr_type.ensures.ready (is_ok _ refl)))

pub origin-returns-in-Some : goal.origin-returns-in-Some
unfolding return_context assignment_context context_from_origin
origin-returns-in-Some t c = given_context c.requires _ _ _ c.args.context c.in-Some.is

pub origin-ast_type-requires : goal.origin-ast_type-requires
origin-ast_type-requires t c = (omega (arith, c.decreases), c.requires)

pub origin-fn_signature-requires : goal.origin-fn_signature-requires
origin-fn_signature-requires t c = (omega (arith, c.decreases), c.requires)

pub origin-expr_type-requires : goal.origin-expr_type-requires
origin-expr_type-requires t c = (omega (arith, c.decreases), c.requires)

pub origin-fn_signature-requires-in-ReturnExpr : goal.origin-fn_signature-requires-in-ReturnExpr
origin-fn_signature-requires-in-ReturnExpr t c = (omega (arith, c.decreases), c.requires)

pub origin-returns-in-Plain : goal.origin-returns-in-Plain
unfolding return_context assignment_context context_from_origin
origin-returns-in-Plain t c = from_origin _ _ c.args.info c.args.context _ c.in_default.is c.in-Plain.is (knows_nothing c.requires)

pub origin-returns-in_default-field_type_expr : goal.origin-returns-in_default-field_type_expr
unfolding return_context assignment_context context_from_origin
origin-returns-in_default-field_type_expr t c = from_origin _ _ c.args.info c.args.context _ c.in_default.is c.in-StructField.is (same_runs (field_shaped _ _ _ _) (none_runs _ _ _ (sym c.field_type_expr.ensures.same ∙ ap found_field_type_of c.in_default-field_type_expr.is) (knows_nothing c.requires)))

pub origin-returns-in_err-found-in-StructField : goal.origin-returns-in_err-found-in-StructField
unfolding return_context assignment_context context_from_origin
origin-returns-in_err-found-in-StructField t c = from_origin _ _ c.args.info c.args.context _ c.in_default.is c.in-StructField.is (same_runs (field_shaped _ _ _ _) (some_runs _ _ _ (sym c.field_type_expr.ensures.same ∙ ap found_field_type_of c.in-Some-field_type_expr.is) (then_refused c.ast_type.ensures _ c.in_err-found-in-StructField.was c.from_residual.ensures)))

pub origin-returns-in_ok-found-in-StructField : goal.origin-returns-in_ok-found-in-StructField
unfolding return_context assignment_context context_from_origin
origin-returns-in_ok-found-in-StructField t c = from_origin _ _ c.args.info c.args.context _ c.in_default.is c.in-StructField.is (same_runs (field_shaped _ _ _ _) (some_runs _ _ _ (sym c.field_type_expr.ensures.same ∙ ap found_field_type_of c.in-Some-field_type_expr.is) (then_given c.ast_type.ensures _ c.in_ok-found-in-StructField.was (knows c.ast_type.ensures.ready refl))))

pub origin-returns-in_default-argument_definition : goal.origin-returns-in_default-argument_definition
unfolding return_context assignment_context context_from_origin
origin-returns-in_default-argument_definition t c = from_origin _ _ c.args.info c.args.context _ c.in_default.is c.in-Arg.is (same_runs (argument_shaped _ _ _ _) (none_runs _ _ _ (sym (c.argument_definition.ensures.same _) ∙ ap definition_link_of c.in_default-argument_definition.is) (knows_nothing c.requires)))

pub origin-returns-in_err-signature-in-Arg : goal.origin-returns-in_err-signature-in-Arg
unfolding return_context assignment_context context_from_origin
origin-returns-in_err-signature-in-Arg t c = from_origin _ _ c.args.info c.args.context _ c.in_default.is c.in-Arg.is (same_runs (argument_shaped _ _ _ _) (some_runs _ _ _ (sym (c.argument_definition.ensures.same _) ∙ ap definition_link_of c.in-Some-argument_definition.is) (then_refused c.fn_signature.ensures _ c.in_err-signature-in-Arg.was c.from_residual-in_err-signature-in-Arg.ensures)))

pub origin-returns-in_ok-signature-in-Arg : goal.origin-returns-in_ok-signature-in-Arg
unfolding return_context assignment_context context_from_origin
origin-returns-in_ok-signature-in-Arg t c = from_origin _ _ c.args.info c.args.context _ c.in_default.is c.in-Arg.is (same_runs (argument_shaped _ _ _ _) (some_runs _ _ _ (sym (c.argument_definition.ensures.same _) ∙ ap definition_link_of c.in-Some-argument_definition.is) (passed_runs c.fn_signature.ensures _ c.in_ok-signature-in-Arg.was c.passed.ensures)))

pub origin-returns-then-not-is_unsuffixed_literal : goal.origin-returns-then-not-is_unsuffixed_literal
unfolding return_context assignment_context context_from_origin
origin-returns-then-not-is_unsuffixed_literal t c = from_origin _ _ c.args.info c.args.context _ c.in_default.is c.in-AssignmentRhs.is (if_false _ _ _ (c.is_unsuffixed_literal.ensures.same _ _) (c.if-not-is_unsuffixed_literal.true) (knows_nothing c.requires))

pub origin-returns-in_err-found-in-AssignmentRhs : goal.origin-returns-in_err-found-in-AssignmentRhs
unfolding return_context assignment_context context_from_origin
origin-returns-in_err-found-in-AssignmentRhs t c = from_origin _ _ c.args.info c.args.context _ c.in_default.is c.in-AssignmentRhs.is (if_true _ _ _ (c.is_unsuffixed_literal.ensures.same _ _) (c.if-not-is_unsuffixed_literal.false) (then_refused c.expr_type.ensures _ c.in_err-found-in-AssignmentRhs.was c.from_residual-in_err-found-in-AssignmentRhs.ensures))

pub origin-returns-in_ok-found-in-AssignmentRhs : goal.origin-returns-in_ok-found-in-AssignmentRhs
unfolding return_context assignment_context context_from_origin
origin-returns-in_ok-found-in-AssignmentRhs t c = from_origin _ _ c.args.info c.args.context _ c.in_default.is c.in-AssignmentRhs.is (if_true _ _ _ (c.is_unsuffixed_literal.ensures.same _ _) (c.if-not-is_unsuffixed_literal.false) (then_given c.expr_type.ensures _ c.in_ok-found-in-AssignmentRhs.was (knows c.expr_type.ensures.ready refl)))

pub origin-returns-in_default-first_function_around : goal.origin-returns-in_default-first_function_around
unfolding return_context assignment_context context_from_origin
origin-returns-in_default-first_function_around t c = from_origin _ _ c.args.info c.args.context _ c.in_default.is c.in-ReturnExpr.is (none_runs _ _ _ (sym (c.first_function_around.ensures _) ∙ ap definition_link_of c.in_default-first_function_around.is) (knows_nothing c.requires))

pub origin-returns-in_err-signature-in-ReturnExpr : goal.origin-returns-in_err-signature-in-ReturnExpr
unfolding return_context assignment_context context_from_origin
origin-returns-in_err-signature-in-ReturnExpr t c = from_origin _ _ c.args.info c.args.context _ c.in_default.is c.in-ReturnExpr.is (some_runs _ _ _ (sym (c.first_function_around.ensures _) ∙ ap definition_link_of c.in-Some-first_function_around.is) (then_refused c.fn_signature-in-ReturnExpr.ensures _ c.in_err-signature-in-ReturnExpr.was c.from_residual-in_err-signature-in-ReturnExpr.ensures))

pub origin-returns-in_ok-signature-in-ReturnExpr : goal.origin-returns-in_ok-signature-in-ReturnExpr
unfolding return_context assignment_context context_from_origin
origin-returns-in_ok-signature-in-ReturnExpr t c = from_origin _ _ c.args.info c.args.context _ c.in_default.is c.in-ReturnExpr.is (some_runs _ _ _ (sym (c.first_function_around.ensures _) ∙ ap definition_link_of c.in-Some-first_function_around.is) (returned_runs c.fn_signature-in-ReturnExpr.ensures _ c.in_ok-signature-in-ReturnExpr.was c.returned.ensures))

pub origin-returns-in-Condition : goal.origin-returns-in-Condition
unfolding return_context assignment_context context_from_origin
origin-returns-in-Condition t c = from_origin _ _ c.args.info c.args.context _ c.in_default.is c.in-Condition.is (knows c.requires refl)

pub rep-returns-in_err-e : goal.rep-returns-in_err-e
unfolding array_repeat_type
rep-returns-in_err-e t c = repeated _ _ _ _ (c.element_hint-hint.ensures _) (none_runs _ _ _ (ap expression_link_of (was_missing c.ok_or.ensures.ok_part c.in_err-e.was)) (missing_runs c.requires _ Refusal.MissingChild c.ok_or.ensures.value c.in_err-e.was c.from_residual.ensures))

pub rep-expr_type-requires : goal.rep-expr_type-requires
rep-expr_type-requires t c = (omega (arith, c.decreases), c.requires)

pub rep-returns-in_err-t : goal.rep-returns-in_err-t
unfolding array_repeat_type
rep-returns-in_err-t t c = repeated _ _ _ _ (c.element_hint-hint.ensures _) (child_runs _ _ c.ok_or.ensures.ok_part c.in_ok-e.was (then_refused c.expr_type.ensures _ c.in_err-t.was c.from_residual-in_err-t.ensures))

pub rep-intern_array-requires-clause-element_bound : goal.rep-intern_array-requires-clause-element_bound
rep-intern_array-requires-clause-element_bound t c = expression_below c.requires (hinted c.requires _ _ (c.element_hint-hint.ensures _)) c.expr_type.ensures c.in_ok-t.was

pub rep-returns : goal.rep-returns
unfolding array_repeat_type
rep-returns t c = repeated _ _ _ _ (c.element_hint-hint.ensures _) (child_runs _ _ c.ok_or.ensures.ok_part c.in_ok-e.was (then_given c.expr_type.ensures _ c.in_ok-t.was (interns_runs c.expr_type.ensures.ready c.intern_array.ensures)))

pub same-loop-i-init : goal.same-loop-i-init
same-loop-i-init t c = leads_from _ (ap (all_same_type _ _) (links_behind_first _ _ _ c.requires.le_count)) c.requires.ready

pub same-returns-in_default : goal.same-returns-in_default
same-returns-in_default t c = same_absent _ _ _ _ _ c.loop-i.invariant _ c.loop-i-test.true c.item_link.ensures c.in_default.is

pub same-expr_type-requires : goal.same-expr_type-requires
same-expr_type-requires t c = (omega (arith, c.decreases), c.loop-i.invariant.ready)

pub same-returns-in_err-x : goal.same-returns-in_err-x
same-returns-in_err-x t c = same_stops _ _ _ _ _ c.loop-i.invariant _ c.loop-i-test.true c.item_link.ensures c.in-Some.is c.expr_type.ensures c.in_err-x.was c.from_residual.ensures

pub same-returns-then-not-are_types_compatible : goal.same-returns-then-not-are_types_compatible
same-returns-then-not-are_types_compatible t c = same_differs _ _ _ _ _ c.loop-i.invariant _ c.loop-i-test.true c.item_link.ensures c.in-Some.is c.expr_type.ensures c.in_ok-x.was (sym c.are_types_compatible.ensures ∙ c.if-not-are_types_compatible.true)

pub same-loop-i-preserved : goal.same-loop-i-preserved
same-loop-i-preserved t c = same_more _ _ _ _ _ c.loop-i.invariant _ c.loop-i-test.true c.item_link.ensures c.in-Some.is c.expr_type.ensures c.in_ok-x.was (sym c.are_types_compatible.ensures ∙ c.if-not-are_types_compatible.false)

pub same-returns : goal.same-returns
same-returns t c = same_all _ _ _ _ _ c.loop-i.invariant c.loop-i-test.false

pub sig-all-requires : goal.sig-all-requires
sig-all-requires t c = (omega (arith, c.decreases), (c.requires.ready, c.requires.count_bound))

pub sig-returns-in_err-n : goal.sig-returns-in_err-n
sig-returns-in_err-n t c = same_runs (signature_listed _ _ _ _ _ _ _ _) (then_stop c.all.ensures.runs _ (is_err _ c.in_err-n.was) (is_handed_on _ _ c.from_residual.ensures))

pub sig-ast_type-requires : goal.sig-ast_type-requires
sig-ast_type-requires t c = (omega (arith, c.decreases), c.all.ensures.runs.ready)

pub sig-returns-in_err-x : goal.sig-returns-in_err-x
sig-returns-in_err-x t c = same_runs (signature_listed _ _ _ _ _ _ _ _) (then_on c.all.ensures.runs _ (is_ok _ c.in_ok-n.was) (then_refused c.ast_type.ensures _ c.in_err-x.was c.from_residual-in_err-x.ensures))

pub sig-intern_function-requires-clause-all_below : goal.sig-intern_function-requires-clause-all_below
sig-intern_function-requires-clause-all_below t c = later_all_below (take c.in_ok-n.n c.all.new.out) c.ast_type.ensures.grows (collected_below c.requires.ready _ _ _ _ c.all.ensures.runs c.in_ok-n.was)

pub sig-intern_function-requires-clause-return_type_bound : goal.sig-intern_function-requires-clause-return_type_bound
sig-intern_function-requires-clause-return_type_bound t c = type_below c.all.ensures.runs.ready c.ast_type.ensures c.in_ok-x.was

pub sig-returns-in_err-f : goal.sig-returns-in_err-f
sig-returns-in_err-f t c = same_runs (signature_listed _ _ _ _ _ _ _ _) (then_on c.all.ensures.runs _ (is_ok _ c.in_ok-n.was) (then_given c.ast_type.ensures _ c.in_ok-x.was (then_stop (interns_runs c.ast_type.ensures.ready c.intern_function.ensures) _ (is_err _ c.in_err-f.was) (is_handed_on _ _ c.from_residual-in_err-f.ensures))))

pub sig-returns : goal.sig-returns
sig-returns t c = same_runs (signature_listed _ _ _ _ _ _ _ _) (then_on c.all.ensures.runs _ (is_ok _ c.in_ok-n.was) (then_given c.ast_type.ensures _ c.in_ok-x.was (then_on (interns_runs c.ast_type.ensures.ready c.intern_function.ensures) _ (is_ok _ c.in_ok-f.was) (knows (interns_runs c.ast_type.ensures.ready c.intern_function.ensures).ready refl))))

pub struct_data-returns-in_err-next : goal.struct_data-returns-in_err-next
struct_data-returns-in_err-next t c = entered_stops c.requires c.enter.ensures c.in_err-next.was (is_handed_on _ _ c.from_residual.ensures)

pub struct_data-returns-in_default : goal.struct_data-returns-in_default
struct_data-returns-in_default t c = entered_runs c.requires c.enter.ensures c.in_ok-next.was (struct_absent (entered_ready c.requires c.enter.ensures c.in_ok-next.was) _ _ c.definition_in.ensures c.in_default.is)

pub struct_data-returns-in_default-kind : goal.struct_data-returns-in_default-kind
struct_data-returns-in_default-kind t c = entered_runs c.requires c.enter.ensures c.in_ok-next.was (struct_found _ _ c.definition_in.ensures c.in-Some.is (no_struct (entered_ready c.requires c.enter.ensures c.in_ok-next.was) _ _ _ _ c.in_default-kind.not-Struct))

pub struct_data-fields-requires : goal.struct_data-fields-requires
struct_data-fields-requires t c = (enter_falls 2 (omega arith) c.enter.ensures c.in_ok-next.was (sym c.decreases), ((entered_ready c.requires c.enter.ensures c.in_ok-next.was), short_fields c.requires c.definition_in.ensures c.in-Some.is c.in-Struct.is))

pub struct_data-returns : goal.struct_data-returns
struct_data-returns t c = entered_runs c.requires c.enter.ensures c.in_ok-next.was (struct_found _ _ c.definition_in.ensures c.in-Some.is (struct_fielded _ _ _ _ _ c.in-Struct.is c.fields.ensures))

pub tidx-returns-in_err-x : goal.tidx-returns-in_err-x
tidx-returns-in_err-x t c = same_runs (tuple_index_reads _ _ _) (none_runs _ _ _ (ap expression_link_of (was_missing c.ok_or.ensures.ok_part c.in_err-x.was)) (missing_runs c.requires _ Refusal.MissingChild c.ok_or.ensures.value c.in_err-x.was c.from_residual.ensures))

pub tidx-expr_type-requires : goal.tidx-expr_type-requires
tidx-expr_type-requires t c = (omega (arith, c.decreases), c.requires)

pub tidx-returns-in_err-t : goal.tidx-returns-in_err-t
tidx-returns-in_err-t t c = same_runs (tuple_index_reads _ _ _) (child_runs _ _ c.ok_or.ensures.ok_part c.in_ok-x.was (then_refused c.expr_type.ensures _ c.in_err-t.was c.from_residual-in_err-t.ensures))

pub tidx-returns : goal.tidx-returns
tidx-returns t c = same_runs (tuple_index_reads _ _ _) (child_runs _ _ c.ok_or.ensures.ok_part c.in_ok-x.was (then_given c.expr_type.ensures _ c.in_ok-t.was (reads c.expr_type.ensures.ready (c.tuple_element.ensures _))))

pub tup-all-requires : goal.tup-all-requires
tup-all-requires t c = (omega (arith, c.decreases), (c.requires.ready, c.requires.count_bound))

pub tup-returns-in_err-n : goal.tup-returns-in_err-n
unfolding tuple_expr_type
tup-returns-in_err-n t c = then_stop c.all.ensures.runs _ (is_err _ c.in_err-n.was) (is_handed_on _ _ c.from_residual.ensures)

pub tup-intern_tuple-requires-clause-all_below : goal.tup-intern_tuple-requires-clause-all_below
tup-intern_tuple-requires-clause-all_below t c = collected_below c.requires.ready _ _ _ _ c.all.ensures.runs c.in_ok-n.was

pub tup-returns : goal.tup-returns
unfolding tuple_expr_type
tup-returns t c = then_on c.all.ensures.runs _ (is_ok _ c.in_ok-n.was) (interns_runs c.all.ensures.runs.ready c.intern_tuple.ensures)

pub tuple-elems-requires : goal.tuple-elems-requires
tuple-elems-requires t c = (omega (arith, c.decreases), (c.requires.ready, (c.element_contexts-contexts.ensures.within _ c.requires.ready.sound, c.requires.count_bound)))

pub tuple-returns-in_err-n : goal.tuple-returns-in_err-n
unfolding tuple_type
tuple-returns-in_err-n t c = tuple_looked _ _ _ _ _ c.element_contexts-contexts.ensures (then_stop c.elems.ensures.runs _ (is_err _ c.in_err-n.was) (is_handed_on _ _ c.from_residual.ensures))

pub tuple-intern_tuple-requires-clause-all_below : goal.tuple-intern_tuple-requires-clause-all_below
tuple-intern_tuple-requires-clause-all_below t c = elements_below c.requires.ready _ _ _ _ _ (contexts_good c.requires.ready c.element_contexts-contexts.ensures) c.elems.ensures.runs c.in_ok-n.was

pub tuple-returns-then-n-count : goal.tuple-returns-then-n-count
unfolding tuple_type
tuple-returns-then-n-count t c = tuple_looked _ _ _ _ _ c.element_contexts-contexts.ensures (then_on c.elems.ensures.runs _ (is_ok _ c.in_ok-n.was) (if_true _ _ _ (sym (eq-eqb _ _ (sym (let most = c.elems.ensures.at_most.number _ c.in_ok-n.was in taken_length c.in_ok-n.n c.elems.new.out (omega (arith, most, c.elements-2-1.given, c.requires.count_bound))) ∙ c.if-n-count.true ∙ sym (links_length _ _ _)))) refl (interns_runs c.elems.ensures.runs.ready c.intern_tuple.ensures)))

pub tuple-returns-else-n-count : goal.tuple-returns-else-n-count
unfolding tuple_type
tuple-returns-else-n-count t c = tuple_looked _ _ _ _ _ c.element_contexts-contexts.ensures (then_on c.elems.ensures.runs _ (is_ok _ c.in_ok-n.was) (if_false _ _ _ (sym (ne_eqb _ _ (λ e. c.if-n-count.false ((let most = c.elems.ensures.at_most.number _ c.in_ok-n.was in taken_length c.in_ok-n.n c.elems.new.out (omega (arith, most, c.elements-2-1.given, c.requires.count_bound))) ∙ e ∙ links_length _ _ _)))) refl (answers c.elems.ensures.runs.ready refl)))

pub ty-named-requires : goal.ty-named-requires
ty-named-requires t c = (omega (arith, c.decreases), c.requires.ready)

pub ty-ast_type-requires : goal.ty-ast_type-requires
ty-ast_type-requires t c = (omega (arith, c.decreases), c.requires.ready)

pub ty-array-requires : goal.ty-array-requires
ty-array-requires t c = (omega (arith, c.decreases), c.requires.ready)

pub ty-tup-requires : goal.ty-tup-requires
ty-tup-requires t c = (omega (arith, c.decreases), (c.requires.ready, subst ShortType c.in-Tuple.is c.requires.short_type))

pub ty-returns-in_err-element-in-Pointer : goal.ty-returns-in_err-element-in-Pointer
unfolding type_expr_type tuple_expr_type
ty-returns-in_err-element-in-Pointer t c = by_type_expr _ _ _ c.in-Pointer.is (then_refused c.ast_type.ensures _ c.in_err-element-in-Pointer.was c.from_residual.ensures)

pub ty-intern_pointer-requires-clause-element_bound : goal.ty-intern_pointer-requires-clause-element_bound
ty-intern_pointer-requires-clause-element_bound t c = type_below c.requires.ready c.ast_type.ensures c.in_ok-element-in-Pointer.was

pub ty-returns-in-Felt : goal.ty-returns-in-Felt
unfolding type_expr_type tuple_expr_type
ty-returns-in-Felt t c = by_type_expr _ _ _ c.in-Felt.is (answers c.requires.ready refl)

pub ty-returns-in-Bool : goal.ty-returns-in-Bool
unfolding type_expr_type tuple_expr_type
ty-returns-in-Bool t c = by_type_expr _ _ _ c.in-Bool.is (answers c.requires.ready refl)

pub ty-returns-in-U32 : goal.ty-returns-in-U32
unfolding type_expr_type tuple_expr_type
ty-returns-in-U32 t c = by_type_expr _ _ _ c.in-U32.is (answers c.requires.ready refl)

pub ty-returns-in-Custom : goal.ty-returns-in-Custom
unfolding type_expr_type tuple_expr_type
ty-returns-in-Custom t c = by_type_expr _ _ _ c.in-Custom.is (same_runs (custom_named _ _ _ _) (led_to _ c.latest_definition_index_by_name_in_chain-found.result _ c.latest_definition_index_by_name_in_chain-found.ensures c.named.ensures))

pub ty-returns-in_ok-element-in-Pointer : goal.ty-returns-in_ok-element-in-Pointer
unfolding type_expr_type tuple_expr_type
ty-returns-in_ok-element-in-Pointer t c = by_type_expr _ _ _ c.in-Pointer.is (then_given c.ast_type.ensures _ c.in_ok-element-in-Pointer.was (interns_runs c.ast_type.ensures.ready c.intern_pointer.ensures))

pub ty-returns-in-Tuple : goal.ty-returns-in-Tuple
unfolding type_expr_type tuple_expr_type
ty-returns-in-Tuple t c = by_type_expr _ _ _ c.in-Tuple.is c.tup.ensures

pub ty-returns-in-FixedArray : goal.ty-returns-in-FixedArray
unfolding type_expr_type tuple_expr_type
ty-returns-in-FixedArray t c = by_type_expr _ _ _ c.in-FixedArray.is c.array.ensures

pub un-returns-in_err-e : goal.un-returns-in_err-e
unfolding unary_type
un-returns-in_err-e t c = none_runs _ _ _ (ap expression_link_of (was_missing c.ok_or.ensures.ok_part c.in_err-e.was)) (missing_runs c.requires _ Refusal.MissingChild c.ok_or.ensures.value c.in_err-e.was c.from_residual.ensures)

pub un-expr_type-requires : goal.un-expr_type-requires
un-expr_type-requires t c = (omega (arith, c.decreases), c.requires)

pub un-returns-in_err-t : goal.un-returns-in_err-t
unfolding unary_type
un-returns-in_err-t t c = child_runs _ _ c.ok_or.ensures.ok_part c.in_ok-e.was (then_refused c.expr_type.ensures _ c.in_err-t.was c.from_residual-in_err-t.ensures)

pub un-returns : goal.un-returns
unfolding unary_type
un-returns t c = child_runs _ _ c.ok_or.ensures.ok_part c.in_ok-e.was (then_given c.expr_type.ensures _ c.in_ok-t.was (look_runs _ (answers c.expr_type.ensures.ready c.unary_result.ensures)))

pub var-ast_type-requires : goal.var-ast_type-requires
var-ast_type-requires t c = (omega (arith, c.decreases), c.requires)

pub var-expr_type-requires : goal.var-expr_type-requires
var-expr_type-requires t c = (omega (arith, c.decreases), c.requires)

pub var-returns-in-Some : goal.var-returns-in-Some
var-returns-in-Some t c = declared_as _ _ _ _ _ c.ast_type.ensures (ap type_link_of c.in-Some.is)

pub var-returns-in_default-e : goal.var-returns-in_default-e
var-returns-in_default-e t c = neither_as _ _ _ _ _ (answers c.requires refl) (ap type_link_of c.in_default.is) (ap expression_link_of c.in_default-e.is)

pub var-returns : goal.var-returns
var-returns t c = valued_as _ _ _ _ _ c.expr_type.ensures (ap type_link_of c.in_default.is) (ap expression_link_of c.in-Some-e.is)
