-- Types, rows and lists compared: an element has a lower number than its holder, so the calls end. Assumes nothing.
use mathlib.Core.Path.{◌≡◌, sym, ap, ap₂, ◌∙◌}
use Rattle.std.proofs.lemmas.Iterator.{empty_from_Zip}
use Rattle.std.proofs.lemmas.Slice.Zip.{Zip-more}
use borrow.Author.Tests.{eqb-true, ne_eqb}
use lib.ListN.{length}
use Rattle.compatibility.specs.Pairs.{lists_compatible}
use mathlib.Core.Bool.{true, false, not}
use native.Mathlib.Omega.{arith}
use Rattle.resolution.specs.Compatible.{are_types_compatible}
use Rattle.type_table.specs.Layout.{table_of, AllBelow}
use Rattle.type_table.proofs.Laws.{below_rest}
use Rattle.compatibility.proofs.Store.{mark}
use Rattle.compatibility.proofs.ByKind.{Apart, apart_pointer, apart_array, apart_tuple, apart_plain, or_first, or_second}
use Rattle.compatibility.proofs.Compared.{numbers_equal, rows_tested, pointer_below, array_below, tuple_below, rows_pointer, rows_sizes, rows_array, rows_tuple, rows_apart, lists_step, lists_stop, lists_end, lists_length}
use Rattle.compatibility.proofs.+compatible_compatible_lists_compatible_rows.Goals as goal
use Rattle.compatibility.proofs.+compatible_compatible_lists_compatible_rows.Goals.{compatible-then-actual-expected-via-then-actual-expected, compatible-then-actual-expected-via-else-actual-expected+then-is_marked, compatible_rows-in_default-via-in-Pointer+in_default, compatible_rows-in_default-via-in-FixedArray+in_default, compatible_rows-in_default-via-in-Tuple+in_default, compatible_rows-in_default-via-in_default}

pub compatible-returns-then-actual-expected-clause-value : goal.compatible-returns-then-actual-expected-clause-value
compatible-returns-then-actual-expected-clause-value t c =
    let types = c.args.types.now in
    elim c.then-actual-expected.branch [
      | compatible-then-actual-expected-via-then-actual-expected w ↦ numbers_equal types.file.now types.words.now c.args.actual c.args.expected w.if-actual-expected.true
      | compatible-then-actual-expected-via-else-actual-expected+then-is_marked w ↦
          sym (c.requires.remembers.marked _ _ c.requires.actual_bound.0 c.requires.actual_bound.1 (eqb-true _ _ (sym w.is_marked.ensures ∙ w.if-is_marked.true)))
    ]

pub compatible-returns-then-compatible_rows-clause-remembers_2 : goal.compatible-returns-then-compatible_rows-clause-remembers_2
compatible-returns-then-compatible_rows-clause-remembers_2 t c =
    let types = c.args.types.now in
    let good : true ≡ are_types_compatible (table_of types.file.now types.words.now) c.args.actual c.args.expected =
    rows_tested types.file.now types.words.now types.table_ok c.args.actual c.args.expected c.if-actual-expected.false (c.compatible_rows.result) true (c.compatible_rows.ensures.value) c.if-compatible_rows.true in
    mark types.file.now types.words.now (c.compatible_rows.new.seen) c.mark.new.seen c.args.actual c.args.expected types.sound.types c.requires.actual_bound.0 c.requires.actual_bound.1 good (c.compatible_rows.ensures.remembers_2) c.mark.ensures

pub compatible-returns-then-compatible_rows-clause-value : goal.compatible-returns-then-compatible_rows-clause-value
compatible-returns-then-compatible_rows-clause-value t c =
    let types = c.args.types.now in
    rows_tested types.file.now types.words.now types.table_ok c.args.actual c.args.expected c.if-actual-expected.false (c.compatible_rows.result) true (c.compatible_rows.ensures.value) c.if-compatible_rows.true

pub compatible-returns-clause-value : goal.compatible-returns-clause-value
compatible-returns-clause-value t c =
    let types = c.args.types.now in
    rows_tested types.file.now types.words.now types.table_ok c.args.actual c.args.expected c.if-actual-expected.false (c.compatible_rows.result) false (c.compatible_rows.ensures.value) c.if-compatible_rows.false

pub compatible_lists-returns-then-left-right-clause-value : goal.compatible_lists-returns-then-left-right-clause-value
compatible_lists-returns-then-left-right-clause-value t c =
    let types = c.args.types.now in
    lists_length types.file.now types.words.now c.args.left.now c.args.right.now c.if-left-right.true

pub compatible_lists-returns-then-not-compatible-clause-value : goal.compatible_lists-returns-then-not-compatible-clause-value
compatible_lists-returns-then-not-compatible-clause-value t c =
    let types = c.args.types.now in
    let both = Zip-more c.loop-x.x-iterator c.next.new.self _ _ c.in-Some.is c.next.ensures.steps in
    sym (c.loop-x.invariant.rest ∙ ap₂ (lists_compatible (table_of types.file.now types.words.now)) both.0 both.1
    ∙ lists_stop types.file.now types.words.now c.in-Some.x.now c.in-Some.y.now _ _ c.compatible.result c.compatible.ensures.value (ap not c.if-not-compatible.true))

pub compatible_lists-loop-x-preserved : goal.compatible_lists-loop-x-preserved
compatible_lists-loop-x-preserved t c =
    let types = c.args.types.now in
    let both = Zip-more c.loop-x.x-iterator c.next.new.self _ _ c.in-Some.is c.next.ensures.steps in
    record {
      same_length = omega (arith, c.loop-x.invariant.same_length, ap length both.0, ap length both.1);
      left_below = below_rest _ both.0 c.loop-x.invariant.left_below;
      right_below = below_rest _ both.1 c.loop-x.invariant.right_below;
      remembers = c.compatible.ensures.remembers_2;
      rest = c.loop-x.invariant.rest ∙ ap₂ (lists_compatible (table_of types.file.now types.words.now)) both.0 both.1
          ∙ lists_step types.file.now types.words.now c.in-Some.x.now c.in-Some.y.now _ _ c.compatible.result c.compatible.ensures.value (ap not c.if-not-compatible.false);
    }

pub compatible_lists-returns-clause-value : goal.compatible_lists-returns-clause-value
compatible_lists-returns-clause-value t c =
    let types = c.args.types.now in
    let spent = empty_from_Zip _ c.next.new.self _ c.in-None.is c.next.ensures.steps c.loop-x.invariant.same_length in
    sym (c.loop-x.invariant.rest ∙ ap₂ (lists_compatible (table_of types.file.now types.words.now)) spent.0 spent.1 ∙ lists_end types.file.now types.words.now)

pub compatible_rows-compatible-requires : goal.compatible_rows-compatible-requires
compatible_rows-compatible-requires t c =
    let types = c.args.types.now in
    let below-a = pointer_below c.data-a.ensures types.file.now types.sound c.in-Pointer-Pointer.is-0 in
    let below-e = pointer_below c.data-e.ensures types.file.now types.sound c.in-Pointer-Pointer.is-1 in
    (omega arith, ((omega (arith, below-a, c.requires.actual_bound.0), omega (arith, below-e, c.requires.actual_bound.1)), c.requires.remembers))

pub compatible_rows-returns-in-Pointer-Pointer-clause-value : goal.compatible_rows-returns-in-Pointer-Pointer-clause-value
compatible_rows-returns-in-Pointer-Pointer-clause-value t c =
    rows_pointer c.data-a.ensures c.data-e.ensures c.args.types.now.file.now c.compatible.result c.in-Pointer-Pointer.is-0 c.in-Pointer-Pointer.is-1 c.compatible.ensures.value

pub compatible_rows-returns-else-m-n-clause-value : goal.compatible_rows-returns-else-m-n-clause-value
compatible_rows-returns-else-m-n-clause-value t c =
    ne_eqb _ _ c.if-m-n.false ∙ rows_sizes c.data-a.ensures c.data-e.ensures c.args.types.now.file.now c.in-FixedArray-FixedArray.is-0 c.in-FixedArray-FixedArray.is-1 c.if-m-n.false

pub compatible_rows-compatible-requires-then-m-n : goal.compatible_rows-compatible-requires-then-m-n
compatible_rows-compatible-requires-then-m-n t c =
    let types = c.args.types.now in
    let below-a = array_below c.data-a.ensures types.file.now types.sound c.in-FixedArray-FixedArray.is-0 in
    let below-e = array_below c.data-e.ensures types.file.now types.sound c.in-FixedArray-FixedArray.is-1 in
    (omega arith, ((omega (arith, below-a, c.requires.actual_bound.0), omega (arith, below-e, c.requires.actual_bound.1)), c.requires.remembers))

pub compatible_rows-returns-then-m-n-clause-value : goal.compatible_rows-returns-then-m-n-clause-value
compatible_rows-returns-then-m-n-clause-value t c =
    rows_array c.data-a.ensures c.data-e.ensures c.args.types.now.file.now c.in-FixedArray-FixedArray.is-0 c.in-FixedArray-FixedArray.is-1 c.compatible-then-m-n.result c.if-m-n.true c.compatible-then-m-n.ensures.value

pub compatible_rows-compatible_lists-requires : goal.compatible_rows-compatible_lists-requires
compatible_rows-compatible_lists-requires t c =
    let types = c.args.types.now in
    let below-a : AllBelow c.args.actual c.types_in-left.result.now = rw c.types_in-left.ensures (tuple_below c.data-a.ensures types.file.now types.sound c.in-Tuple-Tuple.is-0) in
    let below-e : AllBelow c.args.expected c.types_in-right.result.now = rw c.types_in-right.ensures (tuple_below c.data-e.ensures types.file.now types.sound c.in-Tuple-Tuple.is-1) in
    (omega arith, ((c.requires.actual_bound.0, below-a, λ i past. omega (arith, below-e i past, c.requires.actual_bound.1)), c.requires.remembers))

pub compatible_rows-returns-in-Tuple-Tuple-clause-value : goal.compatible_rows-returns-in-Tuple-Tuple-clause-value
compatible_rows-returns-in-Tuple-Tuple-clause-value t c =
    rows_tuple c.data-a.ensures c.data-e.ensures c.args.types.now.file.now c.compatible_lists.result c.types_in-left.result.now c.types_in-right.result.now c.in-Tuple-Tuple.is-0 c.in-Tuple-Tuple.is-1 c.types_in-left.ensures c.types_in-right.ensures c.compatible_lists.ensures.value

pub compatible_rows-returns-then-is_error_or_unknown-clause-value : goal.compatible_rows-returns-then-is_error_or_unknown-clause-value
compatible_rows-returns-then-is_error_or_unknown-clause-value t c =
    let types = c.args.types.now in
    let apart : Apart c.data-a.result c.data-e.result = elim c.in_default.branch [ compatible_rows-in_default-via-in-Pointer+in_default w ↦ apart_pointer w.in_default.is-0 w.in_default.not-Pointer-1 | compatible_rows-in_default-via-in-FixedArray+in_default w ↦ apart_array w.in_default.is-0 w.in_default.not-FixedArray-1 | compatible_rows-in_default-via-in-Tuple+in_default w ↦ apart_tuple w.in_default.is-0 w.in_default.not-Tuple-1 | compatible_rows-in_default-via-in_default w ↦ apart_plain w.in_default.not-Pointer-0 w.in_default.not-FixedArray-0 w.in_default.not-Tuple-0 ] in
    or_first _ (c.is_error_or_unknown.ensures types.file.now types.words.now) c.if-is_error_or_unknown.true ∙ rows_apart c.data-a.ensures c.data-e.ensures types.file.now apart

pub compatible_rows-returns-else-is_error_or_unknown-clause-value : goal.compatible_rows-returns-else-is_error_or_unknown-clause-value
compatible_rows-returns-else-is_error_or_unknown-clause-value t c =
    let types = c.args.types.now in
    let apart : Apart c.data-a.result c.data-e.result = elim c.in_default.branch [ compatible_rows-in_default-via-in-Pointer+in_default w ↦ apart_pointer w.in_default.is-0 w.in_default.not-Pointer-1 | compatible_rows-in_default-via-in-FixedArray+in_default w ↦ apart_array w.in_default.is-0 w.in_default.not-FixedArray-1 | compatible_rows-in_default-via-in-Tuple+in_default w ↦ apart_tuple w.in_default.is-0 w.in_default.not-Tuple-1 | compatible_rows-in_default-via-in_default w ↦ apart_plain w.in_default.not-Pointer-0 w.in_default.not-FixedArray-0 w.in_default.not-Tuple-0 ] in
    or_second (c.is_error_or_unknown.ensures types.file.now types.words.now) c.if-is_error_or_unknown.false (c.is_error_or_unknown-else-is_error_or_unknown.ensures types.file.now types.words.now) ∙ rows_apart c.data-a.ensures c.data-e.ensures types.file.now apart
