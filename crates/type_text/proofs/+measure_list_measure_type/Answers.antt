-- Types and lists measured: an element has a lower number than its holder, so the calls end. Assumes nothing.
use Prim.Native.Nat.{zero-le}
use Rattle.type_table.proofs.Laws.{below_rest}
use Rattle.type_text.specs.Text.{comma_rest}
use mathlib.Core.Path.{ap}
use native.Mathlib.Omega.{arith}
use lib.ListN.{length}
use Rattle.model.specs.Common.{bytes}
use Rattle.resolution.specs.Answer.{type_text}
use Rattle.type_table.specs.Layout.{table_of}
use Rattle.type_text.proofs.Texts.{felt_is, bool_is, u32_is, unknown_is, error_is, tuple_is, pointer_is, array_is, struct_is, function_is, tuple_below, pointer_below, array_below, comma_none, split_length, rest_step_length, rest_all, tuple_text_length, pointer_text_length, array_text_length, definition_text_length}
use Rattle.type_text.proofs.+measure_list_measure_type.Goals as goal

pub measure_list-returns-in_default : goal.measure_list-returns-in_default
measure_list-returns-in_default t c = omega (arith, c.requires.used_bound, ap length (comma_none (type_text (table_of c.args.types.now.file.now c.args.types.now.words.now)) c.args.list.now c.in_default.ensures.cases))

pub measure_list-loop-t-init : goal.measure_list-loop-t-init
unfolding comma_rest
measure_list-loop-t-init t c = record { index = zero-le; next = omega (arith, c.measure_type-next.ensures) }

pub measure_list-measure_type-next-requires-in-loop-t : goal.measure_list-measure_type-next-requires-in-loop-t
measure_list-measure_type-next-requires-in-loop-t t c = (omega (arith, below_rest _ c.in-Some.ensures.cases.0 c.requires.all_below c.loop-t.t-index c.loop-t-test.true), omega (arith, c.capped.ensures))

pub measure_list-loop-t-preserved : goal.measure_list-loop-t-preserved
measure_list-loop-t-preserved t c = record {
  index = omega arith;
  next = omega (arith, c.measure_type-next-in-loop-t.ensures, c.capped.ensures, c.loop-t.invariant.next, rest_step_length (type_text (table_of c.args.types.now.file.now c.args.types.now.words.now)) c.in-Some.rest.now c.loop-t.t-index c.loop-t-test.true);
}

pub measure_list-returns : goal.measure_list-returns
measure_list-returns t c =
    omega (arith, c.loop-t.invariant.next, c.measure_type-next.ensures, split_length (type_text (table_of c.args.types.now.file.now c.args.types.now.words.now)) c.args.list.now _ c.in-Some.ensures.cases.0, ap length (rest_all (type_text (table_of c.args.types.now.file.now c.args.types.now.words.now)) c.in-Some.rest.now c.loop-t.t-index c.loop-t-test.false))

pub measure_type-measure_list-requires : goal.measure_type-measure_list-requires
measure_type-measure_list-requires t c = (omega arith, (omega (arith, c.capped-in-Tuple.ensures), tuple_below c.args.types.now.file.now c.args.types.now.words.now c.args.t c.data.result c.data.ensures c.in-Tuple.elements c.in-Tuple.is c.types_in-list.result.now c.types_in-list.ensures c.args.types.now.sound))

pub measure_type-measure_type-requires : goal.measure_type-measure_type-requires
measure_type-measure_type-requires t c = (omega (arith, pointer_below c.args.types.now.file.now c.args.types.now.words.now c.args.t c.data.result c.data.ensures c.args.types.now.sound c.in-Pointer.element c.in-Pointer.is), omega (arith, c.capped-in-Pointer.ensures))

pub measure_type-measure_type-requires-in-FixedArray : goal.measure_type-measure_type-requires-in-FixedArray
measure_type-measure_type-requires-in-FixedArray t c = (omega (arith, array_below c.args.types.now.file.now c.args.types.now.words.now c.args.t c.data.result c.data.ensures c.args.types.now.sound c.in-FixedArray.element c.in-FixedArray.size c.in-FixedArray.is), omega (arith, c.capped-in-FixedArray.ensures))

pub measure_type-returns-in-Felt : goal.measure_type-returns-in-Felt
measure_type-returns-in-Felt t c = omega (arith, c.capped.ensures, ap length (felt_is c.args.types.now.file.now c.args.types.now.words.now c.args.t c.data.result c.data.ensures c.args.types.now.table_ok c.in-Felt.is))

pub measure_type-returns-in-Bool : goal.measure_type-returns-in-Bool
measure_type-returns-in-Bool t c = omega (arith, c.capped-in-Bool.ensures, ap length (bool_is c.args.types.now.file.now c.args.types.now.words.now c.args.t c.data.result c.data.ensures c.args.types.now.table_ok c.in-Bool.is))

pub measure_type-returns-in-U32 : goal.measure_type-returns-in-U32
measure_type-returns-in-U32 t c = omega (arith, c.capped-in-U32.ensures, ap length (u32_is c.args.types.now.file.now c.args.types.now.words.now c.args.t c.data.result c.data.ensures c.args.types.now.table_ok c.in-U32.is))

pub measure_type-returns-in-Unknown : goal.measure_type-returns-in-Unknown
measure_type-returns-in-Unknown t c = omega (arith, c.capped-in-Unknown.ensures, ap length (unknown_is c.args.types.now.file.now c.args.types.now.words.now c.args.t c.data.result c.data.ensures c.args.types.now.table_ok c.in-Unknown.is))

pub measure_type-returns-in-Error : goal.measure_type-returns-in-Error
measure_type-returns-in-Error t c = omega (arith, c.capped-in-Error.ensures, ap length (error_is c.args.types.now.file.now c.args.types.now.words.now c.args.t c.data.result c.data.ensures c.args.types.now.table_ok c.in-Error.is))

pub measure_type-returns-in-Tuple : goal.measure_type-returns-in-Tuple
measure_type-returns-in-Tuple t c = omega (arith, c.measure_list.ensures, c.capped-in-Tuple.ensures, tuple_text_length (type_text (table_of c.args.types.now.file.now c.args.types.now.words.now)) c.types_in-list.result.now, ap length (tuple_is c.args.types.now.file.now c.args.types.now.words.now c.args.t c.data.result c.data.ensures c.in-Tuple.elements c.in-Tuple.is c.types_in-list.result.now c.types_in-list.ensures c.args.types.now.table_ok))

pub measure_type-returns-in-Pointer : goal.measure_type-returns-in-Pointer
measure_type-returns-in-Pointer t c = omega (arith, c.measure_type.ensures, c.capped-in-Pointer.ensures, pointer_text_length (type_text (table_of c.args.types.now.file.now c.args.types.now.words.now)) c.in-Pointer.element, ap length (pointer_is c.args.types.now.file.now c.args.types.now.words.now c.args.t c.data.result c.data.ensures c.args.types.now.table_ok c.in-Pointer.element c.in-Pointer.is))

pub measure_type-returns-in-FixedArray : goal.measure_type-returns-in-FixedArray
measure_type-returns-in-FixedArray t c = omega (arith, c.measure_type-in-FixedArray.ensures, c.capped-in-FixedArray.ensures, c.decimal_length-digits.ensures.count, array_text_length (type_text (table_of c.args.types.now.file.now c.args.types.now.words.now)) c.in-FixedArray.element c.in-FixedArray.size, ap length (array_is c.args.types.now.file.now c.args.types.now.words.now c.args.t c.data.result c.data.ensures c.args.types.now.table_ok c.in-FixedArray.element c.in-FixedArray.size c.in-FixedArray.is))

pub measure_type-returns-in-Struct : goal.measure_type-returns-in-Struct
measure_type-returns-in-Struct t c = omega (arith, c.capped-in-Struct.ensures, c.definition_length-numbers.ensures.count, definition_text_length (bytes "struct:") c.in-Struct.home c.in-Struct.definition, ap length (struct_is c.args.types.now.file.now c.args.types.now.words.now c.args.t c.data.result c.data.ensures c.args.types.now.table_ok c.in-Struct.home c.in-Struct.definition c.in-Struct.fields c.in-Struct.is))

pub measure_type-returns-in-Function : goal.measure_type-returns-in-Function
measure_type-returns-in-Function t c = omega (arith, c.capped-in-Function.ensures, c.definition_length-numbers-in-Function.ensures.count, definition_text_length (bytes "fn:") c.in-Function.home c.in-Function.definition, ap length (function_is c.args.types.now.file.now c.args.types.now.words.now c.args.t c.data.result c.data.ensures c.args.types.now.table_ok c.in-Function.home c.in-Function.definition c.in-Function.params c.in-Function.return_type c.in-Function.is))
