-- The text of a type written by its kind: an element has a lower number than its holder, so the calls end. Assumes nothing.
use Prim.Native.Nat.{◌+◌, zero-le}
use Rattle.type_table.proofs.Laws.{below_first, below_rest}
use mathlib.Core.Path.{sym, ap}
use mathlib.Core.List.{◌++◌}
use native.Mathlib.Omega.{arith}
use lib.ListN.{length, get_or, take}
use Rattle.model.specs.Common.{bytes}
use Rattle.resolution.specs.Answer.{decimal, comma_texts, type_text}
use Rattle.type_table.specs.Layout.{table_of}
use Rattle.type_text.specs.Text.{comma_rest, tuple_text, pointer_text, array_text}
use Rattle.type_text.proofs.Writing.{writes_none, writes_then, writes_as}
use Rattle.type_text.proofs.Texts.{felt_is, bool_is, u32_is, unknown_is, error_is, tuple_is, pointer_is, array_is, struct_is, function_is, tuple_below, pointer_below, array_below, comma_none, comma_split, split_length, rest_none, rest_step, rest_step_length, rest_upto, tuple_text_length, pointer_text_length, array_text_length}
use Rattle.type_text.proofs.+write_array_write_list_write_pointer_write_rest_write_tuple_write_type.Goals as goal

pub write_array-put-requires : goal.write_array-put-requires
unfolding array_text
write_array-put-requires t c = omega (arith, c.requires.size_in_bounds, array_text_length (type_text (table_of c.args.types.now.file.now c.args.types.now.words.now)) c.args.element c.args.size)

pub write_array-write_type-requires : goal.write_array-write_type-requires
unfolding array_text
write_array-write_type-requires t c = (omega arith, omega (arith, c.requires.size_in_bounds, array_text_length (type_text (table_of c.args.types.now.file.now c.args.types.now.words.now)) c.args.element c.args.size, c.put.ensures.wrote.next, c.put.ensures.long))

pub write_array-put-requires-2 : goal.write_array-put-requires-2
unfolding array_text
write_array-put-requires-2 t c = omega (arith, c.requires.size_in_bounds, array_text_length (type_text (table_of c.args.types.now.file.now c.args.types.now.words.now)) c.args.element c.args.size, c.put.ensures.wrote.next, c.put.ensures.long, c.write_type.ensures.wrote.next, c.write_type.ensures.long)

pub write_array-put_decimal-requires : goal.write_array-put_decimal-requires
unfolding array_text
write_array-put_decimal-requires t c = omega (arith, c.requires.size_in_bounds, array_text_length (type_text (table_of c.args.types.now.file.now c.args.types.now.words.now)) c.args.element c.args.size, c.put.ensures.wrote.next, c.put.ensures.long, c.write_type.ensures.wrote.next, c.write_type.ensures.long, c.put-2.ensures.wrote.next, c.put-2.ensures.long)

pub write_array-put-requires-3 : goal.write_array-put-requires-3
unfolding array_text
write_array-put-requires-3 t c = omega (arith, c.requires.size_in_bounds, array_text_length (type_text (table_of c.args.types.now.file.now c.args.types.now.words.now)) c.args.element c.args.size, c.put.ensures.wrote.next, c.put.ensures.long, c.write_type.ensures.wrote.next, c.write_type.ensures.long, c.put-2.ensures.wrote.next, c.put-2.ensures.long, c.put_decimal.ensures.wrote.next, c.put_decimal.ensures.long)

pub write_array-returns : goal.write_array-returns
unfolding array_text
write_array-returns t c = writes_then (bytes "[") (type_text (table_of c.args.types.now.file.now c.args.types.now.words.now) c.args.element ++ (bytes ";" ++ (decimal c.args.size ++ bytes "]"))) _ _ _ (omega (arith, c.requires.size_in_bounds, array_text_length (type_text (table_of c.args.types.now.file.now c.args.types.now.words.now)) c.args.element c.args.size)) c.put.ensures
    (writes_then (type_text (table_of c.args.types.now.file.now c.args.types.now.words.now) c.args.element) (bytes ";" ++ (decimal c.args.size ++ bytes "]")) _ _ _ (omega (arith, c.requires.size_in_bounds, array_text_length (type_text (table_of c.args.types.now.file.now c.args.types.now.words.now)) c.args.element c.args.size, c.put.ensures.wrote.next, c.put.ensures.long)) c.write_type.ensures
    (writes_then (bytes ";") (decimal c.args.size ++ bytes "]") _ _ _ (omega (arith, c.requires.size_in_bounds, array_text_length (type_text (table_of c.args.types.now.file.now c.args.types.now.words.now)) c.args.element c.args.size, c.put.ensures.wrote.next, c.put.ensures.long, c.write_type.ensures.wrote.next, c.write_type.ensures.long)) c.put-2.ensures
    (writes_then (decimal c.args.size) (bytes "]") _ _ _ (omega (arith, c.requires.size_in_bounds, array_text_length (type_text (table_of c.args.types.now.file.now c.args.types.now.words.now)) c.args.element c.args.size, c.put.ensures.wrote.next, c.put.ensures.long, c.write_type.ensures.wrote.next, c.write_type.ensures.long, c.put-2.ensures.wrote.next, c.put-2.ensures.long)) c.put_decimal.ensures c.put-3.ensures)))

pub write_list-returns-in_default : goal.write_list-returns-in_default
write_list-returns-in_default t c = writes_as _ _ _ _ (comma_none (type_text (table_of c.args.types.now.file.now c.args.types.now.words.now)) c.args.list.now c.in_default.ensures.cases) (writes_none c.args.out.now)

pub write_list-write_type-requires : goal.write_list-write_type-requires
write_list-write_type-requires t c =
    let is = c.in-Some.ensures.cases.0 in
    (omega (arith, below_first _ is c.requires.all_below), omega (arith, c.requires.list_in_bounds, split_length (type_text (table_of c.args.types.now.file.now c.args.types.now.words.now)) c.args.list.now _ is))

pub write_list-write_rest-requires : goal.write_list-write_rest-requires
write_list-write_rest-requires t c =
    let is = c.in-Some.ensures.cases.0 in
    (omega arith, (below_rest _ is c.requires.all_below, omega (arith, c.requires.list_in_bounds, split_length (type_text (table_of c.args.types.now.file.now c.args.types.now.words.now)) c.args.list.now _ is, c.write_type.ensures.wrote.next, c.write_type.ensures.long)))

pub write_list-returns : goal.write_list-returns
write_list-returns t c =
    let is = c.in-Some.ensures.cases.0 in
    writes_as _ _ _ _ (comma_split (type_text (table_of c.args.types.now.file.now c.args.types.now.words.now)) c.args.list.now _ is)
    (writes_then (type_text (table_of c.args.types.now.file.now c.args.types.now.words.now) c.in-Some.first.now) (comma_rest (type_text (table_of c.args.types.now.file.now c.args.types.now.words.now)) c.in-Some.rest.now) _ _ _ (omega (arith, c.requires.list_in_bounds, split_length (type_text (table_of c.args.types.now.file.now c.args.types.now.words.now)) c.args.list.now _ is)) c.write_type.ensures c.write_rest.ensures)

pub write_pointer-put-requires : goal.write_pointer-put-requires
unfolding pointer_text
write_pointer-put-requires t c = omega (arith, c.requires.element_in_bounds, pointer_text_length (type_text (table_of c.args.types.now.file.now c.args.types.now.words.now)) c.args.element)

pub write_pointer-write_type-requires : goal.write_pointer-write_type-requires
unfolding pointer_text
write_pointer-write_type-requires t c = (omega arith, omega (arith, c.requires.element_in_bounds, pointer_text_length (type_text (table_of c.args.types.now.file.now c.args.types.now.words.now)) c.args.element, c.put.ensures.wrote.next, c.put.ensures.long))

pub write_pointer-put-requires-2 : goal.write_pointer-put-requires-2
unfolding pointer_text
write_pointer-put-requires-2 t c = omega (arith, c.requires.element_in_bounds, pointer_text_length (type_text (table_of c.args.types.now.file.now c.args.types.now.words.now)) c.args.element, c.put.ensures.wrote.next, c.put.ensures.long, c.write_type.ensures.wrote.next, c.write_type.ensures.long)

pub write_pointer-returns : goal.write_pointer-returns
unfolding pointer_text
write_pointer-returns t c = writes_then (bytes "ptr(") (type_text (table_of c.args.types.now.file.now c.args.types.now.words.now) c.args.element ++ bytes ")") _ _ _ (omega (arith, c.requires.element_in_bounds, pointer_text_length (type_text (table_of c.args.types.now.file.now c.args.types.now.words.now)) c.args.element)) c.put.ensures
    (writes_then (type_text (table_of c.args.types.now.file.now c.args.types.now.words.now) c.args.element) (bytes ")") _ _ _ (omega (arith, c.requires.element_in_bounds, pointer_text_length (type_text (table_of c.args.types.now.file.now c.args.types.now.words.now)) c.args.element, c.put.ensures.wrote.next, c.put.ensures.long)) c.write_type.ensures c.put-2.ensures)

pub write_rest-loop-t-init : goal.write_rest-loop-t-init
write_rest-loop-t-init t c = record { index = zero-le; writes = (writes_as _ _ _ _ (sym (rest_none (type_text (table_of c.args.types.now.file.now c.args.types.now.words.now)) c.args.list.now)) (writes_none c.args.out.now)) }

pub write_rest-put-requires : goal.write_rest-put-requires
write_rest-put-requires t c = omega (arith, c.requires.list_in_bounds, c.loop-t.invariant.writes.long, c.loop-t.invariant.writes.wrote.next, rest_step_length (type_text (table_of c.args.types.now.file.now c.args.types.now.words.now)) c.args.list.now c.loop-t.t-index c.loop-t-test.true, rest_upto (type_text (table_of c.args.types.now.file.now c.args.types.now.words.now)) c.args.list.now (c.loop-t.t-index + 1))

pub write_rest-write_type-requires : goal.write_rest-write_type-requires
write_rest-write_type-requires t c = (omega (arith, c.requires.all_below c.loop-t.t-index c.loop-t-test.true), omega (arith, c.requires.list_in_bounds, c.loop-t.invariant.writes.long, c.loop-t.invariant.writes.wrote.next, rest_step_length (type_text (table_of c.args.types.now.file.now c.args.types.now.words.now)) c.args.list.now c.loop-t.t-index c.loop-t-test.true, rest_upto (type_text (table_of c.args.types.now.file.now c.args.types.now.words.now)) c.args.list.now (c.loop-t.t-index + 1), c.put.ensures.wrote.next, c.put.ensures.long))

pub write_rest-loop-t-preserved : goal.write_rest-loop-t-preserved
write_rest-loop-t-preserved t c = record {
  index = omega arith;
  writes =
      writes_as _ _ _ _ (rest_step (type_text (table_of c.args.types.now.file.now c.args.types.now.words.now)) c.args.list.now c.loop-t.t-index c.loop-t-test.true)
      (writes_then (comma_rest (type_text (table_of c.args.types.now.file.now c.args.types.now.words.now)) (take c.loop-t.t-index c.args.list.now)) (bytes "," ++ type_text (table_of c.args.types.now.file.now c.args.types.now.words.now) (get_or c.args.list.now c.loop-t.t-index 0)) _ _ _ (omega (arith, c.requires.list_in_bounds, c.loop-t.invariant.writes.long, c.loop-t.invariant.writes.wrote.next, rest_step_length (type_text (table_of c.args.types.now.file.now c.args.types.now.words.now)) c.args.list.now c.loop-t.t-index c.loop-t-test.true, rest_upto (type_text (table_of c.args.types.now.file.now c.args.types.now.words.now)) c.args.list.now (c.loop-t.t-index + 1))) c.loop-t.invariant.writes
      (writes_then (bytes ",") (type_text (table_of c.args.types.now.file.now c.args.types.now.words.now) (get_or c.args.list.now c.loop-t.t-index 0)) _ _ _ (omega (arith, c.requires.list_in_bounds, c.loop-t.invariant.writes.long, c.loop-t.invariant.writes.wrote.next, rest_step_length (type_text (table_of c.args.types.now.file.now c.args.types.now.words.now)) c.args.list.now c.loop-t.t-index c.loop-t-test.true, rest_upto (type_text (table_of c.args.types.now.file.now c.args.types.now.words.now)) c.args.list.now (c.loop-t.t-index + 1))) c.put.ensures c.write_type.ensures));
}

pub write_tuple-put-requires : goal.write_tuple-put-requires
unfolding tuple_text
write_tuple-put-requires t c = omega (arith, c.requires.list_in_bounds, tuple_text_length (type_text (table_of c.args.types.now.file.now c.args.types.now.words.now)) c.args.list.now)

pub write_tuple-write_list-requires : goal.write_tuple-write_list-requires
unfolding tuple_text
write_tuple-write_list-requires t c = (omega arith, (c.requires.all_below, omega (arith, c.requires.list_in_bounds, tuple_text_length (type_text (table_of c.args.types.now.file.now c.args.types.now.words.now)) c.args.list.now, c.put.ensures.wrote.next, c.put.ensures.long)))

pub write_tuple-put-requires-2 : goal.write_tuple-put-requires-2
unfolding tuple_text
write_tuple-put-requires-2 t c = omega (arith, c.requires.list_in_bounds, tuple_text_length (type_text (table_of c.args.types.now.file.now c.args.types.now.words.now)) c.args.list.now, c.put.ensures.wrote.next, c.put.ensures.long, c.write_list.ensures.wrote.next, c.write_list.ensures.long)

pub write_tuple-returns : goal.write_tuple-returns
unfolding tuple_text
write_tuple-returns t c = writes_then (bytes "(") (comma_texts (type_text (table_of c.args.types.now.file.now c.args.types.now.words.now)) c.args.list.now ++ bytes ")") _ _ _ (omega (arith, c.requires.list_in_bounds, tuple_text_length (type_text (table_of c.args.types.now.file.now c.args.types.now.words.now)) c.args.list.now)) c.put.ensures
    (writes_then (comma_texts (type_text (table_of c.args.types.now.file.now c.args.types.now.words.now)) c.args.list.now) (bytes ")") _ _ _ (omega (arith, c.requires.list_in_bounds, tuple_text_length (type_text (table_of c.args.types.now.file.now c.args.types.now.words.now)) c.args.list.now, c.put.ensures.wrote.next, c.put.ensures.long)) c.write_list.ensures c.put-2.ensures)

pub write_type-put-requires : goal.write_type-put-requires
write_type-put-requires t c = omega (arith, c.requires.t_in_bounds, ap length (felt_is c.args.types.now.file.now c.args.types.now.words.now c.args.t c.data.result c.data.ensures c.args.types.now.table_ok c.in-Felt.is))

pub write_type-put-requires-in-Bool : goal.write_type-put-requires-in-Bool
write_type-put-requires-in-Bool t c = omega (arith, c.requires.t_in_bounds, ap length (bool_is c.args.types.now.file.now c.args.types.now.words.now c.args.t c.data.result c.data.ensures c.args.types.now.table_ok c.in-Bool.is))

pub write_type-put-requires-in-U32 : goal.write_type-put-requires-in-U32
write_type-put-requires-in-U32 t c = omega (arith, c.requires.t_in_bounds, ap length (u32_is c.args.types.now.file.now c.args.types.now.words.now c.args.t c.data.result c.data.ensures c.args.types.now.table_ok c.in-U32.is))

pub write_type-put-requires-in-Unknown : goal.write_type-put-requires-in-Unknown
write_type-put-requires-in-Unknown t c = omega (arith, c.requires.t_in_bounds, ap length (unknown_is c.args.types.now.file.now c.args.types.now.words.now c.args.t c.data.result c.data.ensures c.args.types.now.table_ok c.in-Unknown.is))

pub write_type-put-requires-in-Error : goal.write_type-put-requires-in-Error
write_type-put-requires-in-Error t c = omega (arith, c.requires.t_in_bounds, ap length (error_is c.args.types.now.file.now c.args.types.now.words.now c.args.t c.data.result c.data.ensures c.args.types.now.table_ok c.in-Error.is))

pub write_type-write_tuple-requires : goal.write_type-write_tuple-requires
write_type-write_tuple-requires t c = (omega arith, (tuple_below c.args.types.now.file.now c.args.types.now.words.now c.args.t c.data.result c.data.ensures c.in-Tuple.elements c.in-Tuple.is c.types_in-list.result.now c.types_in-list.ensures c.args.types.now.sound, omega (arith, c.requires.t_in_bounds, ap length (tuple_is c.args.types.now.file.now c.args.types.now.words.now c.args.t c.data.result c.data.ensures c.in-Tuple.elements c.in-Tuple.is c.types_in-list.result.now c.types_in-list.ensures c.args.types.now.table_ok))))

pub write_type-write_pointer-requires : goal.write_type-write_pointer-requires
write_type-write_pointer-requires t c = (omega (arith, pointer_below c.args.types.now.file.now c.args.types.now.words.now c.args.t c.data.result c.data.ensures c.args.types.now.sound c.in-Pointer.element c.in-Pointer.is), omega (arith, c.requires.t_in_bounds, ap length (pointer_is c.args.types.now.file.now c.args.types.now.words.now c.args.t c.data.result c.data.ensures c.args.types.now.table_ok c.in-Pointer.element c.in-Pointer.is)))

pub write_type-write_array-requires : goal.write_type-write_array-requires
write_type-write_array-requires t c = (omega (arith, array_below c.args.types.now.file.now c.args.types.now.words.now c.args.t c.data.result c.data.ensures c.args.types.now.sound c.in-FixedArray.element c.in-FixedArray.size c.in-FixedArray.is), omega (arith, c.requires.t_in_bounds, ap length (array_is c.args.types.now.file.now c.args.types.now.words.now c.args.t c.data.result c.data.ensures c.args.types.now.table_ok c.in-FixedArray.element c.in-FixedArray.size c.in-FixedArray.is)))

pub write_type-put_definition-requires : goal.write_type-put_definition-requires
write_type-put_definition-requires t c = omega (arith, c.requires.t_in_bounds, ap length (struct_is c.args.types.now.file.now c.args.types.now.words.now c.args.t c.data.result c.data.ensures c.args.types.now.table_ok c.in-Struct.home c.in-Struct.definition c.in-Struct.fields c.in-Struct.is))

pub write_type-put_definition-requires-in-Function : goal.write_type-put_definition-requires-in-Function
write_type-put_definition-requires-in-Function t c = omega (arith, c.requires.t_in_bounds, ap length (function_is c.args.types.now.file.now c.args.types.now.words.now c.args.t c.data.result c.data.ensures c.args.types.now.table_ok c.in-Function.home c.in-Function.definition c.in-Function.params c.in-Function.return_type c.in-Function.is))

pub write_type-returns-in-Felt : goal.write_type-returns-in-Felt
write_type-returns-in-Felt t c = writes_as _ _ _ _ (felt_is c.args.types.now.file.now c.args.types.now.words.now c.args.t c.data.result c.data.ensures c.args.types.now.table_ok c.in-Felt.is) c.put.ensures

pub write_type-returns-in-Bool : goal.write_type-returns-in-Bool
write_type-returns-in-Bool t c = writes_as _ _ _ _ (bool_is c.args.types.now.file.now c.args.types.now.words.now c.args.t c.data.result c.data.ensures c.args.types.now.table_ok c.in-Bool.is) c.put-in-Bool.ensures

pub write_type-returns-in-U32 : goal.write_type-returns-in-U32
write_type-returns-in-U32 t c = writes_as _ _ _ _ (u32_is c.args.types.now.file.now c.args.types.now.words.now c.args.t c.data.result c.data.ensures c.args.types.now.table_ok c.in-U32.is) c.put-in-U32.ensures

pub write_type-returns-in-Unknown : goal.write_type-returns-in-Unknown
write_type-returns-in-Unknown t c = writes_as _ _ _ _ (unknown_is c.args.types.now.file.now c.args.types.now.words.now c.args.t c.data.result c.data.ensures c.args.types.now.table_ok c.in-Unknown.is) c.put-in-Unknown.ensures

pub write_type-returns-in-Error : goal.write_type-returns-in-Error
write_type-returns-in-Error t c = writes_as _ _ _ _ (error_is c.args.types.now.file.now c.args.types.now.words.now c.args.t c.data.result c.data.ensures c.args.types.now.table_ok c.in-Error.is) c.put-in-Error.ensures

pub write_type-returns-in-Tuple : goal.write_type-returns-in-Tuple
write_type-returns-in-Tuple t c = writes_as _ _ _ _ (tuple_is c.args.types.now.file.now c.args.types.now.words.now c.args.t c.data.result c.data.ensures c.in-Tuple.elements c.in-Tuple.is c.types_in-list.result.now c.types_in-list.ensures c.args.types.now.table_ok) c.write_tuple.ensures

pub write_type-returns-in-Pointer : goal.write_type-returns-in-Pointer
write_type-returns-in-Pointer t c = writes_as _ _ _ _ (pointer_is c.args.types.now.file.now c.args.types.now.words.now c.args.t c.data.result c.data.ensures c.args.types.now.table_ok c.in-Pointer.element c.in-Pointer.is) c.write_pointer.ensures

pub write_type-returns-in-FixedArray : goal.write_type-returns-in-FixedArray
write_type-returns-in-FixedArray t c = writes_as _ _ _ _ (array_is c.args.types.now.file.now c.args.types.now.words.now c.args.t c.data.result c.data.ensures c.args.types.now.table_ok c.in-FixedArray.element c.in-FixedArray.size c.in-FixedArray.is) c.write_array.ensures

pub write_type-returns-in-Struct : goal.write_type-returns-in-Struct
write_type-returns-in-Struct t c = writes_as _ _ _ _ (struct_is c.args.types.now.file.now c.args.types.now.words.now c.args.t c.data.result c.data.ensures c.args.types.now.table_ok c.in-Struct.home c.in-Struct.definition c.in-Struct.fields c.in-Struct.is) c.put_definition.ensures

pub write_type-returns-in-Function : goal.write_type-returns-in-Function
write_type-returns-in-Function t c = writes_as _ _ _ _ (function_is c.args.types.now.file.now c.args.types.now.words.now c.args.t c.data.result c.data.ensures c.args.types.now.table_ok c.in-Function.home c.in-Function.definition c.in-Function.params c.in-Function.return_type c.in-Function.is) c.put_definition-in-Function.ensures
