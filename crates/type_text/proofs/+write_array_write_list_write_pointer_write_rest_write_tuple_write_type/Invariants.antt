-- The text of a type written by its kind: an element has a lower number than its holder, so the calls end. Assumes nothing.
use Prim.Native.Nat.{◌+◌, ◌*◌, ◌≤◌}
use lib.ListN.{length, take}
use Rattle.resolution.specs.Answer.{type_text}
use Rattle.type_table.specs.Layout.{table_of}
use Rattle.type_text.specs.Text.{comma_rest, Writes}
use Rattle.type_text.proofs.+write_array_write_list_write_pointer_write_rest_write_tuple_write_type.Given as goal

abbrev pub decreases-write_array : goal.decreases-write_array
decreases-write_array l = 4 * l.element + 4

abbrev pub decreases-write_list : goal.decreases-write_list
decreases-write_list l = 4 * l.holder + 1

abbrev pub decreases-write_pointer : goal.decreases-write_pointer
decreases-write_pointer l = 4 * l.element + 4

abbrev pub decreases-write_rest : goal.decreases-write_rest
decreases-write_rest l = 4 * l.holder

abbrev pub decreases-write_tuple : goal.decreases-write_tuple
decreases-write_tuple l = 4 * l.holder + 2

abbrev pub decreases-write_type : goal.decreases-write_type
decreases-write_type l = 4 * l.t + 3

abbrev pub invariant-write_rest-loop-t : goal.invariant-write_rest-loop-t
invariant-write_rest-loop-t l =
    record { index : l.t-index ≤ length l.list; writes : Writes (comma_rest (type_text (table_of l.types.file.now l.types.words.now)) (take l.t-index l.list)) l.initial.out l.out }
