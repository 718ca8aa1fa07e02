-- Types and lists measured: an element has a lower number than its holder, so the calls end. Assumes nothing.
use Prim.Native.Nat.{◌+◌, ◌*◌, ◌≤◌, min}
use mathlib.Core.Path.{◌≡◌}
use lib.ListN.{length, take}
use Rattle.resolution.specs.Answer.{type_text}
use Rattle.type_table.specs.Layout.{table_of}
use Rattle.type_text.specs.Text.{comma_rest}
use Rattle.type_text.proofs.+measure_list_measure_type.Given as goal

abbrev pub decreases-measure_list : goal.decreases-measure_list
decreases-measure_list l = 2 * l.holder

abbrev pub invariant-measure_list-loop-t : goal.invariant-measure_list-loop-t
invariant-measure_list-loop-t l =
    record {
      index : l.t-index ≤ length l.rest;
      next : l.next ≡ min 4097 (l.initial.next + length (comma_rest (type_text (table_of l.types.file.now l.types.words.now)) (take l.t-index l.rest)));
    }

abbrev pub decreases-measure_type : goal.decreases-measure_type
decreases-measure_type l = 2 * l.t + 1
