-- Types, rows and lists compared: an element has a lower number than its holder, so the calls end. Assumes nothing.
use Prim.Native.Nat.{◌+◌, ◌*◌}
use mathlib.Core.Path.{◌≡◌}
use lib.ListN.{length}
use Rattle.std.specs.Iterator.Adapters.{zip_first, zip_second}
use Rattle.std.specs.Slice.Iter.{iter_rest}
use Rattle.type_table.specs.Layout.{table_of, type_count, AllBelow}
use Rattle.compatibility.specs.Pairs.{Remembers, lists_compatible}
use Rattle.compatibility.proofs.+compatible_compatible_lists_compatible_rows.Given as goal

abbrev pub decreases-compatible : goal.decreases-compatible
decreases-compatible l = 3 * l.actual + 2

abbrev pub decreases-compatible_lists : goal.decreases-compatible_lists
decreases-compatible_lists l = 3 * l.actual

abbrev pub decreases-compatible_rows : goal.decreases-compatible_rows
decreases-compatible_rows l = 3 * l.actual + 1

abbrev pub invariant-compatible_lists-loop-x : goal.invariant-compatible_lists-loop-x
invariant-compatible_lists-loop-x l =
    let xs = iter_rest (zip_first l.x-iterator) in
    let ys = iter_rest (zip_second l.x-iterator) in
    record {
      same_length : length xs ≡ length ys;
      left_below : AllBelow l.actual xs;
      right_below : AllBelow (type_count l.types.words.now) ys;
      remembers : Remembers l.types.file.now l.types.words.now l.seen;
      rest : lists_compatible (table_of l.types.file.now l.types.words.now) l.left l.right ≡ lists_compatible (table_of l.types.file.now l.types.words.now) xs ys;
    }
