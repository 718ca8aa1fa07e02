-- `compatibility::are_types_compatible` meets its contract. Assumes nothing.
use mathlib.Core.Path.{◌≡◌, sym, ◌∙◌}
use mathlib.Core.Bool.{true, false}
use Rattle.type_table.specs.Layout.{table_of}
use Rattle.compatibility.specs.Pairs.{rows_compatible}
use Rattle.compatibility.proofs.ByKind.{apart_pointer, apart_array, apart_tuple, apart_plain}
use Rattle.compatibility.proofs.Compared.{numbers_equal, numbers_other, below_of, rows_left, rows_right, rows_closed}
use Rattle.compatibility.proofs.are_types_compatible.Goals as goal
use Rattle.compatibility.proofs.are_types_compatible.Goals.{then-is_error_or_unknown-via-then-is_error_or_unknown, then-is_error_or_unknown-via-else-is_error_or_unknown+then-is_error_or_unknown-2}

pub returns-then-actual-expected : goal.returns-then-actual-expected
returns-then-actual-expected c =
    let types = c.args.types.now in
    numbers_equal types.file.now types.words.now c.args.actual c.args.expected c.if-actual-expected.true

pub returns-then-is_error_or_unknown : goal.returns-then-is_error_or_unknown
returns-then-is_error_or_unknown c =
    let types = c.args.types.now in
    let rows : true ≡ rows_compatible (table_of types.file.now types.words.now) c.args.actual c.args.expected =
    elim c.then-is_error_or_unknown.branch [
      | then-is_error_or_unknown-via-then-is_error_or_unknown w ↦
          rows_left c.data-a.ensures c.data-e.ensures types.file.now (sym (c.is_error_or_unknown.ensures types.file.now types.words.now) ∙ w.if-is_error_or_unknown.true)
      | then-is_error_or_unknown-via-else-is_error_or_unknown+then-is_error_or_unknown-2 w ↦
          rows_right c.data-a.ensures c.data-e.ensures types.file.now (sym (w.is_error_or_unknown-else-is_error_or_unknown.ensures types.file.now types.words.now) ∙ w.if-is_error_or_unknown-2.true)
    ] in
    numbers_other types.file.now types.words.now types.table_ok c.args.actual c.args.expected c.if-actual-expected.false true rows

pub compare_with_store-requires : goal.compare_with_store-requires
compare_with_store-requires c =
    let types = c.args.types.now in
    record {
      actual_bound = (
        below_of c.data-a.ensures types.file.now (sym (c.is_error_or_unknown.ensures types.file.now types.words.now) ∙ c.if-is_error_or_unknown.false),
        below_of c.data-e.ensures types.file.now (sym (c.is_error_or_unknown-else-is_error_or_unknown.ensures types.file.now types.words.now) ∙ c.if-is_error_or_unknown-2.false),
      );
    }

pub returns-in_default : goal.returns-in_default
returns-in_default c =
    let types = c.args.types.now in
    numbers_other types.file.now types.words.now types.table_ok c.args.actual c.args.expected c.if-actual-expected.false false
    (rows_closed c.data-a.ensures c.data-e.ensures types.file.now
    (sym (c.is_error_or_unknown.ensures types.file.now types.words.now) ∙ c.if-is_error_or_unknown.false)
    (sym (c.is_error_or_unknown-else-is_error_or_unknown.ensures types.file.now types.words.now) ∙ c.if-is_error_or_unknown-2.false)
    (apart_tuple c.in_default.is-0 c.in_default.not-Tuple-1))

pub returns-in_default-2 : goal.returns-in_default-2
returns-in_default-2 c =
    let types = c.args.types.now in
    numbers_other types.file.now types.words.now types.table_ok c.args.actual c.args.expected c.if-actual-expected.false false
    (rows_closed c.data-a.ensures c.data-e.ensures types.file.now
    (sym (c.is_error_or_unknown.ensures types.file.now types.words.now) ∙ c.if-is_error_or_unknown.false)
    (sym (c.is_error_or_unknown-else-is_error_or_unknown.ensures types.file.now types.words.now) ∙ c.if-is_error_or_unknown-2.false)
    (apart_array c.in_default.is-0 c.in_default.not-FixedArray-1))

pub returns-in_default-3 : goal.returns-in_default-3
returns-in_default-3 c =
    let types = c.args.types.now in
    numbers_other types.file.now types.words.now types.table_ok c.args.actual c.args.expected c.if-actual-expected.false false
    (rows_closed c.data-a.ensures c.data-e.ensures types.file.now
    (sym (c.is_error_or_unknown.ensures types.file.now types.words.now) ∙ c.if-is_error_or_unknown.false)
    (sym (c.is_error_or_unknown-else-is_error_or_unknown.ensures types.file.now types.words.now) ∙ c.if-is_error_or_unknown-2.false)
    (apart_pointer c.in_default.is-0 c.in_default.not-Pointer-1))

pub returns-in_default-4 : goal.returns-in_default-4
returns-in_default-4 c =
    let types = c.args.types.now in
    numbers_other types.file.now types.words.now types.table_ok c.args.actual c.args.expected c.if-actual-expected.false false
    (rows_closed c.data-a.ensures c.data-e.ensures types.file.now
    (sym (c.is_error_or_unknown.ensures types.file.now types.words.now) ∙ c.if-is_error_or_unknown.false)
    (sym (c.is_error_or_unknown-else-is_error_or_unknown.ensures types.file.now types.words.now) ∙ c.if-is_error_or_unknown-2.false)
    (apart_plain c.in_default.not-Pointer-0 c.in_default.not-FixedArray-0 c.in_default.not-Tuple-0))
