-- `type_table::find_type` meets its contract. Assumes nothing.
use Prim.Native.Nat.{ℕ, ◌<◌}
use mathlib.Core.Path.{◌≡◌, sym}
use mathlib.Core.Bool.{true, false}
use Rattle.std.proofs.Common.{rules, tests}
use Rattle.std.proofs.lemmas.Iterator.{first_from_Range}
use Rattle.resolution.specs.Types.{eq_type}
use Rattle.type_table.specs.Layout.{data_from, row_at, type_count}
use Rattle.type_table.specs.Promises.{same_rows}
use Rattle.type_table.proofs.Same.{same_row_is}
use Rattle.type_table.proofs.Search.{found}
use Rattle.type_table.proofs.find_type.Goals as goal

pub returns : goal.returns
returns c =
    let new = c.args.new.now in
    let row = data_from new.file.now new.head new.names.now new.items.now in
    let same = λ (k : ℕ). same_rows new.file.now new.head new.names.now new.items.now c.args.types.now k in
    let is : (k : ℕ) → k < type_count c.args.types.now → eq_type row (row_at new.file.now c.args.types.now k) ≡ same k = λ k below. sym (same_row_is new.file.now new.head new.names.now new.items.now c.args.types.now k new.canonical (c.requires.rows k below).canonical) in
    found new.file.now c.args.types.now row c.find.result same is (rw c.word_at.ensures at (first_from_Range _ _ _ c.find.result (λ k. same k ≡ true) (λ k. same k ≡ false) c.find.ensures.ran (λ x q k. search (rules, tests)) (λ x q k. search (rules, tests))))
