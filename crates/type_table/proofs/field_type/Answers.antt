-- `type_table::field_type` meets its contract: the type beside the first such name. Assumes nothing.
use mathlib.Core.Path.{ap₂, ◌∙◌}
use Prim.Native.Nat.{ℕ}
use Rattle.std.proofs.Common.{rules, tests}
use Rattle.std.proofs.lemmas.Iterator.{YieldsList-from_slice, YieldsList-from_zip}
use Rattle.std.proofs.lemmas.Iterator.Search.{find_from_yields_List}
use Rattle.model.specs.Common.{eq_numbers}
use Rattle.records.specs.Layout.{name_by}
use Rattle.records.specs.Meaning.{name_of}
use Rattle.resolution.specs.Types.{field_type}
use Rattle.type_table.specs.Layout.{fields_of}
use Rattle.type_table.proofs.Search.{field_found}
use Rattle.type_table.proofs.field_type.Goals as goal

pub returns : goal.returns
returns c =
    let file = c.args.file.now in
    let name = name_of file c.args.name in
    let names = c.names_in.result.now in
    let items = c.types_in.result.now in
    field_found file name names items c.find.result c.map.result
    (find_from_yields_List (λ (p : ℕ × ℕ). eq_numbers (name_by file p.0) name) c.find.new.self _ c.find.result c.find.ensures.ran (YieldsList-from_zip (YieldsList-from_slice names cc) (YieldsList-from_slice items cc)) (λ x b q k. search (rules, tests)))
    (search (rules, tests))
    ∙ ap₂ (λ x y. field_type (fields_of file x y) name) c.names_in.ensures c.types_in.ensures
