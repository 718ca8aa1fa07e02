-- `views::field_type` meets its contract: what each field is asked is whether it has the name. Assumes nothing.
use Prim.Native.Nat.{ℕ, ◌+◌}
use mathlib.Core.Path.{◌≡◌, ap, ◌∙◌}
use mathlib.Core.Bool.{Bool}
use mathlib.Core.List.{List}
use native.Mathlib.Nat.{sub-zero}
use Rattle.std.proofs.Common.{rules}
use Rattle.std.proofs.lemmas.Iterator.{YieldsList-from_range}
use Rattle.model.specs.Common.{eq_numbers}
use Rattle.model.specs.Records.{Name}
use Rattle.records.specs.Layout.{name_by, item_name, name_with_type_row}
use Rattle.records.specs.Meaning.{name_of}
use Rattle.records.proofs.Searches.{found_first}
use Rattle.views.proofs.Fields.{called, behind_by, type_found}
use Rattle.views.proofs.field_type.Goals as goal

named : (file words : List ℕ) (name n : Name) (i : ℕ) (b : Bool) → n ≡ name_by file (item_name words i) → b ≡ eq_numbers n name → b ≡ called name (name_with_type_row file words i)
named file words name n i b is e = e ∙ ap (λ n. eq_numbers n name) is

pub returns : goal.returns
returns c =
    behind_by c.args.index.now.words.now c.args.fields.first _ _ _ c.map.ensures.cases (λ i t h. search rules)
    ∙ type_found c.args.index.now.file.now c.args.index.now.words.now (name_of c.args.index.now.file.now c.args.name) c.args.fields.first _ _
    (found_first (called (name_of c.args.index.now.file.now c.args.name)) (λ i. name_with_type_row c.args.index.now.file.now c.args.index.now.words.now (c.args.fields.first + i)) _ _ _ _ c.find.ensures.ran (YieldsList-from_range 0 _ _ (cc) (sub-zero _)) (λ x b q k. search (rules, named)))
