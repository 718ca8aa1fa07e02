-- `semantic_index::module_by_name` meets its contract: what each module is asked is the definition's test. Assumes nothing.
use native.Mathlib.Nat.{sub-zero}
use Rattle.std.proofs.Common.{rules}
use Rattle.std.proofs.lemmas.Iterator.{YieldsList-from_range}
use Rattle.model.specs.Lookups.{module_named}
use Rattle.records.specs.Layout.{module_row}
use Rattle.records.specs.Meaning.{name_of}
use Rattle.records.proofs.Searches.{found_first}
use Rattle.semantic_index.proofs.Definitions.{module_found, module_test}
use Rattle.semantic_index.proofs.module_by_name.Goals as goal

pub returns : goal.returns
returns c =
    module_found _ _ _ _ (c.module_count.ensures _) _
    (found_first (module_named (name_of c.args.index.now.file.now c.args.name)) (module_row c.args.index.now.file.now c.args.index.now.words.now) _ _ _ _ c.find.ensures.ran (YieldsList-from_range 0 _ _ (cc) (sub-zero _)) (λ x b q k. search (rules, module_test)))
