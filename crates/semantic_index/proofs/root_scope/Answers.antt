-- `semantic_index::root_scope` meets its contract: what each row is asked is the definition's test. Assumes nothing.
use Prim.Native.Nat.{◌+◌}
use mathlib.Core.Path.{◌∙◌}
use native.Mathlib.Nat.{sub-zero}
use Rattle.std.proofs.Common.{rules}
use Rattle.std.proofs.lemmas.Iterator.{YieldsList-from_range}
use Rattle.model.specs.Lookups.{without_parent}
use Rattle.records.specs.Layout.{scope_row}
use Rattle.records.proofs.Searches.{found_first, numbered_by}
use Rattle.semantic_index.proofs.Definitions.{root_found}
use Rattle.semantic_index.proofs.root_scope.Goals as goal

pub returns : goal.returns
returns c = λ file.
    numbered_by (λ s. s.0) _ _ _ c.map.ensures.cases (λ k x h. search rules)
    ∙ root_found file _ _ _ _ c.rows_of-rows.ensures.begins c.rows_of-rows.ensures.counts _
    (found_first without_parent (λ s. scope_row c.args.words.now (c.rows_of-rows.result.first + s)) _ _ _ _ c.find.ensures.ran (YieldsList-from_range 0 _ _ (cc) (sub-zero _)) (λ x b q k. search rules))
