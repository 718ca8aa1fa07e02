-- `semantic_index::latest_definition_index_by_name` meets its contract: what each row is asked is the definition's test. Assumes nothing.
use Prim.Native.Nat.{◌+◌}
use mathlib.Core.Path.{◌∙◌}
use Rattle.std.proofs.Common.{rules}
use Rattle.model.specs.Lookups.{named}
use Rattle.records.specs.Layout.{definition_row}
use Rattle.records.specs.Meaning.{name_of}
use Rattle.records.proofs.Searches.{found_last, numbered_by}
use Rattle.semantic_index.proofs.Definitions.{named_found}
use Rattle.semantic_index.proofs.latest_definition_index_by_name.Goals as goal

pub returns : goal.returns
returns c =
    numbered_by (λ d. d.0) _ _ _ c.map.ensures.cases (λ k x h. search rules)
    ∙ named_found _ _ _ _ _ c.rows_of-rows.ensures.begins c.rows_of-rows.ensures.counts _ _ _
    (found_last (named c.args.s.0 (name_of c.args.index.now.file.now c.args.name)) (λ d. definition_row c.args.index.now.file.now c.args.index.now.words.now (c.rows_of-rows.result.first + d)) _ _ _ _ c.find.ensures.ran c.rev.ensures.source (λ x b q k. search rules))
