-- `semantic_index::covers` meets its contract: the record decides. Assumes nothing.
use Rattle.std.proofs.Common.{rules, tests}
use Rattle.semantic_index.proofs.Definitions.{covered_by}
use Rattle.semantic_index.proofs.covers.Goals as goal

pub returns : goal.returns
returns c = λ file. covered_by file _ _ _ (c.expression_at.ensures file) _ _ _ _ c.is_some_and.ensures (λ x h. search (rules, tests))
