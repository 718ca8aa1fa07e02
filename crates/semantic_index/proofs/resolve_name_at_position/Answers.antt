-- `semantic_index::resolve_name_at_position` meets its contract: what each scope of the chain is asked is the definition's. Assumes nothing.
use Rattle.std.proofs.Common.{rules}
use Rattle.model.specs.Lookups.{resolve_name_at_position}
use Rattle.semantic_index.proofs.resolve_name_at_position.Goals as goal

pub returns : goal.returns
unfolding resolve_name_at_position
returns c = c.first_in_chain.ensures.first _ _ (λ at found answers. search rules)
