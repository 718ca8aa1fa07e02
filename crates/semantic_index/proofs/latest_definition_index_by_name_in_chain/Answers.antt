-- `semantic_index::latest_definition_index_by_name_in_chain` meets its contract: what each scope of the chain is asked is the definition's. Assumes nothing.
use Rattle.std.proofs.Common.{rules}
use Rattle.model.specs.Lookups.{latest_definition_index_by_name_in_chain}
use Rattle.semantic_index.proofs.latest_definition_index_by_name_in_chain.Goals as goal

pub returns : goal.returns
unfolding latest_definition_index_by_name_in_chain
returns c = c.first_in_chain.ensures.first _ _ (λ at found answers. search rules)
