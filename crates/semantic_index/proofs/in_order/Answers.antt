-- `semantic_index::in_order` meets its contract. Assumes nothing.
use Rattle.semantic_index.proofs.Definitions.{allowed, not_allowed}
use Rattle.semantic_index.proofs.in_order.Goals as goal

pub returns-then-is_top_level_allowed : goal.returns-then-is_top_level_allowed
returns-then-is_top_level_allowed c = λ file words. allowed _ _ _ (c.is_top_level_allowed.ensures file words) c.if-is_top_level_allowed.true

pub returns-else-is_top_level_allowed : goal.returns-else-is_top_level_allowed
returns-else-is_top_level_allowed c = λ file words. not_allowed _ _ _ (c.is_top_level_allowed.ensures file words) c.if-is_top_level_allowed.false
