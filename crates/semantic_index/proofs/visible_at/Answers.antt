-- `semantic_index::visible_at` meets its contract. Assumes nothing.
use Rattle.semantic_index.proofs.Definitions.{not_visible, maybe_visible}
use Rattle.semantic_index.proofs.visible_at.Goals as goal

pub returns-then-in_order : goal.returns-then-in_order
returns-then-in_order c = λ file. maybe_visible _ _ _ _ _ (c.in_order.ensures file _) _ c.if-in_order.true (c.in_let_initializer.ensures file)

pub returns-else-in_order : goal.returns-else-in_order
returns-else-in_order c = λ file. not_visible _ _ _ _ _ (c.in_order.ensures file _) c.if-in_order.false
