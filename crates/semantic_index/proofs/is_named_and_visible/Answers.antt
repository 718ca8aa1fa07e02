-- `semantic_index::is_named_and_visible` meets its contract. Assumes nothing.
use Rattle.semantic_index.proofs.Definitions.{not_named, named_visible}
use Rattle.semantic_index.proofs.is_named_and_visible.Goals as goal

pub returns-then-is_named : goal.returns-then-is_named
returns-then-is_named c = named_visible _ _ _ _ _ _ _ c.is_named.ensures _ _ c.if-is_named.true (c.definition_row.ensures _) (c.visible_at.ensures _)

pub returns-else-is_named : goal.returns-else-is_named
returns-else-is_named c = not_named _ _ _ _ _ _ _ c.is_named.ensures c.if-is_named.false
