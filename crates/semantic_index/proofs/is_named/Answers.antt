-- `semantic_index::is_named` meets its contract: another scope, or the names decide. Assumes nothing.
use Rattle.semantic_index.proofs.Definitions.{other_scope, same_scope}
use Rattle.semantic_index.proofs.is_named.Goals as goal

pub returns-then-eq : goal.returns-then-eq
returns-then-eq c = same_scope _ _ _ _ (c.definition_scope.ensures _) _ c.eq.ensures _ _ c.if-eq.true (c.definition_name.ensures _) c.same_name.ensures

pub returns-else-eq : goal.returns-else-eq
returns-else-eq c = other_scope _ _ _ _ (c.definition_scope.ensures _) _ c.eq.ensures c.if-eq.false
