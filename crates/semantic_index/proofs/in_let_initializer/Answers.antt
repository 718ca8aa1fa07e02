-- `semantic_index::in_let_initializer` meets its contract: the value of the let decides. Assumes nothing.
use Rattle.std.proofs.Common.{rules}
use Rattle.semantic_index.proofs.Definitions.{initializer_by}
use Rattle.semantic_index.proofs.in_let_initializer.Goals as goal

pub returns : goal.returns
returns c = λ file. initializer_by _ _ _ _ _ (c.let_value.ensures file _) _ _ c.is_some_and.ensures (λ x h. search rules)
