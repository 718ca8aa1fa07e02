-- `semantic_index::builtins::is_builtin_function_name` meets its contract: the text is the bytes of `assert`. Assumes nothing.
use Rattle.model.specs.Lookups.{is_builtin_function_name}
use Rattle.semantic_index.proofs.builtins.is_builtin_function_name.Goals as goal

pub returns : goal.returns
unfolding is_builtin_function_name
returns c = c.is_text.ensures
