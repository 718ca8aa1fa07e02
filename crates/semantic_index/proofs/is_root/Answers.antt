-- `semantic_index::is_root` meets its contract: the parent decides. Assumes nothing.
use Rattle.std.specs.Prelude.{Option, None, Some, Bool, not, is_some, ◌≡◌}
use Rattle.std.specs.Prelude.{true, false}
use mathlib.Core.Path.{refl, sym, ap, ◌∙◌}
use mathlib.Core.Bool.{false≢true}
use Rattle.model.specs.Lookups.{without_parent}
use Rattle.model.specs.Common.{is_none}
use Rattle.records.specs.Meaning.{scope_link_of}
use Rattle.records.specs.declared.FileScopeId.{FileScopeId}
use Rattle.semantic_index.proofs.is_root.Goals as goal

absent : (o : Option FileScopeId) (b : Bool) → is_some o ≡ not b → b ≡ is_none (scope_link_of o)
absent None true e = refl
absent None false e = absurd (false≢true e)
absent (Some s) true e = absurd (false≢true (sym e))
absent (Some s) false e = refl

pub returns : goal.returns
unfolding without_parent
returns c = absent _ _ c.is_none.ensures ∙ ap without_parent c.scope_row-scope.ensures
