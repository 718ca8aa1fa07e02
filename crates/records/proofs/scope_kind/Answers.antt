-- `records::scope_kind` meets its contract: the table's kind at the number, and the last past it. Assumes nothing.
use mathlib.Core.Path.{refl}
use mathlib.Core.List.{List, [], ◌∷◌}
use Rattle.std.proofs.Common.{rules}
use Rattle.records.proofs.Options.{option_mapped}
use Rattle.records.specs.Layout.{scope_kind_by}
use Rattle.records.specs.Meaning.{scope_kind_of}
use Rattle.records.specs.declared.ScopeKind.{ScopeKind}
use Rattle.records.proofs.scope_kind.Goals as goal

-- the constant of the code
abbrev table : List ScopeKind
table = ScopeKind.Module ∷ ScopeKind.Function ∷ ScopeKind.Block ∷ ScopeKind.Loop ∷ []

pub returns : goal.returns
unfolding scope_kind_by
returns c = option_mapped scope_kind_of table _ _ _ ScopeKind.Loop _ (search rules) refl refl
