-- `links::scope_linked` meets its contract: the parent decides. Assumes nothing.
use Prim.Native.Nat.{ℕ}
use mathlib.Core.Path.{◌≡◌, ap, ◌∙◌}
use mathlib.Core.Bool.{Bool}
use Rattle.std.proofs.Common.{rules, tests}
use Rattle.std.specs.Prelude.{Option, None, Some, MatchOption}
use lib.Dec.{ltb, eqb}
use Rattle.records.specs.declared.FileScopeId.{FileScopeId}
use Rattle.format.specs.LinkCheck.{parent_ok, scope_linked}
use Rattle.records.specs.Meaning.{scope_link_of}
use Rattle.links.proofs.scope_linked.Goals as goal

parent_by : (s : ℕ) (P : FileScopeId → Type 0) (up : Option FileScopeId) (b : Bool) → MatchOption up (b ≡ eqb s 0) P → ((p : FileScopeId) → P p → b ≡ ltb p.0 s)
    → b ≡ parent_ok s (scope_link_of up)
parent_by s P None b is tests = is
parent_by s P (Some p) b is tests = tests p is

pub returns : goal.returns
unfolding scope_linked
returns c =
    parent_by c.args.s _ _ _ c.map_or.ensures (λ p h. search (rules, tests))
    ∙ ap (scope_linked _) c.scope_row-scope.ensures
