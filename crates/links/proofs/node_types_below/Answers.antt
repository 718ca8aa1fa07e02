-- `links::node_types_below` meets its contract: two nodes name a T, the others none. Assumes nothing.
use Prim.Native.Nat.{ℕ}
use mathlib.Core.Bool.{Bool}
use mathlib.Core.List.{List}
use mathlib.Core.Path.{sym, ap, ◌∙◌}
use Rattle.model.specs.Links.{node_types}
use Rattle.format.specs.LinkCheck.{all_below}
use Rattle.records.specs.Meaning.{expression_of}
use Rattle.records.specs.declared.Expression.{Expression}
use Rattle.links.proofs.Below.{below_one}
use Rattle.links.proofs.ByNode.{no_types}
use Rattle.links.proofs.node_types_below.Goals as goal

abbrev test : ℕ → List ℕ → List ℕ → Expression → Bool
test n file words node = all_below n (node_types (expression_of file words node))

pub returns-in-Cast : goal.returns-in-Cast
unfolding node_types
returns-in-Cast c = λ file words. below_one _ _ ∙ ap (test _ file words) (sym c.in-Cast.is)

pub returns-in-New : goal.returns-in-New
unfolding node_types
returns-in-New c = λ file words. below_one _ _ ∙ ap (test _ file words) (sym c.in-New.is)

pub returns-in_default : goal.returns-in_default
returns-in_default c = λ file words. no_types _ file words c.args.node c.in_default.in_default-own.keys3
