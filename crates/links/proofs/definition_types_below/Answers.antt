-- `links::definition_types_below` meets its contract, kind by kind. Assumes nothing.
use Prim.Native.Nat.{ℕ}
use mathlib.Core.Bool.{Bool}
use mathlib.Core.List.{List, [], ◌∷◌}
use mathlib.Core.Path.{sym, ap, ◌∙◌}
use borrow.Author.Tests.{lt-ltb, le-ltb}
use Rattle.model.specs.Links.{definition_types}
use Rattle.format.specs.LinkCheck.{all_below}
use Rattle.records.specs.Meaning.{definition_kind_of}
use Rattle.records.specs.declared.DefinitionKind.{DefinitionKind}
use Rattle.links.proofs.Below.{below_one, parts_stop, parts_go, field_types_at}
use Rattle.links.proofs.definition_types_below.Goals as goal

abbrev test : ℕ → List ℕ → List ℕ → DefinitionKind → Bool
test n file words kind = all_below n (definition_types (definition_kind_of file words kind))

pub returns-else-t-n : goal.returns-else-t-n
unfolding definition_types
returns-else-t-n c = λ file. parts_stop _ (_ ∷ []) _ _ (below_one _ _) (le-ltb _ _ c.if-t-n.false) ∙ ap (test _ file _) (sym c.in-Function.is)

pub returns-then-t-n : goal.returns-then-t-n
unfolding definition_types
returns-then-t-n c = λ file. parts_go _ (_ ∷ []) _ _ (below_one _ _) _ (lt-ltb _ _ c.if-t-n.true) (c.numbers_below.ensures ∙ ap (all_below _) (field_types_at file _ _ _)) ∙ ap (test _ file _) (sym c.in-Function.is)

pub returns-in-Struct : goal.returns-in-Struct
unfolding definition_types
returns-in-Struct c = λ file. c.numbers_below-in-Struct.ensures ∙ ap (all_below _) (field_types_at file _ _ _) ∙ ap (test _ file _) (sym c.in-Struct.is)

pub returns-in-Const : goal.returns-in-Const
unfolding definition_types
returns-in-Const c = λ file. c.link_below.ensures ∙ ap (test _ file _) (sym c.in-Const.is)

pub returns-in-Let : goal.returns-in-Let
unfolding definition_types
returns-in-Let c = λ file. c.link_below-in-Let.ensures ∙ ap (test _ file _) (sym c.in-Let.is)

pub returns-in-Parameter : goal.returns-in-Parameter
unfolding definition_types
returns-in-Parameter c = λ file. below_one _ _ ∙ ap (test _ file _) (sym c.in-Parameter.is)

pub returns-in-Use : goal.returns-in-Use
unfolding definition_types all_below
returns-in-Use c = λ file. ap (test _ file _) (sym c.in-Use.is)

pub returns-in-LoopVariable : goal.returns-in-LoopVariable
unfolding definition_types all_below
returns-in-LoopVariable c = λ file. ap (test _ file _) (sym c.in-LoopVariable.is)
