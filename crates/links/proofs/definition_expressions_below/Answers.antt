-- `links::definition_expressions_below` meets its contract, kind by kind. Assumes nothing.
use Prim.Native.Nat.{ℕ}
use mathlib.Core.Bool.{Bool}
use mathlib.Core.List.{List}
use mathlib.Core.Path.{sym, ap, ◌∙◌}
use Rattle.model.specs.Links.{definition_expressions}
use Rattle.format.specs.LinkCheck.{all_below}
use Rattle.records.specs.Meaning.{definition_kind_of}
use Rattle.records.specs.declared.DefinitionKind.{DefinitionKind}
use Rattle.links.proofs.definition_expressions_below.Goals as goal

abbrev test : ℕ → List ℕ → List ℕ → DefinitionKind → Bool
test n file words kind = all_below n (definition_expressions (definition_kind_of file words kind))

pub returns-in-Function : goal.returns-in-Function
unfolding all_below definition_expressions
returns-in-Function c = λ file words. ap (test _ file words) (sym c.in-Function.is)

pub returns-in-Struct : goal.returns-in-Struct
unfolding all_below definition_expressions
returns-in-Struct c = λ file words. ap (test _ file words) (sym c.in-Struct.is)

pub returns-in-Const : goal.returns-in-Const
unfolding all_below definition_expressions
returns-in-Const c = λ file words. c.link_below.ensures ∙ ap (test _ file words) (sym c.in-Const.is)

pub returns-in-Let : goal.returns-in-Let
unfolding all_below definition_expressions
returns-in-Let c = λ file words. c.both_below.ensures ∙ ap (test _ file words) (sym c.in-Let.is)

pub returns-in-Parameter : goal.returns-in-Parameter
unfolding all_below definition_expressions
returns-in-Parameter c = λ file words. ap (test _ file words) (sym c.in-Parameter.is)

pub returns-in-Use : goal.returns-in-Use
unfolding all_below definition_expressions
returns-in-Use c = λ file words. ap (test _ file words) (sym c.in-Use.is)

pub returns-in-LoopVariable : goal.returns-in-LoopVariable
unfolding all_below definition_expressions
returns-in-LoopVariable c = λ file words. ap (test _ file words) (sym c.in-LoopVariable.is)
