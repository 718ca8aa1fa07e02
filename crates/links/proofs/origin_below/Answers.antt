-- `links::origin_below` meets its contract, kind by kind. Assumes nothing.
use Prim.Native.Nat.{ℕ}
use mathlib.Core.Bool.{Bool}
use mathlib.Core.List.{List}
use mathlib.Core.Path.{sym, ap, ◌∙◌}
use Rattle.model.specs.Links.{origin_expressions}
use Rattle.format.specs.LinkCheck.{all_below}
use Rattle.records.specs.Meaning.{origin_of}
use Rattle.records.specs.declared.Origin.{Origin}
use Rattle.links.proofs.Below.{below_one}
use Rattle.links.proofs.origin_below.Goals as goal

abbrev test : ℕ → List ℕ → Origin → Bool
test n file origin = all_below n (origin_expressions (origin_of file origin))

pub returns-in-Plain : goal.returns-in-Plain
unfolding origin_expressions all_below
returns-in-Plain c = λ file. ap (test _ file) (sym c.in-Plain.is)

pub returns-in-StructField : goal.returns-in-StructField
unfolding origin_expressions
returns-in-StructField c = λ file. below_one _ _ ∙ ap (test _ file) (sym c.in-StructField.is)

pub returns-in-Arg : goal.returns-in-Arg
unfolding origin_expressions
returns-in-Arg c = λ file. below_one _ _ ∙ ap (test _ file) (sym c.in-Arg.is)

pub returns-in-AssignmentRhs : goal.returns-in-AssignmentRhs
unfolding origin_expressions
returns-in-AssignmentRhs c = λ file. below_one _ _ ∙ ap (test _ file) (sym c.in-AssignmentRhs.is)

pub returns-in-ReturnExpr : goal.returns-in-ReturnExpr
unfolding origin_expressions all_below
returns-in-ReturnExpr c = λ file. ap (test _ file) (sym c.in-ReturnExpr.is)

pub returns-in-Condition : goal.returns-in-Condition
unfolding origin_expressions all_below
returns-in-Condition c = λ file. ap (test _ file) (sym c.in-Condition.is)
