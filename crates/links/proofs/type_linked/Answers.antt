-- `links::type_linked` meets its contract, kind by kind. Assumes nothing.
use Prim.Native.Nat.{ℕ}
use mathlib.Core.Bool.{Bool}
use mathlib.Core.List.{List}
use mathlib.Core.Path.{sym, ap, ◌∙◌}
use Rattle.model.specs.Links.{type_types}
use Rattle.format.specs.LinkCheck.{all_below, type_linked}
use Rattle.records.specs.Meaning.{type_expr_of}
use Rattle.records.specs.declared.TypeExpr.{TypeExpr}
use Rattle.links.proofs.Below.{below_one}
use Rattle.links.proofs.type_linked.Goals as goal

abbrev test : ℕ → List ℕ → List ℕ → TypeExpr → Bool
test t file words type = type_linked t (type_expr_of file words type)

pub returns-in-Felt : goal.returns-in-Felt
unfolding type_linked type_types all_below
returns-in-Felt c = λ file. ap (test _ file _) (sym c.in-Felt.is) ∙ ap (type_linked _) (c.type_expr_row.ensures file)

pub returns-in-Bool : goal.returns-in-Bool
unfolding type_linked type_types all_below
returns-in-Bool c = λ file. ap (test _ file _) (sym c.in-Bool.is) ∙ ap (type_linked _) (c.type_expr_row.ensures file)

pub returns-in-U32 : goal.returns-in-U32
unfolding type_linked type_types all_below
returns-in-U32 c = λ file. ap (test _ file _) (sym c.in-U32.is) ∙ ap (type_linked _) (c.type_expr_row.ensures file)

pub returns-in-Custom : goal.returns-in-Custom
unfolding type_linked type_types all_below
returns-in-Custom c = λ file. ap (test _ file _) (sym c.in-Custom.is) ∙ ap (type_linked _) (c.type_expr_row.ensures file)

pub returns-in-Pointer : goal.returns-in-Pointer
unfolding type_linked type_types
returns-in-Pointer c = λ file. below_one _ _ ∙ ap (test _ file _) (sym c.in-Pointer.is) ∙ ap (type_linked _) (c.type_expr_row.ensures file)

pub returns-in-Tuple : goal.returns-in-Tuple
unfolding type_linked type_types
returns-in-Tuple c = λ file. c.numbers_below.ensures ∙ ap (test _ file _) (sym c.in-Tuple.is) ∙ ap (type_linked _) (c.type_expr_row.ensures file)

pub returns-in-FixedArray : goal.returns-in-FixedArray
unfolding type_linked type_types
returns-in-FixedArray c = λ file. below_one _ _ ∙ ap (test _ file _) (sym c.in-FixedArray.is) ∙ ap (type_linked _) (c.type_expr_row.ensures file)
