-- `links::question_linked` meets its contract, kind by kind. Assumes nothing.
use Prim.Native.Nat.{ℕ}
use mathlib.Core.Bool.{Bool}
use mathlib.Core.List.{List}
use mathlib.Core.Path.{sym, ap, ◌∙◌}
use Rattle.format.specs.LinkCheck.{question_linked}
use Rattle.records.specs.Layout.{index_of}
use Rattle.records.specs.Meaning.{question_of}
use Rattle.records.specs.declared.Question.{Question}
use Rattle.links.proofs.question_linked.Goals as goal

abbrev test : List ℕ → List ℕ → Question → Bool
test file words question = question_linked (index_of file words) (question_of question)

pub returns-in-Def : goal.returns-in-Def
unfolding question_linked
returns-in-Def c = λ file. ap (test file _) (sym c.in-Def.is) ∙ ap (question_linked (index_of file _)) c.question_row.ensures

pub returns-in-At : goal.returns-in-At
unfolding question_linked
returns-in-At c = λ file. ap (test file _) (sym c.in-At.is) ∙ ap (question_linked (index_of file _)) c.question_row.ensures
