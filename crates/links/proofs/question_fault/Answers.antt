-- `links::question_fault` meets its contract: what each question is asked is the definition's. Assumes nothing.
use mathlib.Core.Path.{◌≡◌, sym, ap, ◌∙◌}
use mathlib.Core.Bool.{Bool, not}
use lib.ListN.{length}
use mathlib.Core.List.{List, map}
use Prim.Native.Nat.{ℕ}
use native.Mathlib.Nat.{sub-zero}
use Rattle.std.proofs.Common.{rules, tests}
use Rattle.std.proofs.lemmas.Iterator.{YieldsList-from_range}
use Rattle.std.proofs.lemmas.Iterator.Adapters.{option_map_id}
use Rattle.std.specs.Prelude.{Option}
use Rattle.model.specs.Common.{first}
use Rattle.format.specs.LinkCheck.{question_linked}
use Rattle.records.specs.Layout.{question_row, index_of, each}
use Rattle.records.proofs.Lists.{each_length}
use Rattle.records.proofs.Searches.{found_first, numbered_by}
use Rattle.links.proofs.Lines.{list_tests}
use Rattle.links.proofs.question_fault.Goals as goal

-- the test of a question by its number
abbrev test : List ℕ → List ℕ → ℕ → Bool
test file words k = question_linked (index_of file words) (question_row words k)

-- the file's questions, tested by their numbers
module _ (file words : List ℕ) (count : ℕ) (long : count ≡ length (index_of file words).questions) where
  the_first : (r : Option ℕ) → r ≡ first not (each (test file words) 0 count)
      → r ≡ first not (map (question_linked (index_of file words)) (index_of file words).questions)
  unfolding index_of
  the_first r e =
      e
      ∙ ap (first not) (list_tests (question_linked (index_of file words)) (question_row words) 0 count)
      ∙ ap (λ n. first not (map (question_linked (index_of file words)) (each (question_row words) 0 n))) (long ∙ each_length (question_row words) 0 _)

pub returns : goal.returns
returns c = λ file.
    sym (option_map_id c.map.result)
    ∙ numbered_by (λ x. x) _ _ _ c.map.ensures.cases (λ k x h. search (rules, tests))
    ∙ the_first file _ _ (c.question_count-count.ensures file) _ (found_first not (test file c.args.words.now) _ _ _ _ c.find.ensures.ran (YieldsList-from_range 0 _ _ (cc) (sub-zero _)) (λ x b q k. search (rules, tests)))
