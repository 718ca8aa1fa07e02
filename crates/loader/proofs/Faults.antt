-- The first line whose links don't lead: module after module, and then the questions. Assumes nothing.
use Prim.Native.Nat.{ℕ, ◌+◌, ◌-◌, ◌≤◌, ◌<◌}
use mathlib.Core.Path.{◌≡◌, refl, sym, ap, ◌∙◌}
use mathlib.Core.List.{List, ◌++◌, map, append_assoc}
use mathlib.Core.Bool.{Bool, not}
use Rattle.std.specs.Prelude.{Option, None, Some}
use native.Mathlib.Nat.{zero-add}
use native.Mathlib.Omega.{arith}
use lib.ListN.{length, length-map}
use Rattle.model.specs.Common.{let_some, first}
use Rattle.model.specs.Records.{Index}
use Rattle.format.specs.LinkCheck.{question_linked, module_lines, modules_lines, linked_lines, link_fault}
use Rattle.records.specs.Layout.{each, module_count, question_count, question_row, module_row, index_of}
use Rattle.records.proofs.Lists.{each_unroll, each_ended, each_begun, each_length}
use Rattle.records.proofs.Searches.{shifted}
use Rattle.links.proofs.Lines.{fault_in, part_hit, part_miss, last_hit, last_miss, first_below}

-- a place among the lines behind the first, as a line's number
behind_first : (o : Option ℕ) → (let_some {B = Option ℕ} o None λ n. Some (2 + n)) ≡ shifted 2 o
unfolding shifted
behind_first None = refl
behind_first (Some k) = refl

module _ (file words : List ℕ) where
  abbrev the_index : Index
  the_index = index_of file words

  pub modules_are : length (index_of file words).modules ≡ module_count words
  unfolding index_of
  modules_are = each_length (module_row file words) 0 (module_count words)

  abbrev questions_lines : List Bool
  questions_lines = map (question_linked the_index) the_index.questions

  -- the tests from module m on, of which the first has the place `place`
  unfoldable pub faults_from : ℕ → ℕ → Option ℕ
  faults_from place m = fault_in place (modules_lines (each (module_row file words) (0 + m) (module_count words - m)) ++ questions_lines)

  -- line 2 has place 2
  pub faults_begun : link_fault the_index ≡ faults_from 2 0
  unfolding link_fault linked_lines index_of faults_from fault_in
  faults_begun =
      behind_first (first not (linked_lines the_index))
      ∙ ap (λ ms. fault_in 2 (modules_lines ms ++ questions_lines)) (each_begun (module_row file words) 0 (module_count words))

  module _ (place m : ℕ) (more : m < module_count words) where
    rest : List Bool
    rest = modules_lines (each (module_row file words) (0 + (m + 1)) (module_count words - (m + 1))) ++ questions_lines

    unrolled : faults_from place m ≡ fault_in place (module_lines (module_row file words m) ++ rest)
    unfolding faults_from modules_lines rest
    unrolled =
        ap (λ ms. fault_in place (modules_lines ms ++ questions_lines)) (each_unroll (module_row file words) 0 (module_count words) m more)
        ∙ ap (fault_in place) (append_assoc (module_lines (module_row file words (0 + m))) (modules_lines (each (module_row file words) (0 + (m + 1)) (module_count words - (m + 1)))) questions_lines)
        ∙ ap (λ k. fault_in place (module_lines (module_row file words k) ++ (modules_lines (each (module_row file words) (0 + (m + 1)) (module_count words - (m + 1))) ++ questions_lines))) (zero-add m)

    module _ (r : Option ℕ) (is : r ≡ first not (module_lines (module_row file words m))) where
      pub module_hit : (k : ℕ) → r ≡ Some k → faults_from place m ≡ Some (place + k)
      module_hit k e = unrolled ∙ part_hit place (module_lines (module_row file words m)) rest r is k e

      pub hit_below : (k : ℕ) → r ≡ Some k → k < length (module_lines (module_row file words m))
      hit_below k e = first_below (module_lines (module_row file words m)) k (sym is ∙ e)

      pub module_miss : (count : ℕ) → count ≡ length (module_lines (module_row file words m)) → r ≡ None → faults_from place m ≡ faults_from (place + count) (m + 1)
      unfolding faults_from rest
      module_miss count long e = unrolled ∙ part_miss place (module_lines (module_row file words m)) rest r is count long e

  module _ (place m : ℕ) (ended : module_count words ≤ m) (r : Option ℕ) (is : r ≡ first not questions_lines) where
    only_questions : faults_from place m ≡ fault_in place questions_lines
    unfolding faults_from modules_lines
    only_questions = ap (λ ms. fault_in place (modules_lines ms ++ questions_lines)) (each_ended (module_row file words) 0 (module_count words) m ended)

    pub question_hit : (k : ℕ) → r ≡ Some k → faults_from place m ≡ Some (place + k)
    question_hit k e = only_questions ∙ last_hit place questions_lines r is k e

    pub question_below : (k : ℕ) → r ≡ Some k → k < question_count words
    unfolding index_of
    question_below k e =
        omega
        (arith, first_below questions_lines k (sym is ∙ e), length-map the_index.questions (question_linked the_index), each_length (question_row words) 0 (question_count words))

    pub question_miss : r ≡ None → faults_from place m ≡ None
    question_miss e = only_questions ∙ last_miss place questions_lines r is e
