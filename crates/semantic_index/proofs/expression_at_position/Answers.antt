-- `semantic_index::expression_at_position` meets its contract: each turn of the fold keeps the best of the rows that were looked at, and the best of all rows is
-- what the definition finds. Assumes nothing.
use native.Mathlib.Omega.{arith}
use Prim.Native.Nat.{ℕ, zero, suc, ◌+◌}
use native.Mathlib.Nat.{add-zero, sub-zero}
use mathlib.Core.Path.{◌≡◌, refl, sym, ap, subst, ◌∙◌}
use mathlib.Core.List.{List}
use Rattle.std.specs.List.{fold, range_with_len}
use Rattle.std.proofs.lemmas.Iterator.{YieldsList-from_range}
use Rattle.std.proofs.lemmas.Iterator.Consumers.{fold_from_yields_List}
use Rattle.model.specs.AtPosition as model
use Rattle.records.specs.Layout.{expression_row}
use Rattle.std.proofs.Common.{rules}
use Rattle.std.specs.Prelude.{Option, None, Some, MatchOption, IsSomeAnd}
use Rattle.model.specs.AtPosition.{turn, best_number}
use Rattle.records.specs.Meaning.{expression_link_of}
use Rattle.records.specs.declared.ExpressionId.{ExpressionId}
use Rattle.semantic_index.specs.declared.Best.{Best}
use Rattle.semantic_index.specs.Meaning.{best_of}
use Rattle.semantic_index.proofs.AtPosition.{KeptRows, rows_start, rows_turn, rows_end}
use Rattle.semantic_index.proofs.expression_at_position.Goals as goal

-- the code's best of the definition's, and back
abbrev found_of : Option model.Best → Option Best
found_of None = None
found_of (Some b) = Some (record { number = b.number; length = b.length })

there : (best : Option model.Best) → best_of (found_of best) ≡ best
there None = refl
there (Some b) = refl

back : (best : Option Best) → found_of (best_of best) ≡ best
back None = refl
back (Some b) = refl

module _ (file words : List ℕ) (position from : ℕ) where
  abbrev one : Option Best → ℕ → Option Best
  one best e = found_of (turn position e (best_of best) (expression_row file words (from + e)))

  turned : (e : ℕ) (a b : Option Best) → best_of b ≡ turn position e (best_of a) (expression_row file words (from + e)) → b ≡ one a e
  turned e a b is = sym (back b) ∙ ap found_of is

  run : (n e : ℕ) (best : Option Best) → KeptRows file words position from e (best_of best)
      → KeptRows file words position from (e + n) (best_of (fold one best (range_with_len e n)))
  run zero e best kept = subst (λ k. KeptRows file words position from k (best_of best)) (sym (add-zero e)) kept
  run (suc n) e best kept =
      subst (λ k. KeptRows file words position from k (best_of (fold one (one best e) (range_with_len (e + 1) n)))) (over e n)
      (run n (e + 1) (one best e) (rows_turn file words position from e (best_of best) (best_of (one best e)) kept (there _)))
    where
      over : (a b : ℕ) → a + 1 + b ≡ a + suc b
      over a b = omega arith

number_of_best : (P : Best → ExpressionId → Type 0) (best : Option Best) (r : Option ExpressionId) → MatchOption best (r ≡ None) (λ b. IsSomeAnd r (P b))
    → ((b : Best) (x : ExpressionId) → P b x → x.0 ≡ b.number) → expression_link_of r ≡ best_number (best_of best)
number_of_best P None r is made = ap expression_link_of is
number_of_best P (Some b) None is made = elim is [ ]
number_of_best P (Some b) (Some x) is made = ap Some (made b x is)

pub returns : goal.returns
returns c =
    let rows = c.rows_of-rows.ensures in
    λ file.
    let words = c.args.words.now in
    let position = c.args.position in
    let from = c.rows_of-rows.result.first in
    let count = c.rows_of-rows.result.count in
    number_of_best _ _ _ c.map.ensures.cases (λ b x h. search rules)
    ∙ rows_end file words position from _ count rows.begins rows.counts (0 + count) _
    (subst (λ best. KeptRows file words position from (0 + count) (best_of best))
    (sym (fold_from_yields_List _ (one file words position from) _ _ c.fold.ensures.ran (YieldsList-from_range 0 count count (cc) (sub-zero count)) (λ a x b q h. search (rules, turned file words position from))))
    (run file words position from count 0 None (rows_start file words position from)))
    (omega arith) (omega arith)
