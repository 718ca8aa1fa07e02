-- One turn of the run that finds the expression at a byte, and the run over the rows of a module. Assumes nothing.
use Prim.Native.Nat.{ℕ, suc, ◌+◌, ◌-◌, ◌≤◌, ◌<◌}
use native.Mathlib.Omega.{arith}
use mathlib.Core.Path.{◌≡◌, sym, ap, ap₂, subst, ◌∙◌}
use mathlib.Core.Bool.{Bool, true, false, ◌&&◌, false≢true}
use mathlib.Core.List.{List, [], ◌∷◌, ◌++◌}
use Rattle.std.specs.Prelude.{Option, None, Some, MatchOption}
use lib.Dec.{leb, ltb}
use borrow.Author.Tests.{le-leb, lt-leb, lt-ltb, le-ltb, ltb-true, ltb-false}
use Rattle.std.specs.Prelude.{if◌then◌else◌}
use Rattle.model.specs.Common.{let_some}
use Rattle.model.specs.Records.{ExpressionInfo}
use Rattle.model.specs.Lookups.{covers, span, expression_at_position}
use Rattle.model.specs.AtPosition.{Best, better, turn, best_number}
use Rattle.model.proofs.AtPosition.{Kept, kept_start, kept_turn, kept_chosen, chosen_found}
use Rattle.records.specs.Layout.{each, begin_of, count_of, expression_rows, expression_row, rows_of, module_row}
use Rattle.records.proofs.Lists.{each_length, each_snoc, some_and}
use Rattle.semantic_index.specs.Meaning.{best_of}
use Rattle.semantic_index.specs.declared.Best.{Best as Found}

-- ------------------------------------------------------------------ one turn

-- whether there is a best so far that is shorter
abbrev pub kept : ℕ → Option Best → Bool
kept length best = let_some best false (λ best. ltb best.length length)

-- what `is_some_and` says of the best so far, whose closure compares the lengths
pub kept_by : (length : ℕ) (P : Found → Type 0) (best : Option Found) (b : Bool) → MatchOption best (b ≡ false) P
    → ((x : Found) → P x → b ≡ ltb x.length length) → kept length (best_of best) ≡ b
kept_by length P best b answer tests =
    sym (some_and (λ best. record { number = best.number; length = best.length }) (λ best. ltb best.length length) P best b answer tests)

-- an expression whose start and end were read
module _ (position number start end : ℕ) (x : ExpressionInfo) (is_start : start ≡ x.start) (is_end : end ≡ x.end) where
  covers_is : (b : Bool) → (leb start position && ltb position end) ≡ b → covers position x ≡ b
  unfolding covers
  covers_is b e = ap₂ (λ s t. leb s position && ltb position t) (sym is_start) (sym is_end) ∙ e

  not_covering : (best : Option Best) → covers position x ≡ false → best ≡ turn position number best x
  unfolding turn better
  not_covering None e = ap (λ b. if b then Some (record { number = number; length = span x }) else None) (sym e)
  not_covering (Some best) e = ap (λ b. if (b && leb (span x) best.length) then Some (record { number = number; length = span x }) else Some best) (sym e)

  pub turn_before : (best : Option Best) → position < start → best ≡ turn position number best x
  turn_before best less = not_covering best (covers_is false (ap (λ b. b && ltb position end) (lt-leb start position less)))

  module _ (from_start : start ≤ position) where
    pub turn_behind : (best : Option Best) → end ≤ position → best ≡ turn position number best x
    turn_behind best behind = not_covering best (covers_is false (ap₂ ◌&&◌ (le-leb start position from_start) (le-ltb position end behind)))

    module _ (to_end : position < end) where
      covering : covers position x ≡ true
      covering = covers_is true (ap₂ ◌&&◌ (le-leb start position from_start) (lt-ltb position end to_end))

      its_span : end - start ≡ span x
      its_span = ap₂ ◌-◌ is_end is_start

      abbrev found : ℕ → Option Best
      found length = Some (record { number = number; length = length })

      turn_first : found (end - start) ≡ turn position number None x
      unfolding turn better
      turn_first = ap found its_span ∙ ap (λ b. if b then found (span x) else None) (sym covering)

      turn_longer : (best : Best) → best.length < end - start → Some best ≡ turn position number (Some best) x
      unfolding turn better
      turn_longer best less =
          ap₂ (λ b c. if (b && c) then found (span x) else Some best) (sym covering) (sym (lt-leb (span x) best.length (subst (λ n. best.length < n) its_span less)))

      turn_shorter : (best : Best) → end - start ≤ best.length → found (end - start) ≡ turn position number (Some best) x
      unfolding turn better
      turn_shorter best least =
          ap found its_span
          ∙ ap₂ (λ b c. if (b && c) then found (span x) else Some best) (sym covering) (sym (le-leb (span x) best.length (subst (λ n. n ≤ best.length) its_span least)))

      -- the best so far stays where it is shorter
      pub turn_kept : (best : Option Best) → kept (end - start) best ≡ true → best ≡ turn position number best x
      turn_kept None e = absurd (false≢true e)
      turn_kept (Some best) e = turn_longer best (ltb-true best.length (end - start) e)

      pub turn_taken : (best : Option Best) → kept (end - start) best ≡ false → found (end - start) ≡ turn position number best x
      turn_taken None e = turn_first
      turn_taken (Some best) e = turn_shorter best (ltb-false best.length (end - start) e)

-- ------------------------------------------------------------------ the run

module _ (file words : List ℕ) (position from : ℕ) where
  -- the best of the first rows
  abbrev pub KeptRows : ℕ → Option Best → Type 0
  KeptRows count best = Kept position (each (expression_row file words) from count) best

  pub rows_start : KeptRows 0 None
  unfolding each
  rows_start = kept_start position

  pub rows_turn : (e : ℕ) (best best' : Option Best) → KeptRows e best → best' ≡ turn position e best (expression_row file words (from + e)) → KeptRows (e + 1) best'
  rows_turn e best best' kept is =
      subst (KeptRows (e + 1)) (sym is)
      (subst (λ l. Kept position l (turn position e best (expression_row file words (from + e)))) (sym (one_more e))
      (subst (λ n. Kept position (each (expression_row file words) from e ++ (expression_row file words (from + e) ∷ [])) (turn position n best (expression_row file words (from + e)))) (each_length (expression_row file words) from e)
      (kept_turn position (each (expression_row file words) from e) best (expression_row file words (from + e)) kept)))
    where
      one_more : (e : ℕ) → each (expression_row file words) from (e + 1) ≡ each (expression_row file words) from e ++ (expression_row file words (from + e) ∷ [])
      one_more e = ap (each (expression_row file words) from) (next e) ∙ each_snoc (expression_row file words) from e
        where
          next : (e : ℕ) → e + 1 ≡ suc e
          next e = omega arith

  module _ (m count : ℕ) (begins : from ≡ begin_of words m expression_rows) (counts : count ≡ count_of words m expression_rows) where
    pub rows_end : (e : ℕ) (best : Option Best) → KeptRows e best → e ≤ count → count ≤ e → best_number best ≡ expression_at_position (module_row file words m) position
    unfolding module_row rows_of
    rows_end e best kept most least = sym (chosen_found position (module_row file words m) (best_number best) (kept_chosen position (module_row file words m).expressions best all))
      where
        same : e ≡ count
        same = omega (arith, most, least)

        all : Kept position (module_row file words m).expressions best
        all = subst (λ l. Kept position l best) (ap₂ (each (expression_row file words)) begins (same ∙ counts)) kept
