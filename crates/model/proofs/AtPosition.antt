-- The expression at a byte is the one that the change request's words choose, and a run through the expressions that keeps the best so far finds it.
-- Assumes nothing.
use Prim.Native.Nat.{ℕ, ◌≤◌, ◌<◌}
use native.Mathlib.Nat.{le_refl}
use native.Mathlib.Omega.{arith}
use mathlib.Core.Path.{◌≡◌, refl, sym, ◌∙◌, ap, subst}
use mathlib.Core.Bool.{Bool, true, false, not, ◌&&◌, false≢true}
use mathlib.Core.List.{List, [], ◌∷◌, ◌++◌, append_assoc, append-nil}
use mathlib.Core.Logic.{⊎_elim}
use Rattle.std.specs.Prelude.{Option, None, Some}
use lib.Dec.{leb, ltb}
use borrow.Author.Tests.{leb-false}
use Rattle.std.specs.Prelude.{slice_get}
use lib.ListN.{length}
use Rattle.std.specs.Prelude.{if◌then◌else◌}
use Rattle.model.specs.Common.{any}
use Rattle.model.specs.Records.{ExpressionInfo, Module}
use Rattle.model.specs.Lookups.{covers, span, covers_shorter, covers_shortest, expression_at_position}
use Rattle.model.specs.AtPosition.{Shortest, NoneCovers, Chosen, Best, better, turn, best_number}
use Rattle.model.proofs.Tests.{and_left, and_right, leb_le, ltb_lt, ltb-false, lt-ltb, none≢some}
use Rattle.model.proofs.Search.{passes, passes_some, some_passes, any_none, any_some, last_none, last_is}
use Rattle.model.proofs.Places.{getElem_below, getElem_append, getElem_last, getElem_snoc}

module _ (position : ℕ) where
  -- ---------------------------------------------------------------- one turn

  -- what is known of the best so far: it is the one to choose among those that were looked at, and its span has the length that is kept
  pub record IsBest (done : List ExpressionInfo) (best : Best) : Type 0 where
    pub shortest : Shortest done position best.number
    pub its_length : span shortest.expression ≡ best.length

  abbrev pub Kept : List ExpressionInfo → Option Best → Type 0
  Kept done None = NoneCovers done position
  Kept done (Some best) = IsBest done best

  pub kept_start : Kept [] None
  kept_start k y e covering = none≢some e

  -- a new best
  new_best : (done : List ExpressionInfo) (x : ExpressionInfo) → covers position x ≡ true
      → ((k : ℕ) (y : ExpressionInfo) → slice_get done k ≡ Some y → covers position y ≡ true → span x ≤ span y)
      → IsBest (done ++ (x ∷ [])) (record { number = length done; length = span x })
  new_best done x covering least =
      record {
        shortest =
            record {
              expression = x;
              found = getElem_last done x;
              covering = covering;
              none_shorter =
                  λ k y e h.
                  ⊎_elim (λ old. least k y old h) (λ added. subst (λ z. span x ≤ span z) added.1 (le_refl (span x))) (getElem_snoc done x y k e);
              none_higher =
                  λ k y e h same.
                  ⊎_elim (λ old. omega (arith, getElem_below done k old)) (λ added. omega (arith, added.0)) (getElem_snoc done x y k e);
            };
        its_length = refl;
      }

  -- the old one stays
  old_best : (done : List ExpressionInfo) (x : ExpressionInfo) (best : Best) → IsBest done best → (covers position x ≡ true → best.length < span x)
      → IsBest (done ++ (x ∷ [])) best
  old_best done x best kept longer =
      record {
        shortest =
            record {
              expression = old.expression;
              found = getElem_append done (x ∷ []) best.number (getElem_below done best.number old.found) ∙ old.found;
              covering = old.covering;
              none_shorter =
                  λ k y e h.
                  ⊎_elim
                  (λ before. old.none_shorter k y before h)
                  (λ added. let less = added_longer y added h in omega (arith, less, kept.its_length))
                  (getElem_snoc done x y k e);
              none_higher =
                  λ k y e h same.
                  ⊎_elim
                  (λ before. old.none_higher k y before h same)
                  (λ added. let less = added_longer y added h in absurd (omega (arith, less, kept.its_length, same)))
                  (getElem_snoc done x y k e);
            };
        its_length = kept.its_length;
      }
    where
      old : Shortest done position best.number
      old = kept.shortest

      added_longer : {k : ℕ} (y : ExpressionInfo) → (k ≡ length done) × (x ≡ y) → covers position y ≡ true → best.length < span y
      added_longer y added h = subst (λ z. best.length < span z) added.1 (longer (ap (covers position) added.1 ∙ h))

  -- every turn keeps it
  pub kept_turn : (done : List ExpressionInfo) (best : Option Best) (x : ExpressionInfo) → Kept done best
      → Kept (done ++ (x ∷ [])) (turn position (length done) best x)
  unfolding turn better
  kept_turn done None x kept = by_test (covers position x) refl
    where
      by_test : (b : Bool) → covers position x ≡ b → Kept (done ++ (x ∷ [])) (if b then Some (record { number = length done; length = span x }) else None)
      by_test true e = new_best done x e (λ k y old h. absurd (kept k y old h))
      by_test false e =
          λ k y h covering.
          ⊎_elim (λ old. kept k y old covering) (λ added. false≢true (sym e ∙ ap (covers position) added.1 ∙ covering)) (getElem_snoc done x y k h)
  kept_turn done (Some best) x kept = by_test (covers position x) refl (leb (span x) best.length) refl
    where
      by_test : (b : Bool) → covers position x ≡ b → (c : Bool) → leb (span x) best.length ≡ c
          → Kept (done ++ (x ∷ [])) (if (b && c) then Some (record { number = length done; length = span x }) else Some best)
      by_test true e true f =
          new_best done x e (λ k y old h. omega (arith, leb_le (span x) best.length f, kept.its_length, kept.shortest.none_shorter k y old h))
      by_test true e false f = old_best done x best kept (λ h. leb-false (span x) best.length f)
      by_test false e c f = old_best done x best kept (λ h. absurd (false≢true (sym e ∙ h)))

  pub kept_chosen : (done : List ExpressionInfo) (best : Option Best) → Kept done best → Chosen done position (best_number best)
  kept_chosen done None kept = kept
  kept_chosen done (Some best) kept = kept.shortest

  -- ---------------------------------------------------------------- the definition

  -- what those words choose is what the definition finds
  pub chosen_found : (the_module : Module) (o : Option ℕ) → Chosen the_module.expressions position o → expression_at_position the_module position ≡ o
  unfolding expression_at_position covers_shortest covers_shorter
  chosen_found the_module None covers_none = last_none test xs (λ k. nowhere k (passes test xs k) refl)
    where
      xs : List ExpressionInfo
      xs = the_module.expressions

      test : ExpressionInfo → Bool
      test x = covers position x && not (any (λ y. covers position y && ltb (span y) (span x)) xs)

      nowhere : (k : ℕ) (b : Bool) → passes test xs k ≡ b → b ≡ false
      nowhere k true e = let (x, there, t) = passes_some (slice_get xs k) test e in absurd (covers_none k x there (and_left (covers position x) _ t))
      nowhere k false e = refl
  chosen_found the_module (Some number) chosen = last_is test xs number here later
    where
      xs : List ExpressionInfo
      xs = the_module.expressions

      shorter : ℕ → ExpressionInfo → Bool
      shorter than y = covers position y && ltb (span y) than

      test : ExpressionInfo → Bool
      test x = covers position x && not (any (shorter (span x)) xs)

      x : ExpressionInfo
      x = chosen.expression

      none_passes : (k : ℕ) (c : Bool) → passes (shorter (span x)) xs k ≡ c → c ≡ false
      none_passes k true e =
          let (y, there, t) = passes_some (slice_get xs k) (shorter (span x)) e in
          let less = ltb_lt (span y) (span x) (and_right (covers position y) _ t) in
          let least = chosen.none_shorter k y there (and_left (covers position y) _ t) in
          absurd (omega (arith, less, least))
      none_passes k false e = refl

      here : passes test xs number ≡ true
      here = some_passes test chosen.found (λ i. chosen.covering i && not (any_none (shorter (span x)) xs (λ k. none_passes k (passes (shorter (span x)) xs k) refl) i))

      -- one with a higher number that covers the byte is longer, so this one is shorter than it
      longer : (k : ℕ) (y : ExpressionInfo) → number < k → slice_get xs k ≡ Some y → covers position y ≡ true → span x < span y
      longer k y less there covering = by_test (ltb (span x) (span y)) refl
        where
          by_test : (b : Bool) → ltb (span x) (span y) ≡ b → span x < span y
          by_test true h = ltb_lt (span x) (span y) h
          by_test false h =
              let least = chosen.none_shorter k y there covering in
              let same : span y ≡ span x = omega (arith, least, ltb-false (span x) (span y) h) in
              absurd (omega (arith, less, chosen.none_higher k y there covering same))

      later_fails : (k : ℕ) → number < k → (c : Bool) → passes test xs k ≡ c → c ≡ false
      later_fails k less true e =
          let (y, there, t) = passes_some (slice_get xs k) test e in
          let is_longer = longer k y less there (and_left (covers position y) _ t) in
          let is_shorter : shorter (span y) x ≡ true = λ i. chosen.covering i && lt-ltb (span x) (span y) is_longer i in
          let found = any_some (shorter (span y)) xs number (some_passes (shorter (span y)) chosen.found is_shorter) in
          absurd (false≢true (ap not (sym found) ∙ and_right (covers position y) (not (any (shorter (span y)) xs)) t))
      later_fails k less false e = refl

      later : (k : ℕ) → number < k → passes test xs k ≡ false
      later k less = later_fails k less (passes test xs k) refl

  -- a run through all expressions keeps it to the end
  kept_end : (done rest : List ExpressionInfo) (best : Option Best) → Kept done best → (end : Option Best) × Kept (done ++ rest) end
  kept_end done [] best kept = (best, subst (λ l. Kept l best) (sym (append-nil done)) kept)
  kept_end done (x ∷ rest) best kept =
      let (end, at_end) = kept_end (done ++ (x ∷ [])) rest (turn position (length done) best x) (kept_turn done best x kept) in
      (end, subst (λ l. Kept l end) (append_assoc done (x ∷ []) rest) at_end)

  -- so what the definition finds is what those words choose
  pub at_position_chosen : (the_module : Module) → Chosen the_module.expressions position (expression_at_position the_module position)
  at_position_chosen the_module =
      let (end, at_end) = kept_end [] the_module.expressions None kept_start in
      let chosen = kept_chosen the_module.expressions end at_end in
      subst (Chosen the_module.expressions position) (sym (chosen_found the_module (best_number end) chosen)) chosen
