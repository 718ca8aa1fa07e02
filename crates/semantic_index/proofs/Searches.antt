-- The search of a loop through the rows of a kind, from the first up. Assumes nothing.
use mathlib.Core.Path.{◌≡◌, sym, ap, ◌∙◌}
use mathlib.Core.Bool.{Bool, true, false}
use Prim.Native.Nat.{ℕ, zero, ◌+◌, ◌-◌, ◌≤◌, ◌<◌}
use native.Mathlib.Nat.{add-zero}
use Rattle.std.specs.Prelude.{Option, None, Some}
use Rattle.std.specs.Prelude.{if◌then◌else◌}
use Rattle.model.specs.Common.{next, first}
use Rattle.records.specs.Layout.{each}
use Rattle.records.proofs.Lists.{each_unroll, each_ended, each_begun}
use Rattle.records.proofs.Searches.{shifted, shifted_next, shifted_0}

-- the first row from i on that passes the test
unfoldable pub first_from : {A : Type 0} → (A → Bool) → (ℕ → A) → ℕ → ℕ → ℕ → Option ℕ
first_from test row from count i = shifted i (first test (each row (from + i) (count - i)))

module _ {A : Type 0} (test : A → Bool) (row : ℕ → A) where
  pub first_begin : (from count : ℕ) → first test (each row from count) ≡ first_from test row from count 0
  unfolding first_from
  first_begin from count = ap (first test) (each_begun row from count) ∙ shifted_0 (first test (each row (from + 0) (count - 0)))

  first_turn : (from count i : ℕ) (b : Bool) → i < count → test (row (from + i)) ≡ b
      → first_from test row from count i ≡ shifted i (if b then Some zero else next (first test (each row (from + (i + 1)) (count - (i + 1)))))
  unfolding first_from first
  first_turn from count i b h e =
      ap (λ l. shifted i (first test l)) (each_unroll row from count i h)
      ∙ ap (λ b. shifted i (if b then Some zero else next (first test (each row (from + (i + 1)) (count - (i + 1)))))) e

  pub first_hit : (from count i : ℕ) (b : Bool) → i < count → b ≡ test (row (from + i)) → b ≡ true → first_from test row from count i ≡ Some i
  unfolding shifted
  first_hit from count i b h e hit = first_turn from count i true h (sym e ∙ hit) ∙ ap Some (add-zero i)

  pub first_miss : (from count i : ℕ) (b : Bool) → i < count → b ≡ test (row (from + i)) → b ≡ false
      → first_from test row from count i ≡ first_from test row from count (i + 1)
  unfolding first_from
  first_miss from count i b h e miss =
      first_turn from count i false h (sym e ∙ miss) ∙ shifted_next i (first test (each row (from + (i + 1)) (count - (i + 1))))

  pub first_end : (from count i : ℕ) → count ≤ i → first_from test row from count i ≡ None
  unfolding first_from first shifted
  first_end from count i h = ap (λ l. shifted i (first test l)) (each_ended row from count i h)
