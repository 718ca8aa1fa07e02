-- The chain of a scope, step by step, where every parent has a lower number. Assumes nothing.
use Prim.Native.Nat.{ℕ, zero, suc, ◌<◌}
use native.Mathlib.Nat.{le_refl, le_trans, le_of_suc-le-suc, not-suc-le-zero}
use mathlib.Core.Path.{◌≡◌, refl, ap}
use mathlib.Core.List.{List, [], ◌∷◌}
use Rattle.std.specs.Prelude.{Option, None, Some}
use Rattle.model.specs.Common.{let_some}
use Rattle.model.specs.Records.{Module}
use Rattle.model.specs.Lookups.{parent, chain_from, scope_chain}
use Rattle.model.specs.WellFormed.{ParentsLower}

-- more than the scope's number is enough, and no more is gained
pub chain_from_same : (the_module : Module) → ParentsLower the_module → (n n' s : ℕ) → s < n → s < n' → chain_from n the_module s ≡ chain_from n' the_module s
unfolding chain_from
chain_from_same the_module lower zero n' s h h' = absurd (not-suc-le-zero h)
chain_from_same the_module lower (suc n) zero s h h' = absurd (not-suc-le-zero h')
chain_from_same the_module lower (suc n) (suc n') s h h' = go (λ p. chain_from_same the_module lower n n' p) (parent the_module s) refl
  where
    go : ((p : ℕ) → p < n → p < n' → chain_from n the_module p ≡ chain_from n' the_module p) → (o : Option ℕ) → parent the_module s ≡ o
        → ◌≡◌ {A = List ℕ} (s ∷ let_some o [] (λ p. chain_from n the_module p)) (s ∷ let_some o [] (λ p. chain_from n' the_module p))
    go rest None e = refl
    go rest (Some p) e =
        ap (λ (l : List ℕ). s ∷ l)
        (rest p (le_trans (lower s p e) (le_of_suc-le-suc h)) (le_trans (lower s p e) (le_of_suc-le-suc h')))

-- a scope, then the chain of its parent
pub scope_chain_step : (the_module : Module) → ParentsLower the_module → (s : ℕ)
    → scope_chain the_module s ≡ s ∷ let_some (parent the_module s) [] (λ p. scope_chain the_module p)
unfolding scope_chain chain_from
scope_chain_step the_module lower s = go (parent the_module s) refl
  where
    go : (o : Option ℕ) → parent the_module s ≡ o
        → ◌≡◌ {A = List ℕ} (s ∷ let_some o [] (λ p. chain_from s the_module p)) (s ∷ let_some o [] (λ p. chain_from (suc p) the_module p))
    go None e = refl
    go (Some p) e = ap (λ (l : List ℕ). s ∷ l) (chain_from_same the_module lower s (suc p) p (lower s p e) (le_refl (suc p)))
