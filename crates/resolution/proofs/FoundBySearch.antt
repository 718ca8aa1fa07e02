-- Searches in two lists whose tests pass at the same places. Assumes nothing.
use Prim.Native.Nat.{ℕ}
use mathlib.Core.Path.{◌≡◌}
use mathlib.Core.Bool.{Bool, true}
use mathlib.Core.List.{List}
use Rattle.model.specs.Common.{first, last}
use Rattle.model.proofs.Search.{passes, first_same, last_same, first_passes, last_passes}
use Rattle.resolution.proofs.Found.{Found, found_by}

-- both find the same place, of which P holds where the test passes
pub first_found : {A : Type 0} (P : ℕ → Type 0) (test test' : A → Bool) (xs ys : List A)
    → ((n : ℕ) → passes test xs n ≡ passes test' ys n) → ((n : ℕ) → passes test xs n ≡ true → P n) → Found P (first test xs) (first test' ys)
first_found P test test' xs ys h g = found_by P (first_same test test' xs ys h) (λ n e. g n (first_passes test xs n e))

pub last_found : {A : Type 0} (P : ℕ → Type 0) (test test' : A → Bool) (xs ys : List A)
    → ((n : ℕ) → passes test xs n ≡ passes test' ys n) → ((n : ℕ) → passes test xs n ≡ true → P n) → Found P (last test xs) (last test' ys)
last_found P test test' xs ys h g = found_by P (last_same test test' xs ys h) (λ n e. g n (last_passes test xs n e))
