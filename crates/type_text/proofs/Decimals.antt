-- The decimal digits of a number: one digit, or those of its tenth and the last one; and how many there are. Assumes nothing.
use Prim.Native.Nat.{ℕ, zero, suc, ◌+◌, ◌*◌, ◌/◌, ◌%◌, ◌^◌, ◌≤◌, ◌<◌}
use mathlib.Core.Path.{◌≡◌, refl, ap, ◌∙◌}
use mathlib.Core.Bool.{Bool, true, false}
use mathlib.Core.List.{[], ◌∷◌, ◌++◌}
use native.Mathlib.Nat.{pow-suc, lt_trans}
use native.Mathlib.Omega.{arith}
use borrow.Author.Tests.{lt-ltb, le-ltb, ltb-true, ltb-false}
use lib.Dec.{ltb, lit<}
use lib.ListN.{length, length-append}
use Rattle.std.specs.Prelude.{if◌then◌else◌}
use Rattle.resolution.specs.Answer.{decimal}
use Rattle.resolution.proofs.Steps.{decimal_step}

pub decimal_small : (n : ℕ) → n < 10 → decimal n ≡ (48 + n) ∷ []
decimal_small n small =
    decimal_step n ∙ ap (λ (b : Bool). if b then (48 + n) ∷ [] else decimal (n / 10) ++ ((48 + n % 10) ∷ [])) (lt-ltb n 10 small)

pub decimal_large : (n : ℕ) → 10 ≤ n → decimal n ≡ decimal (n / 10) ++ ((48 + n % 10) ∷ [])
decimal_large n large =
    decimal_step n ∙ ap (λ (b : Bool). if b then (48 + n) ∷ [] else decimal (n / 10) ++ ((48 + n % 10) ∷ [])) (le-ltb n 10 large)

pub length_large : (n : ℕ) → 10 ≤ n → length (decimal n) ≡ length (decimal (n / 10)) + 1
length_large n large = ap length (decimal_large n large) ∙ length-append (decimal (n / 10)) ((48 + n % 10) ∷ [])

-- as many digits as the power of ten says
pub decimal_within : (k n : ℕ) → n < 10 ^ suc k → length (decimal n) ≤ suc k
decimal_within zero n small = omega (arith, ap length (decimal_small n small))
decimal_within (suc k) n small = go (ltb n 10) refl (λ below. decimal_within k (n / 10) below)
  where
    next : (n p : ℕ) → n < p * 10 → n / 10 < p
    next n p h = omega arith

    go : (b : Bool) → ltb n 10 ≡ b → (n / 10 < 10 ^ suc k → length (decimal (n / 10)) ≤ suc k) → length (decimal n) ≤ suc (suc k)
    go true e inner = omega (arith, ap length (decimal_small n (ltb-true n 10 e)))
    go false e inner = omega (arith, length_large n (ltb-false n 10 e), inner (next n (10 ^ suc k) (rw (← pow-suc 10 (suc k)) small)))

pub decimal_short : (n : ℕ) → n < 2 ^ 64 → length (decimal n) ≤ 20
decimal_short n h = decimal_within 19 n (lt_trans h (lit< tt))
