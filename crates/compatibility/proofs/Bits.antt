-- The bits of a word: `|` with a power of two sets one, and leaves every other as it was. Assumes nothing.
use Prim.Native.Nat.{ℕ, zero, suc, ◌+◌, ◌-◌, ◌*◌, ◌/◌, ◌%◌, ◌^◌, ◌≤◌, ◌<◌}
use mathlib.Core.Path.{◌≡◌, refl, ap, ◌∙◌}
use mathlib.Core.Bool.{Bool, true, false}
use native.Mathlib.Nat.{div_self, div-eq_of_lt, mod-lt, mul-mod_left, one-mul, pow-suc, zero-lt-suc}
use native.Mathlib.Omega.{arith}
use borrow.Author.Tests.{ltb-true, ltb-false}
use lib.Bits.{bit_or, or_zero_r, or_shr, or_mod}
use lib.Dec.{ltb}
use lib.Pow.{pow_pos, pow-lt, pow-add, shl_exact, shl-shr}

-- a bit of an `|` is the `|` of two bits
or_bit : (w p j : ℕ) → (bit_or w p / 2 ^ j) % 2 ≡ bit_or ((w / 2 ^ j) % 2) ((p / 2 ^ j) % 2)
or_bit w p j = ap (λ n. n % 2) (or_shr w p j) ∙ or_mod (w / 2 ^ j) (p / 2 ^ j) 1

-- a power of two has its own bit and no other
power_here : (b : ℕ) → (2 ^ b / 2 ^ b) % 2 ≡ 1
power_here b = ap (λ n. n % 2) (div_self (pow_pos b))

power_there : (b j : ℕ) → (j ≡ b → ⊥) → (2 ^ b / 2 ^ j) % 2 ≡ 0
power_there b j other = go (ltb j b) refl
  where
    reach : j < b → b ≡ suc (b - suc j) + j
    reach below = omega arith

    above : b ≤ j → b < j
    above past = let apart : b ≡ j → ⊥ = λ same. other (omega arith) in omega (arith, apart)

    go : (t : Bool) → ltb j b ≡ t → (2 ^ b / 2 ^ j) % 2 ≡ 0
    go true h =
        ap (λ n. (2 ^ n / 2 ^ j) % 2) (reach (ltb-true j b h)) ∙ ap (λ n. (n / 2 ^ j) % 2) (pow-add 2 (suc (b - suc j)) j) ∙ ap (λ n. n % 2) (shl-shr (2 ^ suc (b - suc j)) j)
        ∙ ap (λ n. n % 2) (pow-suc 2 (b - suc j))
        ∙ mul-mod_left (2 ^ (b - suc j)) 2
    go false h = ap (λ n. n % 2) (div-eq_of_lt (pow-lt (above (ltb-false j b h))))

-- of a single bit: set, it is 1
or_one : (x : ℕ) → x < 2 → bit_or x 1 ≡ 1
or_one zero below = refl
or_one (suc zero) below = refl
or_one (suc (suc x)) below = absurd (omega arith)

-- a word with a bit set: that bit, and another
pub set_bit : (w b : ℕ) → (bit_or w (2 ^ b) / 2 ^ b) % 2 ≡ 1
set_bit w b = or_bit w (2 ^ b) b ∙ ap (bit_or ((w / 2 ^ b) % 2)) (power_here b) ∙ or_one ((w / 2 ^ b) % 2) (mod-lt (w / 2 ^ b) (zero-lt-suc 1))

pub other_bit : (w b j : ℕ) → (j ≡ b → ⊥) → (bit_or w (2 ^ b) / 2 ^ j) % 2 ≡ (w / 2 ^ j) % 2
other_bit w b j other = or_bit w (2 ^ b) j ∙ ap (bit_or ((w / 2 ^ j) % 2)) (power_there b j other) ∙ or_zero_r ((w / 2 ^ j) % 2)

-- the power as the code has it: 1 shifted in 32 bits
pub shifted_one : (b : ℕ) → b < 32 → (1 * 2 ^ b) % 2 ^ 32 ≡ 2 ^ b
shifted_one b below = shl_exact {a = 1} 1 b 32 (omega arith) (omega arith) ∙ one-mul (2 ^ b)
