-- The digits that `io::decimal` puts are the definition's. Assumes nothing.
use Prim.Native.Nat.{ℕ, zero, suc, ◌+◌, ◌/◌, ◌%◌, ◌^◌, ◌≤◌, ◌<◌}
use mathlib.Core.Path.{◌≡◌, sym, ap, ◌∙◌}
use mathlib.Core.Bool.{Bool, true, false, cond}
use mathlib.Core.List.{[], ◌∷◌, ◌++◌}
use native.Mathlib.Omega.{arith}
use native.Mathlib.Numerals.{unary_clauses}
use native.Mathlib.Nat.{pow-suc, not-suc-le-zero}
use borrow.Author.Tests.{lt-ltb, le-ltb}
use Rattle.model.specs.Common.{Text}
use Rattle.resolution.specs.Answer.{decimal_digits, decimal}
use Rattle.io.specs.Digits.{hex_digit_ascii, last_digits, IsDigitCount}

-- a digit's byte
glyph_is : (d : ℕ) → d < 10 → hex_digit_ascii d ≡ 48 + d
glyph_is d h = ap (λ (b : Bool). cond b (48 + d) (87 + d)) (lt-ltb d 10 h)

-- one digit, and one digit more
last_digit : (more n : ℕ) → n < 10 → decimal_digits (suc more) n ≡ (48 + n) ∷ []
unfolding decimal_digits
last_digit more n h =
    ap (λ (b : Bool). elim b [ true ↦ (48 + n) ∷ [] | false ↦ decimal_digits more (n / 10) ++ ((48 + n % 10) ∷ []) ]) (lt-ltb n 10 h)

next_digit : (more n : ℕ) → 10 ≤ n → decimal_digits (suc more) n ≡ decimal_digits more (n / 10) ++ ((48 + n % 10) ∷ [])
unfolding decimal_digits
next_digit more n h =
    ap (λ (b : Bool). elim b [ true ↦ (48 + n) ∷ [] | false ↦ decimal_digits more (n / 10) ++ ((48 + n % 10) ∷ []) ]) (le-ltb n 10 h)

smaller : (n : ℕ) → n % 10 < 10
smaller n = omega arith

same_mod : (n : ℕ) → n < 10 → n % 10 ≡ n
same_mod n h = omega arith

-- what a number of two digits or more has without its last
at_least_ten : (j n : ℕ) → 10 ^ suc j ≤ n → 0 < 10 ^ j → 10 ≤ n
at_least_ten j n h p = omega (arith, pow-suc 10 j)

pow_positive : (j : ℕ) → 0 < 10 ^ j
pow_positive zero = omega arith
pow_positive (suc j) = omega (arith, pow-suc 10 j, pow_positive j)

shorter : (n more : ℕ) → n < suc more → 10 ≤ n → n / 10 < more
shorter n more f h = omega arith

below : (j n : ℕ) → n < 10 ^ suc (suc j) → n / 10 < 10 ^ suc j
below j n h = omega (arith, pow-suc 10 (suc j))

above : (j n : ℕ) → 10 ^ suc j ≤ n → 10 ^ j ≤ n / 10
above j n h = omega (arith, pow-suc 10 j)

pub digits_are :
    (k more n : ℕ) → n < more → n < 10 ^ suc k → (1 < suc k → 10 ^ k ≤ n) → last_digits 10 (suc k) n ≡ decimal_digits more n
digits_are k zero n f h l = absurd (not-suc-le-zero f)
digits_are zero (suc more) n f h l =
    ap (λ (d : ℕ). d ∷ []) (glyph_is (n % 10) (smaller n) ∙ ap (λ (d : ℕ). 48 + d) (same_mod n (omega (arith, h))))
    ∙ sym (last_digit more n (omega (arith, h)))
digits_are (suc j) (suc more) n f h l =
    ap (λ (t : Text). t ++ (hex_digit_ascii (n % 10) ∷ [])) (digits_are j more (n / 10) (shorter n more f ten) (below j n h) (λ _. above j n least))
    ∙ ap (λ (d : ℕ). decimal_digits more (n / 10) ++ (d ∷ [])) (glyph_is (n % 10) (smaller n))
    ∙ sym (next_digit more n ten)
  where
    least : 10 ^ suc j ≤ n
    least = l (omega arith)

    ten : 10 ≤ n
    ten = at_least_ten j n least (pow_positive j)

-- what `io::decimal` promises
pub decimal_is : (n k : ℕ) (t : Text) → IsDigitCount 10 1 n k → t ≡ last_digits 10 k n → t ≡ decimal n
unfolding decimal
decimal_is n zero t f e = absurd (not-suc-le-zero f.0)
decimal_is n (suc k) t f e = e ∙ digits_are k (suc n) n (omega arith) f.1 (simp unary_clauses at f.2)
