-- Comparing two lists of bytes, one byte after the other. Assumes nothing.
use mathlib.Core.Path.{◌≡◌, refl, sym, ap, ap₂, ◌∙◌}
use mathlib.Core.Bool.{Bool, true, false, false≢true, ◌&&◌}
use Prim.Native.Nat.{ℕ, zero, suc, ◌+◌}
use native.Mathlib.Nat.{add-zero}
use native.Mathlib.Omega.{arith}
use mathlib.Core.List.{List}
use lib.ListN.{length}
use lib.Dec.{eqb}
use Rattle.model.specs.Common.{every, eq_numbers}
use Rattle.model.proofs.Tests.{bool_same, eq_numbers_sound}
use Rattle.records.specs.Layout.{word, bytes_at, each}
use Rattle.records.proofs.Lists.{each_length, each_list}

-- byte after byte, from the n-th on
module _ (a : List ℕ) (i : ℕ) (b : List ℕ) (j : ℕ) where
  unfoldable pub same_byte : ℕ → Bool
  same_byte k = eqb (word a (i + k)) (word b (j + k))

  each_byte : (n count : ℕ) → every (λ b. b) (each same_byte n count) ≡ eq_numbers (bytes_at a (i + n) count) (bytes_at b (j + n) count)
  unfolding each eq_numbers same_byte
  each_byte n zero = refl
  each_byte n (suc count) =
      ap (λ r. same_byte n && r)
      (each_byte (suc n) count ∙ ap₂ (λ x y. eq_numbers (bytes_at a x count) (bytes_at b y count)) (over i n) (over j n))
      ∙ by (same_byte n) (eq_numbers (bytes_at a (suc (i + n)) count) (bytes_at b (suc (j + n)) count))
    where
      over : (x n : ℕ) → x + suc n ≡ suc (x + n)
      over x n = omega arith

      by : (t r : Bool) → (t && r) ≡ elim t [ true ↦ r | false ↦ false ]
      by true r = refl
      by false r = refl

  pub every_byte : (count : ℕ) → every (λ b. b) (each same_byte 0 count) ≡ eq_numbers (bytes_at a i count) (bytes_at b j count)
  every_byte count = each_byte 0 count ∙ ap₂ (λ x y. eq_numbers (bytes_at a x count) (bytes_at b y count)) (add-zero i) (add-zero j)

-- lists of different lengths differ
differ : (l k : List ℕ) → (length l ≡ length k → ⊥) → false ≡ eq_numbers l k
differ l k h = bool_same false (eq_numbers l k) (λ e. absurd (false≢true e)) (λ e. absurd (h (ap length (eq_numbers_sound l k e))))

-- a part of another length than a text, or than another part
pub text_differs : (a : List ℕ) (i m : ℕ) (text : List ℕ) → (m ≡ length text → ⊥) → false ≡ eq_numbers (bytes_at a i m) text
text_differs a i m text h = differ (bytes_at a i m) text (λ e. h (sym (each_length (word a) i m) ∙ e))

pub parts_differ : (a : List ℕ) (i m : ℕ) (b : List ℕ) (j n : ℕ) → (m ≡ n → ⊥) → false ≡ eq_numbers (bytes_at a i m) (bytes_at b j n)
parts_differ a i m b j n h = text_differs a i m (bytes_at b j n) (λ e. h (e ∙ each_length (word b) j n))

-- a whole text is its part from 0
pub text_part : (l text : List ℕ) (m : ℕ) → m ≡ length text → eq_numbers l (bytes_at text 0 m) ≡ eq_numbers l text
text_part l text m e = ap (eq_numbers l) (ap (bytes_at text 0) e ∙ sym (each_list text))
