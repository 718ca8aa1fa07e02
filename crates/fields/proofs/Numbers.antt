-- Numbers, from a position in the file. Assumes nothing.
use Prim.Native.Nat.{ℕ, suc, ◌+◌, ◌-◌, ◌*◌, ◌≤◌, ◌<◌}
use mathlib.Core.Path.{◌≡◌, refl, sym, ap, ◌∙◌}
use mathlib.Core.List.{List, [], ◌∷◌}
use mathlib.Core.Bool.{Bool, true, false, false≢true}
use Rattle.std.specs.Prelude.{Option, None, Some}
use Rattle.model.proofs.Tests.{none≢some, some-injective}
use native.Mathlib.Omega.{arith}
use native.Mathlib.Nat.{add-zero}
use lib.ListN.{length, drop, get_or}
use lib.Seq.{drop-drop}
use lib.Dec.{eqb, leb, ltb, leb-zero}
use borrow.Author.Tests.{le-leb, lt-leb, ne_eqb}
use Rattle.model.specs.Common.{Text, let_some, is_empty}
use Rattle.model.proofs.Tests.{ltb_lt, ltb-false}
use Rattle.format.specs.Fields.{stops, field_of, behind, is_digit, digits, only_if, alone, plain_number, number_of, number, numbered, reading}
use Rattle.words.proofs.Bytes.{field_stop, field_more, field_out}
use Rattle.fields.specs.Held.{field_as, scanned}

pub digit_yes : (b : ℕ) → 48 ≤ b → b ≤ 57 → is_digit b ≡ true
digit_yes b h k = rw (le-leb 48 b h, le-leb b 57 k)

pub digit_low : (b : ℕ) → b < 48 → is_digit b ≡ false
digit_low b h = rw (lt-leb 48 b h)

pub digit_high : (b : ℕ) → 48 ≤ b → 57 < b → is_digit b ≡ false
digit_high b h k = rw (le-leb 48 b h, lt-leb b 57 k)

-- a number never falls as its digits are read
grows : (n m : ℕ) (t : List ℕ) → digits n t ≡ Some m → n ≤ m
unfolding digits
grows n m [] q = omega (arith, some-injective q)
grows n m (b ∷ t) q = by (λ h. grows (n * 10 + (b - 48)) m t h) (is_digit b) refl
  where
    by : (digits (n * 10 + (b - 48)) t ≡ Some m → n * 10 + (b - 48) ≤ m) → (d : Bool) → is_digit b ≡ d → n ≤ m
    by g true e = omega (arith, g (rw (e, digits) at q))
    by g false e = absurd (none≢some (rw (e, digits) at q))

over : (n most : ℕ) (t : List ℕ) → most < n → (let_some (digits n t) None λ m. only_if (leb m most) m) ≡ None
over n most t h = by (digits n t) refl
  where
    by : (o : Option ℕ) → digits n t ≡ o → (let_some o None λ m. only_if (leb m most) m) ≡ None
    by None e = refl
    by (Some m) e = rw (lt-leb m most (omega (arith, grows n m t e)))

-- what is left behind a field, by its place
pub behind_at : (s : Text) (e : ℕ) → behind (drop e s) ≡ drop (e + length (field_of (drop e s))) s
unfolding behind
behind_at s e = drop-drop (length (field_of (drop e s))) e s

module _ (s : Text) (e n most : ℕ) where
  pub scan_end : field_of (drop e s) ≡ [] → n ≤ most → scanned most n s e ≡ Some (record { value = number n; rest = drop e s })
  unfolding scanned digits
  scan_end q h = rw (q, le-leb n most h, add-zero e)

  pub scan_bad : e < length s → stops (get_or s e 0) ≡ false → is_digit (get_or s e 0) ≡ false → scanned most n s e ≡ None
  unfolding scanned digits
  scan_bad h q d = rw (field_more s e h q, d, digits)

  pub scan_more : e < length s → stops (get_or s e 0) ≡ false → is_digit (get_or s e 0) ≡ true
      → scanned most n s e ≡ scanned most (n * 10 + (get_or s e 0 - 48)) s (e + 1)
  unfolding scanned digits
  scan_more h q d = rw (field_more s e h q, d, digits, one_on e (length (field_of (drop (e + 1) s))))
    where
      one_on : (a b : ℕ) → a + suc b ≡ a + 1 + b
      one_on a b = omega arith

  pub scan_over : e < length s → stops (get_or s e 0) ≡ false → is_digit (get_or s e 0) ≡ true → most < n * 10 + (get_or s e 0 - 48) → scanned most n s e ≡ None
  unfolding scanned
  scan_over h q d k =
      scan_more h q d
      ∙ ap (λ o. reading (drop (e + 1 + length (field_of (drop (e + 1) s))) s) (numbered o)) (over (n * 10 + (get_or s e 0 - 48)) most (field_of (drop (e + 1) s)) k)

-- ------------------------------------------------------------------ an empty field

module _ (s : Text) (e : ℕ) where
  pub empty_is : field_of (drop e s) ≡ [] → true ≡ is_empty (field_of (drop e s))
  empty_is q = ap is_empty (sym q)

  -- at a byte that is no tab the field is empty if it is an LF
  pub empty_at : e < length s → (get_or s e 0 ≡ 9 → ⊥) → eqb (get_or s e 0) 10 ≡ is_empty (field_of (drop e s))
  empty_at h n = by (eqb (get_or s e 0) 10) refl
    where
      by : (t : Bool) → eqb (get_or s e 0) 10 ≡ t → eqb (get_or s e 0) 10 ≡ is_empty (field_of (drop e s))
      by true q = q ∙ empty_is (field_stop s e h (rw (ne_eqb (get_or s e 0) 9 n, q)))
      by false q = q ∙ ap is_empty (sym (field_more s e h (rw (ne_eqb (get_or s e 0) 9 n, q))))

  pub is_empty_of : is_empty (field_of (drop e s)) ≡ true → field_of (drop e s) ≡ []
  is_empty_of q = by (field_of (drop e s)) q
    where
      by : (t : Text) → is_empty t ≡ true → t ≡ []
      by [] r = refl
      by (b ∷ t) r = absurd (false≢true r)

  -- a field that is not empty begins here, with a byte that does not stop it
  pub begins_here : is_empty (field_of (drop e s)) ≡ false → e < length s
  begins_here q = by (ltb e (length s)) refl
    where
      by : (t : Bool) → ltb e (length s) ≡ t → e < length s
      by true r = ltb_lt e (length s) r
      by false r = absurd (false≢true (sym q ∙ ap is_empty (field_out s e (ltb-false e (length s) r))))

  pub not_stop : e < length s → is_empty (field_of (drop e s)) ≡ false → stops (get_or s e 0) ≡ false
  not_stop h q = by (stops (get_or s e 0)) refl
    where
      by : (t : Bool) → stops (get_or s e 0) ≡ t → t ≡ false
      by true r = absurd (false≢true (sym q ∙ ap is_empty (field_stop s e h r)))
      by false r = refl

-- ------------------------------------------------------------------ a number

module _ (s : Text) (e most : ℕ) where
  -- by its place
  number_at : field_as (λ u. numbered (number_of most u)) (drop e s)
      ≡ reading (drop (e + length (field_of (drop e s))) s) (numbered (number_of most (field_of (drop e s))))
  unfolding field_as
  number_at = ap (λ t. reading t (numbered (number_of most (field_of (drop e s))))) (behind_at s e)

  pub number_none : field_of (drop e s) ≡ [] → field_as (λ u. numbered (number_of most u)) (drop e s) ≡ None
  unfolding number_of plain_number
  number_none q = number_at ∙ rw q

  pub number_digits : e < length s → stops (get_or s e 0) ≡ false → (get_or s e 0 ≡ 48 → ⊥) → field_as (λ u. numbered (number_of most u)) (drop e s) ≡ scanned most 0 s e
  unfolding scanned number_of plain_number
  number_digits h q n = number_at ∙ rw (field_more s e h q, ne_eqb (get_or s e 0) 48 n, plain_number)

  pub number_zero : e < length s → stops (get_or s e 0) ≡ false → get_or s e 0 ≡ 48 → field_of (drop (e + 1) s) ≡ []
      → field_as (λ u. numbered (number_of most u)) (drop e s) ≡ Some (record { value = number 0; rest = drop (e + 1) s })
  unfolding number_of plain_number alone
  number_zero h q z r = number_at ∙ rw (field_more s e h q, r, z, leb-zero most)

  pub number_after_zero : e < length s → stops (get_or s e 0) ≡ false → get_or s e 0 ≡ 48 → is_empty (field_of (drop (e + 1) s)) ≡ false
      → field_as (λ u. numbered (number_of most u)) (drop e s) ≡ None
  unfolding number_of plain_number alone
  number_after_zero h q z r = number_at ∙ rw (field_more s e h q, z) (by (field_of (drop (e + 1) s)) r)
    where
      by : (t : Text) → is_empty t ≡ false
          → reading (drop (e + suc (length t)) s) (numbered (let_some (alone t) None λ m. only_if (leb m most) m)) ≡ None
      by [] f = absurd (false≢true (sym f))
      by (b ∷ t) f = refl
