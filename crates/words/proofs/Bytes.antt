-- What a field is, and how two texts compare, seen from a position. Assumes nothing.
use Prim.Native.Nat.{ℕ, suc, ◌+◌, ◌-◌, ◌≤◌, ◌<◌, max}
use mathlib.Core.Path.{◌≡◌, refl, sym, ap, ◌∙◌}
use mathlib.Core.List.{List, [], ◌∷◌}
use mathlib.Core.Bool.{Bool, true, false, ◌&&◌, false≢true}
use native.Mathlib.Omega.{arith}
use native.Mathlib.Numerals.{add-one}
use lib.Dec.{eqb, leb}
use lib.ListN.{length, take, drop, get_or, drop_of_length-le}
use lib.Seq.{drop-cons}
use borrow.Author.Tests.{eq-eqb, ne_eqb, leb-true, leb-false, eqb-true}
use Rattle.std.specs.Prelude.{None, Some, if◌then◌else◌}
use Rattle.std.specs.Bool.{then_some}
use Rattle.std.specs.Str.{bytes_eq}
use Rattle.model.specs.Common.{eq_numbers}
use Rattle.format.specs.Fields.{stops, field_of}
use Rattle.words.specs.Ends.{until, begins}

module _ (s : List ℕ) (e : ℕ) where
  -- the byte that stands here, and what follows
  pub here : e < length s → drop e s ≡ get_or s e 0 ∷ drop (e + 1) s
  here h = rw (add-one, drop-cons s e 0)

  pub field_stop : e < length s → stops (get_or s e 0) ≡ true → field_of (drop e s) ≡ []
  unfolding field_of
  field_stop h q = rw (here h, q, field_of)

  pub field_more : e < length s → stops (get_or s e 0) ≡ false → field_of (drop e s) ≡ get_or s e 0 ∷ field_of (drop (e + 1) s)
  unfolding field_of
  field_more h q = rw (here h, q, field_of)

  pub field_out : length s ≤ e → field_of (drop e s) ≡ []
  unfolding field_of
  field_out h = rw (drop_of_length-le s h)

pub stops_tab : (b : ℕ) → b ≡ 9 → stops b ≡ true
stops_tab b h = rw (eq-eqb b 9 h)

pub stops_lf : (b : ℕ) → b ≡ 10 → stops b ≡ true
stops_lf b h = rw h

pub stops_no : (b : ℕ) → (b ≡ 9 → ⊥) → (b ≡ 10 → ⊥) → stops b ≡ false
stops_no b h k = rw (ne_eqb b 9 h, ne_eqb b 10 k)

-- a field is the bytes up to the first that stops it
pub field_until : (t : List ℕ) → until stops t ≡ field_of t
unfolding until field_of
field_until [] = refl
field_until (b ∷ t) = ap (λ u. elim (stops b) [ true ↦ [] | false ↦ b ∷ u ]) (field_until t)

-- ------------------------------------------------------------------ up to the first byte that passes a test

module _ (stop : ℕ → Bool) (s : List ℕ) where
  pub until_stop : (e : ℕ) → e < length s → stop (get_or s e 0) ≡ true → until stop (drop e s) ≡ []
  unfolding until
  until_stop e h q = rw (here s e h, q, until)

  pub until_more : (e : ℕ) → e < length s → stop (get_or s e 0) ≡ false → until stop (drop e s) ≡ get_or s e 0 ∷ until stop (drop (e + 1) s)
  unfolding until
  until_more e h q = rw (here s e h, q, until)

  until_out : (e : ℕ) → length s ≤ e → until stop (drop e s) ≡ []
  unfolding until
  until_out e h = rw (drop_of_length-le s h)

  -- they begin at `from` and end behind the text's last byte
  pub until_end : (from e : ℕ) → (from ≤ length s → e ≤ length s) → length s ≤ e
      → e + length (until stop (drop e s)) ≡ from + length (until stop (drop from s)) → max from (length s) ≡ from + length (until stop (drop from s))
  until_end from e within out same = by (leb from (length s)) refl
    where
      by : (b : Bool) → leb from (length s) ≡ b → max from (length s) ≡ from + length (until stop (drop from s))
      by true t = omega (arith, leb-true from (length s) t, within (leb-true from (length s) t), ap length (until_out e out))
      by false f = omega (arith, leb-false from (length s) f, ap length (until_out from (omega (arith, leb-false from (length s) f))))

-- ------------------------------------------------------------------ the byte at a place

module _ (b : ℕ) (s : List ℕ) (e : ℕ) where
  -- it stands at a place of the text
  pub begins_in : begins b (drop e s) ≡ true → e < length s
  begins_in h = by (leb (suc e) (length s)) refl
    where
      by : (q : Bool) → leb (suc e) (length s) ≡ q → e < length s
      by true t = omega (arith, leb-true (suc e) (length s) t)
      by false f = absurd (false≢true (sym (ap (begins b) (drop_of_length-le s (omega (arith, leb-false (suc e) (length s) f)))) ∙ h))

  pub begins_here : begins b (drop e s) ≡ true → drop e s ≡ b ∷ drop (e + 1) s
  begins_here h =
      here s e (begins_in h)
      ∙ ap (λ c. c ∷ drop (e + 1) s) (eqb-true (get_or s e 0) b (sym (ap (begins b) (here s e (begins_in h))) ∙ h))

-- `==` of two slices of bytes is the definitions' own comparison
pub eq_as_numbers : (xs ys : List ℕ) → bytes_eq xs ys ≡ eq_numbers xs ys
unfolding eq_numbers
eq_as_numbers [] [] = refl
eq_as_numbers [] (y ∷ ys) = refl
eq_as_numbers (x ∷ xs) [] = refl
eq_as_numbers (x ∷ xs) (y ∷ ys) = by (eqb x y) (eq_as_numbers xs ys)
  where
    by : (b : Bool) → bytes_eq xs ys ≡ eq_numbers xs ys → (b && bytes_eq xs ys) ≡ elim b [ true ↦ eq_numbers xs ys | false ↦ false ]
    by true e = e
    by false e = refl

-- of a part of the second one
pub part_as_numbers : (word table : List ℕ) (from n : ℕ) → bytes_eq word (take (from + n - from) (drop from table)) ≡ eq_numbers word (take n (drop from table))
part_as_numbers word table from n = ap (λ m. bytes_eq word (take m (drop from table))) whole ∙ eq_as_numbers word (take n (drop from table))
  where
    whole : from + n - from ≡ n
    whole = omega arith

-- `then_some` in the definitions' form
pub then_some_if : {A : Type 0} (b : Bool) (x : A) → then_some b x ≡ (if b then Some x else None)
then_some_if true x = refl
then_some_if false x = refl
