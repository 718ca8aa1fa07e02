-- What a test that passes or fails says, and what an option holds. Assumes nothing.
use Prim.Native.Nat.{ℕ, ◌≤◌, ◌<◌}
use mathlib.Core.Path.{◌≡◌, refl, sym, ap, subst}
use mathlib.Core.Bool.{Bool, true, false, not, ◌&&◌, ◌||◌, false≢true}
use mathlib.Core.List.{List, [], ◌∷◌}
use Rattle.std.specs.Prelude.{Option, None, Some, unwrap_or}
use lib.Dec.{T, eqb, leb, ltb, eqb→eq, eqb_refl, leb→le, ltb→lt, nltb→le, lt→ltb}
use Rattle.model.specs.Common.{let_some, eq_numbers}

-- ------------------------------------------------------------------ tests

pub is_true : (b : Bool) → T b → b ≡ true
is_true true t = refl
is_true false t = absurd t

-- two tests of which each passes where the other does are equal
pub bool_same : (a b : Bool) → (a ≡ true → b ≡ true) → (b ≡ true → a ≡ true) → a ≡ b
bool_same true true f g = refl
bool_same true false f g = sym (f refl)
bool_same false true f g = g refl
bool_same false false f g = refl

pub and_left : (a b : Bool) → (a && b) ≡ true → a ≡ true
and_left true b e = refl
and_left false b e = e

pub and_right : (a b : Bool) → (a && b) ≡ true → b ≡ true
and_right true b e = e
and_right false b e = absurd (false≢true e)

pub or_right : (a b : Bool) → b ≡ true → (a || b) ≡ true
or_right true b e = refl
or_right false b e = e

-- `not a || b`: a test that is made where `a` passes
pub under : (a b : Bool) → (not a || b) ≡ true → a ≡ true → b ≡ true
under true b e h = e
under false b e h = absurd (false≢true h)

pub not-true : (b : Bool) → not b ≡ true → b ≡ false
not-true true e = sym e
not-true false e = refl

-- ------------------------------------------------------------------ numbers

pub eqb_sound : (m n : ℕ) → eqb m n ≡ true → m ≡ n
eqb_sound m n e = eqb→eq m n (subst T (sym e) tt)

pub eqb_self : (n : ℕ) → eqb n n ≡ true
eqb_self n = is_true (eqb n n) (eqb_refl n)

pub leb_le : (m n : ℕ) → leb m n ≡ true → m ≤ n
leb_le m n e = leb→le m n (subst T (sym e) tt)

pub ltb_lt : (m n : ℕ) → ltb m n ≡ true → m < n
ltb_lt m n e = ltb→lt m n (subst T (sym e) tt)

pub ltb-false : (m n : ℕ) → ltb m n ≡ false → n ≤ m
ltb-false m n e = nltb→le m n (subst (λ b. T (not b)) (sym e) tt)

pub lt-ltb : (m n : ℕ) → m < n → ltb m n ≡ true
lt-ltb m n h = is_true (ltb m n) (lt→ltb m n h)

pub eq_numbers_sound : (xs ys : List ℕ) → eq_numbers xs ys ≡ true → xs ≡ ys
unfolding eq_numbers
eq_numbers_sound [] [] e = refl
eq_numbers_sound [] (y ∷ ys) e = absurd (false≢true e)
eq_numbers_sound (x ∷ xs) [] e = absurd (false≢true e)
eq_numbers_sound (x ∷ xs) (y ∷ ys) e = by_first (λ f. eq_numbers_sound xs ys f) (eqb x y) refl e
  where
    by_first : (eq_numbers xs ys ≡ true → xs ≡ ys) → (b : Bool) → eqb x y ≡ b → elim b [ true ↦ eq_numbers xs ys | false ↦ false ] ≡ true → x ∷ xs ≡ y ∷ ys
    by_first rest true h f = λ i. eqb_sound x y h i ∷ rest f i
    by_first rest false h f = absurd (false≢true f)

pub eq_numbers_self : (xs : List ℕ) → eq_numbers xs xs ≡ true
unfolding eq_numbers
eq_numbers_self [] = refl
eq_numbers_self (x ∷ xs) = λ i. elim (eqb_self x i) [ true ↦ eq_numbers_self xs i | false ↦ false ]

-- ------------------------------------------------------------------ options

abbrev Missing : {A : Type 0} → Option A → Type 0
Missing None = Unit {0}
Missing (Some x) = ⊥

pub none≢some : {A : Type 0} {x : A} → None ≡ Some x → ⊥
none≢some e = subst Missing e tt

pub some-injective : {A : Type 0} {x y : A} → Some x ≡ Some y → x ≡ y
some-injective {x = x} e = ap (λ o. unwrap_or o x) e

-- a lookup through another one that finds something
pub some_of : {A B : Type 0} (o : Option A) (f : A → Option B) (b : B) → let_some o None f ≡ Some b → (x : A) × (o ≡ Some x) × (f x ≡ Some b)
some_of None f b e = absurd (none≢some e)
some_of (Some x) f b e = (x, refl, e)
