-- Laws of `option_at`, by which a number in a word picks a kind: an arm of a `match` on the number, a constant table of the code, two lists that
-- agree where the number is. Assumes nothing.
use mathlib.Core.Path.{◌≡◌, refl, sym, ap, ap₂, ◌∙◌}
use Prim.Native.Nat.{ℕ, zero, suc, ◌+◌, ◌≤◌}
use native.Mathlib.Nat.{add-zero, zero-add}
use native.Mathlib.Omega.{arith}
use mathlib.Core.List.{List, [], ◌∷◌, ◌++◌, map}
use lib.ListN.{get_or, length, get_or-eq_default}
use Rattle.records.specs.Layout.{option_at}

-- the arm of a number
pub option_here : {A : Type 0} (n : ℕ) (kind : ℕ) (options : List A) (last x : A) → kind ≡ n → x ≡ get_or options n last → x ≡ option_at kind options last
unfolding option_at
option_here n kind options last x h e = e ∙ ap (λ k. get_or options k last) (sym h)

-- what a `match` on the numbers below n leaves for its last arm
abbrev pub NoneBelow : ℕ → ℕ → Type 0
NoneBelow zero k = Unit {0}
NoneBelow (suc n) k = NoneBelow n k × (k ≡ n → ⊥)

pub none_below : (n k : ℕ) → NoneBelow n k → n ≤ k
none_below zero k h = omega arith
none_below (suc n) k h = let le : n ≤ k = none_below n k h.0 in above n k le h.1
  where
    above : (n k : ℕ) → n ≤ k → (k ≡ n → ⊥) → suc n ≤ k
    above n k le ne = omega arith

-- a kind past the list is the last
pub option_last : {A : Type 0} (kind : ℕ) (options : List A) (last x : A) → length options ≤ kind → x ≡ last → x ≡ option_at kind options last
unfolding option_at
option_last kind options last x h e = e ∙ sym (get_or-eq_default options last h)

-- two lists of options that agree where the kind is: place by place, from a first place on
infixr 4 ◌and◌
pub data AgreeFrom {A : Type 0} (kind : ℕ) : ℕ → List A → List A → Type 0 where
  no_more : {place : ℕ} → AgreeFrom kind place [] []
  ◌and◌ : {place : ℕ} {x y : A} {xs ys : List A} → (kind ≡ place → x ≡ y) → AgreeFrom kind (suc place) xs ys → AgreeFrom kind place (x ∷ xs) (y ∷ ys)

pub same : {A : Type 0} {kind place : ℕ} {x : A} → kind ≡ place → x ≡ x
same h = refl

agree_from : {A : Type 0} (place kind k : ℕ) (xs ys : List A) (last : A) → kind ≡ place + k → AgreeFrom kind place xs ys → get_or xs k last ≡ get_or ys k last
agree_from {A = A} place kind k [] (y ∷ ys) last e x4 = elim x4 [ ]
agree_from {A = A} place kind zero (x ∷ xs) [] last e x6 = elim x6 [ ]
agree_from {A = A} place kind (suc k) (x ∷ xs) [] last e x7 = elim x7 [ ]
agree_from place kind k [] [] last e no_more = refl
agree_from place kind zero (x ∷ xs) (y ∷ ys) last e (h and rest) = h (e ∙ add-zero place)
agree_from place kind (suc k) (x ∷ xs) (y ∷ ys) last e (h and rest) = agree_from (suc place) kind k xs ys last (e ∙ over place k) rest
  where
    over : (a b : ℕ) → a + suc b ≡ suc a + b
    over a b = omega arith

pub options_same : {A : Type 0} (kind : ℕ) (options options' : List A) (last : A) → AgreeFrom kind 0 options options'
    → option_at kind options last ≡ option_at kind options' last
unfolding option_at
options_same kind options options' last h = agree_from 0 kind kind options options' last (sym (zero-add kind)) h

-- a constant table of the code holds the options in their order, the last one last, and past its end the last is read
module _ {A B : Type 0} (f : A → B) where
  mapped_at : (table : List A) (kind : ℕ) (default : A) → f (get_or table kind default) ≡ get_or (map f table) kind (f default)
  mapped_at [] kind default = refl
  mapped_at (x ∷ table) zero default = refl
  mapped_at (x ∷ table) (suc kind) default = mapped_at table kind default

  last_default : (options : List B) (last : B) (kind : ℕ) → get_or (options ++ (last ∷ [])) kind last ≡ get_or options kind last
  last_default [] last zero = refl
  last_default [] last (suc kind) = refl
  last_default (y ∷ options) last zero = refl
  last_default (y ∷ options) last (suc kind) = last_default options last kind

  pub option_mapped : (table : List A) (options : List B) (last : B) (kind : ℕ) (default x : A) → x ≡ get_or table kind default → f default ≡ last
      → map f table ≡ options ++ (last ∷ []) → f x ≡ option_at kind options last
  unfolding option_at
  option_mapped table options last kind default x is ends e =
      ap f is ∙ mapped_at table kind default ∙ ap₂ (λ l d. get_or l kind d) e ends ∙ last_default options last kind
