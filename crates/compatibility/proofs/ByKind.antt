-- Two rows compared by their kinds: what `compatible_rows` comes to for each pair of kinds. Assumes nothing.
use Prim.Native.Nat.{ℕ}
use mathlib.Core.Path.{◌≡◌, refl, sym, ap, ap₂, ◌∙◌}
use mathlib.Core.Bool.{Bool, true, false, ◌&&◌, ◌||◌}
use mathlib.Core.List.{List}
use mathlib.Core.Logic.{◌⊎◌, inl, inr}
use Rattle.std.specs.Prelude.{Option, None, Some}
use native.Mathlib.Omega.{arith}
use lib.Dec.{eqb}
use Rattle.model.specs.Common.{let_some}
use Rattle.resolution.specs.TypeData.{TypeData}
use Rattle.resolution.specs.Types.{kind_number, as_tuple, as_pointer, as_array, is_error_or_unknown}
use Rattle.resolution.specs.Compatible.{all_pairs, both_some, compatible_rows}
use Rattle.type_table.specs.declared.TypeList.{TypeList}
use Rattle.type_table.specs.declared.TypeData.{TypeData as Row}
use Rattle.type_table.specs.Meaning.{data_is}

-- one of two is missing
left_none : {A : Type 0} (test : A → A → Bool) (a e : Option A) → a ≡ None → both_some test a e ≡ false
unfolding both_some
left_none test a e h = ap (λ o. let_some o false (λ x. let_some e false (λ y. test x y))) h

right_none : {A : Type 0} (test : A → A → Bool) (a e : Option A) → e ≡ None → both_some test a e ≡ false
unfolding both_some
right_none test None e h = refl
right_none test (Some x) e h = ap (λ o. let_some o false (λ y. test x y)) h

-- one of two that is error or unknown
module _ (f : ℕ → ℕ → Bool) (a e : TypeData) where
  pub left_open : is_error_or_unknown a ≡ true → true ≡ compatible_rows f a e
  unfolding compatible_rows
  left_open h =
      sym (ap (λ b. (((b || is_error_or_unknown e) || both_some (all_pairs f) (as_tuple a) (as_tuple e)) || both_some (λ x y. eqb x.size y.size && f x.element y.element) (as_array a) (as_array e)) || both_some f (as_pointer a) (as_pointer e)) h)

  pub right_open : is_error_or_unknown e ≡ true → true ≡ compatible_rows f a e
  unfolding compatible_rows
  right_open h = go (is_error_or_unknown a) refl
    where
      go : (b : Bool) → is_error_or_unknown a ≡ b → true ≡ ((((is_error_or_unknown a || is_error_or_unknown e) || both_some (all_pairs f) (as_tuple a) (as_tuple e)) || both_some (λ x y. eqb x.size y.size && f x.element y.element) (as_array a) (as_array e)) || both_some f (as_pointer a) (as_pointer e))
      go true c =
          sym (ap (λ b. (((b || is_error_or_unknown e) || both_some (all_pairs f) (as_tuple a) (as_tuple e)) || both_some (λ x y. eqb x.size y.size && f x.element y.element) (as_array a) (as_array e)) || both_some f (as_pointer a) (as_pointer e)) c)
      go false c =
          sym (ap₂ (λ b d. (((b || d) || both_some (all_pairs f) (as_tuple a) (as_tuple e)) || both_some (λ x y. eqb x.size y.size && f x.element y.element) (as_array a) (as_array e)) || both_some f (as_pointer a) (as_pointer e)) c h)

-- two rows of which not both are pointers, not both arrays and not both tuples
pub record Apart (a e : Row) : Type 0 where
  pub pointers : (x y : ℕ) → a ≡ Row.Pointer x → e ≡ Row.Pointer y → ⊥
  pub arrays : (x m y n : ℕ) → a ≡ Row.FixedArray x m → e ≡ Row.FixedArray y n → ⊥
  pub tuples : (l m : TypeList) → a ≡ Row.Tuple l → e ≡ Row.Tuple m → ⊥

pub apart_pointer : {a e : Row} {u : ℕ} → a ≡ Row.Pointer u → ((x : ℕ) → e ≡ Row.Pointer x → ⊥) → Apart a e
apart_pointer is other = record {
  pointers = λ x y ha he. other y he;
  arrays = λ x m y n ha he. let z : ◌≡◌ {A = ℕ} 0 1 = cc in absurd (omega arith);
  tuples = λ l m ha he. let z : ◌≡◌ {A = ℕ} 0 1 = cc in absurd (omega arith);
}

pub apart_array : {a e : Row} {u size : ℕ} → a ≡ Row.FixedArray u size → ((x m : ℕ) → e ≡ Row.FixedArray x m → ⊥) → Apart a e
apart_array is other = record {
  pointers = λ x y ha he. let z : ◌≡◌ {A = ℕ} 0 1 = cc in absurd (omega arith);
  arrays = λ x m y n ha he. other y n he;
  tuples = λ l m ha he. let z : ◌≡◌ {A = ℕ} 0 1 = cc in absurd (omega arith);
}

pub apart_tuple : {a e : Row} {list : TypeList} → a ≡ Row.Tuple list → ((l : TypeList) → e ≡ Row.Tuple l → ⊥) → Apart a e
apart_tuple is other = record {
  pointers = λ x y ha he. let z : ◌≡◌ {A = ℕ} 0 1 = cc in absurd (omega arith);
  arrays = λ x m y n ha he. let z : ◌≡◌ {A = ℕ} 0 1 = cc in absurd (omega arith);
  tuples = λ l m ha he. other m he;
}

pub apart_plain : {a e : Row} → ((x : ℕ) → a ≡ Row.Pointer x → ⊥) → ((x m : ℕ) → a ≡ Row.FixedArray x m → ⊥) → ((l : TypeList) → a ≡ Row.Tuple l → ⊥) → Apart a e
apart_plain no_pointer no_array no_tuple = record {
  pointers = λ x y ha he. no_pointer x ha;
  arrays = λ x m y n ha he. no_array x m ha;
  tuples = λ l m ha he. no_tuple l ha;
}

module _ (file w : List ℕ) where
  -- a row of a kind, or one that has no such view
  pointer_or : (row : Row) → ((x : ℕ) × (row ≡ Row.Pointer x)) ⊎ (as_pointer (data_is file w row) ≡ None)
  unfolding as_pointer
  pointer_or Row.Felt = inr refl
  pointer_or Row.«Bool» = inr refl
  pointer_or Row.U32 = inr refl
  pointer_or Row.Unknown = inr refl
  pointer_or Row.Error = inr refl
  pointer_or (Row.Tuple list) = inr refl
  pointer_or (Row.Pointer u) = inl (u, refl)
  pointer_or (Row.FixedArray u size) = inr refl
  pointer_or (Row.Struct m d list) = inr refl
  pointer_or (Row.Function m d list u) = inr refl

  array_or : (row : Row) → ((x : ℕ) × (m : ℕ) × (row ≡ Row.FixedArray x m)) ⊎ (as_array (data_is file w row) ≡ None)
  unfolding as_array
  array_or Row.Felt = inr refl
  array_or Row.«Bool» = inr refl
  array_or Row.U32 = inr refl
  array_or Row.Unknown = inr refl
  array_or Row.Error = inr refl
  array_or (Row.Tuple list) = inr refl
  array_or (Row.Pointer u) = inr refl
  array_or (Row.FixedArray u size) = inl (u, size, refl)
  array_or (Row.Struct m d list) = inr refl
  array_or (Row.Function m d list u) = inr refl

  tuple_or : (row : Row) → ((l : TypeList) × (row ≡ Row.Tuple l)) ⊎ (as_tuple (data_is file w row) ≡ None)
  unfolding as_tuple
  tuple_or Row.Felt = inr refl
  tuple_or Row.«Bool» = inr refl
  tuple_or Row.U32 = inr refl
  tuple_or Row.Unknown = inr refl
  tuple_or Row.Error = inr refl
  tuple_or (Row.Tuple list) = inl (list, refl)
  tuple_or (Row.Pointer u) = inr refl
  tuple_or (Row.FixedArray u size) = inr refl
  tuple_or (Row.Struct m d list) = inr refl
  tuple_or (Row.Function m d list u) = inr refl

  module _ (f : ℕ → ℕ → Bool) (a e : Row) (apart : Apart a e) where
    no_pointers : both_some f (as_pointer (data_is file w a)) (as_pointer (data_is file w e)) ≡ false
    no_pointers = go (pointer_or a) (pointer_or e)
      where
        go : ((x : ℕ) × (a ≡ Row.Pointer x)) ⊎ (as_pointer (data_is file w a) ≡ None) → ((y : ℕ) × (e ≡ Row.Pointer y)) ⊎ (as_pointer (data_is file w e) ≡ None)
            → both_some f (as_pointer (data_is file w a)) (as_pointer (data_is file w e)) ≡ false
        go (inr h) q = left_none f _ _ h
        go (inl p) (inr h) = right_none f _ _ h
        go (inl p) (inl q) = absurd (apart.pointers p.0 q.0 p.1 q.1)

    no_arrays : both_some (λ x y. eqb x.size y.size && f x.element y.element) (as_array (data_is file w a)) (as_array (data_is file w e)) ≡ false
    no_arrays = go (array_or a) (array_or e)
      where
        go : ((x : ℕ) × (m : ℕ) × (a ≡ Row.FixedArray x m)) ⊎ (as_array (data_is file w a) ≡ None)
            → ((y : ℕ) × (n : ℕ) × (e ≡ Row.FixedArray y n)) ⊎ (as_array (data_is file w e) ≡ None)
            → both_some (λ x y. eqb x.size y.size && f x.element y.element) (as_array (data_is file w a)) (as_array (data_is file w e)) ≡ false
        go (inr h) q = left_none (λ x y. eqb x.size y.size && f x.element y.element) _ _ h
        go (inl p) (inr h) = right_none (λ x y. eqb x.size y.size && f x.element y.element) _ _ h
        go (inl p) (inl q) = absurd (apart.arrays p.0 p.1 q.0 q.1 p.2 q.2)

    no_tuples : both_some (all_pairs f) (as_tuple (data_is file w a)) (as_tuple (data_is file w e)) ≡ false
    no_tuples = go (tuple_or a) (tuple_or e)
      where
        go : ((l : TypeList) × (a ≡ Row.Tuple l)) ⊎ (as_tuple (data_is file w a) ≡ None) → ((m : TypeList) × (e ≡ Row.Tuple m)) ⊎ (as_tuple (data_is file w e) ≡ None)
            → both_some (all_pairs f) (as_tuple (data_is file w a)) (as_tuple (data_is file w e)) ≡ false
        go (inr h) q = left_none (all_pairs f) _ _ h
        go (inl p) (inr h) = right_none (all_pairs f) _ _ h
        go (inl p) (inl q) = absurd (apart.tuples p.0 q.0 p.1 q.1)

    -- such rows are compatible where one of them is error or unknown
    pub apart_rows : compatible_rows f (data_is file w a) (data_is file w e) ≡ (is_error_or_unknown (data_is file w a) || is_error_or_unknown (data_is file w e))
    unfolding compatible_rows
    apart_rows =
        ap₂ (λ x y. x || y) (ap₂ (λ x y. x || y) (ap₂ (λ x y. x || y) refl no_tuples) no_arrays) no_pointers
        ∙ thrice (is_error_or_unknown (data_is file w a) || is_error_or_unknown (data_is file w e))
      where
        thrice : (b : Bool) → (((b || false) || false) || false) ≡ b
        thrice true = refl
        thrice false = refl

or_false : (b : Bool) → (b || false) ≡ b
or_false true = refl
or_false false = refl

pub tuples : (f : ℕ → ℕ → Bool) (ts us : List ℕ) → compatible_rows f (TypeData.Tuple ts) (TypeData.Tuple us) ≡ all_pairs f ts us
unfolding compatible_rows is_error_or_unknown kind_number both_some as_tuple as_array as_pointer
tuples f ts us = or_false (all_pairs f ts us || false) ∙ or_false (all_pairs f ts us)

pub arrays : (f : ℕ → ℕ → Bool) (t m u n : ℕ) → compatible_rows f (TypeData.FixedArray t m) (TypeData.FixedArray u n) ≡ (eqb m n && f t u)
unfolding compatible_rows is_error_or_unknown kind_number both_some as_tuple as_array as_pointer
arrays f t m u n = or_false (eqb m n && f t u)

pub pointers : (f : ℕ → ℕ → Bool) (t u : ℕ) → compatible_rows f (TypeData.Pointer t) (TypeData.Pointer u) ≡ f t u
unfolding compatible_rows is_error_or_unknown kind_number both_some as_tuple as_array as_pointer
pointers f t u = refl

-- the code's test of a kind
pub open_row : (file w : List ℕ) (row : Row) → (row ≡ Row.Error) ⊎ (row ≡ Row.Unknown) → true ≡ is_error_or_unknown (data_is file w row)
unfolding is_error_or_unknown kind_number
open_row file w row (inl e) = ap (λ r. is_error_or_unknown (data_is file w r)) (sym e)
open_row file w row (inr e) = ap (λ r. is_error_or_unknown (data_is file w r)) (sym e)

pub shut_row : (file w : List ℕ) (row : Row) → (row ≡ Row.Unknown → ⊥) → (row ≡ Row.Error → ⊥) → false ≡ is_error_or_unknown (data_is file w row)
unfolding is_error_or_unknown kind_number
shut_row file w Row.Felt u e = refl
shut_row file w Row.«Bool» u e = refl
shut_row file w Row.U32 u e = refl
shut_row file w Row.Unknown u e = absurd (u refl)
shut_row file w Row.Error u e = absurd (e refl)
shut_row file w (Row.Tuple list) u e = refl
shut_row file w (Row.Pointer t) u e = refl
shut_row file w (Row.FixedArray t size) u e = refl
shut_row file w (Row.Struct m d list) u e = refl
shut_row file w (Row.Function m d list t) u e = refl

-- the first of two tests decides, or the second
pub or_first : {r x : Bool} (y : Bool) → r ≡ x → r ≡ true → r ≡ (x || y)
or_first y is e = e ∙ sym (ap (λ b. b || y) (sym is ∙ e))

pub or_second : {r x s y : Bool} → r ≡ x → r ≡ false → s ≡ y → s ≡ (x || y)
or_second {y = y} is e same = same ∙ sym (ap (λ b. b || y) (sym is ∙ e))
