-- Equal types: the test `eq_type` passes exactly for equal rows, and what `find_type` finds. Assumes nothing.
use Prim.Native.Nat.{ℕ, zero, suc}
use mathlib.Core.Path.{◌≡◌, refl, sym, ◌∙◌, ap, subst}
use mathlib.Core.Bool.{true, false, ◌&&◌}
use mathlib.Core.List.{List, [], ◌∷◌, map}
use Rattle.std.specs.Prelude.{None, Some}
use lib.Dec.{T, eqb}
use Rattle.std.specs.Prelude.{slice_get}
use lib.ListN.{get_or, drop}
use Rattle.model.specs.Common.{let_some, eq_numbers}
use Rattle.model.specs.Records.{Name, NameWithType}
use Rattle.model.proofs.Tests.{and_left, and_right, eqb_sound, eqb_self, eq_numbers_sound, eq_numbers_self}
use Rattle.model.proofs.Search.{passes_some, first_passes, first_none_fails}
use Rattle.resolution.specs.TypeData.{TypeData}
use Rattle.resolution.specs.Types.{Table, kind_number, row_numbers, row_names, eq_names, eq_type, find_type}

-- ------------------------------------------------------------------ names

eq_names_sound : (xs ys : List Name) → eq_names xs ys ≡ true → xs ≡ ys
unfolding eq_names
eq_names_sound [] [] e = refl
eq_names_sound [] (y ∷ ys) e = absurd (subst T (sym e) tt)
eq_names_sound (x ∷ xs) [] e = absurd (subst T (sym e) tt)
eq_names_sound (x ∷ xs) (y ∷ ys) e =
    λ i. eq_numbers_sound x y (and_left (eq_numbers x y) (eq_names xs ys) e) i ∷ eq_names_sound xs ys (and_right (eq_numbers x y) (eq_names xs ys) e) i

eq_names_self : (xs : List Name) → eq_names xs xs ≡ true
unfolding eq_names
eq_names_self [] = refl
eq_names_self (x ∷ xs) = λ i. eq_numbers_self x i && eq_names_self xs i

-- ------------------------------------------------------------------ rows

fields_from : List Name → List ℕ → List NameWithType
fields_from [] ts = []
fields_from (n ∷ ns) [] = []
fields_from (n ∷ ns) (t ∷ ts) = record { name = n; type = t } ∷ fields_from ns ts

-- a row from its kind, its numbers and its names
row_from : ℕ → List ℕ → List Name → TypeData
row_from zero ns names = TypeData.Felt
row_from (suc zero) ns names = TypeData.Bool
row_from (suc (suc zero)) ns names = TypeData.U32
row_from (suc (suc (suc zero))) ns names = TypeData.Unknown
row_from (suc (suc (suc (suc zero)))) ns names = TypeData.Error
row_from (suc (suc (suc (suc (suc zero))))) ns names = TypeData.Tuple ns
row_from (suc (suc (suc (suc (suc (suc zero)))))) ns names = TypeData.Pointer (get_or ns 0 0)
row_from (suc (suc (suc (suc (suc (suc (suc zero))))))) ns names = TypeData.FixedArray (get_or ns 0 0) (get_or ns 1 0)
row_from (suc (suc (suc (suc (suc (suc (suc (suc zero)))))))) ns names = TypeData.Struct (get_or ns 0 0) (get_or ns 1 0) (fields_from names (drop 2 ns))
row_from (suc (suc (suc (suc (suc (suc (suc (suc (suc k))))))))) ns names =
    TypeData.Function (get_or ns 0 0) (get_or ns 1 0) (drop 3 ns) (get_or ns 2 0)

fields_back : (fields : List NameWithType) → fields_from (map (λ field. field.name) fields) (map (λ field. field.type) fields) ≡ fields
unfolding fields_from
fields_back [] = refl
fields_back (field ∷ fields) = ap (λ (r : List NameWithType). field ∷ r) (fields_back fields)

row_back : (row : TypeData) → row_from (kind_number row) (row_numbers row) (row_names row) ≡ row
unfolding row_from kind_number row_numbers row_names
row_back TypeData.Felt = refl
row_back TypeData.Bool = refl
row_back TypeData.U32 = refl
row_back TypeData.Unknown = refl
row_back TypeData.Error = refl
row_back (TypeData.Tuple ts) = refl
row_back (TypeData.Pointer t) = refl
row_back (TypeData.FixedArray t size) = refl
row_back (TypeData.Struct m d fields) = ap (TypeData.Struct m d) (fields_back fields)
row_back (TypeData.Function m d params t) = refl

pub eq_type_sound : (a b : TypeData) → eq_type a b ≡ true → a ≡ b
unfolding eq_type
eq_type_sound a b e =
    let kinds = eqb (kind_number a) (kind_number b) in
    let numbers = eq_numbers (row_numbers a) (row_numbers b) in
    let names = eq_names (row_names a) (row_names b) in
    let both = and_left (kinds && numbers) names e in
    sym (row_back a)
    ∙ (λ i.
    row_from
    (eqb_sound (kind_number a) (kind_number b) (and_left kinds numbers both) i)
    (eq_numbers_sound (row_numbers a) (row_numbers b) (and_right kinds numbers both) i)
    (eq_names_sound (row_names a) (row_names b) (and_right (kinds && numbers) names e) i))
    ∙ row_back b

pub eq_type_self : (a : TypeData) → eq_type a a ≡ true
unfolding eq_type
eq_type_self a = λ i. (eqb_self (kind_number a) i && eq_numbers_self (row_numbers a) i) && eq_names_self (row_names a) i

-- ------------------------------------------------------------------ what `find_type` finds

pub find_type_some : (table : Table) (row : TypeData) (n : ℕ) → find_type table row ≡ Some n → slice_get table n ≡ Some row
unfolding find_type
find_type_some table row n e =
    let (other, here, same) = passes_some (slice_get table n) (eq_type row) (first_passes (eq_type row) table n e) in
    here ∙ ap Some (sym (eq_type_sound row other same))

pub find_type_none : (table : Table) (row : TypeData) → find_type table row ≡ None → (n : ℕ) → slice_get table n ≡ Some row → ⊥
unfolding find_type
find_type_none table row e n here =
    subst T
    (sym (ap (λ o. let_some o false (eq_type row)) here ∙ eq_type_self row) ∙ first_none_fails (eq_type row) table e n)
    tt
