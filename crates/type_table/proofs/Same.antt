-- Equal types are equal heads with equal lists. Assumes nothing.
use Prim.Native.Nat.{ℕ, zero, suc}
use mathlib.Core.Path.{◌≡◌, refl, sym, ap, ap₂, subst, ◌∙◌}
use mathlib.Core.Bool.{Bool, true, false, ◌&&◌}
use mathlib.Core.List.{List, [], ◌∷◌, map}
use borrow.Author.Tests.{eqb-true}
use lib.Dec.{eqb}
use Rattle.model.specs.Common.{eq_numbers}
use Rattle.resolution.specs.TypeData.{TypeData}
use Rattle.resolution.specs.Types.{kind_number, row_numbers, row_names, eq_names, eq_type}
use Rattle.type_table.specs.declared.Head.{Head}
use Rattle.records.specs.Layout.{name_by}
use Rattle.type_table.specs.Layout.{data_by, data_from, head_of, items_of, Canonical, row_at, head_at, names_at, items_at}
use Rattle.type_table.specs.Promises.{same_heads, same_rows}
use Rattle.type_table.proofs.Pairs.{numbers_cons}
use Rattle.type_table.proofs.Bools.{and_three, and_moved, and_moved_far}

pub kind_of : (row : TypeData) → (head_of row).kind ≡ kind_number row
unfolding head_of kind_number
kind_of TypeData.Felt = refl
kind_of TypeData.Bool = refl
kind_of TypeData.U32 = refl
kind_of TypeData.Unknown = refl
kind_of TypeData.Error = refl
kind_of (TypeData.Tuple ts) = refl
kind_of (TypeData.Pointer t) = refl
kind_of (TypeData.FixedArray t size) = refl
kind_of (TypeData.Struct m d fields) = refl
kind_of (TypeData.Function m d params t) = refl

-- two lists of numbers, their first ones apart
numbers_two : (x y x' y' : ℕ) (xs ys : List ℕ) → eq_numbers (x ∷ x' ∷ xs) (y ∷ y' ∷ ys) ≡ (eqb x y && (eqb x' y' && eq_numbers xs ys))
numbers_two x y x' y' xs ys = numbers_cons x y (x' ∷ xs) (y' ∷ ys) ∙ ap (λ b. eqb x y && b) (numbers_cons x' y' xs ys)

numbers_three : (x y x' y' x'' y'' : ℕ) (xs ys : List ℕ)
    → eq_numbers (x ∷ x' ∷ x'' ∷ xs) (y ∷ y' ∷ y'' ∷ ys) ≡ (eqb x y && (eqb x' y' && (eqb x'' y'' && eq_numbers xs ys)))
numbers_three x y x' y' x'' y'' xs ys = numbers_cons x y (x' ∷ x'' ∷ xs) (y' ∷ y'' ∷ ys) ∙ ap (λ b. eqb x y && b) (numbers_two x' y' x'' y'' xs ys)

-- the comparison that the code makes
same_parts : TypeData → TypeData → Bool
same_parts a b = same_heads (head_of a) (head_of b) && (eq_numbers (items_of a) (items_of b) && eq_names (row_names a) (row_names b))

-- two rows of one kind
same_by : (file : List ℕ) (k : ℕ) (h h' : Head) (ns ns' ts ts' : List ℕ)
    → eq_type (data_by file k h ns ts) (data_by file k h' ns' ts') ≡ same_parts (data_by file k h ns ts) (data_by file k h' ns' ts')
unfolding same_parts data_by eq_type kind_number row_numbers row_names eq_names same_heads head_of items_of eq_numbers
same_by file zero h h' ns ns' ts ts' = refl
same_by file (suc zero) h h' ns ns' ts ts' = refl
same_by file (suc (suc zero)) h h' ns ns' ts ts' = refl
same_by file (suc (suc (suc zero))) h h' ns ns' ts ts' = refl
same_by file (suc (suc (suc (suc zero)))) h h' ns ns' ts ts' = refl
same_by file (suc (suc (suc (suc (suc zero))))) h h' ns ns' ts ts' = refl
same_by file (suc (suc (suc (suc (suc (suc zero)))))) h h' ns ns' ts ts' = ap (λ b. b && true) (numbers_cons h.element h'.element [] [])
same_by file (suc (suc (suc (suc (suc (suc (suc zero))))))) h h' ns ns' ts ts' =
    ap (λ b. b && true) (numbers_two h.element h'.element h.size h'.size [] []) ∙ and_three (eqb h.element h'.element) (eqb h.size h'.size)
same_by file (suc (suc (suc (suc (suc (suc (suc (suc zero)))))))) h h' ns ns' ts ts' =
    ap (λ b. b && eq_names (row_names (data_by file 8 h ns ts)) (row_names (data_by file 8 h' ns' ts'))) (numbers_two h.home h'.home h.definition h'.definition (items_of (data_by file 8 h ns ts)) (items_of (data_by file 8 h' ns' ts'))) ∙ and_moved (eqb h.home h'.home) (eqb h.definition h'.definition) _ _
same_by file (suc (suc (suc (suc (suc (suc (suc (suc (suc zero))))))))) h h' ns ns' ts ts' =
    ap (λ b. b && true) (numbers_three h.home h'.home h.definition h'.definition h.element h'.element ts ts') ∙ and_moved_far (eqb h.home h'.home) (eqb h.definition h'.definition) (eqb h.element h'.element) _
same_by file (suc (suc (suc (suc (suc (suc (suc (suc (suc (suc k)))))))))) h h' ns ns' ts ts' = refl

module _ (file : List ℕ) (h h' : Head) (ns ns' ts ts' : List ℕ) (ca : Canonical file h ns ts) (cb : Canonical file h' ns' ts') where
  kind_is : kind_number (data_from file h ns ts) ≡ h.kind
  kind_is = sym (kind_of (data_from file h ns ts)) ∙ ap (λ x. x.kind) (sym ca.same_head)

  kind_is' : kind_number (data_from file h' ns' ts') ≡ h'.kind
  kind_is' = sym (kind_of (data_from file h' ns' ts')) ∙ ap (λ x. x.kind) (sym cb.same_head)

  one_kind : h.kind ≡ h'.kind → eq_type (data_from file h ns ts) (data_from file h' ns' ts') ≡ same_parts (data_from file h ns ts) (data_from file h' ns' ts')
  unfolding data_from
  one_kind same =
      subst
      (λ (k : ℕ). eq_type (data_by file h.kind h ns ts) (data_by file k h' ns' ts') ≡ same_parts (data_by file h.kind h ns ts) (data_by file k h' ns' ts'))
      same (same_by file h.kind h h' ns ns' ts ts')

  two_kinds : eqb h.kind h'.kind ≡ false → eq_type (data_from file h ns ts) (data_from file h' ns' ts') ≡ false
  unfolding eq_type
  two_kinds other =
      ap (λ x. (x && eq_numbers (row_numbers (data_from file h ns ts)) (row_numbers (data_from file h' ns' ts'))) && eq_names (row_names (data_from file h ns ts)) (row_names (data_from file h' ns' ts')))
      (ap₂ eqb kind_is kind_is' ∙ other)

  -- the comparison of the words is that of the types
  pub same_type : eq_type (data_from file h ns ts) (data_from file h' ns' ts')
      ≡ (same_heads h h' && (eq_numbers ts ts' && eq_names (map (name_by file) ns) (map (name_by file) ns')))
  unfolding same_parts same_heads
  same_type = go (eqb h.kind h'.kind) refl
    where
      go : (b : Bool) → eqb h.kind h'.kind ≡ b → eq_type (data_from file h ns ts) (data_from file h' ns' ts')
          ≡ (same_heads h h' && (eq_numbers ts ts' && eq_names (map (name_by file) ns) (map (name_by file) ns')))
      go true e =
          one_kind (eqb-true _ _ e)
          ∙ ap₂ (λ x y. x && y) (ap₂ same_heads (sym ca.same_head) (sym cb.same_head))
          (ap₂ (λ x y. x && y) (ap₂ eq_numbers (sym ca.same_items) (sym cb.same_items)) (ap₂ eq_names (sym ca.same_names) (sym cb.same_names)))
      go false e = two_kinds e ∙ ap (λ x. (x && (eqb h.home h'.home && (eqb h.definition h'.definition && (eqb h.element h'.element && eqb h.size h'.size)))) && (eq_numbers ts ts' && eq_names (map (name_by file) ns) (map (name_by file) ns'))) (sym e)

pub same_row_is : (file : List ℕ) (h : Head) (ns ts w : List ℕ) (t : ℕ) → Canonical file h ns ts → Canonical file (head_at w t) (names_at w t) (items_at w t)
    → same_rows file h ns ts w t ≡ eq_type (data_from file h ns ts) (row_at file w t)
unfolding same_rows row_at
same_row_is file h ns ts w t ca cb = sym (same_type file h (head_at w t) ns (names_at w t) ts (items_at w t) ca cb)
