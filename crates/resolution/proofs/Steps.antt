-- Compatibility, the text of a type and decimal numbers, step by step: what code that recurses over type numbers has to meet. Assumes nothing.
use Prim.Native.Nat.{ℕ, zero, suc, ◌+◌, ◌/◌, ◌%◌, ◌≤◌, ◌<◌}
use native.Mathlib.Nat.{le_refl, le_trans, le_of_suc-le-suc, not-suc-le-zero, div-lt_self}
use native.Mathlib.Omega.{arith}
use mathlib.Core.Path.{◌≡◌, refl, sym, ap, subst}
use mathlib.Core.Bool.{Bool, true, false, not, ◌&&◌, ◌||◌}
use mathlib.Core.List.Memᴰ
use mathlib.Core.List.{List, [], ◌∷◌, ◌++◌, Memᴰ}
use Rattle.std.specs.Prelude.{Option, None, Some}
use mathlib.Core.Logic.{⊎_elim}
use lib.Dec.{T, eqb, ltb, nltb→le}
use lib.ListN.{get_or}
use Rattle.std.specs.Prelude.{if◌then◌else◌}
use Rattle.model.specs.Common.{let_some, bytes}
use Rattle.resolution.specs.TypeData.{TypeData}
use Rattle.resolution.specs.Types.{Table, Array, data_of, as_tuple, as_pointer, as_array, is_error_or_unknown}
use Rattle.resolution.specs.Compatible.{all_pairs, both_some, compatible_rows, compatible_within, are_types_compatible}
use Rattle.resolution.specs.Answer.{decimal_digits, decimal, comma_texts, row_text, text_within, type_text}
use Rattle.resolution.specs.TableOk.{row_types, TableOk}
use Rattle.model.proofs.Places.{getD_cases}

-- a type inside a type has a lower number
pub inner_lower : {table : Table} → TableOk table → (t u : ℕ) → Memᴰ u (row_types (data_of table t)) → u < t
unfolding data_of row_types
inner_lower {table} ok t u named =
    ⊎_elim
    (λ e. ok.lower t u (get_or table t TypeData.Error) e named)
    (λ e. absurd (Memᴰ.not-nil (subst (λ row. Memᴰ u (row_types row)) e named)))
    (getD_cases table t TypeData.Error)

-- ------------------------------------------------------------------ compatibility

pairs_same : (f g : ℕ → ℕ → Bool) (xs ys : List ℕ) → ((x y : ℕ) → Memᴰ x xs → f x y ≡ g x y) → all_pairs f xs ys ≡ all_pairs g xs ys
unfolding all_pairs
pairs_same f g [] [] h = refl
pairs_same f g [] (y ∷ ys) h = refl
pairs_same f g (x ∷ xs) [] h = refl
pairs_same f g (x ∷ xs) (y ∷ ys) h =
    λ i. h x y (Memᴰ.head refl) i && pairs_same f g xs ys (λ u v named. h u v (Memᴰ.tail named)) i

-- what compatibility asks of the types inside, it asks of those inside the actual type
rows_same : (f g : ℕ → ℕ → Bool) (a e : TypeData) → ((x y : ℕ) → Memᴰ x (row_types a) → f x y ≡ g x y) → compatible_rows f a e ≡ compatible_rows g a e
unfolding compatible_rows both_some as_tuple as_array as_pointer row_types
rows_same f g TypeData.Felt e h = refl
rows_same f g TypeData.Bool e h = refl
rows_same f g TypeData.U32 e h = refl
rows_same f g TypeData.Unknown e h = refl
rows_same f g TypeData.Error e h = refl
rows_same f g (TypeData.Tuple ts) e h =
    ap (λ b. is_error_or_unknown (TypeData.Tuple ts) || is_error_or_unknown e || b || false || false) (go (as_tuple e))
  where
    go : (o : Option (List ℕ)) → let_some o false (λ us. all_pairs f ts us) ≡ let_some o false (λ us. all_pairs g ts us)
    go None = refl
    go (Some us) = pairs_same f g ts us h
rows_same f g (TypeData.Pointer t) e h =
    ap (λ b. is_error_or_unknown (TypeData.Pointer t) || is_error_or_unknown e || false || false || b) (go (as_pointer e))
  where
    go : (o : Option ℕ) → let_some o false (λ u. f t u) ≡ let_some o false (λ u. g t u)
    go None = refl
    go (Some u) = h t u (Memᴰ.head refl)
rows_same f g (TypeData.FixedArray t size) e h =
    ap (λ b. is_error_or_unknown (TypeData.FixedArray t size) || is_error_or_unknown e || false || b || false) (go (as_array e))
  where
    go : (o : Option Array) → let_some o false (λ y. eqb size y.size && f t y.element) ≡ let_some o false (λ y. eqb size y.size && g t y.element)
    go None = refl
    go (Some y) = ap (λ b. eqb size y.size && b) (h t y.element (Memᴰ.head refl))
rows_same f g (TypeData.Struct m d fields) e h = refl
rows_same f g (TypeData.Function m d params t) e h = refl

module _ {table : Table} (ok : TableOk table) where
  within_same : (n n' a e : ℕ) → a < n → a < n' → compatible_within n table a e ≡ compatible_within n' table a e
  unfolding compatible_within
  within_same zero n' a e h h' = absurd (not-suc-le-zero h)
  within_same (suc n) zero a e h h' = absurd (not-suc-le-zero h')
  within_same (suc n) (suc n') a e h h' =
      ap (λ b. eqb a e || b)
      (rows_same (λ x y. compatible_within n table x y) (λ x y. compatible_within n' table x y) (data_of table a) (data_of table e)
      (λ x y named.
      within_same n n' x y (le_trans (inner_lower ok a x named) (le_of_suc-le-suc h)) (le_trans (inner_lower ok a x named) (le_of_suc-le-suc h'))))

  -- equal types, or compatible rows
  pub compatible_step : (a e : ℕ) → are_types_compatible table a e
      ≡ (eqb a e || compatible_rows (are_types_compatible table) (data_of table a) (data_of table e))
  unfolding are_types_compatible compatible_within
  compatible_step a e =
      ap (λ b. eqb a e || b)
      (rows_same (λ x y. compatible_within a table x y) (λ x y. compatible_within (suc x) table x y) (data_of table a) (data_of table e)
      (λ x y named. within_same a (suc x) x y (inner_lower ok a x named) (le_refl (suc x))))

-- ------------------------------------------------------------------ the text of a type

commas_same : (f g : ℕ → List ℕ) (ts : List ℕ) → ((t : ℕ) → Memᴰ t ts → f t ≡ g t) → comma_texts f ts ≡ comma_texts g ts
unfolding comma_texts
commas_same f g [] h = refl
commas_same f g (t ∷ []) h = h t (Memᴰ.head refl)
commas_same f g (t ∷ u ∷ ts) h =
    λ i. h t (Memᴰ.head refl) i ++ (bytes "," ++ commas_same f g (u ∷ ts) (λ v named. h v (Memᴰ.tail named)) i)

text_same : (f g : ℕ → List ℕ) (row : TypeData) → ((t : ℕ) → Memᴰ t (row_types row) → f t ≡ g t) → row_text f row ≡ row_text g row
unfolding row_text row_types
text_same f g TypeData.Felt h = refl
text_same f g TypeData.Bool h = refl
text_same f g TypeData.U32 h = refl
text_same f g TypeData.Unknown h = refl
text_same f g TypeData.Error h = refl
text_same f g (TypeData.Tuple ts) h = ap (λ (l : List ℕ). bytes "(" ++ (l ++ bytes ")")) (commas_same f g ts h)
text_same f g (TypeData.Pointer t) h = ap (λ (l : List ℕ). bytes "ptr(" ++ (l ++ bytes ")")) (h t (Memᴰ.head refl))
text_same f g (TypeData.FixedArray t size) h =
    ap (λ (l : List ℕ). bytes "[" ++ (l ++ (bytes ";" ++ (decimal size ++ bytes "]")))) (h t (Memᴰ.head refl))
text_same f g (TypeData.Struct m d fields) h = refl
text_same f g (TypeData.Function m d params t) h = refl

module _ {table : Table} (ok : TableOk table) where
  text_within_same : (n n' t : ℕ) → t < n → t < n' → text_within n table t ≡ text_within n' table t
  unfolding text_within
  text_within_same zero n' t h h' = absurd (not-suc-le-zero h)
  text_within_same (suc n) zero t h h' = absurd (not-suc-le-zero h')
  text_within_same (suc n) (suc n') t h h' =
      text_same (λ u. text_within n table u) (λ u. text_within n' table u) (data_of table t)
      (λ u named.
      text_within_same n n' u (le_trans (inner_lower ok t u named) (le_of_suc-le-suc h)) (le_trans (inner_lower ok t u named) (le_of_suc-le-suc h')))

  pub type_text_step : (t : ℕ) → type_text table t ≡ row_text (type_text table) (data_of table t)
  unfolding type_text text_within
  type_text_step t =
      text_same (λ u. text_within t table u) (λ u. text_within (suc u) table u) (data_of table t)
      (λ u named. text_within_same t (suc u) u (inner_lower ok t u named) (le_refl (suc u)))

-- ------------------------------------------------------------------ decimal numbers

tenth_lower : (n : ℕ) → ltb n 10 ≡ false → n / 10 < n
tenth_lower n e =
    let big : 10 ≤ n = nltb→le n 10 (subst (λ b. T (not b)) (sym e) tt) in
    div-lt_self (omega (arith, big)) (omega arith)

digits_same : (k k' n : ℕ) → n < k → n < k' → decimal_digits k n ≡ decimal_digits k' n
unfolding decimal_digits
digits_same zero k' n h h' = absurd (not-suc-le-zero h)
digits_same (suc k) zero n h h' = absurd (not-suc-le-zero h')
digits_same (suc k) (suc k') n h h' = go (λ m. digits_same k k' m) (ltb n 10) refl
  where
    go : ((m : ℕ) → m < k → m < k' → decimal_digits k m ≡ decimal_digits k' m) → (b : Bool) → ltb n 10 ≡ b
        → ◌≡◌ {A = List ℕ}
        (elim b [ true ↦ (48 + n) ∷ [] | false ↦ decimal_digits k (n / 10) ++ ((48 + n % 10) ∷ []) ])
        (elim b [ true ↦ (48 + n) ∷ [] | false ↦ decimal_digits k' (n / 10) ++ ((48 + n % 10) ∷ []) ])
    go rest true e = refl
    go rest false e =
        ap (λ (l : List ℕ). l ++ ((48 + n % 10) ∷ []))
        (rest (n / 10) (le_trans (tenth_lower n e) (le_of_suc-le-suc h)) (le_trans (tenth_lower n e) (le_of_suc-le-suc h')))

-- one digit, or the digits of the tenth and the last one
pub decimal_step : (n : ℕ) → decimal n ≡ (if ltb n 10 then (48 + n) ∷ [] else decimal (n / 10) ++ ((48 + n % 10) ∷ []))
unfolding decimal decimal_digits
decimal_step n = go (ltb n 10) refl
  where
    go : (b : Bool) → ltb n 10 ≡ b
        → ◌≡◌ {A = List ℕ}
        (elim b [ true ↦ (48 + n) ∷ [] | false ↦ decimal_digits n (n / 10) ++ ((48 + n % 10) ∷ []) ])
        (if b then (48 + n) ∷ [] else decimal_digits (suc (n / 10)) (n / 10) ++ ((48 + n % 10) ∷ []))
    go true e = refl
    go false e =
        ap (λ (l : List ℕ). l ++ ((48 + n % 10) ∷ [])) (digits_same n (suc (n / 10)) (n / 10) (tenth_lower n e) (le_refl (suc (n / 10))))
