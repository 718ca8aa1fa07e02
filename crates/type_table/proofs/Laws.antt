-- What a caller wants to know beside the promises: numbers below the count of types, and that interning keeps a table as it should be. Assumes nothing.
use Prim.Native.Nat.{ℕ, zero, suc, ◌<◌, zero-le, suc-le-suc}
use mathlib.Core.Path.{◌≡◌, refl, sym, ap, subst, subst⁻¹, ◌∙◌}
use mathlib.Core.Bool.{Bool, true, false}
use mathlib.Core.List.Memᴰ
use mathlib.Core.List.{List, [], ◌∷◌, ◌++◌, Memᴰ}
use Rattle.std.specs.Prelude.{Option, None, Some, Result, Ok, Err}
use native.Mathlib.Nat.{not-suc-le-zero, le_of_suc-le-suc}
use native.Mathlib.Omega.{arith}
use lib.ListN.{length}
use lib.Seq.{get_or_at}
use borrow.Author.Tests.{leb-true, leb-false}
use lib.Dec.{leb}
use Rattle.refusals.specs.declared.Refusal.{Refusal}
use Rattle.resolution.specs.TypeData.{TypeData}
use Rattle.resolution.specs.Types.{Table, data_of, find_type, has_room}
use Rattle.resolution.specs.Run.{answered, refused}
use Rattle.resolution.specs.TableOk.{row_types, TableOk, Below, OutcomeOk}
use Rattle.resolution.proofs.RunLaws.{enter_found, enter_new, enter_no_room}
use Rattle.resolution.proofs.Tables.{enter_ok}
use Rattle.type_table.specs.Layout.{type_count, table_of, AllBelow, Sound}
use Rattle.type_table.specs.Promises.{Interns, outcome_of}
use Rattle.type_table.proofs.Rows.{data_below, data_past}

-- ------------------------------------------------------------------ lists of numbers that are below

pub member_below : (n : ℕ) (l : List ℕ) → AllBelow n l → (u : ℕ) → Memᴰ u l → u < n
member_below n [] all u named = absurd (Memᴰ.not-nil named)
member_below n (x ∷ l) all u (Memᴰ.head e) = subst (λ y. y < n) (sym e) (all zero (suc-le-suc zero-le))
member_below n (x ∷ l) all u (Memᴰ.tail named) = member_below n l (λ i past. all (suc i) (suc-le-suc past)) u named

pub below_members : (n : ℕ) (l : List ℕ) → ((u : ℕ) → Memᴰ u l → u < n) → AllBelow n l
below_members n [] all i past = absurd (not-suc-le-zero past)
below_members n (x ∷ l) all zero past = all x (Memᴰ.head refl)
below_members n (x ∷ l) all (suc i) past = below_members n l (λ u named. all u (Memᴰ.tail named)) i (le_of_suc-le-suc past)

-- ------------------------------------------------------------------ types inside a type

nothing : (n : ℕ) → AllBelow n (row_types TypeData.Error)
unfolding row_types
nothing n i past = absurd (not-suc-le-zero past)

-- a type inside another has a lower number
pub lower : (file w : List ℕ) → Sound file w → (t : ℕ) → AllBelow t (row_types (data_of (table_of file w) t))
lower file w sound t = go (leb (type_count w) t) refl
  where
    go : (b : Bool) → leb (type_count w) t ≡ b → AllBelow t (row_types (data_of (table_of file w) t))
    go true e = subst⁻¹ (λ r. AllBelow t (row_types r)) (data_past file w t (leb-true _ _ e)) (nothing t)
    go false e = subst⁻¹ (λ r. AllBelow t (row_types r)) (data_below file w t (leb-false _ _ e)) (sound.rows t (leb-false _ _ e)).below

-- ------------------------------------------------------------------ interning keeps the table as it should be

last_data : (table : Table) (row : TypeData) (t : ℕ) → length table ≡ t → data_of (table ++ (row ∷ [])) t ≡ row
unfolding data_of
last_data table row t e = get_or_at table row [] TypeData.Error t e

module _ {file : List ℕ} {row : TypeData} {w w' : List ℕ} {r : Result ℕ Refusal} (i : Interns file row w w' r) (ok : TableOk (table_of file w)) where
  -- a row that has entered has types below its number inside
  entered_inner : table_of file w' ≡ table_of file w ++ (row ∷ []) → (u : ℕ) → Memᴰ u (row_types row) → Below (table_of file w) u
  entered_inner e u named =
      member_below (length (table_of file w)) (row_types row)
      (subst (λ x. AllBelow (length (table_of file w)) (row_types x))
      (ap (λ (l : Table). data_of l (length (table_of file w))) e ∙ last_data (table_of file w) row (length (table_of file w)) refl)
      (lower file w' i.sound (length (table_of file w)))) u named

  by_outcome : (r' : Result ℕ Refusal) → r ≡ r' → (t : ℕ) (table' : Table) → outcome_of file r' w' ≡ answered t table' → table_of file w' ≡ table'
  by_outcome (Ok t') same t table' e = cc
  by_outcome (Err refusal) same t table' e = let z : ◌≡◌ {A = ℕ} 0 1 = cc in absurd (omega arith)

  by_refusal : (r' : Result ℕ Refusal) → r ≡ r' → (n : ℕ) → outcome_of file r' w' ≡ refused n → w' ≡ w
  by_refusal (Ok t) same n e = let z : ◌≡◌ {A = ℕ} 0 1 = cc in absurd (omega arith)
  by_refusal (Err refusal) same n e = i.kept refusal same

  pub interned_ok : TableOk (table_of file w')
  interned_ok = go (find_type (table_of file w) row) refl (has_room (table_of file w) row) refl
    where
      go : (o : Option ℕ) → find_type (table_of file w) row ≡ o → (b : Bool) → has_room (table_of file w) row ≡ b → TableOk (table_of file w')
      go (Some t) found b room =
          subst⁻¹ TableOk (by_outcome r refl t (table_of file w) (i.outcome ∙ enter_found row (table_of file w) t found)) ok
      go None found true room =
          let new = enter_new row (table_of file w) found room in
          let same = by_outcome r refl (length (table_of file w)) (table_of file w ++ (row ∷ [])) (i.outcome ∙ new) in
          subst⁻¹ TableOk same (subst (OutcomeOk Below (table_of file w)) new (enter_ok (table_of file w) row ok (entered_inner same))).0
      go None found false room =
          subst⁻¹ (λ x. TableOk (table_of file x)) (by_refusal r refl 9 (i.outcome ∙ enter_no_room row (table_of file w) found room)) ok

-- a bound on all elements, of the first and of those behind it
pub below_first : {n x : ℕ} (l : List ℕ) {m : List ℕ} → m ≡ (x ∷ l) → AllBelow n m → x < n
below_first {n} l is all = subst (AllBelow n) is all 0 (suc-le-suc zero-le)

pub below_rest : {n x : ℕ} (l : List ℕ) {m : List ℕ} → m ≡ (x ∷ l) → AllBelow n m → AllBelow n l
below_rest {n} l is all = λ i past. subst (AllBelow n) is all (suc i) (suc-le-suc past)
