-- The first table is as it should be, and entering a row keeps a table so. Assumes nothing.
use Prim.Native.Nat.{ℕ, zero, suc, ◌+◌, ◌<◌}
use native.Mathlib.Nat.{le_trans, le_of_lt}
use native.Mathlib.Omega.{arith}
use mathlib.Core.Path.{◌≡◌, refl, sym, ◌∙◌, ap, subst}
use mathlib.Core.Bool.{Bool, true, false}
use mathlib.Core.List.Memᴰ
use mathlib.Core.List.{[], ◌∷◌, ◌++◌, append_assoc, append-nil, Memᴰ}
use Rattle.std.specs.Prelude.{Option, None, Some}
use mathlib.Core.Logic.{⊎_elim}
use lib.Dec.{T, leb, ltb, leb→le, ltb→lt, lit≤}
use Rattle.std.specs.Prelude.{slice_get}
use lib.ListN.{length, length-append, get_or}
use Rattle.std.specs.Prelude.{if◌then◌else◌}
use Rattle.model.specs.Common.{let_some}
use Rattle.model.proofs.Tests.{and_left, and_right, none≢some, some-injective}
use Rattle.model.proofs.Places.{getElem_below, getElem_snoc, getD_cases}
use Rattle.resolution.specs.TypeData.{TypeData}
use Rattle.resolution.specs.Types.{Table, kind_number, first_table, find_type, has_room, row_items, table_items, max_types, max_type_items, data_of}
use Rattle.resolution.specs.Run.{answered, refused, enter_type}
use Rattle.resolution.specs.TableOk.{row_types, TableOk, Extends, Below, OutcomeOk}
use Rattle.resolution.proofs.Rows.{find_type_some, find_type_none}

-- ------------------------------------------------------------------ later tables

pub extends_refl : (table : Table) → Extends table table
extends_refl table = record { more = []; is_more = sym (append-nil table) }

pub extends_trans : {a b c : Table} → Extends a b → Extends b c → Extends a c
extends_trans {a} x y =
    record { more = x.more ++ y.more; is_more = y.is_more ∙ ap (λ (l : Table). l ++ y.more) x.is_more ∙ append_assoc a x.more y.more }

pub extends_below : {table after : Table} → Extends table after → (t : ℕ) → Below table t → Below after t
extends_below {table} x t h =
    subst (λ (l : Table). t < length l) (sym x.is_more) (omega (arith, h, length-append table x.more))

-- ------------------------------------------------------------------ the types of the first table

pub base_below : {table : Table} → TableOk table → (t : ℕ) → t < 6 → Below table t
unfolding first_table
base_below ok t h =
    let more = ok.start.more in
    let e = ok.start.is_more in
    subst (λ (l : Table). t < length l) (sym e) (omega (arith, h))

-- a type inside a row of the table is a type of the table
pub inner_below : {table : Table} → TableOk table → (t u : ℕ) → Memᴰ u (row_types (data_of table t)) → Below table u
unfolding data_of row_types
inner_below {table} ok t u named =
    ⊎_elim
    (λ e. le_trans (ok.lower t u (get_or table t TypeData.Error) e named) (le_of_lt (getElem_below table t e)))
    (λ e. absurd (Memᴰ.not-nil (subst (λ row. Memᴰ u (row_types row)) e named)))
    (getD_cases table t TypeData.Error)

-- a row of the first table stands at the number of its kind, and has no type inside
first_row : (k : ℕ) (row : TypeData) → slice_get first_table k ≡ Some row → (kind_number row ≡ k) × (row_types row ≡ [])
unfolding first_table kind_number row_types
first_row zero row e = subst (λ r. (kind_number r ≡ 0) × (row_types r ≡ [])) (some-injective e) (refl, refl)
first_row (suc zero) row e = subst (λ r. (kind_number r ≡ 1) × (row_types r ≡ [])) (some-injective e) (refl, refl)
first_row (suc (suc zero)) row e = subst (λ r. (kind_number r ≡ 2) × (row_types r ≡ [])) (some-injective e) (refl, refl)
first_row (suc (suc (suc zero))) row e = subst (λ r. (kind_number r ≡ 3) × (row_types r ≡ [])) (some-injective e) (refl, refl)
first_row (suc (suc (suc (suc zero)))) row e = subst (λ r. (kind_number r ≡ 4) × (row_types r ≡ [])) (some-injective e) (refl, refl)
first_row (suc (suc (suc (suc (suc zero))))) row e = subst (λ r. (kind_number r ≡ 5) × (row_types r ≡ [])) (some-injective e) (refl, refl)
first_row (suc (suc (suc (suc (suc (suc k)))))) row e = absurd (none≢some e)

pub first_table_ok : TableOk first_table
unfolding first_table table_items row_items
first_table_ok =
    record {
      start = extends_refl first_table;
      lower = λ k t row e named. absurd (Memᴰ.not-nil (subst (λ ts. Memᴰ t ts) (first_row k row e).1 named));
      one_number = λ j k row e e'. sym (first_row j row e).0 ∙ (first_row k row e').0;
      few_types = lit≤ tt;
      few_items = lit≤ tt;
    }

-- ------------------------------------------------------------------ entering a row

items_append : (table : Table) (row : TypeData) → table_items (table ++ (row ∷ [])) ≡ table_items table + row_items row
unfolding table_items
items_append [] row = omega arith
items_append (first ∷ rest) row = omega (arith, items_append rest row)

module _ (table : Table) (row : TypeData) (ok : TableOk table) (inner : (t : ℕ) → Memᴰ t (row_types row) → Below table t) where
  longer : Extends table (table ++ (row ∷ []))
  longer = record { more = row ∷ []; is_more = refl }

  new_ok : find_type table row ≡ None → has_room table row ≡ true → TableOk (table ++ (row ∷ []))
  unfolding has_room
  new_ok is_new room =
      record {
        start = extends_trans ok.start (record { more = row ∷ []; is_more = refl });
        lower =
            λ k t r e named.
            ⊎_elim
            (λ old. ok.lower k t r old named)
            (λ is_last. subst (λ n. t < n) (sym is_last.0) (inner t (subst (λ x. Memᴰ t (row_types x)) (sym is_last.1) named)))
            (getElem_snoc table row r k e);
        one_number =
            λ j k r e e'.
            ⊎_elim
            (λ old_j.
            ⊎_elim
            (λ old_k. ok.one_number j k r old_j old_k)
            (λ last_k. absurd (find_type_none table row is_new j (old_j ∙ ap Some (sym last_k.1))))
            (getElem_snoc table row r k e'))
            (λ last_j.
            ⊎_elim
            (λ old_k. absurd (find_type_none table row is_new k (old_k ∙ ap Some (sym last_j.1))))
            (λ last_k. last_j.0 ∙ sym last_k.0)
            (getElem_snoc table row r k e'))
            (getElem_snoc table row r j e);
        few_types =
            omega (
              arith,
              length-append table (row ∷ []),
              ltb→lt (length table) max_types (subst T (sym (and_left (ltb (length table) max_types) (leb (table_items table + row_items row) max_type_items) room)) tt),
            );
        few_items =
            omega (
              arith,
              items_append table row,
              leb→le (table_items table + row_items row) max_type_items
                  (subst T (sym (and_right (ltb (length table) max_types) (leb (table_items table + row_items row) max_type_items) room)) tt),
            );
      }

  pub enter_ok : OutcomeOk Below table (enter_type row table)
  unfolding enter_type
  enter_ok = go (find_type table row) refl
    where
      room_case : find_type table row ≡ None → (b : Bool) → has_room table row ≡ b
          → OutcomeOk Below table (if b then answered (length table) (table ++ (row ∷ [])) else refused 9)
      room_case is_new true room = (new_ok is_new room, longer, omega (arith, length-append table (row ∷ [])))
      room_case is_new false room = (lit≤ tt, lit≤ tt)

      go : (o : Option ℕ) → find_type table row ≡ o
          → OutcomeOk Below table (let_some o (if has_room table row then answered (length table) (table ++ (row ∷ [])) else refused 9) (λ t. answered t table))
      go None e = room_case e (has_room table row) refl
      go (Some t) e = (ok, extends_refl table, getElem_below table t (find_type_some table row t e))
