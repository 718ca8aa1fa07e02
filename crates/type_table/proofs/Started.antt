-- The words of a cleared and of a started buffer. Assumes nothing.
use Prim.Native.Nat.{ℕ, zero, suc, ◌+◌, ◌*◌, ◌-◌, ◌≤◌, ◌<◌, min}
use mathlib.Core.Path.{◌≡◌, refl, sym, ap, ap₂, ◌∙◌}
use mathlib.Core.Bool.{Bool, true, false}
use mathlib.Core.List.{List, [], ◌++◌}
use native.Mathlib.Nat.{not-suc-le-zero, le_of_lt}
use native.Mathlib.Omega.{arith}
use borrow.Author.Tests.{leb-true, leb-false}
use lib.Dec.{leb, eqb}
use lib.ListN.{length, set, drop, replicate, length-append, length-drop, length-replicate, length-set, get_or-replicate, drop_of_length-le, get_or-append}
use lib.Seq.{drop_at, drop-set-lt}
use Rattle.resolution.specs.Types.{first_table, row_names, row_items, table_items}
use Rattle.records.specs.Layout.{word}
use Rattle.resolution.specs.TableOk.{row_types}
use Rattle.type_table.specs.Layout.{part, head_at, start_at, names_at, items_at, names_by, data_by, data_from, row_at, rows_of, table_of, bare, head_of, items_of, Canonical, SoundRow, Sound}
use Rattle.type_table.specs.Promises.{cleared, started}
use Rattle.type_table.proofs.Parts.{set_here, set_there}

pub filled_is : (w : List ℕ) (i : ℕ) → i ≡ min 8192 (length w) → replicate i 0 ++ drop i w ≡ cleared w
unfolding cleared
filled_is w i e = ap (λ n. replicate n 0 ++ drop i w) e ∙ ap (λ l. replicate (min 8192 (length w)) 0 ++ l) (go (leb 8192 (length w)) refl)
  where
    go : (b : Bool) → leb 8192 (length w) ≡ b → drop i w ≡ drop 8192 w
    go true t =
        let same : i ≡ 8192 = omega (arith, leb-true 8192 (length w) t) in
        ap (λ n. drop n w) same
    go false t =
        let past : length w ≤ i = omega (arith, leb-false 8192 (length w) t) in
        drop_of_length-le w past
        ∙ sym (drop_of_length-le w (le_of_lt (leb-false 8192 (length w) t)))

-- the stores of starting, one after the other
abbrev first : List ℕ → List ℕ
first w = set (cleared w) 0 6

abbrev second : List ℕ → List ℕ
second w = set (first w) 10 1

abbrev third : List ℕ → List ℕ
third w = set (second w) 18 2

abbrev fourth : List ℕ → List ℕ
fourth w = set (third w) 26 3

abbrev fifth : List ℕ → List ℕ
fifth w = set (fourth w) 34 4

module _ (w : List ℕ) (long : 8192 ≤ length w) where
  cleared_long : cleared w ≡ replicate 8192 0 ++ drop 8192 w
  unfolding cleared
  cleared_long =
      let same : min 8192 (length w) ≡ 8192 = omega arith in
      ap (λ n. replicate n 0 ++ drop 8192 w) same

  pub length_cleared : length (cleared w) ≡ length w
  length_cleared =
      ap length cleared_long ∙ length-append (replicate 8192 0) (drop 8192 w)
      ∙ ap₂ (λ x y. x + y) (length-replicate {A = ℕ} 8192 0) (length-drop 8192 w) ∙ whole (length w) long
    where
      whole : (n : ℕ) → 8192 ≤ n → 8192 + (n - 8192) ≡ n
      whole n h = omega arith

  cleared_zero : (j : ℕ) → j < 8192 → word (cleared w) j ≡ 0
  cleared_zero j below =
      ap (λ l. word l j) cleared_long
      ∙ get_or-append (replicate 8192 0) (drop 8192 w) 0 j (rw length-replicate below)
      ∙ get_or-replicate 8192 j 0 0 below

  cleared_rest : drop 8192 (cleared w) ≡ drop 8192 w
  cleared_rest = ap (drop 8192) cleared_long ∙ drop_at (replicate 8192 0) (drop 8192 w) 8192 (length-replicate {A = ℕ} 8192 0)

  pub started_rest : drop 8192 (started w) ≡ drop 8192 w
  unfolding started
  started_rest =
      drop-set-lt 8192 (fifth w) 42 5 (omega arith) ∙ drop-set-lt 8192 (fourth w) 34 4 (omega arith) ∙ drop-set-lt 8192 (third w) 26 3 (omega arith)
      ∙ drop-set-lt 8192 (second w) 18 2 (omega arith) ∙ drop-set-lt 8192 (first w) 10 1 (omega arith) ∙ drop-set-lt 8192 (cleared w) 0 6 (omega arith) ∙ cleared_rest

  pub length_started : length (started w) ≡ length w
  unfolding started
  length_started = simp length-set length_cleared

  -- all other words are zero
  started_zero : (j : ℕ) → j < 8192 → (j ≡ 0 → ⊥) → (j ≡ 10 → ⊥) → (j ≡ 18 → ⊥) → (j ≡ 26 → ⊥) → (j ≡ 34 → ⊥) → (j ≡ 42 → ⊥) → word (started w) j ≡ 0
  unfolding started
  started_zero j below n0 n1 n2 n3 n4 n5 =
      set_there (fifth w) 42 j 5 n5 ∙ set_there (fourth w) 34 j 4 n4 ∙ set_there (third w) 26 j 3 n3 ∙ set_there (second w) 18 j 2 n2 ∙ set_there (first w) 10 j 1 n1 ∙ set_there (cleared w) 0 j 6 n0
      ∙ cleared_zero j below

  pub started_count : word (started w) 0 ≡ 6
  unfolding started
  started_count =
      set_there (fifth w) 42 0 5 (λ e. omega arith) ∙ set_there (fourth w) 34 0 4 (λ e. omega arith) ∙ set_there (third w) 26 0 3 (λ e. omega arith)
      ∙ set_there (second w) 18 0 2 (λ e. omega arith) ∙ set_there (first w) 10 0 1 (λ e. omega arith) ∙ set_here (cleared w) 0 6 (omega (arith, length_cleared))

  pub started_items : word (started w) 1 ≡ 0
  started_items = started_zero 1 (omega arith) (λ e. omega arith) (λ e. omega arith) (λ e. omega arith) (λ e. omega arith) (λ e. omega arith) (λ e. omega arith)

  -- a word of a row, but for its kind
  started_plain : (t k : ℕ) → t < 6 → 2 < k → k < 10 → word (started w) (8 * t + k) ≡ 0
  started_plain t k below low high =
      started_zero (8 * t + k) (omega arith) (λ e. omega arith) (λ e. omega arith) (λ e. omega arith) (λ e. omega arith) (λ e. omega arith) (λ e. omega arith)

  started_kind : (t : ℕ) → t < 6 → word (started w) (8 * t + 2) ≡ t
  unfolding started
  started_kind zero below = started_zero 2 (omega arith) (λ e. omega arith) (λ e. omega arith) (λ e. omega arith) (λ e. omega arith) (λ e. omega arith) (λ e. omega arith)
  started_kind (suc zero) below =
      set_there (fifth w) 42 10 5 (λ e. omega arith) ∙ set_there (fourth w) 34 10 4 (λ e. omega arith) ∙ set_there (third w) 26 10 3 (λ e. omega arith)
      ∙ set_there (second w) 18 10 2 (λ e. omega arith) ∙ set_here (first w) 10 1 (simp length-set (omega (arith, length_cleared)))
  started_kind (suc (suc zero)) below =
      set_there (fifth w) 42 18 5 (λ e. omega arith) ∙ set_there (fourth w) 34 18 4 (λ e. omega arith) ∙ set_there (third w) 26 18 3 (λ e. omega arith)
      ∙ set_here (second w) 18 2 (simp length-set (omega (arith, length_cleared)))
  started_kind (suc (suc (suc zero))) below =
      set_there (fifth w) 42 26 5 (λ e. omega arith) ∙ set_there (fourth w) 34 26 4 (λ e. omega arith)
      ∙ set_here (third w) 26 3 (simp length-set (omega (arith, length_cleared)))
  started_kind (suc (suc (suc (suc zero)))) below =
      set_there (fifth w) 42 34 5 (λ e. omega arith)
      ∙ set_here (fourth w) 34 4 (simp length-set (omega (arith, length_cleared)))
  started_kind (suc (suc (suc (suc (suc zero))))) below =
      set_here (fifth w) 42 5 (simp length-set (omega (arith, length_cleared)))
  started_kind (suc (suc (suc (suc (suc (suc t)))))) below = absurd (omega arith)

  started_head : (t : ℕ) → t < 6 → head_at (started w) t ≡ bare t
  unfolding head_at
  started_head t below = λ d. record {
    kind = started_kind t below d;
    home = started_plain t 3 below (omega arith) (omega arith) d;
    definition = started_plain t 4 below (omega arith) (omega arith) d;
    element = started_plain t 5 below (omega arith) (omega arith) d;
    size = ap₂ (λ x y. x + 4294967296 * y) (started_plain t 6 below (omega arith) (omega arith)) (started_plain t 7 below (omega arith) (omega arith)) d;
  }

  started_list : (t : ℕ) → t < 6 → items_at (started w) t ≡ []
  started_list t below = ap (λ n. part (started w) (2050 + start_at (started w) t) n) (started_plain t 9 below (omega arith) (omega arith))

  started_names : (t : ℕ) → t < 6 → names_at (started w) t ≡ []
  unfolding names_by
  started_names t below =
      ap (λ n. names_by (eqb (word (started w) (8 * t + 2)) 8) (started w) (start_at (started w) t) n) (started_plain t 9 below (omega arith) (omega arith))
      ∙ none (eqb (word (started w) (8 * t + 2)) 8)
    where
      none : (b : Bool) → names_by b (started w) (start_at (started w) t) 0 ≡ []
      none true = refl
      none false = refl

  module _ (file : List ℕ) where
    started_row : (t : ℕ) → t < 6 → row_at file (started w) t ≡ data_from file (bare t) [] []
    unfolding row_at
    started_row t below =
        ap (λ h. data_from file h (names_at (started w) t) (items_at (started w) t)) (started_head t below)
        ∙ ap₂ (λ x y. data_from file (bare t) x y) (started_names t below) (started_list t below)

    pub started_table : table_of file (started w) ≡ first_table
    unfolding table_of rows_of first_table data_from data_by
    started_table =
        ap (rows_of file (started w)) started_count
        ∙ simp (started_row 0 (omega arith), started_row 1 (omega arith), started_row 2 (omega arith), started_row 3 (omega arith), started_row 4 (omega arith), started_row 5 (omega arith))

    bare_canonical : (t : ℕ) → t < 6 → Canonical file (bare t) [] []
    unfolding data_from data_by head_of items_of row_names
    bare_canonical zero below = record { same_head = refl; same_items = refl; same_names = refl }
    bare_canonical (suc zero) below = record { same_head = refl; same_items = refl; same_names = refl }
    bare_canonical (suc (suc zero)) below = record { same_head = refl; same_items = refl; same_names = refl }
    bare_canonical (suc (suc (suc zero))) below = record { same_head = refl; same_items = refl; same_names = refl }
    bare_canonical (suc (suc (suc (suc zero)))) below = record { same_head = refl; same_items = refl; same_names = refl }
    bare_canonical (suc (suc (suc (suc (suc zero))))) below = record { same_head = refl; same_items = refl; same_names = refl }
    bare_canonical (suc (suc (suc (suc (suc (suc t)))))) below = absurd (omega arith)

    bare_inner : (t : ℕ) → t < 6 → row_types (data_from file (bare t) [] []) ≡ []
    unfolding data_from data_by row_types
    bare_inner zero below = refl
    bare_inner (suc zero) below = refl
    bare_inner (suc (suc zero)) below = refl
    bare_inner (suc (suc (suc zero))) below = refl
    bare_inner (suc (suc (suc (suc zero)))) below = refl
    bare_inner (suc (suc (suc (suc (suc zero))))) below = refl
    bare_inner (suc (suc (suc (suc (suc (suc t)))))) below = absurd (omega arith)

    started_sound_row : (t : ℕ) → t < 6 → SoundRow file (started w) t
    started_sound_row t below = record {
      within = omega (arith, started_plain t 8 below (omega arith) (omega arith), started_plain t 9 below (omega arith) (omega arith));
      canonical =
          rw (started_head t below, started_names t below, started_list t below) (bare_canonical t below);
      below = rw (started_row t below, bare_inner t below) (λ i past. absurd (not-suc-le-zero past));
    }

    no_items : table_items first_table ≡ 0
    unfolding first_table table_items row_items
    no_items = refl

    pub started_sound : Sound file (started w)
    started_sound = record {
      long = omega (arith, length_started);
      first = omega (arith, started_count);
      types = omega (arith, started_count);
      room = omega (arith, started_items);
      held = started_items ∙ sym (ap table_items started_table ∙ no_items);
      rows = λ t below. started_sound_row t (omega (arith, started_count));
    }
