-- One row more: the words, the table and its soundness after it; and when a row enters. Assumes nothing.
use Prim.Native.Nat.{ℕ, zero, suc, ◌+◌, ◌*◌, ◌-◌, ◌/◌, ◌%◌, ◌≤◌, ◌<◌}
use mathlib.Core.Path.{◌≡◌, refl, sym, ap, ap₂, subst, ◌∙◌}
use mathlib.Core.Logic.{⊎_elim, ◌⊎◌, inl, inr}
use mathlib.Core.Bool.{Bool, true, false, ◌&&◌}
use mathlib.Core.List.{List, [], ◌∷◌, ◌++◌, map}
use Rattle.std.specs.Prelude.{None, Some}
use native.Mathlib.Nat.{eq-or-lt_of_le, le_refl, le_of_lt}
use native.Mathlib.Numerals.{add-one}
use native.Mathlib.Omega.{arith}
use borrow.Author.Tests.{ne_eqb, lt-ltb, le-ltb, le-leb, lt-leb}
use lib.Dec.{eqb, leb}
use lib.ListN.{length, set, drop, length-set, length-map, length-drop}
use lib.Seq.{ext_get_or, get_or-drop}
use Rattle.resolution.specs.TypeData.{TypeData}
use Rattle.resolution.specs.Types.{row_names, row_items, table_items, has_room, find_type}
use Rattle.model.proofs.Places.{getElem_below}
use Rattle.resolution.proofs.Rows.{find_type_some}
use Rattle.resolution.proofs.RunLaws.{enter_new, enter_no_room}
use Rattle.resolution.specs.Run.{answered, refused, enter_type}
use Rattle.type_table.specs.declared.Head.{Head}
use Rattle.records.specs.Layout.{word, name_by}
use Rattle.resolution.specs.TableOk.{row_types}
use Rattle.type_table.specs.Layout.{part, fields_of, head_at, start_at, count_at, names_at, items_at, names_by, names_from, data_by, data_from, row_at, rows_of, table_of, type_count, item_count, items_of, AllBelow, Canonical, SoundRow, Sound}
use Rattle.type_table.specs.Promises.{Copied, Added}
use Rattle.type_table.proofs.Parts.{part_same, part_is, set_here, set_there}
use Rattle.type_table.proofs.Rows.{length_table, row_items_are, items_appended}

-- ------------------------------------------------------------------ the words that are written

abbrev pub row_words : Head → ℕ → ℕ → List ℕ
row_words head held count =
    head.kind ∷ head.home ∷ head.definition ∷ head.element ∷ head.size % 4294967296 ∷ head.size / 4294967296 ∷ held ∷ count ∷ []

module _
    (head : Head)
    (names items w w₁ w₂ w₃ : List ℕ)
    (long : 8192 ≤ length w)
    (types : type_count w < 256)
    (room : item_count w + length items ≤ 2048)
    (few : length names ≤ length items)
    (one : Copied (8 * type_count w + 2) (row_words head (item_count w) (length items)) w w₁)
    (two : Copied (2050 + item_count w) items w₁ w₂)
    (three : Copied (4098 + item_count w) names w₂ w₃)
  where
    abbrev last : List ℕ
    last = set (set w₃ 0 (type_count w + 1)) 1 (item_count w + length items)

    from_third : (j : ℕ) → 2 ≤ j → word last j ≡ word w₃ j
    from_third j low = set_there (set w₃ 0 (type_count w + 1)) 1 j (item_count w + length items) (λ e. omega arith) ∙ set_there w₃ 0 j (type_count w + 1) (λ e. omega arith)

    from_second : (j : ℕ) → 2 ≤ j → j < 4098 + item_count w → word last j ≡ word w₂ j
    from_second j low high = from_third j low ∙ three.before j high

    from_first : (j : ℕ) → 2 ≤ j → j < 2050 + item_count w → word last j ≡ word w₁ j
    from_first j low high = from_second j low (omega arith) ∙ two.before j high

    in_row : (j k : ℕ) → k < 8 → j ≡ 8 * type_count w + 2 + k → word last j ≡ word (row_words head (item_count w) (length items)) k
    in_row j k below e = from_first j (omega arith) (omega arith) ∙ ap (word w₁) e ∙ one.inside k below

    long_third : length w₃ ≡ length w
    long_third = three.same_length ∙ two.same_length ∙ one.same_length

    long_last : length last ≡ length w
    long_last = length-set (set w₃ 0 (type_count w + 1)) 1 (item_count w + length items) ∙ length-set w₃ 0 (type_count w + 1) ∙ long_third

    whole_size : (n : ℕ) → n % 4294967296 + 4294967296 * (n / 4294967296) ≡ n
    whole_size n = omega arith

    last_head : head_at last (type_count w) ≡ head
    unfolding head_at
    last_head = λ d. record {
      kind = in_row (8 * type_count w + 2) 0 (omega arith) (omega arith) d;
      home = in_row (8 * type_count w + 3) 1 (omega arith) (omega arith) d;
      definition = in_row (8 * type_count w + 4) 2 (omega arith) (omega arith) d;
      element = in_row (8 * type_count w + 5) 3 (omega arith) (omega arith) d;
      size =
          (ap₂ (λ x y. x + 4294967296 * y) (in_row (8 * type_count w + 6) 4 (omega arith) (omega arith)) (in_row (8 * type_count w + 7) 5 (omega arith) (omega arith))
          ∙ whole_size head.size) d;
    }

    below_long : (n : ℕ) → n ≤ 8192 → n ≤ length last
    below_long n small = omega (arith, long_last)

    pub added : Added head names items w last
    added = record {
      same_length = long_last;
      counted = set_there (set w₃ 0 (type_count w + 1)) 1 0 (item_count w + length items) (λ e. omega arith) ∙ set_here w₃ 0 (type_count w + 1) (omega (arith, long_third));
      filled = set_here (set w₃ 0 (type_count w + 1)) 1 (item_count w + length items) (simp length-set (omega (arith, long_third)));
      heads = last_head;
      starts = in_row (8 * type_count w + 8) 6 (omega arith) (omega arith);
      counts = in_row (8 * type_count w + 9) 7 (omega arith) (omega arith);
      types =
          part_is last items (2050 + item_count w) (below_long _ (omega arith))
          (λ j below. from_second (2050 + item_count w + j) (omega arith) (omega arith) ∙ two.inside j below);
      labels =
          part_is last names (4098 + item_count w) (below_long _ (omega arith))
          (λ j below. from_third (4098 + item_count w + j) (omega arith) ∙ three.inside j below);
      rows_kept = λ j low high. from_first j low (omega arith) ∙ one.before j high;
      items_kept = λ j low high. from_first j (omega arith) high ∙ one.behind j (omega arith);
      names_kept = λ j low high. from_second j (omega arith) high ∙ two.behind j (omega arith) ∙ one.behind j (omega arith);
      rest_kept = λ j low. from_third j (omega arith) ∙ three.behind j (omega arith) ∙ two.behind j (omega arith) ∙ one.behind j (omega arith);
    }

-- ------------------------------------------------------------------ names of a canonical head

map_none : {A B : Type 0} (f : A → B) (l : List A) → map f l ≡ [] → l ≡ []
map_none f [] e = refl
map_none f (x ∷ l) e = let z : ◌≡◌ {A = ℕ} 0 1 = cc in absurd (omega arith)

-- a struct has a name for each item, any other type has none
named : (file : List ℕ) (k : ℕ) (head : Head) (names items : List ℕ)
    → items ≡ items_of (data_by file k head names items) → map (name_by file) names ≡ row_names (data_by file k head names items)
    → ((eqb k 8 ≡ false) × (names ≡ [])) ⊎ ((eqb k 8 ≡ true) × (length names ≡ length items))
unfolding data_by items_of row_names
named file zero head names items ei en = inl (refl, map_none _ names en)
named file (suc zero) head names items ei en = inl (refl, map_none _ names en)
named file (suc (suc zero)) head names items ei en = inl (refl, map_none _ names en)
named file (suc (suc (suc zero))) head names items ei en = inl (refl, map_none _ names en)
named file (suc (suc (suc (suc zero)))) head names items ei en = inl (refl, map_none _ names en)
named file (suc (suc (suc (suc (suc zero))))) head names items ei en = inl (refl, map_none _ names en)
named file (suc (suc (suc (suc (suc (suc zero)))))) head names items ei en = inl (refl, map_none _ names en)
named file (suc (suc (suc (suc (suc (suc (suc zero))))))) head names items ei en = inl (refl, map_none _ names en)
named file (suc (suc (suc (suc (suc (suc (suc (suc zero)))))))) head names items ei en =
    inr (
      refl,
      sym (length-map names (name_by file)) ∙ ap length en ∙ length-map (fields_of file names items) (λ field. field.name)
          ∙ sym (ap length ei ∙ length-map (fields_of file names items) (λ field. field.type)),
    )
named file (suc (suc (suc (suc (suc (suc (suc (suc (suc zero))))))))) head names items ei en = inl (refl, map_none _ names en)
named file (suc (suc (suc (suc (suc (suc (suc (suc (suc (suc k)))))))))) head names items ei en =
    inl (ne_eqb (suc (suc (suc (suc (suc (suc (suc (suc (suc (suc k)))))))))) 8 (λ e. omega arith), map_none _ names en)

module _ (file : List ℕ) (head : Head) (names items : List ℕ) (canonical : Canonical file head names items) where
  named_head : ((eqb head.kind 8 ≡ false) × (names ≡ [])) ⊎ ((eqb head.kind 8 ≡ true) × (length names ≡ length items))
  unfolding data_from
  named_head = named file head.kind head names items canonical.same_items canonical.same_names

  pub names_few : length names ≤ length items
  names_few = ⊎_elim (λ h. omega (arith, ap length h.1)) (λ h. omega (arith, h.1)) named_head

  pub names_stored : (w : List ℕ) (start : ℕ) → names_from w start (length names) ≡ names → names_by (eqb head.kind 8) w start (length items) ≡ names
  unfolding names_by
  names_stored w start e =
      ⊎_elim
      (λ h. ap (λ b. names_by b w start (length items)) h.0 ∙ sym h.1)
      (λ h. ap (λ b. names_by b w start (length items)) h.0 ∙ ap (names_from w start) (sym h.1) ∙ e)
      named_head

  pub items_are : row_items (data_from file head names items) ≡ length items
  items_are = row_items_are (data_from file head names items) ∙ ap length (sym canonical.same_items)

canonical_along : (file : List ℕ) (h h' : Head) (ns ns' ts ts' : List ℕ) → h ≡ h' → ns ≡ ns' → ts ≡ ts' → Canonical file h ns ts → Canonical file h' ns' ts'
canonical_along file h h' ns ns' ts ts' eh en et c =
    subst (λ x. Canonical file x ns' ts') eh (subst (λ x. Canonical file h x ts') en (subst (λ x. Canonical file h ns x) et c))

-- ------------------------------------------------------------------ the table

module _
    (file : List ℕ)
    (head : Head)
    (names items w w' : List ℕ)
    (sound : Sound file w)
    (canonical : Canonical file head names items)
    (types : type_count w < 256)
    (room : item_count w + length items ≤ 2048)
    (grown : Added head names items w w')
  where
    word_kept : (t j : ℕ) → t < type_count w → j < 8 → word w' (8 * t + (j + 2)) ≡ word w (8 * t + (j + 2))
    word_kept t j below small = grown.rows_kept (8 * t + (j + 2)) (omega arith) (omega arith)

    head_kept : (t : ℕ) → t < type_count w → head_at w' t ≡ head_at w t
    unfolding head_at
    head_kept t below = λ d. record {
      kind = word_kept t 0 below (omega arith) d;
      home = word_kept t 1 below (omega arith) d;
      definition = word_kept t 2 below (omega arith) d;
      element = word_kept t 3 below (omega arith) d;
      size = ap₂ (λ x y. x + 4294967296 * y) (word_kept t 4 below (omega arith)) (word_kept t 5 below (omega arith)) d;
    }

    start_kept : (t : ℕ) → t < type_count w → start_at w' t ≡ start_at w t
    start_kept t below = word_kept t 6 below (omega arith)

    count_kept : (t : ℕ) → t < type_count w → count_at w' t ≡ count_at w t
    count_kept t below = word_kept t 7 below (omega arith)

    items_same : (t : ℕ) → t < type_count w → items_at w' t ≡ items_at w t
    items_same t below =
        ap₂ (λ s n. part w' (2050 + s) n) (start_kept t below) (count_kept t below)
        ∙ part_same w w' (2050 + start_at w t) (count_at w t) (omega (arith, sound.long, sound.room, (sound.rows t below).within)) grown.same_length
        (λ j low high. grown.items_kept j (omega arith) (omega (arith, (sound.rows t below).within)))

    names_same_by : (b : Bool) (t : ℕ) → t < type_count w → names_by b w' (start_at w t) (count_at w t) ≡ names_by b w (start_at w t) (count_at w t)
    unfolding names_by
    names_same_by true t below =
        part_same w w' (4098 + start_at w t) (count_at w t) (omega (arith, sound.long, sound.room, (sound.rows t below).within)) grown.same_length
        (λ j low high. grown.names_kept j (omega arith) (omega (arith, (sound.rows t below).within)))
    names_same_by false t below = refl

    names_same : (t : ℕ) → t < type_count w → names_at w' t ≡ names_at w t
    names_same t below =
        ap (λ k. names_by (eqb k 8) w' (start_at w' t) (count_at w' t)) (word_kept t 0 below (omega arith))
        ∙ ap₂ (λ s n. names_by (eqb (word w (8 * t + 2)) 8) w' s n) (start_kept t below) (count_kept t below)
        ∙ names_same_by (eqb (word w (8 * t + 2)) 8) t below

    row_same : (t : ℕ) → t < type_count w → row_at file w' t ≡ row_at file w t
    unfolding row_at
    row_same t below =
        ap (λ h. data_from file h (names_at w' t) (items_at w' t)) (head_kept t below)
        ∙ ap₂ (λ x y. data_from file (head_at w t) x y) (names_same t below) (items_same t below)

    rows_same : (n : ℕ) → n ≤ type_count w → rows_of file w' n ≡ rows_of file w n
    unfolding rows_of
    rows_same zero le = refl
    rows_same (suc n) le = ap₂ (λ x y. x ++ (y ∷ [])) (rows_same n (le_of_lt le)) (row_same n le)

    new_items : items_at w' (type_count w) ≡ items
    new_items = ap₂ (λ s n. part w' (2050 + s) n) grown.starts grown.counts ∙ grown.types

    new_names : names_at w' (type_count w) ≡ names
    unfolding head_at
    new_names =
        ap (λ k. names_by (eqb k 8) w' (start_at w' (type_count w)) (count_at w' (type_count w))) (ap (λ h. h.kind) grown.heads)
        ∙ ap₂ (λ s n. names_by (eqb head.kind 8) w' s n) grown.starts grown.counts
        ∙ names_stored file head names items canonical w' (item_count w) grown.labels

    new_row : row_at file w' (type_count w) ≡ data_from file head names items
    unfolding row_at
    new_row =
        ap (λ h. data_from file h (names_at w' (type_count w)) (items_at w' (type_count w))) grown.heads
        ∙ ap₂ (λ x y. data_from file head x y) new_names new_items

    pub table_grown : table_of file w' ≡ table_of file w ++ (data_from file head names items ∷ [])
    unfolding table_of rows_of
    table_grown =
        ap (rows_of file w') (grown.counted ∙ add-one (type_count w))
        ∙ ap₂ (λ x y. x ++ (y ∷ [])) (rows_same (type_count w) (le_refl (type_count w))) new_row

    held_grown : item_count w' ≡ table_items (table_of file w')
    held_grown =
        grown.filled ∙ ap₂ (λ x y. x + y) sound.held (sym (items_are file head names items canonical))
        ∙ sym (ap table_items table_grown ∙ items_appended (table_of file w) (data_from file head names items))

    old_row : (t : ℕ) → t < type_count w → SoundRow file w' t
    old_row t below = record {
      within = omega (arith, start_kept t below, count_kept t below, (sound.rows t below).within, grown.filled);
      canonical =
          canonical_along file (head_at w t) (head_at w' t) (names_at w t) (names_at w' t) (items_at w t) (items_at w' t) (sym (head_kept t below))
          (sym (names_same t below)) (sym (items_same t below)) (sound.rows t below).canonical;
      below = subst (λ (r : TypeData). AllBelow t (row_types r)) (sym (row_same t below)) (sound.rows t below).below;
    }

    last_row : AllBelow (type_count w) (row_types (data_from file head names items)) → SoundRow file w' (type_count w)
    last_row lower = record {
      within = omega (arith, grown.starts, grown.counts, grown.filled);
      canonical =
          canonical_along file head (head_at w' (type_count w)) names (names_at w' (type_count w)) items (items_at w' (type_count w)) (sym grown.heads)
          (sym new_names) (sym new_items) canonical;
      below = subst (λ (r : TypeData). AllBelow (type_count w) (row_types r)) (sym new_row) lower;
    }

    pub sound_grown : AllBelow (type_count w) (row_types (data_from file head names items)) → Sound file w'
    sound_grown lower = record {
      long = omega (arith, grown.same_length, sound.long);
      first = omega (arith, grown.counted, sound.first);
      types = omega (arith, grown.counted);
      room = omega (arith, grown.filled);
      held = held_grown;
      rows = λ t below.
          ⊎_elim (λ same. subst (λ (n : ℕ). SoundRow file w' n) (sym same) (last_row lower)) (λ less. old_row t less)
          (eq-or-lt_of_le (upto t below));
    }
      where
        upto : (t : ℕ) → t < type_count w' → t ≤ type_count w
        upto t below = omega (arith, grown.counted)

    pub rest_grown : drop 8192 w' ≡ drop 8192 w
    rest_grown =
        ext_get_or 0 (drop 8192 w') (drop 8192 w) (length-drop 8192 w' ∙ ap (λ n. n - 8192) grown.same_length ∙ sym (length-drop 8192 w))
        (λ i below. get_or-drop 8192 w' i 0 ∙ grown.rest_kept (8192 + i) (omega arith) ∙ sym (get_or-drop 8192 w i 0))

-- ------------------------------------------------------------------ entering a row

module _ (file w : List ℕ) (row : TypeData) where
  pub found_below : (t : ℕ) → find_type (table_of file w) row ≡ Some t → t < type_count w
  found_below t e = omega (arith, getElem_below (table_of file w) t (find_type_some (table_of file w) row t e), length_table file w)

  pub refused_types : find_type (table_of file w) row ≡ None → 256 ≤ type_count w → enter_type row (table_of file w) ≡ refused 9
  unfolding has_room
  refused_types e full =
      enter_no_room row (table_of file w) e
      (ap (λ b. b && leb (table_items (table_of file w) + row_items row) 2048) (le-ltb (length (table_of file w)) 256 (omega (arith, length_table file w))))

  pub refused_items : find_type (table_of file w) row ≡ None → type_count w < 256 → 2048 < table_items (table_of file w) + row_items row
      → enter_type row (table_of file w) ≡ refused 9
  unfolding has_room
  refused_items e types full =
      enter_no_room row (table_of file w) e
      (ap₂ ◌&&◌ (lt-ltb (length (table_of file w)) 256 (omega (arith, length_table file w))) (lt-leb (table_items (table_of file w) + row_items row) 2048 full))

  pub entered_new : find_type (table_of file w) row ≡ None → type_count w < 256 → table_items (table_of file w) + row_items row ≤ 2048
      → enter_type row (table_of file w) ≡ answered (type_count w) (table_of file w ++ (row ∷ []))
  unfolding has_room
  entered_new e types fits =
      enter_new row (table_of file w) e
      (ap₂ ◌&&◌ (lt-ltb (length (table_of file w)) 256 (omega (arith, length_table file w))) (le-leb (table_items (table_of file w) + row_items row) 2048 fits))
      ∙ ap (λ n. answered n (table_of file w ++ (row ∷ []))) (length_table file w)
