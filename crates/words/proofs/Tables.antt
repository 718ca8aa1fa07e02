-- A table of words in cells, and a map from hashes to places. Where the map is right for the table, the one word that a field can be is the
-- first of the table that it is: one law for all tables. Assumes nothing.
use Prim.Native.Nat.{ℕ, zero, suc, ◌+◌, ◌-◌, ◌*◌, ◌≤◌, ◌<◌}
use mathlib.Core.Path.{◌≡◌, refl, sym, ap, ◌∙◌}
use mathlib.Core.List.{List, [], ◌∷◌}
use mathlib.Core.Bool.{Bool, true, false, ◌&&◌, false≢true}
use Rattle.std.specs.Prelude.{Option, None, Some}
use native.Mathlib.Nat.{add-zero}
use native.Mathlib.Omega.{arith}
use lib.Dec.{eqb, leb}
use lib.ListN.{length, take, drop, get_or, length-drop, drop_of_length-le}
use borrow.Author.Tests.{le-leb, lt-leb, eqb-true, leb-true}
use Rattle.std.specs.Prelude.{if◌then◌else◌}
use Rattle.model.specs.Common.{Text, next, first, eq_numbers}
use Rattle.model.proofs.Tests.{and_left, and_right, eq_numbers_sound, eq_numbers_self}
use Rattle.format.specs.Words.{Keyword, is_keyword, place_in}
use Rattle.words.specs.Packed.{word_behind, cell_word, hash_of, candidate, place_if, candidate_place}
use Rattle.words.proofs.Bytes.{here}

-- ------------------------------------------------------------------ the one word that a field can be

-- no cell begins behind the table's end
no_cell : (table : Text) (k : ℕ) → length table ≤ k * 9 → cell_word table k ≡ None
no_cell table k h = ap word_behind (drop_of_length-le table h)

-- k is the place that the map has at the field's hash
module _ (field table map : Text) (h k : ℕ) (is_h : h ≡ hash_of field) (is_k : k ≡ get_or map h 0) where
  -- what is known of the word there gives the answer
  by_cell : (word : Option Text) → cell_word table k ≡ word → place_if field k word ≡ candidate_place table map field
  unfolding candidate_place
  by_cell word is_IsWord =
      ap (place_if field k) (sym is_IsWord) ∙ ap (λ j. place_if field j (cell_word table j)) (is_k ∙ ap (λ i. get_or map i 0) is_h)

  pub place_out : length table ≤ k * 9 → None ≡ candidate_place table map field
  place_out out = by_cell None (no_cell table k out)

  -- a cell that begins in the table, with the length n
  module _ (n : ℕ) (is_n : n ≡ get_or table (k * 9) 0) (inside : k * 9 < length table) where
    opened : (b : Bool) → leb n (length (drop (k * 9 + 1) table)) ≡ b → cell_word table k ≡ (if b then Some (take n (drop (k * 9 + 1) table)) else None)
    opened b e =
        ap word_behind (here table (k * 9) inside ∙ ap (λ m. m ∷ drop (k * 9 + 1) table) (sym is_n))
        ∙ ap (λ q. if q then Some (take n (drop (k * 9 + 1) table)) else None) e

    pub place_cut : length table - (k * 9 + 1) < n → None ≡ candidate_place table map field
    place_cut less = by_cell None (opened false (lt-leb n _ (omega (arith, length-drop (k * 9 + 1) table))))

    pub place_same : n ≤ length table - (k * 9 + 1) → (b : Bool) → b ≡ eq_numbers field (take n (drop (k * 9 + 1) table))
        → (if b then Some k else None) ≡ candidate_place table map field
    place_same fits b e =
        ap (λ q. if q then Some k else None) e ∙ by_cell _ (opened true (le-leb n _ (omega (arith, length-drop (k * 9 + 1) table))))

-- ------------------------------------------------------------------ a map that is right for a table

abbrev pub is_at : ℕ → Option ℕ → Bool
is_at k None = false
is_at k (Some n) = eqb n k

-- each of the words is found at its place, of which the first is k, and the table has no cell behind the last
unfoldable pub maps_from : {A : Type 0} → Text → Text → ℕ → List (Keyword A) → Bool
maps_from table map k [] = leb (length table) (k * 9)
maps_from table map k (w ∷ ws) = is_at k (place_if w.text (candidate map w.text) (cell_word table (candidate map w.text))) && maps_from table map (suc k) ws

-- the table has these words in this order, and the map sends the hash of each to its place
abbrev pub maps : {A : Type 0} → Text → Text → List (Keyword A) → Bool
maps table map words = maps_from table map 0 words

at_place : (k : ℕ) (o : Option ℕ) → is_at k o ≡ true → o ≡ Some k
at_place k None e = absurd (false≢true e)
at_place k (Some n) e = ap Some (eqb-true n k e)

-- a place that was given has the field in its cell
placed : (field : Text) (k j : ℕ) (word : Option Text) → place_if field j word ≡ Some k → (j ≡ k) × (word ≡ Some field)
placed field k j None e = let z : ◌≡◌ {A = ℕ} 0 1 = cc in absurd (omega arith)
placed field k j (Some w) e = by (eq_numbers field w) refl e
  where
    by : (b : Bool) → eq_numbers field w ≡ b → (if b then Some j else None) ≡ Some k → (j ≡ k) × (Some w ≡ Some field)
    by true q f = (cc, ap Some (sym (eq_numbers_sound field w q)))
    by false q f = let z : ◌≡◌ {A = ℕ} 0 1 = cc in absurd (omega arith)

cell_of : (table map field : Text) (k : ℕ) → candidate_place table map field ≡ Some k → cell_word table k ≡ Some field
unfolding candidate_place
cell_of table map field k e =
    let p = placed field k (candidate map field) (cell_word table (candidate map field)) e in ap (cell_word table) (sym p.0) ∙ p.1

-- what the test says of the first of the words, and of the others
module _ {A : Type 0} (table map : Text) (k : ℕ) (w : Keyword A) (ws : List (Keyword A)) where
  this_word : maps_from table map k (w ∷ ws) ≡ true → candidate_place table map w.text ≡ Some k
  unfolding maps_from candidate_place
  this_word h = at_place k (candidate_place table map w.text) (and_left (is_at k (candidate_place table map w.text)) (maps_from table map (suc k) ws) h)

  other_words : maps_from table map k (w ∷ ws) ≡ true → maps_from table map (suc k) ws ≡ true
  unfolding maps_from candidate_place
  other_words h = and_right (is_at k (candidate_place table map w.text)) (maps_from table map (suc k) ws) h

module _ {A : Type 0} (table map field : Text) where
  -- a field that was given no place is none of the words
  none_first : (k : ℕ) (ws : List (Keyword A)) → maps_from table map k ws ≡ true → candidate_place table map field ≡ None → place_in ws field ≡ None
  unfolding place_in first is_keyword
  none_first k [] h e = refl
  none_first k (w ∷ ws) h e = by (this_word table map k w ws h) (none_first (suc k) ws (other_words table map k w ws h) e) (eq_numbers field w.text) refl
    where
      by : candidate_place table map w.text ≡ Some k → place_in ws field ≡ None → (b : Bool) → eq_numbers field w.text ≡ b
          → (if b then Some 0 else next (place_in ws field)) ≡ None
      by this rest true q = let z : ◌≡◌ {A = ℕ} 0 1 = cc (ap (candidate_place table map) (eq_numbers_sound field w.text q)) in absurd (omega arith)
      by this rest false q = ap next rest

  -- a field that was given a place is the word there, and none before it
  some_first : (k i : ℕ) (ws : List (Keyword A)) → maps_from table map k ws ≡ true → candidate_place table map field ≡ Some (k + i) → place_in ws field ≡ Some i
  unfolding maps_from place_in first is_keyword
  some_first k i [] h e =
      let out = no_cell table (k + i) (omega (arith, leb-true (length table) (k * 9) h)) in
      let z : ◌≡◌ {A = ℕ} 0 1 = cc (cell_of table map field (k + i) e) in
      absurd (omega arith)
  some_first k i (w ∷ ws) h e =
      by (this_word table map k w ws h) (λ j f. some_first (suc k) j ws (other_words table map k w ws h) f) (eq_numbers field w.text) refl i e
    where
      by : candidate_place table map w.text ≡ Some k → ((j : ℕ) → candidate_place table map field ≡ Some (suc k + j) → place_in ws field ≡ Some j)
          → (b : Bool) → eq_numbers field w.text ≡ b → (i : ℕ) → candidate_place table map field ≡ Some (k + i)
          → (if b then Some 0 else next (place_in ws field)) ≡ Some i
      by this rest true q i f =
          let same : k ≡ k + i = cc (ap (candidate_place table map) (eq_numbers_sound field w.text q)) in ap Some (omega arith)
      by this rest false q zero f =
          let same : w.text ≡ field = cc (cell_of table map field (k + 0) f, cell_of table map w.text k this, add-zero k) in
          absurd (false≢true (sym q ∙ ap (eq_numbers field) same ∙ eq_numbers_self field))
      by this rest false q (suc i) f = ap next (rest i (f ∙ ap Some (omega arith)))

  -- where the test passes, the place that the map gives is that of the first of the words that the field is
  pub candidate_first : (words : List (Keyword A)) → maps table map words ≡ true → candidate_place table map field ≡ place_in words field
  candidate_first words h = by (candidate_place table map field) refl
    where
      by : (o : Option ℕ) → candidate_place table map field ≡ o → o ≡ place_in words field
      by None e = sym (none_first 0 words h e)
      by (Some i) e = sym (some_first 0 i words h (e ∙ ap Some (omega arith)))
