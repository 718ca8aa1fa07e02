-- A field by its kind, from a position in the file. Assumes nothing.
use Prim.Native.Nat.{ℕ, suc, ◌+◌, ◌-◌, ◌≤◌}
use mathlib.Core.Path.{◌≡◌, refl, sym, ap, ◌∙◌}
use mathlib.Core.List.{[], ◌∷◌}
use mathlib.Core.Bool.{Bool, true, false}
use Rattle.std.specs.Prelude.{Option, None, Some}
use native.Mathlib.Omega.{arith}
use lib.ListN.{length, take, drop, length-drop}
use Rattle.model.specs.Common.{Text, let_some, eq_numbers, first}
use Rattle.format.specs.declared.Kind.{Kind}
use Rattle.format.specs.Words.{is_keyword, place_in, unary_op_words, binary_op_words}
use Rattle.format.specs.Fields.{stops, field_of, behind, is_name, plain_number, number_of, absent, numbered, name_value, or_dash, value_of, Read, reading, behind_tab, slot_field, is_nothing, slot}
use Rattle.words.specs.Packed.{candidate_place}
use Rattle.words.specs.Ends.{begins}
use Rattle.words.proofs.Bytes.{begins_here}
use Rattle.words.proofs.Tables.{maps, candidate_first}
use Rattle.format.specs.Lines as lines
use Rattle.format.specs.Lines.{word_here}
use Rattle.fields.specs.declared.Slot.{Slot}
use Rattle.fields.specs.declared.FieldHere.{FieldHere}
use Rattle.fields.specs.declared.WordRead.{WordRead}
use Rattle.fields.specs.Held.{value_is, slot_is, field_is, word_is, field_as}
use Rattle.fields.proofs.Numbers.{behind_at}

-- ------------------------------------------------------------------ the bytes of a field

pub field_take : (t : Text) → take (length (field_of t)) t ≡ field_of t
unfolding field_of
field_take [] = refl
field_take (b ∷ t) = by (stops b) (field_take t)
  where
    by : (q : Bool) → take (length (field_of t)) t ≡ field_of t
        → take (length {A = ℕ} (elim q [ true ↦ [] | false ↦ b ∷ field_of t ])) (b ∷ t) ≡ elim q [ true ↦ [] | false ↦ b ∷ field_of t ]
    by true h = refl
    by false h = ap (λ (l : Text). b ∷ l) h

field_within : (t : Text) → length (field_of t) ≤ length t
unfolding field_of
field_within [] = omega arith
field_within (b ∷ t) = by (stops b) (field_within t)
  where
    by : (q : Bool) → length (field_of t) ≤ length t → length {A = ℕ} (elim q [ true ↦ [] | false ↦ b ∷ field_of t ]) ≤ suc (length t)
    by true h = omega arith
    by false h = omega arith

-- a field that begins in the file ends in it
pub field_fits : (s : Text) (p : ℕ) → p ≤ length s → p + length (field_of (drop p s)) ≤ length s
field_fits s p h = omega (arith, field_within (drop p s), length-drop p s)

-- ------------------------------------------------------------------ an operator

module _ (s : Text) (p e : ℕ) (table map : Text) (r : Option ℕ) where
  pub operator_is : e ≡ p + length (field_of (drop p s)) → r ≡ candidate_place table map (take (e - p) (drop p s))
      → field_as (λ t. numbered (candidate_place table map t)) (drop p s) ≡ reading (drop e s) (numbered (r))
  unfolding field_as
  operator_is q found =
      sym
      ((λ i. reading (drop (q i) s) (numbered (found i)))
      ∙ ap (λ n. reading (drop (p + length (field_of (drop p s))) s) (numbered (candidate_place table map (take n (drop p s))))) same_length
      ∙ (λ i. reading (sym (behind_at s p) i) (numbered (candidate_place table map (field_take (drop p s) i)))))
    where
      same_length : e - p ≡ length (field_of (drop p s))
      same_length = omega (arith, q)

-- ------------------------------------------------------------------ a field of a kind

-- no kind has an empty field
none_empty : (k : Kind) → value_of k [] ≡ None
unfolding value_of or_dash name_value is_name number_of plain_number place_in first eq_numbers is_keyword
none_empty Kind.Nothing = refl
none_empty Kind.Number = refl
none_empty Kind.MaybeNumber = refl
none_empty Kind.Position = refl
none_empty Kind.Size = refl
none_empty Kind.Name = refl
none_empty Kind.MaybeName = refl
none_empty Kind.UnaryOp = refl
none_empty Kind.BinaryOp = refl
none_empty Kind.Unused = refl

pub empty_wrong : (k : Kind) (t : Text) → field_of t ≡ [] → field_as (value_of k) t ≡ None
unfolding field_as
empty_wrong k t q = ap (λ u. reading (behind t) (value_of k u)) q ∙ ap (reading (behind t)) (none_empty k)

pub nothing_wrong : (t : Text) → field_as (value_of Kind.Nothing) t ≡ None
unfolding field_as value_of
nothing_wrong t = refl

-- the same field, whose kind is known
pub of_kind : (k known : Kind) (t : Text) → k ≡ known → field_as (value_of known) t ≡ field_as (value_of k) t
of_kind k known t q = ap (λ j. field_as (value_of j) t) (sym q)

-- with a map that is right for the table
module _ (t table map : Text) (x : Option Read) (is : x ≡ field_as (λ u. numbered (candidate_place table map u)) t) where
  pub unary_op_is : maps table map unary_op_words ≡ true → x ≡ field_as (value_of Kind.UnaryOp) t
  unfolding field_as value_of
  unary_op_is right = is ∙ ap (λ o. reading (behind t) (numbered o)) (candidate_first table map (field_of t) unary_op_words right)

  pub binary_op_is : maps table map binary_op_words ≡ true → x ≡ field_as (value_of Kind.BinaryOp) t
  unfolding field_as value_of
  binary_op_is right = is ∙ ap (λ o. reading (behind t) (numbered o)) (candidate_first table map (field_of t) binary_op_words right)

-- ------------------------------------------------------------------ a tab

tab_none : (t : Text) → begins 9 t ≡ false → behind_tab t ≡ None
unfolding behind_tab
tab_none [] h = refl
tab_none (b ∷ t) h = λ i. elim (h i) [ true ↦ Some t | false ↦ None ]

tab_found : (s : Text) (e : ℕ) → begins 9 (drop e s) ≡ true → behind_tab (drop e s) ≡ Some (drop (e + 1) s)
unfolding behind_tab
tab_found s e h = ap behind_tab (begins_here 9 s e h)

-- ------------------------------------------------------------------ a field behind a tab

module _ (k : Kind) (s : Text) (e : ℕ) where
  pub slot_nothing : is_nothing k ≡ true → slot k (drop e s) ≡ Some (record { value = absent; rest = drop e s })
  unfolding slot
  slot_nothing q = λ i. elim (q i) [ true ↦ Some (record { value = absent; rest = drop e s }) | false ↦ slot_field k (drop e s) ]

  slot_some : is_nothing k ≡ false → slot k (drop e s) ≡ slot_field k (drop e s)
  unfolding slot
  slot_some q = λ i. elim (q i) [ true ↦ Some (record { value = absent; rest = drop e s }) | false ↦ slot_field k (drop e s) ]

  -- no tab stands here, or one does
  pub slot_no_tab : is_nothing k ≡ false → begins 9 (drop e s) ≡ false → slot k (drop e s) ≡ None
  unfolding slot_field
  slot_no_tab q h = slot_some q ∙ ap (λ o. let_some o None λ u. reading (behind u) (value_of k (field_of u))) (tab_none (drop e s) h)

  pub slot_is_field : is_nothing k ≡ false → begins 9 (drop e s) ≡ true → slot k (drop e s) ≡ field_as (value_of k) (drop (e + 1) s)
  unfolding slot_field field_as
  slot_is_field q h = slot_some q ∙ ap (λ o. let_some o None λ u. reading (behind u) (value_of k (field_of u))) (tab_found s e h)

-- ------------------------------------------------------------------ what the definition reads where the code has read a field, and where it has not

module _ (s t : Text) (k : Kind) (r : Option Slot) (q : slot_is s r ≡ slot k t) where
  pub slot_found : (x : Slot) → r ≡ Some x → slot k t ≡ Some (record { value = value_is s x.value; rest = drop x.end s })
  slot_found x h = sym q ∙ ap (slot_is s) h

-- ------------------------------------------------------------------ a word behind a tab

module _ {A : Type 0} (word_of : Text → Option A) (s : Text) (e : ℕ) where
  pub word_no_tab : begins 9 (drop e s) ≡ false → word_here word_of (drop e s) ≡ None
  unfolding word_here
  word_no_tab h = ap (λ o. let_some o None λ u. let_some (word_of (field_of u)) None λ w. Some (record { word = w; rest = behind u })) (tab_none (drop e s) h)

  -- the field behind the tab ends at x, and o is the word that it is
  pub word_found : (x : ℕ) (o : Option A) → begins 9 (drop e s) ≡ true → x ≡ e + 1 + length (field_of (drop (e + 1) s))
      → o ≡ word_of (take (x - (e + 1)) (drop (e + 1) s)) → word_here word_of (drop e s) ≡ (let_some o None λ w. Some (record { word = w; rest = drop x s }))
  unfolding word_here
  word_found x o h q is =
      ap (λ v. let_some v None λ u. let_some (word_of (field_of u)) None λ w. Some (record { word = w; rest = behind u })) (tab_found s e h)
      ∙ (λ i. let_some (same_word i) None λ w. Some (record { word = w; rest = same_rest i }))
    where
      same_length : x - (e + 1) ≡ length (field_of (drop (e + 1) s))
      same_length = omega (arith, q)

      same_word : word_of (field_of (drop (e + 1) s)) ≡ o
      same_word = sym (is ∙ ap (λ n. word_of (take n (drop (e + 1) s))) same_length ∙ ap word_of (field_take (drop (e + 1) s)))

      same_rest : behind (drop (e + 1) s) ≡ drop x s
      same_rest = behind_at s (e + 1) ∙ ap (λ n. drop n s) (sym q)

-- the word that a field behind a tab is, where `Some` reads any field as its own bytes
module _ {A : Type 0} (word_of : Text → Option A) where
  abbrev in_field : Option (lines.WordRead Text) → Option (lines.WordRead A)
  in_field o = let_some o None λ f. let_some (word_of f.word) None λ w. Some (record { word = w; rest = f.rest })

  word_of_field : (t : Text) → word_here word_of t ≡ in_field (word_here Some t)
  unfolding word_here
  word_of_field t = at_tab (behind_tab t)
    where
      any : Option Text → Option (lines.WordRead Text)
      any o = let_some o None λ u. let_some (Some (field_of u)) None λ w. Some (record { word = w; rest = behind u })

      at_tab : (o : Option Text) → (let_some o None λ u. let_some (word_of (field_of u)) None λ w. Some (record { word = w; rest = behind u })) ≡ in_field (any o)
      at_tab None = refl
      at_tab (Some u) = refl

  -- what the definition reads where the code has read a field, whatever it holds, and where it has not
  module _ (s t : Text) (r : Option FieldHere) (q : field_is s r ≡ word_here Some t) where
    pub field_lost : r ≡ None → word_here word_of t ≡ None
    field_lost h = word_of_field t ∙ ap in_field (sym q ∙ ap (field_is s) h)

    pub field_read : (f : FieldHere) (o : Option A) → r ≡ Some f → o ≡ word_of (take (f.end - f.from) (drop f.from s))
        → word_here word_of t ≡ (let_some o None λ w. Some (record { word = w; rest = drop f.end s }))
    field_read f o h is =
        word_of_field t
        ∙ ap in_field (sym q ∙ ap (field_is s) h)
        ∙ ap (λ v. let_some v None λ w. Some (record { word = w; rest = drop f.end s })) (sym is)

-- what the definition reads where the code has read a word, and where it has not
module _ {A : Type 0} (word_of : Text → Option A) (s t : Text) (r : Option (WordRead A)) (q : word_is s r ≡ word_here word_of t) where
  pub word_read : (x : WordRead A) → r ≡ Some x → word_here word_of t ≡ Some (record { word = x.word; rest = drop x.end s })
  word_read x h = sym q ∙ ap (word_is s) h

  pub word_lost : r ≡ None → word_here word_of t ≡ None
  word_lost h = sym q ∙ ap (word_is s) h
