-- A field's value and the words that it takes: what a field of a kind can hold, and that its words hold just that. Assumes nothing.
use Prim.Native.Nat.{ℕ, zero, suc, ◌+◌, ◌*◌, ◌%◌, ◌≤◌, ◌<◌}
use mathlib.Core.Path.{◌≡◌, refl, sym, ap, subst, ◌∙◌}
use mathlib.Core.List.{List, [], ◌∷◌}
use mathlib.Core.Bool.{Bool, true, false, ◌&&◌, not, false≢true}
use Rattle.std.specs.Prelude.{Option, None, Some}
use native.Mathlib.Omega.{arith}
use lib.Dec.{leb}
use lib.ListN.{length, drop}
use Rattle.std.specs.Prelude.{if◌then◌else◌}
use Rattle.model.specs.Common.{Text, let_some, first, next}
use Rattle.model.specs.Limits.{max_number, max_position, max_size}
use Rattle.model.proofs.Tests.{leb_le, and_left, and_right}
use Rattle.format.specs.declared.Kind.{Kind}
use Rattle.format.specs.Words.{Keyword, place_in, is_keyword, unary_op_words, binary_op_words}
use Rattle.format.specs.Fields.{Value, absent, number, text, Read, field_of, behind, behind_tab, plain_number, number_of, only_if, numbered, is_dash, is_name, all_visible, name_value, or_dash, value_of, reading, is_nothing, slot_field, slot}
use Rattle.format.proofs.Reading.{Every, nothing, this, every_some, every_after}
use Rattle.records.specs.Layout.{word, each, bytes_at, link_by, name_by, suffix_by, start_of, length_of}
use Rattle.records.proofs.Lists.{each_length}
use Rattle.records.proofs.Packing.{start_packed, length_packed, link_packed, suffix_packed}
use Rattle.fields.specs.declared.Value as held
use Rattle.fields.specs.declared.Slot.{Slot}
use Rattle.fields.specs.Held.{value_is, slot_is}
use Rattle.fields.proofs.Slots.{slot_found}
use Rattle.loader.specs.declared.values.FieldWords.{FieldWords}
use Rattle.loader.specs.Values.{parts, linked, named, value_by, is_link, slot_words_is}

-- ------------------------------------------------------------------ what a field of a kind can hold

abbrev pub IsAbsent : Value → Type 0
IsAbsent absent = Unit {0}
IsAbsent (number n) = ⊥
IsAbsent (text t) = ⊥

abbrev pub IsNumber : ℕ → Value → Type 0
IsNumber most absent = ⊥
IsNumber most (number n) = n ≤ most
IsNumber most (text t) = ⊥

abbrev pub IsMaybeNumber : Value → Type 0
IsMaybeNumber absent = Unit {0}
IsMaybeNumber (number n) = n ≤ max_number
IsMaybeNumber (text t) = ⊥

abbrev pub IsName : Value → Type 0
IsName absent = ⊥
IsName (number n) = ⊥
IsName (text t) = is_name t ≡ true

abbrev pub IsMaybeName : Value → Type 0
IsMaybeName absent = Unit {0}
IsMaybeName (number n) = ⊥
IsMaybeName (text t) = is_name t ≡ true

abbrev pub Fits : Kind → Value → Type 0
Fits Kind.Nothing = IsAbsent
Fits Kind.Number = IsNumber max_number
Fits Kind.MaybeNumber = IsMaybeNumber
Fits Kind.Position = IsNumber max_position
Fits Kind.Size = IsNumber max_size
Fits Kind.Name = IsName
Fits Kind.MaybeName = IsMaybeName
Fits Kind.UnaryOp = IsNumber max_position
Fits Kind.BinaryOp = IsNumber max_position
Fits Kind.Unused = IsAbsent

number_fits : (P : Value → Type 0) (most : ℕ) → ((n : ℕ) → n ≤ most → P (number n)) → (t : Text) → Every P (numbered (number_of most t))
unfolding number_of
number_fits P most holds t = of (plain_number t)
  where
    bounded : (n : ℕ) (b : Bool) → leb n most ≡ b → Every P (numbered (only_if b n))
    bounded n true e = this (number n) (holds n (leb_le n most e))
    bounded n false e = nothing

    of : (o : Option ℕ) → Every P (numbered (let_some o None λ n. only_if (leb n most) n))
    of None = nothing
    of (Some n) = bounded n (leb n most) refl

-- a place in a list is below its length
place_bound : {A : Type 0} (test : A → Bool) (xs : List A) → Every (λ (n : ℕ). n < length xs) (first test xs)
unfolding first
place_bound test [] = nothing
place_bound test (x ∷ xs) = of (test x) (place_bound test xs)
  where
    of : (b : Bool) {o : Option ℕ} → Every (λ (n : ℕ). n < length xs) o → Every (λ (n : ℕ). n < suc (length xs)) (if b then Some zero else next o)
    of true h = this zero (omega arith)
    of false nothing = nothing
    of false (this n p) = this (suc n) (omega arith)

place_fits : {A : Type 0} (table : List (Keyword A)) → length table ≤ max_position → (t : Text) → Every (IsNumber max_position) (numbered (place_in table t))
unfolding place_in
place_fits table short t = of (place_bound (is_keyword t) table)
  where
    of : {o : Option ℕ} → Every (λ (n : ℕ). n < length table) o → Every (IsNumber max_position) (numbered o)
    of nothing = nothing
    of (this n p) = this (number n) (omega arith)

name_fits : (P : Value → Type 0) → ((t : Text) → is_name t ≡ true → P (text t)) → (t : Text) → Every P (name_value t)
unfolding name_value
name_fits P holds t = of (is_name t) refl
  where
    of : (b : Bool) → is_name t ≡ b → Every P (only_if b (text t))
    of true e = this (text t) (holds t e)
    of false e = nothing

dash_fits : (P : Value → Type 0) (t : Text) {o : Option Value} → P absent → Every P o → Every P (or_dash t o)
unfolding or_dash
dash_fits P t {o} p h = of (is_dash t)
  where
    of : (b : Bool) → Every P (elim b [ true ↦ Some absent | false ↦ o ])
    of true = this absent p
    of false = h

value_fits : (k : Kind) (t : Text) → Every (Fits k) (value_of k t)
unfolding value_of
value_fits Kind.Nothing t = nothing
value_fits Kind.Number t = number_fits (Fits Kind.Number) max_number (λ n h. h) t
value_fits Kind.MaybeNumber t = dash_fits IsMaybeNumber t tt (number_fits IsMaybeNumber max_number (λ n h. h) t)
value_fits Kind.Position t = number_fits (Fits Kind.Position) max_position (λ n h. h) t
value_fits Kind.Size t = number_fits (Fits Kind.Size) max_size (λ n h. h) t
value_fits Kind.Name t = name_fits IsName (λ u h. h) t
value_fits Kind.MaybeName t = dash_fits IsMaybeName t tt (name_fits IsMaybeName (λ u h. h) t)
value_fits Kind.UnaryOp t = place_fits unary_op_words (omega arith) t
value_fits Kind.BinaryOp t = place_fits binary_op_words (omega arith) t
value_fits Kind.Unused t = of (is_dash t)
  where
    of : (b : Bool) → Every IsAbsent (only_if b absent)
    of true = this absent tt
    of false = nothing

pub slot_fits : (k : Kind) (t : Text) → Every (λ (r : Read). Fits k r.value) (slot k t)
unfolding slot slot_field
slot_fits k t = of k (is_nothing k) refl
  where
    held : (k : Kind) (u : Text) {o : Option Value} → Every (Fits k) o → Every (λ (r : Read). Fits k r.value) (reading u o)
    held k u nothing = nothing
    held k u (this v h) = this (record { value = v; rest = u }) h

    none_read : (k : Kind) → is_nothing k ≡ true → Fits k absent
    none_read Kind.Nothing e = tt
    none_read Kind.Number e = absurd (false≢true e)
    none_read Kind.MaybeNumber e = tt
    none_read Kind.Position e = absurd (false≢true e)
    none_read Kind.Size e = absurd (false≢true e)
    none_read Kind.Name e = absurd (false≢true e)
    none_read Kind.MaybeName e = tt
    none_read Kind.UnaryOp e = absurd (false≢true e)
    none_read Kind.BinaryOp e = absurd (false≢true e)
    none_read Kind.Unused e = tt

    of : (k : Kind) (b : Bool) → is_nothing k ≡ b → Every (λ (r : Read). Fits k r.value) (elim b [ true ↦ Some (record { value = absent; rest = t }) | false ↦ slot_field k t ])
    of k true e = this (record { value = absent; rest = t }) (none_read k e)
    of k false e = every_after (behind_tab t) λ u. held k (behind u) (value_fits k (field_of u))

-- ------------------------------------------------------------------ the words of a value hold it

pub absent_held : (k : Kind) (file : Text) → Fits k absent → absent ≡ value_by k file (parts 0)
unfolding suffix_by
absent_held Kind.Nothing file h = refl
absent_held Kind.Number file h = absurd h
absent_held Kind.MaybeNumber file h = refl
absent_held Kind.Position file h = absurd h
absent_held Kind.Size file h = absurd h
absent_held Kind.Name file h = absurd h
absent_held Kind.MaybeName file h = refl
absent_held Kind.UnaryOp file h = absurd h
absent_held Kind.BinaryOp file h = absurd h
absent_held Kind.Unused file h = refl

-- a link that may be missing
pub link_bound : (k : Kind) (n : ℕ) → is_link k ≡ true → Fits k (number n) → n ≤ max_number
link_bound Kind.Nothing n e h = absurd h
link_bound Kind.Number n e h = h
link_bound Kind.MaybeNumber n e h = h
link_bound Kind.Position n e h = absurd (false≢true e)
link_bound Kind.Size n e h = absurd (false≢true e)
link_bound Kind.Name n e h = absurd h
link_bound Kind.MaybeName n e h = absurd h
link_bound Kind.UnaryOp n e h = absurd (false≢true e)
link_bound Kind.BinaryOp n e h = absurd (false≢true e)
link_bound Kind.Unused n e h = absurd h

-- a number of one word
small : (n : ℕ) → n ≤ max_position → n % 4294967296 ≡ n
small n h = omega arith

pub link_held : (k : Kind) (file : Text) (n : ℕ) → is_link k ≡ true → n ≤ max_number → number n ≡ value_by k file (parts (n + 1))
link_held Kind.Nothing file n e h = absurd (false≢true e)
link_held Kind.Number file n e h = absurd (false≢true e)
link_held Kind.MaybeNumber file n e h = ap linked (sym (ap link_by (small (n + 1) (omega arith)) ∙ link_packed n))
link_held Kind.Position file n e h = absurd (false≢true e)
link_held Kind.Size file n e h = absurd (false≢true e)
link_held Kind.Name file n e h = absurd (false≢true e)
link_held Kind.MaybeName file n e h = absurd (false≢true e)
link_held Kind.UnaryOp file n e h = absurd (false≢true e)
link_held Kind.BinaryOp file n e h = absurd (false≢true e)
link_held Kind.Unused file n e h = absurd (false≢true e)

module _ (file : Text) (n : ℕ) where
  low_held : n ≤ max_position → number n ≡ number (n % 4294967296)
  low_held h = ap number (sym (small n h))

  pub number_held : (k : Kind) → is_link k ≡ false → Fits k (number n) → number n ≡ value_by k file (parts n)
  number_held Kind.Nothing e h = absurd h
  number_held Kind.Number e h = low_held (omega arith)
  number_held Kind.MaybeNumber e h = absurd (false≢true (sym e))
  number_held Kind.Position e h = low_held h
  number_held Kind.Size e h = ap number (omega arith)
  number_held Kind.Name e h = absurd h
  number_held Kind.MaybeName e h = absurd h
  number_held Kind.UnaryOp e h = low_held h
  number_held Kind.BinaryOp e h = low_held h
  number_held Kind.Unused e h = absurd h

-- ------------------------------------------------------------------ a name

visible_first : (b : ℕ) (t : Text) → all_visible (b ∷ t) ≡ true → 33 ≤ b
unfolding all_visible
visible_first b t e = leb_le 33 b (and_left (leb 33 b) (leb b 126) (of (leb 33 b && leb b 126) e))
  where
    of : (v : Bool) → elim v [ true ↦ all_visible t | false ↦ false ] ≡ true → v ≡ true
    of true h = refl
    of false h = absurd (false≢true h)

-- a byte that is not 0 lies in the file
byte_inside : (file : Text) (p : ℕ) → 1 ≤ word file p → p < length file
byte_inside [] zero h = absurd (None h)
  where
    None : 1 ≤ 0 → ⊥
    None h = omega arith
byte_inside [] (suc p) h = absurd (None h)
  where
    None : 1 ≤ 0 → ⊥
    None h = omega arith
byte_inside (b ∷ file) zero h = omega arith
byte_inside (b ∷ file) (suc p) h = let less = byte_inside file p h in omega arith

pub record Named (file : Text) (p n : ℕ) : Type 0 where
  pub inside : p < length file
  pub least : 1 ≤ n
  pub most : n ≤ 64

record NameParts (t : Text) : Type 0 where
  least : 1 ≤ length t
  most : length t ≤ 64
  visible : all_visible t ≡ true

name_parts : (t : Text) → is_name t ≡ true → NameParts t
unfolding is_name
name_parts t e =
    let a = leb 1 (length t) in
    let b = leb (length t) 64 in
    let v = all_visible t in
    let seen : (a && b && v) ≡ true = and_left (a && b && v) (not (is_dash t)) e in
    let sized : (a && b) ≡ true = and_left (a && b) v seen in
    record { least = leb_le 1 (length t) (and_left a b sized); most = leb_le (length t) 64 (and_right a b sized); visible = and_right (a && b) v seen }

name_inside : (file : Text) (p n : ℕ) → is_name (bytes_at file p n) ≡ true → Named file p n
unfolding each
name_inside file p n e =
    let parts = name_parts (bytes_at file p n) e in
    let long = each_length (word file) p n in
    record { inside = begun n parts.least parts.visible; least = subst (λ k. 1 ≤ k) long parts.least; most = subst (λ k. k ≤ 64) long parts.most }
  where
    None : 1 ≤ 0 → ⊥
    None h = omega arith

    begun : (n : ℕ) → 1 ≤ length (bytes_at file p n) → all_visible (bytes_at file p n) ≡ true → p < length file
    begun zero h v = absurd (None h)
    begun (suc n) h v = let first : 33 ≤ word file p = visible_first (word file p) (bytes_at file (suc p) n) v in byte_inside file p (omega arith)

pub text_named : (k : Kind) (file : Text) (p n : ℕ) → Fits k (text (bytes_at file p n)) → Named file p n
text_named Kind.Nothing file p n h = absurd h
text_named Kind.Number file p n h = absurd h
text_named Kind.MaybeNumber file p n h = absurd h
text_named Kind.Position file p n h = absurd h
text_named Kind.Size file p n h = absurd h
text_named Kind.Name file p n h = name_inside file p n h
text_named Kind.MaybeName file p n h = name_inside file p n h
text_named Kind.UnaryOp file p n h = absurd h
text_named Kind.BinaryOp file p n h = absurd h
text_named Kind.Unused file p n h = absurd h

module _ (file : Text) (p n w : ℕ) (low : p < 65536) (short : n ≤ 64) (is_IsWord : w ≡ p + 65536 * n) where
  one_word : w % 4294967296 ≡ p + 65536 * n
  one_word = small w (omega (arith, is_IsWord)) ∙ is_IsWord

  part_held : bytes_at file p n ≡ name_by file (w % 4294967296)
  unfolding name_by
  part_held = (λ i. bytes_at file (sym (ap start_of one_word ∙ start_packed p n low) i) (sym (ap length_of one_word ∙ length_packed p n low) i))

  pub text_held : (k : Kind) → 1 ≤ n → Fits k (text (bytes_at file p n)) → text (bytes_at file p n) ≡ value_by k file (parts w)
  text_held Kind.Nothing least h = absurd h
  text_held Kind.Number least h = absurd h
  text_held Kind.MaybeNumber least h = absurd h
  text_held Kind.Position least h = absurd h
  text_held Kind.Size least h = absurd h
  text_held Kind.Name least h = ap text part_held
  text_held Kind.MaybeName least h = ap text part_held ∙ ap named (sym (suffix_packed file (w % 4294967296) (omega (arith, one_word))))
  text_held Kind.UnaryOp least h = absurd h
  text_held Kind.BinaryOp least h = absurd h
  text_held Kind.Unused least h = absurd h

-- ------------------------------------------------------------------ a field that was read

module _ (s t : Text) (k : Kind) (r : Option Slot) (q : slot_is s r ≡ slot k t) (f : Slot) (found : r ≡ Some f) where
  pub held_fits : {u : held.Value} → f.value ≡ u → Fits k (value_is s u)
  held_fits h = subst (λ x. Fits k (value_is s x)) h (every_some (slot_fits k t) (slot_found s t k r q f found))

  pub words_held : {u : held.Value} (w : ℕ) → f.value ≡ u → value_is s u ≡ value_by k s (parts w) → Some (record { value = value_by k s (parts w); rest = drop f.end s }) ≡ slot k t
  words_held w h same =
      sym (slot_found s t k r q f found ∙ ap (λ x. Some (record { value = x; rest = drop f.end s })) (ap (value_is s) h ∙ same))

module _ (s t : Text) (k : Kind) (r : Option FieldWords) (q : slot_words_is k s r ≡ slot k t) where
  pub words_found : (x : FieldWords) → r ≡ Some x → slot k t ≡ Some (record { value = value_by k s (parts x.words); rest = drop x.end s })
  words_found x h = sym q ∙ ap (slot_words_is k s) h

  pub words_lost : r ≡ None → slot k t ≡ None
  words_lost h = sym q ∙ ap (slot_words_is k s) h
