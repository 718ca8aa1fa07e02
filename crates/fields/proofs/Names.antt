-- Names and `-`, from a position in the file. Assumes nothing.
use Prim.Native.Nat.{ℕ, suc, ◌+◌, ◌≤◌, ◌<◌}
use mathlib.Core.Path.{◌≡◌, refl, sym, ap, ◌∙◌}
use mathlib.Core.List.{[], ◌∷◌}
use mathlib.Core.Bool.{Bool, true, false, not, ◌&&◌, ◌||◌, false≢true}
use Rattle.std.specs.Prelude.{Option, None, Some}
use native.Mathlib.Omega.{arith}
use lib.ListN.{length, take, drop, get_or, length-drop}
use lib.Seq.{drop-drop}
use lib.Dec.{eqb, leb, ltb}
use borrow.Author.Tests.{le-leb, lt-leb, eq-eqb, ne_eqb, leb-true, leb-false, eqb-true, le-ltb}
use Rattle.model.proofs.Tests.{lt-ltb}
use Rattle.model.specs.Common.{Text, is_empty, eq_numbers}
use Rattle.model.proofs.Tests.{eq_numbers_sound}
use Rattle.format.specs.declared.Kind.{Kind}
use Rattle.format.specs.Fields.{stops, field_of, behind, only_if, is_dash, all_visible, is_name, Value, absent, text, numbered, number_of, name_value, or_dash, value_of, reading}
use Rattle.records.specs.Layout.{bytes_at}
use Rattle.records.proofs.Packing.{each_part}
use Rattle.words.specs.Ends.{until, begins}
use Rattle.words.proofs.Bytes.{here, field_stop, field_more, field_out, begins_in}
use Rattle.fields.specs.Held.{may_be_absent, field_as, visible_run}
use Rattle.fields.proofs.Numbers.{behind_at}

-- ------------------------------------------------------------------ bytes from 21 to 7E

abbrev visible : ℕ → Bool
visible b = leb 33 b && leb b 126

-- what the code asks of a byte
abbrev pub hidden : ℕ → Bool
hidden b = ltb b 33 || ltb 126 b

hidden_is : (b : ℕ) → hidden b ≡ not (visible b)
hidden_is b = by (leb 33 b) (leb b 126) refl refl
  where
    by : (low high : Bool) → leb 33 b ≡ low → leb b 126 ≡ high → hidden b ≡ not (visible b)
    by true true p q = rw (p, q, le-ltb b 33 (leb-true 33 b p), le-ltb 126 b (leb-true b 126 q))
    by true false p q = rw (p, q, le-ltb b 33 (leb-true 33 b p), lt-ltb 126 b (leb-false b 126 q))
    by false high p q = rw (p, lt-ltb b 33 (leb-false 33 b p))

-- the visible bytes are those up to the first that isn't
pub run_until : (t : Text) → until hidden t ≡ visible_run t
unfolding until visible_run
run_until [] = refl
run_until (b ∷ t) = (λ i. elim (hidden_is b i) [ true ↦ [] | false ↦ b ∷ run_until t i ]) ∙ by (visible b)
  where
    by : (v : Bool) → ◌≡◌ {A = Text} (elim (not v) [ true ↦ [] | false ↦ b ∷ visible_run t ]) (elim v [ true ↦ b ∷ visible_run t | false ↦ [] ])
    by true = refl
    by false = refl

-- a visible byte ends no field
visible_goes_on : (b : ℕ) → visible b ≡ true → stops b ≡ false
visible_goes_on b e = rw (ne_eqb b 9 (λ q. no_nine (ap visible (sym q) ∙ e)), ne_eqb b 10 (λ q. no_ten (ap visible (sym q) ∙ e)))
  where
    no_nine : visible 9 ≡ true → ⊥
    no_nine r = false≢true r

    no_ten : visible 10 ≡ true → ⊥
    no_ten r = false≢true r

record Named (t : Text) : Type 0 where
  is_run : field_of t ≡ visible_run t
  is_visible : all_visible (field_of t) ≡ true

-- where the field ends with the visible bytes, it is these
run_named : (t : Text) → field_of (drop (length (visible_run t)) t) ≡ [] → Named t
unfolding visible_run field_of all_visible
run_named [] q = record { is_run = refl; is_visible = refl }
run_named (b ∷ t) q = by (visible b) refl q (λ r. run_named t r)
  where
    by : (v : Bool) → visible b ≡ v
        → field_of (drop (length {A = ℕ} (elim v [ true ↦ b ∷ visible_run t | false ↦ [] ])) (b ∷ t)) ≡ []
        → (field_of (drop (length (visible_run t)) t) ≡ [] → Named t) → Named (b ∷ t)
    by true e r rest =
        let n = rest r in
        record {
          is_run =
              (λ i. elim (visible_goes_on b e i) [ true ↦ [] | false ↦ b ∷ n.is_run i ])
              ∙ sym (λ i. elim (e i) [ true ↦ b ∷ visible_run t | false ↦ [] ]);
          is_visible =
              (λ i. all_visible (elim (visible_goes_on b e i) [ true ↦ [] | false ↦ b ∷ field_of t ]))
              ∙ (λ i. elim (e i) [ true ↦ n.is_visible i | false ↦ false ]);
        }
    by false e r rest =
        record {
          is_run = r ∙ sym (λ i. elim (e i) [ true ↦ b ∷ visible_run t | false ↦ [] ]);
          is_visible = ap all_visible r;
        }

-- where it goes on behind them, some byte of it is not visible
run_other : (t : Text) → is_empty (field_of (drop (length (visible_run t)) t)) ≡ false → all_visible (field_of t) ≡ false
unfolding visible_run field_of all_visible
run_other [] q = absurd (false≢true (sym q))
run_other (b ∷ t) q = by (visible b) refl q (λ r. run_other t r)
  where
    begun : (stop : Bool) → visible b ≡ false → is_empty {A = ℕ} (elim stop [ true ↦ [] | false ↦ b ∷ field_of t ]) ≡ false
        → all_visible (elim stop [ true ↦ [] | false ↦ b ∷ field_of t ]) ≡ false
    begun true e r = absurd (false≢true (sym r))
    begun false e r = λ i. elim (e i) [ true ↦ all_visible (field_of t) | false ↦ false ]

    by : (v : Bool) → visible b ≡ v
        → is_empty (field_of (drop (length {A = ℕ} (elim v [ true ↦ b ∷ visible_run t | false ↦ [] ])) (b ∷ t))) ≡ false
        → (is_empty (field_of (drop (length (visible_run t)) t)) ≡ false → all_visible (field_of t) ≡ false) → all_visible (field_of (b ∷ t)) ≡ false
    by true e r rest =
        (λ i. all_visible (elim (visible_goes_on b e i) [ true ↦ [] | false ↦ b ∷ field_of t ]))
        ∙ (λ i. elim (e i) [ true ↦ rest r i | false ↦ false ])
    by false e r rest = begun (stops b) e r

run_take : (t : Text) → take (length (visible_run t)) t ≡ visible_run t
unfolding visible_run
run_take [] = refl
run_take (b ∷ t) = by (visible b) (run_take t)
  where
    by : (v : Bool) → take (length (visible_run t)) t ≡ visible_run t
        → take (length {A = ℕ} (elim v [ true ↦ b ∷ visible_run t | false ↦ [] ])) (b ∷ t) ≡ elim v [ true ↦ b ∷ visible_run t | false ↦ [] ]
    by true h = ap (λ (l : Text). b ∷ l) h
    by false h = refl

run_within : (t : Text) → length (visible_run t) ≤ length t
unfolding visible_run
run_within [] = omega arith
run_within (b ∷ t) = by (visible b) (run_within t)
  where
    by : (v : Bool) → length (visible_run t) ≤ length t → length {A = ℕ} (elim v [ true ↦ b ∷ visible_run t | false ↦ [] ]) ≤ length (b ∷ t)
    by true h = omega arith
    by false h = omega arith

-- ------------------------------------------------------------------ a name

and_false : (a : Bool) → (a && false) ≡ false
and_false true = refl
and_false false = refl

module _ (s : Text) (p : ℕ) where
  abbrev field : Text
  field = field_of (drop p s)

  abbrev run : Text
  run = visible_run (drop p s)

  by_place : (f : Text → Option Value) → field_as f (drop p s) ≡ reading (drop (p + length field) s) (f field)
  unfolding field_as
  by_place f = ap (λ t. reading t (f field)) (behind_at s p)

  not_name : is_name field ≡ false → field_as name_value (drop p s) ≡ None
  unfolding name_value
  not_name e = by_place name_value ∙ ap (λ b. reading (drop (p + length field) s) (only_if b (text field))) e

  pub name_dash : is_dash field ≡ true → field_as name_value (drop p s) ≡ None
  unfolding is_name
  name_dash e = not_name (ap (λ d. leb 1 (length field) && leb (length field) 64 && all_visible field && not d) e ∙ and_false (leb 1 (length field) && leb (length field) 64 && all_visible field))

  -- the bytes behind the visible ones, by their place
  behind_run : drop (length run) (drop p s) ≡ drop (p + length run) s
  behind_run = drop-drop (length run) p s

  pub name_hidden : is_empty (field_of (drop (p + length run) s)) ≡ false → field_as name_value (drop p s) ≡ None
  unfolding is_name
  name_hidden e =
      not_name
      (ap (λ v. leb 1 (length field) && leb (length field) 64 && v && not (is_dash field)) (run_other (drop p s) (ap (λ t. is_empty (field_of t)) behind_run ∙ e))
      ∙ ap (λ a. a && not (is_dash field)) (and_false (leb 1 (length field) && leb (length field) 64)))

  module _ (ends : field_of (drop (p + length run) s) ≡ []) where
    is_named : Named (drop p s)
    is_named = run_named (drop p s) (ap field_of behind_run ∙ ends)

    same_length : length field ≡ length run
    same_length = ap length is_named.is_run

    pub name_empty : length run < 1 → field_as name_value (drop p s) ≡ None
    unfolding is_name
    name_empty h = not_name (ap (λ a. a && leb (length field) 64 && all_visible field && not (is_dash field)) (lt-leb 1 (length field) (omega (arith, same_length))))

    pub name_long : 64 < length run → field_as name_value (drop p s) ≡ None
    unfolding is_name
    name_long h =
        not_name
        (ap (λ a. leb 1 (length field) && a && all_visible field && not (is_dash field)) (lt-leb (length field) 64 (omega (arith, same_length)))
        ∙ ap (λ a. a && all_visible field && not (is_dash field)) (and_false (leb 1 (length field))))

    pub name_is : is_dash field ≡ false → 1 ≤ length run → length run ≤ 64
        → field_as name_value (drop p s) ≡ Some (record { value = text (bytes_at s p (length run)); rest = drop (p + length run) s })
    unfolding is_name name_value
    name_is e least most =
        by_place name_value
        ∙ (λ i.
        reading (drop (p + same_length i) s)
        (only_if (le-leb 1 (length field) (omega (arith, same_length)) i && le-leb (length field) 64 (omega (arith, same_length)) i && is_named.is_visible i && not (e i)) (text (is_named.is_run i))))
        ∙ ap (λ t. Some (record { value = text t; rest = drop (p + length run) s })) (sym (each_part s p (length run) inside ∙ run_take (drop p s)))
      where
        inside : p + length run ≤ length s
        inside = omega (arith, run_within (drop p s), length-drop p s, least)

-- ------------------------------------------------------------------ `-`

module _ (s : Text) (e : ℕ) where
  dash_out : field_of (drop e s) ≡ [] → false ≡ is_dash (field_of (drop e s))
  unfolding eq_numbers
  dash_out q = ap is_dash (sym q)

  dash_other : e < length s → eqb (get_or s e 0) 45 ≡ false → false ≡ is_dash (field_of (drop e s))
  unfolding eq_numbers
  dash_other h n = by (stops (get_or s e 0)) refl
    where
      by : (t : Bool) → stops (get_or s e 0) ≡ t → false ≡ is_dash (field_of (drop e s))
      by true q = dash_out (field_stop s e h q)
      by false q = sym (ap is_dash (field_more s e h q) ∙ (λ i. elim (n i) [ true ↦ eq_numbers (field_of (drop (e + 1) s)) [] | false ↦ false ]))

  dash_by : e < length s → get_or s e 0 ≡ 45 → is_empty (field_of (drop (e + 1) s)) ≡ is_dash (field_of (drop e s))
  unfolding eq_numbers
  dash_by h z = sym (ap is_dash (field_more s e h (ap stops z)) ∙ (λ i. elim (eq-eqb (get_or s e 0) 45 z i) [ true ↦ eq_numbers (field_of (drop (e + 1) s)) [] | false ↦ false ]) ∙ empty (field_of (drop (e + 1) s)))
    where
      empty : (t : Text) → eq_numbers t [] ≡ is_empty t
      empty [] = refl
      empty (b ∷ t) = refl

  -- a `-` stands here, or another byte or none
  pub dash_here : begins 45 (drop e s) ≡ true → is_empty (field_of (drop (e + 1) s)) ≡ is_dash (field_of (drop e s))
  dash_here h = dash_by (begins_in 45 s e h) (eqb-true (get_or s e 0) 45 (sym (ap (begins 45) (here s e (begins_in 45 s e h))) ∙ h))

  pub dash_none : begins 45 (drop e s) ≡ false → false ≡ is_dash (field_of (drop e s))
  dash_none h = by (leb (suc e) (length s)) refl
    where
      by : (q : Bool) → leb (suc e) (length s) ≡ q → false ≡ is_dash (field_of (drop e s))
      by true t = let inside = leb-true (suc e) (length s) t in dash_other (omega (arith, inside)) (sym (ap (begins 45) (here s e (omega (arith, inside)))) ∙ h)
      by false f = dash_out (field_out s e (omega (arith, leb-false (suc e) (length s) f)))

  -- a field that is `-` has one byte
  pub dash_one : is_dash (field_of (drop e s)) ≡ true → field_of (drop e s) ≡ 45 ∷ []
  dash_one q = eq_numbers_sound (field_of (drop e s)) (45 ∷ []) q

  -- `-`, and what is left behind it
  behind_dash : (f : Text → Option Value) → is_dash (field_of (drop e s)) ≡ true → field_as f (drop e s) ≡ reading (drop (e + 1) s) (f (field_of (drop e s)))
  behind_dash f q = by_place s e f ∙ ap (λ n. reading (drop (e + n) s) (f (field_of (drop e s)))) (ap length (dash_one q))

  pub or_dash_yes : (f : Text → Option Value) → is_dash (field_of (drop e s)) ≡ true
      → field_as (λ t. or_dash t (f t)) (drop e s) ≡ Some (record { value = absent; rest = drop (e + 1) s })
  unfolding or_dash
  or_dash_yes f q =
      behind_dash (λ t. or_dash t (f t)) q
      ∙ (λ i. reading (drop (e + 1) s) (elim (q i) [ true ↦ Some absent | false ↦ f (field_of (drop e s)) ]))

  pub or_dash_no : (f : Text → Option Value) → is_dash (field_of (drop e s)) ≡ false → field_as (λ t. or_dash t (f t)) (drop e s) ≡ field_as f (drop e s)
  unfolding or_dash field_as
  or_dash_no f q = λ i. reading (behind (drop e s)) (elim (q i) [ true ↦ Some absent | false ↦ f (field_of (drop e s)) ])

  pub unused_yes : is_dash (field_of (drop e s)) ≡ true → field_as (value_of Kind.Unused) (drop e s) ≡ Some (record { value = absent; rest = drop (e + 1) s })
  unfolding value_of
  unused_yes q = behind_dash (value_of Kind.Unused) q ∙ ap (λ b. reading (drop (e + 1) s) (only_if b absent)) q

  pub unused_no : is_dash (field_of (drop e s)) ≡ false → field_as (value_of Kind.Unused) (drop e s) ≡ None
  unfolding value_of field_as
  unused_no q = ap (λ b. reading (behind (drop e s)) (only_if b absent)) q

  maybe_number_yes : is_dash (field_of (drop e s)) ≡ true → field_as (value_of Kind.MaybeNumber) (drop e s) ≡ Some (record { value = absent; rest = drop (e + 1) s })
  unfolding value_of
  maybe_number_yes q = or_dash_yes (λ t. numbered (number_of 65535 t)) q

  pub maybe_number_no : is_dash (field_of (drop e s)) ≡ false → field_as (value_of Kind.MaybeNumber) (drop e s) ≡ field_as (λ t. numbered (number_of 65535 t)) (drop e s)
  unfolding value_of
  maybe_number_no q = or_dash_no (λ t. numbered (number_of 65535 t)) q

  maybe_name_yes : is_dash (field_of (drop e s)) ≡ true → field_as (value_of Kind.MaybeName) (drop e s) ≡ Some (record { value = absent; rest = drop (e + 1) s })
  unfolding value_of
  maybe_name_yes q = or_dash_yes name_value q

  pub maybe_name_no : is_dash (field_of (drop e s)) ≡ false → field_as (value_of Kind.MaybeName) (drop e s) ≡ field_as name_value (drop e s)
  unfolding value_of
  maybe_name_no q = or_dash_no name_value q

  -- a `-` that the kind allows
  pub absent_yes : (k : Kind) → (may_be_absent k && is_dash (field_of (drop e s))) ≡ true
      → field_as (value_of k) (drop e s) ≡ Some (record { value = absent; rest = drop (e + 1) s })
  absent_yes Kind.Nothing q = absurd (false≢true q)
  absent_yes Kind.Number q = absurd (false≢true q)
  absent_yes Kind.MaybeNumber q = maybe_number_yes q
  absent_yes Kind.Position q = absurd (false≢true q)
  absent_yes Kind.Size q = absurd (false≢true q)
  absent_yes Kind.Name q = absurd (false≢true q)
  absent_yes Kind.MaybeName q = maybe_name_yes q
  absent_yes Kind.UnaryOp q = absurd (false≢true q)
  absent_yes Kind.BinaryOp q = absurd (false≢true q)
  absent_yes Kind.Unused q = unused_yes q
