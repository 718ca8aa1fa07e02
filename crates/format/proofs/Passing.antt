-- A step of the first pass that is not refused: the line that was read, and what was tested. Assumes nothing.
use Prim.Native.Nat.{ℕ, ◌+◌, ◌≤◌}
use mathlib.Core.Path.{◌≡◌, refl, sym, ap, subst}
use mathlib.Core.Bool.{Bool, true, false, not, ◌&&◌}
use mathlib.Core.List.{[], ◌∷◌}
use Rattle.std.specs.Prelude.{Option, None, Some}
use lib.Dec.{eqb, ltb}
use Rattle.std.specs.Prelude.{if◌then◌else◌}
use Rattle.model.specs.Common.{Text, let_some}
use Rattle.model.specs.Records.{Index}
use Rattle.model.specs.Limits.{max_items, item_count}
use Rattle.model.proofs.Tests.{eqb_sound, ltb-false, not-true, and_right}
use Rattle.format.specs.declared.LineWord.{LineWord}
use Rattle.format.specs.Words.{line_word_of}
use Rattle.format.specs.Fields.{field_of, behind}
use Rattle.format.specs.Lines.{entry_items, Line, line_from}
use Rattle.format.specs.FirstPass.{add, has_line_room, stage_of, in_place, is_again, Seen, Step, refuse, go, ended, judged, counted, step_on}
use Rattle.format.proofs.Reading.{every_some, EntryOf, every_line}

-- a line of kind w was read at t, and its record added to the index; an LF and `rest` are left
pub record Added (w : LineWord) (index : Index) (t : Text) (after : Index) (rest : Text) : Type 0 where
  pub line : Line
  pub read : line_from w t ≡ Some line
  pub entry_of : EntryOf w line.entry
  pub room : has_line_room w index ≡ true
  pub items : item_count index + entry_items line.entry ≤ max_items
  pub new : is_again line.entry index ≡ false
  pub is_added : add line.entry index ≡ after
  pub ends : line.rest ≡ 10 ∷ rest

-- ------------------------------------------------------------------ no refusal

abbrev Goes : Step → Type 0
Goes (refuse k) = ⊥
Goes (go s t) = Unit {0}

refuse≢go : {k : ℕ} {s : Seen} {t : Text} → refuse k ≡ go s t → ⊥
refuse≢go e = subst Goes (sym e) tt

abbrev seen_after : Step → Seen → Seen
seen_after (refuse k) s = s
seen_after (go s₁ t) s = s₁

abbrev text_after : Step → Text
text_after (refuse k) = []
text_after (go s t) = t

not_refused : (b : Bool) (k : ℕ) (x : Step) (s : Seen) (t : Text) → (if b then refuse k else x) ≡ go s t → (b ≡ false) × (x ≡ go s t)
not_refused true k x s t e = absurd (refuse≢go e)
not_refused false k x s t e = (refl, e)

passed : (b : Bool) (k : ℕ) (x : Step) (s : Seen) (t : Text) → (if b then x else refuse k) ≡ go s t → (b ≡ true) × (x ≡ go s t)
passed true k x s t e = (refl, e)
passed false k x s t e = absurd (refuse≢go e)

guarded : (b : Bool) (k : ℕ) (x : Step) (s : Seen) (t : Text) → elim b [ true ↦ x | false ↦ refuse k ] ≡ go s t → (b ≡ true) × (x ≡ go s t)
guarded true k x s t e = (refl, e)
guarded false k x s t e = absurd (refuse≢go e)

ended_go : (s : Seen) (t : Text) (s₁ : Seen) (t₁ : Text) → ended s t ≡ go s₁ t₁ → (s ≡ s₁) × (t ≡ 10 ∷ t₁)
ended_go s [] s₁ t₁ e = absurd (refuse≢go e)
ended_go s (b ∷ t) s₁ t₁ e =
    let (lf, same) = passed (eqb b 10) 4 (go s t) s₁ t₁ e in (ap (λ x. seen_after x s) same, λ i. eqb_sound b 10 lf i ∷ text_after (same i))

judged_go : (w : LineWord) (s : Seen) (t : Text) (s₁ : Seen) (t₁ : Text) → has_line_room w s.index ≡ true → judged w s (line_from w t) ≡ go s₁ t₁
    → Added w s.index t s₁.index t₁
judged_go w s t s₁ t₁ room e = at_line (line_from w t) refl e
  where
    at_line : (o : Option Line) → line_from w t ≡ o → judged w s o ≡ go s₁ t₁ → Added w s.index t s₁.index t₁
    at_line None r h = absurd (refuse≢go h)
    at_line (Some l) r h =
        let (few, h₁) = not_refused (ltb max_items (item_count s.index + entry_items l.entry)) 3 _ s₁ t₁ h in
        let (right, h₂) = passed (in_place w s.stage && not (is_again l.entry s.index)) 4 _ s₁ t₁ h₁ in
        let (same, rest) = ended_go (record { stage = stage_of w; index = add l.entry s.index }) l.rest s₁ t₁ h₂ in
        record {
          line = l;
          read = r;
          entry_of = every_some (every_line w t) r;
          room = room;
          items = ltb-false max_items (item_count s.index + entry_items l.entry) few;
          new = not-true (is_again l.entry s.index) (and_right (in_place w s.stage) (not (is_again l.entry s.index)) right);
          is_added = ap (λ x. x.index) same;
          ends = rest;
        }

-- the line's first field is one of the six words, and the line that is added is of that kind
pub step_go : (s : Seen) (t : Text) (s₁ : Seen) (t₁ : Text) → step_on s t ≡ go s₁ t₁
    → (w : LineWord) × (line_word_of (field_of t) ≡ Some w) × Added w s.index (behind t) s₁.index t₁
unfolding step_on
step_go s t s₁ t₁ e = at_word (line_word_of (field_of t)) refl e
  where
    at_word : (o : Option LineWord) → line_word_of (field_of t) ≡ o → (let_some o (refuse 4) λ w. counted w s (behind t)) ≡ go s₁ t₁
        → (w : LineWord) × (line_word_of (field_of t) ≡ Some w) × Added w s.index (behind t) s₁.index t₁
    at_word None is h = absurd (refuse≢go h)
    at_word (Some w) is h =
        let (room, h₁) = guarded (has_line_room w s.index) 3 (judged w s (line_from w (behind t))) s₁ t₁ h in
        (w, is, judged_go w s (behind t) s₁ t₁ room h₁)
