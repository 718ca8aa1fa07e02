-- What the answers stand for: a text is a part of the file s, and what is left of a line begins where the field ends. Assumes nothing.
use Rattle.std.specs.Prelude.{ℕ, Bool, ◌+◌, ◌-◌, ◌<◌, ◌≤◌, true, false, ◌&&◌, [], ◌∷◌, leb, length, take, drop}
use Rattle.std.specs.Prelude.{Option, None, Some}
use Rattle.model.specs.Common.{Text, let_some}
use Rattle.records.specs.Layout.{bytes_at}
use Rattle.format.specs.Fields as format
use Rattle.format.specs.declared.Kind.{Kind}
use Rattle.fields.specs.declared.Value.{Value}
use Rattle.format.specs.Lines as lines
use Rattle.fields.specs.declared.Slot.{Slot}
use Rattle.fields.specs.declared.FieldHere.{FieldHere}
use Rattle.fields.specs.declared.WordRead.{WordRead}

abbrev pub value_is : Text → Value → format.Value
value_is s Value.Absent = format.Value.absent
value_is s (Value.Number n) = format.Value.number n
value_is s (Value.Text p n) = format.Value.text (bytes_at s p n)

abbrev pub slot_is : Text → Option Slot → Option format.Read
slot_is s None = None
slot_is s (Some r) = Some (record { value = value_is s r.value; rest = drop r.end s })

-- a field, whatever it holds, is read as its own bytes
abbrev pub field_is : Text → Option FieldHere → Option (lines.WordRead Text)
field_is s None = None
field_is s (Some f) = Some (record { word = take (f.end - f.from) (drop f.from s); rest = drop f.end s })

-- so that a field behind the tab at `at` can be lent as a part of the file
abbrev pub Lendable : Text → ℕ → Option FieldHere → Type 0
Lendable s at None = Unit {0}
Lendable s at (Some f) = (at < f.from) × (f.from ≤ f.end) × (f.end ≤ length s)

abbrev pub word_is : {A : Type 0} → Text → Option (WordRead A) → Option (lines.WordRead A)
word_is s None = None
word_is s (Some w) = Some (record { word = w.word; rest = drop w.end s })

-- a word ends behind the tab at `at` and within the file
abbrev pub Inside : {A : Type 0} → Text → ℕ → Option (WordRead A) → Type 0
Inside s at None = Unit {0}
Inside s at (Some w) = (at < w.end) × (w.end ≤ length s)

-- the field that begins here, read by f
unfoldable pub field_as : (Text → Option format.Value) → Text → Option format.Read
field_as f t = format.reading (format.behind t) (f (format.field_of t))

-- "`-`, which means absent", may stand there
abbrev pub may_be_absent : Kind → Bool
may_be_absent Kind.Nothing = false
may_be_absent Kind.Number = false
may_be_absent Kind.MaybeNumber = true
may_be_absent Kind.Position = false
may_be_absent Kind.Size = false
may_be_absent Kind.Name = false
may_be_absent Kind.MaybeName = true
may_be_absent Kind.UnaryOp = false
may_be_absent Kind.BinaryOp = false
may_be_absent Kind.Unused = true

-- a number at most `most` whose first digits were n, and whose other digits stand from e on
unfoldable pub scanned : ℕ → ℕ → Text → ℕ → Option format.Read
scanned most n s e =
    format.reading (drop (e + length (format.field_of (drop e s))) s)
    (format.numbered (let_some (format.digits n (format.field_of (drop e s))) None λ m. format.only_if (leb m most) m))

-- the bytes from 21 to 7E that stand here, up to the first other one
unfoldable pub visible_run : Text → Text
visible_run [] = []
visible_run (b ∷ t) = elim (leb 33 b && leb b 126) [ true ↦ b ∷ visible_run t | false ↦ [] ]
