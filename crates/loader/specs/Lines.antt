-- A line that was read and written as the next row of its kind. Assumes nothing.
use Rattle.std.specs.Prelude.{ℕ, ◌+◌, ◌*◌, ◌≤◌, ◌≡◌, List, Bool, true, false, not, eqb, length, drop}
use Rattle.std.specs.Prelude.{Option, None, Some}
use Rattle.model.specs.Common.{Text}
use Rattle.model.specs.Limits.{max_items}
use Rattle.format.specs.declared.Kind.{Kind}
use Rattle.format.specs.declared.Shape.{Shape}
use Rattle.format.specs.declared.ScopeWord.{ScopeWord}
use Rattle.format.specs.declared.DefinitionWord.{DefinitionWord}
use Rattle.format.specs.declared.LineWord.{LineWord}
use Rattle.format.specs.Tails as tails
use Rattle.format.specs.Lines.{Entry, entry_items, origin_here, line_from}
use Rattle.records.specs.Layout.{origin_by}
use Rattle.loader.specs.Values.{parts, value_by}
use Rattle.loader.specs.Items.{items_by, Behind}
use Rattle.loader.specs.State.{row_entry, Left, Begins, counts_after}
use Rattle.loader.specs.declared.rows.Counts.{Counts}
use Rattle.loader.specs.declared.items.ItemsRead.{ItemsRead}
use Rattle.loader.specs.declared.rows.OriginWords.{OriginWords}
use Rattle.loader.specs.declared.rows.Tail.{Tail}

-- ------------------------------------------------------------------ what stands behind a word

-- the fields' words and the list's hold what the definition reads
abbrev pub tail_by : Text → Shape → Tail → List tails.Item → tails.Tail
tail_by file shape x list =
    record {
      a = value_by shape.a file (parts x.a);
      b = value_by shape.b file (parts x.b);
      c = value_by shape.c file (parts x.c);
      list = list;
      rest = drop x.items.end file;
    }

pub record TailHeld (file words : List ℕ) (shape : Shape) (t : Text) (first : ℕ) (x : Tail) : Type 0 where
  pub list : List tails.Item
  pub is : tails.tail shape t ≡ Some (tail_by file shape x list)
  pub counts : length list ≡ x.items.count
  pub none : tails.is_empty_list shape.list ≡ true → x.items.count ≡ 0
  pub held : first + x.items.count ≤ max_items → list ≡ items_by shape.list file words first x.items.count
  pub packed : x.items.count ≤ max_items → x.list ≡ first + 65536 * x.items.count

abbrev pub TailIs : List ℕ → List ℕ → Shape → Text → ℕ → Option Tail → Type 0
TailIs file words shape t first None = tails.tail shape t ≡ None
TailIs file words shape t first (Some x) = TailHeld file words shape t first x

pub record TailPut (file words : List ℕ) (shape : Shape) (t : Text) (first : ℕ) (words' : List ℕ) (r : Option Tail) : Type 0 where
  pub behind : Behind first words words'
  pub tail : TailIs file words' shape t first r

-- the last word of a row of T or E: a list's, a size's high word, or the third field's
abbrev pub is_size : Kind → Bool
is_size Kind.Nothing = false
is_size Kind.Number = false
is_size Kind.MaybeNumber = false
is_size Kind.Position = false
is_size Kind.Size = true
is_size Kind.Name = false
is_size Kind.MaybeName = false
is_size Kind.UnaryOp = false
is_size Kind.BinaryOp = false
is_size Kind.Unused = false

abbrev pub last_word : Shape → Tail → ℕ
last_word shape x =
    elim (tails.is_empty_list shape.list) [
      | true ↦ elim (is_size shape.b) [ true ↦ (parts x.b).high | false ↦ (parts x.c).low ]
      | false ↦ x.list
    ]

-- "`module` (with `-` and only then, else 4)": the parent's word, and the word
abbrev pub scope_fits : ℕ → ScopeWord → Bool
scope_fits parent ScopeWord.Module = eqb parent 0
scope_fits parent ScopeWord.Function = not (eqb parent 0)
scope_fits parent ScopeWord.Block = not (eqb parent 0)
scope_fits parent ScopeWord.Loop = not (eqb parent 0)

-- a let without a destructured value has no path: the word, the value's word, how many items the path has
abbrev pub path_fits : DefinitionWord → ℕ → ℕ → Bool
path_fits DefinitionWord.Fn value count = true
path_fits DefinitionWord.Struct value count = true
path_fits DefinitionWord.Const value count = true
path_fits DefinitionWord.Let value count = elim (eqb value 0) [ true ↦ eqb count 0 | false ↦ true ]
path_fits DefinitionWord.Param value count = true
path_fits DefinitionWord.Use value count = true
path_fits DefinitionWord.Loop value count = true

-- ------------------------------------------------------------------ the origin of an expression

pub record OriginHeld (file t : Text) (r : OriginWords) : Type 0 where
  pub is : origin_here t ≡ Some (record { origin = origin_by file r.kind r.link r.value; rest = drop r.end file })
  pub small : r.kind ≤ 5

abbrev pub OriginIs : Text → Text → Option OriginWords → Type 0
OriginIs file t None = origin_here t ≡ None
OriginIs file t (Some r) = OriginHeld file t r

-- ------------------------------------------------------------------ a line

-- its record stands in the next row of its kind, if there is room for its items, and stays there while that row and the items are left
pub record LineHeld (w : LineWord) (file words : List ℕ) (n : Counts) (t : Text) (r : ItemsRead) : Type 0 where
  pub entry : Entry
  pub is : line_from w t ≡ Some (record { entry = entry; rest = drop r.end file })
  pub counts : entry_items entry ≡ r.count
  pub held : n.items + r.count ≤ max_items → entry ≡ row_entry w file words n
  pub stays :
      n.items + r.count ≤ max_items
      → (words' : List ℕ) → Left (counts_after w n r.count) words words' → row_entry w file words' n ≡ row_entry w file words n
  pub begins : Begins w words n

-- how many items the line's list has, and where its fields end
abbrev pub LineIs : LineWord → List ℕ → List ℕ → Counts → Text → Option ItemsRead → Type 0
LineIs w file words n t None = line_from w t ≡ None
LineIs w file words n t (Some r) = LineHeld w file words n t r

pub record LinePut (w : LineWord) (file words : List ℕ) (n : Counts) (t : Text) (words' : List ℕ) (r : Option ItemsRead) : Type 0 where
  pub left : Left n words words'
  pub line : LineIs w file words' n t r
