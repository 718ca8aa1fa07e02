-- The list at a line's end, and its items in the words. Assumes nothing.
use Rattle.std.specs.Prelude.{ℕ, ◌+◌, ◌≤◌, ◌<◌, ◌≡◌, List, Bool, true, false, length, drop}
use Rattle.std.specs.Prelude.{Option, None, Some}
use Rattle.model.specs.Common.{Text, let_some}
use Rattle.model.specs.Limits.{max_items}
use Rattle.format.specs.declared.Listed.{Listed}
use Rattle.format.specs.Fields.{slot}
use Rattle.format.specs.Tails.{Item, items, first_kind, second_kind}
use Rattle.records.specs.Layout.{word, each, item_place, item_value, item_name}
use Rattle.loader.specs.Values.{Words, value_by}
use Rattle.loader.specs.declared.items.ItemWords.{ItemWords}
use Rattle.loader.specs.declared.items.ItemsRead.{ItemsRead}

-- ------------------------------------------------------------------ one item

pub record ItemHere : Type 0 where
  pub item : Item
  pub rest : Text

-- the item that stands here, as `items_within` reads it
unfoldable pub item_here : Listed → Text → Option ItemHere
item_here l t =
    let_some (slot (first_kind l) t) None λ x.
    let_some (slot (second_kind l) x.rest) None λ y. Some (record { item = record { first = x.value; second = y.value }; rest = y.rest })

-- its first part is a name
abbrev pub is_named : Listed → Bool
is_named Listed.Empty = false
is_named Listed.Numbers = false
is_named Listed.MaybeNumbers = false
is_named Listed.Fields = true

-- a name stands in the second word of an item's row, all else in the first
abbrev pub first_word : Listed → ℕ → ℕ → ℕ
first_word Listed.Empty value name = value
first_word Listed.Numbers value name = value
first_word Listed.MaybeNumbers value name = value
first_word Listed.Fields value name = name

abbrev pub one_word : ℕ → Words
one_word w = record { low = w; high = 0 }

abbrev pub item_by : Listed → Text → ℕ → ℕ → Item
item_by l file value name =
    record { first = value_by (first_kind l) file (one_word (first_word l value name)); second = value_by (second_kind l) file (one_word value) }

-- an item's two words, and where it ends
abbrev pub item_words_is : Listed → Text → Option ItemWords → Option ItemHere
item_words_is l file None = None
item_words_is l file (Some r) = Some (record { item = item_by l file r.value r.name; rest = drop r.end file })

-- ------------------------------------------------------------------ the items of a list

abbrev pub item_row : Listed → Text → List ℕ → ℕ → Item
item_row l file words i = item_by l file (item_value words i) (item_name words i)

unfoldable pub items_by : Listed → Text → List ℕ → ℕ → ℕ → List Item
items_by l file words first count = each (item_row l file words) first count

-- the words of item rows from `first` on may have changed, no other word
pub record Behind (first : ℕ) (words words' : List ℕ) : Type 0 where
  pub long : length words' ≡ length words
  pub same : (i : ℕ) → i < item_place first → word words' i ≡ word words i

-- an item's row, if there is room for it
pub record ItemPut (words : List ℕ) (i value name : ℕ) (words' : List ℕ) : Type 0 where
  pub behind : Behind i words words'
  pub put_value : i < max_items → item_value words' i ≡ value
  pub put_name : i < max_items → item_name words' i ≡ name

-- a list that was read: its items stand in the rows from `first` on, if there is room for all
pub record ItemsHeld (file words : List ℕ) (l : Listed) (t : Text) (first : ℕ) (r : ItemsRead) : Type 0 where
  pub list : List Item
  pub is : items l t ≡ Some (record { list = list; rest = drop r.end file })
  pub counts : length list ≡ r.count
  pub held : first + r.count ≤ max_items → list ≡ items_by l file words first r.count

-- how many items there are, and where they end
abbrev pub ItemsAre : List ℕ → List ℕ → Listed → Text → ℕ → Option ItemsRead → Type 0
ItemsAre file words l t first None = items l t ≡ None
ItemsAre file words l t first (Some r) = ItemsHeld file words l t first r

pub record ItemsPut (file words : List ℕ) (l : Listed) (t : Text) (first : ℕ) (words' : List ℕ) (r : Option ItemsRead) : Type 0 where
  pub behind : Behind first words words'
  pub are : ItemsAre file words' l t first r
