-- The fields that stand one after the other in a line: up to three, then a list up to the line's end. Assumes nothing.
use Rattle.std.specs.Prelude.{ℕ, zero, suc, List, [], ◌∷◌, Bool, true, false, not, length, eqb}
use Rattle.std.specs.Prelude.{Option, None, Some}
use Rattle.model.specs.Common.{Text, let_some}
use Rattle.format.specs.declared.Kind.{Kind}
use Rattle.format.specs.declared.Listed.{Listed}
use Rattle.format.specs.declared.Shape.{Shape}
use Rattle.format.specs.Fields.{Value, slot}

-- ------------------------------------------------------------------ three fields

pub record Three : Type 0 where
  pub a : Value
  pub b : Value
  pub c : Value
  pub rest : Text

unfoldable pub three : Kind → Kind → Kind → Text → Option Three
three ka kb kc t =
    let_some (slot ka t) None λ a.
    let_some (slot kb a.rest) None λ b.
    let_some (slot kc b.rest) None λ c.
    Some (record { a = a.value; b = b.value; c = c.value; rest = c.rest })

-- ------------------------------------------------------------------ lists: an item has two parts at most

pub record Item : Type 0 where
  pub first : Value
  pub second : Value

-- (of `Empty` nothing is read)
abbrev pub first_kind : Listed → Kind
first_kind Listed.Empty = Kind.Unused
first_kind Listed.Numbers = Kind.Number
first_kind Listed.MaybeNumbers = Kind.MaybeNumber
first_kind Listed.Fields = Kind.Name

abbrev pub second_kind : Listed → Kind
second_kind Listed.Empty = Kind.Nothing
second_kind Listed.Numbers = Kind.Nothing
second_kind Listed.MaybeNumbers = Kind.Nothing
second_kind Listed.Fields = Kind.Number

-- no further field stands here
unfoldable pub at_end : Text → Bool
at_end [] = true
at_end (b ∷ t) = not (eqb b 9)

pub record Items : Type 0 where
  pub list : List Item
  pub rest : Text

abbrev pub no_items : Text → Items
no_items t = record { list = []; rest = t }

abbrev pub with_item : Value → Value → Items → Items
with_item x y r = record { list = record { first = x; second = y } ∷ r.list; rest = r.rest }

-- the items up to the line's end; n bounds how many there are
unfoldable pub items_within : ℕ → Listed → Text → Option Items
items_within zero l t = None
items_within (suc n) l t =
    elim (at_end t) [
      | true ↦ Some (no_items t)
      | false ↦
          let_some (slot (first_kind l) t) None λ x.
          let_some (slot (second_kind l) x.rest) None λ y.
          let_some (items_within n l y.rest) None λ r. Some (with_item x.value y.value r)
    ]

abbrev pub is_empty_list : Listed → Bool
is_empty_list Listed.Empty = true
is_empty_list Listed.Numbers = false
is_empty_list Listed.MaybeNumbers = false
is_empty_list Listed.Fields = false

-- the bytes that are left are more than the items (`items_enough`)
unfoldable pub items : Listed → Text → Option Items
items l t =
    elim (is_empty_list l) [
      | true ↦ elim (at_end t) [ true ↦ Some (no_items t) | false ↦ None ]
      | false ↦ items_within (suc (length t)) l t
    ]

-- ------------------------------------------------------------------ what stands behind a word, up to the line's end

pub record Tail : Type 0 where
  pub a : Value
  pub b : Value
  pub c : Value
  pub list : List Item
  pub rest : Text

unfoldable pub tail : Shape → Text → Option Tail
tail s t =
    let_some (three s.a s.b s.c t) None λ h.
    let_some (items s.list h.rest) None λ r.
    Some (record { a = h.a; b = h.b; c = h.c; list = r.list; rest = r.rest })
