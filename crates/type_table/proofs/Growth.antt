-- A table that grows: no step, and one step after another. Assumes nothing.
use Prim.Native.Nat.{ℕ}
use mathlib.Core.Path.{refl, ◌∙◌}
use mathlib.Core.List.{List}
use native.Mathlib.Nat.{le_refl, le_trans}
use native.Mathlib.Omega.{arith}
use Rattle.type_table.specs.Layout.{type_count, item_count}
use Rattle.type_table.specs.Promises.{Grows}

pub grows_refl : (w : List ℕ) → Grows w w
grows_refl w = record { types = le_refl (type_count w); items = le_refl (item_count w); kept = λ j low high. refl; rest = refl; same_length = refl }

pub grows_trans : {a b c : List ℕ} → Grows a b → Grows b c → Grows a c
grows_trans {a} {b} {c} g h = record {
  types = le_trans g.types h.types;
  items = le_trans g.items h.items;
  kept = λ j low high. h.kept j low (omega (arith, g.items)) ∙ g.kept j low high;
  rest = h.rest ∙ g.rest;
  same_length = h.same_length ∙ g.same_length;
}
