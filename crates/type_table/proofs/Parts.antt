-- Parts of a list, and a list with one element stored. Assumes nothing.
use Prim.Native.Nat.{ℕ, ◌+◌, ◌≤◌, ◌<◌}
use mathlib.Core.Path.{◌≡◌, sym, ap, ◌∙◌}
use mathlib.Core.List.{List}
use native.Mathlib.Omega.{arith}
use lib.ListN.{length, set, drop, length-drop, length-take}
use lib.Seq.{get_or-set_same, get_or-set_other, get_or-take, get_or-drop, length-take-le, ext_get_or}
use Rattle.records.specs.Layout.{word}
use Rattle.type_table.specs.Layout.{part}

pub length_part : (l : List ℕ) (from count : ℕ) → from + count ≤ length l → length (part l from count) ≡ count
length_part l from count fits = length-take-le count (drop from l) (simp length-drop (omega arith))

pub part_at : (l : List ℕ) (from count i : ℕ) → i < count → word (part l from count) i ≡ word l (from + i)
part_at l from count i below = get_or-take count (drop from l) i 0 below ∙ get_or-drop from l i 0

-- a part of words that agree there
pub part_same : (l l' : List ℕ) (from count : ℕ) → from + count ≤ length l → length l' ≡ length l
    → ((j : ℕ) → from ≤ j → j < from + count → word l' j ≡ word l j) → part l' from count ≡ part l from count
part_same l l' from count fits long same =
    ext_get_or 0 (part l' from count) (part l from count) (here ∙ sym (length_part l from count fits))
    (λ i below. part_at l' from count i (within i below) ∙ same (from + i) (omega arith) (reach i (within i below)) ∙ sym (part_at l from count i (within i below)))
  where
    here : length (part l' from count) ≡ count
    here = length_part l' from count (omega arith)

    within : (i : ℕ) → i < length (part l' from count) → i < count
    within i below = omega (arith, here)

    reach : (i : ℕ) → i < count → from + i < from + count
    reach i below = omega arith

-- a part that holds all of src
pub part_is : (l src : List ℕ) (from : ℕ) → from + length src ≤ length l
    → ((j : ℕ) → j < length src → word l (from + j) ≡ word src j) → part l from (length src) ≡ src
part_is l src from fits same =
    ext_get_or 0 (part l from (length src)) src (length_part l from (length src) fits)
    (λ i below. part_at l from (length src) i (within i below) ∙ same i (within i below))
  where
    within : (i : ℕ) → i < length (part l from (length src)) → i < length src
    within i below = omega (arith, length_part l from (length src) fits)

pub set_here : (l : List ℕ) (i v : ℕ) → i < length l → word (set l i v) i ≡ v
set_here l i v below = get_or-set_same l i v 0 below

pub set_there : (l : List ℕ) (i j v : ℕ) → (j ≡ i → ⊥) → word (set l i v) j ≡ word l j
set_there l i j v other = get_or-set_other l i j v 0 other

-- the names are behind the types, so there are no more of them
pub parts_long : (w : List ℕ) (start count : ℕ) (names items : List ℕ) → names ≡ part w (4098 + start) count → items ≡ part w (2050 + start) count
    → length names ≤ length items
parts_long w start count names items en ei =
    omega
    (arith, ap length en, ap length ei, length-take count (drop (4098 + start) w), length-take count (drop (2050 + start) w), length-drop (4098 + start) w, length-drop (2050 + start) w)
