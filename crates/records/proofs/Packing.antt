-- For whoever writes the words: what a packed word holds. Assumes nothing.
use mathlib.Core.Path.{◌≡◌, refl, sym, ap, ◌∙◌}
use Prim.Native.Nat.{ℕ, zero, suc, ◌+◌, ◌*◌, ◌/◌, ◌%◌, ◌≤◌, ◌<◌}
use native.Mathlib.Omega.{arith}
use mathlib.Core.List.{List, ◌∷◌}
use Rattle.std.specs.Prelude.{Some}
use lib.ListN.{length, take, drop}
use lib.Seq.{drop-cons}
use Rattle.records.specs.Layout.{word, each, link_by, start_of, length_of, name_by, suffix_by}

pub start_packed : (start length : ℕ) → start < 65536 → start_of (start + 65536 * length) ≡ start
start_packed start length h = omega arith

pub length_packed : (start length : ℕ) → start < 65536 → length_of (start + 65536 * length) ≡ length
length_packed start length h = omega arith

pub node_packed : (node origin : ℕ) → node < 256 → (node + 256 * origin) % 256 ≡ node
node_packed node origin h = omega arith

pub origin_packed : (node origin : ℕ) → node < 256 → (node + 256 * origin) / 256 ≡ origin
origin_packed node origin h = omega arith

pub link_packed : (n : ℕ) → link_by (n + 1) ≡ Some n
link_packed n = ap link_by (next n)
  where
    next : (n : ℕ) → n + 1 ≡ suc n
    next n = omega arith

-- the bytes from a place on are a part of the list
pub each_part : (l : List ℕ) (start count : ℕ) → start + count ≤ length l → each (word l) start count ≡ take count (drop start l)
unfolding each
each_part l start zero h = refl
each_part l start (suc count) h =
    ap (λ r. word l start ∷ r) (each_part l (suc start) count (tail start count (length l) h))
    ∙ sym (ap (take (suc count)) (drop-cons l start 0 (head start count (length l) h)))
  where
    head : (a b n : ℕ) → a + suc b ≤ n → a < n
    head a b n h = omega arith

    tail : (a b n : ℕ) → a + suc b ≤ n → suc a + b ≤ n
    tail a b n h = omega arith

-- a name that is there is no `-`
pub suffix_packed : (file : List ℕ) (v : ℕ) → 0 < v → suffix_by file v ≡ Some (name_by file v)
unfolding suffix_by
suffix_packed file zero h = absurd (None h)
  where
    None : 0 < 0 → ⊥
    None h = omega arith
suffix_packed file (suc v) h = refl
