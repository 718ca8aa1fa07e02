-- Laws of the forms of a word. Assumes nothing.
use mathlib.Core.Path.{◌≡◌, refl, sym, ap, ap₂}
use Prim.Native.Nat.{ℕ, zero, suc}
use mathlib.Core.List.{List}
use Rattle.std.specs.Prelude.{None, Some}
use Rattle.records.specs.Layout.{bytes_at, start_of, length_of, name_by, suffix_by}

pub suffix_none : (file : List ℕ) (v : ℕ) → v ≡ 0 → None ≡ suffix_by file v
unfolding suffix_by
suffix_none file v h = ap (suffix_by file) (sym h)

pub name_parts : (file : List ℕ) (v start length : ℕ) → start ≡ start_of v → length ≡ length_of v → bytes_at file start length ≡ name_by file v
unfolding name_by
name_parts file v start length hs hl = ap₂ (bytes_at file) hs hl

pub suffix_some : (file : List ℕ) (v : ℕ) → (v ≡ 0 → ⊥) → Some (name_by file v) ≡ suffix_by file v
unfolding suffix_by
suffix_some file zero h = absurd (h refl)
suffix_some file (suc v) h = refl
