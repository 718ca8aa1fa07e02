-- The store of pairs: no pair is marked in a fresh one, a mark is a bit of its own, and a mark for a compatible pair keeps the store true. Assumes nothing.
use Prim.Native.Nat.{ℕ, zero, suc, ◌+◌, ◌*◌, ◌/◌, ◌%◌, ◌^◌, ◌≤◌, ◌<◌}
use mathlib.Core.Path.{◌≡◌, refl, sym, ap, ap₂, ◌∙◌}
use mathlib.Core.Bool.{Bool, true, false}
use mathlib.Core.List.{List}
use native.Mathlib.Nat.{zero-div}
use native.Mathlib.Omega.{arith}
use borrow.Author.Tests.{eqb-true, eqb-false}
use lib.Bits.{bit_or}
use lib.Dec.{eqb}
use lib.ListN.{length, set, length-set, replicate, length-replicate}
use Rattle.records.specs.Layout.{word}
use Rattle.resolution.specs.Compatible.{are_types_compatible}
use Rattle.type_table.specs.Layout.{type_count, table_of}
use Rattle.type_table.proofs.Parts.{set_here, set_there}
use Rattle.compatibility.specs.Pairs.{mark_at, Marks, Remembers}
use Rattle.compatibility.proofs.Bits.{set_bit, other_bit}

-- no pair is marked
zeros : (n j : ℕ) → word (replicate n 0) j ≡ 0
zeros zero zero = refl
zeros zero (suc j) = refl
zeros (suc n) zero = refl
zeros (suc n) (suc j) = zeros n j

no_mark : (n j : ℕ) → mark_at (replicate n 0) j ≡ 0
no_mark n j = ap (λ w. (w / 2 ^ (j % 32)) % 2) (zeros n (j / 32)) ∙ ap (λ q. q % 2) (zero-div (2 ^ (j % 32)))

pub fresh : (file w : List ℕ) (n : ℕ) → n ≡ 2048 → Remembers file w (replicate n 0)
fresh file w n e = record {
  places = length-replicate {A = ℕ} n 0 ∙ e;
  marked = λ x y hx hy one. absurd (omega (arith, no_mark n (256 * x + y)));
}

-- a bit is set in the word that holds the place: two places that share a word have two bits in it
pub bit_set : (seen : List ℕ) (at p : ℕ) → at < 32 * length seen → p ≡ 2 ^ (at % 32) → Marks seen at (set seen (at / 32) (bit_or (word seen (at / 32)) p))
bit_set seen at p below power = record {
  places = length-set seen (at / 32) (bit_or (word seen (at / 32)) p);
  here = held (at % 32) ∙ set_bit (word seen (at / 32)) (at % 32);
  others = λ j other. go j other (eqb (j / 32) (at / 32)) refl;
}
  where
    held : (b : ℕ) → (word (set seen (at / 32) (bit_or (word seen (at / 32)) p)) (at / 32) / 2 ^ b) % 2 ≡ (bit_or (word seen (at / 32)) (2 ^ (at % 32)) / 2 ^ b) % 2
    held b =
        ap (λ w. (w / 2 ^ b) % 2) (set_here seen (at / 32) (bit_or (word seen (at / 32)) p) (omega arith) ∙ ap (bit_or (word seen (at / 32))) power)

    apart : (j : ℕ) → (j ≡ at → ⊥) → j / 32 ≡ at / 32 → j % 32 ≡ at % 32 → ⊥
    apart j other same bits = other (omega arith)

    go : (j : ℕ) → (j ≡ at → ⊥) → (t : Bool) → eqb (j / 32) (at / 32) ≡ t → mark_at (set seen (at / 32) (bit_or (word seen (at / 32)) p)) j ≡ mark_at seen j
    go j other true h =
        let same = eqb-true _ _ h in
        ap (λ i. (word (set seen (at / 32) (bit_or (word seen (at / 32)) p)) i / 2 ^ (j % 32)) % 2) same ∙ held (j % 32) ∙ other_bit (word seen (at / 32)) (at % 32) (j % 32) (apart j other same)
        ∙ ap (λ i. (word seen i / 2 ^ (j % 32)) % 2) (sym same)
    go j other false h = ap (λ w. (w / 2 ^ (j % 32)) % 2) (set_there seen (at / 32) (j / 32) (bit_or (word seen (at / 32)) p) (eqb-false _ _ h))

-- one pair more
pub mark : (file w seen after : List ℕ) (a e : ℕ) → type_count w ≤ 256 → a < type_count w → e < type_count w → true ≡ are_types_compatible (table_of file w) a e
    → Remembers file w seen → Marks seen (256 * a + e) after → Remembers file w after
mark file w seen after a e small ha he good old new = record {
  places = new.places ∙ old.places;
  marked = λ x y hx hy one. go x y hx hy one (eqb (256 * x + y) (256 * a + e)) refl;
}
  where
    first : (x y p q : ℕ) → y < 256 → q < 256 → 256 * x + y ≡ 256 * p + q → x ≡ p
    first x y p q hy hq same = omega arith

    second : (x y p q : ℕ) → y < 256 → q < 256 → 256 * x + y ≡ 256 * p + q → y ≡ q
    second x y p q hy hq same = omega (arith, first x y p q hy hq same)

    go : (x y : ℕ) → x < type_count w → y < type_count w → mark_at after (256 * x + y) ≡ 1 → (b : Bool) → eqb (256 * x + y) (256 * a + e) ≡ b
        → are_types_compatible (table_of file w) x y ≡ true
    go x y hx hy one true h =
        ap₂ (are_types_compatible (table_of file w)) (first x y a e (omega arith) (omega arith) (eqb-true _ _ h)) (second x y a e (omega arith) (omega arith) (eqb-true _ _ h)) ∙ sym good
    go x y hx hy one false h = old.marked x y hx hy (sym (new.others (256 * x + y) (eqb-false _ _ h)) ∙ one)
