-- Texts written one behind the other: what `Wrote` says of one, of two in a row and of the bytes around them. Assumes nothing.
use Prim.Native.Nat.{ℕ, ◌+◌, ◌-◌, ◌≤◌}
use mathlib.Core.Path.{◌≡◌, refl, sym, ap, ap₂, subst, ◌∙◌}
use mathlib.Core.List.{List, [], ◌++◌, append_assoc, append-nil}
use native.Mathlib.Nat.{add-zero, add_assoc, le_refl, le_trans, le-add_right}
use native.Mathlib.Omega.{arith}
use borrow.Rule.Slice.PartMut.{put_mid}
use lib.ListN.{length, take, drop, length-append, take-append-drop}
use lib.Seq.{take-length, take_at, drop_at, drop-drop, length-take-le, length-paste, paste}
use Rattle.type_text.specs.Text.{put_at, Wrote, Writes}
use Rattle.type_text.specs.declared.Writer.{Writer}

pub pasted : (out text : List ℕ) (at : ℕ) → paste out at text (length text) ≡ put_at out at text
unfolding put_at
pasted out text at = ap (λ l. take at out ++ l ++ drop (at + length text) out) (take-length text)

pub length_put : (out text : List ℕ) (at : ℕ) → at + length text ≤ length out → length (put_at out at text) ≡ length out
length_put out text at room = ap length (sym (pasted out text at)) ∙ length-paste out at text (length text) room (le_refl (length text))

-- a part of the bytes with a text in its place
pub put_mid_is : (out text : List ℕ) (at : ℕ) → put_mid at (at + length text - at) out text ≡ put_at out at text
unfolding put_at
put_mid_is out text at =
    let same : at + length text - at ≡ length text = omega arith in
    ap (λ k. take at out ++ (text ++ drop k (drop at out))) same
    ∙ ap (λ l. take at out ++ (text ++ l)) (drop-drop (length text) at out)
    ∙ sym (append_assoc (take at out) text (drop (at + length text) out))

put_none : (out : List ℕ) (at : ℕ) → put_at out at [] ≡ out
unfolding put_at
put_none out at =
    ap₂ (λ x n. x ++ drop n out) (append-nil (take at out)) (add-zero at) ∙ take-append-drop at out

put_put : (out s t : List ℕ) (at : ℕ) → at ≤ length out → put_at (put_at out at s) (at + length s) t ≡ put_at out at (s ++ t)
unfolding put_at
put_put out s t at room =
    ap₂ (λ x y. x ++ t ++ y) front back
    ∙ ap₂ (λ x n. x ++ drop n out) (append_assoc (take at out) s t) (add_assoc at (length s) (length t) ∙ ap (λ n. at + n) (sym (length-append s t)))
  where
    head : length (take at out ++ s) ≡ at + length s
    head = length-append (take at out) s ∙ ap (λ n. n + length s) (length-take-le at out room)

    front : take (at + length s) (take at out ++ s ++ drop (at + length s) out) ≡ take at out ++ s
    front = take_at (take at out ++ s) (drop (at + length s) out) (at + length s) head

    back : drop (at + length s + length t) (take at out ++ s ++ drop (at + length s) out) ≡ drop (at + length s + length t) out
    back =
        sym (drop-drop (length t) (at + length s) (take at out ++ s ++ drop (at + length s) out))
        ∙ ap (drop (length t)) (drop_at (take at out ++ s) (drop (at + length s) out) (at + length s) head)
        ∙ drop-drop (length t) (at + length s) out

pub wrote_none : (out : List ℕ) (at : ℕ) → Wrote [] at out out at
wrote_none out at = record { bytes = sym (put_none out at); next = sym (add-zero at) }

pub wrote_then : (s t : List ℕ) (at a b : ℕ) (o o₁ o₂ : List ℕ) → at ≤ length o → Wrote s at o o₁ a → Wrote t a o₁ o₂ b → Wrote (s ++ t) at o o₂ b
wrote_then s t at a b o o₁ o₂ room one two = record {
  bytes = two.bytes ∙ ap₂ (λ x n. put_at x n t) one.bytes one.next ∙ put_put o s t at room;
  next = two.next ∙ ap (λ n. n + length t) one.next ∙ add_assoc at (length s) (length t) ∙ ap (λ n. at + n) (sym (length-append s t));
}

pub wrote_length : (s : List ℕ) (at a : ℕ) (o o₁ : List ℕ) → at + length s ≤ length o → Wrote s at o o₁ a → length o₁ ≡ length o
wrote_length s at a o o₁ room one = ap length one.bytes ∙ length_put o s at room

pub wrote_as : (s t : List ℕ) (at a : ℕ) (o o₁ : List ℕ) → s ≡ t → Wrote s at o o₁ a → Wrote t at o o₁ a
wrote_as s t at a o o₁ same one = subst (λ (l : List ℕ). Wrote l at o o₁ a) same one

-- the bytes up to the place behind are those before, and the text
pub wrote_take : (s : List ℕ) (at a : ℕ) (o o₁ : List ℕ) → at + length s ≤ length o → Wrote s at o o₁ a → take a o₁ ≡ take at o ++ s
unfolding put_at
wrote_take s at a o o₁ room one =
    ap₂ take one.next one.bytes
    ∙ take_at (take at o ++ s) (drop (at + length s) o) (at + length s) (length-append (take at o) s ∙ ap (λ n. n + length s) (length-take-le at o (le_trans (le-add_right at (length s)) room)))

-- ------------------------------------------------------------------ the same of a writer

pub writes_put : (text : List ℕ) (w w' : Writer) → w.at + length text ≤ length w.out.now → Wrote text w.at w.out.now w'.out.now w'.at → w'.out.ghost_name ≡ w.out.ghost_name → Writes text w w'
writes_put text w w' room wrote same = record { wrote = wrote; long = wrote_length text w.at w'.at w.out.now w'.out.now room wrote; same_buffer = same }

pub writes_none : (w : Writer) → Writes [] w w
writes_none w = record { wrote = wrote_none w.out.now w.at; long = refl; same_buffer = refl }

pub writes_then : (s t : List ℕ) (w w₁ w₂ : Writer) → w.at ≤ length w.out.now → Writes s w w₁ → Writes t w₁ w₂ → Writes (s ++ t) w w₂
writes_then s t w w₁ w₂ room one two = record {
  wrote = wrote_then s t w.at w₁.at w₂.at w.out.now w₁.out.now w₂.out.now room one.wrote two.wrote;
  long = two.long ∙ one.long;
  same_buffer = two.same_buffer ∙ one.same_buffer;
}

pub writes_as : (s t : List ℕ) (w w₁ : Writer) → s ≡ t → Writes s w w₁ → Writes t w w₁
writes_as s t w w₁ same one = subst (λ (l : List ℕ). Writes l w w₁) same one

-- what a writer that began at a buffer's start leaves there, where these are the bytes in the end
pub from_start : (text out out' : List ℕ) (w w' : Writer) → w.out.now ≡ out → w.at ≡ 0 → out' ≡ w'.out.now → Writes text w w' → Wrote text 0 out out' w'.at
from_start text out out' w w' begun at ends writes = record {
  bytes = ends ∙ writes.wrote.bytes ∙ ap₂ (λ o n. put_at o n text) begun at;
  next = writes.wrote.next ∙ ap (λ n. n + length text) at;
}

-- the bytes up to its place are then the text
pub start_is : (text out out' : List ℕ) (w w' : Writer) → w.out.now ≡ out → w.at ≡ 0 → out' ≡ w'.out.now → w.at + length text ≤ length w.out.now → Writes text w w' → take w'.at out' ≡ text
start_is text out out' w w' begun at ends room writes =
    wrote_take text 0 w'.at out out' (omega (arith, room, at, ap length begun)) (from_start text out out' w w' begun at ends writes)
