-- A number is read as what was packed into it; and what `load` ends in fits. Assumes nothing.
use Prim.Native.Nat.{ℕ, ◌+◌, ◌*◌, ◌/◌, ◌%◌, ◌≤◌, ◌<◌}
use native.Mathlib.Omega.{arith}
use mathlib.Core.Path.{◌≡◌, refl, sym, ap, ap₂, subst, ◌∙◌}
use mathlib.Core.Bool.{Bool, true, false}
use mathlib.Core.List.{List}
use lib.Dec.{ltb}
use lib.ListN.{length, take}
use Rattle.model.specs.Limits.{record_words}
use Rattle.model.proofs.Tests.{ltb_lt, ltb-false}
use Rattle.format.specs.Load.{load}
use Rattle.format.proofs.Refused.{refused_few}
use Rattle.std.specs.Prelude.{Ok, Err}
use Rattle.refusals.specs.Numbers.{file_refusal_number}
use Rattle.loader.specs.Load.{Loaded, loaded_is, Short, Filled}
use Rattle.export.specs.Numbers.{packed_number, kind_of, high_of, low_of, RefusalFits, loaded_numbers, lines_by, lines_read}
use Rattle.answers.specs.Numbers.{LinesNumbers}

-- whatever is made of a kind and two numbers. (No answer cites this and the next: they are laws of what is packed, for a reader in another language)
pub read_back : {A : Type 0} (by : ℕ → ℕ → ℕ → A) (kind high low : ℕ) → kind < 65536 → high < 65536 → low < 4294967296
    → (r : ℕ) → r ≡ packed_number kind high low → by (kind_of r) (high_of r) (low_of r) ≡ by kind high low
read_back by kind high low kind_small high_small low_small r is =
    let kind_same : kind_of r ≡ kind = omega (arith, kind_small, high_small, low_small, is) in
    let high_same : high_of r ≡ high = omega (arith, kind_small, high_small, low_small, is) in
    let low_same : low_of r ≡ low = omega (arith, kind_small, high_small, low_small, is) in
    ap (λ x. by x (high_of r) (low_of r)) kind_same ∙ ap₂ (by kind) high_same low_same

-- the line to go on with and the bytes share the last 32 bits
pub more_back : (next line bytes : ℕ) → next < 65536 → line < 65536 → bytes < 65536
    → (r : ℕ) → r ≡ packed_number 1 next (line * 65536 + bytes % 65536) → lines_read r ≡ LinesNumbers.More next line bytes
more_back next line bytes next_small Line_small bytes_small r is =
    let low = line * 65536 + bytes % 65536 in
    let line_same : low / 65536 ≡ line = omega (arith, Line_small, bytes_small) in
    let bytes_same : low % 65536 ≡ bytes = omega (arith, Line_small, bytes_small) in
    read_back lines_by 1 next low (omega arith) next_small (omega (arith, Line_small, bytes_small)) r is ∙ ap₂ (LinesNumbers.More next) line_same bytes_same

-- a buffer that is too short is refused with 1, a file with at most 5
pub loaded_fits : (file before after : List ℕ) (loaded : Loaded) → (length before < record_words → Short before after loaded)
    → (record_words ≤ length before → Filled file before after loaded) → RefusalFits (loaded_numbers loaded)
loaded_fits file before after loaded short full = by_length (ltb (length before) record_words) refl
  where
    few : (r : Loaded) → loaded_is file (take record_words after) r ≡ load file → RefusalFits (loaded_numbers r)
    few (Ok u) is = tt
    few (Err e) is = refused_few file (file_refusal_number e.refusal) e.line (sym is)

    by_length : (b : Bool) → ltb (length before) record_words ≡ b → RefusalFits (loaded_numbers loaded)
    by_length true h = subst (λ r. RefusalFits (loaded_numbers r)) (sym (short (ltb_lt (length before) record_words h)).is) (omega arith)
    by_length false h = few loaded (full (ltb-false (length before) record_words h)).is
