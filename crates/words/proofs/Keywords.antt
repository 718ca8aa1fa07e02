-- The word at a place of a table of the definition, and the first line by its bytes. Assumes nothing.
use Prim.Native.Nat.{ℕ}
use mathlib.Core.Path.{◌≡◌, sym, ap}
use mathlib.Core.List.{List}
use mathlib.Core.Bool.{Bool, true, false}
use Rattle.std.specs.Prelude.{None, Some}
use lib.ListN.{take}
use Rattle.format.specs.Load.{first_lines, first_line_length, version_of}
use Rattle.std.specs.Prelude.{if◌then◌else◌}
use Rattle.model.specs.Common.{Text, bytes, let_some, first, eq_numbers}
use Rattle.format.specs.Words.{Keyword, is_keyword, place_in, word_at}

-- ------------------------------------------------------------------ the word at a place

-- one place has one word
pub word_key : {A : Type 0} (table : List (Keyword A)) (other : A) (k n : ℕ) → k ≡ n → word_at table other n ≡ word_at table other k
word_key table other k n e = ap (λ m. word_at table other m) (sym e)

-- ------------------------------------------------------------------ the first line

abbrev pub begin : Text → Text
begin file = take first_line_length file

-- there is one first line
pub version_by : (file : Text) (b : Bool) → b ≡ eq_numbers (begin file) (bytes "index\t1\n") → (if b then Some 1 else None) ≡ version_of file
unfolding version_of place_in first is_keyword word_at
version_by file true e = ap (λ b. let_some (if b then Some 0 else None) None λ n. Some (word_at first_lines 0 n)) e
version_by file false e = ap (λ b. let_some (if b then Some 0 else None) None λ n. Some (word_at first_lines 0 n)) e
