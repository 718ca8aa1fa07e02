-- A table of words as one byte string, and the one word of it that a field can be. Assumes nothing.
use Rattle.std.specs.Prelude.{ℕ, ◌+◌, ◌-◌, ◌*◌, ◌/◌, ◌%◌, [], ◌∷◌, leb, length, take, drop, get_or}
use Rattle.std.specs.Prelude.{Option, None, Some}
use Rattle.std.specs.Prelude.{if◌then◌else◌}
use Rattle.model.specs.Common.{Text, let_some, eq_numbers}

-- the word that stands behind its length; none where the bytes end before it does
abbrev pub word_behind : Text → Option Text
word_behind [] = None
word_behind (n ∷ t) = if leb n (length t) then Some (take n t) else None

-- the word at a place: a table has nine bytes for each
abbrev pub cell_word : Text → ℕ → Option Text
cell_word table k = word_behind (drop (k * 9) table)

-- a number below 32, from the first byte, the last byte and the length
abbrev pub hash_of : Text → ℕ
hash_of field = (23 * get_or field 0 0 + 23 * get_or field (length field - 1) 0 + 57 * (length field % 4)) / 8 % 32

-- the place of the one word that the field can be
abbrev pub candidate : Text → Text → ℕ
candidate map field = get_or map (hash_of field) 0

-- the place k, if the word there is the field
abbrev pub place_if : Text → ℕ → Option Text → Option ℕ
place_if field k word = let_some word None λ w. if eq_numbers field w then Some k else None

-- the place of the word that the field is, if the map is right for the table: that of the one word that it can be, if it is that word
unfoldable pub candidate_place : Text → Text → Text → Option ℕ
candidate_place table map field = place_if field (candidate map field) (cell_word table (candidate map field))
