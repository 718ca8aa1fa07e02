-- Loading an index file: its bytes, its first line, the lines behind it, and their links. Assumes nothing.
use Rattle.std.specs.Prelude.{ℕ, List, [], ◌∷◌, true, false, length, take, drop, ltb}
use Rattle.std.specs.Prelude.{Option, None, Some}
use Rattle.model.specs.Common.{Text, let_some}
use Rattle.model.specs.Records.{Index}
use Rattle.model.specs.Limits.{max_bytes}
use Rattle.model.specs.Refusals.{refusal_first_line, refusal_limit, refusal_link}
use Rattle.format.specs.Words.{Keyword, keyword, place_in, word_at}
use Rattle.format.specs.FirstPass.{First, read, wrong, first_pass}
use Rattle.format.specs.LinkCheck.{link_fault}

-- the index of a file, or the refusal's number and line
pub data Loading : Type 0 where
  accepted : Index → Loading
  refused : ℕ → ℕ → Loading

-- "The first line is exactly `index`, a tab, `1`", its LF included: the lines that there are, each with its version
abbrev pub first_lines : List (Keyword ℕ)
first_lines = keyword "index\t1\n" 1 ∷ []

-- each has so many bytes
abbrev pub first_line_length : ℕ
first_line_length = 8

unfoldable pub version_of : Text → Option ℕ
version_of file =
    let_some (place_in first_lines (take first_line_length file)) None λ n. Some (word_at first_lines 0 n)

-- 3 or 4 at the first line that has one, then 5 at the first line that has it
abbrev pub after_first : First → Loading
after_first (wrong number line) = refused number line
after_first (read index) = let_some (link_fault index) (accepted index) λ line. refused refusal_link line

-- the lines behind the first one
unfoldable pub load_lines : ℕ → Text → Loading
load_lines version t = after_first (first_pass version t)

-- "a file over its byte limit (3, line 0), 2, then the first line with 3 or 4, .. then the first with 5"
unfoldable pub load : Text → Loading
load file =
    elim (ltb max_bytes (length file)) [
      | true ↦ refused refusal_limit 0
      | false ↦ elim (version_of file) [ None ↦ refused refusal_first_line 1 | Some version ↦ load_lines version (drop first_line_length file) ]
    ]
