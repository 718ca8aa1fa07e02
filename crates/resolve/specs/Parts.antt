-- What `resolve` prints at a time: the lines of one call of `answer_from`, or the line of a refused file. Definitions only; assumes nothing.
use Rattle.std.specs.Prelude.{ℕ, ◌≤◌, ◌<◌, ◌++◌, length, take}
use Rattle.model.specs.Common.{Text}
use Rattle.type_text.specs.Text.{Wrote}
use Rattle.answers.specs.Whole.{lines_left, Calls}
use Rattle.answers.specs.declared.LinesAnswer.{LinesAnswer}

-- the line of a refused file is few bytes
pub record RefusedPut (line out out' : Text) (r : ℕ) : Type 0 where
  pub wrote : Wrote line 0 out out' r
  pub few : r ≤ 30

-- what stands at the start of the buffer is printed, and behind it what the calls from the next line on give; fewer lines are left
pub record More (file : Text) (from line : ℕ) (out : Text) (next next_line n : ℕ) : Type 0 where
  pub fits : n ≤ length out
  pub fewer : lines_left file next next_line < lines_left file from line
  pub goes_on : (rest : Text) → Calls file next next_line rest → Calls file from line (take n out ++ rest)

-- nothing is printed behind it
pub record Last (file : Text) (from line : ℕ) (out : Text) (n : ℕ) : Type 0 where
  pub fits : n ≤ length out
  pub is : Calls file from line (take n out)

abbrev pub PartIs : Text → ℕ → ℕ → Text → LinesAnswer → Type 0
PartIs file from line out (LinesAnswer.More next next_line n) = More file from line out next next_line n
PartIs file from line out (LinesAnswer.End n) = Last file from line out n
