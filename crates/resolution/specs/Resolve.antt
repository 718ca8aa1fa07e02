-- The whole definition: what `resolve` prints for the bytes that it reads, and what is answered when one line of a question is asked.
-- Assumes nothing.
use Rattle.std.specs.Prelude.{ℕ, List, [], ◌++◌}
use Rattle.std.specs.Prelude.{Option, None, Some}
use Rattle.std.specs.Prelude.{slice_get}
use Rattle.model.specs.Common.{Text, bytes, let_some}
use Rattle.model.specs.Refusals.{refusal_link}
use Rattle.format.specs.Load.{Loading, load}
use Rattle.resolution.specs.Answer.{decimal, Line, line_text, line_written, question_lines, answers}

-- "A refused file gives one line: `refused`, number, line (from 1)"
unfoldable pub refusal_line : ℕ → ℕ → Text
refusal_line number line = bytes "refused\t" ++ (decimal number ++ (bytes "\t" ++ (decimal line ++ bytes "\n")))

unfoldable pub printed : Loading → Text
printed (Loading.accepted index) = answers index
printed (Loading.refused number line) = refusal_line number line

-- the bytes on standard output for the bytes on standard input
unfoldable pub resolve : Text → Text
resolve file = printed (load file)

-- what is answered for a question's line of a number, from 0: the line; that the question has no such line; or the refusal of the whole file,
-- with its number and its line
pub data Reply : Type 0 where
  the_line : Line → Reply
  past_last : Reply
  file_refused : ℕ → ℕ → Reply

-- what is printed, where the file is accepted and has the question and the line
unfoldable pub line_of : Reply → Option Text
line_of (Reply.the_line line) = Some (line_text line)
line_of Reply.past_last = None
line_of (Reply.file_refused number at_line) = None

-- what the answer buffer holds from its start; the bytes behind it stay. Nothing for a refusal, and where there is no line
unfoldable pub written_of : Reply → Text
written_of (Reply.the_line line) = line_written line
written_of Reply.past_last = []
written_of (Reply.file_refused number at_line) = []

unfoldable pub line_at : List Line → ℕ → Reply
line_at lines line = let_some (slice_get lines line) Reply.past_last Reply.the_line

-- the question of that number; "last a question number the file lacks (5, line 0)"
unfoldable pub ask_loaded : Loading → ℕ → ℕ → Reply
ask_loaded (Loading.accepted index) number line =
    let_some (slice_get index.questions number) (Reply.file_refused refusal_link 0) λ question.
    line_at (question_lines index question) line
ask_loaded (Loading.refused refusal at_line) number line = Reply.file_refused refusal at_line

unfoldable pub answer : Text → ℕ → ℕ → Reply
answer file number line = ask_loaded (load file) number line
