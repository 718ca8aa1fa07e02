-- What the answers of this crate stand for: document 01's number and values for each of their cases, and the answer bytes with them.
-- Definitions only; assumes nothing.
use Rattle.std.specs.Prelude.{ℕ, suc, List, [], ◌∷◌, ◌++◌, leb, length, drop}
use Rattle.std.specs.Prelude.{if◌then◌else◌}
use Rattle.model.specs.Common.{Text}
use Rattle.model.specs.Records.{Question, Index}
use Rattle.model.specs.Limits.{answer_bytes}
use Rattle.model.specs.Refusals.{refusal_link}
use Rattle.format.specs.Load.{Loading, load}
use Rattle.resolution.specs.Answer.{Verdict, Line, line_text, line_written, question_lines}
use Rattle.resolution.specs.Resolve.{Reply, written_of}
use Rattle.line_text.specs.Lines.{put_first}
use Rattle.answers.specs.Numbers.{LineNumbers, LinesNumbers}

-- ------------------------------------------------------------------ one line

-- a line or a refusal, with how many bytes the answer buffer holds for it from its start
unfoldable pub verdict_answer : ℕ → Verdict → LineNumbers
verdict_answer bytes (Verdict.typed text) = LineNumbers.Line bytes
verdict_answer bytes (Verdict.worded word) = LineNumbers.Line bytes
verdict_answer bytes (Verdict.refused number) = LineNumbers.Refused number bytes

-- a line or a refusal from 6 to 10; that the question has no such line; or a refusal from 1 to 5 with its line
unfoldable pub answer_of : Reply → LineNumbers
answer_of (Reply.the_line line) = verdict_answer (length (line_written line)) line.verdict
answer_of Reply.past_last = LineNumbers.PastLast
answer_of (Reply.file_refused number at_line) = LineNumbers.FileRefused number at_line

-- "Answer bytes behind the line stay"; after a refusal "the answer buffer is unchanged", and so it is past the last line
unfoldable pub answer_out : Reply → Text → Text
answer_out reply out = put_first (written_of reply) out

-- ------------------------------------------------------------------ the lines of many questions

-- what is printed for one line, with the numbers of its question and its own
pub record Piece : Type 0 where
  pub question : ℕ
  pub line : ℕ
  pub text : Text

abbrev pub piece_text : Piece → Text
piece_text piece = piece.text

-- lines of a question, the first of which has that number
unfoldable pub pieces_of : ℕ → ℕ → List Line → List Piece
pieces_of question number [] = []
pieces_of question number (line ∷ lines) = record { question = question; line = number; text = line_text line } ∷ pieces_of question (suc number) lines

-- from a line of the first question on, which has that number; where it has no such line, from the next question on
unfoldable pub pieces_behind : Index → ℕ → ℕ → List Question → List Piece
pieces_behind index number line [] = []
pieces_behind index number line (question ∷ questions) =
    pieces_of number line (drop line (question_lines index question)) ++ pieces_behind index (suc number) 0 questions

-- from a question's line on
unfoldable pub pieces_at : Index → ℕ → ℕ → List Piece
pieces_at index number line = pieces_behind index number line (drop number index.questions)

-- all texts; those that fit, with the numbers of the first piece that does not, its question's and its own; or the file's refusal
pub data Lines : Type 0 where
  end : Text → Lines
  more : ℕ → ℕ → Text → Lines
  file_refused : ℕ → ℕ → Lines

-- The pieces behind a text, while they fit into 4,160 bytes
unfoldable pub fill : Text → List Piece → Lines
fill text [] = Lines.end text
fill text (piece ∷ pieces) =
    if leb (length (text ++ piece.text)) answer_bytes
    then fill (text ++ piece.text) pieces
    else Lines.more piece.question piece.line text

-- from a question's line on; a number past that of questions is "a question number the file lacks (5, line 0)"
unfoldable pub lines_in : Loading → ℕ → ℕ → Lines
lines_in (Loading.accepted index) from line =
    if leb from (length index.questions) then fill [] (pieces_at index from line) else Lines.file_refused refusal_link 0
lines_in (Loading.refused number at_line) from line = Lines.file_refused number at_line

unfoldable pub lines_from : Text → ℕ → ℕ → Lines
lines_from file from line = lines_in (load file) from line

unfoldable pub answers_of : Lines → LinesNumbers
answers_of (Lines.end text) = LinesNumbers.End (length text)
answers_of (Lines.more number line text) = LinesNumbers.More number line (length text)
answers_of (Lines.file_refused number at_line) = LinesNumbers.FileRefused number at_line

unfoldable pub lines_out : Lines → Text → Text
lines_out (Lines.end text) out = put_first text out
lines_out (Lines.more number line text) out = put_first text out
lines_out (Lines.file_refused number at_line) out = out
