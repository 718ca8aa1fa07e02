-- What the promises say of whole answers: a question's line, the lines of repeated calls put together, and demand 3 for two calls.
-- Statements only; they are proved in proofs/Whole.antt. Assumes nothing.
use Rattle.std.specs.Prelude.{ℕ, ◌+◌, ◌≤◌, ◌<◌, ◌≡◌, List, ◌∷◌, ◌++◌, length, take, drop}
use Rattle.std.specs.Prelude.{Option, None, Some}
use Rattle.std.specs.Prelude.{slice_get}
use Rattle.model.specs.Common.{Text, joined}
use Rattle.model.specs.Records.{Question, Index}
use Rattle.format.specs.Load.{Loading, accepted, load}
use Rattle.resolution.specs.Asked.{Asked, HasLine, NumberOf}
use Rattle.resolution.specs.Answer.{Line, line_text, line_written, question_lines}
use Rattle.resolution.specs.Resolve.{Reply, refusal_line, resolve, answer}
use Rattle.resolution.specs.Secrecy.{FilesSupposed, FilesSupposedAsWorded, LineAbout}
use Rattle.line_text.specs.Lines.{put_first}
use Rattle.answers.specs.Meaning.{verdict_answer, Piece, piece_text, pieces_at, Lines, lines_from}
use Rattle.answers.specs.Numbers.{LineNumbers, LinesNumbers}
use Rattle.answers.specs.Steps.{LineThere}
use Rattle.answers.specs.Promises.{Buffers, Answered, AnsweredFrom}

-- ------------------------------------------------------------------ one line

-- the definition's line at the start of the answer bytes, or the definition's refusal, for which nothing is written (`line_written`); or that there is no such
-- line, and the answer bytes as they were
abbrev pub LineOr : Option Line → Buffers → Buffers → LineNumbers → Type 0
LineOr (Some line) before after r =
    (r ≡ verdict_answer (length (line_written line)) line.verdict) × (after.out ≡ put_first (line_written line) before.out)
LineOr None before after r = (r ≡ LineNumbers.PastLast) × (after.out ≡ before.out)

-- for an accepted file and a question that it has
abbrev pub AnswersTheLine : Type 0
AnswersTheLine =
    (file : Text) (number line_number : ℕ) (before after : Buffers) (r : LineNumbers) → Answered file number line_number before after r
    → (index : Index) (question : Question) → load file ≡ accepted index → slice_get index.questions number ≡ Some question
    → LineOr (slice_get (question_lines index question) line_number) before after r

-- ------------------------------------------------------------------ the lines of many questions

-- the texts of pieces, one behind the other
abbrev pub printed_pieces : List Piece → Text
printed_pieces pieces = joined piece_text pieces

-- a call that stops: it has written some pieces, and those from the next line on are left
pub record Stops (index : Index) (from line : ℕ) (before after : Buffers) (next next_line n : ℕ) : Type 0 where
  pub done : List Piece
  pub is : pieces_at index from line ≡ done ++ pieces_at index next next_line
  pub some_done : 0 < length done
  pub next_there : LineThere index next next_line
  pub bytes : n ≡ length (printed_pieces done)
  pub out : after.out ≡ put_first (printed_pieces done) before.out

-- what one call leaves: the lines from the first up to the next, at least one, or up to the last
abbrev pub LinesOf : Index → ℕ → ℕ → Buffers → Buffers → LinesNumbers → Type 0
LinesOf index from line before after (LinesNumbers.More next next_line n) = Stops index from line before after next next_line n
LinesOf index from line before after (LinesNumbers.End n) =
    (n ≡ length (printed_pieces (pieces_at index from line)))
    × (after.out ≡ put_first (printed_pieces (pieces_at index from line)) before.out)
LinesOf index from line before after (LinesNumbers.FileRefused number at_line) = ⊥

abbrev pub AnswersTheLines : Type 0
AnswersTheLines =
    (file : Text) (from line : ℕ) (before after : Buffers) (r : LinesNumbers) → AnsweredFrom file from line before after r
    → (index : Index) → load file ≡ accepted index → from ≤ length index.questions → LinesOf index from line before after r

-- how many lines are left from a question's line on
unfoldable pub left_in : Loading → ℕ → ℕ → ℕ
left_in (Loading.accepted index) from line = length (pieces_at index from line)
left_in (Loading.refused number at_line) from line = 0

unfoldable pub lines_left : Text → ℕ → ℕ → ℕ
lines_left file from line = left_in (load file) from line

-- What repeated calls give, one text behind the other: each call begins at the line where the one before it stopped
pub data Calls (file : Text) : ℕ → ℕ → Text → Type 0 where
  last : {from line : ℕ} {text : Text} → lines_from file from line ≡ Lines.end text → Calls file from line text
  again : {from line next next_line : ℕ} {text rest : Text} → lines_from file from line ≡ Lines.more next next_line text → Calls file next next_line rest
      → Calls file from line (text ++ rest)
  refused : {from line number at_line : ℕ} → lines_from file from line ≡ Lines.file_refused number at_line → Calls file from line (refusal_line number at_line)

-- from the first question's first line on they give what the definition's `resolve` prints
abbrev pub CallsResolve : Type 0
CallsResolve = (file text : Text) → Calls file 0 0 text → text ≡ resolve file

-- and they come to an end, whatever the file is
abbrev pub CallsEnd : Type 0
CallsEnd = (file : Text) → Calls file 0 0 (resolve file)

-- ------------------------------------------------------------------ demand 3

-- how many bytes an answer says stand at the start of the answer buffer
abbrev pub bytes_of : LineNumbers → ℕ
bytes_of (LineNumbers.Line n) = n
bytes_of (LineNumbers.Refused number n) = n
bytes_of LineNumbers.PastLast = 0
bytes_of (LineNumbers.FileRefused number at_line) = 0

-- two calls of `answer` answer alike, and write the same bytes
pub record SameAnswer (first_after second_after : Buffers) (first second : LineNumbers) : Type 0 where
  pub same : first ≡ second
  pub same_bytes : take (bytes_of first) first_after.out ≡ take (bytes_of first) second_after.out

abbrev pub AnswersAlike : Text → Text → ℕ → ℕ → ℕ → ℕ → Type 0
AnswersAlike first_file second_file first_place second_place first_line second_line =
    (first_before first_after second_before second_after : Buffers) (first second : LineNumbers)
    → Answered first_file first_place first_line first_before first_after first
    → Answered second_file second_place second_line second_before second_after second
    → SameAnswer first_after second_after first second

-- `resolve` prints the text for a question's line, behind and before what it prints for the others; and so do calls of `answer_from` that follow each
-- other from the first line on
pub record Prints (file : Text) (place line_number : ℕ) (text : Text) : Type 0 where
  pub index : Index
  pub loaded : load file ≡ accepted index
  pub before : List Piece
  pub behind : List Piece
  pub is : pieces_at index 0 0 ≡ before ++ (record { question = place; line = line_number; text = text } ∷ behind)
  pub printed : resolve file ≡ printed_pieces before ++ (text ++ printed_pieces behind)
  pub called : (all : Text) → Calls file 0 0 all → all ≡ printed_pieces before ++ (text ++ printed_pieces behind)

-- how many bytes a call of `answer_from` says that it has written
abbrev pub bytes_written : LinesNumbers → ℕ
bytes_written (LinesNumbers.More next line n) = n
bytes_written (LinesNumbers.End n) = n
bytes_written (LinesNumbers.FileRefused number at_line) = 0

-- Wherever a call of `answer_from` begins: where the question's line is among those that it has written, behind the lines ahead of it, the bytes there are the text
abbrev pub Writes : Text → ℕ → ℕ → Text → Type 0
Writes file place line_number text =
    (from line : ℕ) (before after : Buffers) (r : LinesNumbers) → AnsweredFrom file from line before after r
    → (index : Index) → load file ≡ accepted index
    → (ahead : List Piece) (piece : Piece) (behind : List Piece) → pieces_at index from line ≡ ahead ++ (piece ∷ behind) → piece.question ≡ place → piece.line ≡ line_number
    → length (printed_pieces ahead) + length text ≤ bytes_written r → take (length text) (drop (length (printed_pieces ahead)) after.out) ≡ text

-- what is printed for the line in either file, and with which bytes
pub record PrintsAlike (first_file second_file : Text) (first_place second_place first_line second_line : ℕ) (text : Text) : Type 0 where
  pub first_prints : Prints first_file first_place first_line text
  pub second_prints : Prints second_file second_place second_line text
  pub first_writes : Writes first_file first_place first_line text
  pub second_writes : Writes second_file second_place second_line text

-- a line about what is asked, that the first file's question has: the second's has it too, at a number, and both entries and `resolve` give it alike
pub record CarriedOver (first_file second_file : Text) (first_place second_place first_line : ℕ) (line : Line) : Type 0 where
  pub second_line : ℕ
  pub alike : AnswersAlike first_file second_file first_place second_place first_line second_line
  pub prints : PrintsAlike first_file second_file first_place second_place first_line second_line (line_text line)

-- of both files; a line is there where it is never lacking; and at a number that belongs to what is asked whatever the index is
pub record Hides (first_file second_file : Text) (first_place second_place : ℕ) (question : Question) (asked : Asked) : Type 0 where
  pub there : HasLine asked → LineAbout first_file first_place asked
  pub to_second : (line_number : ℕ) (line : Line) → answer first_file first_place line_number ≡ Reply.the_line line → line.asked ≡ asked
      → CarriedOver first_file second_file first_place second_place line_number line
  pub to_first : (line_number : ℕ) (line : Line) → answer second_file second_place line_number ≡ Reply.the_line line → line.asked ≡ asked
      → CarriedOver second_file first_file second_place first_place line_number line
  pub at_number : (line_number : ℕ) → NumberOf question asked line_number
      → AnswersAlike first_file second_file first_place second_place line_number line_number

abbrev pub AnswersHideBodies : Type 0
AnswersHideBodies =
    (first_file second_file : Text) (first_place second_place : ℕ) (question : Question) (asked : Asked)
    → FilesSupposed first_file second_file first_place second_place question asked → Hides first_file second_file first_place second_place question asked

-- as document 01 words it
abbrev pub AnswersDemandThree : Type 0
AnswersDemandThree =
    (first_file second_file : Text) (first_place second_place : ℕ) (question : Question) (asked : Asked)
    → FilesSupposedAsWorded first_file second_file first_place second_place question asked → Hides first_file second_file first_place second_place question asked
