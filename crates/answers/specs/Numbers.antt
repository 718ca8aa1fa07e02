-- Document 01's number and values for each case of the two answers, and those of what the code gives. Definitions only; assumes nothing.
use Rattle.std.specs.Prelude.{ℕ, Result, Ok, Err}
use Rattle.refusals.specs.Numbers.{refusal_number, file_refusal_number}
use Rattle.refusals.specs.declared.FileRefused.{FileRefused as RefusedFile}
use Rattle.answers.specs.declared.LineAnswer.{LineAnswer}
use Rattle.answers.specs.declared.LinesAnswer.{LinesAnswer}

-- the numbers of an answer: a line with its length; refusal 6 to 10, with how many bytes the answer buffer holds for it from its start, none; the
-- question has no such line; or refusal 1 to 5 with its line, 0 where no line is at fault
pub data LineNumbers : Type 0 where
  Line : ℕ → LineNumbers
  Refused : ℕ → ℕ → LineNumbers
  PastLast : LineNumbers
  FileRefused : ℕ → ℕ → LineNumbers

-- those of what the code gives
abbrev pub line_numbers : Result LineAnswer RefusedFile → LineNumbers
line_numbers (Ok (LineAnswer.Line n)) = LineNumbers.Line n
line_numbers (Ok (LineAnswer.Refused refusal)) = LineNumbers.Refused (refusal_number refusal) 0
line_numbers (Ok LineAnswer.PastLast) = LineNumbers.PastLast
line_numbers (Err refused) = LineNumbers.FileRefused (file_refusal_number refused.refusal) refused.line

-- the numbers of the lines of many questions: the first line that no longer fits, by the numbers of its question and its own, and how many bytes are written; all lines, and how many
-- bytes; or refusal 1 to 5 with its line
pub data LinesNumbers : Type 0 where
  More : ℕ → ℕ → ℕ → LinesNumbers
  End : ℕ → LinesNumbers
  FileRefused : ℕ → ℕ → LinesNumbers

-- those of what the code gives
abbrev pub lines_numbers : Result LinesAnswer RefusedFile → LinesNumbers
lines_numbers (Ok (LinesAnswer.More number line bytes)) = LinesNumbers.More number line bytes
lines_numbers (Ok (LinesAnswer.End bytes)) = LinesNumbers.End bytes
lines_numbers (Err refused) = LinesNumbers.FileRefused (file_refusal_number refused.refusal) refused.line
