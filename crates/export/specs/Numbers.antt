-- Results as numbers of 64 bits: how one is written, and how it is read, as include/roognaps.h does. Definitions only.
use Rattle.std.specs.Prelude.{ℕ, zero, suc, ◌+◌, ◌*◌, ◌/◌, ◌%◌, ◌≤◌, ◌<◌, ◌≡◌, List, length}
use Rattle.std.specs.Prelude.{Ok, Err}
use Rattle.refusals.specs.Numbers.{file_refusal_number}
use Rattle.model.specs.Limits.{record_words}
use Rattle.loader.specs.Load.{Loaded, Short, Filled}
use Rattle.answers.specs.Promises.{Buffers, LongBuffers, ShortAnswer, Answered, ShortAnswers, AnsweredFrom}
use Rattle.answers.specs.Sizes.{AnswerFits, AnswersFit}
use Rattle.answers.specs.Numbers.{LineNumbers}
use Rattle.answers.specs.Numbers.{LinesNumbers}

-- ------------------------------------------------------------------ the parts of a number

-- a kind, a number and another, in 16, 16 and 32 bits. (The remainders are the numbers themselves: `reads` below)
abbrev pub packed_number : ℕ → ℕ → ℕ → ℕ
packed_number kind high low = (kind % 65536) * 281474976710656 + (high % 65536) * 4294967296 + low % 4294967296

abbrev pub kind_of : ℕ → ℕ
kind_of r = r / 281474976710656

abbrev pub high_of : ℕ → ℕ
high_of r = r / 4294967296 % 65536

abbrev pub low_of : ℕ → ℕ
low_of r = r % 4294967296

-- ------------------------------------------------------------------ loading

-- the numbers of what `load` ends in: accepted, or refused, with the refusal's number and its line
pub data LoadedNumbers : Type 0 where
  Accepted : LoadedNumbers
  Refused : ℕ → ℕ → LoadedNumbers

abbrev pub loaded_numbers : Loaded → LoadedNumbers
loaded_numbers (Ok u) = LoadedNumbers.Accepted
loaded_numbers (Err refused) = LoadedNumbers.Refused (file_refusal_number refused.refusal) refused.line

-- kind 0: accepted; 3: refused, with the refusal's number and its line
abbrev pub loaded_result : LoadedNumbers → ℕ
loaded_result LoadedNumbers.Accepted = packed_number 0 0 0
loaded_result (LoadedNumbers.Refused refusal line) = packed_number 3 refusal line

-- a refusal of a file is at most 5
abbrev pub RefusalFits : LoadedNumbers → Type 0
RefusalFits LoadedNumbers.Accepted = Unit {0}
RefusalFits (LoadedNumbers.Refused refusal line) = refusal ≤ 5

abbrev pub loaded_by : ℕ → ℕ → ℕ → LoadedNumbers
loaded_by zero high low = LoadedNumbers.Accepted
loaded_by (suc kind) high low = LoadedNumbers.Refused high low

abbrev pub loaded_read : ℕ → LoadedNumbers
loaded_read r = loaded_by (kind_of r) (high_of r) (low_of r)

-- what `load` ends in, written as a number, which is read as it
pub record LoadedPacked (loaded : LoadedNumbers) (r : ℕ) : Type 0 where
  pub is : r ≡ loaded_result loaded
  pub reads : RefusalFits loaded → loaded_read r ≡ loaded

-- a number that stands for what `load` ends in, and is read as it, with all that `load` promises
pub record Exported (file before after : List ℕ) (r : ℕ) : Type 0 where
  pub loaded : Loaded
  pub is : r ≡ loaded_result (loaded_numbers loaded)
  pub reads : loaded_read r ≡ loaded_numbers loaded
  pub short : length before < record_words → Short before after loaded
  pub full : record_words ≤ length before → Filled file before after loaded

-- ------------------------------------------------------------------ one line

-- kind 0: a line, with its length; 1: refused by 6 to 10, with the number and how many bytes the answer buffer holds for it; 2: past the last line; 3: refused by 1 to 5, with the number and the line of the file
abbrev pub line_result : LineNumbers → ℕ
line_result (LineNumbers.Line bytes) = packed_number 0 0 bytes
line_result (LineNumbers.Refused refusal bytes) = packed_number 1 refusal bytes
line_result LineNumbers.PastLast = packed_number 2 0 0
line_result (LineNumbers.FileRefused refusal at_line) = packed_number 3 refusal at_line

abbrev pub line_by : ℕ → ℕ → ℕ → LineNumbers
line_by zero high low = LineNumbers.Line low
line_by (suc zero) high low = LineNumbers.Refused high low
line_by (suc (suc zero)) high low = LineNumbers.PastLast
line_by (suc (suc (suc kind))) high low = LineNumbers.FileRefused high low

abbrev pub line_read : ℕ → LineNumbers
line_read r = line_by (kind_of r) (high_of r) (low_of r)

-- an answer written as a number, which is read as it
pub record LinePacked (answer : LineNumbers) (r : ℕ) : Type 0 where
  pub is : r ≡ line_result answer
  pub reads : AnswerFits answer → line_read r ≡ answer

-- a number that stands for what `answer` ends in, and is read as it, with all that `answer` promises
pub record ExportedAnswer (file : List ℕ) (number line : ℕ) (before after : Buffers) (r : ℕ) : Type 0 where
  pub answer : LineNumbers
  pub is : r ≡ line_result answer
  pub reads : line_read r ≡ answer
  pub short : (LongBuffers before → ⊥) → ShortAnswer before after answer
  pub full : LongBuffers before → Answered file number line before after answer

-- ------------------------------------------------------------------ the lines of many questions

-- kind 0: all lines are there, with their bytes; 1: with the question to go on with, its line (16 bits) and the bytes (16 bits); 3: as for one line
abbrev pub lines_result : LinesNumbers → ℕ
lines_result (LinesNumbers.More next line bytes) = packed_number 1 next (line * 65536 + bytes % 65536)
lines_result (LinesNumbers.End bytes) = packed_number 0 0 bytes
lines_result (LinesNumbers.FileRefused refusal at_line) = packed_number 3 refusal at_line

abbrev pub lines_by : ℕ → ℕ → ℕ → LinesNumbers
lines_by zero high low = LinesNumbers.End low
lines_by (suc zero) high low = LinesNumbers.More high (low / 65536) (low % 65536)
lines_by (suc (suc kind)) high low = LinesNumbers.FileRefused high low

abbrev pub lines_read : ℕ → LinesNumbers
lines_read r = lines_by (kind_of r) (high_of r) (low_of r)

pub record LinesPacked (answer : LinesNumbers) (r : ℕ) : Type 0 where
  pub is : r ≡ lines_result answer
  pub reads : AnswersFit answer → lines_read r ≡ answer

-- the same for `answer_from`
pub record ExportedAnswers (file : List ℕ) (from line : ℕ) (before after : Buffers) (r : ℕ) : Type 0 where
  pub answer : LinesNumbers
  pub is : r ≡ lines_result answer
  pub reads : lines_read r ≡ answer
  pub short : (LongBuffers before → ⊥) → ShortAnswers before after answer
  pub full : LongBuffers before → AnsweredFrom file from line before after answer
