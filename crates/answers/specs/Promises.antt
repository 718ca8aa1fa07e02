-- What the public entries promise, whatever they are given. Definitions only; assumes nothing.
use Rattle.std.specs.Prelude.{ℕ, ◌≡◌, List, length, take, drop, replicate}
use Rattle.model.specs.Common.{Text}
use Rattle.model.specs.Limits.{record_words, type_words, max_open_demands}
use Rattle.model.specs.Refusals.{refusal_buffer}
use Rattle.format.specs.Load.{accepted, load}
use Rattle.records.specs.Layout.{index_of}
use Rattle.resolution.specs.Resolve.{answer}
use Rattle.answers.specs.Meaning.{answer_of, answer_out, lines_from, answers_of, lines_out}
use Rattle.answers.specs.Numbers.{LineNumbers, LinesNumbers}
use Rattle.answers.specs.Steps.{Long, zero_types, zero_places, TypesHold, LineThere, LinesLeave}

-- ------------------------------------------------------------------ the words and places that document 01 counts

-- the words hold the index of the file
abbrev pub RecordsHold : Text → List ℕ → Type 0
RecordsHold file words = load file ≡ accepted (index_of file words)

-- a line was written: the type words hold the table of what it is about, and no demand is open
pub record LineLeaves (file : Text) (number line_number : ℕ) (words types : List ℕ) (demands : List (List ℕ)) : Type 0 where
  pub records_are : RecordsHold file words
  pub there : LineThere (index_of file words) number line_number
  pub types_are : TypesHold file (index_of file words) there.line.asked types
  pub demands_are : demands ≡ zero_places

-- "After 6 to 10 it is all zero, the records stay loaded"; past the last line "the types zero"; "The list of open demands is zero after every question"
pub record NoLineLeaves (file words types : List ℕ) (demands : List (List ℕ)) : Type 0 where
  pub records_are : RecordsHold file words
  pub types_are : types ≡ zero_types
  pub demands_are : demands ≡ zero_places

-- 2 to 5: "Records are then all zero, the other buffers unchanged"
pub record FileRefusedLeaves (types : List ℕ) (demands : List (List ℕ)) (words types' : List ℕ) (demands' : List (List ℕ)) : Type 0 where
  pub records_are : words ≡ replicate record_words 0
  pub types_same : types' ≡ types
  pub demands_same : demands' ≡ demands

abbrev pub Leaves : Text → ℕ → ℕ → List ℕ → List (List ℕ) → List ℕ → List ℕ → List (List ℕ) → LineNumbers → Type 0
Leaves file number line types demands words types' demands' (LineNumbers.Line n) = LineLeaves file number line words types' demands'
Leaves file number line types demands words types' demands' (LineNumbers.Refused refusal bytes) = NoLineLeaves file words types' demands'
Leaves file number line types demands words types' demands' LineNumbers.PastLast = NoLineLeaves file words types' demands'
Leaves file number line types demands words types' demands' (LineNumbers.FileRefused refusal at_line) = FileRefusedLeaves types demands words types' demands'

-- the answer and the answer bytes are the definition's
pub record ExactAnswered (file : Text) (number line : ℕ) (types : List ℕ) (demands : List (List ℕ)) (out words types' : List ℕ)
    (demands' : List (List ℕ)) (out' : List ℕ) (r : LineNumbers) : Type 0 where
  pub is : r ≡ answer_of (answer file number line)
  pub out_is : out' ≡ answer_out (answer file number line) out
  pub leaves : Leaves file number line types demands words types' demands' r

-- the lines of an accepted file that has the first question, or has just so many before it
pub record LinesLeft (file : Text) (types : List ℕ) (demands : List (List ℕ)) (words types' : List ℕ) (demands' : List (List ℕ)) (r : LinesNumbers) : Type 0 where
  pub records_are : RecordsHold file words
  pub leaves : LinesLeave file (index_of file words) types demands types' demands' r

abbrev pub LeavesFrom : Text → List ℕ → List (List ℕ) → List ℕ → List ℕ → List (List ℕ) → LinesNumbers → Type 0
LeavesFrom file types demands words types' demands' (LinesNumbers.More next line bytes) = LinesLeft file types demands words types' demands' (LinesNumbers.More next line bytes)
LeavesFrom file types demands words types' demands' (LinesNumbers.End bytes) = LinesLeft file types demands words types' demands' (LinesNumbers.End bytes)
LeavesFrom file types demands words types' demands' (LinesNumbers.FileRefused number at_line) = FileRefusedLeaves types demands words types' demands'

-- the numbers and the answer bytes are those of the definition's lines that fit
pub record ExactAnsweredFrom (file : Text) (from line : ℕ) (types : List ℕ) (demands : List (List ℕ)) (out words types' : List ℕ)
    (demands' : List (List ℕ)) (out' : List ℕ) (r : LinesNumbers) : Type 0 where
  pub is : r ≡ answers_of (lines_from file from line)
  pub out_is : out' ≡ lines_out (lines_from file from line) out
  pub leaves : LeavesFrom file types demands words types' demands' r

-- ------------------------------------------------------------------ buffers of any length

-- the four buffers
pub record Buffers : Type 0 where
  pub records : List ℕ
  pub types : List ℕ
  pub demands : List (List ℕ)
  pub out : List ℕ

abbrev pub buffers : List ℕ → List ℕ → List (List ℕ) → List ℕ → Buffers
buffers records types demands out = record { records = records; types = types; demands = demands; out = out }

-- each is as long as document 01 says, or longer
abbrev pub LongBuffers : Buffers → Type 0
LongBuffers b = Long (length b.records) (length b.types) (length b.demands) (length b.out)

-- "in longer ones the rest stays"
pub record Behind (before after : Buffers) : Type 0 where
  pub records_behind : drop record_words after.records ≡ drop record_words before.records
  pub types_behind : drop type_words after.types ≡ drop type_words before.types
  pub demands_behind : drop max_open_demands after.demands ≡ drop max_open_demands before.demands

-- the answer and all answer bytes are the definition's, the first words and places are as they should be, and those behind them stay
pub record Answered (file : Text) (number line : ℕ) (before after : Buffers) (r : LineNumbers) : Type 0 where
  pub first : ExactAnswered file number line (take type_words before.types) (take max_open_demands before.demands) before.out
      (take record_words after.records) (take type_words after.types) (take max_open_demands after.demands) after.out r
  pub behind : Behind before after

pub record AnsweredFrom (file : Text) (from line : ℕ) (before after : Buffers) (r : LinesNumbers) : Type 0 where
  pub first : ExactAnsweredFrom file from line (take type_words before.types) (take max_open_demands before.demands) before.out
      (take record_words after.records) (take type_words after.types) (take max_open_demands after.demands) after.out r
  pub behind : Behind before after

-- 1: "a buffer shorter than above; all buffers unchanged"
pub record ShortAnswer (before after : Buffers) (r : LineNumbers) : Type 0 where
  pub is : r ≡ LineNumbers.FileRefused refusal_buffer 0
  pub same : after ≡ before

pub record ShortAnswers (before after : Buffers) (r : LinesNumbers) : Type 0 where
  pub is : r ≡ LinesNumbers.FileRefused refusal_buffer 0
  pub same : after ≡ before
