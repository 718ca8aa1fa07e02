-- What the functions below the public entries ask and promise. The record words are exactly those of a loaded file; the type words and the
-- places for open demands are exactly as many as document 01 says. Definitions only; assumes nothing.
use Rattle.std.specs.Prelude.{ℕ, suc, ◌≤◌, ◌<◌, ◌≡◌, Bool, true, false, List, [], length, replicate}
use Rattle.std.specs.Prelude.{None, Some, Result, Ok, Err}
use Rattle.std.specs.Prelude.{slice_get}
use Rattle.model.specs.Common.{Text}
use Rattle.model.specs.Records.{Question, Index}
use Rattle.model.specs.Limits.{record_words, type_words, max_open_demands, answer_bytes}
use Rattle.format.specs.Load.{accepted, load}
use Rattle.records.specs.Layout.{index_of}
use Rattle.resolution.specs.Asked.{Asked}
use Rattle.resolution.specs.Programs.{Said}
use Rattle.resolution.specs.Run.{answered, resolve_asked}
use Rattle.resolution.specs.Answer.{Verdict, verdict, asked_lead, Line, line_text, question_lines}
use Rattle.type_table.specs.Layout.{table_of}
use Rattle.demands.specs.Meaning.{zero_place}
use Rattle.line_text.specs.Lines.{LinePut, NotPut, TriedIs}
use Rattle.answers.specs.Meaning.{pieces_at, fill, answers_of, lines_out}
use Rattle.answers.specs.Numbers.{LinesNumbers}
use Rattle.line_text.specs.declared.LineError.{LineError}
use Rattle.answers.specs.declared.Step.{Step}

-- ------------------------------------------------------------------ what is required

-- the buffers are long enough
pub record Long (records types places bytes : ℕ) : Type 0 where
  pub records_long : record_words ≤ records
  pub types_long : type_words ≤ types
  pub places_long : max_open_demands ≤ places
  pub bytes_long : answer_bytes ≤ bytes

-- whether they are
abbrev pub LongIs : ℕ → ℕ → ℕ → ℕ → Bool → Type 0
LongIs records types places bytes true = Long records types places bytes
LongIs records types places bytes false = Long records types places bytes → ⊥

-- as many words and places as document 01 says
pub record Exact (words types : List ℕ) (demands : List (List ℕ)) : Type 0 where
  pub words_long : length words ≡ record_words
  pub types_long : length types ≡ type_words
  pub places_long : length demands ≡ max_open_demands

-- and the words hold the index of the file
pub record Loaded (file words types : List ℕ) (demands : List (List ℕ)) : Type 0 where
  pub exact : Exact words types demands
  pub is : load file ≡ accepted (index_of file words)

-- ------------------------------------------------------------------ lines

-- what became of a line: it is written where there is room for it
abbrev pub StepIs : Text → Text → Text → Step → Type 0
StepIs line out out' (Step.Line n) = LinePut line out out' n
StepIs line out out' Step.NoRoom = NotPut line out out'
StepIs line out out' Step.PastLast = ⊥

-- ------------------------------------------------------------------ the type words and the open demands after a line

abbrev pub zero_types : List ℕ
zero_types = replicate type_words 0

abbrev pub zero_places : List (List ℕ)
zero_places = replicate max_open_demands zero_place

-- the words hold the table of what the line is about
pub record TypesHold (file : Text) (index : Index) (asked : Asked) (types : List ℕ) : Type 0 where
  pub said : Said
  pub is : resolve_asked index asked ≡ answered said (table_of file types)

-- a line was written, or the words are all zero
abbrev pub TypesKept : List ℕ → List ℕ → Result ℕ LineError → Type 0
TypesKept types types' (Ok n) = types' ≡ types
TypesKept types types' (Err error) = types' ≡ zero_types

pub record SaidAnswered (lead : Text) (v : Verdict) (types out types' out' : List ℕ) (r : Result ℕ LineError) : Type 0 where
  pub is : TriedIs lead v out out' r
  pub types_are : TypesKept types types' r

abbrev pub TypesAre : Text → Index → Asked → List ℕ → Result ℕ LineError → Type 0
TypesAre file index asked types (Ok n) = TypesHold file index asked types
TypesAre file index asked types (Err error) = types ≡ zero_types

pub record AskedAnswered (file : Text) (index : Index) (asked : Asked) (out types' : List ℕ) (demands' : List (List ℕ))
    (out' : List ℕ) (r : Result ℕ LineError) : Type 0 where
  pub v : Verdict
  pub has : verdict index asked ≡ Some v
  pub is : TriedIs (asked_lead asked) v out out' r
  pub types_are : TypesAre file index asked types' r
  pub demands_are : demands' ≡ zero_places

-- after a line the type words hold its table, or are all zero where it is a refusal
abbrev pub TypesAfter : Text → Index → Asked → List ℕ → Verdict → Type 0
TypesAfter file index asked types (Verdict.typed text) = TypesHold file index asked types
TypesAfter file index asked types (Verdict.worded word) = TypesHold file index asked types
TypesAfter file index asked types (Verdict.refused number) = types ≡ zero_types

-- a question's line
pub record LineThere (index : Index) (number line_number : ℕ) : Type 0 where
  pub question : Question
  pub has_question : slice_get index.questions number ≡ Some question
  pub line : Line
  pub is_line : slice_get (question_lines index question) line_number ≡ Some line

-- it was answered last
pub record After (file : Text) (index : Index) (number line_number : ℕ) (types : List ℕ) (demands : List (List ℕ)) : Type 0 where
  pub there : LineThere index number line_number
  pub types_are : TypesAfter file index there.line.asked types there.line.verdict
  pub demands_are : demands ≡ zero_places

pub record LineStep (file : Text) (index : Index) (number line_number : ℕ) (out types' : List ℕ) (demands' : List (List ℕ)) (out' : List ℕ) (n : ℕ) : Type 0 where
  pub after : After file index number line_number types' demands'
  pub put : LinePut (line_text after.there.line) out out' n

-- a line that does not fit leaves zeros
pub record NoRoomStep (index : Index) (number line_number : ℕ) (out types' : List ℕ) (demands' : List (List ℕ)) (out' : List ℕ) : Type 0 where
  pub there : LineThere index number line_number
  pub not_put : NotPut (line_text there.line) out out'
  pub types_are : types' ≡ zero_types
  pub demands_are : demands' ≡ zero_places

-- where there is no such line all is as it was
pub record PastStep (index : Index) (number line_number : ℕ) (types : List ℕ) (demands : List (List ℕ)) (out types' : List ℕ) (demands' : List (List ℕ)) (out' : List ℕ) : Type 0 where
  pub question : Question
  pub has_question : slice_get index.questions number ≡ Some question
  pub is_past : slice_get (question_lines index question) line_number ≡ None
  pub types_same : types' ≡ types
  pub demands_same : demands' ≡ demands
  pub out_same : out' ≡ out

abbrev pub Stepped : Text → Index → ℕ → ℕ → List ℕ → List (List ℕ) → List ℕ → List ℕ → List (List ℕ) → List ℕ → Step → Type 0
Stepped file index number line_number types demands out types' demands' out' (Step.Line n) = LineStep file index number line_number out types' demands' out' n
Stepped file index number line_number types demands out types' demands' out' Step.NoRoom = NoRoomStep index number line_number out types' demands' out'
Stepped file index number line_number types demands out types' demands' out' Step.PastLast = PastStep index number line_number types demands out types' demands' out'

-- ------------------------------------------------------------------ the lines of many questions

-- a line behind which there is none
pub record LastLine (file : Text) (index : Index) (types : List ℕ) (demands : List (List ℕ)) : Type 0 where
  pub number : ℕ
  pub line_number : ℕ
  pub after : After file index number line_number types demands
  pub is_last : pieces_at index number (suc line_number) ≡ []

-- as they were where no line was written; else as after the last one
pub record AfterLast (file : Text) (index : Index) (bytes : ℕ) (types : List ℕ) (demands : List (List ℕ)) (types' : List ℕ)
    (demands' : List (List ℕ)) : Type 0 where
  pub none : bytes ≡ 0 → (types' ≡ types) × (demands' ≡ demands)
  pub last : 0 < bytes → LastLine file index types' demands'

-- `More`: the next line was tried, and did not fit. The file is accepted
abbrev pub LinesLeave : Text → Index → List ℕ → List (List ℕ) → List ℕ → List (List ℕ) → LinesNumbers → Type 0
LinesLeave file index types demands types' demands' (LinesNumbers.More number line bytes) = (types' ≡ zero_types) × (demands' ≡ zero_places)
LinesLeave file index types demands types' demands' (LinesNumbers.End bytes) = AfterLast file index bytes types demands types' demands'
LinesLeave file index types demands types' demands' (LinesNumbers.FileRefused number at_line) = ⊥

pub record LinesWritten (file : Text) (index : Index) (from line : ℕ) (types out : List ℕ) (demands : List (List ℕ)) (types' : List ℕ)
    (demands' : List (List ℕ)) (out' : List ℕ) (r : LinesNumbers) : Type 0 where
  pub is : r ≡ answers_of (fill [] (pieces_at index from line))
  pub bytes : out' ≡ lines_out (fill [] (pieces_at index from line)) out
  pub leaves : LinesLeave file index types demands types' demands' r
