-- What the writers of lines promise: which bytes stand at the start of the lent ones, and that a line without room leaves them. Definitions only; assumes
-- nothing.
use Rattle.std.specs.Prelude.{ℕ, ◌≤◌, ◌<◌, ◌≡◌, ◌++◌, length, drop, Option, None, Some, Result, Ok, Err}
use Rattle.refusals.specs.declared.Refusal.{Refusal}
use Rattle.refusals.specs.Numbers.{refusal_number}
use Rattle.model.specs.Common.{Text}
use Rattle.resolution.specs.Answer.{Verdict, verdict_fields}
use Rattle.type_text.specs.Text.{Writes}
use Rattle.type_text.specs.declared.Writer.{Writer}
use Rattle.type_text.specs.declared.TextError.{TextError}
use Rattle.line_text.specs.declared.LineError.{LineError}

-- the text at the start of the bytes; those behind it stay
abbrev pub put_first : Text → Text → Text
put_first text out = text ++ drop (length text) out

-- the first three lead fields are few bytes
pub record LeadPut (lead : Text) (w w' : Writer) : Type 0 where
  pub writes : Writes lead w w'
  pub few : length lead ≤ 29

-- a line stands at the start of the bytes
pub record LinePut (line out out' : Text) (n : ℕ) : Type 0 where
  pub long : n ≡ length line
  pub fits : n ≤ length out
  pub bytes : out' ≡ put_first line out

-- the line of a verdict, with what stands before it
abbrev pub line_with : Text → Verdict → Text
line_with lead v = lead ++ verdict_fields v

-- a line that is no refusal
abbrev pub Answering : Verdict → Type 0
Answering (Verdict.typed text) = Unit {0}
Answering (Verdict.worded word) = Unit {0}
Answering (Verdict.refused number) = ⊥

-- it stands at the start
pub record AnswerPut (lead : Text) (v : Verdict) (out out' : Text) (n : ℕ) : Type 0 where
  pub answering : Answering v
  pub put : LinePut (line_with lead v) out out' n

pub record NotPut (line out out' : Text) : Type 0 where
  pub short : length out < length line
  pub same : out' ≡ out

pub record RefusedWith (v : Verdict) (number : ℕ) (out out' : Text) : Type 0 where
  pub is : v ≡ Verdict.refused number
  pub same : out' ≡ out

-- a line whose text is not written
abbrev pub line_error_of : TextError → LineError
line_error_of TextError.TooLong = LineError.Refused Refusal.LongText
line_error_of TextError.NoRoom = LineError.NoRoom

-- what became of a verdict: only a line that is no refusal is written, and only where there is room for it
abbrev pub TriedIs : Text → Verdict → Text → Text → Result ℕ LineError → Type 0
TriedIs lead v out out' (Ok n) = AnswerPut lead v out out' n
TriedIs lead v out out' (Err (LineError.Refused refusal)) = RefusedWith v (refusal_number refusal) out out'
TriedIs lead v out out' (Err LineError.NoRoom) = NotPut (line_with lead v) out out'

-- what became of a line: it is written where there is room for it
abbrev pub WrittenIs : Text → Text → Text → Option ℕ → Type 0
WrittenIs line out out' (Some n) = LinePut line out out' n
WrittenIs line out out' None = NotPut line out out'
