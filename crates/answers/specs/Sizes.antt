-- How large the numbers of an answer are, whatever a call is given. Definitions only; assumes nothing.
use Rattle.answers.specs.Numbers.{LineNumbers, LinesNumbers}
use Rattle.std.specs.Prelude.{ℕ, ◌≤◌, ◌<◌}
use Rattle.model.specs.Common.{Text}
use Rattle.model.specs.Limits.{max_questions, answer_bytes}
use Rattle.resolution.specs.Asked.{max_lines}
use Rattle.answers.specs.Promises.{Buffers, LongBuffers, ShortAnswer, Answered, ShortAnswers, AnsweredFrom}

-- what the answer buffer holds for a line or a refusal fits; a refusal of the file is at most 5, one of a line at most 10
abbrev pub AnswerFits : LineNumbers → Type 0
AnswerFits (LineNumbers.Line bytes) = bytes ≤ answer_bytes
AnswerFits (LineNumbers.Refused refusal bytes) = (refusal ≤ 10) × (bytes ≤ answer_bytes)
AnswerFits LineNumbers.PastLast = Unit {0}
AnswerFits (LineNumbers.FileRefused refusal at_line) = refusal ≤ 5

-- the line to go on with is one of an accepted file
abbrev pub AnswersFit : LinesNumbers → Type 0
AnswersFit (LinesNumbers.More next line bytes) = (next < max_questions) × (line < max_lines) × (bytes ≤ answer_bytes)
AnswersFit (LinesNumbers.End bytes) = bytes ≤ answer_bytes
AnswersFit (LinesNumbers.FileRefused refusal at_line) = refusal ≤ 5

-- of any call of `answer`
abbrev pub AnAnswerFits : Type 0
AnAnswerFits =
    (file : Text) (number line : ℕ) (before after : Buffers) (r : LineNumbers) → ((LongBuffers before → ⊥) → ShortAnswer before after r)
    → (LongBuffers before → Answered file number line before after r) → AnswerFits r

-- of any call of `answer_from`
abbrev pub AnyAnswersFit : Type 0
AnyAnswersFit =
    (file : Text) (from line : ℕ) (before after : Buffers) (r : LinesNumbers) → ((LongBuffers before → ⊥) → ShortAnswers before after r)
    → (LongBuffers before → AnsweredFrom file from line before after r) → AnswersFit r
