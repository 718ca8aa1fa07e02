-- The answer lines: the text of a type, refusal 10, and the lines of a question, byte for byte. Assumes nothing.
use Rattle.std.specs.Prelude.{ℕ, zero, suc, ◌+◌, ◌/◌, ◌%◌, true, false, List, [], ◌∷◌, ◌++◌, ltb, leb, length}
use Rattle.std.specs.Prelude.{Option, None, Some}
use Rattle.std.specs.Prelude.{if◌then◌else◌}
use Rattle.model.specs.Common.{Text, let_some, collect, joined, bytes}
use Rattle.model.specs.Records.{Question, Index}
use Rattle.model.specs.Refusals.{refusal_text}
use Rattle.resolution.specs.TypeData.{TypeData}
use Rattle.resolution.specs.Types.{Table, data_of}
use Rattle.resolution.specs.Asked.{Asked, question_asked}
use Rattle.resolution.specs.Programs.{Said}
use Rattle.resolution.specs.Run.{Outcome, resolve_asked}

-- ------------------------------------------------------------------ numbers

-- at most as many digits as the first number says
unfoldable pub decimal_digits : ℕ → ℕ → Text
decimal_digits zero n = []
decimal_digits (suc more) n =
    elim (ltb n 10) [ true ↦ (48 + n) ∷ [] | false ↦ decimal_digits more (n / 10) ++ ((48 + n % 10) ∷ []) ]

-- "decimal without leading zeros"
unfoldable pub decimal : ℕ → Text
decimal n = decimal_digits (suc n) n

-- ------------------------------------------------------------------ the text of a type

-- the texts of the types, with commas between them
unfoldable pub comma_texts : (ℕ → Text) → List ℕ → Text
comma_texts text [] = []
comma_texts text (t ∷ []) = text t
comma_texts text (t ∷ u ∷ ts) = text t ++ (bytes "," ++ comma_texts text (u ∷ ts))

-- a row, where `text` gives the texts of the types inside
unfoldable pub row_text : (ℕ → Text) → TypeData → Text
row_text text TypeData.Felt = bytes "felt"
row_text text TypeData.Bool = bytes "bool"
row_text text TypeData.U32 = bytes "u32"
row_text text TypeData.Unknown = bytes "unknown"
row_text text TypeData.Error = bytes "error"
row_text text (TypeData.Tuple ts) = bytes "(" ++ (comma_texts text ts ++ bytes ")")
row_text text (TypeData.Pointer t) = bytes "ptr(" ++ (text t ++ bytes ")")
row_text text (TypeData.FixedArray t size) = bytes "[" ++ (text t ++ (bytes ";" ++ (decimal size ++ bytes "]")))
row_text text (TypeData.Struct m d fields) = bytes "struct:" ++ (decimal m ++ (bytes "." ++ decimal d))
row_text text (TypeData.Function m d params t) = bytes "fn:" ++ (decimal m ++ (bytes "." ++ decimal d))

-- down to the depth that the first number says
unfoldable pub text_within : ℕ → Table → ℕ → Text
text_within zero table t = []
text_within (suc depth) table t = row_text (λ u. text_within depth table u) (data_of table t)

-- the text of a type. An element has a lower number than its holder, so the type's number is depth enough
unfoldable pub type_text : Table → ℕ → Text
type_text table t = text_within (suc t) table t

-- ------------------------------------------------------------------ the line

-- a type's text, a word, or the number of a refusal
pub data Verdict : Type 0 where
  typed : Text → Verdict
  worded : Text → Verdict
  refused : ℕ → Verdict

abbrev pub max_text : ℕ
max_text = 4096

-- 10: "a text over 4,096 bytes"
unfoldable pub text_verdict : Text → Verdict
text_verdict text = if leb (length text) max_text then Verdict.typed text else Verdict.refused refusal_text

unfoldable pub said_verdict : Table → Said → Option Verdict
said_verdict table (Said.type t) = Some (text_verdict (type_text table t))
said_verdict table (Said.word word) = Some (Verdict.worded word)
said_verdict table Said.nothing = None

-- none where there is no line
unfoldable pub outcome_verdict : Outcome Said → Option Verdict
outcome_verdict (Outcome.answered said table) = said_verdict table said
outcome_verdict (Outcome.refused n) = Some (Verdict.refused n)

unfoldable pub verdict : Index → Asked → Option Verdict
verdict index asked = outcome_verdict (resolve_asked index asked)

-- a word, and two fields behind it, each with its tab
unfoldable pub lead_of : Text → Text → Text → Text
lead_of word a b = word ++ (bytes "\t" ++ (a ++ (bytes "\t" ++ (b ++ bytes "\t"))))

-- kind, module and number
unfoldable pub asked_lead : Asked → Text
asked_lead (Asked.expr m e context) = lead_of (bytes "expr") (decimal m) (decimal e)
asked_lead (Asked.def m d) = lead_of (bytes "def") (decimal m) (decimal d)
asked_lead (Asked.type m t s) = lead_of (bytes "type") (decimal m) (decimal t)
asked_lead (Asked.at m position) = lead_of (bytes "at") (decimal m) (decimal position)

-- "then `type` and the text, or `refused` and the number", or a word, with the LF
unfoldable pub verdict_fields : Verdict → Text
verdict_fields (Verdict.typed text) = bytes "type\t" ++ (text ++ bytes "\n")
verdict_fields (Verdict.worded word) = word ++ bytes "\n"
verdict_fields (Verdict.refused n) = bytes "refused\t" ++ (decimal n ++ bytes "\n")

-- a line: what it is about, and what stands behind its lead fields
pub record Line : Type 0 where
  pub asked : Asked
  pub verdict : Verdict

-- every byte of it
unfoldable pub line_text : Line → Text
line_text line = asked_lead line.asked ++ verdict_fields line.verdict

-- "Answer bytes behind the line stay"; after 6 to 10 "the answer buffer is unchanged": what the answer buffer holds from its start
unfoldable pub written : Asked → Verdict → Text
written asked (Verdict.typed text) = line_text (record { asked = asked; verdict = Verdict.typed text })
written asked (Verdict.worded word) = line_text (record { asked = asked; verdict = Verdict.worded word })
written asked (Verdict.refused n) = []

abbrev pub line_written : Line → Text
line_written line = written line.asked line.verdict

-- ------------------------------------------------------------------ the lines

-- the line about it
unfoldable pub asked_line : Index → Asked → Option Line
asked_line index asked = let_some (verdict index asked) None λ v. Some (record { asked = asked; verdict = v })

-- the lines of a question; their numbers run from 0
unfoldable pub question_lines : Index → Question → List Line
question_lines index question = collect (asked_line index) (question_asked index question)

-- what is printed for a question
unfoldable pub question_text : Index → Question → Text
question_text index question = joined line_text (question_lines index question)

-- what `resolve` prints for an accepted index
unfoldable pub answers : Index → Text
answers index = joined (question_text index) index.questions
