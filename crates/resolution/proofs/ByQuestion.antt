-- What `resolve` prints is what is answered, asked line by line: question 0 from line 0 up to the first that it lacks, then the next question.
-- Assumes nothing.
use Prim.Native.Nat.{ℕ}
use mathlib.Core.Path.{◌≡◌, refl, sym, ◌∙◌, ap}
use mathlib.Core.Bool.{Bool, true, false}
use mathlib.Core.List.{List}
use Rattle.std.specs.Prelude.{Option, None, Some}
use Rattle.std.specs.Prelude.{slice_get}
use Rattle.std.specs.Prelude.{if◌then◌else◌}
use Rattle.model.specs.Common.{Text, let_some, joined}
use Rattle.model.specs.Records.{Question, Index}
use Rattle.model.specs.Limits.{max_questions}
use Rattle.model.specs.Refusals.{refusal_link}
use Rattle.model.proofs.Collected.{texts_from, texts_are}
use Rattle.format.specs.Load.{accepted, refused, load}
use Rattle.resolution.specs.Asked.{max_lines}
use Rattle.resolution.specs.Answer.{Line, line_text, question_lines, question_text, answers}
use Rattle.resolution.specs.Resolve.{Reply, line_of, line_at, printed, resolve, refusal_line, ask_loaded, answer}
use Rattle.resolution.proofs.Secrecy.{question_answered}
use Rattle.resolution.proofs.AskedLaws.{few_lines}
use Rattle.format.proofs.Loaded.{loaded_well_formed}

-- a refused file: the one line, and the same refusal of every question
pub refused_printed : (file : Text) (number line : ℕ) → load file ≡ refused number line
    → (resolve file ≡ refusal_line number line) × ((question line_number : ℕ) → answer file question line_number ≡ Reply.file_refused number line)
unfolding resolve printed answer ask_loaded
refused_printed file number line e = (ap printed e, λ question line_number. ap (λ loading. ask_loaded loading question line_number) e)

-- a question number that the file lacks
pub lacking_refused : (file : Text) (index : Index) (number line : ℕ) → load file ≡ accepted index → slice_get index.questions number ≡ None
    → answer file number line ≡ Reply.file_refused refusal_link 0
unfolding answer ask_loaded
lacking_refused file index number line e h = ap (λ loading. ask_loaded loading number line) e ∙ rw h

abbrev pub is_refused : Reply → Bool
is_refused (Reply.the_line line) = false
is_refused Reply.past_last = false
is_refused (Reply.file_refused number at_line) = true

-- the lines of a question, asked one after the other; none where the file lacks the question
unfoldable pub question_printed : Text → ℕ → Option Text
question_printed file number =
    if is_refused (answer file number 0) then None else Some (texts_from max_lines (λ line. line_of (answer file number line)) 0)

not_refused : (lines : List Line) (number : ℕ) → is_refused (line_at lines number) ≡ false
unfolding line_at
not_refused lines number = go (slice_get lines number)
  where
    go : (o : Option Line) → is_refused (let_some o Reply.past_last Reply.the_line) ≡ false
    go None = refl
    go (Some l) = refl

text_at : (lines : List Line) (number : ℕ) → line_of (line_at lines number) ≡ let_some (slice_get lines number) None (λ l. Some (line_text l))
unfolding line_at line_of
text_at lines number = go (slice_get lines number)
  where
    go : (o : Option Line) → line_of (let_some o Reply.past_last Reply.the_line) ≡ let_some o None (λ l. Some (line_text l))
    go None = refl
    go (Some l) = refl

module _ (file : Text) (index : Index) (loaded : load file ≡ accepted index) where
  one_printed : (number : ℕ) → question_printed file number ≡ let_some (slice_get index.questions number) None (λ q. Some (question_text index q))
  unfolding question_printed question_text
  one_printed number = go (slice_get index.questions number) refl
    where
      go : (o : Option Question) → slice_get index.questions number ≡ o
          → (if is_refused (answer file number 0) then None else Some (texts_from max_lines (λ line. line_of (answer file number line)) 0))
          ≡ let_some o None (λ q. Some (joined line_text (question_lines index q)))
      go None h =
          ap (λ r. if is_refused r then None else Some (texts_from max_lines (λ line. line_of (answer file number line)) 0))
          (lacking_refused file index number 0 loaded h)
      go (Some q) h =
          let asked = question_answered file number index q loaded h in
          ap (λ b. if b then None else Some (texts_from max_lines (λ line. line_of (answer file number line)) 0))
          (ap is_refused (asked 0) ∙ not_refused (question_lines index q) 0)
          ∙ ap Some
          (texts_are line_text (question_lines index q) (λ line. line_of (answer file number line))
          (λ line. ap line_of (asked line) ∙ text_at (question_lines index q) line)
          max_lines
          (few_lines index (loaded_well_formed file index loaded) q))

  pub accepted_printed : resolve file ≡ texts_from max_questions (question_printed file) 0
  unfolding resolve printed answers
  accepted_printed =
      ap printed loaded
      ∙ sym
      (texts_are (question_text index) index.questions (question_printed file) one_printed max_questions
      (loaded_well_formed file index loaded).limits.questions)
