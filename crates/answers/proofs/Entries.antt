-- The public entries: what a loaded or refused file and a question found or lacking give, and the first words of longer buffers. Assumes nothing.
use Prim.Native.Nat.{ℕ, ◌≤◌, ◌<◌}
use mathlib.Core.Bool.{false≢true}
use mathlib.Core.Path.{◌≡◌, refl, sym, ap, subst, ◌∙◌}
use mathlib.Core.List.{List, [], ◌++◌, append_assoc}
use Rattle.std.specs.Prelude.{None, Some, Result, Ok, Err, IsErr, IsErrAnd}
use native.Mathlib.Omega.{arith}
use borrow.Author.Tests.{le-leb, lt-leb}
use Rattle.std.specs.Prelude.{slice_get}
use lib.ListN.{length, take, drop, replicate, length-append, length-drop, take-append-drop}
use lib.Seq.{take_at, drop_at, drop-append-le, take_all, length-take-le}
use Rattle.std.specs.Prelude.{if◌then◌else◌}
use Rattle.refusals.specs.Numbers.{refusal_number, file_refusal_number}
use Rattle.refusals.specs.declared.Refusal.{Refusal}
use Rattle.refusals.specs.declared.FileRefused.{FileRefused}
use Rattle.model.specs.Common.{Text, let_some}
use Rattle.model.specs.Records.{Question, Index}
use Rattle.model.specs.Limits.{record_words, type_words, max_open_demands, answer_bytes}
use Rattle.model.specs.Refusals.{refusal_link}
use Rattle.format.specs.Load.{accepted, refused, load}
use Rattle.records.specs.Layout.{index_of}
use Rattle.resolution.specs.Asked.{Asked, question_asked}
use Rattle.resolution.specs.Answer.{Verdict, verdict, asked_lead, line_text, written, question_lines}
use Rattle.resolution.specs.Resolve.{Reply, line_at, ask_loaded, written_of, answer}
use Rattle.resolution.proofs.Secrecy.{question_answered}
use Rattle.resolution.proofs.LineFits.{line_fits}
use Rattle.loader.specs.Load.{Filled, Loaded as FileLoaded}
use Rattle.line_text.specs.Lines.{put_first, Answering, line_with}
use Rattle.answers.specs.Meaning.{verdict_answer, answer_of, answer_out, Lines, pieces_at, fill, lines_in, lines_from, answers_of, lines_out}
use Rattle.answers.specs.Numbers.{LineNumbers, LinesNumbers}
use Rattle.answers.specs.Steps.{Exact, Loaded, AskedAnswered, LineThere, LinesLeave, LinesWritten, zero_types, zero_places}
use Rattle.answers.specs.Promises.{ExactAnswered, LeavesFrom, ExactAnsweredFrom, Buffers, Behind, Answered, AnsweredFrom}
use Rattle.line_text.specs.declared.LineError.{LineError}
use Rattle.answers.proofs.AskedLines.{past_line}
use Rattle.answers.proofs.Asking.{the_line}

-- ------------------------------------------------------------------ a file

-- a refusal of the file that `?` handed on
pub handed_on : {A : Type 0} {r : Result A FileRefused} {e : FileRefused} → IsErr r × IsErrAnd r (λ x. x ≡ e) → r ≡ Err e
handed_on {r = Ok x} h = absurd (false≢true h.0)
handed_on {r = Err e} h = ap Err h.1

-- exactly as many words: all of them are the first
pub whole : (words : List ℕ) → length words ≡ record_words → take record_words words ≡ words
whole words long = take_all record_words words (omega arith)

module _ (file before words types : List ℕ) (demands : List (List ℕ)) (exact : Exact before types demands) where
  words_same : (r : FileLoaded) → Filled file before words r → take record_words words ≡ words
  words_same r filled = whole words (filled.long ∙ exact.words_long)

  -- an accepted file
  pub file_loaded : Filled file before words (Ok tt) → Loaded file words types demands
  file_loaded filled =
      record {
        exact = record { words_long = filled.long ∙ exact.words_long; types_long = exact.types_long; places_long = exact.places_long };
        is = sym filled.is ∙ ap (λ w. accepted (index_of file w)) (words_same (Ok tt) filled);
      }

  module _ (e : FileRefused) (filled : Filled file before words (Err e)) where
    pub file_refused : load file ≡ refused (file_refusal_number e.refusal) e.line
    file_refused = sym filled.is

    pub words_zero : words ≡ replicate record_words 0
    words_zero = sym (words_same (Err e) filled) ∙ filled.cleared

-- ------------------------------------------------------------------ one line

-- a line that is no refusal is written
answering_is : (n : ℕ) (v : Verdict) → Answering v → verdict_answer n v ≡ LineNumbers.Line n
unfolding verdict_answer
answering_is n (Verdict.typed text) answering = refl
answering_is n (Verdict.worded word) answering = refl
answering_is n (Verdict.refused number) answering = absurd answering

answering_out : (asked : Asked) (v : Verdict) → Answering v → written asked v ≡ line_with (asked_lead asked) v
unfolding written line_text
answering_out asked (Verdict.typed text) answering = refl
answering_out asked (Verdict.worded word) answering = refl
answering_out asked (Verdict.refused number) answering = absurd answering

module _ (file : Text) (number line_number : ℕ) (types : List ℕ) (demands : List (List ℕ)) (out : List ℕ) where
  pub refused_file : (refusal line : ℕ) (words : List ℕ) → load file ≡ refused refusal line → words ≡ replicate record_words 0
      → ExactAnswered file number line_number types demands out words types demands out (LineNumbers.FileRefused refusal line)
  unfolding answer ask_loaded answer_of answer_out written_of
  refused_file refusal line words is_refused zero =
      let reply : answer file number line_number ≡ Reply.file_refused refusal line = ap (λ l. ask_loaded l number line_number) is_refused in
      record {
        is = sym (ap answer_of reply);
        out_is = sym (ap (λ r. answer_out r out) reply);
        leaves = record { records_are = zero; types_same = refl; demands_same = refl };
      }

  pub lacking : (index : Index) (words : List ℕ) → load file ≡ accepted index → None ≡ slice_get index.questions number → words ≡ replicate record_words 0
      → ExactAnswered file number line_number types demands out words types demands out (LineNumbers.FileRefused refusal_link 0)
  unfolding answer ask_loaded answer_of answer_out written_of
  lacking index words loaded lacks zero =
      let reply : answer file number line_number ≡ Reply.file_refused refusal_link 0 =
      ap (λ l. ask_loaded l number line_number) loaded
      ∙ ap (λ o. let_some o (Reply.file_refused refusal_link 0) (λ q. line_at (question_lines index q) line_number)) (sym lacks) in
      record {
        is = sym (ap answer_of reply);
        out_is = sym (ap (λ r. answer_out r out) reply);
        leaves = record { records_are = zero; types_same = refl; demands_same = refl };
      }

  module _ (words : List ℕ) (question : Question) (loaded : load file ≡ accepted (index_of file words))
      (has_question : slice_get (index_of file words).questions number ≡ Some question) (types' : List ℕ) (demands' : List (List ℕ)) (out' : List ℕ) where
    -- past the last line
    pub past_reply : None ≡ slice_get (question_asked (index_of file words) question) line_number → types' ≡ zero_types → demands' ≡ zero_places
        → ExactAnswered file number line_number types demands out words types' demands' out LineNumbers.PastLast
    unfolding answer_of answer_out written_of line_at
    past_reply is types_zero demands_zero =
        let reply : answer file number line_number ≡ Reply.past_last =
        question_answered file number (index_of file words) question loaded has_question line_number
        ∙ ap (λ o. let_some o Reply.past_last Reply.the_line) (past_line (index_of file words) question line_number (sym is)) in
        record {
          is = sym (ap answer_of reply);
          out_is = sym (ap (λ r. answer_out r out) reply);
          leaves = record { records_are = loaded; types_are = types_zero; demands_are = demands_zero };
        }

    module _ (about : Asked) (asks : Some about ≡ slice_get (question_asked (index_of file words) question) line_number) where
      abbrev there : (v : Verdict) → verdict (index_of file words) about ≡ Some v → LineThere (index_of file words) number line_number
      there v has = the_line file (index_of file words) number question has_question line_number types demands out about asks types' demands' out' v has

      reply_as : (v : Verdict) → verdict (index_of file words) about ≡ Some v → answer file number line_number ≡ Reply.the_line (record { asked = about; verdict = v })
      unfolding line_at
      reply_as v has =
          question_answered file number (index_of file words) question loaded has_question line_number
          ∙ ap (λ o. let_some o Reply.past_last Reply.the_line) (there v has).is_line

      pub typed_reply : (n : ℕ) → AskedAnswered file (index_of file words) about out types' demands' out' (Ok n)
          → ExactAnswered file number line_number types demands out words types' demands' out' (LineNumbers.Line n)
      unfolding answer_of answer_out written_of line_text
      typed_reply n all =
          let reply = reply_as all.v all.has in
          record {
            is =
                ap LineNumbers.Line all.is.put.long
                ∙ sym (answering_is (length (line_with (asked_lead about) all.v)) all.v all.is.answering)
                ∙ ap (λ t. verdict_answer (length t) all.v) (sym (answering_out about all.v all.is.answering))
                ∙ sym (ap answer_of reply);
            out_is =
                all.is.put.bytes
                ∙ ap (λ l. put_first l out) (sym (answering_out about all.v all.is.answering))
                ∙ sym (ap (λ r. answer_out r out) reply);
            leaves = record { records_are = loaded; there = there all.v all.has; types_are = all.types_are; demands_are = all.demands_are };
          }

      pub refused_reply : (refusal : Refusal) → AskedAnswered file (index_of file words) about out types' demands' out' (Err (LineError.Refused refusal))
          → ExactAnswered file number line_number types demands out words types' demands' out' (LineNumbers.Refused (refusal_number refusal) 0)
      unfolding answer_of verdict_answer answer_out written_of written
      refused_reply refusal all =
          let reply = reply_as (Verdict.refused (refusal_number refusal)) (all.has ∙ ap Some all.is.is) in
          record {
            is = sym (ap answer_of reply);
            out_is = all.is.same ∙ sym (ap (λ r. answer_out r out) reply);
            leaves = record { records_are = loaded; types_are = all.types_are; demands_are = all.demands_are };
          }

      -- every line fits
      pub room : answer_bytes ≤ length out → AskedAnswered file (index_of file words) about out types' demands' out' (Err LineError.NoRoom) → ⊥
      unfolding line_text
      room enough all =
          omega (arith, line_fits file (index_of file words) number question loaded has_question line_number (there all.v all.has).line (there all.v all.has).is_line, all.is.short)

-- ------------------------------------------------------------------ the lines of many questions

module _ (file : Text) (from start : ℕ) (types : List ℕ) (demands : List (List ℕ)) (out : List ℕ) where
  pub refused_lines : (refusal line : ℕ) (words : List ℕ) → load file ≡ refused refusal line → words ≡ replicate record_words 0
      → ExactAnsweredFrom file from start types demands out words types demands out (LinesNumbers.FileRefused refusal line)
  unfolding lines_from lines_in answers_of lines_out
  refused_lines refusal line words is_refused zero =
      let lines : lines_from file from start ≡ Lines.file_refused refusal line = ap (λ l. lines_in l from start) is_refused in
      record {
        is = sym (ap answers_of lines);
        out_is = sym (ap (λ l. lines_out l out) lines);
        leaves = record { records_are = zero; types_same = refl; demands_same = refl };
      }

  pub past : (index : Index) (words : List ℕ) → load file ≡ accepted index → length index.questions < from → words ≡ replicate record_words 0
      → ExactAnsweredFrom file from start types demands out words types demands out (LinesNumbers.FileRefused refusal_link 0)
  unfolding lines_from lines_in answers_of lines_out
  past index words loaded over zero =
      let lines : lines_from file from start ≡ Lines.file_refused refusal_link 0 =
      ap (λ l. lines_in l from start) loaded
      ∙ ap (λ b. if b then fill [] (pieces_at index from start) else Lines.file_refused refusal_link 0) (lt-leb from (length index.questions) over) in
      record {
        is = sym (ap answers_of lines);
        out_is = sym (ap (λ l. lines_out l out) lines);
        leaves = record { records_are = zero; types_same = refl; demands_same = refl };
      }

  module _ (words : List ℕ) (loaded : load file ≡ accepted (index_of file words)) (below : from ≤ length (index_of file words).questions)
      (types' : List ℕ) (demands' : List (List ℕ)) (out' : List ℕ) where
    lines_as : lines_from file from start ≡ fill [] (pieces_at (index_of file words) from start)
    unfolding lines_from lines_in
    lines_as =
        ap (λ l. lines_in l from start) loaded
        ∙ ap (λ b. if b then fill [] (pieces_at (index_of file words) from start) else Lines.file_refused refusal_link 0)
        (le-leb from (length (index_of file words).questions) below)

    lines_leave : (r : LinesNumbers) → LinesLeave file (index_of file words) types demands types' demands' r → LeavesFrom file types demands words types' demands' r
    lines_leave (LinesNumbers.More next line n) left = record { records_are = loaded; leaves = left }
    lines_leave (LinesNumbers.End n) left = record { records_are = loaded; leaves = left }
    lines_leave (LinesNumbers.FileRefused refusal line) left = absurd left

    pub lines_reply : (r : LinesNumbers) → LinesWritten file (index_of file words) from start types out demands types' demands' out' r
        → ExactAnsweredFrom file from start types demands out words types' demands' out' r
    lines_reply r all =
        record {
          is = all.is ∙ sym (ap answers_of lines_as);
          out_is = all.bytes ∙ sym (ap (λ l. lines_out l out) lines_as);
          leaves = lines_leave r all.leaves;
        }

-- ------------------------------------------------------------------ the first words of longer buffers

front_of : {A : Type 0} (n : ℕ) (part old : List A) → length part ≡ n → take n (part ++ drop n old) ≡ part
front_of n part old long = take_at part (drop n old) n long

back_of : {A : Type 0} (n : ℕ) (part old : List A) → length part ≡ n → drop n (part ++ drop n old) ≡ drop n old
back_of n part old long = drop_at part (drop n old) n long

module _ (records types : List ℕ) (demands : List (List ℕ)) (words' types' : List ℕ) (demands' : List (List ℕ)) (words_long : length words' ≡ record_words)
    (types_long : length types' ≡ type_words) (places_long : length demands' ≡ max_open_demands) (out out' : List ℕ) where
  abbrev before : Buffers
  before = record { records = records; types = types; demands = demands; out = out }

  abbrev after : Buffers
  after =
      record {
        records = words' ++ drop record_words records;
        types = types' ++ drop type_words types;
        demands = demands' ++ drop max_open_demands demands;
        out = out';
      }

  stays : Behind before after
  stays =
      record {
        records_behind = back_of record_words words' records words_long;
        types_behind = back_of type_words types' types types_long;
        demands_behind = back_of max_open_demands demands' demands places_long;
      }

  -- what holds of the parts holds of the first words and places
  in_front : (P : List ℕ → List ℕ → List (List ℕ) → Type 0) → P words' types' demands'
      → P (take record_words after.records) (take type_words after.types) (take max_open_demands after.demands)
  in_front P p =
      subst (λ w. P w (take type_words after.types) (take max_open_demands after.demands)) (sym (front_of record_words words' records words_long))
      (subst (λ t. P words' t (take max_open_demands after.demands)) (sym (front_of type_words types' types types_long))
      (subst (P words' types') (sym (front_of max_open_demands demands' demands places_long)) p))

  pub answered : (file : Text) (number line : ℕ) (r : LineNumbers)
      → ExactAnswered file number line (take type_words types) (take max_open_demands demands) out words' types' demands' out' r → Answered file number line before after r
  answered file number line r exact =
      record {
        first = in_front (λ w t d. ExactAnswered file number line (take type_words types) (take max_open_demands demands) out w t d out' r) exact;
        behind = stays;
      }

-- the lines in the first 4,160 bytes are the lines in all of them
text_whole : (text out : Text) → answer_bytes ≤ length out → length (put_first text (take answer_bytes out)) ≡ answer_bytes
    → put_first text (take answer_bytes out) ++ drop answer_bytes out ≡ put_first text out
text_whole text out enough long =
    append_assoc text (drop (length text) (take answer_bytes out)) (drop answer_bytes out)
    ∙ ap (λ l. text ++ l)
    (sym (drop-append-le (length text) (take answer_bytes out) (drop answer_bytes out) short)
    ∙ ap (drop (length text)) (take-append-drop answer_bytes out))
  where
    short : length text ≤ length (take answer_bytes out)
    short =
        omega (arith, length-append text (drop (length text) (take answer_bytes out)), length-drop (length text) (take answer_bytes out), length-take-le answer_bytes out enough)

lines_whole : (lines : Lines) (out : Text) → answer_bytes ≤ length out → length (lines_out lines (take answer_bytes out)) ≡ answer_bytes
    → lines_out lines (take answer_bytes out) ++ drop answer_bytes out ≡ lines_out lines out
unfolding lines_out
lines_whole (Lines.end text) out enough long = text_whole text out enough long
lines_whole (Lines.more number line text) out enough long = text_whole text out enough long
lines_whole (Lines.file_refused number line) out enough long = take-append-drop answer_bytes out

module _ (records types : List ℕ) (demands : List (List ℕ)) (words' types' : List ℕ) (demands' : List (List ℕ)) (words_long : length words' ≡ record_words)
    (types_long : length types' ≡ type_words) (places_long : length demands' ≡ max_open_demands) (out part' : List ℕ) (enough : answer_bytes ≤ length out)
    (part_long : length part' ≡ answer_bytes) where
  abbrev all_out : List ℕ
  all_out = part' ++ drop answer_bytes out

  pub answered_from : (file : Text) (from line : ℕ) (r : LinesNumbers)
      → ExactAnsweredFrom file from line (take type_words types) (take max_open_demands demands) (take answer_bytes out) words' types' demands' part' r
      → AnsweredFrom file from line (before records types demands words' types' demands' words_long types_long places_long out all_out)
      (after records types demands words' types' demands' words_long types_long places_long out all_out) r
  answered_from file from line r exact =
      record {
        first =
            in_front records types demands words' types' demands' words_long types_long places_long out all_out
            (λ w t d. ExactAnsweredFrom file from line (take type_words types) (take max_open_demands demands) out w t d all_out r)
            (record {
              is = exact.is;
              out_is =
                  ap (λ l. l ++ drop answer_bytes out) exact.out_is
                  ∙ lines_whole (lines_from file from line) out enough (sym (ap length exact.out_is) ∙ part_long);
              leaves = exact.leaves;
            });
        behind = stays records types demands words' types' demands' words_long types_long places_long out all_out;
      }
