-- The statements of specs/Sizes.antt: how large the numbers of an answer are. Those of the definition's answers first; then those of any call,
-- whether its buffers are long enough or not. Assumes nothing.
use Prim.Native.Nat.{ℕ, ◌≤◌}
use native.Mathlib.Omega.{arith}
use mathlib.Core.Path.{◌≡◌, refl, sym, subst, ◌∙◌}
use mathlib.Core.Bool.{Bool, true, false, false≢true}
use mathlib.Core.List.{List, [], ◌∷◌, ◌++◌}
use Rattle.std.specs.Prelude.{Option, None, Some}
use borrow.Author.Tests.{le-leb}
use lib.Dec.{leb}
use Rattle.std.specs.Prelude.{slice_get}
use lib.ListN.{length}
use Rattle.std.specs.Prelude.{if◌then◌else◌}
use Rattle.model.specs.Common.{Text, let_some}
use Rattle.model.specs.Records.{Question, Index}
use Rattle.model.specs.Limits.{record_words, type_words, max_open_demands, answer_bytes}
use Rattle.model.specs.Refusals.{refusal_link}
use Rattle.model.proofs.Tests.{leb_le}
use Rattle.format.specs.Load.{Loading, accepted, refused, load}
use Rattle.format.proofs.Loaded.{loaded_well_formed}
use Rattle.format.proofs.Refused.{refused_few}
use Rattle.resolution.specs.Answer.{Verdict, Line, line_text, written, line_written, question_lines}
use Rattle.resolution.specs.Resolve.{Reply, line_at, ask_loaded, answer}
use Rattle.resolution.proofs.AskedLaws.{few_lines}
use Rattle.resolution.proofs.LineFits.{Fits, verdict_fits, line_fits}
use Rattle.answers.specs.Meaning.{verdict_answer, answer_of, Piece, pieces_at, Lines, fill, lines_in, lines_from, answers_of}
use Rattle.answers.specs.Promises.{Buffers, LongBuffers}
use Rattle.answers.specs.Sizes.{AnswerFits, AnswersFit, AnAnswerFits, AnyAnswersFit}
use Rattle.answers.proofs.AskedLines.{below_length}
use Rattle.answers.proofs.Pieces.{FillIs, fill_is}

-- ------------------------------------------------------------------ one line

verdict_answer_fits : (bytes : ℕ) (v : Verdict) → bytes ≤ answer_bytes → Fits v → AnswerFits (verdict_answer bytes v)
unfolding verdict_answer
verdict_answer_fits bytes (Verdict.typed text) few fits = few
verdict_answer_fits bytes (Verdict.worded word) few fits = few
verdict_answer_fits bytes (Verdict.refused number) few fits = (fits, few)

-- what is written for a line is the line, or nothing
written_fits : (line : Line) → length (line_text line) ≤ answer_bytes → length (line_written line) ≤ answer_bytes
unfolding written
written_fits line fits = by_verdict line.verdict refl
  where
    by_verdict : (v : Verdict) → v ≡ line.verdict → length (written line.asked v) ≤ answer_bytes
    by_verdict (Verdict.typed text) same = subst (λ w. length (line_text (record { asked = line.asked; verdict = w })) ≤ answer_bytes) (sym same) fits
    by_verdict (Verdict.worded word) same = subst (λ w. length (line_text (record { asked = line.asked; verdict = w })) ≤ answer_bytes) (sym same) fits
    by_verdict (Verdict.refused n) same = omega arith

answer_fits : (file : Text) (number line : ℕ) → AnswerFits (answer_of (answer file number line))
unfolding answer ask_loaded answer_of line_at
answer_fits file number line = by_loading (load file) refl
  where
    by_line : (index : Index) (question : Question) → load file ≡ accepted index → slice_get index.questions number ≡ Some question
        → (o : Option Line) → slice_get (question_lines index question) line ≡ o → AnswerFits (answer_of (let_some o Reply.past_last Reply.the_line))
    by_line index question loaded asked None is = tt
    by_line index question loaded asked (Some l) is =
        verdict_answer_fits (length (line_written l)) l.verdict (written_fits l (line_fits file index number question loaded asked line l is))
        (verdict_fits index question line l is)

    by_question : (index : Index) → load file ≡ accepted index → (o : Option Question) → slice_get index.questions number ≡ o
        → AnswerFits (answer_of (let_some o (Reply.file_refused refusal_link 0) (λ question. line_at (question_lines index question) line)))
    by_question index loaded None is = omega arith
    by_question index loaded (Some question) is = by_line index question loaded is (slice_get (question_lines index question) line) refl

    by_loading : (loading : Loading) → load file ≡ loading → AnswerFits (answer_of (ask_loaded loading number line))
    by_loading (accepted index) loaded = by_question index loaded (slice_get index.questions number) refl
    by_loading (refused refusal at_line) loaded = refused_few file refusal at_line loaded

-- ------------------------------------------------------------------ the lines of many questions

abbrev BytesFit : Lines → Type 0
BytesFit (Lines.end text) = length text ≤ answer_bytes
BytesFit (Lines.more next line text) = length text ≤ answer_bytes
BytesFit (Lines.file_refused refusal at_line) = Unit {0}

fill_fits : (pieces : List Piece) (text : Text) → length text ≤ answer_bytes → BytesFit (fill text pieces)
unfolding fill
fill_fits [] text few = few
fill_fits (piece ∷ pieces) text few = by_room (leb (length (text ++ piece.text)) answer_bytes) refl (fill_fits pieces (text ++ piece.text))
  where
    by_room : (b : Bool) → leb (length (text ++ piece.text)) answer_bytes ≡ b → (length (text ++ piece.text) ≤ answer_bytes → BytesFit (fill (text ++ piece.text) pieces))
        → BytesFit (if b then fill (text ++ piece.text) pieces else Lines.more piece.question piece.line text)
    by_room true h on = on (leb_le (length (text ++ piece.text)) answer_bytes h)
    by_room false h on = few

lines_fit : (file : Text) (from line : ℕ) → AnswersFit (answers_of (lines_from file from line))
unfolding lines_from lines_in answers_of
lines_fit file from line = by_loading (load file) refl
  where
    by_lines : (index : Index) → load file ≡ accepted index → (lines : Lines) → fill [] (pieces_at index from line) ≡ lines → AnswersFit (answers_of lines)
    by_lines index loaded (Lines.end text) is = subst BytesFit is (fill_fits (pieces_at index from line) [] (omega arith))
    by_lines index loaded (Lines.more next next_line text) is =
        let formed = loaded_well_formed file index loaded in
        let stopped = subst (FillIs index [] from line) is (fill_is index (pieces_at index from line) [] from line refl) in
        let there = stopped.next_there in
        let question_below = below_length index.questions next there.has_question in
        let line_below = below_length (question_lines index there.question) next_line there.is_line in
        let few_questions = formed.limits.questions in
        let few = few_lines index formed there.question in
        (omega (arith, question_below, few_questions), omega (arith, line_below, few), subst BytesFit is (fill_fits (pieces_at index from line) [] (omega arith)))
    by_lines index loaded (Lines.file_refused refusal at_line) is =
        absurd (subst (FillIs index [] from line) is (fill_is index (pieces_at index from line) [] from line refl))

    by_count : (index : Index) → load file ≡ accepted index → (b : Bool)
        → AnswersFit (answers_of (if b then fill [] (pieces_at index from line) else Lines.file_refused refusal_link 0))
    by_count index loaded true = by_lines index loaded (fill [] (pieces_at index from line)) refl
    by_count index loaded false = omega arith

    by_loading : (loading : Loading) → load file ≡ loading → AnswersFit (answers_of (lines_in loading from line))
    by_loading (accepted index) loaded = by_count index loaded (leb from (length index.questions))
    by_loading (refused refusal at_line) loaded = refused_few file refusal at_line loaded

-- ------------------------------------------------------------------ any call

-- the buffers are long enough, or not
by_length : (A : Type 0) (before : Buffers) → (LongBuffers before → A) → ((LongBuffers before → ⊥) → A) → A
by_length A before long short =
    by_tests (leb record_words (length before.records)) (leb type_words (length before.types)) (leb max_open_demands (length before.demands))
    (leb answer_bytes (length before.out)) refl refl refl refl
  where
    too_short : (most n : ℕ) → leb most n ≡ false → most ≤ n → ⊥
    too_short most n h k = false≢true (sym h ∙ le-leb most n k)

    by_tests : (a b c d : Bool) → leb record_words (length before.records) ≡ a → leb type_words (length before.types) ≡ b
        → leb max_open_demands (length before.demands) ≡ c → leb answer_bytes (length before.out) ≡ d → A
    by_tests true true true true ha hb hc hd =
        long (record {
          records_long = leb_le record_words (length before.records) ha;
          types_long = leb_le type_words (length before.types) hb;
          places_long = leb_le max_open_demands (length before.demands) hc;
          bytes_long = leb_le answer_bytes (length before.out) hd;
        })
    by_tests false b c d ha hb hc hd = short (λ l. too_short record_words (length before.records) ha l.records_long)
    by_tests true false c d ha hb hc hd = short (λ l. too_short type_words (length before.types) hb l.types_long)
    by_tests true true false d ha hb hc hd = short (λ l. too_short max_open_demands (length before.demands) hc l.places_long)
    by_tests true true true false ha hb hc hd = short (λ l. too_short answer_bytes (length before.out) hd l.bytes_long)

pub an_answer_fits : AnAnswerFits
an_answer_fits file number line before after r short full =
    by_length (AnswerFits r) before (λ long. subst AnswerFits (sym (full long).first.is) (answer_fits file number line))
    (λ not_long. subst AnswerFits (sym (short not_long).is) (omega arith))

pub any_answers_fit : AnyAnswersFit
any_answers_fit file from line before after r short full =
    by_length (AnswersFit r) before (λ long. subst AnswersFit (sym (full long).first.is) (lines_fit file from line))
    (λ not_long. subst AnswersFit (sym (short not_long).is) (omega arith))
