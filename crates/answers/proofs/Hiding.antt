-- Demand 3 of the code (specs/Whole.antt): for two files whose records outside a body agree, calls of `answer`, what calls of `answer_from` write of the
-- question, and what is printed for it. By the definition's own theorem the two files have the same line; the rest says where its bytes stand. Assumes nothing.
use Prim.Native.Nat.{ℕ, suc, ◌+◌, ◌≤◌}
use mathlib.Core.Path.{◌≡◌, refl, sym, ap, ap₂, subst, ◌∙◌}
use mathlib.Core.Bool.{Bool, true, false}
use mathlib.Core.List.{List, [], ◌∷◌, ◌++◌, append-nil}
use Rattle.std.specs.Prelude.{Some}
use native.Mathlib.Omega.{arith}
use lib.Dec.{ltb}
use Rattle.std.specs.Prelude.{slice_get}
use lib.ListN.{length, take, drop, length-append}
use lib.Seq.{take_at}
use Rattle.model.specs.Common.{Text, joined}
use Rattle.model.specs.Records.{Question, Index}
use Rattle.model.proofs.Tests.{some-injective, ltb_lt, ltb-false}
use Rattle.format.specs.Load.{Loading, accepted, refused, load}
use Rattle.resolution.specs.Answer.{Verdict, Line, line_text, line_written, question_lines}
use Rattle.resolution.specs.Resolve.{Reply, written_of, answer}
use Rattle.resolution.proofs.Secrecy.{question_answered, reply_line, bodies_are_hidden}
use Rattle.answers.specs.Meaning.{verdict_answer, answer_of, answer_out, Piece, pieces_at}
use Rattle.answers.specs.Numbers.{LinesNumbers}
use Rattle.answers.specs.Steps.{LineThere}
use Rattle.answers.specs.Promises.{Buffers, AnsweredFrom}
use Rattle.answers.specs.Whole.{printed_pieces, LinesOf, bytes_of, AnswersAlike, Prints, bytes_written, Writes, CarriedOver, AnswersHideBodies, AnswersDemandThree}
use Rattle.answers.proofs.AskedLines.{below_length}
use Rattle.answers.proofs.Filling.{piece_of, pieces_line, pieces_end}
use Rattle.answers.proofs.Pieces.{same_head, same_tail, printed_append, all_printed, First, among, reach}
use Rattle.answers.proofs.Whole.{answers_the_lines, calls_resolve}

-- ------------------------------------------------------------------ calls of `answer`

bytes_are : (reply : Reply) → bytes_of (answer_of reply) ≡ length (written_of reply)
unfolding answer_of verdict_answer written_of
bytes_are (Reply.the_line line) = by_verdict line.verdict
  where
    by_verdict : (v : Verdict) → bytes_of (verdict_answer (length (line_written line)) v) ≡ length (line_written line)
    by_verdict (Verdict.typed text) = refl
    by_verdict (Verdict.worded word) = refl
    by_verdict (Verdict.refused n) = refl
bytes_are Reply.past_last = refl
bytes_are (Reply.file_refused number at_line) = refl

written_first : (reply : Reply) (out : Text) → take (bytes_of (answer_of reply)) (answer_out reply out) ≡ written_of reply
unfolding answer_out
written_first reply out = take_at (written_of reply) (drop (length (written_of reply)) out) (bytes_of (answer_of reply)) (sym (bytes_are reply))

-- calls to which the definition replies alike
alike : (first_file second_file : Text) (first_place second_place first_line second_line : ℕ)
    → answer first_file first_place first_line ≡ answer second_file second_place second_line → AnswersAlike first_file second_file first_place second_place first_line second_line
alike first_file second_file first_place second_place first_line second_line e first_before first_after second_before second_after first second one two =
    let reply = answer first_file first_place first_line in
    let first_is = one.first.is in
    record {
      same = first_is ∙ ap answer_of e ∙ sym two.first.is;
      same_bytes =
          ap₂ (λ r o. take (bytes_of r) o) first_is one.first.out_is
          ∙ written_first reply first_before.out
          ∙ sym (written_first reply second_before.out)
          ∙ ap (λ x. take (bytes_of (answer_of reply)) (answer_out x second_before.out)) e
          ∙ ap₂ (λ r o. take (bytes_of r) o) (sym first_is) (sym two.first.out_is);
    }

-- ------------------------------------------------------------------ a line among those of a call

-- a file has one index
accepted_same : {a b : Index} → accepted a ≡ accepted b → a ≡ b
accepted_same {a} e = ap (index_or a) e
  where
    index_or : Index → Loading → Index
    index_or other (accepted index) = index
    index_or other (refused number at_line) = other

-- a part that lies within the first of two texts is found there, whatever stands behind that text
part_within : (ahead part behind text rest other : Text) → text ++ rest ≡ ahead ++ (part ++ behind) → length ahead + length part ≤ length text
    → take (length part) (drop (length ahead) (text ++ other)) ≡ part
part_within [] [] behind text rest other e fits = refl
part_within [] (x ∷ part) behind [] rest other e fits = absurd (omega arith)
part_within [] (x ∷ part) behind (y ∷ text) rest other e fits =
    ap₂ ◌∷◌ (same_head e) (part_within [] part behind text rest other (same_tail e) (omega (arith, fits)))
part_within (x ∷ ahead) part behind [] rest other e fits = absurd (omega arith)
part_within (x ∷ ahead) part behind (y ∷ text) rest other e fits = part_within ahead part behind text rest other (same_tail e) (omega (arith, fits))

module _ (file : Text) (index : Index) (loaded : load file ≡ accepted index) (place line_number : ℕ) (question : Question)
    (has : slice_get index.questions place ≡ Some question) (line : Line) (reply : answer file place line_number ≡ Reply.the_line line) where
  abbrev here : LineThere index place line_number
  here =
      record {
        question = question;
        has_question = has;
        line = line;
        is_line = reply_line (question_lines index question) line_number line (sym (question_answered file place index question loaded has line_number) ∙ reply);
      }

  line_prints : Prints file place line_number (line_text line)
  unfolding joined
  line_prints =
      let reached = reach index place question has line_number (omega (arith, below_length (question_lines index question) line_number here.is_line)) in
      let all = reached.is ∙ ap (λ ps. reached.before ++ ps) (pieces_line index place line_number here) in
      let parted =
      all_printed file index loaded ∙ ap printed_pieces all
      ∙ printed_append reached.before (piece_of place line_number line ∷ pieces_at index place (suc line_number)) in
      record {
        index = index;
        loaded = loaded;
        before = reached.before;
        behind = pieces_at index place (suc line_number);
        is = all;
        printed = parted;
        called = λ text calls. calls_resolve file text calls ∙ parted;
      }

  -- what has these numbers is the line
  text_is : (q n : ℕ) (there : LineThere index q n) → q ≡ place → n ≡ line_number → line_text there.line ≡ line_text line
  text_is q n there at_place at_line =
      let same_question : there.question ≡ question = some-injective (sym there.has_question ∙ ap (slice_get index.questions) at_place ∙ has) in
      ap line_text (some-injective (sym there.is_line ∙ ap₂ (λ x k. slice_get (question_lines index x) k) same_question at_line ∙ here.is_line))

  -- its bytes in a call that has written it
  writes_in : (from start : ℕ) (before after : Buffers) (r : LinesNumbers) → AnsweredFrom file from start before after r
      → (ahead : List Piece) (piece : Piece) (behind : List Piece) → pieces_at index from start ≡ ahead ++ (piece ∷ behind) → piece.question ≡ place → piece.line ≡ line_number
      → length (printed_pieces ahead) + length (line_text line) ≤ bytes_written r
      → take (length (line_text line)) (drop (length (printed_pieces ahead)) after.out) ≡ line_text line
  unfolding joined
  writes_in from start before after r promised ahead piece behind is at_place at_line fits =
      by_count (ltb from (length index.questions)) refl
    where
      found : First index piece behind
      found = among index ahead from start piece behind is

      all : printed_pieces (pieces_at index from start) ≡ printed_pieces ahead ++ (line_text line ++ printed_pieces behind)
      all =
          ap printed_pieces is ∙ printed_append ahead (piece ∷ behind)
          ∙ ap (λ t. printed_pieces ahead ++ (t ++ printed_pieces behind))
          (ap (λ (p : Piece). p.text) found.is_piece ∙ text_is piece.question piece.line found.there at_place at_line)

      Found : Text → Type 0
      Found out = take (length (line_text line)) (drop (length (printed_pieces ahead)) out) ≡ line_text line

      by_answer : (r : LinesNumbers) → LinesOf index from start before after r → length (printed_pieces ahead) + length (line_text line) ≤ bytes_written r → Found after.out
      by_answer (LinesNumbers.More next next_line n) stops fits =
          subst Found (sym stops.out)
          (part_within (printed_pieces ahead) (line_text line) (printed_pieces behind) (printed_pieces stops.done) (printed_pieces (pieces_at index next next_line))
          (drop (length (printed_pieces stops.done)) before.out)
          (sym (printed_append stops.done (pieces_at index next next_line)) ∙ ap printed_pieces (sym stops.is) ∙ all)
          (omega (arith, fits, stops.bytes)))
      by_answer (LinesNumbers.End n) (bytes, out) fits =
          subst Found (sym out)
          (part_within (printed_pieces ahead) (line_text line) (printed_pieces behind) (printed_pieces (pieces_at index from start)) []
          (drop (length (printed_pieces (pieces_at index from start))) before.out)
          (append-nil (printed_pieces (pieces_at index from start)) ∙ all)
          (omega (arith, fits, bytes)))
      by_answer (LinesNumbers.FileRefused refusal at) never fits = absurd never

      -- there are lines from there on, so the file has that question
      by_count : (b : Bool) → ltb from (length index.questions) ≡ b → Found after.out
      by_count true h =
          let less = ltb_lt from (length index.questions) h in
          by_answer r (answers_the_lines file from start before after r promised index loaded (omega (arith, less))) fits
      by_count false h =
          let none_left = sym (pieces_end index from start (ltb-false from (length index.questions) h)) ∙ is in
          absurd (omega (arith, ap length none_left, length-append ahead (piece ∷ behind)))

  line_writes : Writes file place line_number (line_text line)
  line_writes from start before after r promised other other_loaded ahead piece behind is at_place at_line fits =
      let same : other ≡ index = accepted_same (sym other_loaded ∙ loaded) in
      writes_in from start before after r promised ahead piece behind (subst (λ i. pieces_at i from start ≡ ahead ++ (piece ∷ behind)) same is) at_place at_line fits

-- ------------------------------------------------------------------ two files

-- a line that both files' questions have, at a number each
carried : (first_file second_file : Text) (first second : Index) → load first_file ≡ accepted first → load second_file ≡ accepted second
    → (first_place second_place : ℕ) (question : Question) → slice_get first.questions first_place ≡ Some question → slice_get second.questions second_place ≡ Some question
    → (number other : ℕ) (line : Line) → answer first_file first_place number ≡ Reply.the_line line → answer second_file second_place other ≡ Reply.the_line line
    → CarriedOver first_file second_file first_place second_place number line
carried first_file second_file first second first_loaded second_loaded first_place second_place question first_asked second_asked number other line reply other_reply =
    record {
      second_line = other;
      alike = alike first_file second_file first_place second_place number other (reply ∙ sym other_reply);
      prints =
          record {
            first_prints = line_prints first_file first first_loaded first_place number question first_asked line reply;
            second_prints = line_prints second_file second second_loaded second_place other question second_asked line other_reply;
            first_writes = line_writes first_file first first_loaded first_place number question first_asked line reply;
            second_writes = line_writes second_file second second_loaded second_place other question second_asked line other_reply;
          };
    }

pub answers_hide_bodies : AnswersHideBodies
answers_hide_bodies first_file second_file first_place second_place question asked supposed =
    let hidden = bodies_are_hidden first_file second_file first_place second_place question asked supposed in
    record {
      there = hidden.there;
      to_second =
          λ number line reply about.
          let (other, other_reply) = hidden.to_second number line reply about in
          carried first_file second_file supposed.first supposed.second supposed.first_loaded supposed.second_loaded first_place second_place question supposed.first_asked supposed.second_asked number other line reply other_reply;
      to_first =
          λ number line reply about.
          let (other, other_reply) = hidden.to_first number line reply about in
          carried second_file first_file supposed.second supposed.first supposed.second_loaded supposed.first_loaded second_place first_place question supposed.second_asked supposed.first_asked number other line reply other_reply;
      at_number =
          λ number is. alike first_file second_file first_place second_place number number (hidden.same_reply number is);
    }

-- as document 01 words it
pub answers_demand_three : AnswersDemandThree
answers_demand_three first_file second_file first_place second_place question asked worded =
    answers_hide_bodies first_file second_file first_place second_place question asked worded.files
