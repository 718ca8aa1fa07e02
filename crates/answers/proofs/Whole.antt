-- The statements of specs/Whole.antt about one file: a question's line, and the lines of repeated calls put together. Assumes nothing.
use Prim.Native.Nat.{ℕ, zero, suc, ◌≤◌, ◌<◌}
use mathlib.Core.Path.{◌≡◌, refl, sym, ap, ap₂, subst, ◌∙◌}
use mathlib.Core.Bool.{Bool, true, false}
use mathlib.Core.List.{List, [], ◌∷◌, ◌++◌}
use Rattle.std.specs.Prelude.{Option, None, Some}
use native.Mathlib.Omega.{arith}
use borrow.Author.Tests.{le-leb, leb-true}
use lib.Dec.{leb}
use Rattle.std.specs.Prelude.{slice_get}
use lib.ListN.{length, length-append}
use Rattle.std.specs.Prelude.{if◌then◌else◌}
use Rattle.model.specs.Common.{Text, let_some}
use Rattle.model.specs.Records.{Index}
use Rattle.model.specs.Limits.{answer_bytes}
use Rattle.model.specs.Refusals.{refusal_link}
use Rattle.format.specs.Load.{Loading, accepted, refused, load}
use Rattle.resolution.specs.Answer.{Line, line_text, question_lines}
use Rattle.resolution.specs.Resolve.{Reply, line_at, written_of, answer, refusal_line, printed, resolve}
use Rattle.resolution.proofs.LineFits.{line_fits}
use Rattle.resolution.proofs.Secrecy.{question_answered}
use Rattle.line_text.specs.Lines.{put_first}
use Rattle.answers.specs.Meaning.{answer_of, answer_out, Piece, pieces_at, Lines, fill, lines_in, lines_from, answers_of, lines_out}
use Rattle.answers.specs.Numbers.{LinesNumbers}
use Rattle.answers.specs.Steps.{LineThere}
use Rattle.answers.specs.Promises.{Buffers}
use Rattle.answers.specs.Whole.{LineOr, AnswersTheLine, printed_pieces, Stops, LinesOf, AnswersTheLines, Calls, CallsResolve, CallsEnd, left_in, lines_left}
use Rattle.answers.proofs.AskedLines.{below_length}
use Rattle.answers.proofs.Filling.{piece_of, pieces_line, fill_on}
use Rattle.answers.proofs.Pieces.{printed_append, all_printed, Stopped, FillIs, fill_is}

-- ------------------------------------------------------------------ one line

pub answers_the_line : AnswersTheLine
unfolding answer_of answer_out written_of line_at
answers_the_line file number line_number before after r promised index question loaded asked =
    at (slice_get (question_lines index question) line_number) (question_answered file number index question loaded asked line_number)
  where
    at : (o : Option Line) → answer file number line_number ≡ let_some o Reply.past_last Reply.the_line → LineOr o before after r
    at None reply = (promised.first.is ∙ ap answer_of reply, promised.first.out_is ∙ ap (λ x. answer_out x before.out) reply)
    at (Some line) reply = (promised.first.is ∙ ap answer_of reply, promised.first.out_is ∙ ap (λ x. answer_out x before.out) reply)

-- ------------------------------------------------------------------ one call

-- the line of an accepted file's question fits an empty buffer
there_fits : (file : Text) (index : Index) → load file ≡ accepted index → (number line : ℕ) (there : LineThere index number line) → length (line_text there.line) ≤ answer_bytes
there_fits file index loaded number line there = line_fits file index number there.question loaded there.has_question line there.line there.is_line

module _ (file : Text) (index : Index) (loaded : load file ≡ accepted index) (from line : ℕ) (below : from ≤ length index.questions) where
  lines_as : lines_from file from line ≡ fill [] (pieces_at index from line)
  unfolding lines_from lines_in
  lines_as =
      ap (λ l. lines_in l from line) loaded
      ∙ ap (λ b. if b then fill [] (pieces_at index from line) else Lines.file_refused refusal_link 0) (le-leb from (length index.questions) below)

  lines_is : (lines : Lines) → lines_from file from line ≡ lines → FillIs index [] from line lines
  lines_is lines e = subst (FillIs index [] from line) (sym lines_as ∙ e) (fill_is index (pieces_at index from line) [] from line refl)

  -- all lines
  pub to_the_end : (text : Text) → lines_from file from line ≡ Lines.end text → text ≡ printed_pieces (pieces_at index from line)
  to_the_end text e = lines_is (Lines.end text) e

  no_file_refused : (refusal at_line : ℕ) → lines_from file from line ≡ Lines.file_refused refusal at_line → ⊥
  no_file_refused refusal at_line e = lines_is (Lines.file_refused refusal at_line) e

  module _ (next next_line : ℕ) (text : Text) (e : lines_from file from line ≡ Lines.more next next_line text) where
    stopped : Stopped index [] from line next next_line text
    stopped = lines_is (Lines.more next next_line text) e

    pub next_below : next ≤ length index.questions
    next_below = omega (arith, below_length index.questions next stopped.next_there.has_question)

    -- at least one line
    some_done : 0 < length stopped.done
    some_done = at stopped.done refl
      where
        at : (done : List Piece) → stopped.done ≡ done → 0 < length done
        at (piece ∷ done) h = omega arith
        at [] h =
            let here : pieces_at index from line ≡ pieces_at index next next_line = stopped.is ∙ ap (λ ps. ps ++ pieces_at index next next_line) h in
            let next_piece = piece_of next next_line stopped.next_there.line in
            let starts : pieces_at index from line ≡ next_piece ∷ pieces_at index next (suc next_line) = here ∙ pieces_line index next next_line stopped.next_there in
            let one : fill [] (pieces_at index from line) ≡ fill next_piece.text (pieces_at index next (suc next_line)) =
            ap (fill []) starts ∙ fill_on [] next_piece (pieces_at index next (suc next_line)) (there_fits file index loaded next next_line stopped.next_there) in
            let inner : Stopped index next_piece.text next (suc next_line) next next_line text =
            subst (FillIs index next_piece.text next (suc next_line)) (sym one ∙ sym lines_as ∙ e)
            (fill_is index (pieces_at index next (suc next_line)) next_piece.text next (suc next_line) refl) in
            let longer = ap length inner.is ∙ length-append inner.done (pieces_at index next next_line) in
            let shorter = ap length (pieces_line index next next_line stopped.next_there) in
            absurd (omega (arith, longer, shorter))

    pub stops : (before after : Buffers) → after.out ≡ put_first text before.out → Stops index from line before after next next_line (length text)
    stops before after out =
        record {
          done = stopped.done;
          is = stopped.is;
          some_done = some_done;
          next_there = stopped.next_there;
          bytes = ap length stopped.lines;
          out = out ∙ ap (λ t. put_first t before.out) stopped.lines;
        }

    -- the lines up to the next, and from it on
    pub up_to : printed_pieces (pieces_at index from line) ≡ text ++ printed_pieces (pieces_at index next next_line)
    up_to =
        ap printed_pieces stopped.is ∙ printed_append stopped.done (pieces_at index next next_line)
        ∙ ap (λ t. t ++ printed_pieces (pieces_at index next next_line)) (sym stopped.lines)

    pub fewer : length (pieces_at index next next_line) < length (pieces_at index from line)
    fewer = omega (arith, ap length stopped.is ∙ length-append stopped.done (pieces_at index next next_line), some_done)

pub answers_the_lines : AnswersTheLines
unfolding answers_of lines_out
answers_the_lines file from line before after r promised index loaded below =
    at (lines_from file from line) refl r promised.first.is promised.first.out_is
  where
    at : (lines : Lines) → lines_from file from line ≡ lines → (r : LinesNumbers) → r ≡ answers_of lines → after.out ≡ lines_out lines before.out → LinesOf index from line before after r
    at (Lines.end text) e r is out =
        let same = to_the_end file index loaded from line below text e in
        subst (LinesOf index from line before after) (sym is) (ap length same, out ∙ ap (λ t. put_first t before.out) same)
    at (Lines.more next next_line text) e r is out =
        subst (LinesOf index from line before after) (sym is) (stops file index loaded from line below next next_line text e before after out)
    at (Lines.file_refused refusal at_line) e r is out = absurd (no_file_refused file index loaded from line below refusal at_line e)

-- ------------------------------------------------------------------ repeated calls

module _ (file : Text) (index : Index) (loaded : load file ≡ accepted index) where
  calls_between : {from line : ℕ} {text : Text} → from ≤ length index.questions → Calls file from line text → text ≡ printed_pieces (pieces_at index from line)
  calls_between {from} {line} {text} below (Calls.last e) = to_the_end file index loaded from line below text e
  calls_between {from} {line} below (Calls.again {next = next} {next_line = next_line} {text = text} {rest = rest} e more) =
      ap (λ t. text ++ t) (calls_between (next_below file index loaded from line below next next_line text e) more)
      ∙ sym (up_to file index loaded from line below next next_line text e)
  calls_between {from} {line} below (Calls.refused {number = number} {at_line = at_line} e) = absurd (no_file_refused file index loaded from line below number at_line e)

module _ (file : Text) (refusal at_line : ℕ) (is_refused : load file ≡ refused refusal at_line) where
  refused_lines : (from line : ℕ) → lines_from file from line ≡ Lines.file_refused refusal at_line
  unfolding lines_from lines_in
  refused_lines from line = ap (λ l. lines_in l from line) is_refused

  calls_refused : {from line : ℕ} {text : Text} → Calls file from line text → text ≡ refusal_line refusal at_line
  calls_refused {from} {line} (Calls.last e) = let p = sym e ∙ refused_lines from line in let z : ◌≡◌ {A = ℕ} 0 1 = cc in absurd (omega arith)
  calls_refused {from} {line} (Calls.again e more) = let p = sym e ∙ refused_lines from line in let z : ◌≡◌ {A = ℕ} 0 1 = cc in absurd (omega arith)
  calls_refused {from} {line} (Calls.refused {number = number} {at_line = at} e) =
      let p = sym e ∙ refused_lines from line in
      let n : number ≡ refusal = cc in
      let l : at ≡ at_line = cc in
      ap₂ refusal_line n l

-- a call that stops has left fewer lines, whatever the file is
pub always_later : (file : Text) (from line next next_line : ℕ) (text : Text) → lines_from file from line ≡ Lines.more next next_line text
    → lines_left file next next_line < lines_left file from line
unfolding lines_left left_in lines_from lines_in
always_later file from line next next_line text e = at (load file) refl
  where
    at : (l : Loading) → load file ≡ l → lines_left file next next_line < lines_left file from line
    at (Loading.accepted index) loaded = within (leb from (length index.questions)) refl
      where
        within : (b : Bool) → leb from (length index.questions) ≡ b → lines_left file next next_line < lines_left file from line
        within true h =
            subst (λ l. left_in l next next_line < left_in l from line) (sym loaded)
            (fewer file index loaded from line (leb-true from (length index.questions) h) next next_line text e)
        within false h =
            let p : lines_in (load file) from line ≡ Lines.file_refused refusal_link 0 =
            ap (λ l. lines_in l from line) loaded
            ∙ ap (λ b. if b then fill [] (pieces_at index from line) else Lines.file_refused refusal_link 0) h in
            let q = sym e ∙ p in
            let z : ◌≡◌ {A = ℕ} 0 1 = cc in absurd (omega arith)
    at (Loading.refused refusal at_line) is_refused =
        let q = sym e ∙ refused_lines file refusal at_line is_refused from line in
        let z : ◌≡◌ {A = ℕ} 0 1 = cc in absurd (omega arith)

pub calls_resolve : CallsResolve
unfolding resolve printed
calls_resolve file text calls = at (load file) refl
  where
    at : (l : Loading) → load file ≡ l → text ≡ resolve file
    at (Loading.accepted index) e = calls_between file index e (omega arith) calls ∙ sym (all_printed file index e)
    at (Loading.refused refusal at_line) e = calls_refused file refusal at_line e calls ∙ sym (ap printed e)

-- some text that the calls from a line on give
record Ended (file : Text) (from line : ℕ) : Type 0 where
  text : Text
  calls : Calls file from line text

module _ (file : Text) (index : Index) (loaded : load file ≡ accepted index) where
  -- each call but the last writes a line, so there are no more calls than lines and one
  ended : (fuel from line : ℕ) → from ≤ length index.questions → length (pieces_at index from line) < fuel → Ended file from line
  ended zero from line below enough = absurd (omega (arith, enough))
  ended (suc fuel) from line below enough = at (lines_from file from line) refl (ended fuel)
    where
      at : (lines : Lines) → lines_from file from line ≡ lines
          → ((next next_line : ℕ) → next ≤ length index.questions → length (pieces_at index next next_line) < fuel → Ended file next next_line) → Ended file from line
      at (Lines.end text) e inner = record { text = text; calls = Calls.last e }
      at (Lines.more next next_line text) e inner =
          let rest = inner next next_line (next_below file index loaded from line below next next_line text e)
          (omega (arith, enough, fewer file index loaded from line below next next_line text e)) in
          record { text = text ++ rest.text; calls = Calls.again e rest.calls }
      at (Lines.file_refused refusal at_line) e inner = absurd (no_file_refused file index loaded from line below refusal at_line e)

pub calls_end : CallsEnd
calls_end file = let all = at (load file) refl in subst (Calls file 0 0) (calls_resolve file all.text all.calls) all.calls
  where
    at : (l : Loading) → load file ≡ l → Ended file 0 0
    at (Loading.accepted index) loaded = ended file index loaded (suc (length (pieces_at index 0 0))) 0 0 (omega arith) (omega arith)
    at (Loading.refused refusal at_line) e = record { text = refusal_line refusal at_line; calls = Calls.refused (refused_lines file refusal at_line e 0 0) }
