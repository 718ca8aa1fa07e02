-- What is printed for the lines of many questions, line by line (`Piece`): the pieces from a question's line on, which of them fit into an answer, and where a
-- line stands among all. Assumes nothing.
use Prim.Native.Nat.{ℕ, zero, suc, ◌+◌, ◌≤◌, ◌<◌}
use mathlib.Core.Path.{◌≡◌, refl, sym, ap, ap₂, subst, ◌∙◌}
use mathlib.Core.Bool.{Bool, true, false}
use mathlib.Core.List.{List, [], ◌∷◌, ◌++◌, append_assoc, append-nil}
use Rattle.std.specs.Prelude.{Option, None, Some}
use native.Mathlib.Omega.{arith}
use lib.Dec.{leb}
use Rattle.std.specs.Prelude.{slice_get}
use lib.ListN.{length, drop}
use Rattle.std.specs.Prelude.{if◌then◌else◌}
use Rattle.model.specs.Common.{Text, joined}
use Rattle.model.specs.Records.{Question, Index}
use Rattle.model.specs.Limits.{answer_bytes}
use Rattle.model.proofs.Tests.{none≢some, some-injective}
use Rattle.format.specs.Load.{accepted, load}
use Rattle.resolution.specs.Answer.{Line, line_text, question_lines, question_text, answers}
use Rattle.resolution.specs.Resolve.{printed, resolve}
use Rattle.answers.specs.Meaning.{Piece, pieces_of, pieces_behind, pieces_at, Lines, fill}
use Rattle.answers.specs.Steps.{LineThere}
use Rattle.answers.specs.Whole.{printed_pieces}
use Rattle.answers.proofs.AskedLines.{below_length}
use Rattle.answers.proofs.Filling.{drop_here, drop_past, piece_of, pieces_line, pieces_past, pieces_end}

pub printed_append : (xs ys : List Piece) → printed_pieces (xs ++ ys) ≡ printed_pieces xs ++ printed_pieces ys
unfolding joined
printed_append [] ys = refl
printed_append (x ∷ xs) ys = ap (λ t. x.text ++ t) (printed_append xs ys) ∙ sym (append_assoc x.text (printed_pieces xs) (printed_pieces ys))

lines_printed : (question number : ℕ) (lines : List Line) → printed_pieces (pieces_of question number lines) ≡ joined line_text lines
unfolding joined pieces_of
lines_printed question number [] = refl
lines_printed question number (line ∷ lines) = ap (λ t. line_text line ++ t) (lines_printed question (suc number) lines)

behind_printed : (index : Index) (number : ℕ) (questions : List Question) → printed_pieces (pieces_behind index number 0 questions) ≡ joined (question_text index) questions
unfolding joined pieces_behind question_text
behind_printed index number [] = refl
behind_printed index number (q ∷ qs) =
    printed_append (pieces_of number 0 (question_lines index q)) (pieces_behind index (suc number) 0 qs)
    ∙ ap₂ ◌++◌ (lines_printed number 0 (question_lines index q)) (behind_printed index (suc number) qs)

-- all pieces are what `resolve` prints
pub all_printed : (file : Text) (index : Index) → load file ≡ accepted index → resolve file ≡ printed_pieces (pieces_at index 0 0)
unfolding resolve printed answers pieces_at
all_printed file index loaded = ap printed loaded ∙ sym (behind_printed index 0 index.questions)

found : {A : Type 0} (xs : List A) (i : ℕ) → i < length xs → (x : A) × (slice_get xs i ≡ Some x)
found [] i h = absurd (omega arith)
found (x ∷ xs) zero h = (x, refl)
found (x ∷ xs) (suc i) h = found xs i (omega arith)

-- a list that has elements, taken apart
pub same_head : {A : Type 0} {x y : A} {xs ys : List A} → x ∷ xs ≡ y ∷ ys → x ≡ y
same_head {x = x} {xs = xs} e = some-injective (ap (λ l. slice_get l 0) e)

pub same_tail : {A : Type 0} {x y : A} {xs ys : List A} → x ∷ xs ≡ y ∷ ys → xs ≡ ys
same_tail e = ap (drop 1) e

not_empty : {A : Type 0} {x : A} {xs : List A} → [] ≡ x ∷ xs → ⊥
not_empty e = none≢some (ap (λ l. slice_get l 0) e)

module _ (index : Index) where
  -- what comes first among pieces: it is a line of its question, and behind it come those from its next line on
  pub record First (piece : Piece) (pieces : List Piece) : Type 0 where
    pub there : LineThere index piece.question piece.line
    pub is_piece : piece ≡ piece_of piece.question piece.line there.line
    pub rest_is : pieces ≡ pieces_at index piece.question (suc piece.line)

  first_line : (from line : ℕ) (there : LineThere index from line) (piece : Piece) (pieces : List Piece) → piece_of from line there.line ≡ piece
      → pieces_at index from (suc line) ≡ pieces → First piece pieces
  first_line from line there piece pieces is rest =
      subst (λ p. First p pieces) is (record { there = there; is_piece = refl; rest_is = sym rest })

  none_at : (from line : ℕ) → slice_get index.questions from ≡ None → pieces_at index from line ≡ []
  unfolding pieces_at pieces_behind
  none_at from line h = ap (pieces_behind index from line) (drop_past index.questions from h)

  first_is : (fuel from line : ℕ) (piece : Piece) (pieces : List Piece) → length index.questions ≤ from + fuel → pieces_at index from line ≡ piece ∷ pieces → First piece pieces
  first_is zero from line piece pieces enough e = absurd (not_empty (sym (pieces_end index from line (omega (arith, enough))) ∙ e))
  first_is (suc fuel) from line piece pieces enough e = at (slice_get index.questions from) refl (first_is fuel)
    where
      at : (o : Option Question) → slice_get index.questions from ≡ o
          → ((from line : ℕ) (piece : Piece) (pieces : List Piece) → length index.questions ≤ from + fuel → pieces_at index from line ≡ piece ∷ pieces → First piece pieces)
          → First piece pieces
      at None h inner = absurd (not_empty (sym (none_at from line h) ∙ e))
      at (Some question) h inner = within (slice_get (question_lines index question) line) refl
        where
          within : (o : Option Line) → slice_get (question_lines index question) line ≡ o → First piece pieces
          within None k = inner (suc from) 0 piece pieces (omega (arith, enough)) (sym (pieces_past index from line question h k) ∙ e)
          within (Some l) k =
              let there : LineThere index from line = record { question = question; has_question = h; line = l; is_line = k } in
              let both = sym (pieces_line index from line there) ∙ e in
              first_line from line there piece pieces (same_head both) (same_tail both)

  pub first_of : (from line : ℕ) (piece : Piece) (pieces : List Piece) → pieces_at index from line ≡ piece ∷ pieces → First piece pieces
  first_of from line piece pieces e = first_is (length index.questions) from line piece pieces (omega arith) e

  -- ------------------------------------------------------------------ the pieces that fit

  -- some of them are behind the text, and the next one is there
  pub record Stopped (text : Text) (from line next next_line : ℕ) (all : Text) : Type 0 where
    pub done : List Piece
    pub is : pieces_at index from line ≡ done ++ pieces_at index next next_line
    pub next_there : LineThere index next next_line
    pub lines : all ≡ text ++ printed_pieces done

  abbrev pub FillIs : Text → ℕ → ℕ → Lines → Type 0
  FillIs text from line (Lines.end all) = all ≡ text ++ printed_pieces (pieces_at index from line)
  FillIs text from line (Lines.more next next_line all) = Stopped text from line next next_line all
  FillIs text from line (Lines.file_refused refusal at_line) = ⊥

  one_more : (text : Text) (from line : ℕ) (piece : Piece) (number number_line : ℕ) → pieces_at index from line ≡ piece ∷ pieces_at index number number_line → (lines : Lines)
      → FillIs (text ++ piece.text) number number_line lines → FillIs text from line lines
  unfolding joined
  one_more text from line piece number number_line e (Lines.end all) is =
      is ∙ append_assoc text piece.text (printed_pieces (pieces_at index number number_line)) ∙ ap (λ ps. text ++ printed_pieces ps) (sym e)
  one_more text from line piece number number_line e (Lines.more next next_line all) stopped =
      record {
        done = piece ∷ stopped.done;
        is = e ∙ ap (λ ps. piece ∷ ps) stopped.is;
        next_there = stopped.next_there;
        lines = stopped.lines ∙ append_assoc text piece.text (printed_pieces stopped.done);
      }
  one_more text from line piece number number_line e (Lines.file_refused refusal at_line) is = is

  pub fill_is : (pieces : List Piece) (text : Text) (from line : ℕ) → pieces_at index from line ≡ pieces → FillIs text from line (fill text pieces)
  unfolding fill joined
  fill_is [] text from line e = sym (append-nil text) ∙ ap (λ ps. text ++ printed_pieces ps) (sym e)
  fill_is (piece ∷ pieces) text from line e =
      let first = first_of from line piece pieces e in
      let on : pieces_at index from line ≡ piece ∷ pieces_at index piece.question (suc piece.line) = e ∙ ap (λ ps. piece ∷ ps) first.rest_is in
      at (leb (length (text ++ piece.text)) answer_bytes) first on (fill_is pieces (text ++ piece.text) piece.question (suc piece.line) (sym first.rest_is))
    where
      at : (b : Bool) → First piece pieces → pieces_at index from line ≡ piece ∷ pieces_at index piece.question (suc piece.line)
          → FillIs (text ++ piece.text) piece.question (suc piece.line) (fill (text ++ piece.text) pieces)
          → FillIs text from line (if b then fill (text ++ piece.text) pieces else Lines.more piece.question piece.line text)
      at true first on inner = one_more text from line piece piece.question (suc piece.line) on (fill (text ++ piece.text) pieces) inner
      at false first on inner =
          record {
            done = [];
            is =
                on ∙ ap (λ p. p ∷ pieces_at index piece.question (suc piece.line)) first.is_piece
                ∙ sym (pieces_line index piece.question piece.line first.there);
            next_there = first.there;
            lines = sym (append-nil text);
          }

  -- ------------------------------------------------------------------ a line among others

  -- a piece behind others is a line of its question, too
  pub among : (ahead : List Piece) (from line : ℕ) (piece : Piece) (behind : List Piece) → pieces_at index from line ≡ ahead ++ (piece ∷ behind) → First piece behind
  among [] from line piece behind e = first_of from line piece behind e
  among (other ∷ ahead) from line piece behind e =
      among ahead other.question (suc other.line) piece behind (sym (first_of from line other (ahead ++ (piece ∷ behind)) e).rest_is)

  -- the pieces from a question's line on are the last of all
  pub record Reached (number line : ℕ) : Type 0 where
    pub before : List Piece
    pub is : pieces_at index 0 0 ≡ before ++ pieces_at index number line

  reach_question : (number : ℕ) (question : Question) → slice_get index.questions number ≡ Some question → Reached number 0 → Reached (suc number) 0
  unfolding pieces_at pieces_behind
  reach_question number question has reached =
      record {
        before = reached.before ++ pieces_of number 0 (question_lines index question);
        is =
            reached.is
            ∙ ap (λ qs. reached.before ++ pieces_behind index number 0 qs) (drop_here index.questions number question has)
            ∙ sym (append_assoc reached.before (pieces_of number 0 (question_lines index question)) (pieces_behind index (suc number) 0 (drop (suc number) index.questions)));
      }

  reach_line : (number line : ℕ) → LineThere index number line → Reached number line → Reached number (suc line)
  reach_line number line there reached =
      record {
        before = reached.before ++ (piece_of number line there.line ∷ []);
        is =
            reached.is
            ∙ ap (λ ps. reached.before ++ ps) (pieces_line index number line there)
            ∙ sym (append_assoc reached.before (piece_of number line there.line ∷ []) (pieces_at index number (suc line)));
      }

  reach_first : (number : ℕ) → number ≤ length index.questions → Reached number 0
  reach_first zero h = record { before = []; is = refl }
  reach_first (suc number) h =
      let (question, has) = found index.questions number (omega (arith, h)) in
      reach_question number question has (reach_first number (omega (arith, h)))

  pub reach : (number : ℕ) (question : Question) → slice_get index.questions number ≡ Some question → (line : ℕ) → line ≤ length (question_lines index question) → Reached number line
  reach number question has zero h = reach_first number (omega (arith, below_length index.questions number has))
  reach number question has (suc line) h =
      let (l, is_line) = found (question_lines index question) line (omega (arith, h)) in
      reach_line number line (record { question = question; has_question = has; line = l; is_line = is_line }) (reach number question has line (omega (arith, h)))
