-- The lines of many questions: what stands in the bytes and what is left to do before each one. Assumes nothing.
use Prim.Native.Nat.{ℕ, zero, suc, ◌+◌, ◌-◌, ◌≤◌, ◌<◌}
use mathlib.Core.Path.{◌≡◌, refl, sym, ap, ap₂, subst, ◌∙◌}
use mathlib.Core.List.{List, [], ◌∷◌, ◌++◌, append_assoc, append-nil}
use Rattle.std.specs.Prelude.{None, Some}
use native.Mathlib.Numerals.{add-one}
use native.Mathlib.Omega.{arith}
use borrow.Author.Tests.{le-leb, lt-leb}
use borrow.Rule.Slice.PartMut.{mid_of, post_of, put_mid, put_same}
use Rattle.std.specs.Prelude.{slice_get}
use lib.ListN.{length, take, drop, length-append, length-drop, drop_of_length-le}
use lib.Seq.{take_at, drop_at, drop-drop, take_all}
use Rattle.std.specs.Prelude.{if◌then◌else◌}
use Rattle.model.specs.Common.{Text}
use Rattle.model.specs.Records.{Question, Index}
use Rattle.model.specs.Limits.{answer_bytes}
use Rattle.model.proofs.Tests.{none≢some, some-injective}
use Rattle.resolution.specs.Answer.{Line, line_text, question_lines}
use Rattle.line_text.specs.Lines.{put_first}
use Rattle.answers.specs.Meaning.{Piece, pieces_of, pieces_behind, pieces_at, Lines, fill, answers_of, lines_out}
use Rattle.answers.specs.Numbers.{LinesNumbers}
use Rattle.answers.specs.Steps.{LineThere, After, LineStep, NoRoomStep, PastStep, LinesWritten}
use Rattle.answers.proofs.AskedLines.{below_length}
use Rattle.line_text.proofs.Lines.{line_some}

-- ------------------------------------------------------------------ one piece of a list

pub drop_here : {A : Type 0} (xs : List A) (i : ℕ) (x : A) → slice_get xs i ≡ Some x → drop i xs ≡ x ∷ drop (suc i) xs
drop_here [] i x e = absurd (none≢some e)
drop_here (y ∷ xs) zero x e = ap (λ z. z ∷ xs) (some-injective e)
drop_here (y ∷ xs) (suc i) x e = drop_here xs i x e

pub drop_past : {A : Type 0} (xs : List A) (i : ℕ) → slice_get xs i ≡ None → drop i xs ≡ []
drop_past [] zero e = refl
drop_past [] (suc i) e = refl
drop_past (y ∷ xs) zero e = absurd (none≢some (sym e))
drop_past (y ∷ xs) (suc i) e = drop_past xs i e

abbrev pub piece_of : ℕ → ℕ → Line → Piece
piece_of number line_number line = record { question = number; line = line_number; text = line_text line }

module _ (index : Index) (number line_number : ℕ) where
  -- a line that is there comes first
  pub pieces_line : (there : LineThere index number line_number)
      → pieces_at index number line_number ≡ piece_of number line_number there.line ∷ pieces_at index number (suc line_number)
  unfolding pieces_at pieces_behind pieces_of
  pieces_line there =
      let questions = drop_here index.questions number there.question there.has_question in
      ap (pieces_behind index number line_number) questions
      ∙ ap (λ l. pieces_of number line_number l ++ pieces_behind index (suc number) 0 (drop (suc number) index.questions))
      (drop_here (question_lines index there.question) line_number there.line there.is_line)
      ∙ ap (λ ps. piece_of number line_number there.line ∷ ps) (sym (ap (pieces_behind index number (suc line_number)) questions))

  -- without one the next question's come
  pub pieces_past : (question : Question) → slice_get index.questions number ≡ Some question → slice_get (question_lines index question) line_number ≡ None
      → pieces_at index number line_number ≡ pieces_at index (suc number) 0
  unfolding pieces_at pieces_behind pieces_of
  pieces_past question has none_there =
      ap (pieces_behind index number line_number) (drop_here index.questions number question has)
      ∙ ap (λ l. pieces_of number line_number l ++ pieces_behind index (suc number) 0 (drop (suc number) index.questions))
      (drop_past (question_lines index question) line_number none_there)

  -- and behind the last question there are none
  pub pieces_end : length index.questions ≤ number → pieces_at index number line_number ≡ []
  unfolding pieces_at pieces_behind
  pieces_end all = ap (pieces_behind index number line_number) (drop_of_length-le index.questions {i = number} all)

module _ (text : Text) (piece : Piece) (pieces : List Piece) where
  -- a piece that fits
  pub fill_on : length (text ++ piece.text) ≤ answer_bytes → fill text (piece ∷ pieces) ≡ fill (text ++ piece.text) pieces
  unfolding fill
  fill_on fits =
      ap (λ b. if b then fill (text ++ piece.text) pieces else Lines.more piece.question piece.line text)
      (le-leb (length (text ++ piece.text)) answer_bytes fits)

  -- one that does not
  pub fill_stop : answer_bytes < length (text ++ piece.text) → fill text (piece ∷ pieces) ≡ Lines.more piece.question piece.line text
  unfolding fill
  fill_stop long =
      ap (λ b. if b then fill (text ++ piece.text) pieces else Lines.more piece.question piece.line text)
      (lt-leb (length (text ++ piece.text)) answer_bytes long)

-- ------------------------------------------------------------------ before each line

-- a line was answered last; those behind it are the ones from these numbers on
pub record LineBefore (file : Text) (index : Index) (next line : ℕ) (types : List ℕ) (demands : List (List ℕ)) : Type 0 where
  pub number : ℕ
  pub line_number : ℕ
  pub after : After file index number line_number types demands
  pub behind : pieces_at index number (suc line_number) ≡ pieces_at index next line

-- the lines so far stand at the start of the bytes; the rest is to be filled from the next line on
pub record Filling (file : Text) (index : Index) (from start : ℕ) (types₀ : List ℕ) (demands₀ : List (List ℕ)) (out₀ types : List ℕ)
    (demands : List (List ℕ)) (out : List ℕ) (next line at : ℕ) : Type 0 where
  pub text : Text
  pub text_long : length text ≡ at
  pub few : at ≤ answer_bytes
  pub ends : next ≤ length index.questions
  pub bytes : out ≡ put_first text out₀
  pub rest : fill text (pieces_at index next line) ≡ fill [] (pieces_at index from start)
  pub none_yet : at ≡ 0 → (types ≡ types₀) × (demands ≡ demands₀)
  pub last : 0 < at → LineBefore file index next line types demands
  pub types_long : length types ≡ length types₀
  pub places_long : length demands ≡ length demands₀
  pub out_long : length out ≡ length out₀

module _ (file : Text) (index : Index) (from start : ℕ) (types₀ : List ℕ) (demands₀ : List (List ℕ)) (out₀ : List ℕ) where
  pub filling_starts : from ≤ length index.questions → Filling file index from start types₀ demands₀ out₀ types₀ demands₀ out₀ from start 0
  filling_starts below =
      record {
        text = [];
        text_long = refl;
        few = omega arith;
        ends = below;
        bytes = refl;
        rest = refl;
        none_yet = λ same. (refl, refl);
        last = λ h. absurd (omega arith);
        types_long = refl;
        places_long = refl;
        out_long = refl;
      }

  module _ (types : List ℕ) (demands : List (List ℕ)) (out : List ℕ) (next line at : ℕ)
      (state : Filling file index from start types₀ demands₀ out₀ types demands out next line at) where
    -- no question is left
    pub filled_end : length index.questions ≤ next → LinesWritten file index from start types₀ out₀ demands₀ types demands out (LinesNumbers.End at)
    unfolding fill answers_of lines_out
    filled_end all =
        let none_left = pieces_end index next line all in
        let done : fill state.text (pieces_at index next line) ≡ Lines.end state.text = ap (fill state.text) none_left in
        record {
          is = ap LinesNumbers.End (sym state.text_long) ∙ sym (ap answers_of (sym state.rest ∙ done));
          bytes = state.bytes ∙ sym (ap (λ l. lines_out l out₀) (sym state.rest ∙ done));
          leaves =
              record {
                none = state.none_yet;
                last =
                    λ h.
                    let before = state.last h in
                    record { number = before.number; line_number = before.line_number; after = before.after; is_last = before.behind ∙ none_left };
              };
        }

    module _ (long : length out₀ ≡ answer_bytes) (types' : List ℕ) (demands' : List (List ℕ)) (part' : List ℕ) where
      part : mid_of at (length out - at) out ≡ drop at out
      part = take_all (length out - at) (drop at out) (omega (arith, length-drop at out))

      part_long : length (mid_of at (length out - at) out) ≡ answer_bytes - at
      part_long = ap length part ∙ length-drop at out ∙ ap (λ n. n - at) (state.out_long ∙ long)

      -- the line has no room
      pub filled_more : NoRoomStep index next line (mid_of at (length out - at) out) types' demands' part'
          → LinesWritten file index from start types₀ out₀ demands₀ types' demands' (put_mid at (length out - at) out part') (LinesNumbers.More next line at)
      unfolding answers_of lines_out
      filled_more step =
          let stops : fill state.text (pieces_at index next line) ≡ Lines.more next line state.text =
          ap (fill state.text) (pieces_line index next line step.there)
          ∙ fill_stop state.text (piece_of next line step.there.line) (pieces_at index next (suc line))
          (omega (arith, length-append state.text (line_text step.there.line), step.not_put.short, part_long, state.text_long, state.few)) in
          record {
            is = ap (LinesNumbers.More next line) (sym state.text_long) ∙ sym (ap answers_of (sym state.rest ∙ stops));
            bytes =
                ap (put_mid at (length out - at) out) step.not_put.same ∙ put_same at (length out - at) out
                ∙ state.bytes ∙ sym (ap (λ l. lines_out l out₀) (sym state.rest ∙ stops));
            leaves = (step.types_are, step.demands_are);
          }

      -- there is no such line
      pub filling_past : PastStep index next line types demands (mid_of at (length out - at) out) types' demands' part'
          → Filling file index from start types₀ demands₀ out₀ types' demands' (put_mid at (length out - at) out part') (next + 1) 0 at
      filling_past step =
          let on : pieces_at index next line ≡ pieces_at index (next + 1) 0 =
          pieces_past index next line step.question step.has_question step.is_past ∙ ap (λ k. pieces_at index k 0) (sym (add-one next)) in
          let out_same : put_mid at (length out - at) out part' ≡ out = ap (put_mid at (length out - at) out) step.out_same ∙ put_same at (length out - at) out in
          record {
            text = state.text;
            text_long = state.text_long;
            few = state.few;
            ends = omega (arith, below_length index.questions next step.has_question);
            bytes = out_same ∙ state.bytes;
            rest = ap (fill state.text) (sym on) ∙ state.rest;
            none_yet = λ h. (step.types_same ∙ (state.none_yet h).0, step.demands_same ∙ (state.none_yet h).1);
            last =
                λ h.
                let before = state.last h in
                record {
                  number = before.number;
                  line_number = before.line_number;
                  after =
                      subst (λ d. After file index before.number before.line_number types' d) (sym step.demands_same)
                      (subst (λ t. After file index before.number before.line_number t demands) (sym step.types_same) before.after);
                  behind = before.behind ∙ on;
                };
            types_long = ap length step.types_same ∙ state.types_long;
            places_long = ap length step.demands_same ∙ state.places_long;
            out_long = ap length out_same ∙ state.out_long;
          }

      -- the line is written
      module _ (n : ℕ) (step : LineStep file index next line (mid_of at (length out - at) out) types' demands' part' n) where
        abbrev there : LineThere index next line
        there = step.after.there

        abbrev written_line : Text
        written_line = line_text there.line

        both : length (state.text ++ written_line) ≡ at + n
        both = length-append state.text written_line ∙ ap₂ ◌+◌ state.text_long (sym step.put.long)

        front : take at out ≡ state.text
        front = ap (take at) state.bytes ∙ take_at state.text (drop (length state.text) out₀) at state.text_long

        back : drop at out ≡ drop at out₀
        back =
            ap (drop at) state.bytes ∙ drop_at state.text (drop (length state.text) out₀) at state.text_long
            ∙ ap (λ k. drop k out₀) state.text_long

        behind : post_of at (length out - at) out ≡ []
        behind = drop_of_length-le (drop at out) {i = length out - at} (omega (arith, length-drop at out))

        written : put_mid at (length out - at) out part' ≡ put_first (state.text ++ written_line) out₀
        written =
            ap₂ (λ x y. x ++ (part' ++ y)) front behind
            ∙ ap (λ l. state.text ++ l) (append-nil part' ∙ step.put.bytes)
            ∙ ap (λ l. state.text ++ (written_line ++ l)) (ap₂ drop (sym step.put.long) (part ∙ back) ∙ drop-drop n at out₀)
            ∙ sym (append_assoc state.text written_line (drop (at + n) out₀))
            ∙ ap (λ k. (state.text ++ written_line) ++ drop k out₀) (sym both)

        pub fits_behind : at + n ≤ answer_bytes
        fits_behind = omega (arith, step.put.fits, part_long, state.few)

        pub filling_on : length types' ≡ length types → length demands' ≡ length demands
            → Filling file index from start types₀ demands₀ out₀ types' demands' (put_mid at (length out - at) out part') next (line + 1) (at + n)
        filling_on types_same places_same =
            record {
              text = state.text ++ written_line;
              text_long = both;
              few = fits_behind;
              ends = state.ends;
              bytes = written;
              rest =
                  ap (λ k. fill (state.text ++ written_line) (pieces_at index next k)) (add-one line)
                  ∙ sym
                  (ap (fill state.text) (pieces_line index next line there)
                  ∙ fill_on state.text (piece_of next line there.line) (pieces_at index next (suc line)) (omega (arith, both, fits_behind)))
                  ∙ state.rest;
              none_yet = λ none_written. absurd (omega (arith, line_some there.line, step.put.long));
              last = λ h. record { number = next; line_number = line; after = step.after; behind = ap (pieces_at index next) (sym (add-one line)) };
              types_long = types_same ∙ state.types_long;
              places_long = places_same ∙ state.places_long;
              out_long = out_same;
            }
          where
            out_same : length (put_mid at (length out - at) out part') ≡ length out₀
            out_same =
                ap length written ∙ length-append (state.text ++ written_line) (drop (length (state.text ++ written_line)) out₀)
                ∙ ap (λ k. length (state.text ++ written_line) + k) (length-drop (length (state.text ++ written_line)) out₀)
                ∙ omega (arith, both, fits_behind, long)
