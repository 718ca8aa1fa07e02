-- What one call of `answer_from` gives to print. Assumes nothing.
use Prim.Native.Nat.{ℕ, ◌≤◌}
use mathlib.Core.Path.{◌≡◌, refl, sym, ap, ap₂, subst, ◌∙◌}
use mathlib.Core.List.{◌++◌}
use native.Mathlib.Omega.{arith}
use lib.ListN.{length, take, drop, length-append}
use lib.Seq.{take_at}
use Rattle.model.specs.Common.{Text}
use Rattle.resolution.specs.Resolve.{refusal_line}
use Rattle.type_text.proofs.Writing.{wrote_take}
use Rattle.line_text.specs.Lines.{put_first}
use Rattle.answers.specs.Meaning.{Lines, lines_from, answers_of, lines_out}
use Rattle.answers.specs.Promises.{Buffers, AnsweredFrom}
use Rattle.answers.specs.Whole.{Calls}
use Rattle.std.specs.Prelude.{Ok}
use Rattle.answers.specs.Numbers.{LinesNumbers, lines_numbers}
use Rattle.answers.specs.declared.LinesAnswer.{LinesAnswer}
use Rattle.answers.proofs.Whole.{always_later}
use Rattle.resolve.specs.Parts.{RefusedPut, More, Last, PartIs}

-- the text stands at the start
front : (text old out : Text) → out ≡ put_first text old → take (length text) out ≡ text
front text old out e = ap (take (length text)) e ∙ take_at text (drop (length text) old) (length text) refl

within : (text old out : Text) → out ≡ put_first text old → length text ≤ length out
within text old out e = omega (arith, ap length e, length-append text (drop (length text) old))

module _ (file : Text) (from start : ℕ) (before after : Buffers) where
  more_part : (next next_line n : ℕ) → AnsweredFrom file from start before after (LinesNumbers.More next next_line n) → More file from start after.out next next_line n
  unfolding answers_of lines_out
  more_part next next_line n promised = at (lines_from file from start) refl promised.first.is promised.first.out_is
    where
      at : (lines : Lines) → lines_from file from start ≡ lines → LinesNumbers.More next next_line n ≡ answers_of lines → after.out ≡ lines_out lines before.out → More file from start after.out next next_line n
      at (Lines.end text) e is out = let z : ◌≡◌ {A = ℕ} 0 1 = cc in absurd (omega arith)
      at (Lines.more number number_line text) e is out =
          let same : number ≡ next = cc in
          let same_line : number_line ≡ next_line = cc in
          let long : length text ≡ n = cc in
          let stops : lines_from file from start ≡ Lines.more next next_line text = e ∙ ap₂ (λ k l. Lines.more k l text) same same_line in
          record {
            fits = omega (arith, within text before.out after.out out, long);
            fewer = always_later file from start next next_line text stops;
            goes_on =
                λ rest calls.
                subst (λ t. Calls file from start (t ++ rest)) (sym (front text before.out after.out out) ∙ ap (λ k. take k after.out) long) (Calls.again stops calls);
          }
      at (Lines.file_refused number line) e is out = let z : ◌≡◌ {A = ℕ} 0 1 = cc in absurd (omega arith)

  end_part : (n : ℕ) → AnsweredFrom file from start before after (LinesNumbers.End n) → Last file from start after.out n
  unfolding answers_of lines_out
  end_part n promised = at (lines_from file from start) refl promised.first.is promised.first.out_is
    where
      at : (lines : Lines) → lines_from file from start ≡ lines → LinesNumbers.End n ≡ answers_of lines → after.out ≡ lines_out lines before.out → Last file from start after.out n
      at (Lines.end text) e is out =
          let long : length text ≡ n = cc in
          record {
            fits = omega (arith, within text before.out after.out out, long);
            is = subst (Calls file from start) (sym (front text before.out after.out out) ∙ ap (λ k. take k after.out) long) (Calls.last e);
          }
      at (Lines.more number number_line text) e is out = let z : ◌≡◌ {A = ℕ} 0 1 = cc in absurd (omega arith)
      at (Lines.file_refused number line) e is out = let z : ◌≡◌ {A = ℕ} 0 1 = cc in absurd (omega arith)

  pub lines_part : (lines : LinesAnswer) → AnsweredFrom file from start before after (lines_numbers (Ok lines)) → PartIs file from start after.out lines
  lines_part (LinesAnswer.More next next_line n) promised = more_part next next_line n promised
  lines_part (LinesAnswer.End n) promised = end_part n promised

  pub refused_part : (number line : ℕ) → AnsweredFrom file from start before after (LinesNumbers.FileRefused number line)
      → (out : Text) (n : ℕ) → 4160 ≤ length after.out → length out ≡ length after.out → RefusedPut (refusal_line number line) after.out out n → Last file from start out n
  unfolding answers_of
  refused_part number line promised out n room same put = at (lines_from file from start) refl promised.first.is
    where
      at : (lines : Lines) → lines_from file from start ≡ lines → LinesNumbers.FileRefused number line ≡ answers_of lines → Last file from start out n
      at (Lines.end text) e is = let z : ◌≡◌ {A = ℕ} 0 1 = cc in absurd (omega arith)
      at (Lines.more next next_line text) e is = let z : ◌≡◌ {A = ℕ} 0 1 = cc in absurd (omega arith)
      at (Lines.file_refused k l) e is =
          let one : k ≡ number = cc in
          let two : l ≡ line = cc in
          record {
            fits = omega (arith, put.few, same, room);
            is =
                subst (Calls file from start) (sym (wrote_take (refusal_line number line) 0 n after.out out (omega (arith, put.few, put.wrote.next, room)) put.wrote))
                (Calls.refused (e ∙ ap (λ x. Lines.file_refused x l) one ∙ ap (Lines.file_refused number) two));
          }
