-- What the promise of writing a type's text says: the text is exactly as long as was measured, or over 4,096 bytes exactly where that is said.
-- Assumes nothing.
use Prim.Native.Nat.{ℕ, ◌≤◌, ◌<◌, min}
use mathlib.Core.Path.{◌≡◌, refl, sym, ap, ap₂, subst, ◌∙◌}
use mathlib.Core.Bool.{Bool, true, false}
use mathlib.Core.List.{List, ◌++◌}
use native.Mathlib.Nat.{zero-add}
use native.Mathlib.Omega.{arith}
use borrow.Author.Tests.{le-leb, lt-leb, leb-true, leb-false}
use lib.Dec.{leb}
use lib.ListN.{length, take, drop, length-append, length-drop}
use lib.Seq.{take_at, drop_at}
use Rattle.std.specs.Prelude.{if◌then◌else◌, Result, Ok, Err}
use Rattle.model.specs.Refusals.{refusal_text}
use Rattle.resolution.specs.Answer.{Verdict, max_text, text_verdict}
use Rattle.type_text.specs.declared.TextError.{TextError}
use Rattle.type_text.specs.declared.TextError.TheVariants.{TooLong, NoRoom}
use Rattle.type_text.specs.Text.{put_at, text_answer, text_bytes, Wrote, WritesText}

-- ------------------------------------------------------------------ the measured length

-- a length of at most 4,096 is the text's own; a longer one is measured of a text over 4,096 bytes, and of no other
pub measured_exact : (r n : ℕ) → r ≡ min 4097 n → r ≤ max_text → r ≡ n
measured_exact r n e h = omega arith

pub measured_over : (r n : ℕ) → r ≡ min 4097 n → max_text < r → max_text < n
measured_over r n e h = omega arith

-- ------------------------------------------------------------------ what the code writes

put_start : (out text : List ℕ) → put_at out 0 text ≡ text ++ drop (length text) out
unfolding put_at
put_start out text = ap (λ n. text ++ drop n out) (zero-add (length text))

module _ (text out : List ℕ) where
  pub text_long : max_text < length text → WritesText text out out (Err TooLong)
  unfolding text_answer text_bytes
  text_long long =
      record {
        answer = sym (ap (λ b. if b then (if leb (length text) (length out) then Ok (length text) else Err NoRoom) else Err TooLong) (lt-leb (length text) max_text long));
        bytes = refl;
      }

  pub text_no_room : length text ≤ max_text → length out < length text → WritesText text out out (Err NoRoom)
  unfolding text_answer text_bytes
  text_no_room small short =
      record {
        answer = sym (ap₂ (λ a b. if a then (if b then Ok (length text) else Err NoRoom) else Err TooLong) (le-leb (length text) max_text small) (lt-leb (length text) (length out) short));
        bytes = refl;
      }

  pub text_written : (out' : List ℕ) (r : ℕ) → length text ≤ max_text → length text ≤ length out → Wrote text 0 out out' r → WritesText text out out' (Ok r)
  unfolding text_answer text_bytes
  text_written out' r small fits wrote =
      record {
        answer =
            ap Ok (wrote.next ∙ zero-add (length text))
            ∙ sym (ap₂ (λ a b. if a then (if b then Ok (length text) else Err NoRoom) else Err TooLong) (le-leb (length text) max_text small) (le-leb (length text) (length out) fits));
        bytes = wrote.bytes ∙ put_start out text;
      }

-- ------------------------------------------------------------------ what a caller learns

-- a text that is written: its length is the one that is said, and it stands at the start, all bytes behind it as they were
pub record Stands (text out out' : List ℕ) (n : ℕ) : Type 0 where
  pub exact : n ≡ length text
  pub small : n ≤ max_text
  pub fits : n ≤ length out
  pub text_first : take n out' ≡ text
  pub rest_kept : drop n out' ≡ drop n out
  pub same_length : length out' ≡ length out

abbrev Said : List ℕ → List ℕ → List ℕ → Result ℕ TextError → Type 0
Said text out out' (Ok n) = Stands text out out' n
Said text out out' (Err TooLong) = (max_text < length text) × (out' ≡ out)
Said text out out' (Err NoRoom) = (length text ≤ max_text) × (length out < length text) × (out' ≡ out)

said : (text out out' : List ℕ) (a b : Bool) → leb (length text) max_text ≡ a → leb (length text) (length out) ≡ b
    → out' ≡ text_bytes (if a then (if b then Ok (length text) else Err NoRoom) else Err TooLong) text out → Said text out out' (if a then (if b then Ok (length text) else Err NoRoom) else Err TooLong)
unfolding text_bytes
said text out out' true true small fits e =
    record {
      exact = refl;
      small = leb-true _ _ small;
      fits = leb-true _ _ fits;
      text_first = ap (take (length text)) e ∙ take_at text (drop (length text) out) (length text) refl;
      rest_kept = ap (drop (length text)) e ∙ drop_at text (drop (length text) out) (length text) refl;
      same_length =
          let room = leb-true (length text) (length out) fits in
          omega (arith, ap length e, length-append text (drop (length text) out), length-drop (length text) out);
    }
said text out out' true false small short e = (leb-true _ _ small, leb-false _ _ short, e)
said text out out' false b long short e = (leb-false _ _ long, e)

module _ {text out out' : List ℕ} {r : Result ℕ TextError} (promised : WritesText text out out' r) where
  all_said : (r' : Result ℕ TextError) → r ≡ r' → Said text out out' r'
  unfolding text_answer
  all_said r' same =
      subst (Said text out out') (sym promised.answer ∙ same)
      (said text out out' (leb (length text) max_text) (leb (length text) (length out)) refl refl
      (promised.bytes ∙ ap (λ x. text_bytes x text out) promised.answer))

  -- the text is written, of exactly that length
  pub written : (n : ℕ) → r ≡ Ok n → Stands text out out' n
  written n same = all_said (Ok n) same

  -- what was measured is what is written
  pub measured_written : (m n : ℕ) → m ≡ min 4097 (length text) → r ≡ Ok n → m ≡ n
  measured_written m n e same = omega (arith, (written n same).exact, (written n same).small)

  -- a text is said to be over 4,096 bytes where it is, and nowhere else; nothing is written then
  pub too_long : r ≡ Err TooLong → (max_text < length text) × (out' ≡ out)
  too_long same = all_said (Err TooLong) same

  pub over : max_text < length text → r ≡ Err TooLong
  unfolding text_answer
  over long = promised.answer ∙ sym (text_long text out long).answer

  -- only the buffer is too short; nothing is written
  pub no_room : r ≡ Err NoRoom → (length text ≤ max_text) × (length out < length text) × (out' ≡ out)
  no_room same = all_said (Err NoRoom) same

-- ------------------------------------------------------------------ the definition's verdict

pub verdict_typed : (text : List ℕ) → length text ≤ max_text → text_verdict text ≡ Verdict.typed text
unfolding text_verdict
verdict_typed text small = ap (λ b. if b then Verdict.typed text else Verdict.refused refusal_text) (le-leb (length text) max_text small)

pub verdict_refused : (text : List ℕ) → max_text < length text → text_verdict text ≡ Verdict.refused refusal_text
unfolding text_verdict
verdict_refused text long = ap (λ b. if b then Verdict.typed text else Verdict.refused refusal_text) (lt-leb (length text) max_text long)
