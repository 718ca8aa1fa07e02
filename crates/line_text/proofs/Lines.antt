-- Lines written into a lent buffer: a text between the lead fields and the LF, and what stands at the start of the bytes. Assumes nothing.
use Prim.Native.Nat.{ℕ, ◌+◌, ◌-◌, ◌≤◌, ◌<◌, zero-le}
use mathlib.Core.Path.{◌≡◌, subst, sym, ap, ap₂, ◌∙◌}
use mathlib.Core.List.{◌++◌, append_assoc}
use native.Mathlib.Nat.{zero-add, lt_trans}
use native.Mathlib.Omega.{arith}
use borrow.Rule.Slice.PartMut.{mid_of, post_of, put_mid}
use mathlib.Core.Bool.{Bool, true, false}
use lib.Dec.{lit<, leb}
use lib.ListN.{length, take, drop, length-append, length-take, take-append-drop}
use lib.Seq.{length-take-le, drop_at, drop-append-le, drop-drop}
use Rattle.std.specs.Prelude.{if◌then◌else◌, Result, Ok, Err, IsErrAnd}
use Rattle.model.specs.Common.{Text, bytes}
use Rattle.resolution.specs.Answer.{decimal, Verdict, text_verdict, verdict_fields, asked_lead, Line, line_text}
use Rattle.type_text.specs.Text.{put_at, Wrote}
use Rattle.type_text.proofs.Decimals.{decimal_within}
use Rattle.type_text.proofs.Writing.{wrote_then}
use Rattle.type_text.proofs.Laws.{Stands}
use Rattle.type_text.specs.declared.TextError.{TextError}
use Rattle.line_text.specs.declared.LineError.{LineError}
use Rattle.line_text.specs.Lines.{put_first, line_error_of, LinePut, TriedIs, line_with}

-- a number of 32 bits has at most ten digits
pub ten_digits : (n : ℕ) → n < 4294967296 → length (decimal n) ≤ 10
ten_digits n small = decimal_within 9 n (lt_trans small (lit< tt))

-- what stands before a line's verdict is short
pub lead_few : (kind : Text) (m n : ℕ) → length kind ≤ 7 → length (decimal m) ≤ 10 → length (decimal n) ≤ 10
    → length (kind ++ (decimal m ++ (bytes "\t" ++ (decimal n ++ bytes "\t")))) ≤ 29
lead_few kind m n short m_short n_short =
    omega (
      arith,
      length-append kind (decimal m ++ (bytes "\t" ++ (decimal n ++ bytes "\t"))),
      length-append (decimal m) (bytes "\t" ++ (decimal n ++ bytes "\t")),
      length-append (bytes "\t") (decimal n ++ bytes "\t"),
      length-append (decimal n) (bytes "\t"),
    )

put_start : (out text : Text) → put_at out 0 text ≡ put_first text out
unfolding put_at
put_start out text = ap (λ n. text ++ drop n out) (zero-add (length text))

-- a text that is written at the start
pub line_put : (line out out' : Text) (r : ℕ) → length line ≤ length out → Wrote line 0 out out' r → LinePut line out out' r
line_put line out out' r fits wrote =
    record { long = wrote.next ∙ zero-add (length line); fits = omega (arith, wrote.next); bytes = wrote.bytes ∙ put_start out line }

-- the text in the middle, and then the lead fields in front of it
module _ (lead text out part' out₁ : Text) (at n r : ℕ) (is_at : length lead ≡ at) (room : at < length out)
    (stands : Stands text (mid_of at (length out - 1 - at) out) part' n)
    (first : Wrote lead 0 (put_mid at (length out - 1 - at) out part') out₁ r) where
  both : at + n ≡ length (lead ++ text)
  both = sym (length-append lead text ∙ ap₂ ◌+◌ is_at (sym stands.exact))

  rest : drop n (mid_of at (length out - 1 - at) out) ++ post_of at (length out - 1 - at) out ≡ drop (at + n) out
  rest =
      sym (drop-append-le n (mid_of at (length out - 1 - at) out) (post_of at (length out - 1 - at) out) stands.fits)
      ∙ ap (drop n) (take-append-drop (length out - 1 - at) (drop at out)) ∙ drop-drop n at out

  written : part' ≡ text ++ drop n (mid_of at (length out - 1 - at) out)
  written = sym (take-append-drop n part') ∙ ap₂ ◌++◌ stands.text_first stands.rest_kept

  behind : drop at (put_mid at (length out - 1 - at) out part') ≡ text ++ drop (at + n) out
  behind =
      drop_at (take at out) (part' ++ post_of at (length out - 1 - at) out) at (length-take-le at out (omega arith))
      ∙ ap (λ l. l ++ post_of at (length out - 1 - at) out) written
      ∙ append_assoc text (drop n (mid_of at (length out - 1 - at) out)) (post_of at (length out - 1 - at) out)
      ∙ ap (λ l. text ++ l) rest

  middle : Wrote (lead ++ text) 0 out out₁ (at + n)
  middle =
      record {
        bytes =
            first.bytes ∙ put_start (put_mid at (length out - 1 - at) out part') lead
            ∙ ap (λ l. lead ++ l) (ap (λ m. drop m (put_mid at (length out - 1 - at) out part')) is_at ∙ behind)
            ∙ sym (append_assoc lead text (drop (at + n) out))
            ∙ ap (λ m. (lead ++ text) ++ drop m out) both
            ∙ sym (put_start out (lead ++ text));
        next = both ∙ sym (zero-add (length (lead ++ text)));
      }

  fits : at + n + 1 ≤ length out
  fits = omega (arith, stands.fits, length-take (length out - 1 - at) (drop at out))

  -- and the LF behind it
  pub between : (out₂ : Text) (end : ℕ) → Wrote (bytes "\n") (at + n) out₁ out₂ end → LinePut ((lead ++ text) ++ bytes "\n") out out₂ end
  between out₂ end last =
      line_put ((lead ++ text) ++ bytes "\n") out out₂ end (omega (arith, length-append (lead ++ text) (bytes "\n"), both, fits))
      (wrote_then (lead ++ text) (bytes "\n") 0 (at + n) end out out₁ out₂ zero-le middle last)

-- the parts of a typed line, as the code puts them
pub typed_line : (lead text : Text) → ((lead ++ bytes "type\t") ++ text) ++ bytes "\n" ≡ line_with lead (Verdict.typed text)
unfolding verdict_fields
typed_line lead text =
    append_assoc (lead ++ bytes "type\t") text (bytes "\n") ∙ append_assoc lead (bytes "type\t") (text ++ bytes "\n")

-- the line of a type's text, or of refusal 10, is longer than the lead fields and `type` with its tab
pub line_longer : (lead text : Text) → length lead + 5 < length (line_with lead (text_verdict text))
unfolding text_verdict verdict_fields
line_longer lead text = at (leb (length text) 4096)
  where
    at : (b : Bool) → length lead + 5 < length (line_with lead (if b then Verdict.typed text else Verdict.refused 10))
    at true =
        omega (arith, length-append lead (bytes "type\t" ++ (text ++ bytes "\n")), length-append (bytes "type\t") (text ++ bytes "\n"), length-append text (bytes "\n"))
    at false =
        omega (arith, length-append lead (bytes "refused\t" ++ (decimal 10 ++ bytes "\n")), length-append (bytes "refused\t") (decimal 10 ++ bytes "\n"))

-- no line is empty
pub line_some : (line : Line) → 0 < length (line_text line)
unfolding line_text verdict_fields
line_some line = at line.verdict
  where
    at : (v : Verdict) → 0 < length (asked_lead line.asked ++ verdict_fields v)
    at (Verdict.typed text) =
        omega (arith, length-append (asked_lead line.asked) (bytes "type\t" ++ (text ++ bytes "\n")), length-append (bytes "type\t") (text ++ bytes "\n"))
    at (Verdict.worded word) = omega (arith, length-append (asked_lead line.asked) (word ++ bytes "\n"), length-append word (bytes "\n"))
    at (Verdict.refused n) =
        omega (arith, length-append (asked_lead line.asked) (bytes "refused\t" ++ (decimal n ++ bytes "\n")), length-append (bytes "refused\t") (decimal n ++ bytes "\n"))

-- how long a typed line is
pub typed_length : (lead text : Text) → length (line_with lead (Verdict.typed text)) ≡ length lead + 6 + length text
unfolding verdict_fields
typed_length lead text =
    omega (arith, length-append lead (bytes "type\t" ++ (text ++ bytes "\n")), length-append (bytes "type\t") (text ++ bytes "\n"), length-append text (bytes "\n"))

-- what a `?` hands on of a text that is not written
pub handed_on : (lead : Text) (v : Verdict) (out out' : Text) (cause : TextError) (r : Result ℕ LineError) → IsErrAnd r (λ e. e ≡ line_error_of cause)
    → TriedIs lead v out out' (Err (line_error_of cause)) → TriedIs lead v out out' r
handed_on lead v out out' cause (Ok n) gives tried = absurd gives
handed_on lead v out out' cause (Err e) gives tried = subst (λ x. TriedIs lead v out out' (Err x)) (sym gives) tried
