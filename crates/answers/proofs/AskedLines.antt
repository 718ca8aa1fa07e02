-- The lines of a question by what it asks: each asks one thing, which has its line. Assumes nothing.
use Prim.Native.Nat.{ℕ, zero, suc, ◌<◌, suc-le-suc}
use native.Mathlib.Omega.{arith}
use mathlib.Core.Path.{◌≡◌, refl, sym, ◌∙◌, ap}
use mathlib.Core.List.{List, [], ◌∷◌}
use Rattle.std.specs.Prelude.{Option, None, Some}
use Rattle.std.specs.Prelude.{slice_get}
use lib.ListN.{length}
use Rattle.model.specs.Common.{Text, let_some, collect}
use Rattle.model.specs.Records.{Question, Index}
use Rattle.model.proofs.Tests.{none≢some, some-injective}
use Rattle.format.specs.Load.{accepted, load}
use Rattle.format.proofs.Loaded.{loaded_well_formed}
use Rattle.resolution.specs.Asked.{Asked, question_asked}
use Rattle.resolution.specs.Answer.{Verdict, verdict, Line, asked_line, question_lines}
use Rattle.resolution.proofs.AskedLaws.{few_lines}

-- ------------------------------------------------------------------ numbers of a list

pub below_length : {A : Type 0} (xs : List A) (n : ℕ) {x : A} → slice_get xs n ≡ Some x → n < length xs
below_length [] n e = absurd (none≢some e)
below_length (x ∷ xs) zero e = omega arith
below_length (x ∷ xs) (suc n) e = suc-le-suc (below_length xs n e)

-- ------------------------------------------------------------------ one thing

module _ (index : Index) (about : Asked) where
  one_past : (n : ℕ) → slice_get (about ∷ []) n ≡ None → slice_get (collect (asked_line index) (about ∷ [])) n ≡ None
  unfolding collect
  one_past zero e = absurd (none≢some (sym e))
  one_past (suc n) e = go (asked_line index about)
    where
      go : (o : Option Line) → slice_get (let_some o [] (λ l. l ∷ [])) (suc n) ≡ None
      go None = refl
      go (Some l) = refl

  one_there : (asked : Asked) (line : Line) (n : ℕ) → slice_get (about ∷ []) n ≡ Some asked → asked_line index asked ≡ Some line
      → slice_get (collect (asked_line index) (about ∷ [])) n ≡ Some line
  unfolding collect
  one_there asked line zero e h = ap (λ o. slice_get (let_some o [] (λ l. l ∷ [])) 0) (ap (asked_line index) (some-injective e) ∙ h)
  one_there asked line (suc n) e h = absurd (none≢some e)

-- ------------------------------------------------------------------ a question's lines

module _ (index : Index) where
  -- nothing is asked at the number: no line has it
  pub past_line : (question : Question) (n : ℕ) → slice_get (question_asked index question) n ≡ None → slice_get (question_lines index question) n ≡ None
  unfolding question_lines question_asked
  past_line (Question.expr m e context) n h = one_past index (Asked.expr m e context) n h
  past_line (Question.def m d) n h = one_past index (Asked.def m d) n h
  past_line (Question.type m t s) n h = one_past index (Asked.type m t s) n h
  past_line (Question.at m position) n h = one_past index (Asked.at m position) n h

  line_is : (question : Question) (asked : Asked) (line : Line) (n : ℕ) → slice_get (question_asked index question) n ≡ Some asked → asked_line index asked ≡ Some line
      → slice_get (question_lines index question) n ≡ Some line
  unfolding question_lines question_asked
  line_is (Question.expr m e context) asked line n h k = one_there index (Asked.expr m e context) asked line n h k
  line_is (Question.def m d) asked line n h k = one_there index (Asked.def m d) asked line n h k
  line_is (Question.type m t s) asked line n h k = one_there index (Asked.type m t s) asked line n h k
  line_is (Question.at m position) asked line n h k = one_there index (Asked.at m position) asked line n h k

  -- what is asked at a number has the line of that number
  pub line_there : (question : Question) (asked : Asked) (v : Verdict) (n : ℕ) → slice_get (question_asked index question) n ≡ Some asked → verdict index asked ≡ Some v
      → slice_get (question_lines index question) n ≡ Some (record { asked = asked; verdict = v })
  unfolding asked_line
  line_there question asked v n h k =
      line_is question asked (record { asked = asked; verdict = v }) n h (ap (λ o. let_some o None (λ w. Some (record { asked = asked; verdict = w }))) k)

-- no question has more than 512 lines
pub few : (file : Text) (index : Index) → load file ≡ accepted index → (question : Question) (line : Line) (n : ℕ)
    → slice_get (question_lines index question) n ≡ Some line → n < 512
few file index loaded question line n e =
    omega (arith, below_length (question_lines index question) n e, few_lines index (loaded_well_formed file index loaded) question)
