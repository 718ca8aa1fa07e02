-- What a question asks: that it asks it in an index that has it, how much it asks, and that what is asked for a type has a line, which tells what it is about. Assumes
-- nothing.
use Prim.Native.Nat.{ℕ, ◌≤◌}
use native.Mathlib.Omega.{arith}
use mathlib.Core.Path.{◌≡◌, refl, sym, ◌∙◌, ap, subst}
use mathlib.Core.List.{[], ◌∷◌, Memᴰ}
use Rattle.std.specs.Prelude.{Option, None, Some}
use Rattle.std.specs.Prelude.{slice_get}
use lib.ListN.{length}
use Rattle.model.specs.Common.{let_some, collect}
use Rattle.model.specs.Records.{Question, Module, Index}
use Rattle.model.specs.Lookups.{module_at, expression_at_position}
use Rattle.model.specs.Limits.{max_number, max_position, max_open_demands}
use Rattle.model.specs.WellFormed.{QuestionNumbers, WellFormed}
use Rattle.model.proofs.Tests.{none≢some, some-injective}
use Rattle.model.proofs.Collected.{collected_length}
use Rattle.resolution.specs.Asked.{Asked, question_asked, Asks, HasLine, max_lines, NumberOf}
use Rattle.resolution.specs.Inside.{Body, AboutOutside}
use Rattle.resolution.specs.Answer.{type_text, Verdict, text_verdict, said_verdict, outcome_verdict, verdict, Line, asked_line, question_lines}
use Rattle.resolution.specs.Types.{Table, first_table}
use Rattle.resolution.specs.Programs.{Demand, Answer, Said, Program, done, resolve_ast_type, definition_semantic_type, expression_semantic_type}
use Rattle.resolution.specs.Programs as programs
use Rattle.resolution.specs.TypeResolution.{expression_in_context, says_type, none_word, none_said, says_at, at_program, asked_program}
use Rattle.resolution.specs.Run.{Outcome, answered, refused, go_on, run, demand, resolve_asked}
use Rattle.resolution.proofs.RunLaws.{run_bind}

-- a line tells what it is about
pub line_about : (index : Index) (asked : Asked) (line : Line) → asked_line index asked ≡ Some line → line.asked ≡ asked
unfolding asked_line
line_about index asked line e = go (verdict index asked) e
  where
    go : (o : Option Verdict) → let_some o None (λ v. Some (record { asked = asked; verdict = v })) ≡ Some line → line.asked ≡ asked
    go None h = absurd (none≢some h)
    go (Some v) h = ap (λ (l : Line). l.asked) (sym (some-injective h))

-- what is asked for a type has a line, with the type or a refusal
says_verdict : (handler : (d : Demand) → Table → Outcome (Answer d)) (p : Program ℕ) (table : Table) → (v : Verdict) × (outcome_verdict (run handler (says_type p) table) ≡ Some v)
unfolding says_type run go_on outcome_verdict said_verdict
says_verdict handler p table = by_outcome (run handler p table) (ap outcome_verdict (run_bind handler p (λ t. done (Said.type t)) table))
  where
    by_outcome : (o : Outcome ℕ) → outcome_verdict (run handler (says_type p) table) ≡ outcome_verdict (go_on o (λ t after. answered (Said.type t) after))
        → (v : Verdict) × (outcome_verdict (run handler (says_type p) table) ≡ Some v)
    by_outcome (answered t after) e = (text_verdict (type_text after t), e)
    by_outcome (refused n) e = (Verdict.refused n, e)

-- what is asked at a byte has one too, with the type, a refusal or `none`
says_at_verdict : (handler : (d : Demand) → Table → Outcome (Answer d)) (m : ℕ) (found : Option ℕ) (table : Table)
    → (v : Verdict) × (outcome_verdict (run handler (says_at m found) table) ≡ Some v)
unfolding programs.let_some run outcome_verdict said_verdict says_at
says_at_verdict handler m None table = (Verdict.worded none_word, refl)
says_at_verdict handler m (Some e) table = says_verdict handler (expression_semantic_type m e None) table

at_verdict : (handler : (d : Demand) → Table → Outcome (Answer d)) (index : Index) (m position : ℕ) (table : Table)
    → (v : Verdict) × (outcome_verdict (run handler (at_program index m position) table) ≡ Some v)
unfolding programs.let_some run outcome_verdict said_verdict at_program
at_verdict handler index m position table = by_module (module_at index m)
  where
    by_module : (o : Option Module)
        → (v : Verdict) × (outcome_verdict (run handler (programs.let_some o (done none_said) λ the_module. says_at m (expression_at_position the_module position)) table) ≡ Some v)
    by_module None = (Verdict.worded none_word, refl)
    by_module (Some the_module) = says_at_verdict handler m (expression_at_position the_module position) table

pub has_line : (index : Index) (asked : Asked) → HasLine asked → (line : Line) × (asked_line index asked ≡ Some line)
unfolding asked_line verdict resolve_asked asked_program
has_line index asked has = let (v, e) = by_kind asked has in (record { asked = asked; verdict = v }, ap (λ o. let_some o None (λ w. Some (record { asked = asked; verdict = w }))) e)
  where
    by_kind : (asked : Asked) → HasLine asked → (v : Verdict) × (verdict index asked ≡ Some v)
    by_kind (Asked.expr m e None) tt = says_verdict (demand max_open_demands index []) (expression_semantic_type m e None) first_table
    by_kind (Asked.expr m e (Some t)) tt = says_verdict (demand max_open_demands index []) (expression_in_context index m e t) first_table
    by_kind (Asked.def m d) tt = says_verdict (demand max_open_demands index []) (definition_semantic_type m d) first_table
    by_kind (Asked.type m t s) tt = says_verdict (demand max_open_demands index []) (resolve_ast_type m t s) first_table
    by_kind (Asked.at m position) tt = at_verdict (demand max_open_demands index []) index m position first_table

-- what a question asks of the outside of a body, it asks in an index that has it
pub asked_among : (index : Index) (body : Body) (question : Question) (asked : Asked) → Asks question asked → AboutOutside index body asked
    → Memᴰ asked (question_asked index question)
unfolding question_asked
asked_among index body (Question.expr m e context) asked asks about = Memᴰ.head asks
asked_among index body (Question.def m d) asked asks about = Memᴰ.head asks
asked_among index body (Question.type m t s) asked asks about = Memᴰ.head asks
asked_among index body (Question.at m position) asked asks about = Memᴰ.head asks

-- a question that asks one thing has the same lines in two indexes of which that has the same line
module _ (A B : Index) (asked : Asked) (same : asked_line A asked ≡ asked_line B asked) where
  one_same : (other : Asked) → asked ≡ other → collect (asked_line A) (other ∷ []) ≡ collect (asked_line B) (other ∷ [])
  unfolding collect
  one_same other is =
      ap (λ o. let_some o [] (λ l. l ∷ [])) (ap (asked_line A) (sym is) ∙ same ∙ ap (asked_line B) is)

  pub numbered_same : (question : Question) → Asks question asked → (number : ℕ) → NumberOf question asked number
      → slice_get (question_lines A question) number ≡ slice_get (question_lines B question) number
  unfolding question_lines question_asked
  numbered_same (Question.expr m e context) asks number is = ap (λ l. slice_get l number) (one_same (Asked.expr m e context) asks)
  numbered_same (Question.def m d) asks number is = ap (λ l. slice_get l number) (one_same (Asked.def m d) asks)
  numbered_same (Question.type m t s) asks number is = ap (λ l. slice_get l number) (one_same (Asked.type m t s) asks)
  numbered_same (Question.at m position) asks number is = ap (λ l. slice_get l number) (one_same (Asked.at m position) asks)

-- ------------------------------------------------------------------ how much it asks

few_asked : (index : Index) → WellFormed index → (question : Question) → length (question_asked index question) ≤ max_lines
unfolding question_asked
few_asked index formed (Question.expr m e context) = omega arith
few_asked index formed (Question.def m d) = omega arith
few_asked index formed (Question.type m t s) = omega arith
few_asked index formed (Question.at m position) = omega arith

pub few_lines : (index : Index) → WellFormed index → (question : Question) → length (question_lines index question) ≤ max_lines
unfolding question_lines
few_lines index formed question =
    omega (arith, collected_length (asked_line index) (question_asked index question), few_asked index formed question)

-- ------------------------------------------------------------------ its numbers

-- those that the line shows
abbrev pub AskedNumbers : Asked → Type 0
AskedNumbers (Asked.expr m e context) = (m ≤ max_number) × (e ≤ max_number)
AskedNumbers (Asked.def m d) = (m ≤ max_number) × (d ≤ max_number)
AskedNumbers (Asked.type m t s) = (m ≤ max_number) × (t ≤ max_number)
AskedNumbers (Asked.at m position) = (m ≤ max_number) × (position ≤ max_position)

one_numbers : (other asked : Asked) → Memᴰ asked (other ∷ []) → AskedNumbers other → AskedNumbers asked
one_numbers other asked (mathlib.Core.List.Memᴰ.tail x5) h = elim x5 [ ]
one_numbers other asked (Memᴰ.head is) h = subst AskedNumbers (sym is) h

pub asked_numbers : (index : Index) → WellFormed index → (question : Question) → QuestionNumbers question
    → (asked : Asked) → Memᴰ asked (question_asked index question) → AskedNumbers asked
unfolding question_asked
asked_numbers index formed (Question.expr m e context) h asked mem = one_numbers (Asked.expr m e context) asked mem h
asked_numbers index formed (Question.def m d) h asked mem = one_numbers (Asked.def m d) asked mem h
asked_numbers index formed (Question.type m t s) h asked mem = one_numbers (Asked.type m t s) asked mem h
asked_numbers index formed (Question.at m position) h asked mem = one_numbers (Asked.at m position) asked mem h
