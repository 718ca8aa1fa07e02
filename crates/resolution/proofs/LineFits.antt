-- Every answer line of a file that loading accepts fits the answer buffer of 4,160 bytes, and a refusal on it is at most 10. Assumes nothing.
use Prim.Native.Nat.{ℕ, zero, suc, ◌+◌, ◌*◌, ◌/◌, ◌%◌, ◌≤◌, ◌<◌}
use native.Mathlib.Omega.{arith}
use mathlib.Core.Path.{◌≡◌, refl, sym, subst}
use mathlib.Core.Bool.{Bool, true, false}
use mathlib.Core.List.{[], ◌∷◌, ◌++◌}
use Rattle.std.specs.Prelude.{Option, None, Some}
use lib.Dec.{ltb, leb}
use Rattle.std.specs.Prelude.{slice_get}
use lib.ListN.{length, length-append}
use Rattle.std.specs.Prelude.{if◌then◌else◌}
use Rattle.model.specs.Common.{Text, let_some, bytes}
use Rattle.model.specs.Records.{Question, Index}
use Rattle.model.specs.Limits.{max_number, max_position, answer_bytes}
use Rattle.model.proofs.Tests.{leb_le, ltb-false, none≢some, some-injective}
use Rattle.model.proofs.Collected.{collected_from}
use Rattle.format.specs.Load.{accepted, load}
use Rattle.format.proofs.Loaded.{loaded_well_formed}
use Rattle.resolution.specs.Types.{Table, first_table}
use Rattle.resolution.specs.Asked.{Asked, question_asked}
use Rattle.resolution.specs.Programs.{Said}
use Rattle.resolution.specs.Run.{Outcome, answered, refused, resolve_asked}
use Rattle.resolution.specs.Answer.{decimal_digits, decimal, type_text, Verdict, max_text, text_verdict, said_verdict, outcome_verdict, verdict, lead_of, asked_lead, verdict_fields, Line, line_text, asked_line, question_lines}
use Rattle.resolution.specs.TableOk.{SaidOk, OutcomeOk}
use Rattle.resolution.proofs.SafePrograms.{asked_ok}
use Rattle.resolution.proofs.AskedLaws.{line_about, AskedNumbers, asked_numbers}

-- ------------------------------------------------------------------ numbers

abbrev Digits : ℕ → ℕ → Type 0
Digits most n = (fuel : ℕ) → length (decimal_digits fuel n) ≤ most

one_digit : (n : ℕ) → n < 10 → Digits 1 n
unfolding decimal_digits
one_digit n h zero = omega arith
one_digit n h (suc fuel) = at_test (ltb n 10) refl
  where
    at_test : (b : Bool) → ltb n 10 ≡ b → length {A = ℕ} (elim b [ true ↦ (48 + n) ∷ [] | false ↦ decimal_digits fuel (n / 10) ++ ((48 + n % 10) ∷ []) ]) ≤ 1
    at_test true e = omega arith
    at_test false e = absurd (let k = ltb-false n 10 e in omega arith)

more_digits : (most bound : ℕ) → ((n : ℕ) → n < bound → Digits most n) → (n : ℕ) → n < 10 * bound → Digits (suc most) n
unfolding decimal_digits
more_digits most bound few n h zero = omega arith
more_digits most bound few n h (suc fuel) = at_test (ltb n 10)
  where
    at_test : (b : Bool) → length {A = ℕ} (elim b [ true ↦ (48 + n) ∷ [] | false ↦ decimal_digits fuel (n / 10) ++ ((48 + n % 10) ∷ []) ]) ≤ suc most
    at_test true = omega arith
    at_test false = omega (arith, length-append (decimal_digits fuel (n / 10)) ((48 + n % 10) ∷ []), few (n / 10) (omega arith) fuel)

-- five digits for a link, two for a refusal
decimal_five : (n : ℕ) → n ≤ max_number → length (decimal n) ≤ 5
unfolding decimal
decimal_five n h =
    more_digits 4 10000 (more_digits 3 1000 (more_digits 2 100 (more_digits 1 10 one_digit))) n (omega arith) (suc n)

-- ten for a position
decimal_ten : (n : ℕ) → n ≤ max_position → length (decimal n) ≤ 10
unfolding decimal
decimal_ten n h =
    more_digits 9 1000000000
    (more_digits 8 100000000
    (more_digits 7 10000000
    (more_digits 6 1000000 (more_digits 5 100000 (more_digits 4 10000 (more_digits 3 1000 (more_digits 2 100 (more_digits 1 10 one_digit))))))))
    n
    (omega arith)
    (suc n)

decimal_two : (n : ℕ) → n ≤ 10 → length (decimal n) ≤ 2
unfolding decimal
decimal_two n h = more_digits 1 10 one_digit n (omega arith) (suc n)

-- ------------------------------------------------------------------ the line

append_le : (xs ys : Text) (a b : ℕ) → length xs ≤ a → length ys ≤ b → length (xs ++ ys) ≤ a + b
append_le xs ys a b h k = omega (arith, length-append xs ys)

lead_fits_of : (word a b : Text) (most_a most_b : ℕ) → length word ≤ 6 → length a ≤ most_a → length b ≤ most_b → length (lead_of word a b) ≤ 9 + (most_a + most_b)
unfolding lead_of
lead_fits_of word a b most_a most_b h ha hb =
    omega (arith, length-append word (bytes "\t" ++ (a ++ (bytes "\t" ++ (b ++ bytes "\t")))), length-append a (bytes "\t" ++ (b ++ bytes "\t")), length-append b (bytes "\t"))

lead_fits : (asked : Asked) → AskedNumbers asked → length (asked_lead asked) ≤ 24
unfolding asked_lead
lead_fits (Asked.expr m e context) (hm, he) = omega (arith, lead_fits_of (bytes "expr") (decimal m) (decimal e) 5 5 (omega arith) (decimal_five m hm) (decimal_five e he))
lead_fits (Asked.def m d) (hm, hd) = omega (arith, lead_fits_of (bytes "def") (decimal m) (decimal d) 5 5 (omega arith) (decimal_five m hm) (decimal_five d hd))
lead_fits (Asked.type m t s) (hm, ht) = omega (arith, lead_fits_of (bytes "type") (decimal m) (decimal t) 5 5 (omega arith) (decimal_five m hm) (decimal_five t ht))
lead_fits (Asked.at m position) (hm, hp) = lead_fits_of (bytes "at") (decimal m) (decimal position) 5 10 (omega arith) (decimal_five m hm) (decimal_ten position hp)

abbrev pub Fits : Verdict → Type 0
Fits (Verdict.typed text) = length text ≤ max_text
Fits (Verdict.worded word) = length word ≤ 5
Fits (Verdict.refused n) = n ≤ 10

text_fits : (text : Text) → Fits (text_verdict text)
unfolding text_verdict
text_fits text = at_test (leb (length text) max_text) refl
  where
    at_test : (b : Bool) → leb (length text) max_text ≡ b → Fits (if b then Verdict.typed text else Verdict.refused 10)
    at_test true e = leb_le (length text) max_text e
    at_test false e = omega arith

said_fits : (table : Table) (said : Said) → SaidOk table said → (v : Verdict) → said_verdict table said ≡ Some v → Fits v
unfolding said_verdict
said_fits table (Said.type t) ok v e = subst Fits (some-injective e) (text_fits (type_text table t))
said_fits table (Said.word word) ok v e = subst Fits (some-injective e) ok
said_fits table Said.nothing ok v e = absurd (none≢some e)

outcome_fits : (o : Outcome Said) → OutcomeOk SaidOk first_table o → (v : Verdict) → outcome_verdict o ≡ Some v → Fits v
unfolding outcome_verdict
outcome_fits (answered said table) ok v e = said_fits table said ok.2 v e
outcome_fits (refused n) ok v e = subst Fits (some-injective e) (few ok.1)
  where
    few : n ≤ 9 → n ≤ 10
    few h = omega (arith, h)

fields_fit : (v : Verdict) → Fits v → length (verdict_fields v) ≤ 4102
unfolding verdict_fields
fields_fit (Verdict.typed text) h = append_le (bytes "type\t") (text ++ bytes "\n") 5 4097 (omega arith) (append_le text (bytes "\n") 4096 1 h (omega arith))
fields_fit (Verdict.worded word) h = omega (arith, h, length-append word (bytes "\n"))
fields_fit (Verdict.refused n) h =
    let few : length (bytes "refused\t" ++ (decimal n ++ bytes "\n")) ≤ 8 + 3 = append_le (bytes "refused\t") (decimal n ++ bytes "\n") 8 3 (omega arith) (append_le (decimal n) (bytes "\n") 2 1 (decimal_two n h) (omega arith)) in
    omega arith

-- what the line about it says, whatever is asked
asked_verdict_fits : (index : Index) (asked : Asked) (line : Line) → asked_line index asked ≡ Some line → Fits line.verdict
unfolding asked_line verdict
asked_verdict_fits index asked line e = go (outcome_verdict (resolve_asked index asked)) refl e
  where
    go : (o : Option Verdict) → outcome_verdict (resolve_asked index asked) ≡ o → let_some o None (λ v. Some (record { asked = asked; verdict = v })) ≡ Some line → Fits line.verdict
    go None h k = absurd (none≢some k)
    go (Some v) h k = subst (λ (l : Line). Fits l.verdict) (some-injective k) (outcome_fits (resolve_asked index asked) (asked_ok index asked) v h)

pub verdict_fits : (index : Index) (question : Question) (number : ℕ) (line : Line) → slice_get (question_lines index question) number ≡ Some line → Fits line.verdict
unfolding question_lines
verdict_fits index question number line e =
    let (about, mem, h) = collected_from (asked_line index) (question_asked index question) number e in asked_verdict_fits index about line h

-- the line about what is asked, if its numbers fit
asked_fits : (index : Index) (asked : Asked) → AskedNumbers asked → (line : Line) → asked_line index asked ≡ Some line → length (line_text line) ≤ answer_bytes
unfolding line_text
asked_fits index asked numbers line e =
    let lead : length (asked_lead line.asked) ≤ 24 = subst (λ a. length (asked_lead a) ≤ 24) (sym (line_about index asked line e)) (lead_fits asked numbers) in
    omega (arith, append_le (asked_lead line.asked) (verdict_fields line.verdict) 24 4102 lead (fields_fit line.verdict (asked_verdict_fits index asked line e)))

pub line_fits : (file : Text) (index : Index) (place : ℕ) (question : Question) → load file ≡ accepted index → slice_get index.questions place ≡ Some question
    → (number : ℕ) (line : Line) → slice_get (question_lines index question) number ≡ Some line → length (line_text line) ≤ answer_bytes
unfolding question_lines
line_fits file index place question loaded asked number line e =
    let formed = loaded_well_formed file index loaded in
    let (about, mem, h) = collected_from (asked_line index) (question_asked index question) number e in
    asked_fits index about (asked_numbers index formed question (formed.question_numbers place question asked) about mem) line h
