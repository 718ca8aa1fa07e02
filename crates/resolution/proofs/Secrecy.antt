-- Demand 3: a line about the outside of a function's body is the same in two indexes that agree outside it. Assumes nothing.
use Prim.Native.Nat.{ℕ, zero, suc}
use mathlib.Core.Path.{◌≡◌, refl, sym, ◌∙◌, ap}
use mathlib.Core.Bool.{true, false}
use mathlib.Core.List.{List, [], ◌∷◌, Memᴰ}
use Rattle.std.specs.Prelude.{Option, None, Some}
use Rattle.std.specs.Prelude.{slice_get}
use Rattle.model.specs.Common.{Text, let_some}
use Rattle.model.specs.Records.{Question, Index}
use Rattle.model.specs.Limits.{max_open_demands}
use Rattle.model.specs.Refusals.{refusal_link}
use Rattle.model.proofs.Collected.{collected_from, collected_there}
use Rattle.format.specs.Load.{accepted, load}
use Rattle.format.proofs.Loaded.{loaded_well_formed}
use Rattle.resolution.specs.Types.{Table, first_table}
use Rattle.resolution.specs.Asked.{Asked, question_asked}
use Rattle.resolution.specs.Programs.{Demand}
use Rattle.resolution.specs.Run.{refused, is_open, demand, resolve_asked}
use Rattle.resolution.specs.Answer.{outcome_verdict, verdict, Line, asked_line, question_lines}
use Rattle.resolution.specs.Inside.{Body}
use Rattle.resolution.specs.Resolve.{Reply, line_at, ask_loaded, answer}
use Rattle.resolution.specs.Secrecy.{BodiesAreHidden, DemandThree}
use Rattle.resolution.proofs.SameLookups.{Hidden}
use Rattle.resolution.proofs.Found.{run_same}
use Rattle.resolution.proofs.SamePrograms.{OutsideDemand, program_same, asked_same}
use Rattle.resolution.proofs.AskedLaws.{line_about, has_line, asked_among, numbered_same}

module _ (A B : Index) (a b : Body) (q : Asked) (hidden : Hidden A B a b q) where
  -- by induction on the free places
  demand_same : (free : ℕ) (open_demands : List Demand) (d : Demand) → OutsideDemand A B a b q hidden d → (table : Table)
      → demand free A open_demands d table ≡ demand free B open_demands d table
  unfolding demand
  demand_same zero open_demands d outside table = refl
  demand_same (suc free) open_demands d outside table =
      λ i.
      elim (is_open open_demands d) [
        | true ↦ refused 7
        | false ↦
            run_same (λ d'. demand free A (d ∷ open_demands) d') (λ d'. demand free B (d ∷ open_demands) d')
            (λ d' outside' rest. demand_same free (d ∷ open_demands) d' outside' rest)
            (program_same A B a b q hidden d outside)
            table
            i
      ]

  resolve_same : resolve_asked A q ≡ resolve_asked B q
  unfolding resolve_asked
  resolve_same =
      run_same (demand max_open_demands A []) (demand max_open_demands B [])
      (λ d outside table. demand_same max_open_demands [] d outside table)
      (asked_same A B a b q hidden q refl hidden.supposed.first_about hidden.supposed.second_about)
      first_table

  line_same : asked_line A q ≡ asked_line B q
  unfolding asked_line verdict
  line_same = ap (λ o. let_some (outcome_verdict o) None (λ v. Some (record { asked = q; verdict = v }))) resolve_same

-- ------------------------------------------------------------------ files

-- the reply for a line of an accepted file's question
pub question_answered : (file : Text) (place : ℕ) (index : Index) (question : Question) → load file ≡ accepted index → slice_get index.questions place ≡ Some question
    → (number : ℕ) → answer file place number ≡ line_at (question_lines index question) number
unfolding answer ask_loaded
question_answered file place index question loaded asked number =
    ap (λ loading. ask_loaded loading place number) loaded
    ∙ ap (λ o. let_some o (Reply.file_refused refusal_link 0) (λ q. line_at (question_lines index q) number)) asked

-- a reply that is a line is the line of that number
pub reply_line : (lines : List Line) (number : ℕ) (line : Line) → line_at lines number ≡ Reply.the_line line → slice_get lines number ≡ Some line
unfolding line_at
reply_line lines number line e = go (slice_get lines number) e
  where
    line_in : Reply → Option Line
    line_in (Reply.the_line l) = Some l
    line_in Reply.past_last = None
    line_in (Reply.file_refused n at) = None

    go : (o : Option Line) → let_some o Reply.past_last Reply.the_line ≡ Reply.the_line line → o ≡ Some line
    go None h = ap line_in h
    go (Some l) h = ap line_in h

line_reply : (lines : List Line) (number : ℕ) (line : Line) → slice_get lines number ≡ Some line → line_at lines number ≡ Reply.the_line line
unfolding line_at
line_reply lines number line e = ap (λ o. let_some o Reply.past_last Reply.the_line) e

-- a line of one index's question is a line of the other's
line_over : (A B : Index) (asked : Asked) (question : Question) → asked_line A asked ≡ asked_line B asked → Memᴰ asked (question_asked B question)
    → (number : ℕ) (line : Line) → slice_get (question_lines A question) number ≡ Some line → line.asked ≡ asked
    → (other : ℕ) × (slice_get (question_lines B question) other ≡ Some line)
unfolding question_lines
line_over A B asked question same mem number line e about =
    let (x, mem', h) = collected_from (asked_line A) (question_asked A question) number e in
    let is : asked_line A asked ≡ Some line = ap (asked_line A) (sym about ∙ line_about A x line h) ∙ h in
    collected_there (asked_line B) (question_asked B question) mem (sym same ∙ is)

-- the stronger form, without a premise on `bin` and `lit`
pub bodies_are_hidden : BodiesAreHidden
unfolding line_at question_lines
bodies_are_hidden first_file second_file first_place second_place question asked files =
    let first = files.first in
    let second = files.second in
    let hidden : Hidden first second files.first_body files.second_body asked =
    record {
      supposed = files.supposed;
      first_formed = loaded_well_formed first_file first files.first_loaded;
      second_formed = loaded_well_formed second_file second files.second_loaded;
    } in
    let first_answer = question_answered first_file first_place first question files.first_loaded files.first_asked in
    let second_answer = question_answered second_file second_place second question files.second_loaded files.second_asked in
    let same : asked_line first asked ≡ asked_line second asked = line_same first second files.first_body files.second_body asked hidden in
    record {
      there =
          λ has.
          let (line, is) = has_line first asked has in
          let (number, found) = collected_there (asked_line first) (question_asked first question)
          (asked_among first files.first_body question asked files.asks files.supposed.first_about) is in
          record {
            number = number;
            line = line;
            is = first_answer number ∙ line_reply (question_lines first question) number line found;
            about = line_about first asked line is;
          };
      to_second =
          λ number line e about.
          let (other, found) = line_over first second asked question same
          (asked_among second files.second_body question asked files.asks files.supposed.second_about) number line
          (reply_line (question_lines first question) number line (sym (first_answer number) ∙ e)) about in
          (other, second_answer other ∙ line_reply (question_lines second question) other line found);
      to_first =
          λ number line e about.
          let (other, found) = line_over second first asked question (sym same)
          (asked_among first files.first_body question asked files.asks files.supposed.first_about) number line
          (reply_line (question_lines second question) number line (sym (second_answer number) ∙ e)) about in
          (other, first_answer other ∙ line_reply (question_lines first question) other line found);
      same_reply =
          λ number is.
          first_answer number
          ∙ ap (λ o. let_some o Reply.past_last Reply.the_line) (numbered_same first second asked same question files.asks number is)
          ∙ sym (second_answer number);
    }

-- demand 3 as document 01 words it
pub demand_three : DemandThree
demand_three first_file second_file first_place second_place question asked worded =
    bodies_are_hidden first_file second_file first_place second_place question asked worded.files
