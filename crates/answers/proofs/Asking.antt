-- One question: it starts ready, its outcome is the definition's, and the type words and open demands behind it. Assumes nothing.
use Prim.Native.Nat.{ℕ, zero, suc, ◌≤◌, ◌<◌, min}
use mathlib.Core.Path.{◌≡◌, refl, sym, ap, ap₂, subst, ◌∙◌}
use mathlib.Core.Bool.{true, false≢true}
use mathlib.Core.List.{List, [], ◌∷◌, ◌++◌, append-nil}
use Rattle.std.specs.Prelude.{Option, None, Some, Result, Ok, Err, is_err}
use native.Mathlib.Nat.{zero-add}
use native.Mathlib.Omega.{arith}
use Rattle.std.specs.Prelude.{slice_get}
use lib.ListN.{length, replicate, drop_of_length-le}
use Rattle.refusals.specs.Numbers.{refusal_number}
use Rattle.refusals.specs.declared.Refusal.{Refusal}
use Rattle.model.specs.Common.{Text}
use Rattle.model.specs.Records.{Question, Index}
use Rattle.model.specs.Limits.{max_open_demands}
use Rattle.format.proofs.Loaded.{loaded_well_formed}
use Rattle.records.specs.Layout.{index_of, question_row, question_count}
use Rattle.records.proofs.Lists.{each_at, each_length}
use Rattle.resolution.specs.Asked.{Asked, question_asked}
use Rattle.resolution.specs.Programs.{Said}
use Rattle.resolution.specs.TypeResolution.{none_word, none_said, asked_program}
use Rattle.resolution.specs.Run.{answered, run, demand, resolve_asked}
use Rattle.resolution.specs.Answer.{type_text, Verdict, text_verdict, said_verdict, outcome_verdict, verdict, asked_lead, line_text}
use Rattle.resolution.specs.TableOk.{TableOk}
use Rattle.resolution.proofs.Tables.{first_table_ok}
use Rattle.type_table.specs.Layout.{table_of}
use Rattle.type_table.specs.Promises.{Starts, cleared as cleared_types}
use Rattle.demands.specs.Meaning.{open_demands, cleared, cleared_places, zero_place}
use Rattle.type_resolution.specs.State.{Ready, Runs, answer_by}
use Rattle.type_resolution.specs.Asking.{says}
use Rattle.views.specs.Asking.{asked_of}
use Rattle.views.specs.declared.Asked as code
use Rattle.line_text.specs.Lines.{Answering, line_with}
use Rattle.answers.specs.Steps.{Loaded, StepIs, zero_types, zero_places, TypesKept, SaidAnswered, TypesHold, TypesAre, AskedAnswered, TypesAfter, LineThere, Stepped}
use Rattle.line_text.specs.declared.LineError.{LineError}
use Rattle.answers.specs.declared.Step.{Step}
use Rattle.answers.proofs.AskedLines.{line_there, past_line}

-- ------------------------------------------------------------------ zeros

pub types_zero : (w : List ℕ) → length w ≡ 8192 → cleared_types w ≡ zero_types
unfolding cleared_types
types_zero w long = ap₂ (λ n l. replicate n 0 ++ l) (ap (min 8192) long) (drop_of_length-le w {i = 8192} (omega arith)) ∙ append-nil (replicate 8192 0)

-- a line that isn't written leaves zeros
pub kept_at_err : (types : List ℕ) (types' : List ℕ) (r : Result ℕ LineError) → is_err r ≡ true → types' ≡ zero_types → TypesKept types types' r
kept_at_err types types' (Ok n) e z = absurd (false≢true e)
kept_at_err types types' (Err error) e z = z

zeros : (n : ℕ) (places : List (List ℕ)) → length places ≡ n → cleared n places ≡ replicate n zero_place
unfolding cleared
zeros zero [] e = refl
zeros zero (place ∷ places) e = absurd (omega arith)
zeros (suc n) [] e = absurd (omega arith)
zeros (suc n) (place ∷ places) e = ap (λ l. zero_place ∷ l) (zeros n places (omega arith))

pub places_zero : (places : List (List ℕ)) → length places ≡ max_open_demands → cleared_places places ≡ zero_places
places_zero places long = zeros max_open_demands places long

-- ------------------------------------------------------------------ resolving

module _ (file words types started : List ℕ) (demands : List (List ℕ)) (loaded : Loaded file words types demands) (starts : Starts types started) where
  long : 8192 ≤ length types
  long = omega (arith, loaded.exact.types_long)

  pub starts_ready : Ready file words 0 started demands
  starts_ready =
      record {
        few = (loaded_well_formed file (index_of file words) loaded.is).limits.items;
        sound = starts.sound long file;
        ok = subst TableOk (sym (starts.table long file)) first_table_ok;
        places = omega (arith, loaded.exact.places_long);
        below = omega arith;
      }

  module _ (asked : code.Asked) (types' : List ℕ) (demands' : List (List ℕ)) (r : Result (Option ℕ) Refusal)
      (runs : Runs says file words (asked_program (index_of file words) (asked_of asked)) 0 started demands types' demands' r) where
    abbrev about : Asked
    about = asked_of asked

    outcome : says r (table_of file types') ≡ resolve_asked (index_of file words) about
    unfolding resolve_asked open_demands
    outcome =
        runs.outcome ∙ ap (λ table. run (demand max_open_demands (index_of file words) []) (asked_program (index_of file words) about) table) (starts.table long file)

    -- a refusal is the definition's
    pub refused_as : (refusal : Refusal) → r ≡ Err refusal → verdict (index_of file words) about ≡ Some (Verdict.refused (refusal_number refusal))
    unfolding verdict outcome_verdict answer_by
    refused_as refusal e = ap outcome_verdict (sym outcome ∙ ap (λ x. says x (table_of file types')) e)

    -- what is said otherwise, with the verdict of it
    module _ (said : Said) (is : says r (table_of file types') ≡ answered said (table_of file types')) (v : Verdict) (is_verdict : said_verdict (table_of file types') said ≡ Some v) where
      answered_as : resolve_asked (index_of file words) about ≡ answered said (table_of file types')
      answered_as = sym outcome ∙ is

      verdict_as : verdict (index_of file words) about ≡ Some v
      unfolding verdict outcome_verdict
      verdict_as = ap outcome_verdict answered_as ∙ is_verdict

      types_left : (last : List ℕ) (a : Result ℕ LineError) → TypesKept types' last a → TypesAre file (index_of file words) about last a
      types_left last (Ok n) kept = record { said = said; is = answered_as ∙ ap (λ w. answered said (table_of file w)) (sym kept) }
      types_left last (Err error) kept = kept

      -- its line, or none, is the line about it
      said_answer : (out last out' : List ℕ) (last_demands : List (List ℕ)) (a : Result ℕ LineError) → last_demands ≡ zero_places
          → SaidAnswered (asked_lead about) v types' out last out' a
          → AskedAnswered file (index_of file words) about out last last_demands out' a
      said_answer out last out' last_demands a none_open all =
          record { v = v; has = verdict_as; is = all.is; types_are = types_left last a all.types_are; demands_are = none_open }

    module _ (out last out' : List ℕ) (last_demands : List (List ℕ)) (a : Result ℕ LineError) (none_open : last_demands ≡ zero_places) where
      pub typed_answer : (t : ℕ) → r ≡ Ok (Some t)
          → SaidAnswered (asked_lead about) (text_verdict (type_text (table_of file types') t)) types' out last out' a
          → AskedAnswered file (index_of file words) about out last last_demands out' a
      unfolding answer_by said_verdict
      typed_answer t e all =
          said_answer (Said.type t) (ap (λ x. says x (table_of file types')) e) (text_verdict (type_text (table_of file types') t)) refl out last out' last_demands a none_open all

      pub none_answer : r ≡ Ok None
          → SaidAnswered (asked_lead about) (Verdict.worded none_word) types' out last out' a
          → AskedAnswered file (index_of file words) about out last last_demands out' a
      unfolding answer_by said_verdict
      none_answer e all =
          said_answer none_said (ap (λ x. says x (table_of file types')) e) (Verdict.worded none_word) refl out last out' last_demands a none_open all

-- ------------------------------------------------------------------ a question by its number

pub row_asked : (file words : List ℕ) (number : ℕ) (question : Question) → question ≡ question_row words number
    → number < length (index_of file words).questions → slice_get (index_of file words).questions number ≡ Some question
unfolding index_of
row_asked file words number question same below =
    each_at (question_row words) 0 (question_count words) number (omega (arith, each_length (question_row words) 0 (question_count words)))
    ∙ ap (λ k. Some (question_row words k)) (zero-add number)
    ∙ ap Some (sym same)

-- ------------------------------------------------------------------ a line by its number

-- a line that is no refusal leaves its types
pub types_after : (file : Text) (index : Index) (asked : Asked) (types : List ℕ) (v : Verdict) → Answering v → TypesHold file index asked types → TypesAfter file index asked types v
types_after file index asked types (Verdict.typed text) answering hold = hold
types_after file index asked types (Verdict.worded word) answering hold = hold
types_after file index asked types (Verdict.refused number) answering hold = absurd answering

module _ (file : Text) (index : Index) (number : ℕ) (question : Question) (has_question : slice_get index.questions number ≡ Some question) (line_number : ℕ)
    (before_types : List ℕ) (before_demands : List (List ℕ)) (out : List ℕ) where
  pub past_step : None ≡ slice_get (question_asked index question) line_number
      → Stepped file index number line_number before_types before_demands out before_types before_demands out Step.PastLast
  past_step is =
      record { question = question; has_question = has_question; is_past = past_line index question line_number (sym is); types_same = refl; demands_same = refl; out_same = refl }

  module _ (about : Asked) (asks : Some about ≡ slice_get (question_asked index question) line_number) (types : List ℕ) (demands : List (List ℕ)) (out' : List ℕ) where
    abbrev pub the_line : (v : Verdict) → verdict index about ≡ Some v → LineThere index number line_number
    the_line v has =
        record { question = question; has_question = has_question; line = record { asked = about; verdict = v }; is_line = line_there index question about v line_number (sym asks) has }

    pub typed_step : (n : ℕ) → AskedAnswered file index about out types demands out' (Ok n)
        → Stepped file index number line_number before_types before_demands out types demands out' (Step.Line n)
    unfolding line_text
    typed_step n all =
        record {
          after =
              record {
                there = the_line all.v all.has;
                types_are = types_after file index about types all.v all.is.answering all.types_are;
                demands_are = all.demands_are;
              };
          put = all.is.put;
        }

    pub no_room_step : AskedAnswered file index about out types demands out' (Err LineError.NoRoom)
        → Stepped file index number line_number before_types before_demands out types demands out' Step.NoRoom
    unfolding line_text
    no_room_step all = record { there = the_line all.v all.has; not_put = all.is; types_are = all.types_are; demands_are = all.demands_are }

    pub refused_step : (refusal : Refusal) → AskedAnswered file index about out types demands out' (Err (LineError.Refused refusal))
        → (last : List ℕ) (r : Step) → StepIs (line_with (asked_lead about) (Verdict.refused (refusal_number refusal))) out' last r
        → Stepped file index number line_number before_types before_demands out types demands last r
    unfolding line_text
    refused_step refusal all last r put = at r (subst (λ o. StepIs (line_with (asked_lead about) (Verdict.refused (refusal_number refusal))) o last r) all.is.same put)
      where
        has : verdict index about ≡ Some (Verdict.refused (refusal_number refusal))
        has = all.has ∙ ap Some all.is.is

        at : (r : Step) → StepIs (line_with (asked_lead about) (Verdict.refused (refusal_number refusal))) out last r
            → Stepped file index number line_number before_types before_demands out types demands last r
        at (Step.Line n) put =
            record {
              after = record { there = the_line (Verdict.refused (refusal_number refusal)) has; types_are = all.types_are; demands_are = all.demands_are };
              put = put;
            }
        at Step.NoRoom put = record { there = the_line (Verdict.refused (refusal_number refusal)) has; not_put = put; types_are = all.types_are; demands_are = all.demands_are }
        at Step.PastLast put = absurd put
