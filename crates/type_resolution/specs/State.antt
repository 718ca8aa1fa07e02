-- What every function of the cycle asks, and the one form of promise that each has: its result with the words at exit is what its program
-- gives at the words at entry. Assumes nothing: these are definitions.
use Rattle.std.specs.Prelude.{◌≡◌, ℕ, ◌-◌, ◌≤◌, Bool, List, length, take, drop, Option, Result, Ok, Err}
use Rattle.model.specs.Limits.{item_count, max_items}
use Rattle.records.specs.Layout.{index_of}
use Rattle.resolution.specs.Types.{Table}
use Rattle.resolution.specs.Programs.{Program}
use Rattle.resolution.specs.Run.{Outcome, answered, refused, run, demand}
use Rattle.resolution.specs.TableOk.{TableOk}
use Rattle.type_table.specs.Layout.{table_of, Sound}
use Rattle.type_table.specs.Promises.{Grows}
use Rattle.demands.specs.Meaning.{open_demands}
use Rattle.refusals.specs.Numbers.{refusal_number}
use Rattle.refusals.specs.declared.Refusal.{Refusal}
use Rattle.records.specs.declared.Index.{Index}

-- the records are within their limit of items, the words of the types hold a table as interning leaves it, and there are 256 places for open
-- demands, of which `depth` are taken
pub record Ready (file words : List ℕ) (depth : ℕ) (types : List ℕ) (demands : List (List ℕ)) : Type 0 where
  pub few : item_count (index_of file words) ≤ max_items
  pub sound : Sound file types
  pub ok : TableOk (table_of file types)
  pub places : 256 ≤ length demands
  pub below : depth ≤ 256

-- ------------------------------------------------------------------ what a result means, with the table behind it

-- the answer through f, or the refusal's number
unfoldable pub answer_by : {A B : Type 0} → (A → B) → Result A Refusal → Table → Outcome B
answer_by f (Ok x) table = answered (f x) table
answer_by f (Err refusal) table = refused (refusal_number refusal)

-- the number of a type
abbrev pub typed : Result ℕ Refusal → Table → Outcome ℕ
typed = answer_by (λ t. t)

-- the number of a type, or none
abbrev pub linked : Result (Option ℕ) Refusal → Table → Outcome (Option ℕ)
linked = answer_by (λ t. t)

-- nothing but whether it was refused
abbrev pub ignored : Result (Unit {0}) Refusal → Table → Outcome (Unit {0})
ignored = answer_by (λ x. x)

-- the types at the start of the buffer that was lent for them
abbrev pub collected : List ℕ → Result ℕ Refusal → Table → Outcome (List ℕ)
collected out = answer_by (λ n. take n out)

-- how many were collected: one for each of a list, or at most so many
pub record Exactly (count : ℕ) (r : Result ℕ Refusal) : Type 0 where
  pub number : (n : ℕ) → r ≡ Ok n → n ≡ count

pub record AtMost (count : ℕ) (r : Result ℕ Refusal) : Type 0 where
  pub number : (n : ℕ) → r ≡ Ok n → n ≤ count

-- whether all elements fit
abbrev pub compared : Result Bool Refusal → Table → Outcome Bool
compared = answer_by (λ b. b)

-- ------------------------------------------------------------------ the promise

-- the program, with `depth` demands open, gives the result; the state is ready for the next call, the open demands are as they were, and so is
-- what lies past the 256th place; the types that were there are still there, and so is what lies past the table (`Grows`)
pub record Runs {A R : Type 0} (meaning : R → Table → Outcome A) (file words : List ℕ) (p : Program A) (depth : ℕ) (types : List ℕ)
    (demands : List (List ℕ)) (types' : List ℕ) (demands' : List (List ℕ)) (r : R) : Type 0 where
  pub outcome : meaning r (table_of file types')
      ≡ run (demand (256 - depth) (index_of file words) (open_demands depth demands)) p (table_of file types)
  pub ready : Ready file words depth types' demands'
  pub kept : open_demands depth demands' ≡ open_demands depth demands
  pub rest : drop 256 demands' ≡ drop 256 demands
  pub grows : Grows types types'

-- ------------------------------------------------------------------ the same of an index

abbrev pub ReadyIn : Index → ℕ → List ℕ → List (List ℕ) → Type 0
ReadyIn index = Ready index.file.now index.words.now

abbrev pub RunsIn : {A R : Type 0} → (R → Table → Outcome A) → Index → Program A → ℕ → List ℕ → List (List ℕ) → List ℕ → List (List ℕ) → R → Type 0
RunsIn meaning index = Runs meaning index.file.now index.words.now
