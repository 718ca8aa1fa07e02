-- All lines, and the words that end the index. Assumes nothing.
use Rattle.std.specs.Prelude.{ℕ, ◌≤◌, ◌≡◌, List, length, Result, Ok, Err}
use Rattle.model.specs.Common.{Text}
use Rattle.model.specs.Limits.{item_count}
use Rattle.format.specs.FirstPass as pass
use Rattle.format.specs.LinkCheck.{linked_lines}
use Rattle.records.specs.Layout.{word, index_of, module_count}
use Rattle.loader.specs.State.{Left, BeginsAt}
use Rattle.loader.specs.declared.rows.Counts.{Counts}
use Rattle.refusals.specs.declared.FileRefused.{FileRefused}
use Rattle.refusals.specs.Numbers.{file_refusal_number}

-- the header, and the row behind the last module's
pub record Finished (words : List ℕ) (n : Counts) (version : ℕ) (words' : List ℕ) : Type 0 where
  pub left : Left n words words'
  pub modules : word words' 0 ≡ n.modules
  pub questions : word words' 1 ≡ n.questions
  pub items : word words' 2 ≡ n.items
  pub version_put : word words' 3 ≡ version
  pub ends : BeginsAt words' n.modules n

-- the words hold the index that the lines give; there are no more lines than document 01 allows of all kinds together
pub record AllRead (file words : List ℕ) (version : ℕ) (t : Text) : Type 0 where
  pub is : pass.first_pass version t ≡ pass.read (index_of file words)
  pub few_modules : module_count words ≤ 8
  pub items : word words 2 ≡ item_count (index_of file words)
  pub few_lines : length (linked_lines (index_of file words)) ≤ 1672

abbrev pub FirstIs : List ℕ → List ℕ → ℕ → Text → Result (Unit {0}) FileRefused → Type 0
FirstIs file words version t (Ok u) = AllRead file words version t
FirstIs file words version t (Err e) = pass.first_pass version t ≡ pass.wrong (file_refusal_number e.refusal) e.line

pub record FirstPut (file words : List ℕ) (version : ℕ) (t : Text) (words' : List ℕ) (r : Result (Unit {0}) FileRefused) : Type 0 where
  pub long : length words' ≡ length words
  pub first : FirstIs file words' version t r
