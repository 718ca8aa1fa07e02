-- How results are written as numbers, and a lookup in the module of a number. Definitions only.
use Rattle.std.specs.Prelude.{ℕ, ◌+◌, ◌≤◌, ◌<◌, ◌≡◌, List, length}
use Rattle.std.specs.Prelude.{Option, None, Some, option_map, Ok, Err}
use Rattle.model.specs.Common.{let_some}
use Rattle.model.specs.Records.{Module, Index}
use Rattle.model.specs.Lookups.{module_at}
use Rattle.model.specs.Limits.{record_words}
use Rattle.records.specs.Layout.{module_row}
use Rattle.refusals.specs.Numbers.{file_refusal_number}
use Rattle.loader.specs.Load.{Loaded, Short, Filled}

-- a link that may be absent: 0, or the number and 1
abbrev pub link_number : Option ℕ → ℕ
link_number None = 0
link_number (Some n) = n + 1

-- the module that a link leads to, of the index that the words hold
abbrev pub module_to : List ℕ → List ℕ → Option ℕ → Option Module
module_to file words = option_map (module_row file words)

-- what a lookup finds in the module of a number: none where the index has no such module
abbrev pub in_module : Index → ℕ → (Module → Option ℕ) → Option ℕ
in_module index m lookup = let_some (module_at index m) None lookup

-- 0 for an accepted file, else the refusal's number
abbrev pub loaded_number : Loaded → ℕ
loaded_number (Ok u) = 0
loaded_number (Err e) = file_refusal_number e.refusal

-- a number that stands for what `load` ends in, with all that `load` promises
pub record LoadNumber (file before after : List ℕ) (r : ℕ) : Type 0 where
  pub loaded : Loaded
  pub is : r ≡ loaded_number loaded
  pub short : length before < record_words → Short before after loaded
  pub full : record_words ≤ length before → Filled file before after loaded
