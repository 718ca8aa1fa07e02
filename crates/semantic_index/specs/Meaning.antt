-- What the answers of this crate mean. Definitions only.
use Rattle.std.specs.Prelude.{◌≡◌, ℕ, List, Option, option_map}
use Rattle.model.specs.Common.{first_some}
use Rattle.model.specs.Lookups.{scope_chain}
use Rattle.model.specs.AtPosition as model
use Rattle.records.specs.Layout.{module_row}
use Rattle.records.specs.Meaning.{definition_link_of}
use Rattle.records.specs.declared.FileScopeId.{FileScopeId}
use Rattle.records.specs.declared.DefinitionIndex.{DefinitionIndex}
use Rattle.semantic_index.specs.declared.Best.{Best}

-- an expression's number and the length of its span
abbrev pub best_of : Option Best → Option model.Best
best_of = option_map (λ best. record { number = best.number; length = best.length })

-- calls that answer like this compute the function of a scope's number
abbrev pub Finds : (FileScopeId → Option DefinitionIndex → Type 0) → (ℕ → Option ℕ) → Type 0
Finds answers find = (at : FileScopeId) (found : Option DefinitionIndex) → answers at found → definition_link_of found ≡ find at.0

-- what calls that answer like this find first along a scope's chain, whichever function of a scope's number they compute
pub record FirstInChain (answers : FileScopeId → Option DefinitionIndex → Type 0) (words : List ℕ) (m : ℕ) (s : FileScopeId)
    (r : Option DefinitionIndex) : Type 0 where
  pub first : (file : List ℕ) (find : ℕ → Option ℕ) → Finds answers find
      → definition_link_of r ≡ first_some find (scope_chain (module_row file words m) s.0)
