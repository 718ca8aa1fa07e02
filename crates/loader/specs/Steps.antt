-- The lines one after the other: what holds of the words and the counts before each, and what a line does. Assumes nothing.
use Rattle.std.specs.Prelude.{Result, Ok, Err}
use Rattle.std.specs.Prelude.{ℕ, suc, ◌≤◌, ◌≡◌, List, Bool, true, false, not, ◌&&◌, length, drop}
use Rattle.model.specs.Common.{Text, first, is_none, eq_numbers}
use Rattle.model.specs.Limits.{scope_count, type_expr_count, definition_count, expression_count, item_count}
use Rattle.model.specs.Records.{Name, Index}
use Rattle.format.specs.declared.LineWord.{LineWord}
use Rattle.format.specs.FirstPass as pass
use Rattle.records.specs.Layout.{module_place, word, each, name_by, scope_rows, type_expr_rows, definition_rows, expression_rows, begin_of}
use Rattle.loader.specs.State.{index_so_far, seen_as, Left, Fine}
use Rattle.loader.specs.declared.rows.Counts.{Counts}
use Rattle.loader.specs.declared.lines.Next.{Next}
use Rattle.refusals.specs.declared.FileRefusal.{FileRefusal}
use Rattle.refusals.specs.Numbers.{file_refusal_number}

-- ------------------------------------------------------------------ module names

-- the name in module row m
abbrev pub name_at : Text → List ℕ → ℕ → Name
name_at file words m = name_by file (word words (module_place m))

-- one of the n modules before row n has its name
unfoldable pub again : Text → List ℕ → ℕ → Bool
again file words n = not (is_none (first (λ name. eq_numbers name (name_at file words n)) (each (name_at file words) 0 n)))

abbrev pub is_module : LineWord → Bool
is_module LineWord.M = true
is_module LineWord.S = false
is_module LineWord.T = false
is_module LineWord.D = false
is_module LineWord.E = false
is_module LineWord.Q = false

abbrev pub repeated : Text → List ℕ → LineWord → ℕ → Bool
repeated file words w n = is_module w && again file words n

abbrev pub may_stand : Text → List ℕ → LineWord → ℕ → ℕ → Bool
may_stand file words w stage n = pass.in_place w stage && not (repeated file words w n)

-- ------------------------------------------------------------------ what holds before each line

pub record Counted (n : Counts) (index : Index) : Type 0 where
  pub scopes : scope_count index ≡ n.scopes
  pub types : type_expr_count index ≡ n.types
  pub definitions : definition_count index ≡ n.definitions
  pub expressions : expression_count index ≡ n.expressions
  pub items : item_count index ≡ n.items

-- the rows of module m begin at rows that are counted
pub record BeginsWithin (words : List ℕ) (m : ℕ) (n : Counts) : Type 0 where
  pub scopes : begin_of words m scope_rows ≤ n.scopes
  pub types : begin_of words m type_expr_rows ≤ n.types
  pub definitions : begin_of words m definition_rows ≤ n.definitions
  pub expressions : begin_of words m expression_rows ≤ n.expressions

-- `steady`: a store that leaves the counted rows leaves the index so far
pub record Good (file words : List ℕ) (n : Counts) : Type 0 where
  pub fine : Fine file words n
  pub counted : (version : ℕ) → Counted n (index_so_far version file words n)
  pub begun : (m : ℕ) → n.modules ≡ suc m → BeginsWithin words m n
  pub staged : 1 ≤ n.stage → n.stage ≤ 5 → 1 ≤ n.modules
  pub steady : (version : ℕ) (words' : List ℕ) → Left n words words' → index_so_far version file words' n ≡ index_so_far version file words n

-- ------------------------------------------------------------------ a line

-- a refusal, or what is counted then and where the next line begins
abbrev pub step_is : ℕ → Text → List ℕ → Result Next FileRefusal → pass.Step
step_is version file words (Ok r) = pass.go (seen_as version file words r.counts) (drop r.at file)
step_is version file words (Err e) = pass.refuse (file_refusal_number e)

abbrev pub GoodAfter : List ℕ → List ℕ → Result Next FileRefusal → Type 0
GoodAfter file words (Ok r) = Good file words r.counts
GoodAfter file words (Err e) = Unit {0}

pub record Stepped (file words : List ℕ) (n : Counts) (t : Text) (words' : List ℕ) (r : Result Next FileRefusal) : Type 0 where
  pub is : (version : ℕ) → step_is version file words' r ≡ pass.step_on (seen_as version file words n) t
  pub good : GoodAfter file words' r
  pub long : length words' ≡ length words
