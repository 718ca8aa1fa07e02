-- The expression at a byte: what the choice comes to, in the words of the change request that sets it, and one turn of a run through the expressions that
-- keeps the best so far. Assumes nothing.
use Rattle.std.specs.Prelude.{ℕ, ◌≤◌, ◌≡◌, Bool, true, ◌&&◌, List, leb}
use Rattle.std.specs.Prelude.{Option, None, Some}
use Rattle.std.specs.Prelude.{slice_get}
use Rattle.std.specs.Prelude.{if◌then◌else◌}
use Rattle.model.specs.Common.{let_some}
use Rattle.model.specs.Records.{ExpressionInfo}
use Rattle.model.specs.Lookups.{covers, span}

-- ------------------------------------------------------------------ what is chosen

-- the expression of this number covers the byte; none that covers it is shorter, and none equally short has a higher number
pub record Shortest (expressions : List ExpressionInfo) (position number : ℕ) : Type 0 where
  pub expression : ExpressionInfo
  pub found : slice_get expressions number ≡ Some expression
  pub covering : covers position expression ≡ true
  pub none_shorter : (k : ℕ) (other : ExpressionInfo) → slice_get expressions k ≡ Some other → covers position other ≡ true → span expression ≤ span other
  pub none_higher : (k : ℕ) (other : ExpressionInfo) → slice_get expressions k ≡ Some other → covers position other ≡ true
      → span other ≡ span expression → k ≤ number

-- no expression covers the byte
abbrev pub NoneCovers : List ExpressionInfo → ℕ → Type 0
NoneCovers expressions position = (k : ℕ) (other : ExpressionInfo) → slice_get expressions k ≡ Some other → covers position other ≡ true → ⊥

-- the expression of this number is the one to choose, or there is none
abbrev pub Chosen : List ExpressionInfo → ℕ → Option ℕ → Type 0
Chosen expressions position None = NoneCovers expressions position
Chosen expressions position (Some number) = Shortest expressions position number

-- ------------------------------------------------------------------ by one run

-- the best so far: its number, and the length of its span
pub record Best : Type 0 where
  pub number : ℕ
  pub length : ℕ

-- whether an expression takes the place of the best so far: it covers the byte and is not longer
unfoldable pub better : ℕ → Option Best → ExpressionInfo → Bool
better position None expression = covers position expression
better position (Some best) expression = covers position expression && leb (span expression) best.length

-- one turn, at the expression of a number
unfoldable pub turn : ℕ → ℕ → Option Best → ExpressionInfo → Option Best
turn position number best expression =
    if better position best expression then Some (record { number = number; length = span expression }) else best

abbrev pub best_number : Option Best → Option ℕ
best_number best = let_some best None λ b. Some b.number
