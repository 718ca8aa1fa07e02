-- The nodes that name no T, by their numbers. Assumes nothing.
use mathlib.Core.Path.{◌≡◌, refl}
use mathlib.Core.Bool.{true}
use Prim.Native.Nat.{ℕ}
use mathlib.Core.List.{List, [], ◌∷◌}
use types.Run.{miss}
use borrow.Enum.Refused.{Among, opened}
use denote.Enum.Declared.{tag_of}
use Rattle.model.specs.Links.{node_types}
use Rattle.format.specs.LinkCheck.{all_below}
use Rattle.records.specs.Meaning.{expression_of}
use Rattle.records.specs.declared.Expression.{Expression}
use Rattle.records.specs.contracts.Expression.{the_type}

abbrev without_types : List ℕ
without_types = 0 ∷ 1 ∷ 2 ∷ 3 ∷ 4 ∷ 5 ∷ 6 ∷ 7 ∷ 8 ∷ 9 ∷ 10 ∷ 11 ∷ 12 ∷ 15 ∷ []

pub no_types : (n : ℕ) (file words : List ℕ) (node : Expression) → Among without_types (tag_of the_type node) → true ≡ all_below n (node_types (expression_of file words node))
unfolding node_types all_below
no_types n file words (Expression.Literal s) h = refl
no_types n file words Expression.BooleanLiteral h = refl
no_types n file words (Expression.Identifier i) h = refl
no_types n file words (Expression.Unary op e) h = refl
no_types n file words (Expression.Binary op a b) h = refl
no_types n file words (Expression.FunctionCall e l) h = refl
no_types n file words (Expression.MemberAccess e i) h = refl
no_types n file words (Expression.IndexAccess a b) h = refl
no_types n file words (Expression.StructLiteral i span) h = refl
no_types n file words (Expression.Tuple l) h = refl
no_types n file words (Expression.TupleIndex e i) h = refl
no_types n file words (Expression.ArrayLiteral l) h = refl
no_types n file words (Expression.ArrayRepeat e size) h = refl
no_types n file words (Expression.Cast t) h = absurd (miss without_types 13 tt (opened h))
no_types n file words (Expression.New t e) h = absurd (miss without_types 14 tt (opened h))
no_types n file words (Expression.Parenthesized e) h = refl
