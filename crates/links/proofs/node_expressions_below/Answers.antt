-- `links::node_expressions_below` meets its contract, kind by kind. Assumes nothing.
use Prim.Native.Nat.{ℕ}
use mathlib.Core.Bool.{Bool}
use mathlib.Core.List.{List}
use mathlib.Core.Path.{sym, ap, ◌∙◌}
use Rattle.model.specs.Links.{node_expressions}
use Rattle.format.specs.LinkCheck.{all_below}
use Rattle.records.specs.Meaning.{expression_of}
use Rattle.records.specs.declared.Expression.{Expression}
use Rattle.links.proofs.Below.{parts_stop, parts_go}
use Rattle.links.proofs.node_expressions_below.Goals as goal

abbrev test : ℕ → List ℕ → List ℕ → Expression → Bool
test n file words node = all_below n (node_expressions (expression_of file words node))

pub returns-else-link_below : goal.returns-else-link_below
unfolding node_expressions
returns-else-link_below c = λ file. parts_stop _ _ _ _ c.link_below-in-FunctionCall.ensures c.if-link_below.false ∙ ap (test _ file _) (sym c.in-FunctionCall.is)

pub returns-in-Literal : goal.returns-in-Literal
unfolding node_expressions all_below
returns-in-Literal c = λ file. ap (test _ file _) (sym c.in-Literal.is)

pub returns-in-BooleanLiteral : goal.returns-in-BooleanLiteral
unfolding node_expressions all_below
returns-in-BooleanLiteral c = λ file. ap (test _ file _) (sym c.in-BooleanLiteral.is)

pub returns-in-Identifier : goal.returns-in-Identifier
unfolding node_expressions all_below
returns-in-Identifier c = λ file. ap (test _ file _) (sym c.in-Identifier.is)

pub returns-in-Unary : goal.returns-in-Unary
unfolding node_expressions
returns-in-Unary c = λ file. c.link_below.ensures ∙ ap (test _ file _) (sym c.in-Unary.is)

pub returns-in-Binary : goal.returns-in-Binary
unfolding node_expressions
returns-in-Binary c = λ file. c.both_below.ensures ∙ ap (test _ file _) (sym c.in-Binary.is)

pub returns-then-link_below : goal.returns-then-link_below
unfolding node_expressions
returns-then-link_below c = λ file. parts_go _ _ _ _ c.link_below-in-FunctionCall.ensures _ c.if-link_below.true c.links_below.ensures ∙ ap (test _ file _) (sym c.in-FunctionCall.is)

pub returns-in-MemberAccess : goal.returns-in-MemberAccess
unfolding node_expressions
returns-in-MemberAccess c = λ file. c.link_below-in-MemberAccess.ensures ∙ ap (test _ file _) (sym c.in-MemberAccess.is)

pub returns-in-IndexAccess : goal.returns-in-IndexAccess
unfolding node_expressions
returns-in-IndexAccess c = λ file. c.both_below-in-IndexAccess.ensures ∙ ap (test _ file _) (sym c.in-IndexAccess.is)

pub returns-in-StructLiteral : goal.returns-in-StructLiteral
unfolding node_expressions all_below
returns-in-StructLiteral c = λ file. ap (test _ file _) (sym c.in-StructLiteral.is)

pub returns-in-Tuple : goal.returns-in-Tuple
unfolding node_expressions
returns-in-Tuple c = λ file. c.links_below-in-Tuple.ensures ∙ ap (test _ file _) (sym c.in-Tuple.is)

pub returns-in-TupleIndex : goal.returns-in-TupleIndex
unfolding node_expressions
returns-in-TupleIndex c = λ file. c.link_below-in-TupleIndex.ensures ∙ ap (test _ file _) (sym c.in-TupleIndex.is)

pub returns-in-ArrayLiteral : goal.returns-in-ArrayLiteral
unfolding node_expressions
returns-in-ArrayLiteral c = λ file. c.links_below-in-ArrayLiteral.ensures ∙ ap (test _ file _) (sym c.in-ArrayLiteral.is)

pub returns-in-ArrayRepeat : goal.returns-in-ArrayRepeat
unfolding node_expressions
returns-in-ArrayRepeat c = λ file. c.link_below-in-ArrayRepeat.ensures ∙ ap (test _ file _) (sym c.in-ArrayRepeat.is)

pub returns-in-Cast : goal.returns-in-Cast
unfolding node_expressions all_below
returns-in-Cast c = λ file. ap (test _ file _) (sym c.in-Cast.is)

pub returns-in-New : goal.returns-in-New
unfolding node_expressions
returns-in-New c = λ file. c.link_below-in-New.ensures ∙ ap (test _ file _) (sym c.in-New.is)

pub returns-in-Parenthesized : goal.returns-in-Parenthesized
unfolding node_expressions
returns-in-Parenthesized c = λ file. c.link_below-in-Parenthesized.ensures ∙ ap (test _ file _) (sym c.in-Parenthesized.is)
