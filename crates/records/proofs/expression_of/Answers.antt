-- `records::expression_of` meets its contract: the first word picks the node. Assumes nothing.
use mathlib.Core.Path.{refl, ap, ap₂}
use Rattle.model.specs.Records.{Expression}
use Rattle.records.proofs.Congruence.{ap₃}
use Rattle.records.proofs.Options.{option_here, option_last, none_below}
use Rattle.records.specs.Layout.{expression_by, links_at}
use Rattle.records.proofs.expression_of.Goals as goal

pub returns-in-0 : goal.returns-in-0
unfolding expression_by
returns-in-0 c = λ file words. option_here 0 _ _ _ _ c.in-0.is (ap Expression.Literal (c.suffix_of.ensures file))

pub returns-in-1 : goal.returns-in-1
unfolding expression_by
returns-in-1 c = λ file words. option_here 1 _ _ _ _ c.in-1.is refl

pub returns-in-2 : goal.returns-in-2
unfolding expression_by
returns-in-2 c = λ file words. option_here 2 _ _ _ _ c.in-2.is (ap Expression.Identifier (c.name_of.ensures file))

pub returns-in-3 : goal.returns-in-3
unfolding expression_by
returns-in-3 c = λ file words. option_here 3 _ _ _ _ c.in-3.is (ap₂ Expression.Unary c.unary_op.ensures c.link.ensures)

pub returns-in-4 : goal.returns-in-4
unfolding expression_by
returns-in-4 c = λ file words. option_here 4 _ _ _ _ c.in-4.is (ap₃ Expression.Binary c.binary_op.ensures c.link-in-4.ensures c.link-in-4-2.ensures)

pub returns-in-5 : goal.returns-in-5
unfolding expression_by
returns-in-5 c = λ file words. option_here 5 _ _ _ _ c.in-5.is (ap₂ Expression.FunctionCall c.link-in-5.ensures (ap₂ (links_at words) c.items_of.ensures.starts c.items_of.ensures.counts))

pub returns-in-6 : goal.returns-in-6
unfolding expression_by
returns-in-6 c = λ file words. option_here 6 _ _ _ _ c.in-6.is (ap₂ Expression.MemberAccess c.link-in-6.ensures (c.name_of-in-6.ensures file))

pub returns-in-7 : goal.returns-in-7
unfolding expression_by
returns-in-7 c = λ file words. option_here 7 _ _ _ _ c.in-7.is (ap₂ Expression.IndexAccess c.link-in-7.ensures c.link-in-7-2.ensures)

pub returns-in-8 : goal.returns-in-8
unfolding expression_by
returns-in-8 c = λ file words. option_here 8 _ _ _ _ c.in-8.is (ap₃ Expression.StructLiteral (c.name_of-in-8.ensures file) refl refl)

pub returns-in-9 : goal.returns-in-9
unfolding expression_by
returns-in-9 c = λ file words. option_here 9 _ _ _ _ c.in-9.is (ap Expression.Tuple (ap₂ (links_at words) c.items_of-in-9.ensures.starts c.items_of-in-9.ensures.counts))

pub returns-in-10 : goal.returns-in-10
unfolding expression_by
returns-in-10 c = λ file words. option_here 10 _ _ _ _ c.in-10.is (ap₂ Expression.TupleIndex c.link-in-10.ensures refl)

pub returns-in-11 : goal.returns-in-11
unfolding expression_by
returns-in-11 c = λ file words. option_here 11 _ _ _ _ c.in-11.is (ap Expression.ArrayLiteral (ap₂ (links_at words) c.items_of-in-11.ensures.starts c.items_of-in-11.ensures.counts))

pub returns-in-12 : goal.returns-in-12
unfolding expression_by
returns-in-12 c = λ file words. option_here 12 _ _ _ _ c.in-12.is (ap₂ Expression.ArrayRepeat c.link-in-12.ensures c.size_of.ensures)

pub returns-in-13 : goal.returns-in-13
unfolding expression_by
returns-in-13 c = λ file words. option_here 13 _ _ _ _ c.in-13.is refl

pub returns-in-14 : goal.returns-in-14
unfolding expression_by
returns-in-14 c = λ file words. option_here 14 _ _ _ _ c.in-14.is (ap₂ Expression.New refl c.link-in-14.ensures)

pub returns-in_default : goal.returns-in_default
unfolding expression_by
returns-in_default c = λ file words. option_last _ _ _ _ (none_below 15 _ c.in_default.in_default-own.rest) (ap Expression.Parenthesized c.link-in_default.ensures)
