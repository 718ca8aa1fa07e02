-- `records::type_expr_of` meets its contract: the first word picks the form. Assumes nothing.
use mathlib.Core.Path.{refl, ap, ap₂}
use Rattle.model.specs.Records.{TypeExpr}
use Rattle.records.proofs.Options.{option_here, option_last, none_below}
use Rattle.records.specs.Layout.{type_expr_by, numbers_at}
use Rattle.records.proofs.type_expr_of.Goals as goal

pub returns-in-0 : goal.returns-in-0
unfolding type_expr_by
returns-in-0 c = λ file words. option_here 0 _ _ _ _ c.in-0.is refl

pub returns-in-1 : goal.returns-in-1
unfolding type_expr_by
returns-in-1 c = λ file words. option_here 1 _ _ _ _ c.in-1.is refl

pub returns-in-2 : goal.returns-in-2
unfolding type_expr_by
returns-in-2 c = λ file words. option_here 2 _ _ _ _ c.in-2.is refl

pub returns-in-3 : goal.returns-in-3
unfolding type_expr_by
returns-in-3 c = λ file words. option_here 3 _ _ _ _ c.in-3.is (ap TypeExpr.Custom (c.name_of.ensures file))

pub returns-in-4 : goal.returns-in-4
unfolding type_expr_by
returns-in-4 c = λ file words. option_here 4 _ _ _ _ c.in-4.is refl

pub returns-in-5 : goal.returns-in-5
unfolding type_expr_by
returns-in-5 c = λ file words. option_here 5 _ _ _ _ c.in-5.is (ap TypeExpr.Tuple (ap₂ (numbers_at words) c.items_of.ensures.starts c.items_of.ensures.counts))

pub returns-in_default : goal.returns-in_default
unfolding type_expr_by
returns-in_default c = λ file words. option_last _ _ _ _ (none_below 6 _ c.in_default.in_default-own.rest) (ap₂ TypeExpr.FixedArray refl c.size_of.ensures)
