-- `records::origin_of` meets its contract: the first word picks the origin. Assumes nothing.
use mathlib.Core.Path.{refl, ap₂}
use Rattle.model.specs.Records.{Origin}
use Rattle.records.proofs.Options.{option_here, option_last, none_below}
use Rattle.records.specs.Layout.{origin_by}
use Rattle.records.proofs.origin_of.Goals as goal

pub returns-in-0 : goal.returns-in-0
unfolding origin_by
returns-in-0 c = λ file. option_here 0 _ _ _ _ c.in-0.is refl

pub returns-in-1 : goal.returns-in-1
unfolding origin_by
returns-in-1 c = λ file. option_here 1 _ _ _ _ c.in-1.is (ap₂ Origin.StructField refl (c.name_of.ensures file))

pub returns-in-2 : goal.returns-in-2
unfolding origin_by
returns-in-2 c = λ file. option_here 2 _ _ _ _ c.in-2.is refl

pub returns-in-3 : goal.returns-in-3
unfolding origin_by
returns-in-3 c = λ file. option_here 3 _ _ _ _ c.in-3.is refl

pub returns-in-4 : goal.returns-in-4
unfolding origin_by
returns-in-4 c = λ file. option_here 4 _ _ _ _ c.in-4.is refl

pub returns-in_default : goal.returns-in_default
unfolding origin_by
returns-in_default c = λ file. option_last _ _ _ _ (none_below 5 _ c.in_default.in_default-own.rest) refl
