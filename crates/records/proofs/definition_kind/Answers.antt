-- `records::definition_kind` meets its contract: the first word picks the kind. Assumes nothing.
use mathlib.Core.Path.{refl, ap, ap₂}
use Rattle.model.specs.Records.{DefinitionKind}
use Rattle.records.proofs.Congruence.{ap₄}
use Rattle.records.proofs.Options.{option_here, option_last, none_below}
use Rattle.records.specs.Layout.{definition_kind_by, numbers_at, names_with_types_at}
use Rattle.records.proofs.definition_kind.Goals as goal

pub returns-in-0 : goal.returns-in-0
unfolding definition_kind_by
returns-in-0 c = λ file words. option_here 0 _ _ _ _ c.in-0.is (ap₂ DefinitionKind.Function refl (ap₂ (names_with_types_at file words) c.items_of.ensures.starts c.items_of.ensures.counts))

pub returns-in-1 : goal.returns-in-1
unfolding definition_kind_by
returns-in-1 c = λ file words. option_here 1 _ _ _ _ c.in-1.is (ap DefinitionKind.Struct (ap₂ (names_with_types_at file words) c.items_of-in-1.ensures.starts c.items_of-in-1.ensures.counts))

pub returns-in-2 : goal.returns-in-2
unfolding definition_kind_by
returns-in-2 c = λ file words. option_here 2 _ _ _ _ c.in-2.is (ap₂ DefinitionKind.Const c.link.ensures c.link-in-2.ensures)

pub returns-in-3 : goal.returns-in-3
unfolding definition_kind_by
returns-in-3 c = λ file words. option_here 3 _ _ _ _ c.in-3.is (ap₄ DefinitionKind.Let c.link-in-3.ensures c.link-in-3-2.ensures c.link-in-3-3.ensures (ap₂ (numbers_at words) c.items_of-in-3.ensures.starts c.items_of-in-3.ensures.counts))

pub returns-in-4 : goal.returns-in-4
unfolding definition_kind_by
returns-in-4 c = λ file words. option_here 4 _ _ _ _ c.in-4.is refl

pub returns-in-5 : goal.returns-in-5
unfolding definition_kind_by
returns-in-5 c = λ file words. option_here 5 _ _ _ _ c.in-5.is (ap₂ DefinitionKind.Use (c.name_of.ensures file) (c.name_of-in-5.ensures file))

pub returns-in_default : goal.returns-in_default
unfolding definition_kind_by
returns-in_default c = λ file words. option_last _ _ _ _ (none_below 6 _ c.in_default.in_default-own.rest) refl
