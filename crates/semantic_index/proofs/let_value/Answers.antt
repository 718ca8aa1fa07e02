-- `semantic_index::let_value` meets its contract: the kind's number is the let's, or another's. Assumes nothing.
use mathlib.Core.Path.{sym, ap}
use Rattle.model.specs.Lookups.{let_value}
use Rattle.records.specs.Meaning.{definition_kind_of}
use Rattle.semantic_index.proofs.ByKind.{other_than_let}
use Rattle.semantic_index.proofs.let_value.Goals as goal

pub returns-in-Let : goal.returns-in-Let
unfolding let_value
returns-in-Let c = λ file words. ap (λ k. let_value (definition_kind_of file words k)) (sym c.in-Let.is)

pub returns-in_default : goal.returns-in_default
returns-in_default c = λ file words. other_than_let file words c.args.kind c.in_default.in_default-own.keys2
