-- `semantic_index::is_function` meets its contract: the kind's number is the function's, or another's. Assumes nothing.
use mathlib.Core.Path.{sym, ap}
use Rattle.model.specs.Lookups.{is_function}
use Rattle.records.specs.Meaning.{definition_kind_of}
use Rattle.semantic_index.proofs.ByKind.{other_than_function}
use Rattle.semantic_index.proofs.is_function.Goals as goal

pub returns-in-Function : goal.returns-in-Function
unfolding is_function
returns-in-Function c = λ file words. ap (λ k. is_function (definition_kind_of file words k)) (sym c.in-Function.is)

pub returns-in_default : goal.returns-in_default
returns-in_default c = λ file words. other_than_function file words c.args.kind c.in_default.in_default-own.keys2
