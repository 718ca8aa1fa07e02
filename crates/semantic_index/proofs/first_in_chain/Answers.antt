-- `semantic_index::first_in_chain` meets its contract: the scopes that are left decide the whole. Assumes nothing.
use mathlib.Core.Path.{sym, ap, ◌∙◌}
use native.Mathlib.Omega.{arith}
use Rattle.records.specs.Meaning.{scope_link_of, definition_link_of}
use Rattle.semantic_index.proofs.Scopes.{found_begin, found_hit, found_top, found_up, found_end}
use Rattle.semantic_index.proofs.first_in_chain.Goals as goal

pub loop-init : goal.loop-init
loop-init g c = λ file find finds. found_begin find _ _ _ (omega arith)

pub returns-in-Some : goal.returns-in-Some
returns-in-Some g c = record { first = λ file find finds. sym (c.loop.invariant file find finds ∙ found_hit find _ _ _ _ _ (omega (arith, c.loop-test.true)) (finds _ _ c.find.ensures) (ap definition_link_of c.in-Some.is)) }

pub returns-in_err-current : goal.returns-in_err-current
returns-in_err-current g c = record { first = λ file find finds. ap definition_link_of c.from_residual.ensures ∙ sym (c.loop.invariant file find finds ∙ found_top find _ _ _ _ _ (omega (arith, c.loop-test.true)) (finds _ _ c.find.ensures) (ap definition_link_of c.in_default.is) (c.parent_scope.ensures file) (ap scope_link_of c.in_err-current.was)) }

pub loop-preserved : goal.loop-preserved
loop-preserved g c = λ file find finds. c.loop.invariant file find finds
    ∙ found_up find _ _ _ _ _ _ _ (omega (arith, c.loop-test.true)) (omega arith) (finds _ _ c.find.ensures) (ap definition_link_of c.in_default.is) (c.parent_scope.ensures file) (ap scope_link_of c.in_ok-current.was)

pub returns : goal.returns
returns g c = record { first = λ file find finds. sym (c.loop.invariant file find finds ∙ found_end find _ _ _ (omega (arith, c.loop-test.false))) }
