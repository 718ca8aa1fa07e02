-- `semantic_index::first_function_around` meets its contract: no definition before d is a function around s. Assumes nothing.
use native.Mathlib.Omega.{arith}
use mathlib.Core.Path.{refl, sym, ap, ◌∙◌}
use mathlib.Core.Bool.{false≢true}
use borrow.Author.Tests.{eq-eqb, eqb-true}
use Rattle.semantic_index.proofs.Scopes.{met_begin, met_hit, met_top, met_up, met_end}
use Rattle.semantic_index.proofs.Searches.{first_hit, first_miss, first_end}
use Rattle.semantic_index.proofs.Definitions.{function_begin, no_function, a_function}
use Rattle.records.specs.Meaning.{definition_link_of, scope_link_of}
use Rattle.semantic_index.proofs.first_function_around.Goals as goal
use Rattle.semantic_index.proofs.first_function_around.Goals.{then-is_function_row+else-loop-test, then-is_function_row+then-loop-test+else-eq+in_default, else-is_function_row}

pub definitions-init : goal.definitions-init
definitions-init c = (refl, λ file. function_begin file _ _ _ _ c.rows_of-rows.ensures.begins c.rows_of-rows.ensures.counts _)

pub loop-init : goal.loop-init
loop-init c = (refl, λ file. met_begin _ _ _ _ (omega arith))

pub loop-preserved : goal.loop-preserved
loop-preserved c = (c.loop.invariant.0, λ file. c.loop.invariant.1 file ∙ met_up _ _ _ _ _ _ _ (omega (arith, c.loop-test.true)) (omega arith) (λ e. false≢true (sym c.if-eq.false ∙ c.eq.ensures ∙ eq-eqb _ _ e)) (c.parent_scope.ensures file) (ap scope_link_of c.in-Some.is))

pub definitions-preserved : goal.definitions-preserved
definitions-preserved c =
    elim c.if-is_function_row.branch [
      | then-is_function_row+else-loop-test w ↦ (
        w.found-is ∙ w.loop.invariant.0 ∙ c.definitions.invariant.0,
        λ file. c.definitions.invariant.1 file ∙ first_miss _ _ _ _ _ _ c.definitions-test.true
            (a_function _ _ _ _ (c.is_function_row.ensures file) _ _ w.if-is_function_row.true (w.definition_scope-scope.ensures file)
            (w.loop.invariant.1 file ∙ met_end _ _ _ _ (omega (arith, w.loop-test.false)))) refl,
      )
      | then-is_function_row+then-loop-test+else-eq+in_default w ↦ (
        w.found-is ∙ w.loop.invariant.0 ∙ c.definitions.invariant.0,
        λ file. c.definitions.invariant.1 file ∙ first_miss _ _ _ _ _ _ c.definitions-test.true
            (a_function _ _ _ _ (c.is_function_row.ensures file) _ _ w.if-is_function_row.true (w.definition_scope-scope.ensures file)
            (w.loop.invariant.1 file
            ∙ met_top _ _ _ _ _ (omega (arith, w.loop-test.true)) (λ e. false≢true (sym w.if-eq.false ∙ w.eq.ensures ∙ eq-eqb _ _ e)) (w.parent_scope.ensures file) (ap scope_link_of w.in_default.is))) refl,
      )
      | else-is_function_row w ↦ (
        w.found-is ∙ c.definitions.invariant.0,
        λ file. c.definitions.invariant.1 file ∙ first_miss _ _ _ _ _ _ c.definitions-test.true
            (no_function _ _ _ _ (c.is_function_row.ensures file) w.if-is_function_row.false) refl,
      )
    ]

pub returns-after-definitions : goal.returns-after-definitions
returns-after-definitions c = λ file. ap definition_link_of c.definitions.invariant.0 ∙ sym (c.definitions.invariant.1 file ∙ first_end _ _ _ _ _ c.definitions-test.false)

pub returns-then-eq : goal.returns-then-eq
returns-then-eq c = λ file. sym (c.definitions.invariant.1 file ∙ first_hit _ _ _ _ _ _ c.definitions-test.true (a_function _ _ _ _ (c.is_function_row.ensures file) _ _ c.if-is_function_row.true (c.definition_scope-scope.ensures file) (c.loop.invariant.1 file ∙ met_hit _ _ _ _ (omega (arith, c.loop-test.true)) (eqb-true _ _ (sym c.eq.ensures ∙ c.if-eq.true)))) refl)
