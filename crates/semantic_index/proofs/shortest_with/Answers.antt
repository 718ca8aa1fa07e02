-- `semantic_index::shortest_with` meets its contract: one turn of the run, by the tests that the code makes. Assumes nothing.
use Prim.Native.Nat.{◌-◌}
use mathlib.Core.Path.{refl, ◌∙◌}
use native.Mathlib.Omega.{arith}
use Rattle.std.proofs.Common.{rules, tests}
use Rattle.semantic_index.specs.Meaning.{best_of}
use Rattle.semantic_index.proofs.AtPosition.{turn_before, turn_behind, turn_kept, turn_taken, kept_by}
use Rattle.semantic_index.proofs.shortest_with.Goals as goal

pub returns-then-position-start : goal.returns-then-position-start
returns-then-position-start c =
    let start = c.expression_start-start in
    λ file. turn_before _ _ start.result _ _ (start.ensures file) refl _ c.if-position-start.true

pub returns-then-end-position : goal.returns-then-end-position
returns-then-end-position c =
    let start = c.expression_start-start in
    let end = c.expression_end-end in
    λ file. turn_behind _ _ _ _ _ (start.ensures file) (end.ensures file) c.if-position-start.false _ (omega (arith, c.if-end-position.true))

pub returns-then-is_some_and : goal.returns-then-is_some_and
returns-then-is_some_and c =
    let start = c.expression_start-start in
    let end = c.expression_end-end in
    λ file. turn_kept _ _ _ _ _ (start.ensures file) (end.ensures file) c.if-position-start.false c.if-end-position.false (best_of c.args.best)
    (kept_by (end.result - start.result) _ _ _ c.is_some_and.ensures (λ x h. search (rules, tests)) ∙ c.if-is_some_and.true)

pub returns : goal.returns
returns c =
    let start = c.expression_start-start in
    let end = c.expression_end-end in
    λ file. turn_taken _ _ _ _ _ (start.ensures file) (end.ensures file) c.if-position-start.false c.if-end-position.false (best_of c.args.best)
    (kept_by (end.result - start.result) _ _ _ c.is_some_and.ensures (λ x h. search (rules, tests)) ∙ c.if-is_some_and.false)
