-- `views::right_first` meets its contract: by the operator, and then by each operand. Assumes nothing.
use mathlib.Core.Path.{sym, ◌∙◌}
use mathlib.Core.Bool.{true≢false}
use Rattle.views.proofs.Chains.{order_kept, left_no_literal, by_right}
use Rattle.views.proofs.right_first.Goals as goal
use Rattle.views.proofs.right_first.Goals.{then-is_commutative, else-is_commutative}

pub returns-then-operand_is_unsuffixed_literal : goal.returns-then-operand_is_unsuffixed_literal
returns-then-operand_is_unsuffixed_literal c = record {
  same = λ file.
      elim c.if-is_commutative.branch [
        | then-is_commutative w ↦
            by_right _ _ _ _ _ c.is_commutative.ensures _ _ w.if-is_commutative.true (w.operand_is_unsuffixed_literal.ensures file) (sym w.value-is ∙ c.if-operand_is_unsuffixed_literal.true)
            (c.operand_is_unsuffixed_literal-then-operand_is_unsuffixed_literal.ensures file)
        | else-is_commutative w ↦ absurd (true≢false (sym c.if-operand_is_unsuffixed_literal.true ∙ w.value-is ∙ w.if-is_commutative.false))
      ];
}

pub returns-else-operand_is_unsuffixed_literal : goal.returns-else-operand_is_unsuffixed_literal
returns-else-operand_is_unsuffixed_literal c = record {
  same = λ file.
      elim c.if-is_commutative.branch [
        | then-is_commutative w ↦
            c.if-operand_is_unsuffixed_literal.false
            ∙ left_no_literal _ _ _ _ _ c.is_commutative.ensures _ w.if-is_commutative.true (w.operand_is_unsuffixed_literal.ensures file) (sym w.value-is ∙ c.if-operand_is_unsuffixed_literal.false)
        | else-is_commutative w ↦ c.if-operand_is_unsuffixed_literal.false ∙ order_kept _ _ _ _ _ c.is_commutative.ensures w.if-is_commutative.false
      ];
}
