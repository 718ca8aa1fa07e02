-- `type_table::same_row` meets its contract. Assumes nothing.
use mathlib.Core.Path.{sym, ap, ◌∙◌}
use mathlib.Core.Bool.{true≢false}
use mathlib.Core.List.{map}
use Rattle.model.specs.Common.{eq_numbers}
use Rattle.resolution.specs.Types.{eq_names}
use Rattle.records.specs.Layout.{name_by}
use Rattle.type_table.specs.Promises.{same_heads, same_rows}
use Rattle.type_table.proofs.Bools.{stop, go_on}
use Rattle.type_table.proofs.Pairs.{same_numbers}
use Rattle.type_table.proofs.same_row.Goals as goal
use Rattle.type_table.proofs.same_row.Goals.{then-eq, else-eq}

pub returns-then-eq-2 : goal.returns-then-eq-2
unfolding same_rows same_heads
returns-then-eq-2 c = elim c.if-eq.branch [
  | then-eq w ↦
      go_on _ _ _ (ap (same_heads c.args.new.now.head) (sym c.head_at.ensures) ∙ sym c.eq.ensures ∙ w.if-eq.true)
      (go_on _ _ _ (ap (eq_numbers c.args.new.now.items.now) (sym w.items_at.ensures) ∙ sym (same_numbers _ _) ∙ sym w.eq-then-eq.ensures ∙ sym w.value-is ∙ c.if-eq-2.true)
      (c.same_names.ensures ∙ ap (λ l. eq_names (map (name_by c.args.new.now.file.now) c.args.new.now.names.now) (map (name_by c.args.new.now.file.now) l)) c.names_at.ensures))
  | else-eq w ↦
      absurd (true≢false (sym c.if-eq-2.true ∙ w.value-is ∙ w.if-eq.false))
]

pub returns-else-eq-2 : goal.returns-else-eq-2
unfolding same_rows same_heads
returns-else-eq-2 c = elim c.if-eq.branch [
  | then-eq w ↦
      c.if-eq-2.false ∙ go_on _ _ _ (ap (same_heads c.args.new.now.head) (sym c.head_at.ensures) ∙ sym c.eq.ensures ∙ w.if-eq.true)
      (stop _ _ (ap (eq_numbers c.args.new.now.items.now) (sym w.items_at.ensures) ∙ sym (same_numbers _ _) ∙ sym w.eq-then-eq.ensures ∙ sym w.value-is ∙ c.if-eq-2.false))
  | else-eq w ↦
      c.if-eq-2.false ∙ stop _ _ (ap (same_heads c.args.new.now.head) (sym c.head_at.ensures) ∙ sym c.eq.ensures ∙ w.if-eq.false)
]
