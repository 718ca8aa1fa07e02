-- `compatibility::binary_fits` meets its contract. Assumes nothing.
use mathlib.Core.Path.{sym, ◌∙◌}
use mathlib.Core.Bool.{true≢false}
use Rattle.type_table.proofs.Bools.{stop, go_on}
use Rattle.compatibility.proofs.Scan.{same_binary}
use Rattle.compatibility.proofs.binary_fits.Goals as goal
use Rattle.compatibility.proofs.binary_fits.Goals.{then-eq, else-eq}

pub returns-then-are_types_compatible : goal.returns-then-are_types_compatible
returns-then-are_types_compatible c = elim c.if-eq.branch [
  | then-eq w ↦
      go_on _ _ _ (sym (c.eq.ensures ∙ same_binary c.args.row.now.op c.args.op) ∙ w.if-eq.true)
      (go_on _ _ _ (sym w.are_types_compatible.ensures ∙ sym w.value-is ∙ c.if-are_types_compatible.true) c.are_types_compatible-then-are_types_compatible.ensures)
  | else-eq w ↦
      absurd (true≢false (sym c.if-are_types_compatible.true ∙ w.value-is ∙ w.if-eq.false))
]

pub returns-else-are_types_compatible : goal.returns-else-are_types_compatible
returns-else-are_types_compatible c = elim c.if-eq.branch [
  | then-eq w ↦
      c.if-are_types_compatible.false ∙ go_on _ _ _ (sym (c.eq.ensures ∙ same_binary c.args.row.now.op c.args.op) ∙ w.if-eq.true)
      (stop _ _ (sym w.are_types_compatible.ensures ∙ sym w.value-is ∙ c.if-are_types_compatible.false))
  | else-eq w ↦
      c.if-are_types_compatible.false ∙ stop _ _ (sym (c.eq.ensures ∙ same_binary c.args.row.now.op c.args.op) ∙ w.if-eq.false)
]
