-- `compatibility::unary_fits` meets its contract. Assumes nothing.
use mathlib.Core.Path.{sym, ◌∙◌}
use Rattle.type_table.proofs.Bools.{stop, go_on}
use Rattle.compatibility.proofs.Scan.{same_unary}
use Rattle.compatibility.proofs.unary_fits.Goals as goal

pub returns-then-eq : goal.returns-then-eq
returns-then-eq c = go_on _ _ _ (sym (c.eq.ensures ∙ same_unary c.args.row.now.op c.args.op) ∙ c.if-eq.true) c.are_types_compatible.ensures

pub returns-else-eq : goal.returns-else-eq
returns-else-eq c = c.if-eq.false ∙ stop _ _ (sym (c.eq.ensures ∙ same_unary c.args.row.now.op c.args.op) ∙ c.if-eq.false)
