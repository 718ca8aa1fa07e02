-- `fields::is_dash_at` meets its contract. Assumes nothing.
use mathlib.Core.Path.{sym, ◌∙◌}
use Rattle.fields.proofs.Names.{dash_here, dash_none}
use Rattle.fields.proofs.is_dash_at.Goals as goal

pub returns-then-is_byte : goal.returns-then-is_byte
returns-then-is_byte c = c.is_end.ensures ∙ dash_here c.args.file.now c.args.from (sym c.is_byte.ensures ∙ c.if-is_byte.true)

pub returns-else-is_byte : goal.returns-else-is_byte
returns-else-is_byte c = c.if-is_byte.false ∙ dash_none c.args.file.now c.args.from (sym c.is_byte.ensures ∙ c.if-is_byte.false)
