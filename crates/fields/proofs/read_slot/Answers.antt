-- `fields::read_slot` meets its contract. Assumes nothing.
use mathlib.Core.Path.{sym, ◌∙◌}
use Rattle.fields.proofs.Slots.{slot_nothing, slot_no_tab, slot_is_field}
use Rattle.fields.proofs.read_slot.Goals as goal

pub returns-then-is_nothing : goal.returns-then-is_nothing
returns-then-is_nothing c = sym (slot_nothing c.args.kind c.args.file.now c.args.at (sym c.is_nothing.ensures ∙ c.if-is_nothing.true))

pub returns-then-not-is_byte : goal.returns-then-not-is_byte
returns-then-not-is_byte c = sym (slot_no_tab c.args.kind c.args.file.now c.args.at (sym c.is_nothing.ensures ∙ c.if-is_nothing.false) (sym c.is_byte.ensures ∙ c.if-not-is_byte.true))

pub returns : goal.returns
returns c = c.value_at.ensures ∙ sym (slot_is_field c.args.kind c.args.file.now c.args.at (sym c.is_nothing.ensures ∙ c.if-is_nothing.false) (sym c.is_byte.ensures ∙ c.if-not-is_byte.false))
