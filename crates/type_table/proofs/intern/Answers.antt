-- `type_table::intern` meets its contract. Assumes nothing.
use mathlib.Core.Path.{sym, ◌∙◌}
use native.Mathlib.Omega.{arith}
use Rattle.type_table.specs.Layout.{data_from}
use Rattle.type_table.proofs.Interned.{interns_old, full_types, full_items, interns_new}
use Rattle.type_table.proofs.intern.Goals as goal
use Rattle.type_table.proofs.intern.Goals.{then-t-ge-MAX_TYPES-via-then-t-ge-MAX_TYPES, then-t-ge-MAX_TYPES-via-else-t-ge-MAX_TYPES+then-held-new}

pub returns-then-t-ge-MAX_TYPES : goal.returns-then-t-ge-MAX_TYPES
returns-then-t-ge-MAX_TYPES c =
    let new = c.args.new.now in
    elim c.then-t-ge-MAX_TYPES.branch [
      | then-t-ge-MAX_TYPES-via-then-t-ge-MAX_TYPES w ↦
          full_types new.file.now c.args.types.now (data_from new.file.now new.head new.names.now new.items.now) c.requires.sound (sym c.find_type.ensures ∙ c.in_default.is) w.if-t-ge-MAX_TYPES.true
      | then-t-ge-MAX_TYPES-via-else-t-ge-MAX_TYPES+then-held-new w ↦
          full_items new.file.now new.head new.names.now new.items.now c.args.types.now c.requires.sound new.canonical (sym c.find_type.ensures ∙ c.in_default.is) w.if-t-ge-MAX_TYPES.false
          (omega (arith, w.if-held-new.true, c.requires.sound.room))
    ]

pub returns-in-Some : goal.returns-in-Some
returns-in-Some c =
    interns_old c.args.new.now.file.now c.args.types.now (data_from c.args.new.now.file.now c.args.new.now.head c.args.new.now.names.now c.args.new.now.items.now) c.requires.sound _ (sym c.find_type.ensures ∙ c.in-Some.is)

pub returns : goal.returns
returns c =
    interns_new c.args.new.now.file.now c.args.new.now.head c.args.new.now.names.now c.args.new.now.items.now c.args.types.now c.requires.sound c.args.new.now.canonical (sym c.find_type.ensures ∙ c.in_default.is) c.if-t-ge-MAX_TYPES.false (omega (arith, c.if-held-new.false, c.requires.sound.room)) c.requires.all_below c.add_row.new.types c.add_row.ensures
