-- `fields::word_here` meets its contract. Assumes nothing.
use mathlib.Core.Path.{sym, ap, ◌∙◌}
use Rattle.std.specs.Prelude.{None, Some}
use Rattle.fields.specs.Held.{word_is}
use Rattle.fields.proofs.Slots.{field_lost, field_read}
use Rattle.fields.proofs.word_here.Goals as goal

pub returns-in_err-field-clause-is : goal.returns-in_err-field-clause-is
returns-in_err-field-clause-is g c =
    ap (word_is c.args.file.now) c.from_residual.ensures
    ∙ sym (field_lost g.W.PlaceWord.meaning c.args.file.now _ c.field_here.result c.field_here.ensures.is c.in_err-field.was)

pub returns-in_err-word-clause-is : goal.returns-in_err-word-clause-is
returns-in_err-word-clause-is g c =
    ap (word_is c.args.file.now) c.from_residual-in_err-word.ensures
    ∙ sym (field_read g.W.PlaceWord.meaning c.args.file.now _ c.field_here.result c.field_here.ensures.is c.in_ok-field.field None c.in_ok-field.was (sym c.in_err-word.was ∙ c.word.ensures))

pub returns-clause-is : goal.returns-clause-is
returns-clause-is g c =
    sym (field_read g.W.PlaceWord.meaning c.args.file.now _ c.field_here.result c.field_here.ensures.is c.in_ok-field.field (Some c.in_ok-word.word) c.in_ok-field.was (sym c.in_ok-word.was ∙ c.word.ensures))
