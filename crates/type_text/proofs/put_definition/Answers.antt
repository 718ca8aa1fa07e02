-- `type_text::put_definition` meets its contract: its parts one behind the other. Assumes nothing.
use mathlib.Core.List.{◌++◌}
use native.Mathlib.Omega.{arith}
use Rattle.model.specs.Common.{bytes}
use Rattle.resolution.specs.Answer.{decimal}
use Rattle.type_text.specs.Text.{definition_text}
use Rattle.type_text.proofs.Writing.{writes_then}
use Rattle.type_text.proofs.Texts.{definition_text_length}
use Rattle.type_text.proofs.put_definition.Goals as goal

pub put-requires : goal.put-requires
put-requires c = omega (arith, c.requires, definition_text_length c.args.lead.now c.args.home c.args.definition)

pub put_decimal-requires : goal.put_decimal-requires
put_decimal-requires c = omega (arith, c.requires, definition_text_length c.args.lead.now c.args.home c.args.definition, c.put.ensures.wrote.next, c.put.ensures.long)

pub put-requires-2 : goal.put-requires-2
put-requires-2 c =
    omega (arith, c.requires, definition_text_length c.args.lead.now c.args.home c.args.definition, c.put.ensures.wrote.next, c.put.ensures.long, c.put_decimal.ensures.wrote.next, c.put_decimal.ensures.long)

pub put_decimal-requires-2 : goal.put_decimal-requires-2
put_decimal-requires-2 c =
    omega (arith, c.requires, definition_text_length c.args.lead.now c.args.home c.args.definition, c.put.ensures.wrote.next, c.put.ensures.long, c.put_decimal.ensures.wrote.next, c.put_decimal.ensures.long, c.put-2.ensures.wrote.next, c.put-2.ensures.long)

pub returns : goal.returns
unfolding definition_text
returns c =
    let long = definition_text_length c.args.lead.now c.args.home c.args.definition in
    writes_then c.args.lead.now (decimal c.args.home ++ (bytes "." ++ decimal c.args.definition)) _ _ _ (omega (arith, c.requires, long)) c.put.ensures
    (writes_then (decimal c.args.home) (bytes "." ++ decimal c.args.definition) _ _ _ (omega (arith, c.requires, long, c.put.ensures.wrote.next, c.put.ensures.long)) c.put_decimal.ensures
    (writes_then (bytes ".") (decimal c.args.definition) _ _ _ (omega (arith, c.requires, long, c.put.ensures.wrote.next, c.put.ensures.long, c.put_decimal.ensures.wrote.next, c.put_decimal.ensures.long)) c.put-2.ensures c.put_decimal-2.ensures))
