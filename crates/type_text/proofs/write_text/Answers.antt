-- `type_text::write_text` meets its contract: what was measured decides, and the text stands at the start. Assumes nothing.
use mathlib.Core.Path.{sym, ◌∙◌}
use native.Mathlib.Omega.{arith}
use Rattle.resolution.specs.Answer.{type_text}
use Rattle.type_table.specs.Layout.{table_of}
use Rattle.type_text.proofs.Writing.{from_start}
use Rattle.type_text.proofs.Laws.{text_long, text_no_room, text_written}
use Rattle.type_text.proofs.write_text.Goals as goal

pub returns-then-n-gt-MAX_TEXT : goal.returns-then-n-gt-MAX_TEXT
returns-then-n-gt-MAX_TEXT c =
    text_long (type_text (table_of c.args.types.now.file.now c.args.types.now.words.now) c.args.t) c.args.out.now (omega (arith, c.text_length-n.ensures))

pub returns-then-out-n : goal.returns-then-out-n
returns-then-out-n c =
    text_no_room (type_text (table_of c.args.types.now.file.now c.args.types.now.words.now) c.args.t) c.args.out.now (omega (arith, c.text_length-n.ensures)) (omega (arith, c.text_length-n.ensures))

pub returns : goal.returns
returns c =
    let text = type_text (table_of c.args.types.now.file.now c.args.types.now.words.now) c.args.t in
    let begun = c.new-writer.ensures in
    let writes = c.write_type.ensures in
    text_written text c.args.out.now _ _ (omega (arith, c.text_length-n.ensures)) (omega (arith, c.text_length-n.ensures))
    (from_start text c.args.out.now _ _ _ begun.bytes begun.at (c.out-1.given.1.1 (sym begun.same_buffer ∙ sym writes.same_buffer)) writes)
