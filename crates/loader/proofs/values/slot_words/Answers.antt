-- `loader::values::slot_words` meets its contract. Assumes nothing.
use mathlib.Core.Path.{sym, ◌∙◌}
use native.Mathlib.Omega.{arith}
use Rattle.loader.proofs.Holding.{absent_held, link_bound, link_held, number_held, text_named, text_held, held_fits, words_held}
use Rattle.loader.proofs.values.slot_words.Goals as goal

pub overflow_add-words : goal.overflow_add-words
overflow_add-words c =
    let low = link_bound c.args.kind _ (sym c.is_link.ensures ∙ c.if-is_link.true) (held_fits c.args.file.now _ c.args.kind c.read_slot.result c.read_slot.ensures c.in_ok-slot.slot c.in_ok-slot.was c.in-Number.is) in
    omega (arith, low)

pub returns-in-Number : goal.returns-in-Number
returns-in-Number c =
    let low = link_bound c.args.kind _ (sym c.is_link.ensures ∙ c.if-is_link.true) (held_fits c.args.file.now _ c.args.kind c.read_slot.result c.read_slot.ensures c.in_ok-slot.slot c.in_ok-slot.was c.in-Number.is) in
    words_held c.args.file.now _ c.args.kind c.read_slot.result c.read_slot.ensures c.in_ok-slot.slot c.in_ok-slot.was _ c.in-Number.is (link_held c.args.kind c.args.file.now _ (sym c.is_link.ensures ∙ c.if-is_link.true) low)

pub name_words-words-requires : goal.name_words-words-requires
name_words-words-requires c =
    let n = text_named c.args.kind c.args.file.now _ _ (held_fits c.args.file.now _ c.args.kind c.read_slot.result c.read_slot.ensures c.in_ok-slot.slot c.in_ok-slot.was c.in-Text.is) in
    (omega (arith, n.inside, c.requires), omega (arith, n.most))

pub returns-in-Absent : goal.returns-in-Absent
returns-in-Absent c =
    words_held c.args.file.now _ c.args.kind c.read_slot.result c.read_slot.ensures c.in_ok-slot.slot c.in_ok-slot.was 0 c.in-Absent.is (absent_held c.args.kind c.args.file.now (held_fits c.args.file.now _ c.args.kind c.read_slot.result c.read_slot.ensures c.in_ok-slot.slot c.in_ok-slot.was c.in-Absent.is))

pub returns-in-Number-2 : goal.returns-in-Number-2
returns-in-Number-2 c =
    words_held c.args.file.now _ c.args.kind c.read_slot.result c.read_slot.ensures c.in_ok-slot.slot c.in_ok-slot.was _ c.in-Number-2.is (number_held c.args.file.now _ c.args.kind (sym c.is_link.ensures ∙ c.if-is_link.false) (held_fits c.args.file.now _ c.args.kind c.read_slot.result c.read_slot.ensures c.in_ok-slot.slot c.in_ok-slot.was c.in-Number-2.is))

pub returns-in-Text : goal.returns-in-Text
returns-in-Text c =
    let fits = held_fits c.args.file.now _ c.args.kind c.read_slot.result c.read_slot.ensures c.in_ok-slot.slot c.in_ok-slot.was c.in-Text.is in
    let n = text_named c.args.kind c.args.file.now _ _ fits in
    words_held c.args.file.now _ c.args.kind c.read_slot.result c.read_slot.ensures c.in_ok-slot.slot c.in_ok-slot.was _ c.in-Text.is (text_held c.args.file.now _ _ _ (omega (arith, n.inside, c.requires)) n.most c.name_words-words.ensures c.args.kind n.least fits)
