-- `loader::items::read_list` meets its contract. Assumes nothing.
use mathlib.Core.Path.{sym, ap, subst, ◌∙◌}
use Rattle.loader.specs.Items.{item_words_is, ItemsAre}
use Rattle.loader.proofs.Listing.{behind_self, behind_then, so_far_begun, so_far_ended, so_far_lost, so_far_more, so_far_shorter}
use Rattle.loader.proofs.items.read_list.Goals as goal

pub loop-listed-init : goal.loop-listed-init
loop-listed-init c =
    (behind_self c.args.first c.args.words.now, so_far_begun c.args.file.now c.args.words.now c.args.listed c.args.at c.args.first)

pub returns-in_err-item : goal.returns-in_err-item
returns-in_err-item c =
    record { behind = c.loop-listed.invariant.0; are = subst (ItemsAre c.args.file.now _ c.args.listed _ c.args.first) (sym c.from_residual.ensures) (so_far_lost c.loop-listed.invariant.1 (sym c.at_end.ensures ∙ c.loop-listed-test.true) (sym c.item_words.ensures ∙ ap (item_words_is c.args.listed c.args.file.now) c.in_err-item.was) c.requires.3) }

pub loop-listed-smaller : goal.loop-listed-smaller
loop-listed-smaller c =
    so_far_shorter c.loop-listed.invariant.1 c.in_ok-item.item _ (sym c.at_end.ensures ∙ c.loop-listed-test.true) (sym c.item_words.ensures ∙ ap (item_words_is c.args.listed c.args.file.now) c.in_ok-item.was) c.put_item.ensures

pub loop-listed-preserved : goal.loop-listed-preserved
loop-listed-preserved c =
    (behind_then c.args.first c.loop-listed.count c.loop-listed.invariant.0 c.put_item.ensures.behind, so_far_more c.loop-listed.invariant.1 _ _ (sym c.at_end.ensures ∙ c.loop-listed-test.true) (sym c.item_words.ensures ∙ ap (item_words_is c.args.listed c.args.file.now) c.in_ok-item.was) c.put_item.ensures)

pub returns : goal.returns
returns c =
    record { behind = c.loop-listed.invariant.0; are = so_far_ended c.loop-listed.invariant.1 (sym c.at_end.ensures ∙ c.loop-listed-test.false) c.requires.3 }
