-- `loader::items::read_items` meets its contract. Assumes nothing.
use mathlib.Core.Path.{sym, subst, ◌∙◌}
use lib.ListN.{drop}
use Rattle.loader.specs.Items.{ItemsAre}
use Rattle.loader.proofs.Listing.{behind_self, no_list}
use Rattle.loader.proofs.items.read_items.Goals as goal

pub returns : goal.returns
returns c =
    let none = sym c.is_empty_list.ensures ∙ c.if-not-is_empty_list.false in
    let s = c.args.file.now in
    record {
      behind = behind_self _ _;
      are = subst (ItemsAre s c.args.words.now c.args.listed (drop c.args.at s) c.args.first) (sym c.then_some.ensures) (no_list s c.args.words.now c.args.listed c.args.at c.args.first none c.at_end.result c.at_end.ensures);
    }
