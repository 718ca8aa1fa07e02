-- `records::number_item` meets its contract: the place is below the count, or not. Assumes nothing.
use mathlib.Core.Path.{◌∙◌}
use Rattle.std.proofs.Common.{rules}
use Rattle.records.proofs.Lists.{then_item, as_it_is}
use Rattle.records.specs.Layout.{item_value, numbers_at}
use Rattle.records.proofs.number_item.Goals as goal

pub returns : goal.returns
unfolding numbers_at
returns c = as_it_is c.then.result ∙ then_item (λ n. n) (item_value c.args.words.now) c.args.items.first _ _ _ (λ x answers. search rules) _ c.then.ensures.variant c.then.ensures.some
