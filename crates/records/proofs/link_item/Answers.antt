-- `records::link_item` meets its contract: the place is below the count, or not. Assumes nothing.
use Rattle.std.proofs.Common.{rules}
use Rattle.records.proofs.Lists.{then_item}
use Rattle.records.specs.Layout.{link_by, item_value, links_at}
use Rattle.records.specs.Meaning.{expression_link_of}
use Rattle.records.proofs.link_item.Goals as goal

pub returns : goal.returns
unfolding links_at
returns c = then_item expression_link_of (λ i. link_by (item_value c.args.words.now i)) c.args.items.first _ _ _ (λ x answers. search rules) _ c.then.ensures.variant c.then.ensures.some
