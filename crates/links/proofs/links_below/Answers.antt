-- `links::links_below` meets its contract: each item is tested. Assumes nothing.
use Prim.Native.Nat.{◌+◌}
use native.Mathlib.Nat.{sub-zero}
use Rattle.std.proofs.Common.{rules, tests}
use Rattle.std.proofs.lemmas.Iterator.{YieldsList-from_range}
use Rattle.model.specs.Links.{link}
use Rattle.format.specs.LinkCheck.{all_below}
use Rattle.records.specs.Layout.{item_value, link_by}
use Rattle.records.proofs.Searches.{all_pass}
use Rattle.links.proofs.Below.{link_same, links_pass}
use Rattle.links.proofs.links_below.Goals as goal

pub returns : goal.returns
returns c =
    links_pass _ _ _ _ _
    (all_pass (λ o. all_below c.args.n (link o)) (λ i. link_by (item_value c.args.words.now (c.args.items.first + i))) _ _ _ _ c.all.ensures.ran (YieldsList-from_range 0 _ _ (cc) (sub-zero _)) (λ x b q k. search (rules, tests, link_same)))
