-- `links::numbers_below` meets its contract: each item is tested. Assumes nothing.
use Prim.Native.Nat.{◌+◌}
use lib.Dec.{ltb}
use native.Mathlib.Nat.{sub-zero}
use Rattle.std.proofs.Common.{rules, tests}
use Rattle.std.proofs.lemmas.Iterator.{YieldsList-from_range}
use Rattle.records.specs.Layout.{item_value}
use Rattle.records.proofs.Searches.{all_pass}
use Rattle.links.proofs.Below.{numbers_pass}
use Rattle.links.proofs.numbers_below.Goals as goal

pub returns : goal.returns
returns c =
    numbers_pass _ _ _ _ _
    (all_pass (λ k. ltb k c.args.n) (λ i. item_value c.args.words.now (c.args.items.first + i)) _ _ _ _ c.all.ensures.ran (YieldsList-from_range 0 _ _ (cc) (sub-zero _)) (λ x b q k. search (rules, tests)))
