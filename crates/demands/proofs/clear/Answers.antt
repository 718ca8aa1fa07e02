-- `demands::clear` meets its contract. Assumes nothing.
use Rattle.std.proofs.Common.{rules}
use mathlib.Core.Path.{ap, ◌∙◌}
use lib.ListN.{drop}
use mathlib.Core.List.{◌++◌}
use Rattle.demands.proofs.Places.{cleared_by}
use Rattle.demands.proofs.clear.Goals as goal

pub returns : goal.returns
returns c =
    let l = c.args.demands.now in
    ap (λ front. front ++ drop c.min-count.result l) (c.fill.ensures.after (λ y k. search rules)) ∙ cleared_by 256 _ l c.min-count.ensures
