-- `type_table::clear` meets its contract. Assumes nothing.
use mathlib.Core.Path.{ap, ◌∙◌}
use mathlib.Core.List.{◌++◌}
use native.Mathlib.Omega.{arith}
use lib.ListN.{drop, replicate}
use lib.Seq.{length-take-le}
use Rattle.type_table.proofs.Started.{filled_is}
use Rattle.type_table.proofs.clear.Goals as goal

pub returns : goal.returns
returns c =
    let types = c.args.types.now in
    let end = c.min-end.result in
    ap (λ l. l ++ drop end types) (c.fill.ensures.after (λ y same. same) ∙ ap (λ n. replicate n 0) (length-take-le end types (omega (arith, c.min-end.ensures))))
    ∙ filled_is types end (omega (arith, c.min-end.ensures))
