-- `check_index::LineBuffer::put_number` meets its contract: a tab, and the digits of `io::decimal`, which are the definition's. Assumes nothing.
use mathlib.Core.Path.{ap, ◌∙◌}
use mathlib.Core.List.{List, [], ◌∷◌, ◌++◌}
use Prim.Native.Nat.{ℕ}
use lib.ListN.{take}
use Rattle.check_index.proofs.Puts.{put_both}
use Rattle.check_index.proofs.Decimals.{decimal_is}
use Rattle.check_index.proofs.LineBuffer.put_number.Goals as goal

pub returns-clause-puts : goal.returns-clause-puts
returns-clause-puts c =
    put_both c.args.self.now (9 ∷ []) (take c.decimal-k.result c.decimal-k.new.out) _ _ c.put.ensures c.put-2.ensures
    ∙ ap (λ (t : List ℕ). c.args.self.now ++ (9 ∷ t)) (decimal_is _ _ _ c.decimal-k.ensures.len c.decimal-k.ensures.digits)
