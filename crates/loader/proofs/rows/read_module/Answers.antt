-- `loader::rows::read_module` meets its contract. Assumes nothing.
use mathlib.Core.List.{[], ◌∷◌}
use Rattle.loader.proofs.Tailing.{tail_of, tail_none, tail_put_as}
use Rattle.loader.proofs.Leaving.{line_lost, behind_left, put_same}
use Rattle.loader.proofs.ScopeLines.{module_no_tail, module_put_as}
use Rattle.loader.proofs.rows.read_module.Goals as goal

pub returns-in_err-tail : goal.returns-in_err-tail
returns-in_err-tail c =
    let tp = tail_put_as {words' = c.read_tail.new.words} c.module_shape.ensures c.read_tail.ensures in
    line_lost c.from_residual.ensures (behind_left c.args.n c.requires.0 tp.behind) (module_no_tail c.args.file.now _ (tail_none c.args.file.now _ _ _ _ tp.tail c.in_err-tail.was))

pub returns : goal.returns
returns c =
    let tp = tail_put_as {words' = c.read_tail.new.words} c.module_shape.ensures c.read_tail.ensures in
    module_put_as c.args.file.now _ c.args.n c.in_ok-tail.tail (tail_of c.args.file.now _ _ _ c.args.n.items tp.tail c.in_ok-tail.tail c.in_ok-tail.was) c.requires.0 c.requires.1 tp.behind (put_same (λ i. c.low.ensures i ∷ c.args.n.scopes ∷ c.args.n.types ∷ c.args.n.definitions ∷ c.args.n.expressions ∷ 0 ∷ []) c.put.ensures)
