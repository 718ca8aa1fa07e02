-- `resolve::next_part` meets its contract: by what the call gives. Assumes nothing.
use native.Mathlib.Omega.{arith}
use mathlib.Core.Path.{subst}
use Rattle.resolution.specs.Resolve.{refusal_line}
use Rattle.resolve.specs.Parts.{RefusedPut}
use Rattle.resolve.proofs.Parts.{lines_part, refused_part}
use Rattle.resolve.proofs.next_part.Goals as goal

pub returns-in-Ok : goal.returns-in-Ok
returns-in-Ok c = lines_part _ _ _ _ _ c.in-Ok.lines (c.in-Ok.ensures.full c.requires)

pub returns-in-Err : goal.returns-in-Err
returns-in-Err c =
    let put = c.put_refused in
    refused_part _ _ _ _ _ _ _ (c.in-Err.ensures.full c.requires) _ _ (omega (arith, c.answer_from.auto.out, c.requires.bytes_long)) put.auto.out
    (subst (λ n. RefusedPut (refusal_line n c.in-Err.refused.line) c.answer_from.new.out put.new.out put.result) c.number.ensures put.ensures)
