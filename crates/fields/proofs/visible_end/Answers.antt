-- `fields::visible_end` meets its contract: the visible bytes are those up to the first that isn't. Assumes nothing.
use Prim.Native.Nat.{◌+◌}
use mathlib.Core.Path.{ap, ◌∙◌}
use lib.ListN.{length, drop}
use Rattle.std.proofs.Common.{rules, tests}
use Rattle.fields.proofs.Names.{hidden, run_until}
use Rattle.fields.proofs.visible_end.Goals as goal

pub returns : goal.returns
returns c =
    c.end_before.ensures.ends hidden (λ b r answers. search (rules, tests))
    ∙ ap (λ t. c.args.from + length t) (run_until (drop c.args.from c.args.file.now))
