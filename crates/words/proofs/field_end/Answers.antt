-- `words::field_end` meets its contract: a tab and an LF are the bytes that stop a field. Assumes nothing.
use Prim.Native.Nat.{◌+◌}
use mathlib.Core.Path.{ap, ◌∙◌}
use lib.ListN.{length, drop}
use Rattle.std.proofs.Common.{rules, tests}
use Rattle.format.specs.Fields.{stops}
use Rattle.words.proofs.Bytes.{field_until}
use Rattle.words.proofs.field_end.Goals as goal

pub returns : goal.returns
returns c =
    c.end_before.ensures.ends stops (λ b r answers. search (rules, tests))
    ∙ ap (λ t. c.args.from + length t) (field_until (drop c.args.from c.args.file.now))
