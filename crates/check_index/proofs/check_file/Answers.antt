-- `check_index::check_file` meets its contract. Assumes nothing.
use mathlib.Core.Path.{sym, ◌∙◌}
use native.Mathlib.Omega.{arith}
use Rattle.check_index.proofs.Totals.{line_is}
use Rattle.check_index.proofs.check_file.Goals as goal

pub returns : goal.returns
returns c =
    let filled = c.load-loaded.ensures.full (omega (arith, c.requires)) in
    c.line_of.ensures ∙ line_is c.args.file.now c.args.words.now c.load-loaded.new.records c.load-loaded.result (filled.long ∙ sym c.requires) filled
