-- `loader::lines::is_again` meets its contract: one of the modules before has the name. Assumes nothing.
use native.Mathlib.Omega.{arith}
use mathlib.Core.Path.{refl, ◌∙◌}
use Rattle.std.proofs.Common.{rules, tests}
use Rattle.std.proofs.lemmas.Iterator.{YieldsList-from_range}
use Rattle.std.proofs.lemmas.Iterator.Search.{any_from_yields_List}
use Rattle.model.specs.Common.{eq_numbers}
use Rattle.records.specs.Layout.{module_row}
use Rattle.loader.specs.Steps.{name_at, again}
use Rattle.loader.proofs.Advancing.{any_found}
use Rattle.loader.proofs.lines.is_again.Goals as goal

pub returns : goal.returns
unfolding again module_row
returns c =
    let s = c.args.index.now.file.now in
    let w = c.args.index.now.words.now in
    any_from_yields_List (λ m. eq_numbers (name_at s w m) (name_at s w c.args.n)) _ _ _ c.any.ensures.ran (YieldsList-from_range 0 c.args.n c.args.n refl (omega arith)) (λ x b q k. search (rules, tests))
    ∙ any_found (λ name. eq_numbers name (name_at s w c.args.n)) (name_at s w) 0 c.args.n
