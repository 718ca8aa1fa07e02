-- `demands::is_open` meets its contract: the search over the first places. Assumes nothing.
use Rattle.std.proofs.Common.{rules, tests}
use Rattle.std.proofs.lemmas.Iterator.{YieldsList-from_slice}
use Rattle.std.proofs.lemmas.Iterator.Search.{any_from_yields_List}
use lib.ListN.{take}
use mathlib.Core.Path.{◌∙◌}
use Rattle.resolution.specs.Run.{eq_demand}
use Rattle.demands.specs.Meaning.{demand_of, place_demand}
use Rattle.demands.proofs.Places.{is_open_by}
use Rattle.demands.proofs.is_open.Goals as goal

pub returns : goal.returns
returns c =
    let a = c.args in
    any_from_yields_List (λ place. eq_demand (demand_of a.d) (place_demand place)) _ _ _ c.any.ensures.ran (YieldsList-from_slice (take a.depth a.demands.now) cc) (λ x b q k. search (rules, tests))
    ∙ is_open_by (demand_of a.d) a.demands.now a.depth c.requires
