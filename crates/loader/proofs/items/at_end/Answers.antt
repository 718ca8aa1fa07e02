-- `loader::items::at_end` meets its contract. Assumes nothing.
use mathlib.Core.Path.{ap, ◌∙◌}
use mathlib.Core.Bool.{not}
use lib.ListN.{drop}
use Rattle.loader.proofs.Listing.{end_is}
use Rattle.loader.proofs.items.at_end.Goals as goal

pub returns : goal.returns
returns c = ap not c.is_byte.ensures ∙ end_is (drop c.args.at c.args.file.now)
