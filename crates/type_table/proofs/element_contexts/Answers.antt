-- `type_table::element_contexts` meets its contract. Assumes nothing.
use Rattle.std.proofs.Common.{rules, tests}
use Rattle.type_table.proofs.Reading.{contexts_by}
use Rattle.type_table.proofs.element_contexts.Goals as goal

pub returns : goal.returns
returns c = rw c.unwrap_or.ensures (contexts_by c.args.types.now c.args.count c.args.context c.and_then.result c.filter.result (search (rules, tests)) (search (rules, tests)))
