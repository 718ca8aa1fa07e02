-- `semantic_index::names::same_name` meets its contract: the lengths differ, or the bytes decide. Assumes nothing.
use mathlib.Core.Path.{◌∙◌}
use borrow.Author.Tests.{ne_eqb}
use Rattle.semantic_index.proofs.names.Equal.{parts_differ}
use Rattle.semantic_index.proofs.names.same_name.Goals as goal

pub returns-else-a-b : goal.returns-else-a-b
returns-else-a-b c =
    let args = c.args in
    ne_eqb _ _ c.if-a-b.false ∙ parts_differ args.file.now args.a.start args.a.length args.file.now args.b.start args.b.length c.if-a-b.false
