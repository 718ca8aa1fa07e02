-- `semantic_index::names::is_text` meets its contract: the lengths differ, or the bytes decide. Assumes nothing.
use mathlib.Core.Path.{◌∙◌}
use borrow.Author.Tests.{ne_eqb}
use Rattle.records.specs.Layout.{bytes_at}
use Rattle.semantic_index.proofs.names.Equal.{text_differs, text_part}
use Rattle.semantic_index.proofs.names.is_text.Goals as goal

pub returns-then-name-text : goal.returns-then-name-text
returns-then-name-text c = let a = c.args in c.same_bytes.ensures ∙ text_part (bytes_at a.file.now a.name.start a.name.length) a.text.now a.name.length c.if-name-text.true

pub returns-else-name-text : goal.returns-else-name-text
returns-else-name-text c = let a = c.args in ne_eqb _ _ c.if-name-text.false ∙ text_differs a.file.now a.name.start a.name.length a.text.now c.if-name-text.false
