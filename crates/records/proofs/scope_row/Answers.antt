-- `records::scope_row` meets its contract: its two words. Assumes nothing.
use mathlib.Core.Path.{ap, ◌∙◌}
use Rattle.records.specs.Layout.{link_by, scope_kind_by, scope_row}
use Rattle.records.proofs.scope_row.Goals as goal

pub returns : goal.returns
unfolding scope_row
returns c = λ d. record { parent = (c.link-parent.ensures ∙ ap link_by c.word_at.ensures) d; kind = (c.scope_kind-kind.ensures ∙ ap scope_kind_by c.word_at-2.ensures) d }
