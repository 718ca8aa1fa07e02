-- `records::suffix_of` meets its contract: 0 is absent, and any other word a name. Assumes nothing.
use mathlib.Core.Path.{ap, ◌∙◌}
use Rattle.std.specs.Prelude.{Some}
use Rattle.records.proofs.Words.{suffix_none, suffix_some}
use Rattle.records.proofs.suffix_of.Goals as goal

pub returns-then-v-eq0 : goal.returns-then-v-eq0
returns-then-v-eq0 c = λ file. suffix_none file _ c.if-v-eq0.true

pub returns-else-v-eq0 : goal.returns-else-v-eq0
returns-else-v-eq0 c = λ file. ap Some (c.name_of.ensures file) ∙ suffix_some file _ c.if-v-eq0.false
