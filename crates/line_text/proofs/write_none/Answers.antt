-- `line_text::write_none` meets its contract: the word stands behind the lead fields. Assumes nothing.
use Rattle.resolution.specs.Answer.{verdict_fields}
use Rattle.line_text.proofs.write_none.Goals as goal

pub returns : goal.returns
unfolding verdict_fields
returns c = c.write_fields.ensures
