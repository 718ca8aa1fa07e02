-- `answers::answer_none` meets its contract: a line without room leaves zeros. Assumes nothing.
use Rattle.std.proofs.Common.{◌∙◌}
use Rattle.answers.proofs.Asking.{types_zero}
use Rattle.answers.proofs.answer_none.Goals as goal

pub returns-in_default : goal.returns-in_default
returns-in_default c = record { is = c.in_default.ensures; types_are = c.clear.ensures ∙ types_zero c.args.types.now c.requires }
