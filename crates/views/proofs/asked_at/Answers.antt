-- `views::asked_at` meets its contract: by the number, and what the question is about. Assumes nothing.
use Rattle.std.proofs.Common.{rules}
use Rattle.records.specs.Meaning.{question_of}
use Rattle.views.proofs.Asking.{asked_by}
use Rattle.views.proofs.asked_at.Goals as goal

pub returns : goal.returns
returns c = λ index. asked_by index (question_of c.args.question) _ _ (λ x answers. search rules) _ c.then.ensures.variant c.then.ensures.some
