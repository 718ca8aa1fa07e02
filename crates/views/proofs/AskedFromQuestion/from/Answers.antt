-- `views::AskedFromQuestion::from` meets its contract, kind by kind. Assumes nothing.
use mathlib.Core.Path.{ap}
use Rattle.records.specs.Meaning.{question_of}
use Rattle.resolution.specs.Asked.{question_asked}
use Rattle.views.proofs.AskedFromQuestion.from.Goals as goal

pub returns-in-Expr : goal.returns-in-Expr
unfolding question_asked
returns-in-Expr c = λ index. ap (λ q. question_asked index (question_of q)) c.in-Expr.is

pub returns-in-Def : goal.returns-in-Def
unfolding question_asked
returns-in-Def c = λ index. ap (λ q. question_asked index (question_of q)) c.in-Def.is

pub returns-in-Type : goal.returns-in-Type
unfolding question_asked
returns-in-Type c = λ index. ap (λ q. question_asked index (question_of q)) c.in-Type.is

pub returns-in-At : goal.returns-in-At
unfolding question_asked
returns-in-At c = λ index. ap (λ q. question_asked index (question_of q)) c.in-At.is
