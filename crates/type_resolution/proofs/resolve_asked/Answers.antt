-- `type_resolution::resolve_asked` meets its contract: by what is asked; a type that was resolved is said. Assumes nothing.
use Rattle.resolution.specs.TypeResolution.{asked_program}
use Rattle.type_resolution.proofs.Saying.{says_runs, by_asked, by_context, nothing_there, expression_there}
use Rattle.type_resolution.proofs.resolve_asked.Goals as goal

pub returns-in-None : goal.returns-in-None
unfolding asked_program
returns-in-None c =
    by_asked _ c.in-Expr.is (by_context _ _ _ c.in-None.is (says_runs c.expr_type.ensures c.said_type.ensures))

pub returns-in-Some : goal.returns-in-Some
unfolding asked_program
returns-in-Some c =
    by_asked _ c.in-Expr.is (by_context _ _ _ c.in-Some.is (says_runs c.asked_in.ensures c.said_type-in-Some.ensures))

pub returns-in-Def : goal.returns-in-Def
unfolding asked_program
returns-in-Def c = by_asked _ c.in-Def.is (says_runs c.def_type.ensures c.said_type-in-Def.ensures)

pub returns-in-Type : goal.returns-in-Type
unfolding asked_program
returns-in-Type c = by_asked _ c.in-Type.is (says_runs c.ast_type.ensures c.said_type-in-Type.ensures)

pub returns-in-None-position_expression : goal.returns-in-None-position_expression
returns-in-None-position_expression c =
    by_asked _ c.in-At.is (nothing_there _ _ c.position_expression.ensures c.requires c.in-None-position_expression.is)

pub returns-in-Some-position_expression : goal.returns-in-Some-position_expression
returns-in-Some-position_expression c =
    by_asked _ c.in-At.is (expression_there _ _ c.position_expression.ensures c.in-Some-position_expression.is (says_runs c.expr_type-in-Some-position_expression.ensures c.said_type-in-Some-position_expression.ensures))
