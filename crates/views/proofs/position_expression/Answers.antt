-- `views::position_expression` meets its contract: by whether the module is there. Assumes nothing.
use mathlib.Core.Path.{ap}
use mathlib.Core.Bool.{not}
use mathlib.Core.Path.{◌∙◌}
use Rattle.views.proofs.Chains.{module_past, module_there}
use Rattle.views.proofs.Asking.{position_past, position_there}
use Rattle.views.proofs.position_expression.Goals as goal

pub returns-then-not-has_module : goal.returns-then-not-has_module
returns-then-not-has_module c = record { same = λ file. position_past _ _ _ (module_past _ _ c.has_module.result (c.has_module.ensures file) (ap not c.if-not-has_module.true)) }

pub returns : goal.returns
returns c =
    record { same = λ file. c.expression_at_position.ensures file ∙ position_there _ _ _ _ (module_there _ _ c.has_module.result (c.has_module.ensures file) (ap not c.if-not-has_module.false)) }
