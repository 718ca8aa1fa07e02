-- `views::identifier_definition` meets its contract: the recorded definition, else the name. Assumes nothing.
use Rattle.views.proofs.Chains.{identifier_recorded, identifier_by_name}
use Rattle.views.proofs.identifier_definition.Goals as goal

pub returns-in-Some : goal.returns-in-Some
returns-in-Some c = record { same = identifier_recorded _ _ _ _ _ _ _ c.in-Some.is }

pub returns-in-None : goal.returns-in-None
returns-in-None c = record { same = identifier_by_name _ _ _ _ _ _ _ c.in-None.is c.resolve_name_at_position.ensures }
