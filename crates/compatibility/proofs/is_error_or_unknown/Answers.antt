-- `compatibility::is_error_or_unknown` meets its contract. Assumes nothing.
use Rattle.compatibility.proofs.ByKind.{open_row, shut_row}
use Rattle.compatibility.proofs.is_error_or_unknown.Goals as goal

pub returns-in-Error : goal.returns-in-Error
returns-in-Error c = λ file words. open_row file words c.args.row c.in-Error.is

pub returns-in_default : goal.returns-in_default
returns-in_default c = λ file words. shut_row file words c.args.row c.in_default.not-Unknown c.in_default.not-Error
