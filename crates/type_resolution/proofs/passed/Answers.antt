-- `type_resolution::passed` meets its contract: the signature decides. Assumes nothing.
use mathlib.Core.Path.{sym, ap, ◌∙◌}
use Rattle.type_table.specs.Layout.{table_of}
use Rattle.type_table.specs.Reads.{param_read}
use Rattle.type_resolution.specs.Leaves.{read_of}
use Rattle.type_resolution.proofs.passed.Goals as goal

pub returns-in_err-t : goal.returns-in_err-t
returns-in_err-t c = record { same = λ file. c.from_residual.ensures ∙ ap (λ o. read_of (λ t. param_read t c.args.i) o (table_of file c.args.types.now)) (sym c.in_err-t.was) }

pub returns : goal.returns
returns c = record { same = λ file. (c.param_type.ensures file).same ∙ ap (λ o. read_of (λ t. param_read t c.args.i) o (table_of file c.args.types.now)) (sym c.in_ok-t.was) }
