-- `type_table::return_type` meets its contract. Assumes nothing.
use mathlib.Core.Path.{ap, ◌∙◌}
use Rattle.std.specs.Prelude.{None, Some}
use Rattle.type_table.specs.Meaning.{found_signature_of}
use Rattle.type_table.specs.Reads.{return_read}
use Rattle.type_table.proofs.Reading.{some_read, none_read}
use Rattle.type_table.proofs.return_type.Goals as goal

pub returns-in_err-signature : goal.returns-in_err-signature
unfolding return_read
returns-in_err-signature c =
    λ file. record { same = c.from_residual.ensures ∙ none_read None (λ signature. Some signature.return_type) (c.signature_of.ensures.same file) (ap (found_signature_of c.args.types.now) c.in_err-signature.was) }

pub returns : goal.returns
unfolding return_read
returns c =
    λ file. record { same = some_read None (λ signature. Some signature.return_type) (c.signature_of.ensures.same file) (ap (found_signature_of c.args.types.now) c.in_ok-signature.was) }
