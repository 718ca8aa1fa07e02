-- `type_table::param_type` meets its contract. Assumes nothing.
use mathlib.Core.Path.{ap, ◌∙◌}
use Rattle.std.specs.Prelude.{None}
use Rattle.std.specs.Prelude.{slice_get}
use Rattle.type_table.specs.Meaning.{found_signature_of}
use Rattle.type_table.specs.Reads.{param_read}
use Rattle.type_table.proofs.Reading.{some_read, none_read}
use Rattle.type_table.proofs.param_type.Goals as goal

pub returns-in_err-signature : goal.returns-in_err-signature
unfolding param_read
returns-in_err-signature c =
    λ file. record { same = c.from_residual.ensures ∙ none_read None (λ signature. slice_get signature.params c.args.i) (c.signature_of.ensures.same file) (ap (found_signature_of c.args.types.now) c.in_err-signature.was) }

pub returns : goal.returns
unfolding param_read
returns c =
    λ file. record {
      same = c.item.ensures ∙ some_read None (λ signature. slice_get signature.params c.args.i) (c.signature_of.ensures.same file) (ap (found_signature_of c.args.types.now) c.in_ok-signature.was);
    }
