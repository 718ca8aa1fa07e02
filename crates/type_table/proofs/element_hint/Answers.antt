-- `type_table::element_hint` meets its contract. Assumes nothing.
use mathlib.Core.Path.{sym, ap, ◌∙◌}
use Rattle.std.specs.Prelude.{None, Some}
use Rattle.resolution.specs.Views.{element_hint}
use Rattle.type_table.specs.Layout.{table_of}
use Rattle.type_table.specs.Meaning.{found_array_of}
use Rattle.type_table.specs.Reads.{element_hint_read, array_read}
use Rattle.type_table.proofs.Reading.{some_read, none_read}
use Rattle.type_table.proofs.element_hint.Goals as goal

pub returns-in_err-context : goal.returns-in_err-context
unfolding element_hint_read element_hint
returns-in_err-context c =
    λ file. record { same = c.from_residual.ensures ∙ ap (element_hint (table_of file c.args.types.now)) (sym c.in_err-context.was) }

pub returns-in_err-array : goal.returns-in_err-array
unfolding element_hint_read element_hint array_read
returns-in_err-array c =
    λ file. record {
      same =
          c.from_residual-in_err-array.ensures ∙ none_read None (λ array. Some array.element) (c.array_of.ensures file).same (ap found_array_of c.in_err-array.was)
          ∙ ap (element_hint (table_of file c.args.types.now)) (sym c.in_ok-context.was);
    }

pub returns : goal.returns
unfolding element_hint_read element_hint array_read
returns c =
    λ file. record {
      same =
          some_read None (λ array. Some array.element) (c.array_of.ensures file).same (ap found_array_of c.in_ok-array.was)
          ∙ ap (element_hint (table_of file c.args.types.now)) (sym c.in_ok-context.was);
    }
