-- `type_table::suffix_type` meets its contract. Assumes nothing.
use mathlib.Core.Path.{sym, ap, ◌∙◌}
use Rattle.std.specs.Prelude.{None, Some}
use Rattle.std.specs.Prelude.{if◌then◌else◌}
use Rattle.model.specs.Common.{eq_numbers, bytes}
use Rattle.records.specs.Meaning.{name_of, suffix_of}
use Rattle.resolution.specs.Views.{suffix_type}
use Rattle.type_table.proofs.suffix_type.Goals as goal

pub returns-in_err-name : goal.returns-in_err-name
unfolding suffix_type
returns-in_err-name c = c.from_residual.ensures ∙ ap (λ o. suffix_type (suffix_of c.args.file.now o)) (sym c.in_err-name.was)

pub returns-then-is_text : goal.returns-then-is_text
unfolding suffix_type
returns-then-is_text c =
    ap (λ b. (if b then Some 2 else (if eq_numbers (name_of c.args.file.now c.in_ok-name.name) (bytes "felt") then Some 0 else None))) (sym c.if-is_text.true ∙ c.is_text.ensures) ∙ ap (λ o. suffix_type (suffix_of c.args.file.now o)) (sym c.in_ok-name.was)

pub returns-then-is_text-2 : goal.returns-then-is_text-2
unfolding suffix_type
returns-then-is_text-2 c =
    ap (λ b. if b then Some 0 else None) (sym c.if-is_text-2.true ∙ c.is_text-2.ensures) ∙ ap (λ b. (if b then Some 2 else (if eq_numbers (name_of c.args.file.now c.in_ok-name.name) (bytes "felt") then Some 0 else None))) (sym c.if-is_text.false ∙ c.is_text.ensures) ∙ ap (λ o. suffix_type (suffix_of c.args.file.now o)) (sym c.in_ok-name.was)

pub returns : goal.returns
unfolding suffix_type
returns c =
    ap (λ b. if b then Some 0 else None) (sym c.if-is_text-2.false ∙ c.is_text-2.ensures) ∙ ap (λ b. (if b then Some 2 else (if eq_numbers (name_of c.args.file.now c.in_ok-name.name) (bytes "felt") then Some 0 else None))) (sym c.if-is_text.false ∙ c.is_text.ensures) ∙ ap (λ o. suffix_type (suffix_of c.args.file.now o)) (sym c.in_ok-name.was)
