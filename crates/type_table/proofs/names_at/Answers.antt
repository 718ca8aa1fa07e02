-- `type_table::names_at` meets its contract. Assumes nothing.
use Prim.Native.Nat.{◌+◌, ◌*◌}
use mathlib.Core.Path.{sym, ap, ap₂, ◌∙◌}
use borrow.Author.Tests.{eq-eqb, ne_eqb}
use Rattle.records.specs.Layout.{word}
use Rattle.type_table.specs.Layout.{names_from, names_by}
use Rattle.type_table.proofs.names_at.Goals as goal

pub returns-then-word_at-eq-KIND_STRUCT : goal.returns-then-word_at-eq-KIND_STRUCT
unfolding names_by
returns-then-word_at-eq-KIND_STRUCT c =
    c.names_in.ensures ∙ ap₂ (names_from c.args.types.now) c.list_at.ensures.first c.list_at.ensures.count
    ∙ sym (ap (λ x. names_by x c.args.types.now (word c.args.types.now (8 * c.args.t + 8)) (word c.args.types.now (8 * c.args.t + 9))) (eq-eqb _ _ (sym c.word_at.ensures ∙ c.if-word_at-eq-KIND_STRUCT.true)))

pub returns-else-word_at-eq-KIND_STRUCT : goal.returns-else-word_at-eq-KIND_STRUCT
unfolding names_by
returns-else-word_at-eq-KIND_STRUCT c =
    sym (ap (λ x. names_by x c.args.types.now (word c.args.types.now (8 * c.args.t + 8)) (word c.args.types.now (8 * c.args.t + 9))) (ne_eqb _ _ (λ e. c.if-word_at-eq-KIND_STRUCT.false (c.word_at.ensures ∙ e))))
