-- `records::question_at` meets its contract: the number is below the count, or not. Assumes nothing.
use mathlib.Core.Path.{◌≡◌, sym, ap, ◌∙◌}
use native.Mathlib.Nat.{zero-add}
use Rattle.std.proofs.Common.{rules}
use Rattle.std.specs.Prelude.{slice_get}
use Rattle.records.proofs.Lists.{then_item}
use Rattle.records.specs.Layout.{question_row, index_of, each}
use Rattle.records.specs.Meaning.{question_of}
use Rattle.records.proofs.question_at.Goals as goal

pub returns : goal.returns
unfolding index_of
returns c = λ file. then_item question_of (question_row c.args.words.now) 0 _ _ _ (λ x answers. let here : question_of x ≡ question_row c.args.words.now c.args.q = search rules in here ∙ ap (question_row c.args.words.now) (sym (zero-add c.args.q))) _ c.then.ensures.variant c.then.ensures.some
    ∙ ap (λ n. slice_get (each (question_row c.args.words.now) 0 n) c.args.q) c.word_at.ensures
