-- `check_index::row_total` meets its contract: the sum over the numbers of the modules. Assumes nothing.
use Rattle.std.proofs.Common.{rules, tests}
use native.Mathlib.Omega.{arith}
use mathlib.Core.Path.{ap, ◌∙◌}
use Rattle.std.proofs.lemmas.Iterator.{YieldsList-from_range, YieldsList-from_map}
use Rattle.std.proofs.lemmas.Iterator.Adapters.{fits_from_length, at_most_from_yields_List}
use Rattle.std.proofs.lemmas.Iterator.Consumers.{sum_from_yields_List}
use Rattle.std.proofs.lemmas.List.FromFn.{length-range_with_len}
use Rattle.records.specs.Layout.{count_of, each}
use Rattle.model.specs.Common.{total}
use Rattle.records.specs.Meaning.{row_kind_number}
use Rattle.check_index.proofs.Totals.{sum_is}
use Rattle.check_index.proofs.row_total.Goals as goal

pub sum-requires-clause-fits : goal.sum-requires-clause-fits
sum-requires-clause-fits c =
    fits_from_length _ _ 4294967295 _
    (at_most_from_yields_List (YieldsList-from_range 0 c.word_at-count.result c.word_at-count.result (cc) (omega arith)) (omega (arith, length-range_with_len 0 c.word_at-count.result)))
    c.map.ensures.closure (omega arith) (λ x r q k. search (rules, tests))

pub returns : goal.returns
returns c =
    sum_from_yields_List c.map.result _ c.sum.ensures.ran
    (YieldsList-from_map _ (λ m. count_of c.args.words.now m (row_kind_number c.args.kind)) (YieldsList-from_range 0 c.word_at-count.result c.word_at-count.result (cc) (omega arith)) c.map.ensures.closure (λ x r q k. search (rules, tests)))
    ∙ sum_is (λ m. count_of c.args.words.now m (row_kind_number c.args.kind)) 0 c.word_at-count.result
    ∙ ap (λ n. total (λ m. count_of c.args.words.now m (row_kind_number c.args.kind)) (each (λ m. m) 0 n)) c.word_at-count.ensures
