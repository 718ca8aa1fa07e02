-- `links::type_fault` meets its contract: what each row is asked is the definition's. Assumes nothing.
use Prim.Native.Nat.{◌+◌}
use mathlib.Core.Path.{ap, ◌∙◌}
use mathlib.Core.Bool.{not}
use native.Mathlib.Nat.{sub-zero}
use Rattle.std.proofs.Common.{rules, tests}
use Rattle.std.proofs.lemmas.Iterator.{YieldsList-from_range}
use Rattle.model.specs.Common.{first}
use Rattle.format.specs.LinkCheck.{type_linked}
use Rattle.records.specs.Layout.{type_expr_row, module_row}
use Rattle.records.proofs.Searches.{found_first}
use Rattle.links.proofs.Lines.{numbered_tests}
use Rattle.links.proofs.type_fault.Goals as goal

pub returns : goal.returns
unfolding module_row
returns c = λ file.
    found_first not (λ k. type_linked k (type_expr_row file c.args.words.now (c.rows_of-rows.result.first + k))) _ _ _ _ c.find.ensures.ran (YieldsList-from_range 0 _ _ (cc) (sub-zero _)) (λ x b q k. search (rules, tests))
    ∙ ap (first not) (numbered_tests (type_expr_row file _) _ _ _ _ _ c.rows_of-rows.ensures.begins c.rows_of-rows.ensures.counts type_linked)
