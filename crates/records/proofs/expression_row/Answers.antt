-- `records::expression_row` meets its contract: its eleven words. Assumes nothing.
use Prim.Native.Nat.{◌+◌, ◌/◌, ◌%◌}
use mathlib.Core.Path.{ap, ◌∙◌}
use native.Mathlib.Nat.{add-zero}
use native.Mathlib.Omega.{arith}
use Rattle.records.proofs.Congruence.{ap₃, ap₄}
use Rattle.records.specs.Layout.{word, link_by, origin_by, expression_by, expression_place, expression_row}
use Rattle.records.proofs.expression_row.Goals as goal

pub returns : goal.returns
unfolding expression_row
returns c =
    let words = c.args.words.now in
    let row = c.expression_words-row.ensures in
    let kinds = row 0 (omega arith) ∙ ap (word words) (add-zero (expression_place (c.args.first + c.args.i))) in
    λ file d.
    record {
      scope = row 1 (omega arith) d;
      start = row 2 (omega arith) d;
      end = row 3 (omega arith) d;
      expected = (c.link-expected.ensures ∙ ap link_by (row 4 (omega arith))) d;
      definition = (c.link-definition.ensures ∙ ap link_by (row 5 (omega arith))) d;
      origin = (c.origin_of-origin.ensures file ∙ ap₃ (origin_by file) (ap (λ k. k / 256) kinds) (row 6 (omega arith)) (row 7 (omega arith))) d;
      node =
          (c.expression_of-node.ensures file words
          ∙ ap₄ (expression_by file words) (ap (λ k. k % 256) kinds) (row 8 (omega arith)) (row 9 (omega arith)) (row 10 (omega arith))) d;
    }
