-- `records::definition_row` meets its contract: its eleven words. Assumes nothing.
use mathlib.Core.Path.{ap, ◌∙◌}
use Rattle.records.proofs.Congruence.{ap₅}
use Rattle.records.specs.Layout.{name_by, definition_kind_by, definition_row}
use Rattle.records.proofs.definition_row.Goals as goal

pub returns : goal.returns
unfolding definition_row
returns c = let words = c.args.words.now in
    λ file d.
    record {
      scope = c.word_at-scope.ensures d;
      name = (c.name_of-name.ensures file ∙ ap (name_by file) c.word_at.ensures) d;
      name_start = c.word_at-name_start.ensures d;
      name_end = c.word_at-name_end.ensures d;
      full_start = c.word_at-full_start.ensures d;
      full_end = c.word_at-full_end.ensures d;
      kind =
          (c.definition_kind-kind.ensures file words
          ∙ ap₅ (definition_kind_by file words) c.word_at-kind.ensures c.word_at-a.ensures c.word_at-b.ensures c.word_at-c.ensures c.word_at-d.ensures) d;
    }
