-- `type_table::head_at` meets its contract. Assumes nothing.
use Prim.Native.Nat.{◌+◌, ◌*◌}
use mathlib.Core.Path.{ap₂, ◌∙◌}
use Rattle.type_table.specs.Layout.{head_at}
use Rattle.type_table.proofs.head_at.Goals as goal

pub returns : goal.returns
unfolding head_at
returns c = λ d. record {
  kind = c.word_at-kind.ensures d;
  home = c.word_at-home.ensures d;
  definition = c.word_at-definition.ensures d;
  element = c.word_at-element.ensures d;
  size = (c.size_of-size.ensures ∙ ap₂ (λ x y. x + 4294967296 * y) c.word_at-low.ensures c.word_at-high.ensures) d;
}
