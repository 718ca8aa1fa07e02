-- `semantic_index::names::same_bytes` meets its contract: byte after byte. Assumes nothing.
use mathlib.Core.Path.{◌∙◌}
use native.Mathlib.Nat.{sub-zero}
use Rattle.std.proofs.Common.{rules, tests}
use Rattle.std.proofs.lemmas.Iterator.{YieldsList-from_range}
use Rattle.records.proofs.Searches.{all_pass}
use Rattle.semantic_index.proofs.names.Equal.{same_byte, every_byte}
use Rattle.semantic_index.proofs.names.same_bytes.Goals as goal

pub returns : goal.returns
unfolding same_byte
returns c =
    all_pass (λ b. b) (same_byte c.args.a.now c.args.i c.args.b.now c.args.j) _ _ _ _ c.all.ensures.ran (YieldsList-from_range 0 _ _ (cc) (sub-zero _)) (λ x b q k. search (rules, tests))
    ∙ every_byte _ _ _ _ _
