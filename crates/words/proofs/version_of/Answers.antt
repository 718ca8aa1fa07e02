-- `words::version_of` meets its contract: the first line is compared. Assumes nothing.
use mathlib.Core.Path.{◌∙◌}
use Rattle.std.specs.Prelude.{take}
use Rattle.std.proofs.lemmas.Cmp.{nat_list_eq_equiv}
use Rattle.words.proofs.Bytes.{eq_as_numbers, then_some_if}
use Rattle.words.proofs.Keywords.{version_by}
use Rattle.words.proofs.version_of.Goals as goal

pub returns : goal.returns
returns c =
    let begin = take 8 c.args.file.now in
    c.then_some.ensures
    ∙ then_some_if c.starts_with.result 1
    ∙ version_by c.args.file.now c.starts_with.result (c.starts_with.ensures.value ∙ nat_list_eq_equiv.symm _ begin ∙ eq_as_numbers begin _)
