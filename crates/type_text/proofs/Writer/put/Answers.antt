-- `type_text::Writer::put` meets its contract. Assumes nothing.
use mathlib.Core.Path.{refl, ap, ◌∙◌}
use borrow.Rule.Slice.PartMut.{put_mid}
use Rattle.type_text.proofs.Writing.{put_mid_is, writes_put}
use Rattle.type_text.proofs.Writer.put.Goals as goal

pub returns : goal.returns
returns c =
    let w = c.args.self.now in
    writes_put c.args.text.now w _ c.requires
    (record { bytes = ap (put_mid w.at _ w.out.now) c.copy.ensures ∙ put_mid_is w.out.now c.args.text.now w.at; next = refl }) refl
