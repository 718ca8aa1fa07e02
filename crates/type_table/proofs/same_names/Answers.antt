-- `type_table::same_names` meets its contract. Assumes nothing.
use mathlib.Core.Path.{sym, ◌∙◌}
use Prim.Native.Nat.{ℕ}
use borrow.Author.Tests.{ne_eqb}
use Rattle.std.proofs.Common.{rules, tests}
use Rattle.std.proofs.lemmas.Iterator.{YieldsList-from_slice, YieldsList-from_zip}
use Rattle.std.proofs.lemmas.Iterator.Search.{all_from_yields_List}
use Rattle.model.specs.Common.{eq_numbers}
use Rattle.records.specs.Layout.{name_by}
use Rattle.type_table.proofs.Pairs.{pairs_length, pairs_zip, pairs_names}
use Rattle.type_table.proofs.same_names.Goals as goal

pub returns-then-a-b : goal.returns-then-a-b
returns-then-a-b c =
    let a = c.args.a.now in
    let b = c.args.b.now in
    let name = name_by c.args.file.now in
    all_from_yields_List (λ (p : ℕ × ℕ). eq_numbers (name p.0) (name p.1)) c.all.new.self _ _ c.all.ensures.ran (YieldsList-from_zip (YieldsList-from_slice a cc) (YieldsList-from_slice b cc)) (λ x r q k. search (rules, tests))
    ∙ sym (pairs_names name a b ∙ pairs_zip (λ x y. eq_numbers (name x) (name y)) a b c.if-a-b.true)

pub returns-else-a-b : goal.returns-else-a-b
returns-else-a-b c =
    let name = name_by c.args.file.now in
    ne_eqb _ _ c.if-a-b.false ∙ sym (pairs_names name c.args.a.now c.args.b.now ∙ pairs_length (λ x y. eq_numbers (name x) (name y)) c.args.a.now c.args.b.now c.if-a-b.false)
