-- `loader::lines::step_on` meets its contract. Assumes nothing.
use mathlib.Core.Path.{refl, sym, ap, subst, ◌∙◌}
use Prim.Native.Nat.{◌+◌, ◌≤◌}
use native.Mathlib.Omega.{arith}
use lib.ListN.{drop}
use Rattle.fields.proofs.Slots.{field_fits}
use Rattle.format.specs.FirstPass.{go}
use Rattle.loader.specs.State.{seen_as}
use Rattle.loader.specs.Lines.{LineIs}
use Rattle.loader.specs.Steps.{Good}
use Rattle.loader.proofs.Keeping.{has_room_for, good_after}
use Rattle.loader.proofs.Stepping.{step_none, step_full, step_wrong, step_many, step_misplaced, step_unended, step_goes, placed}
use Rattle.loader.proofs.lines.step_on.Goals as goal

pub slice_bounds-word-end : goal.slice_bounds-word-end
slice_bounds-word-end c = omega (arith, c.field_end-p.ensures, field_fits c.args.file.now c.args.at c.requires.1)

pub returns-in_default : goal.returns-in_default
returns-in_default c =
    record { is = λ version. sym (step_none version c.args.n c.requires.0 c.args.at c.field_end-p.result c.field_end-p.ensures c.word.result c.word.ensures c.in_default.is); good = tt; long = refl }

pub returns-then-not-has_line_room : goal.returns-then-not-has_line_room
returns-then-not-has_line_room c =
    record { is = λ version. sym (step_full version c.args.n c.requires.0 c.args.at c.field_end-p.result c.field_end-p.ensures c.word.result c.word.ensures c.in-Some.word c.in-Some.is (sym c.has_line_room.ensures ∙ c.if-not-has_line_room.true)); good = tt; long = refl }

pub returns-in_default-read_line : goal.returns-in_default-read_line
returns-in_default-read_line c =
    let free = sym c.has_line_room.ensures ∙ c.if-not-has_line_room.false in
    record { is = λ version. sym (step_wrong version c.args.n c.requires.0 c.args.at c.field_end-p.result c.field_end-p.ensures c.word.result c.word.ensures c.in-Some.word c.in-Some.is free (subst (LineIs c.in-Some.word c.args.file.now c.read_line.new.words c.args.n (drop c.field_end-p.result c.args.file.now)) c.in_default-read_line.is c.read_line.ensures.line)); good = tt; long = c.read_line.ensures.left.long }

pub returns-then-n-read : goal.returns-then-n-read
returns-then-n-read c =
    let free = sym c.has_line_room.ensures ∙ c.if-not-has_line_room.false in
    let room = has_room_for c.in-Some.word c.args.n free in
    let held = subst (LineIs c.in-Some.word c.args.file.now c.read_line.new.words c.args.n (drop c.field_end-p.result c.args.file.now)) c.in-Some-read_line.is c.read_line.ensures.line in
    record { is = λ version. sym (step_many version c.args.n c.requires.0 c.args.at c.field_end-p.result c.field_end-p.ensures c.word.result c.word.ensures c.in-Some.word c.in-Some.is free c.in-Some-read_line.read room c.read_line.ensures.left held (omega (arith, c.if-n-read.true))); good = tt; long = c.read_line.ensures.left.long }

pub returns-then-not-may_stand : goal.returns-then-not-may_stand
returns-then-not-may_stand c =
    let free = sym c.has_line_room.ensures ∙ c.if-not-has_line_room.false in
    let room = has_room_for c.in-Some.word c.args.n free in
    let held = subst (LineIs c.in-Some.word c.args.file.now c.read_line.new.words c.args.n (drop c.field_end-p.result c.args.file.now)) c.in-Some-read_line.is c.read_line.ensures.line in
    let few : c.args.n.items + c.in-Some-read_line.read.count ≤ 2048 = omega (arith, c.if-n-read.false, c.requires.0.fine.items) in
    record { is = λ version. sym (step_misplaced version c.args.n c.requires.0 c.args.at c.field_end-p.result c.field_end-p.ensures c.word.result c.word.ensures c.in-Some.word c.in-Some.is free c.in-Some-read_line.read room c.read_line.ensures.left held few (sym c.may_stand.ensures ∙ c.if-not-may_stand.true)); good = tt; long = c.read_line.ensures.left.long }

pub returns-then-not-is_byte : goal.returns-then-not-is_byte
returns-then-not-is_byte c =
    let free = sym c.has_line_room.ensures ∙ c.if-not-has_line_room.false in
    let room = has_room_for c.in-Some.word c.args.n free in
    let held = subst (LineIs c.in-Some.word c.args.file.now c.read_line.new.words c.args.n (drop c.field_end-p.result c.args.file.now)) c.in-Some-read_line.is c.read_line.ensures.line in
    let few : c.args.n.items + c.in-Some-read_line.read.count ≤ 2048 = omega (arith, c.if-n-read.false, c.requires.0.fine.items) in
    record { is = λ version. sym (step_unended version c.args.n c.requires.0 c.args.at c.field_end-p.result c.field_end-p.ensures c.word.result c.word.ensures c.in-Some.word c.in-Some.is free c.in-Some-read_line.read room c.read_line.ensures.left held few (sym c.may_stand.ensures ∙ c.if-not-may_stand.false) (sym c.is_byte.ensures ∙ c.if-not-is_byte.true)); good = tt; long = c.read_line.ensures.left.long }

pub returns : goal.returns
returns c =
    let free = sym c.has_line_room.ensures ∙ c.if-not-has_line_room.false in
    let room = has_room_for c.in-Some.word c.args.n free in
    let held = subst (LineIs c.in-Some.word c.args.file.now c.read_line.new.words c.args.n (drop c.field_end-p.result c.args.file.now)) c.in-Some-read_line.is c.read_line.ensures.line in
    let few : c.args.n.items + c.in-Some-read_line.read.count ≤ 2048 = omega (arith, c.if-n-read.false, c.requires.0.fine.items) in
    let n' = c.counted.ensures in
    let stands = sym c.may_stand.ensures ∙ c.if-not-may_stand.false in
    record {
      is = λ version. ap (λ k. go (seen_as version c.args.file.now c.read_line.new.words k) (drop (c.in-Some-read_line.read.end + 1) c.args.file.now)) n' ∙ sym (step_goes version c.args.n c.requires.0 c.args.at c.field_end-p.result c.field_end-p.ensures c.word.result c.word.ensures c.in-Some.word c.in-Some.is free c.in-Some-read_line.read room c.read_line.ensures.left held few stands (sym c.is_byte.ensures ∙ c.if-not-is_byte.false));
      good = subst (Good c.args.file.now c.read_line.new.words) (sym n') (good_after c.args.n c.requires.0 c.in-Some.word _ c.in-Some-read_line.read room c.read_line.ensures.left held few (placed 0 c.args.n c.requires.0 c.args.at c.field_end-p.result c.field_end-p.ensures c.word.result c.word.ensures c.in-Some.word c.in-Some.is free c.in-Some-read_line.read room c.read_line.ensures.left held few stands));
      long = c.read_line.ensures.left.long;
    }
