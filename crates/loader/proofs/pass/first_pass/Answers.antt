-- `loader::pass::first_pass` meets its contract. Assumes nothing.
use mathlib.Core.Path.{◌≡◌, refl, sym, ap, subst, ◌∙◌}
use native.Mathlib.Omega.{arith}
use lib.ListN.{drop}
use Rattle.std.proofs.Common.{rules}
use Rattle.loader.specs.State.{seen_as}
use Rattle.loader.specs.Steps.{Good, step_is, GoodAfter}
use Rattle.loader.proofs.Finishing.{nothing_counted, lines_from, good_begun, pass_begun, pass_ended, pass_shorter, pass_goes, all_read, mapped_ok, first_lost}
use Rattle.loader.proofs.pass.first_pass.Goals as goal

pub loop-at-init : goal.loop-at-init
loop-at-init c =
    let e = c.default-n.ensures in
    let none : c.default-n.result ≡ nothing_counted =
    λ i. record { stage = e.0 i; modules = e.1.0 i; scopes = e.1.1.0 i; types = e.1.1.1.0 i; definitions = e.1.1.1.1.0 i; expressions = e.1.1.1.1.1.0 i; questions = e.1.1.1.1.1.1.0 i; items = e.1.1.1.1.1.1.1 i }
    in (
      subst (Good c.args.file.now c.args.words.now) (sym none) (good_begun c.args.file.now c.args.words.now c.requires.0 c.requires.1),
      refl,
      omega arith,
      pass_begun c.args.version c.args.file.now c.args.words.now (drop c.args.from c.args.file.now)
          ∙ ap (λ n. lines_from 2 (seen_as c.args.version c.args.file.now c.args.words.now n) (drop c.args.from c.args.file.now)) (sym none),
    )

pub returns-in_err-next : goal.returns-in_err-next
returns-in_err-next c =
    record {
      long = c.step_on.ensures.long ∙ c.loop-at.invariant.1;
      first = first_lost _ c.args.version c.args.file.now c.loop-at.words c.step_on.new.words c.loop-at.n c.loop-at.line c.loop-at.at (drop c.args.from c.args.file.now) c.loop-at-test.true c.loop-at.invariant.3 c.step_on.result (c.step_on.ensures.is c.args.version) c.map_err.ensures.cases c.in_err-next.field-0.0 c.in_err-next.was (λ e d answers. search rules) c.from_residual.result c.from_residual.ensures.1;
    }

pub loop-at-smaller : goal.loop-at-smaller
loop-at-smaller c =
    let went = mapped_ok _ c.step_on.result c.map_err.ensures.cases c.in_ok-next.was in
    pass_shorter c.loop-at.line (seen_as c.args.version c.args.file.now c.loop-at.words c.loop-at.n) c.args.file.now c.loop-at.at c.loop-at-test.true (seen_as c.args.version c.args.file.now c.step_on.new.words c.in_ok-next.next.counts) (drop c.in_ok-next.next.at c.args.file.now) (sym (c.step_on.ensures.is c.args.version) ∙ ap (step_is c.args.version c.args.file.now c.step_on.new.words) went)

pub loop-at-preserved : goal.loop-at-preserved
loop-at-preserved c =
    let went = mapped_ok _ c.step_on.result c.map_err.ensures.cases c.in_ok-next.was in
    let goes = sym (c.step_on.ensures.is c.args.version) ∙ ap (step_is c.args.version c.args.file.now c.step_on.new.words) went in
    let next = c.in_ok-next.next in
    let less = pass_shorter c.loop-at.line (seen_as c.args.version c.args.file.now c.loop-at.words c.loop-at.n) c.args.file.now c.loop-at.at c.loop-at-test.true (seen_as c.args.version c.args.file.now c.step_on.new.words next.counts) (drop next.at c.args.file.now) goes in
    (subst (GoodAfter c.args.file.now c.step_on.new.words) went c.step_on.ensures.good, c.step_on.ensures.long ∙ c.loop-at.invariant.1, omega (arith, less, c.loop-at.invariant.2), c.loop-at.invariant.3 ∙ pass_goes c.loop-at.line (seen_as c.args.version c.args.file.now c.loop-at.words c.loop-at.n) c.args.file.now c.loop-at.at c.loop-at-test.true (seen_as c.args.version c.args.file.now c.step_on.new.words next.counts) (drop next.at c.args.file.now) goes)

pub returns : goal.returns
returns c =
    record { long = c.finish.ensures.left.long ∙ c.loop-at.invariant.1; first = all_read c.args.version c.loop-at.n _ c.loop-at.invariant.0 c.finish.ensures (c.loop-at.invariant.3 ∙ pass_ended c.loop-at.line (seen_as c.args.version c.args.file.now c.loop-at.words c.loop-at.n) c.args.file.now c.loop-at.at c.loop-at-test.false) }
