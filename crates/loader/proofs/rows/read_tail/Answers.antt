-- `loader::rows::read_tail` meets its contract. Assumes nothing.
use mathlib.Core.Path.{sym, subst}
use lib.ListN.{drop}
use Rattle.loader.specs.Items.{ItemsAre}
use Rattle.loader.specs.Lines.{TailIs}
use Rattle.loader.proofs.Listing.{behind_self}
use Rattle.loader.proofs.Tailing.{three_found, three_lost, tail_no_three, tail_no_items, tail_held}
use Rattle.loader.proofs.rows.read_tail.Goals as goal

pub returns-in_err-three : goal.returns-in_err-three
returns-in_err-three c =
    record { behind = behind_self _ _; tail = subst (TailIs c.args.file.now _ c.args.shape _ c.args.first) (sym c.from_residual.ensures) (tail_no_three c.args.shape c.args.file.now _ (three_lost c.args.file.now _ c.args.shape.a c.args.shape.b c.args.shape.c c.three_words.result c.three_words.ensures c.in_err-three.was)) }

pub returns-in_err-items : goal.returns-in_err-items
returns-in_err-items c =
    record { behind = c.read_items.ensures.behind; tail = subst (TailIs c.args.file.now _ c.args.shape _ c.args.first) (sym c.from_residual-in_err-items.ensures) (tail_no_items c.args.shape c.args.file.now _ c.in_ok-three.three (three_found c.args.file.now _ c.args.shape.a c.args.shape.b c.args.shape.c c.three_words.result c.three_words.ensures c.in_ok-three.three c.in_ok-three.was) (subst (ItemsAre c.args.file.now _ c.args.shape.list (drop c.in_ok-three.three.end c.args.file.now) c.args.first) c.in_err-items.was c.read_items.ensures.are)) }

pub returns : goal.returns
returns c =
    record { behind = c.read_items.ensures.behind; tail = tail_held c.args.shape c.args.file.now _ c.in_ok-three.three (three_found c.args.file.now _ c.args.shape.a c.args.shape.b c.args.shape.c c.three_words.result c.three_words.ensures c.in_ok-three.three c.in_ok-three.was) c.in_ok-items.items (subst (ItemsAre c.args.file.now _ c.args.shape.list (drop c.in_ok-three.three.end c.args.file.now) c.args.first) c.in_ok-items.was c.read_items.ensures.are) c.list_word.result c.list_word.ensures }
