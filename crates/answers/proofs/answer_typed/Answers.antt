-- `answers::answer_typed` meets its contract: a refused or unwritten type leaves zeros. Assumes nothing.
use Rattle.std.proofs.Common.{sym, ◌∙◌}
use Rattle.answers.proofs.Asking.{types_zero, kept_at_err}
use Rattle.answers.proofs.answer_typed.Goals as goal

pub returns-then-is_err : goal.returns-then-is_err
returns-then-is_err c =
    record {
      is = c.write_typed-written.ensures;
      types_are = kept_at_err c.args.types.now c.clear.new.types c.write_typed-written.result (sym c.is_err.ensures.value ∙ c.if-is_err.true) (c.clear.ensures ∙ types_zero c.args.types.now c.requires.types_len);
    }
