-- `loader::load_words` meets its contract. Assumes nothing.
use mathlib.Core.Path.{sym, ap, ◌∙◌}
use lib.ListN.{replicate}
use Rattle.loader.proofs.Loading.{refused_put}
use Rattle.loader.proofs.load_words.Goals as goal

pub returns-then-is_err : goal.returns-then-is_err
returns-then-is_err c =
    let put = c.read_file-loaded.ensures in
    refused_put c.args.file.now c.read_file-loaded.new.words c.clear.new.words c.read_file-loaded.result (sym c.is_err.ensures.value ∙ c.if-is_err.true) put (c.clear.ensures ∙ ap (λ k. replicate k 0) put.long)
