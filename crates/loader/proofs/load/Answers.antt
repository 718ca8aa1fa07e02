-- `loader::load` meets its contract. Assumes nothing.
use Rattle.loader.proofs.Loading.{filled}
use Rattle.loader.proofs.load.Goals as goal

pub returns-clause-full : goal.returns-clause-full
returns-clause-full c = λ h. filled c.args.file.now c.args.records.now c.load_words.new.words c.load_words.result h c.load_words.ensures
