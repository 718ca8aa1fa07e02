-- `compatibility::compare_with_store` meets its contract: no pair is marked in a fresh store. Assumes nothing.
use mathlib.Core.Path.{refl}
use Rattle.compatibility.proofs.Store.{fresh}
use Rattle.compatibility.proofs.compare_with_store.Goals as goal

pub compatible-requires-clause-remembers : goal.compatible-requires-clause-remembers
compatible-requires-clause-remembers c =
    fresh c.args.types.now.file.now c.args.types.now.words.now 2048 refl
