-- `words::TypeWordPlaceWord::find` meets its contract: the map is right for the table, as is computed here. Assumes nothing.
use mathlib.Core.Path.{refl, ◌∙◌}
use Rattle.model.specs.Common.{eq_numbers}
use Rattle.format.specs.Words.{type_words}
use Rattle.words.proofs.Tables.{maps_from, candidate_first}
use Rattle.words.proofs.TypeWordPlaceWord.find.Goals as goal

pub returns : goal.returns
unfolding maps_from eq_numbers
returns c = c.find_word.ensures ∙ candidate_first _ _ c.args.field.now type_words refl
