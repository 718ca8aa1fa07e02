-- The kinds that an arm of a `match` on a definition's kind has, by their numbers: what holds of each. Assumes nothing.
use mathlib.Core.Path.{◌≡◌, refl}
use mathlib.Core.Bool.{true, false}
use Prim.Native.Nat.{ℕ}
use mathlib.Core.List.{List, [], ◌∷◌}
use Rattle.std.specs.Prelude.{None}
use types.Run.{miss}
use borrow.Enum.Refused.{Among, opened}
use denote.Enum.Declared.{tag_of}
use Rattle.model.specs.Lookups.{is_top_level_allowed, let_value, is_function}
use Rattle.records.specs.Meaning.{definition_kind_of}
use Rattle.records.specs.declared.DefinitionKind.{DefinitionKind}
use Rattle.records.specs.contracts.DefinitionKind.{the_type}

pub other_than_function : (file words : List ℕ) (kind : DefinitionKind) → Among (1 ∷ 2 ∷ 3 ∷ 4 ∷ 5 ∷ 6 ∷ []) (tag_of the_type kind) → false ≡ is_function (definition_kind_of file words kind)
unfolding is_function
other_than_function file words (DefinitionKind.Function t l) h = absurd (miss (1 ∷ 2 ∷ 3 ∷ 4 ∷ 5 ∷ 6 ∷ []) 0 tt (opened h))
other_than_function file words (DefinitionKind.Struct l) h = refl
other_than_function file words (DefinitionKind.Const t e) h = refl
other_than_function file words (DefinitionKind.Let t e v l) h = refl
other_than_function file words (DefinitionKind.Parameter t) h = refl
other_than_function file words (DefinitionKind.Use m i) h = refl
other_than_function file words DefinitionKind.LoopVariable h = refl

pub other_than_let : (file words : List ℕ) (kind : DefinitionKind) → Among (0 ∷ 1 ∷ 2 ∷ 4 ∷ 5 ∷ 6 ∷ []) (tag_of the_type kind) → None ≡ let_value (definition_kind_of file words kind)
unfolding let_value
other_than_let file words (DefinitionKind.Function t l) h = refl
other_than_let file words (DefinitionKind.Struct l) h = refl
other_than_let file words (DefinitionKind.Const t e) h = refl
other_than_let file words (DefinitionKind.Let t e v l) h = absurd (miss (0 ∷ 1 ∷ 2 ∷ 4 ∷ 5 ∷ 6 ∷ []) 3 tt (opened h))
other_than_let file words (DefinitionKind.Parameter t) h = refl
other_than_let file words (DefinitionKind.Use m i) h = refl
other_than_let file words DefinitionKind.LoopVariable h = refl

pub top_level : (file words : List ℕ) (kind : DefinitionKind) → Among (0 ∷ 1 ∷ 5 ∷ []) (tag_of the_type kind) → true ≡ is_top_level_allowed (definition_kind_of file words kind)
unfolding is_top_level_allowed
top_level file words (DefinitionKind.Function t l) h = refl
top_level file words (DefinitionKind.Struct l) h = refl
top_level file words (DefinitionKind.Const t e) h = absurd (miss (0 ∷ 1 ∷ 5 ∷ []) 2 tt (opened h))
top_level file words (DefinitionKind.Let t e v l) h = absurd (miss (0 ∷ 1 ∷ 5 ∷ []) 3 tt (opened h))
top_level file words (DefinitionKind.Parameter t) h = absurd (miss (0 ∷ 1 ∷ 5 ∷ []) 4 tt (opened h))
top_level file words (DefinitionKind.Use m i) h = refl
top_level file words DefinitionKind.LoopVariable h = absurd (miss (0 ∷ 1 ∷ 5 ∷ []) 6 tt (opened h))

pub not_top_level : (file words : List ℕ) (kind : DefinitionKind) → Among (2 ∷ 3 ∷ 4 ∷ 6 ∷ []) (tag_of the_type kind) → false ≡ is_top_level_allowed (definition_kind_of file words kind)
unfolding is_top_level_allowed
not_top_level file words (DefinitionKind.Function t l) h = absurd (miss (2 ∷ 3 ∷ 4 ∷ 6 ∷ []) 0 tt (opened h))
not_top_level file words (DefinitionKind.Struct l) h = absurd (miss (2 ∷ 3 ∷ 4 ∷ 6 ∷ []) 1 tt (opened h))
not_top_level file words (DefinitionKind.Const t e) h = refl
not_top_level file words (DefinitionKind.Let t e v l) h = refl
not_top_level file words (DefinitionKind.Parameter t) h = refl
not_top_level file words (DefinitionKind.Use m i) h = absurd (miss (2 ∷ 3 ∷ 4 ∷ 6 ∷ []) 5 tt (opened h))
not_top_level file words DefinitionKind.LoopVariable h = refl
