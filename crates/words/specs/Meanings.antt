-- Which word a field is at each place, by the place's table. Assumes nothing.
use mathlib.Core.Path.{◌≡◌, refl}
use Rattle.model.specs.Common.{Text}
use Rattle.format.specs.Words.{
  word_in,
  line_words,
  scope_words,
  type_words,
  definition_words,
  origin_words,
  node_words,
  question_words,
  line_word_of,
  scope_word_of,
  type_word_of,
  definition_word_of,
  origin_word_of,
  node_word_of,
  question_word_of,
}

pub line_by_words : (field : Text) → word_in line_words field ≡ line_word_of field
unfolding line_word_of
line_by_words field = refl

pub scope_by_words : (field : Text) → word_in scope_words field ≡ scope_word_of field
unfolding scope_word_of
scope_by_words field = refl

pub type_by_words : (field : Text) → word_in type_words field ≡ type_word_of field
unfolding type_word_of
type_by_words field = refl

pub definition_by_words : (field : Text) → word_in definition_words field ≡ definition_word_of field
unfolding definition_word_of
definition_by_words field = refl

pub origin_by_words : (field : Text) → word_in origin_words field ≡ origin_word_of field
unfolding origin_word_of
origin_by_words field = refl

pub node_by_words : (field : Text) → word_in node_words field ≡ node_word_of field
unfolding node_word_of
node_by_words field = refl

pub question_by_words : (field : Text) → word_in question_words field ≡ question_word_of field
unfolding question_word_of
question_by_words field = refl
