-- What loading promises. Assumes nothing.
use Rattle.std.specs.Prelude.{ℕ, ◌≡◌, List, length, take, drop, replicate, Result, Ok, Err}
use Rattle.model.specs.Common.{Text}
use Rattle.model.specs.Limits.{record_words, item_count}
use Rattle.format.specs.Load as format
use Rattle.records.specs.Layout.{word, index_of}
use Rattle.refusals.specs.declared.FileRefusal.{FileRefusal}
use Rattle.refusals.specs.declared.FileRefused.{FileRefused}
use Rattle.refusals.specs.Numbers.{file_refusal_number}

-- what loading ends in: the words hold the index of an accepted file, or the file is refused
abbrev pub Loaded : Type 0
Loaded = Result (Unit {0}) FileRefused

abbrev pub loaded_is : Text → List ℕ → Loaded → format.Loading
loaded_is file words (Ok u) = format.accepted (index_of file words)
loaded_is file words (Err e) = format.refused (file_refusal_number e.refusal) e.line

-- word 2 of the header is the number of the items
abbrev pub ItemsCounted : Text → List ℕ → Loaded → Type 0
ItemsCounted file words (Ok u) = word words 2 ≡ item_count (index_of file words)
ItemsCounted file words (Err e) = Unit {0}

-- the words are all zero where a file is refused
abbrev pub Cleared : List ℕ → Loaded → Type 0
Cleared words (Ok u) = Unit {0}
Cleared words (Err e) = words ≡ replicate record_words 0

pub record FilePut (file words : List ℕ) (r : Loaded) : Type 0 where
  pub long : length words ≡ record_words
  pub is : loaded_is file words r ≡ format.load file
  pub items : ItemsCounted file words r

pub record WordsPut (file words : List ℕ) (r : Loaded) : Type 0 where
  pub put : FilePut file words r
  pub cleared : Cleared words r

-- a buffer that is long enough: its first words, and those behind them
pub record Filled (file before after : List ℕ) (r : Loaded) : Type 0 where
  pub is : loaded_is file (take record_words after) r ≡ format.load file
  pub items : ItemsCounted file (take record_words after) r
  pub cleared : Cleared (take record_words after) r
  pub behind : drop record_words after ≡ drop record_words before
  pub long : length after ≡ length before

-- a shorter one
pub record Short (before after : List ℕ) (r : Loaded) : Type 0 where
  pub is : r ≡ Err (record { refusal = FileRefusal.ShortBuffer; line = 0 })
  pub same : after ≡ before
