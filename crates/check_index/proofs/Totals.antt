-- How many records the words hold, and how many the index that they hold has. Assumes nothing.
use Prim.Native.Nat.{ℕ, zero, suc, ◌+◌}
use mathlib.Core.Path.{◌≡◌, refl, sym, ap, ap₂, subst, ◌∙◌}
use mathlib.Core.List.{List, [], ◌∷◌, ◌++◌, map}
use Rattle.std.specs.List.{range_with_len, sum}
use Rattle.std.proofs.lemmas.List.Sums.{sum-map}
use Rattle.std.proofs.lemmas.List.Recursion.{is_sum_by}
use native.Mathlib.Numerals.{add-one}
use Rattle.std.specs.Prelude.{Ok, Err}
use native.Mathlib.Omega.{arith}
use lib.ListN.{length, take}
use lib.Seq.{take_all}
use Rattle.model.specs.Common.{bytes, total}
use Rattle.model.specs.Records.{Index}
use Rattle.model.specs.Limits.{scope_count, type_expr_count, definition_count, expression_count, item_count, record_words}
use Rattle.format.specs.Load.{accepted, load}
use Rattle.records.specs.Layout.{word, each, rows_of, count_of, begin_of, module_row, index_of, module_count, question_count}
use Rattle.records.specs.Layout.{scope_row, type_expr_row, definition_row, expression_row, question_row}
use Rattle.records.specs.Layout.{scope_rows, type_expr_rows, definition_rows, expression_rows}
use Rattle.records.proofs.Lists.{each_length}
use Rattle.check_index.specs.Line.{counted, counts, row_total, accepted_line, index_counts, line_of, loading_line}
use Rattle.loader.specs.Load.{Loaded, loaded_is, ItemsCounted, Filled}

-- ------------------------------------------------------------------ the sum over the modules

numbers_are : (first count : ℕ) → range_with_len first count ≡ each (λ m. m) first count
unfolding each
numbers_are first zero = refl
numbers_are first (suc count) = ap (λ ms. first ∷ ms) (ap (λ m. range_with_len m count) (add-one first) ∙ numbers_are (suc first) count)

-- the sum of f over numbers that follow each other
pub sum_is : (f : ℕ → ℕ) (first count : ℕ) → sum (map f (range_with_len first count)) ≡ total f (each (λ m. m) first count)
unfolding total
sum_is f first count =
    sum-map f (range_with_len first count)
    ∙ sym (is_sum_by (total f) f refl (λ _ _. refl) (range_with_len first count))
    ∙ ap (total f) (numbers_are first count)

-- ------------------------------------------------------------------ the index that the words hold

-- a sum over rows, and over what they hold
total_each :
    {A : Type 0} (f : A → ℕ) (g : ℕ → A) (h : ℕ → ℕ) → ((m : ℕ) → f (g m) ≡ h m) → (first count : ℕ)
    → total f (each g first count) ≡ total h (each (λ m. m) first count)
unfolding total each
total_each f g h same first zero = refl
total_each f g h same first (suc count) = ap₂ ◌+◌ (same first) (total_each f g h same (suc first) count)

length_rows :
    {A : Type 0} (row : ℕ → A) (words : List ℕ) (m kind : ℕ) → length (rows_of row words m kind) ≡ count_of words m kind
unfolding rows_of
length_rows row words m kind = each_length row (begin_of words m kind) (count_of words m kind)

cons₇ :
    {a b c d e f a' b' c' d' e' f' g : ℕ} → a ≡ a' → b ≡ b' → c ≡ c' → d ≡ d' → e ≡ e' → f ≡ f'
    → (a ∷ b ∷ c ∷ d ∷ e ∷ f ∷ g ∷ []) ≡ (a' ∷ b' ∷ c' ∷ d' ∷ e' ∷ f' ∷ g ∷ [])
cons₇ p q r s t u = cc

-- the counts of the words are those of the index, whatever words they are
module _ (file words : List ℕ) where
  pub module_counts : length (index_of file words).modules ≡ module_count words
  unfolding index_of
  module_counts = each_length (module_row file words) 0 (module_count words)

  pub question_counts : length (index_of file words).questions ≡ question_count words
  unfolding index_of
  question_counts = each_length (question_row words) 0 (question_count words)

  pub scope_counts : scope_count (index_of file words) ≡ row_total words scope_rows
  unfolding scope_count index_of module_row
  scope_counts =
      total_each _ (module_row file words) (λ m. count_of words m scope_rows) (λ m. length_rows (scope_row words) words m scope_rows) 0
      (module_count words)

  pub type_expr_counts : type_expr_count (index_of file words) ≡ row_total words type_expr_rows
  unfolding type_expr_count index_of module_row
  type_expr_counts =
      total_each _ (module_row file words) (λ m. count_of words m type_expr_rows)
      (λ m. length_rows (type_expr_row file words) words m type_expr_rows) 0 (module_count words)

  pub definition_counts : definition_count (index_of file words) ≡ row_total words definition_rows
  unfolding definition_count index_of module_row
  definition_counts =
      total_each _ (module_row file words) (λ m. count_of words m definition_rows)
      (λ m. length_rows (definition_row file words) words m definition_rows) 0 (module_count words)

  pub expression_counts : expression_count (index_of file words) ≡ row_total words expression_rows
  unfolding expression_count index_of module_row
  expression_counts =
      total_each _ (module_row file words) (λ m. count_of words m expression_rows)
      (λ m. length_rows (expression_row file words) words m expression_rows) 0 (module_count words)

  pub counts_of_index : counts words ≡ index_counts (index_of file words) (word words 2)
  counts_of_index =
      cons₇ (sym module_counts) (sym scope_counts) (sym type_expr_counts) (sym definition_counts) (sym expression_counts) (sym question_counts)

-- the line of accepted words is the definition's, where the words hold its index and its number of items
pub accepted_line_is :
    (file words : List ℕ) (index : Index) → index_of file words ≡ index → word words 2 ≡ item_count index
    → accepted_line words ≡ loading_line (accepted index)
accepted_line_is file words index e i =
    ap (λ (ns : List ℕ). counted (bytes "accepted") ns ++ bytes "\n")
    (counts_of_index file words ∙ ap₂ index_counts e i)

-- a buffer of just the record words
pub line_is : (file before words : List ℕ) (loaded : Loaded) → length words ≡ record_words → Filled file before words loaded → line_of loaded words ≡ loading_line (load file)
line_is file before words loaded long filled =
    of loaded (subst (λ w. loaded_is file w loaded ≡ load file) all filled.is) (subst (λ w. ItemsCounted file w loaded) all filled.items)
  where
    all : take record_words words ≡ words
    all = take_all record_words words (omega (arith, long))

    of : (r : Loaded) → loaded_is file words r ≡ load file → ItemsCounted file words r → line_of r words ≡ loading_line (load file)
    of (Ok u) e items = accepted_line_is file words (index_of file words) refl items ∙ ap loading_line e
    of (Err x) e items = ap loading_line e
