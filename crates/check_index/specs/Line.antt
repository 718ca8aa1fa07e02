-- The line that `check_index` writes, byte for byte. Definitions only.
use Rattle.std.specs.Prelude.{ℕ, List, [], ◌∷◌, ◌++◌, length, Ok, Err}
use Rattle.model.specs.Common.{Text, bytes, total}
use Rattle.model.specs.Records.{Index}
use Rattle.model.specs.Limits.{scope_count, type_expr_count, definition_count, expression_count, item_count}
use Rattle.format.specs.Load.{Loading, accepted, refused}
use Rattle.resolution.specs.Answer.{decimal}
use Rattle.refusals.specs.Numbers.{file_refusal_number}
use Rattle.loader.specs.Load.{Loaded}
use Rattle.records.specs.Layout.{word, each, count_of, module_count, question_count, scope_rows, type_expr_rows, definition_rows, expression_rows}

-- a number behind a tab
abbrev pub tabbed : ℕ → Text
tabbed n = bytes "\t" ++ decimal n

-- the text, and then each number behind a tab
abbrev pub counted : Text → List ℕ → Text
counted t [] = t
counted t (n ∷ ns) = counted (t ++ tabbed n) ns

-- how many rows of a kind the modules have
abbrev pub row_total : List ℕ → ℕ → ℕ
row_total words kind = total (λ m. count_of words m kind) (each (λ m. m) 0 (module_count words))

-- how many modules, scopes, type expressions, definitions, expressions, questions and items the words hold
abbrev pub counts : List ℕ → List ℕ
counts words =
    module_count words
    ∷ row_total words scope_rows
    ∷ row_total words type_expr_rows
    ∷ row_total words definition_rows
    ∷ row_total words expression_rows
    ∷ question_count words
    ∷ word words 2
    ∷ []

abbrev pub accepted_line : List ℕ → Text
accepted_line words = counted (bytes "accepted") (counts words) ++ bytes "\n"

abbrev pub refused_line : ℕ → ℕ → Text
refused_line number line = counted (bytes "refused") (number ∷ line ∷ []) ++ bytes "\n"

abbrev pub line_of : Loaded → List ℕ → Text
line_of (Ok u) words = accepted_line words
line_of (Err e) words = refused_line (file_refusal_number e.refusal) e.line

-- ------------------------------------------------------------------ the line that the definition of loading sets out

abbrev pub index_counts : Index → ℕ → List ℕ
index_counts index items =
    length index.modules
    ∷ scope_count index
    ∷ type_expr_count index
    ∷ definition_count index
    ∷ expression_count index
    ∷ length index.questions
    ∷ items
    ∷ []

abbrev pub loading_line : Loading → Text
loading_line (accepted index) = counted (bytes "accepted") (index_counts index (item_count index)) ++ bytes "\n"
loading_line (refused number line) = refused_line number line
