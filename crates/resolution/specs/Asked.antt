-- What an answer line is about. A question has a list of these, in the order of its lines, and each has one line or none. Assumes nothing.
use Rattle.std.specs.Prelude.{ℕ, ◌≡◌, List, [], ◌∷◌}
use Rattle.std.specs.Prelude.{Option}
use Rattle.model.specs.Records.{Question, Index}
use Rattle.model.specs.Links.{link}
use Rattle.model.specs.Limits.{max_expressions}

pub data Asked : Type 0 where
  -- module, e, context t
  expr : ℕ → ℕ → Option ℕ → Asked
  -- module, d
  def : ℕ → ℕ → Asked
  -- module, t, scope
  type : ℕ → ℕ → ℕ → Asked
  -- module, position
  at : ℕ → ℕ → Asked

-- its module, and the T that it names
unfoldable pub asked_module : Asked → ℕ
asked_module (Asked.expr m e context) = m
asked_module (Asked.def m d) = m
asked_module (Asked.type m t s) = m
asked_module (Asked.at m position) = m

unfoldable pub asked_types : Asked → List ℕ
asked_types (Asked.expr m e context) = link context
asked_types (Asked.def m d) = []
asked_types (Asked.type m t s) = t ∷ []
asked_types (Asked.at m position) = []

-- ------------------------------------------------------------------ questions

-- "One line a question"
unfoldable pub question_asked : Index → Question → List Asked
question_asked index (Question.expr m e context) = Asked.expr m e context ∷ []
question_asked index (Question.def m d) = Asked.def m d ∷ []
question_asked index (Question.type m t s) = Asked.type m t s ∷ []
question_asked index (Question.at m position) = Asked.at m position ∷ []

-- the question may ask it, whatever the index is
abbrev pub Asks : Question → Asked → Type 0
Asks (Question.expr m e context) asked = asked ≡ Asked.expr m e context
Asks (Question.def m d) asked = asked ≡ Asked.def m d
Asks (Question.type m t s) asked = asked ≡ Asked.type m t s
Asks (Question.at m position) asked = asked ≡ Asked.at m position

-- in every index there is a line about it
abbrev pub HasLine : Asked → Type 0
HasLine (Asked.expr m e context) = Unit {0}
HasLine (Asked.def m d) = Unit {0}
HasLine (Asked.type m t s) = Unit {0}
HasLine (Asked.at m position) = Unit {0}

-- no question has more lines than a file may have expressions
abbrev pub max_lines : ℕ
max_lines = max_expressions

-- in every index the question has at this number the line about it, or none; of a question that asks one thing that is so of any number
abbrev pub NumberOf : Question → Asked → ℕ → Type 0
NumberOf (Question.expr m e context) asked number = Unit {0}
NumberOf (Question.def m d) asked number = Unit {0}
NumberOf (Question.type m t s) asked number = Unit {0}
NumberOf (Question.at m position) asked number = Unit {0}
