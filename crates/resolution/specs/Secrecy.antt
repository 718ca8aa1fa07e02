-- Demand 3 about files: two files that loading does not refuse, whose indexes agree outside a function's body, and a question about the
-- outside that stands in both, at a place in each (document 01, "Inside a function"). Assumes nothing.
use Rattle.std.specs.Prelude.{ℕ, ◌≡◌}
use mathlib.Core.List.{◌++◌, Memᴰ}
use Rattle.std.specs.Prelude.{Option, Some}
use Rattle.std.specs.Prelude.{slice_get}
use Rattle.model.specs.Common.{Text}
use Rattle.model.specs.Records.{Name, TypeExpr, BinaryOp, Expression, ExpressionInfo, Question, Index}
use Rattle.model.specs.Links.{module_name, scope_in, type_in, definition_in, expression_in, link}
use Rattle.format.specs.Load.{accepted, load}
use Rattle.resolution.specs.Inside.{Body, IsBody, Inside, OutsideScope, OutsideDefinition, OutsideExpression, OutsideType, NothingLinksInside, AboutOutside}
use Rattle.resolution.specs.Asked.{Asked, Asks, HasLine, NumberOf}
use Rattle.resolution.specs.Answer.{Line}
use Rattle.resolution.specs.Resolve.{Reply, answer}

-- ------------------------------------------------------------------ agreement

-- each record outside in the first index stands in the second, outside too, under the same kind, module and number with the same fields
pub record StandsIn (first : Index) (first_body : Body) (second : Index) (second_body : Body) (asked : Asked) : Type 0 where
  pub modules : (m : ℕ) (name : Name) → module_name first m ≡ Some name → module_name second m ≡ Some name
  pub scopes : (m s : ℕ) (outside : OutsideScope first first_body m s)
      → (scope_in second m s ≡ Some outside.scope) × (Inside second second_body m s → ⊥)
  pub types : (m t : ℕ) (type : TypeExpr) → OutsideType first first_body asked m t → type_in first m t ≡ Some type
      → (type_in second m t ≡ Some type) × OutsideType second second_body asked m t
  pub definitions : (m d : ℕ) (outside : OutsideDefinition first first_body m d)
      → (definition_in second m d ≡ Some outside.definition) × (Inside second second_body m outside.definition.scope → ⊥)
  pub expressions : (m e : ℕ) (outside : OutsideExpression first first_body m e)
      → (expression_in second m e ≡ Some outside.expression) × (Inside second second_body m outside.expression.scope → ⊥)

-- "Two agree if each record outside in either stands in the other, outside too"; "two indexes that agree have one version"
pub record Agree (first second : Index) (first_body second_body : Body) (asked : Asked) : Type 0 where
  pub one_version : first.version ≡ second.version
  pub first_stands : StandsIn first first_body second second_body asked
  pub second_stands : StandsIn second second_body first first_body asked

-- What demand 3 supposes of two indexes, a body in each, and what a line is about: they agree outside the bodies, "nothing outside links inside", and
-- that is about the outside
pub record Supposed (first second : Index) (first_body second_body : Body) (asked : Asked) : Type 0 where
  pub first_is_body : IsBody first first_body
  pub second_is_body : IsBody second second_body
  pub agree : Agree first second first_body second_body asked
  pub first_no_links : NothingLinksInside first first_body
  pub second_no_links : NothingLinksInside second second_body
  pub first_about : AboutOutside first first_body asked
  pub second_about : AboutOutside second second_body asked

-- ------------------------------------------------------------------ files

-- the same of two files, a question with its place in each, and what one of its lines is about. "An index is accepted if loading it ends in no refusal"
pub record FilesSupposed (first_file second_file : Text) (first_place second_place : ℕ) (question : Question) (asked : Asked) : Type 0 where
  pub first : Index
  pub second : Index
  pub first_loaded : load first_file ≡ accepted first
  pub second_loaded : load second_file ≡ accepted second
  pub first_asked : slice_get first.questions first_place ≡ Some question
  pub second_asked : slice_get second.questions second_place ≡ Some question
  pub asks : Asks question asked
  pub first_body : Body
  pub second_body : Body
  pub supposed : Supposed first second first_body second_body asked

-- a line about it that the first file's question has is one of the second's, every byte and, where it is a refusal, its number
abbrev pub CarriesOver : Text → Text → ℕ → ℕ → Asked → Type 0
CarriesOver first_file second_file first_place second_place asked =
    (line_number : ℕ) (line : Line) → answer first_file first_place line_number ≡ Reply.the_line line → line.asked ≡ asked
    → (other_number : ℕ) × (answer second_file second_place other_number ≡ Reply.the_line line)

-- a line about it that a file's question has
pub record LineAbout (file : Text) (place : ℕ) (asked : Asked) : Type 0 where
  pub number : ℕ
  pub line : Line
  pub is : answer file place number ≡ Reply.the_line line
  pub about : line.asked ≡ asked

-- so both questions have the same line about it, or none; they have one where such a line is never lacking, and where it has a number of its own, the
-- replies at that number are the same
pub record SameLine (first_file second_file : Text) (first_place second_place : ℕ) (question : Question) (asked : Asked) : Type 0 where
  pub there : HasLine asked → LineAbout first_file first_place asked
  pub to_second : CarriesOver first_file second_file first_place second_place asked
  pub to_first : CarriesOver second_file first_file second_place first_place asked
  pub same_reply : (line_number : ℕ) → NumberOf question asked line_number
      → answer first_file first_place line_number ≡ answer second_file second_place line_number

-- "It may have different places among the Q of the two; compared is its answer line, every byte"
abbrev pub BodiesAreHidden : Type 0
BodiesAreHidden =
    (first_file second_file : Text) (first_place second_place : ℕ) (question : Question) (asked : Asked)
    → FilesSupposed first_file second_file first_place second_place question asked → SameLine first_file second_file first_place second_place question asked

-- ------------------------------------------------------------------ as document 01 words it

-- "Demand 3 also bars an outside `lit` as operand of a `bin` inside". (The theorem holds without it)
abbrev pub NoOutsideLiteralInBinary : Index → Body → Type 0
NoOutsideLiteralInBinary index body =
    (m e operand : ℕ) (inside : ExpressionInfo) → expression_in index m e ≡ Some inside → Inside index body m inside.scope
    → (op : BinaryOp) (left right : Option ℕ) → inside.node ≡ Expression.Binary op left right → Memᴰ operand (link left ++ link right)
    → (outside : OutsideExpression index body m operand) (suffix : Option Name) → outside.expression.node ≡ Expression.Literal suffix → ⊥

pub record FilesSupposedAsWorded (first_file second_file : Text) (first_place second_place : ℕ) (question : Question) (asked : Asked) : Type 0 where
  pub files : FilesSupposed first_file second_file first_place second_place question asked
  pub first_no_literal : NoOutsideLiteralInBinary files.first files.first_body
  pub second_no_literal : NoOutsideLiteralInBinary files.second files.second_body

-- demand 3
abbrev pub DemandThree : Type 0
DemandThree =
    (first_file second_file : Text) (first_place second_place : ℕ) (question : Question) (asked : Asked)
    → FilesSupposedAsWorded first_file second_file first_place second_place question asked → SameLine first_file second_file first_place second_place question asked
