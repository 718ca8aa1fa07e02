-- The first pass over the lines: form, place, last byte, module names and the limits. It ends at the first line with refusal 3 or 4.
-- Assumes nothing.
use Rattle.std.specs.Prelude.{ℕ, zero, suc, ◌+◌, List, [], ◌∷◌, ◌++◌, Bool, true, false, ◌&&◌, not, length, eqb, leb, ltb}
use Rattle.std.specs.Prelude.{Option, None, Some}
use Rattle.std.specs.Prelude.{if◌then◌else◌}
use Rattle.model.specs.Common.{Text, is_empty, is_none, let_some}
use Rattle.model.specs.Records.{Name, Scope, TypeExpr, Definition, ExpressionInfo, Module, Index}
use Rattle.model.specs.Lookups.{module_by_name}
use Rattle.model.specs.Limits.{
  max_modules,
  max_scopes,
  max_type_exprs,
  max_definitions,
  max_expressions,
  max_questions,
  max_items,
  scope_count,
  type_expr_count,
  definition_count,
  expression_count,
  item_count,
}
use Rattle.model.specs.Refusals.{refusal_limit, refusal_form}
use Rattle.format.specs.declared.LineWord.{LineWord}
use Rattle.format.specs.Words.{line_word_of}
use Rattle.format.specs.Fields.{field_of, behind}
use Rattle.format.specs.Lines.{Entry, a_module, a_scope, a_type, a_definition, an_expression, a_question, entry_items, Line, line_from}

-- ------------------------------------------------------------------ the index so far

abbrev pub empty_module : Name → Module
empty_module name = record { name = name; scopes = []; types = []; definitions = []; expressions = [] }

abbrev pub with_scope : Scope → Module → Module
with_scope r m =
    record { name = m.name; scopes = m.scopes ++ (r ∷ []); types = m.types; definitions = m.definitions; expressions = m.expressions }

abbrev pub with_type : TypeExpr → Module → Module
with_type r m =
    record { name = m.name; scopes = m.scopes; types = m.types ++ (r ∷ []); definitions = m.definitions; expressions = m.expressions }

abbrev pub with_definition : Definition → Module → Module
with_definition r m =
    record { name = m.name; scopes = m.scopes; types = m.types; definitions = m.definitions ++ (r ∷ []); expressions = m.expressions }

abbrev pub with_expression : ExpressionInfo → Module → Module
with_expression r m =
    record { name = m.name; scopes = m.scopes; types = m.types; definitions = m.definitions; expressions = m.expressions ++ (r ∷ []) }

-- the last of the modules changed
unfoldable pub on_last : (Module → Module) → List Module → List Module
on_last f [] = []
on_last f (m ∷ []) = f m ∷ []
on_last f (m ∷ m' ∷ ms) = m ∷ on_last f (m' ∷ ms)

abbrev in_last : (Module → Module) → Index → Index
in_last f index = record { version = index.version; modules = on_last f index.modules; questions = index.questions }

-- the index with one more line's record: it belongs to the last module
unfoldable pub add : Entry → Index → Index
add (a_module name) index =
    record { version = index.version; modules = index.modules ++ (empty_module name ∷ []); questions = index.questions }
add (a_scope r) index = in_last (with_scope r) index
add (a_type r) index = in_last (with_type r) index
add (a_definition r) index = in_last (with_definition r) index
add (an_expression r) index = in_last (with_expression r) index
add (a_question r) index =
    record { version = index.version; modules = index.modules; questions = index.questions ++ (r ∷ []) }

-- ------------------------------------------------------------------ limits, order and names

-- there is room for one more line of the kind
unfoldable pub has_line_room : LineWord → Index → Bool
has_line_room LineWord.M index = ltb (length index.modules) max_modules
has_line_room LineWord.S index = ltb (scope_count index) max_scopes
has_line_room LineWord.T index = ltb (type_expr_count index) max_type_exprs
has_line_room LineWord.D index = ltb (definition_count index) max_definitions
has_line_room LineWord.E index = ltb (expression_count index) max_expressions
has_line_room LineWord.Q index = ltb (length index.questions) max_questions

-- a module's "lines stand in the order M, S, T, D, E"; Q last: the stage of a line, and 0 before the first
abbrev pub stage_of : LineWord → ℕ
stage_of LineWord.M = 1
stage_of LineWord.S = 2
stage_of LineWord.T = 3
stage_of LineWord.D = 4
stage_of LineWord.E = 5
stage_of LineWord.Q = 6

-- a line of this kind may follow one of that stage
abbrev pub in_place : LineWord → ℕ → Bool
in_place LineWord.M stage = ltb stage 6
in_place LineWord.S stage = leb 1 stage && leb stage 2
in_place LineWord.T stage = leb 1 stage && leb stage 3
in_place LineWord.D stage = leb 1 stage && leb stage 4
in_place LineWord.E stage = leb 1 stage && leb stage 5
in_place LineWord.Q stage = true

-- "a module name again"
unfoldable pub is_again : Entry → Index → Bool
is_again (a_module name) index = not (is_none (module_by_name index name))
is_again (a_scope r) index = false
is_again (a_type r) index = false
is_again (a_definition r) index = false
is_again (an_expression r) index = false
is_again (a_question r) index = false

-- ------------------------------------------------------------------ one line

-- what was read: the stage of the last line, and the index so far
pub record Seen : Type 0 where
  pub stage : ℕ
  pub index : Index

-- a refusal, or what is seen then and where the next line begins
pub data Step : Type 0 where
  refuse : ℕ → Step
  go : Seen → Text → Step

-- behind the LF that must stand here
abbrev pub ended : Seen → Text → Step
ended s [] = refuse refusal_form
ended s (b ∷ t) = if eqb b 10 then go s t else refuse refusal_form

-- wrong form 4; too many items 3; wrong place or a module name again 4; no LF 4, in this order:
-- "3 first; .. items only in lines of right form"
abbrev pub judged : LineWord → Seen → Option Line → Step
judged w s None = refuse refusal_form
judged w s (Some l) =
    if ltb max_items (item_count s.index + entry_items l.entry)
    then refuse refusal_limit
    else if in_place w s.stage && not (is_again l.entry s.index)
    then ended (record { stage = stage_of w; index = add l.entry s.index }) l.rest
    else refuse refusal_form

-- "a line counts by its first field": too many lines of the kind 3, before all else
abbrev pub counted : LineWord → Seen → Text → Step
counted w s t = elim (has_line_room w s.index) [ true ↦ judged w s (line_from w t) | false ↦ refuse refusal_limit ]

-- the line that begins here: its first field is one of the six words, else 4
unfoldable pub step_on : Seen → Text → Step
step_on s t = let_some (line_word_of (field_of t)) (refuse refusal_form) λ w. counted w s (behind t)

-- ------------------------------------------------------------------ all lines

-- what was read, or a refusal with its line
pub data First : Type 0 where
  read : Index → First
  wrong : ℕ → ℕ → First

-- n bounds the number of lines, of which the first has the number `line`
unfoldable pub lines_within : ℕ → ℕ → Seen → Text → First
lines_within zero line s t = wrong refusal_form line
lines_within (suc n) line s t =
    elim (is_empty t) [
      | true ↦ read s.index
      | false ↦ elim (step_on s t) [ refuse k ↦ wrong k line | go s₁ t₁ ↦ lines_within n (suc line) s₁ t₁ ]
    ]

-- the lines behind the first one, line 2 on; their bytes are more than they (`lines_enough`)
unfoldable pub first_pass : ℕ → Text → First
first_pass version t =
    lines_within (suc (length t)) 2 (record { stage = 0; index = record { version = version; modules = []; questions = [] } }) t
