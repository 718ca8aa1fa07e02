-- The lines of an index file, each kind by itself: the record that a line stands for. Assumes nothing.
use Rattle.std.specs.Prelude.{ℕ}
use Rattle.std.specs.Prelude.{Option, None, Some}
use Rattle.model.specs.Common.{Text, let_some}
use Rattle.model.specs.Records.{Name, Scope, TypeExpr, DefinitionKind, Definition, Origin, Expression, ExpressionInfo, Question}
use Rattle.model.specs.Limits.{type_expr_items, definition_items, expression_items}
use Rattle.format.specs.declared.Kind.{Kind}
use Rattle.format.specs.declared.LineWord.{LineWord}
use Rattle.format.specs.Words.{scope_word_of, type_word_of, definition_word_of, origin_word_of, node_word_of, question_word_of}
use Rattle.format.specs.Fields.{field_of, behind, behind_tab, slot}
use Rattle.format.specs.Tails.{Three, three, tail}
use Rattle.format.specs.Shapes.{num, maybe_num, txt, bare, module_shape, scope_as, type_shape, type_as, definition_shape, definition_as, origin_shape, origin_as, node_shape, node_as, question_shape, question_as}

-- ------------------------------------------------------------------ a line

-- the record of a line, by its kind
pub data Entry : Type 0 where
  a_module : Name → Entry
  a_scope : Scope → Entry
  a_type : TypeExpr → Entry
  a_definition : Definition → Entry
  an_expression : ExpressionInfo → Entry
  a_question : Question → Entry

-- the items of its `..` list
unfoldable pub entry_items : Entry → ℕ
entry_items (a_module name) = 0
entry_items (a_scope scope) = 0
entry_items (a_type type) = type_expr_items type
entry_items (a_definition definition) = definition_items definition
entry_items (an_expression expression) = expression_items expression
entry_items (a_question question) = 0

-- a line that was read: its record, and what is left behind it
pub record Line : Type 0 where
  pub entry : Entry
  pub rest : Text

abbrev pub line : Entry → Text → Line
line entry rest = record { entry = entry; rest = rest }

-- the word behind the tab that stands here, and what is left behind it; none where the field is no word of its place
pub record WordRead (A : Type 0) : Type 0 where
  pub word : A
  pub rest : Text

unfoldable pub word_here : {A : Type 0} → (Text → Option A) → Text → Option (WordRead A)
word_here word_of t =
    let_some (behind_tab t) None λ u. let_some (word_of (field_of u)) None λ w. Some (record { word = w; rest = behind u })

-- ------------------------------------------------------------------ the six kinds, behind the first field

unfoldable pub module_line : Text → Option Line
module_line t = let_some (tail module_shape t) None λ x. Some (line (a_module (txt x.a)) x.rest)

unfoldable pub scope_line : Text → Option Line
scope_line t =
    let_some (slot Kind.MaybeNumber t) None λ p.
    let_some (word_here scope_word_of p.rest) None λ w.
    let_some (tail bare w.rest) None λ x.
    let_some (scope_as (maybe_num p.value) w.word) None λ scope. Some (line (a_scope scope) x.rest)

unfoldable pub type_line : Text → Option Line
type_line t =
    let_some (word_here type_word_of t) None λ w.
    let_some (tail (type_shape w.word) w.rest) None λ x. Some (line (a_type (type_as w.word x)) x.rest)

-- h: scope, name and start of name_span; k: end of name_span, start and end of full_span
abbrev pub definition_from : Three → Three → DefinitionKind → Definition
definition_from h k kind =
    record {
      scope = num h.a;
      name = txt h.b;
      name_start = num h.c;
      name_end = num k.a;
      full_start = num k.b;
      full_end = num k.c;
      kind = kind;
    }

unfoldable pub definition_line : Text → Option Line
definition_line t =
    let_some (three Kind.Number Kind.Name Kind.Position t) None λ h.
    let_some (three Kind.Position Kind.Position Kind.Position h.rest) None λ k.
    let_some (word_here definition_word_of k.rest) None λ w.
    let_some (tail (definition_shape w.word) w.rest) None λ x.
    let_some (definition_as w.word x) None λ kind.
    Some (line (a_definition (definition_from h k kind)) x.rest)

-- h: scope, start, end; k: expected t and recorded definition
abbrev pub expression_from : Three → Three → Origin → Expression → ExpressionInfo
expression_from h k origin node =
    record {
      scope = num h.a;
      start = num h.b;
      end = num h.c;
      expected = maybe_num k.a;
      definition = maybe_num k.b;
      origin = origin;
      node = node;
    }

-- an expression's origin, and what is left behind it
pub record OriginRead : Type 0 where
  pub origin : Origin
  pub rest : Text

unfoldable pub origin_here : Text → Option OriginRead
origin_here t =
    let_some (word_here origin_word_of t) None λ v.
    let_some (three (origin_shape v.word).a (origin_shape v.word).b Kind.Nothing v.rest) None λ o.
    Some (record { origin = origin_as v.word o; rest = o.rest })

unfoldable pub expression_line : Text → Option Line
expression_line t =
    let_some (three Kind.Number Kind.Position Kind.Position t) None λ h.
    let_some (three Kind.MaybeNumber Kind.MaybeNumber Kind.Nothing h.rest) None λ k.
    let_some (origin_here k.rest) None λ o.
    let_some (word_here node_word_of o.rest) None λ w.
    let_some (tail (node_shape w.word) w.rest) None λ x.
    Some (line (an_expression (expression_from h k o.origin (node_as w.word x))) x.rest)

unfoldable pub question_line : Text → Option Line
question_line t =
    let_some (word_here question_word_of t) None λ w.
    let_some (tail (question_shape w.word) w.rest) None λ x. Some (line (a_question (question_as w.word x)) x.rest)

-- the line of a kind, behind its first field; none where its form is wrong
unfoldable pub line_from : LineWord → Text → Option Line
line_from LineWord.M t = module_line t
line_from LineWord.S t = scope_line t
line_from LineWord.T t = type_line t
line_from LineWord.D t = definition_line t
line_from LineWord.E t = expression_line t
line_from LineWord.Q t = question_line t
