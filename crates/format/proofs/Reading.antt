-- What a line that was read holds: a record of its kind, a root scope that is a module's, a question's numbers below 65,536 or 2^32. Assumes nothing.
use Prim.Native.Nat.{ℕ, ◌≤◌}
use native.Mathlib.Omega.{arith}
use mathlib.Core.Path.{◌≡◌, refl, sym, subst}
use mathlib.Core.Bool.{Bool, true, false}
use Rattle.std.specs.Prelude.{Option, None, Some}
use lib.Dec.{leb}
use Rattle.model.specs.Common.{Text, let_some}
use Rattle.model.specs.Records.{Name, ScopeKind, Scope, TypeExpr, Definition, ExpressionInfo, Question}
use Rattle.model.specs.Limits.{max_number, max_position}
use Rattle.model.specs.WellFormed.{QuestionNumbers}
use Rattle.model.proofs.Tests.{leb_le, none≢some}
use Rattle.format.specs.declared.Kind.{Kind}
use Rattle.format.specs.declared.Shape.{Shape}
use Rattle.format.specs.declared.LineWord.{LineWord}
use Rattle.format.specs.declared.ScopeWord.{ScopeWord}
use Rattle.format.specs.declared.QuestionWord.{QuestionWord}
use Rattle.format.specs.Words.{scope_word_of, type_word_of, definition_word_of, node_word_of, question_word_of}
use Rattle.format.specs.Fields.{only_if, plain_number, number_of, numbered, value_of, Value, absent, number, Read, reading, behind, field_of, behind_tab, slot_field, is_nothing, slot}
use Rattle.format.specs.Tails.{three, items, Tail, tail}
use Rattle.format.specs.Shapes.{num, maybe_num, bare, module_shape, scope_as, type_shape, definition_shape, definition_as, node_shape, question_shape, question_as}
use Rattle.format.specs.Lines.{Entry, a_module, a_scope, a_type, a_definition, an_expression, a_question, Line, word_here, origin_here, module_line, scope_line, type_line, definition_line, expression_line, question_line, line_from}

-- ------------------------------------------------------------------ what is known of a result, if there is one

pub data Every {A : Type 0} (P : A → Type 0) : Option A → Type 0 where
  nothing : Every P None
  this : (x : A) → P x → Every P (Some x)

pub every_some : {A : Type 0} {P : A → Type 0} {o : Option A} {x : A} → Every P o → o ≡ Some x → P x
every_some {P = P} {x = x} h e = of (subst (Every P) e h)
  where
    of : Every P (Some x) → P x
    of (this y p) = p

-- one reading after the other
pub every_then : {A B : Type 0} {P : A → Type 0} {Q : B → Type 0} {o : Option A} {k : A → Option B}
    → Every P o → ((x : A) → P x → Every Q (k x)) → Every Q (let_some o None k)
every_then nothing f = nothing
every_then (this x p) f = f x p

-- after a reading of which nothing has to be known
pub every_after : {A B : Type 0} {Q : B → Type 0} (o : Option A) {k : A → Option B} → ((x : A) → Every Q (k x)) → Every Q (let_some o None k)
every_after None f = nothing
every_after (Some x) f = f x

-- ------------------------------------------------------------------ numbers up to a bound

abbrev Small : ℕ → Value → Type 0
Small most v = num v ≤ most

number_small : (most : ℕ) (u : Text) → Every (Small most) (numbered (number_of most u))
unfolding number_of
number_small most u = of (plain_number u)
  where
    bounded : (n : ℕ) (b : Bool) → leb n most ≡ b → Every (Small most) (numbered (only_if b n))
    bounded n true e = this (number n) (leb_le n most e)
    bounded n false e = nothing

    of : (o : Option ℕ) → Every (Small most) (numbered (let_some o None λ n. only_if (leb n most) n))
    of None = nothing
    of (Some n) = bounded n (leb n most) refl

abbrev SmallKind : ℕ → Kind → Type 0
SmallKind most k = (u : Text) → Every (Small most) (value_of k u)

link_small : SmallKind max_number Kind.Number
unfolding value_of
link_small u = number_small max_number u

position_small : SmallKind max_position Kind.Position
unfolding value_of
position_small u = number_small max_position u

slot_small : (most : ℕ) (k : Kind) → SmallKind most k → (t : Text) → Every (λ (r : Read). Small most r.value) (slot k t)
unfolding slot slot_field
slot_small most k small t = of (is_nothing k)
  where
    held : (u : Text) {o : Option Value} → Every (Small most) o → Every (λ (r : Read). Small most r.value) (reading u o)
    held u nothing = nothing
    held u (this v h) = this (record { value = v; rest = u }) h

    of : (b : Bool) → Every (λ (r : Read). Small most r.value) (elim b [ true ↦ Some (record { value = absent; rest = t }) | false ↦ slot_field k t ])
    of true = this (record { value = absent; rest = t }) (omega arith)
    of false = every_after (behind_tab t) λ u. held (behind u) (small (field_of u))

record SmallTail (most_a most_b : ℕ) (x : Tail) : Type 0 where
  a : Small most_a x.a
  b : Small most_b x.b

tail_small : (s : Shape) (most_a most_b : ℕ) → SmallKind most_a s.a → SmallKind most_b s.b → (t : Text) → Every (SmallTail most_a most_b) (tail s t)
unfolding tail three
tail_small s most_a most_b small_a small_b t =
    every_then {P = λ h. (Small most_a h.a) × (Small most_b h.b)}
    (every_then (slot_small most_a s.a small_a t) λ x p.
    every_then (slot_small most_b s.b small_b x.rest) λ y q.
    every_after (slot s.c y.rest) λ z. this (record { a = x.value; b = y.value; c = z.value; rest = z.rest }) (p, q))
    λ h small.
    every_after (items s.list h.rest) λ r.
    this (record { a = h.a; b = h.b; c = h.c; list = r.list; rest = r.rest }) (record { a = small.0; b = small.1 })

-- the second number of a question is a link, or a position
abbrev most_second : QuestionWord → ℕ
most_second QuestionWord.Expr = max_number
most_second QuestionWord.Def = max_number
most_second QuestionWord.OfType = max_number
most_second QuestionWord.At = max_position

question_tail : (w : QuestionWord) (t : Text) → Every (SmallTail max_number (most_second w)) (tail (question_shape w) t)
question_tail QuestionWord.Expr t = tail_small (question_shape QuestionWord.Expr) max_number max_number link_small link_small t
question_tail QuestionWord.Def t = tail_small (question_shape QuestionWord.Def) max_number max_number link_small link_small t
question_tail QuestionWord.OfType t = tail_small (question_shape QuestionWord.OfType) max_number max_number link_small link_small t
question_tail QuestionWord.At t = tail_small (question_shape QuestionWord.At) max_number max_position link_small position_small t

question_small : (w : QuestionWord) (x : Tail) → SmallTail max_number (most_second w) x → QuestionNumbers (question_as w x)
unfolding question_as
question_small QuestionWord.Expr x small = (small.a, small.b)
question_small QuestionWord.Def x small = (small.a, small.b)
question_small QuestionWord.OfType x small = (small.a, small.b)
question_small QuestionWord.At x small = (small.a, small.b)

-- ------------------------------------------------------------------ a scope without parent

-- "`module` (with `-` and only then)"
abbrev pub RootKind : Scope → Type 0
RootKind scope = scope.parent ≡ None → scope.kind ≡ ScopeKind.ModuleScope

some_parent : (p : ℕ) (kind : ScopeKind) → RootKind (record { parent = Some p; kind = kind })
some_parent p kind e = absurd (none≢some (sym e))

scope_kind : (parent : Option ℕ) (w : ScopeWord) → Every RootKind (scope_as parent w)
unfolding scope_as
scope_kind None ScopeWord.Module = this (record { parent = None; kind = ScopeKind.ModuleScope }) (λ e. refl)
scope_kind None ScopeWord.Function = nothing
scope_kind None ScopeWord.Block = nothing
scope_kind None ScopeWord.Loop = nothing
scope_kind (Some p) ScopeWord.Module = nothing
scope_kind (Some p) ScopeWord.Function = this (record { parent = Some p; kind = ScopeKind.FunctionScope }) (some_parent p ScopeKind.FunctionScope)
scope_kind (Some p) ScopeWord.Block = this (record { parent = Some p; kind = ScopeKind.BlockScope }) (some_parent p ScopeKind.BlockScope)
scope_kind (Some p) ScopeWord.Loop = this (record { parent = Some p; kind = ScopeKind.LoopScope }) (some_parent p ScopeKind.LoopScope)

-- ------------------------------------------------------------------ a line of a kind

-- a record of the line's kind, with what reading it makes sure of
pub data EntryOf : LineWord → Entry → Type 0 where
  module_entry : (name : Name) → EntryOf LineWord.M (a_module name)
  scope_entry : (scope : Scope) → RootKind scope → EntryOf LineWord.S (a_scope scope)
  type_entry : (type : TypeExpr) → EntryOf LineWord.T (a_type type)
  definition_entry : (definition : Definition) → EntryOf LineWord.D (a_definition definition)
  expression_entry : (expression : ExpressionInfo) → EntryOf LineWord.E (an_expression expression)
  question_entry : (question : Question) → QuestionNumbers question → EntryOf LineWord.Q (a_question question)

pub every_line : (w : LineWord) (t : Text) → Every (λ (l : Line). EntryOf w l.entry) (line_from w t)
unfolding line_from module_line scope_line type_line definition_line expression_line question_line
every_line LineWord.M t = every_after (tail module_shape t) λ x. this _ (module_entry _)
every_line LineWord.S t =
    every_after (slot Kind.MaybeNumber t) λ p.
    every_after (word_here scope_word_of p.rest) λ w.
    every_after (tail bare w.rest) λ x.
    every_then (scope_kind (maybe_num p.value) w.word) λ scope kind. this _ (scope_entry scope kind)
every_line LineWord.T t =
    every_after (word_here type_word_of t) λ w.
    every_after (tail (type_shape w.word) w.rest) λ x. this _ (type_entry _)
every_line LineWord.D t =
    every_after (three Kind.Number Kind.Name Kind.Position t) λ h.
    every_after (three Kind.Position Kind.Position Kind.Position h.rest) λ k.
    every_after (word_here definition_word_of k.rest) λ w.
    every_after (tail (definition_shape w.word) w.rest) λ x.
    every_after (definition_as w.word x) λ kind. this _ (definition_entry _)
every_line LineWord.E t =
    every_after (three Kind.Number Kind.Position Kind.Position t) λ h.
    every_after (three Kind.MaybeNumber Kind.MaybeNumber Kind.Nothing h.rest) λ k.
    every_after (origin_here k.rest) λ o.
    every_after (word_here node_word_of o.rest) λ w.
    every_after (tail (node_shape w.word) w.rest) λ x. this _ (expression_entry _)
every_line LineWord.Q t =
    every_after (word_here question_word_of t) λ w.
    every_then (question_tail w.word w.rest) λ x small. this _ (question_entry (question_as w.word x) (question_small w.word x small))
