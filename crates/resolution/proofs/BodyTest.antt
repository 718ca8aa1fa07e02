-- What demand 3 supposes of one index and a body in it, as tests that compute: which scopes are inside, that no link leads inside, which T count
-- as outside, that a line is about the outside; and what is outside, as a value that two indexes have in common. What each test says
-- where it passes. Assumes nothing.
use Prim.Native.Nat.{ℕ, zero, suc}
use mathlib.Core.Path.{◌≡◌, refl, sym, ◌∙◌, ap, subst}
use mathlib.Core.Bool.{Bool, true, false, not, ◌&&◌, ◌||◌, false≢true}
use mathlib.Core.List.{List, [], ◌∷◌, ◌++◌, Memᴰ}
use Rattle.std.specs.Prelude.{Option, None, Some}
use lib.Dec.{eqb}
use Rattle.std.specs.Prelude.{slice_get}
use Rattle.std.specs.Prelude.{if◌then◌else◌}
use Rattle.model.specs.Common.{let_some, any, every}
use Rattle.model.specs.Records.{Name, ScopeKind, Scope, TypeExpr, Definition, Expression, ExpressionInfo, Module, Index}
use Rattle.model.specs.Lookups.{module_at, scope_at, parent, chain_from, scope_chain, among, covers}
use Rattle.model.specs.Links.{scope_in, type_in, definition_in, expression_in, link, type_types, definition_types, definition_expressions, expression_types, expression_definitions, expression_expressions}
use Rattle.model.specs.WellFormed.{Present, WellFormed}
use Rattle.model.proofs.Tests.{and_left, and_right, or_right, under, not-true, eqb_sound, eqb_self, none≢some, some-injective, some_of}
use Rattle.model.proofs.ScopeChain.{scope_chain_step}
use Rattle.resolution.specs.Asked.{Asked, asked_module, asked_types}
use Rattle.resolution.specs.Inside.{Body, IsBody, Inside, body_scope, below, OutsideScope, OutsideDefinition, OutsideExpression, OutsideType, definition_names, expression_names, type_names, question_names, NothingLinksInside, NotCoveredInside, AboutOutside}
use Rattle.resolution.specs.Secrecy.{NoOutsideLiteralInBinary}

-- ------------------------------------------------------------------ lists

every_of : {A : Type 0} (test : A → Bool) (xs : List A) (x : A) → every test xs ≡ true → Memᴰ x xs → test x ≡ true
every_of {A = A} test [] x h x4 = elim x4 [ ]
every_of test (y ∷ ys) x h (Memᴰ.head e) = ap test e ∙ and_left (test y) (every test ys) h
every_of test (y ∷ ys) x h (Memᴰ.tail named) = every_of test ys x (and_right (test y) (every test ys) h) named

every_at : {A : Type 0} (test : A → Bool) (xs : List A) (n : ℕ) (x : A) → every test xs ≡ true → slice_get xs n ≡ Some x → test x ≡ true
every_at test [] n x h e = absurd (none≢some e)
every_at test (y ∷ ys) zero x h e = ap test (sym (some-injective e)) ∙ and_left (test y) (every test ys) h
every_at test (y ∷ ys) (suc n) x h e = every_at test ys n x (and_right (test y) (every test ys) h) e

every_among : (test : ℕ → Bool) (ns : List ℕ) (n : ℕ) → every test ns ≡ true → among n ns ≡ true → test n ≡ true
unfolding among any
every_among test [] n h k = absurd (false≢true k)
every_among test (x ∷ xs) n h k = by_test (eqb n x) refl k (every_among test xs n (and_right (test x) _ h))
  where
    by_test : (t : Bool) → eqb n x ≡ t → (t || any (eqb n) xs) ≡ true → (any (eqb n) xs ≡ true → test n ≡ true) → test n ≡ true
    by_test true is_x f rest = ap test (eqb_sound n x is_x) ∙ and_left (test x) _ h
    by_test false is_x f rest = rest f

-- the same where the test is given the place too
abbrev every_place : {A : Type 0} → (ℕ → A → Bool) → List A → Bool
every_place test [] = true
every_place test (x ∷ xs) = test zero x && every_place (λ n. test (suc n)) xs

every_place_at : {A : Type 0} (test : ℕ → A → Bool) (xs : List A) (n : ℕ) (x : A) → every_place test xs ≡ true → slice_get xs n ≡ Some x → test n x ≡ true
every_place_at test [] n x h e = absurd (none≢some e)
every_place_at test (y ∷ ys) zero x h e =
    ap (test zero) (sym (some-injective e)) ∙ and_left (test zero y) (every_place (λ n. test (suc n)) ys) h
every_place_at test (y ∷ ys) (suc n) x h e =
    every_place_at (λ k. test (suc k)) ys n x (and_right (test zero y) (every_place (λ k. test (suc k)) ys) h) e

-- each with its place
abbrev map_place : {A B : Type 0} → (ℕ → A → B) → List A → List B
map_place f [] = []
map_place f (x ∷ xs) = f zero x ∷ map_place (λ n. f (suc n)) xs

pub map_place_at : {A B : Type 0} (f : ℕ → A → B) (xs : List A) (n : ℕ) → slice_get (map_place f xs) n ≡ let_some (slice_get xs n) None (λ x. Some (f n x))
map_place_at f [] n = refl
map_place_at f (x ∷ xs) zero = refl
map_place_at f (x ∷ xs) (suc n) = map_place_at (λ k. f (suc k)) xs n

-- what passes the test, each at its place, with `none` for what doesn't; behind the last that passes there is nothing
abbrev before : {A : Type 0} → Option A → List (Option A) → List (Option A)
before None [] = []
before None (o ∷ os) = None ∷ o ∷ os
before (Some x) os = Some x ∷ os

abbrev pub when : {A : Type 0} → (A → Bool) → A → Option A
when test x = if test x then Some x else None

abbrev pub shown : {A : Type 0} → (ℕ → A → Bool) → List A → List (Option A)
shown test [] = []
shown test (x ∷ xs) = before (when (test zero) x) (shown (λ n. test (suc n)) xs)

abbrev pub shown_in : {A : Type 0} → List (Option A) → ℕ → Option A
shown_in os n = let_some (slice_get os n) None (λ o. o)

before_first : {A : Type 0} (o : Option A) (os : List (Option A)) → shown_in (before o os) zero ≡ o
before_first None [] = refl
before_first None (p ∷ ps) = refl
before_first (Some x) os = refl

before_rest : {A : Type 0} (o : Option A) (os : List (Option A)) (n : ℕ) → shown_in (before o os) (suc n) ≡ shown_in os n
before_rest None [] n = refl
before_rest None (p ∷ ps) n = refl
before_rest (Some x) os n = refl

shown_at : {A : Type 0} (test : ℕ → A → Bool) (xs : List A) (n : ℕ) → shown_in (shown test xs) n ≡ let_some (slice_get xs n) None (when (test n))
shown_at test [] n = refl
shown_at test (x ∷ xs) zero = before_first (when (test zero) x) (shown (λ n. test (suc n)) xs)
shown_at test (x ∷ xs) (suc n) =
    before_rest (when (test zero) x) (shown (λ k. test (suc k)) xs) n ∙ shown_at (λ k. test (suc k)) xs n

pub when_some : {A : Type 0} (test : A → Bool) (o : Option A) (y : A) → let_some o None (when test) ≡ Some y → (o ≡ Some y) × (test y ≡ true)
when_some test None y e = absurd (none≢some e)
when_some {A} test (Some x) y e = by_test (test x) refl e
  where
    by_test : (t : Bool) → test x ≡ t → ◌≡◌ {A = Option A} (if t then Some x else None) (Some y) → (Some x ≡ Some y) × (test y ≡ true)
    by_test true h f = (f, ap test (sym (some-injective f)) ∙ h)
    by_test false h f = absurd (none≢some f)

pub some_when : {A : Type 0} (test : A → Bool) (o : Option A) (x : A) → o ≡ Some x → test x ≡ true → let_some o None (when test) ≡ Some x
some_when test o x e h = ap (λ r. let_some r None (when test)) e ∙ ap (λ t. if t then Some x else None) h

-- a test that passes where nothing is found, or at what is found
true_at : {A : Type 0} (test : A → Bool) (o : Option A) (x : A) → let_some o true test ≡ true → o ≡ Some x → test x ≡ true
true_at test o x h e = ap (λ r. let_some r true test) (sym e) ∙ h

-- `a || b` where `a` fails
or_of : (a b : Bool) → (a || b) ≡ true → a ≡ false → b ≡ true
or_of true b h e = absurd (false≢true (sym e))
or_of false b h e = h

-- ------------------------------------------------------------------ nodes and kinds

abbrev is_function_kind : ScopeKind → Bool
is_function_kind ScopeKind.ModuleScope = false
is_function_kind ScopeKind.FunctionScope = true
is_function_kind ScopeKind.BlockScope = false
is_function_kind ScopeKind.LoopScope = false

function_kind : (kind : ScopeKind) → is_function_kind kind ≡ true → kind ≡ ScopeKind.FunctionScope
function_kind ScopeKind.ModuleScope e = absurd (false≢true e)
function_kind ScopeKind.FunctionScope e = refl
function_kind ScopeKind.BlockScope e = absurd (false≢true e)
function_kind ScopeKind.LoopScope e = absurd (false≢true e)

abbrev is_literal : Expression → Bool
is_literal (Expression.Literal suffix) = true
is_literal Expression.BooleanLiteral = false
is_literal (Expression.Identifier name) = false
is_literal (Expression.Unary op e) = false
is_literal (Expression.Binary op left right) = false
is_literal (Expression.FunctionCall callee args) = false
is_literal (Expression.MemberAccess object field) = false
is_literal (Expression.IndexAccess array index) = false
is_literal (Expression.StructLiteral name start end) = false
is_literal (Expression.Tuple elements) = false
is_literal (Expression.TupleIndex tuple index) = false
is_literal (Expression.ArrayLiteral elements) = false
is_literal (Expression.ArrayRepeat element count) = false
is_literal (Expression.Cast t) = false
is_literal (Expression.New t count) = false
is_literal (Expression.Parenthesized inner) = false

-- the operands of a `bin`
abbrev operands : Expression → List ℕ
operands (Expression.Literal suffix) = []
operands Expression.BooleanLiteral = []
operands (Expression.Identifier name) = []
operands (Expression.Unary op e) = []
operands (Expression.Binary op left right) = link left ++ link right
operands (Expression.FunctionCall callee args) = []
operands (Expression.MemberAccess object field) = []
operands (Expression.IndexAccess array index) = []
operands (Expression.StructLiteral name start end) = []
operands (Expression.Tuple elements) = []
operands (Expression.TupleIndex tuple index) = []
operands (Expression.ArrayLiteral elements) = []
operands (Expression.ArrayRepeat element count) = []
operands (Expression.Cast t) = []
operands (Expression.New t count) = []
operands (Expression.Parenthesized inner) = []

-- ------------------------------------------------------------------ the tests

-- a body, and the scopes inside it by number
pub record BodyScopes : Type 0 where
  pub body : Body
  pub inside : List ℕ

-- the scope is the body's or below it
unfoldable pub in_body : BodyScopes → ℕ → ℕ → Bool
in_body b m s = eqb m b.body.module_number && among s b.inside

-- T by module and number
abbrev pub Types : Type 0
Types = List (ℕ × ℕ)

abbrev pub listed : Types → ℕ → ℕ → Bool
listed types m t = any (λ p. eqb p.0 m && eqb p.1 t) types

-- what is outside in a module, each record under its number: of the T those that are listed
pub record OutsideModule : Type 0 where
  pub name : Name
  pub scopes : List (Option Scope)
  pub types : List (Option TypeExpr)
  pub definitions : List (Option Definition)
  pub expressions : List (Option ExpressionInfo)

-- what is outside in an index
pub record Outside : Type 0 where
  pub version : ℕ
  pub modules : List OutsideModule

abbrev pub outside_module : BodyScopes → Types → ℕ → Module → OutsideModule
outside_module b types m the_module =
    record {
      name = the_module.name;
      scopes = shown (λ s scope. not (in_body b m s)) the_module.scopes;
      types = shown (λ t type. listed types m t) the_module.types;
      definitions = shown (λ d x. not (in_body b m x.scope)) the_module.definitions;
      expressions = shown (λ e x. not (in_body b m x.scope)) the_module.expressions;
    }

unfoldable pub outside_of : Index → BodyScopes → Types → Outside
outside_of index b types = record { version = index.version; modules = map_place (outside_module b types) index.modules }

module _ (index : Index) where
  -- the test passes at each T, at each definition, at each expression: it is given the module's number, and a T's own
  abbrev every_type : (ℕ → ℕ → TypeExpr → Bool) → Bool
  every_type test = every_place (λ m the_module. every_place (test m) the_module.types) index.modules

  abbrev every_definition : (ℕ → Definition → Bool) → Bool
  every_definition test = every_place (λ m the_module. every (test m) the_module.definitions) index.modules

  abbrev every_expression : (ℕ → ExpressionInfo → Bool) → Bool
  every_expression test = every_place (λ m the_module. every (test m) the_module.expressions) index.modules

module _ (index : Index) (b : BodyScopes) where
  -- not inside, where it stands in the index at all
  abbrev definition_out : ℕ → ℕ → Bool
  definition_out m d = let_some (definition_in index m d) true λ x. not (in_body b m x.scope)

  abbrev expression_out : ℕ → ℕ → Bool
  expression_out m e = let_some (expression_in index m e) true λ x. not (in_body b m x.scope)

  abbrev no_literal : ℕ → ℕ → Bool
  no_literal m e = let_some (expression_in index m e) true λ x. in_body b m x.scope || not (is_literal x.node)

  -- `IsBody`
  unfoldable pub function_test : Bool
  function_test = let_some (scope_in index b.body.module_number b.body.scope_number) false λ scope. is_function_kind scope.kind

  -- the scopes that are listed have the body's among their ancestors, and those that have it are listed
  abbrev has_body : Module → ℕ → Bool
  has_body the_module s = among b.body.scope_number (scope_chain the_module s)

  unfoldable pub inside_test : Bool
  inside_test =
      let_some (module_at index b.body.module_number) false λ the_module.
      every (has_body the_module) b.inside && every_place (λ s scope. not (has_body the_module s) || among s b.inside) the_module.scopes

  -- `NothingLinksInside`
  unfoldable pub values_test : Bool
  values_test = every_definition index λ m x. in_body b m x.scope || every (expression_out m) (definition_expressions x.kind)

  unfoldable pub recorded_test : Bool
  recorded_test = every_expression index λ m x. in_body b m x.scope || every (definition_out m) (expression_definitions x)

  unfoldable pub children_test : Bool
  children_test = every_expression index λ m x. in_body b m x.scope || every (expression_out m) (expression_expressions x)

  -- `NoOutsideLiteralInBinary`
  unfoldable pub literals_test : Bool
  literals_test = every_expression index λ m x. not (in_body b m x.scope) || every (no_literal m) (operands x.node)

  -- what an outside D, an outside E or a listed T names is listed
  unfoldable pub definition_types_test : Types → Bool
  definition_types_test types = every_definition index λ m x. in_body b m x.scope || every (listed types m) (definition_types x.kind)

  unfoldable pub expression_types_test : Types → Bool
  expression_types_test types = every_expression index λ m x. in_body b m x.scope || every (listed types m) (expression_types x)

  unfoldable pub type_types_test : Types → Bool
  type_types_test types = every_type index λ m t type. not (listed types m t) || every (listed types m) (type_types type)

  -- all of them
  unfoldable pub body_test : Types → Bool
  body_test types =
      function_test
      && (inside_test
      && (values_test
      && (recorded_test
      && (children_test
      && (literals_test && (definition_types_test types && (expression_types_test types && type_types_test types)))))))

  -- what a line is about is there, and outside
  abbrev expression_there : ℕ → ℕ → Bool
  expression_there m e = let_some (expression_in index m e) false λ x. not (in_body b m x.scope)

  abbrev definition_there : ℕ → ℕ → Bool
  definition_there m d = let_some (definition_in index m d) false λ x. not (in_body b m x.scope)

  abbrev scope_there : ℕ → ℕ → Bool
  scope_there m s = let_some (scope_in index m s) false λ scope. not (in_body b m s)

  abbrev type_there : ℕ → ℕ → Bool
  type_there m t = let_some (type_in index m t) false λ type. true

  -- no expression inside covers the byte
  abbrev uncovered : ℕ → ℕ → Bool
  uncovered m position =
      let_some (module_at index m) true λ the_module. every (λ x. not (in_body b m x.scope) || not (covers position x)) the_module.expressions

  -- `AboutOutside`, a clause for each kind of line
  unfoldable pub about_test : Asked → Bool
  about_test (Asked.expr m e None) = expression_there m e
  about_test (Asked.expr m e (Some t)) = expression_there m e && type_there m t
  about_test (Asked.def m d) = definition_there m d
  about_test (Asked.type m t s) = type_there m t && scope_there m s
  about_test (Asked.at m position) = uncovered m position

  -- with its T listed
  unfoldable pub asked_test : Types → Asked → Bool
  asked_test types asked = about_test asked && every (listed types (asked_module asked)) (asked_types asked)

-- one name that opens every test
unfoldable pub tests : Unit {0}
unfolding in_body outside_of function_test inside_test values_test recorded_test children_test literals_test definition_types_test expression_types_test type_types_test body_test about_test asked_test asked_module asked_types
tests = tt

-- ------------------------------------------------------------------ the body

module _ (index : Index) (body : Body) where
  inside_module : {m s : ℕ} → Inside index body m s → m ≡ body.module_number
  inside_module (body_scope m_is s_is) = m_is
  inside_module (below found is_parent inside) = inside_module inside

  -- a scope inside is a scope of the index
  inside_there : IsBody index body → {m s : ℕ} → Inside index body m s → Present (scope_in index m s)
  inside_there is_body (body_scope m_is s_is) = (is_body.scope, (λ i. scope_in index (m_is i) (s_is i)) ∙ is_body.found)
  inside_there is_body (below {scope = scope} found is_parent inside) = (scope, found)

  -- what is inside has the body's scope in its chain
  inside_chain : WellFormed index → {m s : ℕ} (the_module : Module) → module_at index m ≡ Some the_module → Inside index body m s
      → among body.scope_number (scope_chain the_module s) ≡ true
  unfolding among any parent
  inside_chain formed {m} {s} the_module at (body_scope m_is s_is) =
      subst (λ (l : List ℕ). any (eqb body.scope_number) l ≡ true) (sym (scope_chain_step the_module (formed.parents_lower m the_module at) s)) (first (parent the_module s))
    where
      first : (p : Option ℕ) → (eqb body.scope_number s || any (eqb body.scope_number) (let_some p [] (λ q. scope_chain the_module q))) ≡ true
      first p =
          ap (λ t. t || any (eqb body.scope_number) (let_some p [] (λ q. scope_chain the_module q)))
          (ap (λ n. eqb body.scope_number n) s_is ∙ eqb_self body.scope_number)
  inside_chain formed {m} {s} the_module at (below {p = p} {scope = scope} found is_parent inside) =
      subst (λ (l : List ℕ). any (eqb body.scope_number) l ≡ true) (sym (scope_chain_step the_module (formed.parents_lower m the_module at) s))
      (subst (λ (q : Option ℕ). (eqb body.scope_number s || any (eqb body.scope_number) (let_some q [] (λ r. scope_chain the_module r))) ≡ true) (sym the_parent)
      (or_right (eqb body.scope_number s) (any (eqb body.scope_number) (scope_chain the_module p)) (inside_chain formed the_module at inside)))
    where
      the_parent : parent the_module s ≡ Some p
      the_parent =
          ap (λ x. let_some x None (λ r. r.parent)) (ap (λ o. let_some o None (λ n. scope_at n s)) (sym at) ∙ found) ∙ is_parent

  -- and what has it there is inside
  chain_inside : (m : ℕ) (the_module : Module) → module_at index m ≡ Some the_module → m ≡ body.module_number
      → (more s : ℕ) → among body.scope_number (chain_from more the_module s) ≡ true → Inside index body m s
  unfolding among any chain_from parent
  chain_inside m the_module at is_m zero s e = absurd (false≢true e)
  chain_inside m the_module at is_m (suc more) s e = by_test (eqb b s) refl e (λ q k. chain_inside m the_module at is_m more q k)
    where
      b : ℕ
      b = body.scope_number

      above : (p : Option Scope) → scope_at the_module s ≡ p → any (eqb b) (let_some (let_some p None (λ r. r.parent)) [] (λ q. chain_from more the_module q)) ≡ true
          → ((q : ℕ) → any (eqb b) (chain_from more the_module q) ≡ true → Inside index body m q) → Inside index body m s
      above None there h rest = absurd (false≢true h)
      above (Some scope) there h rest = up scope.parent refl h
        where
          up : (q : Option ℕ) → scope.parent ≡ q → any (eqb b) (let_some q [] (λ r. chain_from more the_module r)) ≡ true → Inside index body m s
          up None is_parent k = absurd (false≢true k)
          up (Some q) is_parent k = below (ap (λ o. let_some o None (λ n. scope_at n s)) at ∙ there) is_parent (rest q k)

      by_test : (t : Bool) → eqb b s ≡ t → (t || any (eqb b) (let_some (parent the_module s) [] (λ q. chain_from more the_module q))) ≡ true
          → ((q : ℕ) → any (eqb b) (chain_from more the_module q) ≡ true → Inside index body m q) → Inside index body m s
      by_test true is_scope h rest = body_scope is_m (sym (eqb_sound b s is_scope))
      by_test false is_scope h rest = above (scope_at the_module s) refl h rest

-- ------------------------------------------------------------------ what they say

-- the index is well formed, and the body passes each test
pub record Tested (index : Index) (b : BodyScopes) (types : Types) : Type 0 where
  pub formed : WellFormed index
  pub is_body : IsBody index b.body
  pub insides : inside_test index b ≡ true
  pub values : values_test index b ≡ true
  pub recorded : recorded_test index b ≡ true
  pub children : children_test index b ≡ true
  pub literals : literals_test index b ≡ true
  pub definition_closed : definition_types_test index b types ≡ true
  pub expression_closed : expression_types_test index b types ≡ true
  pub type_closed : type_types_test index b types ≡ true

function_body : (index : Index) (b : BodyScopes) → function_test index b ≡ true → IsBody index b.body
unfolding function_test
function_body index b h = of (scope_in index b.body.module_number b.body.scope_number) refl h
  where
    of : (o : Option Scope) → scope_in index b.body.module_number b.body.scope_number ≡ o → let_some o false (λ scope. is_function_kind scope.kind) ≡ true → IsBody index b.body
    of None at k = absurd (false≢true k)
    of (Some scope) at k = record { scope = scope; found = at; is_function = function_kind scope.kind k }

pub tested : (index : Index) (b : BodyScopes) (types : Types) → WellFormed index → body_test index b types ≡ true → Tested index b types
unfolding body_test
tested index b types formed h =
    let h₁ = and_right (function_test index b) _ h in
    let h₂ = and_right (inside_test index b) _ h₁ in
    let h₃ = and_right (values_test index b) _ h₂ in
    let h₄ = and_right (recorded_test index b) _ h₃ in
    let h₅ = and_right (children_test index b) _ h₄ in
    let h₆ = and_right (literals_test index b) _ h₅ in
    let h₇ = and_right (definition_types_test index b types) _ h₆ in
    record {
      formed = formed;
      is_body = function_body index b (and_left (function_test index b) _ h);
      insides = and_left (inside_test index b) _ h₁;
      values = and_left (values_test index b) _ h₂;
      recorded = and_left (recorded_test index b) _ h₃;
      children = and_left (children_test index b) _ h₄;
      literals = and_left (literals_test index b) _ h₅;
      definition_closed = and_left (definition_types_test index b types) _ h₆;
      expression_closed = and_left (expression_types_test index b types) _ h₇;
      type_closed = and_right (expression_types_test index b types) _ h₇;
    }

module _ (index : Index) (b : BodyScopes) (types : Types) (good : Tested index b types) where
  -- ---------------------------------------------------------------- inside

  -- the body's module, and the two parts of its test
  body_module : (the_module : Module) × (module_at index b.body.module_number ≡ Some the_module)
      × (every (has_body index b the_module) b.inside ≡ true)
      × (every_place (λ s scope. not (has_body index b the_module s) || among s b.inside) the_module.scopes ≡ true)
  unfolding inside_test
  body_module = of (module_at index b.body.module_number) refl good.insides
    where
      of : (o : Option Module) → module_at index b.body.module_number ≡ o
          → let_some o false (λ n. every (has_body index b n) b.inside && every_place (λ s scope. not (has_body index b n s) || among s b.inside) n.scopes) ≡ true
          → (the_module : Module) × (module_at index b.body.module_number ≡ Some the_module)
          × (every (has_body index b the_module) b.inside ≡ true)
          × (every_place (λ s scope. not (has_body index b the_module s) || among s b.inside) the_module.scopes ≡ true)
      of None at h = absurd (false≢true h)
      of (Some n) at h = (n, at, and_left (every (has_body index b n) b.inside) _ h, and_right (every (has_body index b n) b.inside) _ h)

  inside_tested : {m s : ℕ} → Inside index b.body m s → in_body b m s ≡ true
  unfolding in_body
  inside_tested {m} {s} inside =
      let (the_module, at, listed_inside, inside_listed) = body_module in
      let here : module_at index m ≡ Some the_module = ap (module_at index) (inside_module index b.body inside) ∙ at in
      let (scope, found) = inside_there index b.body good.is_body inside in
      let there : scope_at the_module s ≡ Some scope = ap (λ o. let_some o None (λ n. scope_at n s)) (sym here) ∙ found in
      let is_in = under (has_body index b the_module s) (among s b.inside) (every_place_at (λ k x. not (has_body index b the_module k) || among k b.inside) the_module.scopes s scope inside_listed there) (inside_chain index b.body good.formed the_module here inside) in
      ap (λ t. t && among s b.inside) (ap (λ n. eqb n b.body.module_number) (inside_module index b.body inside) ∙ eqb_self b.body.module_number)
      ∙ is_in

  pub not_inside : {m s : ℕ} → not (in_body b m s) ≡ true → Inside index b.body m s → ⊥
  not_inside {m} {s} e inside = false≢true (sym (not-true (in_body b m s) e) ∙ inside_tested inside)

  tested_inside : (m s : ℕ) → in_body b m s ≡ true → Inside index b.body m s
  unfolding in_body scope_chain
  tested_inside m s e =
      let (the_module, at, listed_inside, inside_listed) = body_module in
      let is_m = eqb_sound m b.body.module_number (and_left (eqb m b.body.module_number) _ e) in
      chain_inside index b.body m the_module (ap (module_at index) is_m ∙ at) is_m (suc s) s
      (every_among (has_body index b the_module) b.inside s listed_inside (and_right (eqb m b.body.module_number) _ e))

  outside_false : (m s : ℕ) → (Inside index b.body m s → ⊥) → in_body b m s ≡ false
  outside_false m s out = by_test (in_body b m s) refl
    where
      by_test : (t : Bool) → in_body b m s ≡ t → t ≡ false
      by_test true h = absurd (out (tested_inside m s h))
      by_test false h = refl

  pub outside_true : (m s : ℕ) → (Inside index b.body m s → ⊥) → not (in_body b m s) ≡ true
  outside_true m s out = ap not (outside_false m s out)

  -- ---------------------------------------------------------------- each record

  definition_tested : (test : ℕ → Definition → Bool) → every_definition index test ≡ true → (m d : ℕ) (x : Definition) → definition_in index m d ≡ Some x → test m x ≡ true
  definition_tested test h m d x found =
      let (the_module, at, there) = some_of (module_at index m) (λ n. slice_get n.definitions d) x found in
      every_at (test m) the_module.definitions d x (every_place_at (λ k n. every (test k) n.definitions) index.modules m the_module h at) there

  expression_tested : (test : ℕ → ExpressionInfo → Bool) → every_expression index test ≡ true → (m e : ℕ) (x : ExpressionInfo) → expression_in index m e ≡ Some x → test m x ≡ true
  expression_tested test h m e x found =
      let (the_module, at, there) = some_of (module_at index m) (λ n. slice_get n.expressions e) x found in
      every_at (test m) the_module.expressions e x (every_place_at (λ k n. every (test k) n.expressions) index.modules m the_module h at) there

  type_tested : (test : ℕ → ℕ → TypeExpr → Bool) → every_type index test ≡ true → (m t : ℕ) (x : TypeExpr) → type_in index m t ≡ Some x → test m t x ≡ true
  type_tested test h m t x found =
      let (the_module, at, there) = some_of (module_at index m) (λ n. slice_get n.types t) x found in
      every_place_at (test m) the_module.types t x (every_place_at (λ k n. every_place (test k) n.types) index.modules m the_module h at) there

  -- a test of the outside ones, at one that is outside
  outside_definition_tested : (test : ℕ → Definition → Bool) → every_definition index (λ m x. in_body b m x.scope || test m x) ≡ true
      → (m d : ℕ) (outside : OutsideDefinition index b.body m d) → test m outside.definition ≡ true
  outside_definition_tested test h m d outside =
      or_of (in_body b m outside.definition.scope) (test m outside.definition)
      (definition_tested (λ k x. in_body b k x.scope || test k x) h m d outside.definition outside.found)
      (outside_false m outside.definition.scope outside.not_inside)

  outside_expression_tested : (test : ℕ → ExpressionInfo → Bool) → every_expression index (λ m x. in_body b m x.scope || test m x) ≡ true
      → (m e : ℕ) (outside : OutsideExpression index b.body m e) → test m outside.expression ≡ true
  outside_expression_tested test h m e outside =
      or_of (in_body b m outside.expression.scope) (test m outside.expression)
      (expression_tested (λ k x. in_body b k x.scope || test k x) h m e outside.expression outside.found)
      (outside_false m outside.expression.scope outside.not_inside)

  -- ---------------------------------------------------------------- no links inside, no literal in a `bin`

  pub no_links : NothingLinksInside index b.body
  unfolding values_test recorded_test children_test
  no_links =
      record {
        definition_to_expression =
            λ m d e outside named x found.
            let tests = outside_definition_tested (λ k y. every (expression_out index b k) (definition_expressions y.kind)) good.values m d outside in
            not_inside (true_at (λ y. not (in_body b m y.scope)) (expression_in index m e) x (every_of (expression_out index b m) (definition_expressions outside.definition.kind) e tests named) found);
        expression_to_definition =
            λ m e d outside named x found.
            let tests = outside_expression_tested (λ k y. every (definition_out index b k) (expression_definitions y)) good.recorded m e outside in
            not_inside (true_at (λ y. not (in_body b m y.scope)) (definition_in index m d) x (every_of (definition_out index b m) (expression_definitions outside.expression) d tests named) found);
        expression_to_expression =
            λ m e f outside named x found.
            let tests = outside_expression_tested (λ k y. every (expression_out index b k) (expression_expressions y)) good.children m e outside in
            not_inside (true_at (λ y. not (in_body b m y.scope)) (expression_in index m f) x (every_of (expression_out index b m) (expression_expressions outside.expression) f tests named) found);
      }

  pub no_outside_literal : NoOutsideLiteralInBinary index b.body
  unfolding literals_test
  no_outside_literal m e operand x found inside op left right is_binary named outside suffix is_literal_node =
      let tests = or_of (not (in_body b m x.scope)) _ (expression_tested (λ k y. not (in_body b k y.scope) || every (no_literal index b k) (operands y.node)) good.literals m e x found) (ap not (inside_tested inside)) in
      let test = every_of (no_literal index b m) (link left ++ link right) operand (subst (λ n. every (no_literal index b m) (operands n) ≡ true) is_binary tests) named in
      let is_not = or_of (in_body b m outside.expression.scope) _ (true_at (λ y. in_body b m y.scope || not (is_literal y.node)) (expression_in index m operand) outside.expression test outside.found) (outside_false m outside.expression.scope outside.not_inside) in
      false≢true (sym (not-true (is_literal outside.expression.node) is_not) ∙ ap is_literal is_literal_node)

  -- ---------------------------------------------------------------- the T

  -- what counts as outside is listed
  pub type_listed : (asked : Asked) → every (listed types (asked_module asked)) (asked_types asked) ≡ true
      → {m t : ℕ} → OutsideType index b.body asked m t → listed types m t ≡ true
  unfolding definition_types_test expression_types_test type_types_test
  type_listed asked named_listed {m} {t} (definition_names {d = d} outside named) =
      every_of (listed types m) (definition_types outside.definition.kind) t
      (outside_definition_tested (λ k x. every (listed types k) (definition_types x.kind)) good.definition_closed m d outside)
      named
  type_listed asked named_listed {m} {t} (expression_names {e = e} outside named) =
      every_of (listed types m) (expression_types outside.expression) t
      (outside_expression_tested (λ k x. every (listed types k) (expression_types x)) good.expression_closed m e outside)
      named
  type_listed asked named_listed {m} {t = u} (type_names {t = t} {type = type} holder found named) =
      every_of (listed types m) (type_types type) u
      (under (listed types m t) (every (listed types m) (type_types type))
      (type_tested (λ k n x. not (listed types k n) || every (listed types k) (type_types x)) good.type_closed m t type found)
      (type_listed asked named_listed holder))
      named
  type_listed asked named_listed {m} {t} (question_names m_of named) =
      ap (λ k. listed types k t) m_of ∙ every_of (listed types (asked_module asked)) (asked_types asked) t named_listed named

  -- ---------------------------------------------------------------- what the line is about

  expression_about : (m e : ℕ) → expression_there index b m e ≡ true → OutsideExpression index b.body m e
  expression_about m e h = of (expression_in index m e) refl h
    where
      of : (o : Option ExpressionInfo) → expression_in index m e ≡ o → let_some o false (λ x. not (in_body b m x.scope)) ≡ true → OutsideExpression index b.body m e
      of None at k = absurd (false≢true k)
      of (Some x) at k = record { expression = x; found = at; not_inside = not_inside k }

  definition_about : (m d : ℕ) → definition_there index b m d ≡ true → OutsideDefinition index b.body m d
  definition_about m d h = of (definition_in index m d) refl h
    where
      of : (o : Option Definition) → definition_in index m d ≡ o → let_some o false (λ x. not (in_body b m x.scope)) ≡ true → OutsideDefinition index b.body m d
      of None at k = absurd (false≢true k)
      of (Some x) at k = record { definition = x; found = at; not_inside = not_inside k }

  scope_about : (m s : ℕ) → scope_there index b m s ≡ true → OutsideScope index b.body m s
  scope_about m s h = of (scope_in index m s) refl h
    where
      of : (o : Option Scope) → scope_in index m s ≡ o → let_some o false (λ x. not (in_body b m s)) ≡ true → OutsideScope index b.body m s
      of None at k = absurd (false≢true k)
      of (Some x) at k = record { scope = x; found = at; not_inside = not_inside k }

  type_about : (m t : ℕ) → type_there index b m t ≡ true → Present (type_in index m t)
  type_about m t h = of (type_in index m t) refl h
    where
      of : (o : Option TypeExpr) → type_in index m t ≡ o → let_some o false (λ x. true) ≡ true → Present (type_in index m t)
      of None at k = absurd (false≢true k)
      of (Some x) at k = (x, at)

  uncovered_about : (m position : ℕ) → uncovered index b m position ≡ true → NotCoveredInside index b.body m position
  uncovered_about m position h e x found covering inside =
      let (the_module, at, there) = some_of (module_at index m) (λ n. slice_get n.expressions e) x found in
      let test = true_at (λ (n : Module). every (λ y. not (in_body b m y.scope) || not (covers position y)) n.expressions) (module_at index m) the_module h at in
      let fails = under (in_body b m x.scope) (not (covers position x)) (every_at (λ y. not (in_body b m y.scope) || not (covers position y)) the_module.expressions e x test there) (inside_tested inside) in
      false≢true (sym (not-true (covers position x) fails) ∙ covering)

  pub about : (asked : Asked) → about_test index b asked ≡ true → AboutOutside index b.body asked
  unfolding about_test
  about (Asked.expr m e None) h = expression_about m e h
  about (Asked.expr m e (Some t)) h =
      (expression_about m e (and_left (expression_there index b m e) _ h), type_about m t (and_right (expression_there index b m e) _ h))
  about (Asked.def m d) h = definition_about m d h
  about (Asked.at m position) h = uncovered_about m position h
  about (Asked.type m t s) h = (type_about m t (and_left (type_there index b m t) _ h), scope_about m s (and_right (type_there index b m t) _ h))

-- ------------------------------------------------------------------ what is outside

-- the records of a kind: what is shown of them is what stands in the index and passes the test
pub seen_at : {A : Type 0} (records : Module → List A) (seen : OutsideModule → List (Option A)) (test : ℕ → ℕ → A → Bool) (index : Index) (b : BodyScopes) (types : Types)
    → ((m : ℕ) (the_module : Module) → seen (outside_module b types m the_module) ≡ shown (test m) (records the_module))
    → (m n : ℕ)
    → let_some (slice_get (outside_of index b types).modules m) None (λ o. shown_in (seen o) n)
    ≡ let_some (let_some (module_at index m) None (λ the_module. slice_get (records the_module) n)) None (when (test m n))
unfolding outside_of
seen_at {A} records seen test index b types is m n =
    ap (λ r. let_some r None (λ o. shown_in (seen o) n)) (map_place_at (outside_module b types) index.modules m) ∙ of (module_at index m)
  where
    of : (o : Option Module)
        → ◌≡◌ {A = Option A} (let_some (let_some o None (λ the_module. Some (outside_module b types m the_module))) None (λ r. shown_in (seen r) n))
        (let_some (let_some o None (λ the_module. slice_get (records the_module) n)) None (when (test m n)))
    of None = refl
    of (Some the_module) = ap (λ os. shown_in os n) (is m the_module) ∙ shown_at (test m) (records the_module) n
