-- Lookups by computation: for each a table of questions with their answers, over two small modules written as records. The positions of a
-- question stand at the borders of the tests: equal to a start or an end, and one off. Assumes nothing.
use Rattle.std.specs.Prelude.{ℕ, ◌≡◌, refl, Bool, true, false, List, [], ◌∷◌, map}
use Prim.Native.String.{String}
use Rattle.std.specs.Prelude.{Option, None, Some}
use Rattle.model.specs.Common.{bytes}
use Rattle.model.specs.Records.{ScopeKind, Scope, DefinitionKind, Definition, Origin, Expression, ExpressionInfo, Module, Index}
use Rattle.model.specs.Lookups.{
  is_builtin_function_name,
  module_by_name,
  root_scope,
  scope_chain,
  latest_definition_index_by_name,
  latest_definition_index_by_name_in_chain,
  is_top_level_allowed,
  let_value,
  resolve_name_at_position,
  definition_for_identifier_expr,
  expression_at_position,
  is_function,
  first_function_around,
}
use Rattle.model.specs.Computes.{looks_up}

-- ------------------------------------------------------------------ tables

-- a question and its answer
pub record Case (Q A : Type 0) : Type 0 where
  pub question : Q
  pub answer : A

infix 68 ◌gives◌
abbrev ◌gives◌ : {Q A : Type 0} → Q → A → Case Q A
question gives answer = record { question = question; answer = answer }

-- the function gives each question its answer
abbrev pub Holds : {Q A : Type 0} → (Q → A) → List (Case Q A) → Type 0
Holds f cases = map (λ c. f c.question) cases ≡ map (λ c. c.answer) cases

-- ------------------------------------------------------------------ records

abbrev scope : Option ℕ → ScopeKind → Scope
scope parent kind = record { parent = parent; kind = kind }

-- scope, name, start and end of the whole, kind. The name stands at the end, so that a test that reads its place differs from one that reads the
-- whole's start
abbrev define : ℕ → String → ℕ → ℕ → DefinitionKind → Definition
define s name start end kind =
    record { scope = s; name = bytes name; name_start = end; name_end = end; full_start = start; full_end = end; kind = kind }

-- scope, start, end, recorded definition
abbrev identifier : ℕ → ℕ → ℕ → Option ℕ → ExpressionInfo
identifier s start end definition =
    record { scope = s; start = start; end = end; expected = None; definition = definition; origin = Origin.Plain; node = Expression.Identifier (bytes "a") }

-- a function (scope 1) with a block (scope 2) in it, and a second function (scope 3)
abbrev scopes : List Scope
scopes = scope None ScopeKind.ModuleScope ∷ scope (Some 0) ScopeKind.FunctionScope ∷ scope (Some 1) ScopeKind.BlockScope ∷ scope (Some 0) ScopeKind.FunctionScope ∷ []

-- `a` is defined twice in the module's scope and twice in the function's. The values of the `let` a (D 3) and of the `const` c (D 6) are E 0 and E 1;
-- the `let`s v (D 9) and w (D 10) are taken from E 3, and w has it as its value too, as the Rust's builder makes it
unfoldable pub names : Module
names =
    record {
      name = bytes "names";
      scopes = scopes;
      types = [];
      definitions =
          define 0 "a" 10 20 (DefinitionKind.Struct [])
          ∷ define 0 "f" 30 90 (DefinitionKind.Function 0 [])
          ∷ define 1 "a" 40 45 (DefinitionKind.Parameter 0)
          ∷ define 1 "a" 50 60 (DefinitionKind.Let None (Some 0) None [])
          ∷ define 2 "b" 62 66 DefinitionKind.LoopVariable
          ∷ define 0 "a" 100 110 (DefinitionKind.Const None None)
          ∷ define 0 "c" 200 220 (DefinitionKind.Const None (Some 1))
          ∷ define 0 "u" 230 240 (DefinitionKind.Use (bytes "other") (bytes "u"))
          ∷ define 0 "g" 250 290 (DefinitionKind.Function 0 [])
          ∷ define 3 "v" 260 280 (DefinitionKind.Let None None (Some 3) [])
          ∷ define 3 "w" 262 280 (DefinitionKind.Let None (Some 3) (Some 3) [])
          ∷ [];
      expressions = identifier 1 55 58 (Some 2) ∷ identifier 0 210 211 (Some 6) ∷ identifier 1 70 71 None ∷ identifier 3 265 270 None ∷ [];
    }

-- ------------------------------------------------------------------ by name alone

-- scope, name: the last definition, in this scope
unfoldable pub latest_cases : List (Case (ℕ × String) (Option ℕ))
latest_cases =
    (0, "a") gives Some 5
    ∷ (1, "a") gives Some 3
    ∷ (2, "a") gives None
    ∷ (2, "b") gives Some 4
    ∷ (3, "a") gives None
    ∷ (0, "f") gives Some 1
    ∷ (0, "ff") gives None
    ∷ (4, "a") gives None
    ∷ []

pub latest_holds : Holds (λ q. latest_definition_index_by_name names q.0 (bytes q.1)) latest_cases
unfolding looks_up names latest_cases
latest_holds = refl

-- scope: it and its ancestors
unfoldable pub chain_cases : List (Case ℕ (List ℕ))
chain_cases = 0 gives (0 ∷ []) ∷ 2 gives (2 ∷ 1 ∷ 0 ∷ []) ∷ 3 gives (3 ∷ 0 ∷ []) ∷ []

pub chain_holds : Holds (scope_chain names) chain_cases
unfolding looks_up names chain_cases
chain_holds = refl

-- scope, name: the last definition, in the nearest scope that has one
unfoldable pub latest_in_chain_cases : List (Case (ℕ × String) (Option ℕ))
latest_in_chain_cases =
    (0, "a") gives Some 5
    ∷ (1, "a") gives Some 3
    ∷ (2, "a") gives Some 3
    ∷ (2, "b") gives Some 4
    ∷ (1, "b") gives None
    ∷ (2, "f") gives Some 1
    ∷ (3, "a") gives Some 5
    ∷ (3, "b") gives None
    ∷ []

pub latest_in_chain_holds : Holds (λ q. latest_definition_index_by_name_in_chain names q.0 (bytes q.1)) latest_in_chain_cases
unfolding looks_up names latest_in_chain_cases
latest_in_chain_holds = refl

-- ------------------------------------------------------------------ by name and position

-- name, scope, start and end of the use
pub record Use : Type 0 where
  pub name : String
  pub scope : ℕ
  pub start : ℕ
  pub end : ℕ

abbrev at : String → ℕ → ℕ → ℕ → Use
at name s start end = record { name = name; scope = s; start = start; end = end }

unfoldable pub position_cases : List (Case Use (Option ℕ))
position_cases =
    -- the last that begins at the use or before it; the earlier one; in the module's scope the struct from any position, and the const from its own start on
    at "a" 1 50 51 gives Some 3
    ∷ at "a" 1 49 50 gives Some 2
    ∷ at "a" 1 40 41 gives Some 2
    ∷ at "a" 1 39 40 gives Some 0
    ∷ at "a" 0 5 6 gives Some 0
    ∷ at "a" 0 99 100 gives Some 0
    ∷ at "a" 0 100 101 gives Some 5
    -- in the value of the let it is not visible: the whole value, a part of it; not so a span that begins before it or ends behind it
    ∷ at "a" 1 55 58 gives Some 2
    ∷ at "a" 1 56 57 gives Some 2
    ∷ at "a" 1 54 58 gives Some 3
    ∷ at "a" 1 55 59 gives Some 3
    -- a const is visible in its own value, and so is a let in what it is taken from, unless that is its value too
    ∷ at "c" 0 210 211 gives Some 6
    ∷ at "v" 3 265 270 gives Some 9
    ∷ at "w" 3 265 270 gives None
    ∷ at "w" 3 271 272 gives Some 10
    -- a function, a `use` and a struct may stand behind their use; a const, a let, a parameter and a loop variable may not (struct and parameter:
    -- above)
    ∷ at "f" 0 0 1 gives Some 1
    ∷ at "u" 0 0 1 gives Some 7
    ∷ at "c" 0 199 200 gives None
    ∷ at "c" 0 200 201 gives Some 6
    ∷ at "b" 2 61 62 gives None
    ∷ at "b" 2 62 63 gives Some 4
    ∷ at "v" 3 259 260 gives None
    -- the nearest scope that has a visible one; a scope beside or below is not searched
    ∷ at "a" 2 70 71 gives Some 3
    ∷ at "a" 2 55 58 gives Some 2
    ∷ at "a" 2 39 40 gives Some 0
    ∷ at "a" 3 70 71 gives Some 0
    ∷ at "a" 3 270 271 gives Some 5
    ∷ at "b" 1 70 71 gives None
    ∷ at "v" 0 270 271 gives None
    ∷ []

pub position_holds : Holds (λ q. resolve_name_at_position names (bytes q.name) q.scope q.start q.end) position_cases
unfolding looks_up names position_cases
position_holds = refl

-- expression: the recorded definition
unfoldable pub recorded_cases : List (Case ℕ (Option ℕ))
recorded_cases = 0 gives Some 2 ∷ 1 gives Some 6 ∷ 2 gives None ∷ 4 gives None ∷ []

pub recorded_holds : Holds (definition_for_identifier_expr names) recorded_cases
unfolding looks_up names recorded_cases
recorded_holds = refl

-- ------------------------------------------------------------------ by position

-- E 0 is the longest and has E 1 and E 2 within; E 3 and E 4 are equally short and start at different bytes; E 5 is as long as E 2 and stands where it
-- does; E 6 is empty, E 7 ends before it starts
unfoldable pub spans : Module
spans =
    record {
      name = bytes "spans";
      scopes = scopes;
      types = [];
      definitions = [];
      expressions =
          identifier 0 10 30 None
          ∷ identifier 0 10 14 None
          ∷ identifier 1 20 22 None
          ∷ identifier 0 24 27 None
          ∷ identifier 1 26 29 None
          ∷ identifier 2 20 22 None
          ∷ identifier 0 40 40 None
          ∷ identifier 0 48 44 None
          ∷ [];
    }

-- position: the shortest expression there, of equally short ones that with the highest number
unfoldable pub at_position_cases : List (Case ℕ (Option ℕ))
at_position_cases =
    -- the first byte counts, the byte behind the last doesn't
    9 gives None
    ∷ 10 gives Some 1
    ∷ 13 gives Some 1
    ∷ 14 gives Some 0
    ∷ 29 gives Some 0
    ∷ 30 gives None
    -- equally short ones: the highest number, from the same byte on and from different ones
    ∷ 20 gives Some 5
    ∷ 21 gives Some 5
    ∷ 25 gives Some 3
    ∷ 26 gives Some 4
    ∷ 27 gives Some 4
    -- an empty span and one that ends before it starts cover nothing
    ∷ 40 gives None
    ∷ 44 gives None
    ∷ 46 gives None
    ∷ 48 gives None
    ∷ []

pub at_position_holds : Holds (expression_at_position spans) at_position_cases
unfolding looks_up spans at_position_cases
at_position_holds = refl

-- ------------------------------------------------------------------ by kind

-- may stand behind its use, value of a let, is a function
unfoldable pub kind_cases : List (Case DefinitionKind (Bool × Option ℕ × Bool))
kind_cases =
    DefinitionKind.Function 5 [] gives (true, None, true)
    ∷ DefinitionKind.Struct [] gives (true, None, false)
    ∷ DefinitionKind.Const (Some 5) (Some 6) gives (false, None, false)
    ∷ DefinitionKind.Let (Some 5) (Some 6) (Some 7) [] gives (false, Some 6, false)
    ∷ DefinitionKind.Let (Some 5) None (Some 7) [] gives (false, None, false)
    ∷ DefinitionKind.Parameter 5 gives (false, None, false)
    ∷ DefinitionKind.Use (bytes "m") (bytes "x") gives (true, None, false)
    ∷ DefinitionKind.LoopVariable gives (false, None, false)
    ∷ []

pub kind_holds : Holds (λ kind. (is_top_level_allowed kind, let_value kind, is_function kind)) kind_cases
unfolding looks_up kind_cases
kind_holds = refl

-- ------------------------------------------------------------------ functions, roots, modules

-- the same scopes with a parameter, a function inside the first function, one in the module's scope and one inside the second function
unfoldable pub functions : Module
functions =
    record {
      name = bytes "functions";
      scopes = scopes;
      types = [];
      definitions =
          define 0 "p" 0 1 (DefinitionKind.Parameter 0)
          ∷ define 1 "inner" 2 3 (DefinitionKind.Function 0 [])
          ∷ define 0 "outer" 4 5 (DefinitionKind.Function 0 [])
          ∷ define 3 "last" 6 7 (DefinitionKind.Function 0 [])
          ∷ [];
      expressions = [];
    }

-- scope: the first function definition, by number and not by nearness, whose scope is this one or an ancestor
unfoldable pub function_cases : List (Case ℕ (Option ℕ))
function_cases = 0 gives Some 2 ∷ 1 gives Some 1 ∷ 2 gives Some 1 ∷ 3 gives Some 2 ∷ 4 gives None ∷ []

pub function_holds : Holds (first_function_around functions) function_cases
unfolding looks_up functions function_cases
function_holds = refl

-- the first scope without a parent. (Loading takes no module with a root behind another scope, with two roots or without scopes)
unfoldable pub root_cases : List (Case (List (Option ℕ)) (Option ℕ))
root_cases = (None ∷ Some 0 ∷ []) gives Some 0 ∷ (Some 1 ∷ None ∷ None ∷ []) gives Some 1 ∷ [] gives None ∷ []

abbrev with_parents : List (Option ℕ) → Module
with_parents parents =
    record { name = bytes "m"; scopes = map (λ p. scope p ScopeKind.ModuleScope) parents; types = []; definitions = []; expressions = [] }

pub root_holds : Holds (λ parents. root_scope (with_parents parents)) root_cases
unfolding looks_up root_cases
root_holds = refl

-- a module by its name, the first of that name. (Loading takes no name twice)
abbrev modules : Index
modules = record { version = 1; modules = names ∷ functions ∷ functions ∷ []; questions = [] }

unfoldable pub module_cases : List (Case String (Option ℕ))
module_cases = "names" gives Some 0 ∷ "functions" gives Some 1 ∷ "name" gives None ∷ "namess" gives None ∷ []

pub module_holds : Holds (λ name. module_by_name modules (bytes name)) module_cases
unfolding looks_up names functions module_cases
module_holds = refl

-- the one built-in name
unfoldable pub builtin_cases : List (Case String Bool)
builtin_cases = "assert" gives true ∷ "asser" gives false ∷ "asserts" gives false ∷ "Assert" gives false ∷ []

pub builtin_holds : Holds (λ name. is_builtin_function_name (bytes name)) builtin_cases
unfolding looks_up builtin_cases
builtin_holds = refl
