-- Links: of the lines of an index that the first pass read, the first with refusal 5. Assumes nothing.
use Rattle.std.specs.Prelude.{ℕ, suc, ◌+◌, List, [], ◌∷◌, ◌++◌, map, Bool, true, false, ◌&&◌, ◌||◌, not, length, eqb, ltb}
use Rattle.std.specs.Prelude.{Option, None, Some}
use Rattle.model.specs.Common.{let_some, is_empty, first}
use Rattle.model.specs.Records.{Scope, TypeExpr, Definition, ExpressionInfo, Module, Question, Index}
use Rattle.model.specs.Lookups.{module_at}
use Rattle.model.specs.Links.{type_types, definition_types, definition_expressions, link, expression_types, expression_definitions, expression_expressions}

-- ------------------------------------------------------------------ the links of one record

-- each of the links is below the number of records
unfoldable pub all_below : ℕ → List ℕ → Bool
all_below n [] = true
all_below n (k ∷ ks) = elim (ltb k n) [ true ↦ all_below n ks | false ↦ false ]

-- "Scope 0 has no parent; others have a lower-numbered one": the scope's own number, its parent
abbrev pub parent_ok : ℕ → Option ℕ → Bool
parent_ok s None = eqb s 0
parent_ok s (Some p) = ltb p s

unfoldable pub scope_linked : ℕ → Scope → Bool
scope_linked s scope = parent_ok s scope.parent

-- "Each t is an earlier T": the T's own number, the T
unfoldable pub type_linked : ℕ → TypeExpr → Bool
type_linked t type = all_below t (type_types type)

unfoldable pub definition_linked : Module → Definition → Bool
definition_linked the_module definition =
    ltb definition.scope (length the_module.scopes)
    && (all_below (length the_module.types) (definition_types definition.kind)
    && all_below (length the_module.expressions) (definition_expressions definition.kind))

unfoldable pub expression_linked : Module → ExpressionInfo → Bool
expression_linked the_module expression =
    ltb expression.scope (length the_module.scopes)
    && (all_below (length the_module.types) (expression_types expression)
    && (all_below (length the_module.definitions) (expression_definitions expression)
    && all_below (length the_module.expressions) (expression_expressions expression)))

-- "A context or `type` question's links are checked if the module, and for `expr` the expression, exists"
unfoldable pub question_linked : Index → Question → Bool
question_linked index (Question.expr m e t) =
    let_some (module_at index m) true λ the_module.
    not (ltb e (length the_module.expressions)) || all_below (length the_module.types) (link t)
question_linked index (Question.def m d) = true
question_linked index (Question.type m t s) =
    let_some (module_at index m) true λ the_module. ltb t (length the_module.types) && ltb s (length the_module.scopes)
question_linked index (Question.at m position) = true

-- ------------------------------------------------------------------ all lines, in the file's order

-- a test that is given each element's number, the first being n
unfoldable pub map_from : {A : Type 0} → (ℕ → A → Bool) → ℕ → List A → List Bool
map_from test n [] = []
map_from test n (x ∷ xs) = test n x ∷ map_from test (suc n) xs

-- for each line of a module, whether its links lead: M ("a module without scope"), S, T, D, E
unfoldable pub module_lines : Module → List Bool
module_lines the_module =
    not (is_empty the_module.scopes)
    ∷ (map_from scope_linked 0 the_module.scopes
    ++ (map_from type_linked 0 the_module.types
    ++ (map (definition_linked the_module) the_module.definitions ++ map (expression_linked the_module) the_module.expressions)))

unfoldable pub modules_lines : List Module → List Bool
modules_lines [] = []
modules_lines (m ∷ ms) = module_lines m ++ modules_lines ms

-- for each line behind the first one: line 2 has place 0. (The first pass read the lines in this order)
unfoldable pub linked_lines : Index → List Bool
linked_lines index = modules_lines index.modules ++ map (question_linked index) index.questions

-- the first line with 5: a link to no record, a T that isn't earlier, a wrong parent, a module without scope
unfoldable pub link_fault : Index → Option ℕ
link_fault index = let_some (first not (linked_lines index)) None λ n. Some (2 + n)
