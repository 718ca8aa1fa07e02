-- The lookups of `place.rs`, `semantic_index.rs` and `builtins.rs`, under their Rust names; and the expression at a byte, which the Rust doesn't look for. Assumes nothing.
use Rattle.std.specs.Prelude.{ℕ, zero, suc, ◌-◌, Bool, true, false, not, ◌&&◌, ◌||◌, List, [], ◌∷◌, eqb, leb, ltb}
use Rattle.std.specs.Prelude.{Option, None}
use Rattle.std.specs.Prelude.{slice_get}
use Rattle.model.specs.Common.{let_some, is_none, first_some, first, last, any, eq_numbers, bytes}
use Rattle.model.specs.Records.{Name, Scope, TypeExpr, DefinitionKind, Definition, ExpressionInfo, Module, Index}

-- ------------------------------------------------------------------ records by number

abbrev pub module_at : Index → ℕ → Option Module
module_at index m = slice_get index.modules m

abbrev pub scope_at : Module → ℕ → Option Scope
scope_at the_module s = slice_get the_module.scopes s

abbrev pub type_expr_at : Module → ℕ → Option TypeExpr
type_expr_at the_module t = slice_get the_module.types t

abbrev pub definition_at : Module → ℕ → Option Definition
definition_at the_module d = slice_get the_module.definitions d

abbrev pub expression_at : Module → ℕ → Option ExpressionInfo
expression_at the_module e = slice_get the_module.expressions e

-- ------------------------------------------------------------------ names

-- `is_builtin_function_name`
unfoldable pub is_builtin_function_name : Name → Bool
is_builtin_function_name name = eq_numbers name (bytes "assert")

-- a module of the name
unfoldable pub module_named : Name → Module → Bool
module_named name the_module = eq_numbers the_module.name name

-- the module of that name; names differ
unfoldable pub module_by_name : Index → Name → Option ℕ
module_by_name index name = first (module_named name) index.modules

-- ------------------------------------------------------------------ scopes

unfoldable pub parent : Module → ℕ → Option ℕ
parent the_module s = let_some (scope_at the_module s) None (λ scope. scope.parent)

unfoldable pub without_parent : Scope → Bool
without_parent scope = is_none scope.parent

-- `root_scope`: the first scope without a parent
unfoldable pub root_scope : Module → Option ℕ
root_scope the_module = first without_parent the_module.scopes

-- a scope and its ancestors, nearest first, at most as many as the first number says
unfoldable pub chain_from : ℕ → Module → ℕ → List ℕ
chain_from zero the_module s = []
chain_from (suc more) the_module s = s ∷ let_some (parent the_module s) [] (λ p. chain_from more the_module p)

-- a scope and its ancestors, nearest first. A parent has a lower number, so s + 1 are enough
unfoldable pub scope_chain : Module → ℕ → List ℕ
scope_chain the_module s = chain_from (suc s) the_module s

-- ------------------------------------------------------------------ definitions by name

-- a definition of the name in the scope
unfoldable pub named : ℕ → Name → Definition → Bool
named s name definition = eqb definition.scope s && eq_numbers definition.name name

-- `latest_definition_index_by_name`: the scope's last definition of the name
unfoldable pub latest_definition_index_by_name : Module → ℕ → Name → Option ℕ
latest_definition_index_by_name the_module s name = last (named s name) the_module.definitions

-- `latest_definition_index_by_name_in_chain`: in the first scope of the chain that has one
unfoldable pub latest_definition_index_by_name_in_chain : Module → ℕ → Name → Option ℕ
latest_definition_index_by_name_in_chain the_module s name =
    first_some (λ s'. latest_definition_index_by_name the_module s' name) (scope_chain the_module s)

-- `is_top_level_allowed`: a definition of this kind may stand behind its use
unfoldable pub is_top_level_allowed : DefinitionKind → Bool
is_top_level_allowed (DefinitionKind.Function t fields) = true
is_top_level_allowed (DefinitionKind.Struct fields) = true
is_top_level_allowed (DefinitionKind.Const t e) = false
is_top_level_allowed (DefinitionKind.Let t e v path) = false
is_top_level_allowed (DefinitionKind.Parameter t) = false
is_top_level_allowed (DefinitionKind.Use m item) = true
is_top_level_allowed DefinitionKind.LoopVariable = false

-- `value_expr_id` of a let
unfoldable pub let_value : DefinitionKind → Option ℕ
let_value (DefinitionKind.Function t fields) = None
let_value (DefinitionKind.Struct fields) = None
let_value (DefinitionKind.Const t e) = None
let_value (DefinitionKind.Let t e v path) = e
let_value (DefinitionKind.Parameter t) = None
let_value (DefinitionKind.Use m item) = None
let_value DefinitionKind.LoopVariable = None

-- the span lies within the expression's, if there is one
unfoldable pub covered : Option ExpressionInfo → ℕ → ℕ → Bool
covered expression start end = let_some expression false λ init. leb init.start start && leb end init.end

-- the span lies within the initializer of this let
unfoldable pub in_let_initializer : Module → Definition → ℕ → ℕ → Bool
in_let_initializer the_module definition start end =
    let_some (let_value definition.kind) false λ e. covered (expression_at the_module e) start end

-- the definition is of a kind that may stand behind its use, or it stands before the use
unfoldable pub in_order : Definition → ℕ → Bool
in_order definition start = is_top_level_allowed definition.kind || leb definition.full_start start

-- the definition may be meant by its name at the span from start to end
unfoldable pub visible_at : Module → Definition → ℕ → ℕ → Bool
visible_at the_module definition start end =
    in_order definition start && not (in_let_initializer the_module definition start end)

unfoldable pub named_and_visible : Module → ℕ → Name → ℕ → ℕ → Definition → Bool
named_and_visible the_module s name start end definition = named s name definition && visible_at the_module definition start end

-- one turn of `resolve_name_at_position`: the scope's last definition of the name that is visible at the span
unfoldable pub latest_visible_by_name : Module → ℕ → Name → ℕ → ℕ → Option ℕ
latest_visible_by_name the_module s name start end = last (named_and_visible the_module s name start end) the_module.definitions

-- `resolve_name_at_position`: in the first scope of the chain that has one
unfoldable pub resolve_name_at_position : Module → Name → ℕ → ℕ → ℕ → Option ℕ
resolve_name_at_position the_module name s start end =
    first_some (λ s'. latest_visible_by_name the_module s' name start end) (scope_chain the_module s)

-- `definition_for_identifier_expr`: the recorded link
unfoldable pub definition_for_identifier_expr : Module → ℕ → Option ℕ
definition_for_identifier_expr the_module e = let_some (expression_at the_module e) None (λ expression. expression.definition)

-- ------------------------------------------------------------------ the expression at a byte

-- the change request: "start ≤ position < end"
unfoldable pub covers : ℕ → ExpressionInfo → Bool
covers position expression = leb expression.start position && ltb position expression.end

abbrev pub span : ExpressionInfo → ℕ
span expression = expression.end - expression.start

-- it covers the byte, and its span is shorter than the given one
unfoldable pub covers_shorter : ℕ → ℕ → ExpressionInfo → Bool
covers_shorter position than expression = covers position expression && ltb (span expression) than

-- it covers the byte, and none of the module that does is shorter
unfoldable pub covers_shortest : Module → ℕ → ExpressionInfo → Bool
covers_shortest the_module position expression =
    covers position expression && not (any (covers_shorter position (span expression)) the_module.expressions)

-- the change request: "among expressions with start ≤ position < end it picks the shortest span, and of equally short ones the highest record number"
unfoldable pub expression_at_position : Module → ℕ → Option ℕ
expression_at_position the_module position = last (covers_shortest the_module position) the_module.expressions

-- ------------------------------------------------------------------ the function of a `return`

unfoldable pub is_function : DefinitionKind → Bool
is_function (DefinitionKind.Function t fields) = true
is_function (DefinitionKind.Struct fields) = false
is_function (DefinitionKind.Const t e) = false
is_function (DefinitionKind.Let t e v path) = false
is_function (DefinitionKind.Parameter t) = false
is_function (DefinitionKind.Use m item) = false
is_function DefinitionKind.LoopVariable = false

-- the scope is among these
unfoldable pub among : ℕ → List ℕ → Bool
among s scopes = any (eqb s) scopes

-- a function definition whose scope is s or an ancestor of s
unfoldable pub function_around : Module → ℕ → Definition → Bool
function_around the_module s definition = is_function definition.kind && among definition.scope (scope_chain the_module s)

-- the first function definition whose scope is the given one or an ancestor.
-- The Rust goes up the scopes outside and through the definitions inside, but its test takes a definition whose scope is a proper ancestor
-- of the expression's at the first turn already. So the first turn finds what is here, and a later turn finds nothing that the first did not
-- (`return_loops_agree`).
unfoldable pub first_function_around : Module → ℕ → Option ℕ
first_function_around the_module s = first (function_around the_module s) the_module.definitions
