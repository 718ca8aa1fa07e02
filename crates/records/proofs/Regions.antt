-- The regions of the record words: each has room for as many rows as document 01 allows, and the next begins where it ends. Assumes nothing.
use Prim.Native.Nat.{◌+◌, ◌≤◌}
use mathlib.Core.Path.{◌≡◌, refl}
use native.Mathlib.Omega.{arith}
use Rattle.model.specs.Limits.{
  max_modules,
  max_scopes,
  max_type_exprs,
  max_definitions,
  max_expressions,
  max_questions,
  max_items,
  record_words,
}
use Rattle.records.specs.Layout.{
  module_place,
  scope_place,
  type_expr_place,
  definition_place,
  expression_place,
  question_place,
  item_place,
}

-- a row for each module, and the ending row
pub modules_fit : module_place (max_modules + 1) ≤ scope_place 0
modules_fit = omega arith

pub scopes_fit : scope_place max_scopes ≡ type_expr_place 0
scopes_fit = refl

pub type_exprs_fit : type_expr_place max_type_exprs ≡ definition_place 0
type_exprs_fit = refl

pub definitions_fit : definition_place max_definitions ≡ expression_place 0
definitions_fit = refl

pub expressions_fit : expression_place max_expressions ≡ question_place 0
expressions_fit = refl

pub questions_fit : question_place max_questions ≡ item_place 0
questions_fit = refl

pub items_fit : item_place max_items ≡ record_words
items_fit = refl
