-- What each read promises, as a record of its own: its parameters are then found by unification. Definitions only.
use Rattle.std.specs.Prelude.{Option}
use Rattle.records.specs.declared.DefinitionIndex.{DefinitionIndex}
use Rattle.std.specs.Prelude.{◌≡◌, Bool, ℕ, List}
use Rattle.resolution.specs.Views.{is_unsuffixed_literal, names_array_expr, right_first, callee_is_builtin}
use Rattle.records.specs.Layout.{module_row, index_of}
use Rattle.records.specs.Meaning.{name_of, definition_link_of, expression_link_of, binary_op_of, expression_of}
use Rattle.records.specs.declared.Name.{Name}
use Rattle.records.specs.declared.Span.{Span}
use Rattle.records.specs.declared.FileScopeId.{FileScopeId}
use Rattle.records.specs.declared.ExpressionId.{ExpressionId}
use Rattle.records.specs.declared.BinaryOp.{BinaryOp}
use Rattle.records.specs.declared.Expression.{Expression}
use Rattle.views.specs.Reads.{argument_definition, field_type_expr, imported_definition, identifier_definition, position_expression}
use Rattle.views.specs.declared.ScopedType.{ScopedType}
use Rattle.views.specs.declared.Imported.{Imported}
use Rattle.views.specs.Meaning.{found_field_type_of, found_import_of}

pub record IsUnsuffixedLiteral (node : Expression) (r : Bool) : Type 0 where
  pub same : (file words : List ℕ) → r ≡ is_unsuffixed_literal (expression_of file words node)

pub record NamesArrayExpr (words : List ℕ) (m t : ℕ) (r : Bool) : Type 0 where
  pub same : (file : List ℕ) → r ≡ names_array_expr (module_row file words m) t

pub record RightFirst (words : List ℕ) (m : ℕ) (op : BinaryOp) (left right : ExpressionId) (r : Bool) : Type 0 where
  pub same : (file : List ℕ) → r ≡ right_first (module_row file words m) (binary_op_of op) left.0 right.0

pub record CalleeIsBuiltin (file words : List ℕ) (m : ℕ) (callee : Option ExpressionId) (r : Bool) : Type 0 where
  pub same : r ≡ callee_is_builtin (module_row file words m) (expression_link_of callee)

pub record ArgumentDefinition (words : List ℕ) (m : ℕ) (callee : ExpressionId) (r : Option DefinitionIndex) : Type 0 where
  pub same : (file : List ℕ) → definition_link_of r ≡ argument_definition (module_row file words m) callee.0

pub record FieldTypeExpr (file words : List ℕ) (m : ℕ) (parent : ExpressionId) (field : Name) (r : Option ScopedType) : Type 0 where
  pub same : found_field_type_of r ≡ field_type_expr (module_row file words m) parent.0 (name_of file field)

pub record ImportedDefinition (file words : List ℕ) (imported_module item : Name) (r : Option Imported) : Type 0 where
  pub same : found_import_of r ≡ imported_definition (index_of file words) (name_of file imported_module) (name_of file item)

pub record IdentifierDefinition (file words : List ℕ) (m : ℕ) (definition : Option DefinitionIndex) (s : FileScopeId) (span : Span) (name : Name) (r : Option DefinitionIndex) : Type 0 where
  pub same : definition_link_of r
      ≡ identifier_definition (module_row file words m) (definition_link_of definition) (name_of file name) s.0 span.start span.end

pub record PositionExpression (words : List ℕ) (m position : ℕ) (r : Option ExpressionId) : Type 0 where
  pub same : (file : List ℕ) → expression_link_of r ≡ position_expression (index_of file words) m position
