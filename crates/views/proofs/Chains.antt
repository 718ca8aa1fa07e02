-- What each read gives, by what stands behind each of its links. Assumes nothing.
use mathlib.Core.Path.{◌≡◌, sym, ap, ◌∙◌}
use mathlib.Core.Bool.{Bool, true, false, not}
use Prim.Native.Nat.{ℕ}
use mathlib.Core.List.{List}
use Rattle.std.specs.Prelude.{Option, None, Some, MatchOption}
use native.Mathlib.Omega.{arith}
use Rattle.std.specs.Prelude.{if◌then◌else◌}
use Rattle.model.specs.Common.{let_some}
use Rattle.model.specs.Records.{Name, BinaryOp, Definition, ExpressionInfo, Module, Index}
use Rattle.model.specs.Lookups.{
  module_at,
  type_expr_at,
  definition_at,
  expression_at,
  is_builtin_function_name,
  module_by_name,
  root_scope,
  latest_definition_index_by_name,
  resolve_name_at_position,
  definition_for_identifier_expr,
}
use Rattle.resolution.specs.Compatible.{is_commutative}
use Rattle.resolution.specs.Views.{
  is_array_expr,
  is_unsuffixed_literal,
  as_identifier,
  SpannedName,
  as_struct_literal,
  struct_field,
  names_array_expr,
  operand_is_unsuffixed_literal,
  right_first,
  callee_is_builtin,
}
use Rattle.records.specs.Meaning.{type_expr_of, found_type_expr_of, expression_of, definition_of, found_definition_of, info_of, found_expression_of}
use Rattle.records.specs.Meaning.{scope_link_of, type_link_of, definition_link_of, expression_link_of}
use Rattle.records.proofs.Lists.{some_and}
use Rattle.records.specs.declared.FileScopeId.{FileScopeId}
use Rattle.records.specs.declared.DefinitionIndex.{DefinitionIndex}
use Rattle.records.specs.declared.ExpressionId.{ExpressionId}
use Rattle.records.specs.declared.TypeExpr.{TypeExpr as DeclaredTypeExpr}
use Rattle.records.specs.declared.Definition.{Definition as DeclaredDefinition}
use Rattle.records.specs.declared.ExpressionInfo.{ExpressionInfo as DeclaredInfo}
use Rattle.views.specs.Reads.{argument_definition, field_type_expr, imported_definition, identifier_definition}

-- ------------------------------------------------------------------ what was found

module _ (file words : List ℕ) (r : Option DeclaredDefinition) (o : Option Definition) (is : found_definition_of file words r ≡ o) where
  pub no_definition : r ≡ None → o ≡ None
  no_definition h = sym is ∙ ap (found_definition_of file words) h

  pub a_definition : (x : DeclaredDefinition) → r ≡ Some x → o ≡ Some (definition_of file words x)
  a_definition x h = sym is ∙ ap (found_definition_of file words) h

module _ (file words : List ℕ) (r : Option DeclaredInfo) (o : Option ExpressionInfo) (is : found_expression_of file words r ≡ o) where
  pub no_expression : r ≡ None → o ≡ None
  no_expression h = sym is ∙ ap (found_expression_of file words) h

  pub an_expression : (x : DeclaredInfo) → r ≡ Some x → o ≡ Some (info_of file words x)
  an_expression x h = sym is ∙ ap (found_expression_of file words) h

module _ (r : Option ℕ) (o : Option ℕ) (is : r ≡ o) where
  pub no_module : r ≡ None → o ≡ None
  no_module h = sym is ∙ h

  pub to_module : (m : ℕ) → r ≡ Some m → o ≡ Some m
  to_module m h = sym is ∙ h

module _ (r : Option FileScopeId) (o : Option ℕ) (is : scope_link_of r ≡ o) where
  pub no_scope : r ≡ None → o ≡ None
  no_scope h = sym is ∙ ap scope_link_of h

  pub to_scope : (s : FileScopeId) → r ≡ Some s → o ≡ Some s.0
  to_scope s h = sym is ∙ ap scope_link_of h

module _ (r : Option DefinitionIndex) (o : Option ℕ) (is : definition_link_of r ≡ o) where
  pub no_link : r ≡ None → o ≡ None
  no_link h = sym is ∙ ap definition_link_of h

  pub to_definition : (d : DefinitionIndex) → r ≡ Some d → o ≡ Some d.0
  to_definition d h = sym is ∙ ap definition_link_of h

module _ (r : Option ℕ) (o : Option ℕ) (is : type_link_of r ≡ o) where
  pub no_type : r ≡ None → o ≡ None
  no_type h = sym is ∙ ap type_link_of h

  pub to_type : (t : ℕ) → r ≡ Some t → o ≡ Some t
  to_type t h = sym is ∙ ap type_link_of h

-- ------------------------------------------------------------------ types and operands

-- what `is_some_and` says of a T of the module, and of an expression
module _ (file words : List ℕ) (the_module : Module) where
  pub array_by : (t : ℕ) (r : Option DeclaredTypeExpr) → found_type_expr_of file words r ≡ type_expr_at the_module t → (P : DeclaredTypeExpr → Type 0) (b : Bool)
      → MatchOption r (b ≡ false) P → ((x : DeclaredTypeExpr) → P x → b ≡ is_array_expr (type_expr_of file words x)) → b ≡ names_array_expr the_module t
  unfolding names_array_expr
  array_by t r is P b answer tests =
      some_and (type_expr_of file words) is_array_expr P r b answer tests ∙ ap (λ o. let_some o false is_array_expr) is

  pub operand_by : (e : ℕ) (r : Option DeclaredInfo) → found_expression_of file words r ≡ expression_at the_module e → (P : DeclaredInfo → Type 0) (b : Bool)
      → MatchOption r (b ≡ false) P → ((x : DeclaredInfo) → P x → b ≡ is_unsuffixed_literal (expression_of file words x.node))
      → b ≡ operand_is_unsuffixed_literal the_module e
  unfolding operand_is_unsuffixed_literal
  operand_by e r is P b answer tests =
      some_and (info_of file words) (λ operand. is_unsuffixed_literal operand.node) P r b answer tests
      ∙ ap (λ o. let_some o false (λ operand. is_unsuffixed_literal operand.node)) is

module _ (the_module : Module) (op : BinaryOp) (left right : ℕ) (b : Bool) (is : b ≡ is_commutative op) where
  pub order_kept : b ≡ false → false ≡ right_first the_module op left right
  unfolding right_first
  order_kept h = rw (sym is ∙ h)

  pub left_no_literal : (l : Bool) → b ≡ true → l ≡ operand_is_unsuffixed_literal the_module left → l ≡ false
      → false ≡ right_first the_module op left right
  unfolding right_first
  left_no_literal l h e no_literal = rw (sym is ∙ h, sym e ∙ no_literal)

  pub by_right : (l k : Bool) → b ≡ true → l ≡ operand_is_unsuffixed_literal the_module left → l ≡ true
      → k ≡ operand_is_unsuffixed_literal the_module right → not k ≡ right_first the_module op left right
  unfolding right_first
  by_right l k h e literal e' = rw (sym is ∙ h, sym e ∙ literal, sym e')

-- ------------------------------------------------------------------ calls

module _ (the_module : Module) (callee : Option ExpressionId) where
  pub callee_absent : callee ≡ None → false ≡ callee_is_builtin the_module (expression_link_of callee)
  unfolding callee_is_builtin
  callee_absent h = rw h

  module _ (x : ExpressionId) (to : callee ≡ Some x) where
    pub callee_lost : expression_at the_module x.0 ≡ None → false ≡ callee_is_builtin the_module (expression_link_of callee)
    unfolding callee_is_builtin
    callee_lost h = rw (to, h)

    pub callee_other : (info : ExpressionInfo) → expression_at the_module x.0 ≡ Some info → as_identifier info.node ≡ None
        → false ≡ callee_is_builtin the_module (expression_link_of callee)
    unfolding callee_is_builtin
    callee_other info h k = rw (to, h, k)

    pub callee_named : (info : ExpressionInfo) (name : Name) (b : Bool) → expression_at the_module x.0 ≡ Some info
        → as_identifier info.node ≡ Some name → b ≡ is_builtin_function_name name
        → b ≡ callee_is_builtin the_module (expression_link_of callee)
    unfolding callee_is_builtin
    callee_named info name b h k e = rw (to, h, k) e

module _ (the_module : Module) (callee : ℕ) where
  pub argument_absent : expression_at the_module callee ≡ None → None ≡ argument_definition the_module callee
  unfolding argument_definition
  argument_absent h = rw h

  module _ (info : ExpressionInfo) (found : expression_at the_module callee ≡ Some info) where
    pub argument_other : as_identifier info.node ≡ None → None ≡ argument_definition the_module callee
    unfolding argument_definition
    argument_other h = rw (found, h)

    pub argument_named : (name : Name) (o : Option ℕ) → as_identifier info.node ≡ Some name → o ≡ definition_for_identifier_expr the_module callee
        → o ≡ argument_definition the_module callee
    unfolding argument_definition
    argument_named name o h e = e ∙ rw (found, h)

-- ------------------------------------------------------------------ fields

module _ (the_module : Module) (parent : ℕ) (field : Name) where
  pub literal_absent : expression_at the_module parent ≡ None → None ≡ field_type_expr the_module parent field
  unfolding field_type_expr
  literal_absent h = rw h

  module _ (info : ExpressionInfo) (found : expression_at the_module parent ≡ Some info) where
    pub no_literal : as_struct_literal info.node ≡ None → None ≡ field_type_expr the_module parent field
    unfolding field_type_expr
    no_literal h = rw (found, h)

    module _ (literal : SpannedName) (is : as_struct_literal info.node ≡ Some literal) where
      pub struct_absent : resolve_name_at_position the_module literal.name info.scope literal.start literal.end ≡ None
          → None ≡ field_type_expr the_module parent field
      unfolding field_type_expr
      struct_absent h = rw (found, is, h)

      module _ (d : ℕ) (to : resolve_name_at_position the_module literal.name info.scope literal.start literal.end ≡ Some d) where
        pub struct_lost : definition_at the_module d ≡ None → None ≡ field_type_expr the_module parent field
        unfolding field_type_expr
        struct_lost h = rw (found, is, to, h)

        module _ (definition : Definition) (at : definition_at the_module d ≡ Some definition) where
          pub field_absent : struct_field definition.kind field ≡ None → None ≡ field_type_expr the_module parent field
          unfolding field_type_expr
          field_absent h = rw (found, is, to, at, h)

          pub field_found : (t : ℕ) → struct_field definition.kind field ≡ Some t
              → Some (record { type = t; scope = info.scope }) ≡ field_type_expr the_module parent field
          unfolding field_type_expr
          field_found t h = rw (found, is, to, at, h)

-- ------------------------------------------------------------------ definitions behind a name

-- a module that was asked for by its number
pub module_past : (o : Option Module) (x : Module) (b : Bool) → o ≡ (if b then Some x else None) → not b ≡ true → o ≡ None
module_past o x true e h = let z : ◌≡◌ {A = ℕ} 0 1 = cc in absurd (omega arith)
module_past o x false e h = e

pub module_there : (o : Option Module) (x : Module) (b : Bool) → o ≡ (if b then Some x else None) → not b ≡ false → o ≡ Some x
module_there o x true e h = e
module_there o x false e h = let z : ◌≡◌ {A = ℕ} 0 1 = cc in absurd (omega arith)

module _ (index : Index) (imported_module item : Name) where
  pub import_unknown : module_by_name index imported_module ≡ None → None ≡ imported_definition index imported_module item
  unfolding imported_definition
  import_unknown h = rw h

  module _ (m : ℕ) (to : module_by_name index imported_module ≡ Some m) where
    pub import_lost : module_at index m ≡ None → None ≡ imported_definition index imported_module item
    unfolding imported_definition
    import_lost h = rw (to, h)

    module _ (imported : Module) (at : module_at index m ≡ Some imported) where
      pub import_rootless : root_scope imported ≡ None → None ≡ imported_definition index imported_module item
      unfolding imported_definition
      import_rootless h = rw (to, at, h)

      module _ (s : ℕ) (root : root_scope imported ≡ Some s) where
        pub import_absent : latest_definition_index_by_name imported s item ≡ None → None ≡ imported_definition index imported_module item
        unfolding imported_definition
        import_absent h = rw (to, at, root, h)

        pub import_found : (d : ℕ) → latest_definition_index_by_name imported s item ≡ Some d
            → Some (record { source = m; definition = d }) ≡ imported_definition index imported_module item
        unfolding imported_definition
        import_found d h = rw (to, at, root, h)

module _ (the_module : Module) (definition : Option DefinitionIndex) (name : Name) (s start end : ℕ) where
  pub identifier_recorded : (d : DefinitionIndex) → definition ≡ Some d
      → Some d.0 ≡ identifier_definition the_module (definition_link_of definition) name s start end
  unfolding identifier_definition
  identifier_recorded d h = rw h

  pub identifier_by_name : (o : Option ℕ) → definition ≡ None → o ≡ resolve_name_at_position the_module name s start end
      → o ≡ identifier_definition the_module (definition_link_of definition) name s start end
  unfolding identifier_definition
  identifier_by_name o h e = rw h e
