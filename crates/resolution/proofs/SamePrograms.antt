-- For a demand about the outside, the programs over two indexes that agree are the same tree, and every demand in it is about the outside.
-- Assumes nothing.
use Prim.Native.Nat.{ℕ, suc}
use mathlib.Core.Path.{◌≡◌, refl, sym, ◌∙◌, ap, subst}
use mathlib.Core.Bool.{Bool, true, false, not, ◌&&◌}
use mathlib.Core.List.Memᴰ
use mathlib.Core.List.{List, [], ◌∷◌, ◌++◌, Memᴰ}
use Rattle.std.specs.Prelude.{Option, None, Some}
use Rattle.std.specs.Prelude.{slice_get}
use lib.ListN.{length}
use lib.Dec.{eqb}
use Rattle.std.specs.Prelude.{if◌then◌else◌}
use Rattle.model.specs.Common.{let_some, eq_numbers}
use Rattle.model.specs.Records.{Name, TypeExpr, NameWithType, DefinitionKind, Definition, Origin, UnaryOp, BinaryOp, Expression, ExpressionInfo, Module, Index}
use Rattle.model.specs.Lookups.{module_at, type_expr_at, definition_at, expression_at, is_builtin_function_name, definition_for_identifier_expr}
use Rattle.model.specs.Links.{link, links, type_types, field_types, definition_types, definition_expressions, origin_expressions, node_expressions, node_types, expression_types, type_in}
use Rattle.model.specs.WellFormed.{Present}
use Rattle.resolution.specs.Types.{as_tuple, as_pointer, as_array, as_struct, as_function, field_type, data_of, error, felt}
use Rattle.resolution.specs.Compatible.{are_types_compatible, is_commutative}
use Rattle.resolution.specs.Asked.{Asked, asked_module, asked_types}
use Rattle.resolution.specs.Programs.{Demand, Said, Program}
use Rattle.resolution.specs.Views.{is_array_expr, is_unsuffixed_literal, as_identifier, as_struct_literal, struct_field, names_array_expr, operand_is_unsuffixed_literal, right_first, callee_is_builtin, suffix_type}
use Rattle.resolution.specs.TypeResolution.{
  resolve_all,
  infer_only,
  infer_arguments,
  infer_elements,
  all_same_type,
  custom_type,
  array_type,
  type_expr_type,
  type_program,
  resolve_variable_type,
  let_type,
  const_type,
  use_type,
  definition_kind_type,
  definition_program,
  struct_kind_data,
  struct_program,
  function_kind_signature,
  signature_program,
  signature_param,
  signature_return_type,
  assignment_context,
  argument_context,
  return_context,
  field_context,
  context_from_origin,
  context_expected,
  expected_numeric,
  literal_type,
  parenthesized_type,
  identifier_type,
  new_type,
  unary_type,
  binary_type,
  member_type,
  call_type,
  struct_literal_type,
  index_type,
  tuple_type,
  tuple_index_type,
  empty_array_type,
  array_literal_type,
  array_repeat_type,
  node_type,
  expression_program,
  program,
  expression_in_context,
  says_type,
  says_at,
  at_program,
  asked_program,
}
use Rattle.resolution.specs.Inside.{Body, OutsideScope, OutsideDefinition, OutsideExpression, definition_names, expression_names, type_names, question_names, NotCoveredInside, AboutOutside}
use Rattle.resolution.proofs.Found.{Found, neither, both, found_self, found_by, found_link, Same, same_done, same_refuse, same_look, same_bind, same_asked, same_entered, same_read, same_let_some, same_each, same_both, same_if, same_ifs, Each, each_two}
use Rattle.resolution.proofs.SameLookups.{
  Hidden,
  found_two,
  link_mem,
  module_found,
  OutsideTypeExpr,
  Sides,
  sides_of,
  left_definition,
  right_definition,
  left_expression,
  right_expression,
  left_type,
  right_type,
  definition_scope_outside,
  expression_scope_outside,
  definition_expression_outside,
  expression_definition_outside,
  expression_expression_outside,
  latest_found,
  chain_lookup_found,
  name_at_position_found,
  first_function_found,
  root_found,
  module_by_name_found,
  modules_both,
  at_position_found,
}

-- the type of a struct's field is a link of the struct
find_named : (fields : List NameWithType) (name : Name) → Found (λ t. Memᴰ t (field_types fields)) (field_type fields name) (field_type fields name)
unfolding field_type
find_named [] name = neither
find_named (field ∷ fields) name = go (eq_numbers field.name name) (find_named fields name)
  where
    later : {o o' : Option ℕ} → Found (λ t. Memᴰ t (field_types fields)) o o' → Found (λ t. Memᴰ t (field_types (field ∷ fields))) o o'
    later neither = neither
    later (both t h) = both t (Memᴰ.tail h)

    go : (b : Bool) → Found (λ t. Memᴰ t (field_types fields)) (field_type fields name) (field_type fields name)
        → Found (λ t. Memᴰ t (field_types (field ∷ fields)))
        (if b then Some field.type else field_type fields name)
        (if b then Some field.type else field_type fields name)
    go true h = both field.type (Memᴰ.head refl)
    go false h = later h

struct_field_named : (kind : DefinitionKind) (name : Name) → Found (λ t. Memᴰ t (definition_types kind)) (struct_field kind name) (struct_field kind name)
unfolding struct_field definition_types
struct_field_named (DefinitionKind.Function t params) name = neither
struct_field_named (DefinitionKind.Struct fields) name = find_named fields name
struct_field_named (DefinitionKind.Const t e) name = neither
struct_field_named (DefinitionKind.Let t e v path) name = neither
struct_field_named (DefinitionKind.Parameter t) name = neither
struct_field_named (DefinitionKind.Use m item) name = neither
struct_field_named DefinitionKind.LoopVariable name = neither

module _ (A B : Index) (a b : Body) (q : Asked) (hidden : Hidden A B a b q) where
  -- a demand about the outside
  abbrev pub OutsideDemand : Demand → Type 0
  OutsideDemand (Demand.type m t s) = OutsideTypeExpr A a q m t × OutsideScope A a m s
  OutsideDemand (Demand.definition m d) = OutsideDefinition A a m d
  OutsideDemand (Demand.expression m e context) = OutsideExpression A a m e
  OutsideDemand (Demand.struct m d) = OutsideDefinition A a m d
  OutsideDemand (Demand.signature m d) = OutsideDefinition A a m d

  -- ------------------------------------------------------------------ types that outside records name

  type_type_outside : {m t u : ℕ} (outside : OutsideTypeExpr A a q m t) → Memᴰ u (type_types outside.type) → OutsideTypeExpr A a q m u
  type_type_outside {m} {t} {u} outside named =
      let (type, e) = hidden.first_formed.links.type_types_found m t u outside.type outside.found named in
      record { type = type; found = e; named = type_names outside.named outside.found named }

  definition_type_outside : {m d t : ℕ} (outside : OutsideDefinition A a m d) → Memᴰ t (definition_types outside.definition.kind) → OutsideTypeExpr A a q m t
  definition_type_outside {m} {d} {t} outside named =
      let (type, e) = hidden.first_formed.links.definition_types_found m d t outside.definition outside.found named in
      record { type = type; found = e; named = definition_names outside named }

  expression_type_outside : {m e t : ℕ} (outside : OutsideExpression A a m e) → Memᴰ t (expression_types outside.expression) → OutsideTypeExpr A a q m t
  expression_type_outside {m} {e} {t} outside named =
      let (type, h) = hidden.first_formed.links.expression_types_found m e t outside.expression outside.found named in
      record { type = type; found = h; named = expression_names outside named }

  -- ------------------------------------------------------------------ lists of demands

  module _ (m : ℕ) where
    resolve_all_same : {s : ℕ} → OutsideScope A a m s → (ts : List ℕ) → ((t : ℕ) → Memᴰ t ts → OutsideTypeExpr A a q m t)
        → Same OutsideDemand (resolve_all m s ts) (resolve_all m s ts)
    unfolding resolve_all
    resolve_all_same scope [] h = same_done []
    resolve_all_same {s} scope (t ∷ ts) h =
        same_bind (same_asked (Demand.type m t s) (h t (Memᴰ.head refl), scope)) λ n.
        same_bind (resolve_all_same scope ts (λ u named. h u (Memᴰ.tail named))) λ ns. same_done (n ∷ ns)

    infer_only_same : (child context : Option ℕ) → ((e : ℕ) → Memᴰ e (link child) → OutsideExpression A a m e)
        → Same OutsideDemand (infer_only m child context) (infer_only m child context)
    unfolding infer_only
    infer_only_same child context h =
        same_let_some (found_link child) (same_done tt) λ e named.
        same_bind (same_asked (Demand.expression m e context) (h e named)) λ t. same_done tt

    infer_arguments_same : (params : List ℕ) (index : ℕ) (args : List (Option ℕ)) → ((e : ℕ) → Memᴰ e (links args) → OutsideExpression A a m e)
        → Same OutsideDemand (infer_arguments m params index args) (infer_arguments m params index args)
    unfolding infer_arguments
    infer_arguments_same params index [] h = same_done tt
    infer_arguments_same params index (arg ∷ args) h =
        same_bind (infer_only_same arg (slice_get params index) (λ e named. h e (Memᴰ.append_left (links args) named))) λ u.
        infer_arguments_same params (suc index) args (λ e named. h e (Memᴰ.append_right (link arg) named))

    infer_elements_same : (contexts : List ℕ) (index : ℕ) (elements : List (Option ℕ)) → ((e : ℕ) → Memᴰ e (links elements) → OutsideExpression A a m e)
        → Same OutsideDemand (infer_elements m contexts index elements) (infer_elements m contexts index elements)
    unfolding infer_elements
    infer_elements_same contexts index [] h = same_done []
    infer_elements_same contexts index (None ∷ elements) h = infer_elements_same contexts (suc index) elements h
    infer_elements_same contexts index (Some element ∷ elements) h =
        same_bind (same_asked (Demand.expression m element (slice_get contexts index)) (h element (Memᴰ.head refl))) λ t.
        same_bind (infer_elements_same contexts (suc index) elements (λ e named. h e (Memᴰ.tail named))) λ ts. same_done (t ∷ ts)

    all_same_type_same : (element_type : ℕ) (elements : List (Option ℕ)) → ((e : ℕ) → Memᴰ e (links elements) → OutsideExpression A a m e)
        → Same OutsideDemand (all_same_type m element_type elements) (all_same_type m element_type elements)
    unfolding all_same_type
    all_same_type_same element_type [] h = same_done true
    all_same_type_same element_type (None ∷ elements) h = same_done false
    all_same_type_same element_type (Some element ∷ elements) h =
        same_bind (same_asked (Demand.expression m element (Some element_type)) (h element (Memᴰ.head refl))) λ t.
        same_look λ table.
        same_if (are_types_compatible table t element_type) (all_same_type_same element_type elements (λ e named. h e (Memᴰ.tail named))) (same_done false)

  -- what is known of the record of an outside expression
  record OutsideInfo (m : ℕ) (info : ExpressionInfo) : Type 0 where
    scope : OutsideScope A a m info.scope
    expected : (t : ℕ) → Memᴰ t (link info.expected) → OutsideTypeExpr A a q m t
    types : (t : ℕ) → Memᴰ t (node_types info.node) → OutsideTypeExpr A a q m t
    definition : (d : ℕ) → Memᴰ d (link info.definition) → OutsideDefinition A a m d
    origin : (e : ℕ) → Memᴰ e (origin_expressions info.origin) → OutsideExpression A a m e
    children : (e : ℕ) → Memᴰ e (node_expressions info.node) → OutsideExpression A a m e

  outside_info : {m e : ℕ} (outside : OutsideExpression A a m e) → OutsideInfo m outside.expression
  outside_info {m} {e} outside =
      record {
        scope = expression_scope_outside A a hidden.first_formed.links hidden.supposed.first_no_links outside;
        expected = λ t named. expression_type_outside outside (Memᴰ.append_left (node_types outside.expression.node) named);
        types = λ t named. expression_type_outside outside (Memᴰ.append_right (link outside.expression.expected) named);
        definition = λ d named. expression_definition_outside A a hidden.first_formed.links hidden.supposed.first_no_links outside named;
        origin =
            λ f named.
            expression_expression_outside A a hidden.first_formed.links hidden.supposed.first_no_links outside
            (Memᴰ.append_left (node_expressions outside.expression.node) named);
        children =
            λ f named.
            expression_expression_outside A a hidden.first_formed.links hidden.supposed.first_no_links outside
            (Memᴰ.append_right (origin_expressions outside.expression.origin) named);
      }

  -- ------------------------------------------------------------------ one module

  module _ (m : ℕ) (sides : Sides A B m) where
    abbrev left : Module
    left = sides.left

    abbrev right : Module
    right = sides.right

    info_found : {e : ℕ} → OutsideExpression A a m e → Found (OutsideInfo m) (expression_at left e) (expression_at right e)
    info_found outside =
        found_two (left_expression A B a b q hidden m sides outside) (right_expression A B a b q hidden m sides outside) (outside_info outside)

    -- ---------------------------------------------------------------- resolve_ast_type

    custom_type_same : {s : ℕ} → OutsideScope A a m s → (name : Name) → Same OutsideDemand (custom_type m left s name) (custom_type m right s name)
    unfolding custom_type
    custom_type_same scope name =
        same_let_some (chain_lookup_found A B a b q hidden m sides name scope) (same_done error) λ d outside.
        same_bind (same_asked (Demand.definition m d) outside) λ def_type.
        same_bind (same_read (λ table. data_of table def_type)) λ row.
        same_let_some (found_self (as_struct row)) (same_done error) λ fields e. same_done def_type

    array_type_same : {s t : ℕ} → OutsideScope A a m s → (outside : OutsideTypeExpr A a q m t) (size : ℕ)
        → Same OutsideDemand (array_type m left s t size) (array_type m right s t size)
    unfolding array_type names_array_expr
    array_type_same {s} {t} scope outside size =
        same_ifs (names_array_expr left t) (names_array_expr right t)
        (ap (λ o. let_some o false is_array_expr) (left_type A B a b q hidden m sides outside ∙ sym (right_type A B a b q hidden m sides outside)))
        (same_done error)
        (same_bind (same_asked (Demand.type m t s) (outside, scope)) λ element.
        same_bind (same_read (λ table. data_of table element)) λ row.
        same_let_some (found_self (as_array row)) (same_entered _) λ array e. same_done error)

    type_expr_same : {s : ℕ} → OutsideScope A a m s → (type : TypeExpr) → ((t : ℕ) → Memᴰ t (type_types type) → OutsideTypeExpr A a q m t)
        → Same OutsideDemand (type_expr_type m left s type) (type_expr_type m right s type)
    unfolding type_expr_type type_types
    type_expr_same scope TypeExpr.Felt h = same_done _
    type_expr_same scope TypeExpr.Bool h = same_done _
    type_expr_same scope TypeExpr.U32 h = same_done _
    type_expr_same scope (TypeExpr.Custom name) h = custom_type_same scope name
    type_expr_same {s} scope (TypeExpr.Pointer t) h =
        same_bind (same_asked (Demand.type m t s) (h t (Memᴰ.head refl), scope)) λ element. same_entered _
    type_expr_same scope (TypeExpr.Tuple ts) h =
        same_bind (resolve_all_same m scope ts h) λ elements. same_entered _
    type_expr_same scope (TypeExpr.FixedArray t size) h = array_type_same scope (h t (Memᴰ.head refl)) size

    -- ---------------------------------------------------------------- definition_semantic_type

    variable_same : {s : ℕ} → OutsideScope A a m s → (t e : Option ℕ)
        → ((u : ℕ) → Memᴰ u (link t) → OutsideTypeExpr A a q m u) → ((f : ℕ) → Memᴰ f (link e) → OutsideExpression A a m f)
        → Same OutsideDemand (resolve_variable_type m s t e) (resolve_variable_type m s t e)
    unfolding resolve_variable_type
    variable_same {s} scope (Some t) e h g = same_asked (Demand.type m t s) (h t (Memᴰ.head refl), scope)
    variable_same scope None (Some e) h g = same_asked (Demand.expression m e None) (g e (Memᴰ.head refl))
    variable_same scope None None h g = same_done _

    let_same : {s : ℕ} → OutsideScope A a m s → (t e v : Option ℕ) (path : List ℕ)
        → ((u : ℕ) → Memᴰ u (link t) → OutsideTypeExpr A a q m u) → ((f : ℕ) → Memᴰ f (link e ++ link v) → OutsideExpression A a m f)
        → Same OutsideDemand (let_type m s t e v path) (let_type m s t e v path)
    unfolding let_type
    let_same scope t e None path h g = variable_same scope t e h (λ f named. g f (Memᴰ.append_left [] named))
    let_same scope t e (Some v) path h g =
        same_bind (same_asked (Demand.expression m v None) (g v (Memᴰ.append_right (link e) (Memᴰ.head refl)))) λ current. same_read _

    const_same : {s : ℕ} → OutsideScope A a m s → (t e : Option ℕ)
        → ((u : ℕ) → Memᴰ u (link t) → OutsideTypeExpr A a q m u) → ((f : ℕ) → Memᴰ f (link e) → OutsideExpression A a m f)
        → Same OutsideDemand (const_type m s t e) (const_type m s t e)
    unfolding const_type
    const_same {s} scope (Some t) e h g = same_asked (Demand.type m t s) (h t (Memᴰ.head refl), scope)
    const_same scope None (Some e) h g = same_asked (Demand.expression m e None) (g e (Memᴰ.head refl))
    const_same scope None None h g = same_done _

    -- ---------------------------------------------------------------- the context of an expression

    definition_link_found : {e : ℕ} (outside : OutsideExpression A a m e)
        → Found (OutsideDefinition A a m) (definition_for_identifier_expr left e) (definition_for_identifier_expr right e)
    unfolding definition_for_identifier_expr
    definition_link_found outside =
        found_by (OutsideDefinition A a m)
        (recorded (left_expression A B a b q hidden m sides outside) ∙ sym (recorded (right_expression A B a b q hidden m sides outside)))
        (λ d e.
        expression_definition_outside A a hidden.first_formed.links hidden.supposed.first_no_links outside
        (link_mem (sym (recorded (left_expression A B a b q hidden m sides outside)) ∙ e)))
      where
        recorded : {o : Option ExpressionInfo} {x : ExpressionInfo} → o ≡ Some x → let_some o None (λ r. r.definition) ≡ x.definition
        recorded h = ap (λ o. let_some o None (λ r. r.definition)) h

    signature_param_same : (signature : Option ℕ) (index : ℕ) → Same OutsideDemand (signature_param signature index) (signature_param signature index)
    unfolding signature_param
    signature_param_same None index = same_done None
    signature_param_same (Some t) index =
        same_bind (same_read (λ table. data_of table t)) λ row.
        same_let_some (found_self (as_function row)) (same_done None) λ signature e. same_done _

    signature_return_same : (signature : Option ℕ) → Same OutsideDemand (signature_return_type signature) (signature_return_type signature)
    unfolding signature_return_type
    signature_return_same None = same_done None
    signature_return_same (Some t) =
        same_bind (same_read (λ table. data_of table t)) λ row.
        same_let_some (found_self (as_function row)) (same_done None) λ signature e. same_done _

    assignment_same : (node : Expression) {lhs : ℕ} → OutsideExpression A a m lhs → Same OutsideDemand (assignment_context m node lhs) (assignment_context m node lhs)
    unfolding assignment_context
    assignment_same node {lhs} outside =
        same_if (is_unsuffixed_literal node)
        (same_bind (same_asked (Demand.expression m lhs None) outside) λ t. same_done (Some t))
        (same_done None)

    argument_same : {callee : ℕ} → OutsideExpression A a m callee → (index : ℕ)
        → Same OutsideDemand (argument_context m left callee index) (argument_context m right callee index)
    unfolding argument_context
    argument_same outside index =
        same_let_some (info_found outside) (same_done None) λ callee_info known.
        same_let_some (found_self (as_identifier callee_info.node)) (same_done None) λ name e.
        same_let_some (definition_link_found outside) (same_done None) λ d outside_d.
        same_bind (same_asked (Demand.signature m d) outside_d) λ signature. signature_param_same signature index

    return_same : {s : ℕ} → OutsideScope A a m s → Same OutsideDemand (return_context m left s) (return_context m right s)
    unfolding return_context
    return_same scope =
        same_let_some (first_function_found A B a b q hidden m sides scope) (same_done None) λ d outside.
        same_bind (same_asked (Demand.signature m d) outside) λ signature. signature_return_same signature

    field_definition_found : {d : ℕ} → OutsideDefinition A a m d
        → Found (λ x. (t : ℕ) → Memᴰ t (definition_types x.kind) → OutsideTypeExpr A a q m t) (definition_at left d) (definition_at right d)
    field_definition_found outside =
        found_two (left_definition A B a b q hidden m sides outside) (right_definition A B a b q hidden m sides outside)
        (λ t named. definition_type_outside outside named)

    field_same : {parent : ℕ} → OutsideExpression A a m parent → (field : Name)
        → Same OutsideDemand (field_context m left parent field) (field_context m right parent field)
    unfolding field_context
    field_same outside field =
        same_let_some (info_found outside) (same_done None) λ parent_info known.
        same_let_some (found_self (as_struct_literal parent_info.node)) (same_done None) λ literal e.
        same_let_some (name_at_position_found A B a b q hidden m sides literal.name literal.start literal.end known.scope) (same_done None) λ d outside_d.
        same_let_some (field_definition_found outside_d) (same_done None) λ definition types.
        same_let_some (struct_field_named definition.kind field) (same_done None) λ t named.
        same_bind (same_asked (Demand.type m t parent_info.scope) (types t named, known.scope)) λ type. same_done (Some type)

    origin_same : (info : ExpressionInfo) → OutsideScope A a m info.scope → (origin : Origin)
        → ((e : ℕ) → Memᴰ e (origin_expressions origin) → OutsideExpression A a m e)
        → Same OutsideDemand (context_from_origin m left info origin) (context_from_origin m right info origin)
    unfolding context_from_origin origin_expressions
    origin_same info scope Origin.Plain h = same_done None
    origin_same info scope (Origin.AssignmentRhs lhs) h = assignment_same info.node (h lhs (Memᴰ.head refl))
    origin_same info scope (Origin.Arg callee index) h = argument_same (h callee (Memᴰ.head refl)) index
    origin_same info scope Origin.Condition h = same_done _
    origin_same info scope Origin.ReturnExpr h = return_same scope
    origin_same info scope (Origin.StructField parent field) h = field_same (h parent (Memᴰ.head refl)) field

    context_same : {info : ExpressionInfo} → OutsideInfo m info → (given : Option ℕ)
        → Same OutsideDemand (context_expected m left info given) (context_expected m right info given)
    unfolding context_expected
    context_same known (Some t) = same_done _
    context_same {info} known None = origin_same info known.scope info.origin known.origin

    -- ---------------------------------------------------------------- the nodes

    module _ (info : ExpressionInfo) (scope : OutsideScope A a m info.scope) where
      expected_same : ((t : ℕ) → Memᴰ t (link info.expected) → OutsideTypeExpr A a q m t)
          → Same OutsideDemand (expected_numeric m info) (expected_numeric m info)
      unfolding expected_numeric
      expected_same h =
          same_let_some (found_link info.expected) (same_done None) λ t named.
          same_bind (same_asked (Demand.type m t info.scope) (h t named, scope)) λ expected_type. same_read _

      literal_same : ((t : ℕ) → Memᴰ t (link info.expected) → OutsideTypeExpr A a q m t) → (context : Option ℕ) (suffix : Option Name)
          → Same OutsideDemand (literal_type m info context suffix) (literal_type m info context suffix)
      unfolding literal_type
      literal_same h context suffix =
          same_let_some (found_self (suffix_type suffix))
          (same_bind (expected_same h) λ expected.
          same_let_some (found_self expected) (same_read _) λ t e. same_done t)
          λ t e. same_done t

      identifier_same : ((d : ℕ) → Memᴰ d (link info.definition) → OutsideDefinition A a m d) → (name : Name)
          → Same OutsideDemand (identifier_type m left info name) (identifier_type m right info name)
      unfolding identifier_type
      identifier_same h name =
          same_if (is_builtin_function_name name) (same_done _)
          (same_let_some (found_link info.definition)
          (same_let_some (name_at_position_found A B a b q hidden m sides name info.start info.end scope) (same_done error) λ d outside.
          same_asked (Demand.definition m d) outside)
          λ d named. same_asked (Demand.definition m d) (h d named))

      parenthesized_same : (context inner : Option ℕ) → ((e : ℕ) → Memᴰ e (link inner) → OutsideExpression A a m e)
          → Same OutsideDemand (parenthesized_type m context inner) (parenthesized_type m context inner)
      unfolding parenthesized_type
      parenthesized_same context inner h =
          same_let_some (found_link inner) (same_done error) λ e named. same_asked (Demand.expression m e context) (h e named)

      new_same : {t : ℕ} → OutsideTypeExpr A a q m t → (count : Option ℕ) → ((e : ℕ) → Memᴰ e (link count) → OutsideExpression A a m e)
          → Same OutsideDemand (new_type m info.scope t count) (new_type m info.scope t count)
      unfolding new_type
      new_same {t} type count h =
          same_bind
          (infer_only_same m count (Some felt) h)
          λ counted.
          same_bind (same_asked (Demand.type m t info.scope) (type, scope)) λ element. same_entered _

      unary_same : (context : Option ℕ) (op : UnaryOp) (operand : Option ℕ) → ((e : ℕ) → Memᴰ e (link operand) → OutsideExpression A a m e)
          → Same OutsideDemand (unary_type m context op operand) (unary_type m context op operand)
      unfolding unary_type
      unary_same context op operand h =
          same_let_some (found_link operand) (same_refuse 6) λ e named.
          same_bind (same_asked (Demand.expression m e context) (h e named)) λ t. same_read _

      operand_same : {e : ℕ} → OutsideExpression A a m e
          → operand_is_unsuffixed_literal left e ≡ operand_is_unsuffixed_literal right e
      unfolding operand_is_unsuffixed_literal
      operand_same outside =
          ap (λ o. let_some o false (λ operand. is_unsuffixed_literal operand.node))
          (left_expression A B a b q hidden m sides outside ∙ sym (right_expression A B a b q hidden m sides outside))

      binary_same : (context : Option ℕ) (op : BinaryOp) (l r : Option ℕ) → ((e : ℕ) → Memᴰ e (link l ++ link r) → OutsideExpression A a m e)
          → Same OutsideDemand (binary_type m left context op l r) (binary_type m right context op l r)
      unfolding binary_type right_first
      binary_same context op l r h =
          same_let_some (found_link l) (same_refuse 6) λ left_id named_l.
          same_let_some (found_link r) (same_refuse 6) λ right_id named_r.
          let outside_l = h left_id (Memᴰ.append_left (link r) named_l) in
          let outside_r = h right_id (Memᴰ.append_right (link l) named_r) in
          same_ifs _ _
          (λ i. is_commutative op && (operand_same outside_l i && not (operand_same outside_r i)))
          (same_bind (same_asked (Demand.expression m right_id context) outside_r) λ right_type.
          same_bind (same_asked (Demand.expression m left_id (Some right_type)) outside_l) λ left_type. same_read _)
          (same_bind (same_asked (Demand.expression m left_id context) outside_l) λ left_type.
          same_bind (same_asked (Demand.expression m right_id (Some left_type)) outside_r) λ right_type. same_read _)

      member_same : (object : Option ℕ) (field : Name) → ((e : ℕ) → Memᴰ e (link object) → OutsideExpression A a m e)
          → Same OutsideDemand (member_type m object field) (member_type m object field)
      unfolding member_type
      member_same object field h =
          same_let_some (found_link object) (same_done error) λ e named.
          same_bind (same_asked (Demand.expression m e None) (h e named)) λ object_type.
          same_bind (same_read (λ table. data_of table object_type)) λ row.
          same_let_some (found_self (as_struct row)) (same_done error) λ fields is_struct.
          same_let_some (found_self (field_type fields field)) (same_done error) λ t has_field. same_done t

      callee_same : (callee : Option ℕ) → ((e : ℕ) → Memᴰ e (link callee) → OutsideExpression A a m e)
          → callee_is_builtin left callee ≡ callee_is_builtin right callee
      unfolding callee_is_builtin
      callee_same None h = refl
      callee_same (Some e) h =
          let outside = h e (Memᴰ.head refl) in
          ap (λ o. let_some o false (λ r. let_some (as_identifier r.node) false is_builtin_function_name))
          (left_expression A B a b q hidden m sides outside ∙ sym (right_expression A B a b q hidden m sides outside))

      call_same : (callee : Option ℕ) (args : List (Option ℕ)) → ((e : ℕ) → Memᴰ e (link callee ++ links args) → OutsideExpression A a m e)
          → Same OutsideDemand (call_type m left callee args) (call_type m right callee args)
      unfolding call_type
      call_same callee args h =
          same_ifs _ _ (callee_same callee (λ e named. h e (Memᴰ.append_left (links args) named))) (same_done _)
          (same_let_some (found_link callee) (same_done error) λ e named.
          same_bind (same_asked (Demand.expression m e None) (h e (Memᴰ.append_left (links args) named))) λ callee_type.
          same_bind (same_read (λ table. data_of table callee_type)) λ row.
          same_let_some (found_self (as_function row)) (same_done error) λ signature is_function.
          same_bind (infer_arguments_same m signature.params 0 args (λ f named_f. h f (Memᴰ.append_right (link callee) named_f))) λ u. same_done _)

      struct_literal_same : (name : Name) (start end : ℕ)
          → Same OutsideDemand (struct_literal_type m left info.scope name start end) (struct_literal_type m right info.scope name start end)
      unfolding struct_literal_type
      struct_literal_same name start end =
          same_let_some (name_at_position_found A B a b q hidden m sides name start end scope) (same_done error) λ d outside.
          same_bind (same_asked (Demand.definition m d) outside) λ def_type.
          same_bind (same_read (λ table. data_of table def_type)) λ row.
          same_let_some (found_self (as_struct row)) (same_done error) λ fields e. same_done def_type

      index_same : (array index : Option ℕ) → ((e : ℕ) → Memᴰ e (link array ++ link index) → OutsideExpression A a m e)
          → Same OutsideDemand (index_type m array index) (index_type m array index)
      unfolding index_type
      index_same array index h =
          same_let_some (found_link array) (same_done error) λ array_id named.
          same_bind (same_asked (Demand.expression m array_id None) (h array_id (Memᴰ.append_left (link index) named))) λ array_type.
          same_bind
          (infer_only_same m index (Some felt) (λ e named_i. h e (Memᴰ.append_right (link array) named_i)))
          λ u.
          same_bind (same_read (λ table. data_of table array_type)) λ row.
          same_let_some (found_self (as_array row))
          (same_let_some (found_self (as_pointer row)) (same_done error) λ t is_pointer. same_done t)
          λ element is_array. same_done _

      tuple_same : (context : Option ℕ) (elements : List (Option ℕ)) → ((e : ℕ) → Memᴰ e (links elements) → OutsideExpression A a m e)
          → Same OutsideDemand (tuple_type m context elements) (tuple_type m context elements)
      unfolding tuple_type
      tuple_same context elements h =
          same_look λ table.
          same_bind (infer_elements_same m _ 0 elements h) λ element_types.
          same_if (eqb (length element_types) (length elements)) (same_entered _) (same_done error)

      tuple_index_same : (tuple : Option ℕ) (index : ℕ) → ((e : ℕ) → Memᴰ e (link tuple) → OutsideExpression A a m e)
          → Same OutsideDemand (tuple_index_type m tuple index) (tuple_index_type m tuple index)
      unfolding tuple_index_type
      tuple_index_same tuple index h =
          same_let_some (found_link tuple) (same_refuse 6) λ tuple_id named.
          same_bind (same_asked (Demand.expression m tuple_id None) (h tuple_id named)) λ t.
          same_bind (same_read (λ table. data_of table t)) λ row.
          same_let_some (found_self (as_tuple row)) (same_done error) λ elements is_tuple.
          same_let_some (found_self (slice_get elements index)) (same_done error) λ element e. same_done element

      empty_array_same : ((t : ℕ) → Memᴰ t (link info.expected) → OutsideTypeExpr A a q m t)
          → Same OutsideDemand (empty_array_type m info) (empty_array_type m info)
      unfolding empty_array_type
      empty_array_same h =
          same_let_some (found_link info.expected) (same_done error) λ t named.
          same_bind (same_asked (Demand.type m t info.scope) (h t named, scope)) λ resolved.
          same_bind (same_read (λ table. data_of table resolved)) λ row.
          same_let_some (found_self (as_array row)) (same_done error) λ array e.
          same_if (eqb array.size 0) (same_entered _) (same_done error)

      array_literal_same : ((t : ℕ) → Memᴰ t (link info.expected) → OutsideTypeExpr A a q m t) → (hint : Option ℕ) (elements : List (Option ℕ))
          → ((e : ℕ) → Memᴰ e (links elements) → OutsideExpression A a m e)
          → Same OutsideDemand (array_literal_type m info hint elements) (array_literal_type m info hint elements)
      unfolding array_literal_type
      array_literal_same types hint [] h =
          same_let_some (found_self hint) (empty_array_same types) λ element e. same_entered _
      array_literal_same types hint (first_elem ∷ elements) h =
          same_let_some (found_link first_elem) (same_refuse 6) λ first_elem_id named.
          same_bind (same_asked (Demand.expression m first_elem_id hint) (h first_elem_id (Memᴰ.append_left (links elements) named))) λ inferred.
          same_bind (all_same_type_same m inferred elements (λ e named_e. h e (Memᴰ.append_right (link first_elem) named_e))) λ same.
          same_if same (same_entered _) (same_done error)

      array_repeat_same : (hint element : Option ℕ) (count : ℕ) → ((e : ℕ) → Memᴰ e (link element) → OutsideExpression A a m e)
          → Same OutsideDemand (array_repeat_type m hint element count) (array_repeat_type m hint element count)
      unfolding array_repeat_type
      array_repeat_same hint element count h =
          same_let_some (found_link element) (same_refuse 6) λ element_id named.
          same_bind (same_asked (Demand.expression m element_id hint) (h element_id named)) λ inferred.
          same_entered _

      node_same : (context : Option ℕ) (node : Expression)
          → ((t : ℕ) → Memᴰ t (link info.expected) → OutsideTypeExpr A a q m t)
          → ((d : ℕ) → Memᴰ d (link info.definition) → OutsideDefinition A a m d)
          → ((t : ℕ) → Memᴰ t (node_types node) → OutsideTypeExpr A a q m t)
          → ((e : ℕ) → Memᴰ e (node_expressions node) → OutsideExpression A a m e)
          → Same OutsideDemand (node_type m left info context node) (node_type m right info context node)
      unfolding node_type node_types node_expressions
      node_same context (Expression.Literal suffix) expected definition types children = literal_same expected context suffix
      node_same context Expression.BooleanLiteral expected definition types children = same_done _
      node_same context (Expression.Parenthesized inner) expected definition types children = parenthesized_same context inner children
      node_same context (Expression.Identifier name) expected definition types children = identifier_same definition name
      node_same context (Expression.New t count) expected definition types children = new_same (types t (Memᴰ.head refl)) count children
      node_same context (Expression.Unary op operand) expected definition types children = unary_same context op operand children
      node_same context (Expression.Binary op l r) expected definition types children = binary_same context op l r children
      node_same context (Expression.MemberAccess object field) expected definition types children = member_same object field children
      node_same context (Expression.FunctionCall callee args) expected definition types children = call_same callee args children
      node_same context (Expression.StructLiteral name start end) expected definition types children = struct_literal_same name start end
      node_same context (Expression.IndexAccess array index) expected definition types children = index_same array index children
      node_same context (Expression.Tuple elements) expected definition types children = tuple_same context elements children
      node_same context (Expression.TupleIndex tuple index) expected definition types children = tuple_index_same tuple index children
      node_same context (Expression.Cast t) expected definition types children =
          same_asked (Demand.type m t info.scope) (types t (Memᴰ.head refl), scope)
      node_same context (Expression.ArrayLiteral elements) expected definition types children =
          same_look λ table. array_literal_same expected _ elements children
      node_same context (Expression.ArrayRepeat element count) expected definition types children =
          same_look λ table. array_repeat_same _ element count children

  -- ------------------------------------------------------------------ the five programs

  abbrev ModulesOf : ℕ → Module → Module → Type 0
  ModulesOf m left right = (module_at A m ≡ Some left) × (module_at B m ≡ Some right)

  modules_found : (m : ℕ) → Present (module_at A m) → Each (ModulesOf m) (module_at A m) (module_at B m)
  modules_found m present =
      let sides = sides_of A B a b q hidden m present in
      each_two sides.left_found sides.right_found (sides.left_found, sides.right_found)

  abbrev sides_from : {m : ℕ} {left right : Module} → ModulesOf m left right → Sides A B m
  sides_from {left = left} {right = right} both_found =
      record { left = left; right = right; left_found = both_found.0; right_found = both_found.1 }

  type_found : {m t : ℕ} (sides : Sides A B m) → OutsideTypeExpr A a q m t
      → Found (λ type. (u : ℕ) → Memᴰ u (type_types type) → OutsideTypeExpr A a q m u) (type_expr_at sides.left t) (type_expr_at sides.right t)
  type_found {m} {t} sides outside =
      found_two (left_type A B a b q hidden m sides outside) (right_type A B a b q hidden m sides outside) (λ u named. type_type_outside outside named)

  type_program_same : (m t s : ℕ) → OutsideTypeExpr A a q m t → OutsideScope A a m s
      → Same OutsideDemand (type_program A m t s) (type_program B m t s)
  unfolding type_program
  type_program_same m t s outside scope =
      same_each (modules_found m (module_found A m _ outside.found)) (same_done error) λ left right here.
      same_let_some (type_found (sides_from here) outside) (same_done error) λ type named.
      type_expr_same m (sides_from here) scope type named

  -- what is known of the record of an outside definition
  record OutsideDefinitionInfo (m d : ℕ) (definition : Definition) : Type 0 where
    scope : OutsideScope A a m definition.scope
    types : (t : ℕ) → Memᴰ t (definition_types definition.kind) → OutsideTypeExpr A a q m t
    expressions : (e : ℕ) → Memᴰ e (definition_expressions definition.kind) → OutsideExpression A a m e

  definition_found : {m d : ℕ} (sides : Sides A B m) → OutsideDefinition A a m d
      → Found (OutsideDefinitionInfo m d) (definition_at sides.left d) (definition_at sides.right d)
  definition_found {m} {d} sides outside =
      found_two (left_definition A B a b q hidden m sides outside) (right_definition A B a b q hidden m sides outside)
      (record {
        scope = definition_scope_outside A a hidden.first_formed.links hidden.supposed.first_no_links outside;
        types = λ t named. definition_type_outside outside named;
        expressions = λ e named. definition_expression_outside A a hidden.first_formed.links hidden.supposed.first_no_links outside named;
      })

  use_same : (imported_module item : Name) → Same OutsideDemand (use_type A imported_module item) (use_type B imported_module item)
  unfolding use_type
  use_same imported_module item =
      same_let_some (module_by_name_found A B a b q hidden imported_module) (same_done error) λ imported present.
      same_each (modules_found imported present) (same_done error) λ left right here.
      same_let_some (root_found A B a b q hidden imported (sides_from here)) (same_done error) λ root outside.
      same_let_some (latest_found A B a b q hidden imported (sides_from here) item root outside) (same_done error) λ d outside_d.
      same_asked (Demand.definition imported d) outside_d

  kind_same : (m d : ℕ) → Sides A B m → OutsideDefinition A a m d → {s : ℕ} → OutsideScope A a m s → (kind : DefinitionKind)
      → ((t : ℕ) → Memᴰ t (definition_types kind) → OutsideTypeExpr A a q m t)
      → ((e : ℕ) → Memᴰ e (definition_expressions kind) → OutsideExpression A a m e)
      → Same OutsideDemand (definition_kind_type A m d s kind) (definition_kind_type B m d s kind)
  unfolding definition_kind_type definition_types definition_expressions
  kind_same m d sides outside scope (DefinitionKind.Struct fields) types expressions =
      same_bind (same_asked (Demand.struct m d) outside) λ struct.
      same_let_some (found_self struct) (same_done error) λ t e. same_done t
  kind_same m d sides outside scope (DefinitionKind.Function t params) types expressions =
      same_bind (same_asked (Demand.signature m d) outside) λ signature.
      same_let_some (found_self signature) (same_done error) λ u e. same_done u
  kind_same m d sides outside {s} scope (DefinitionKind.Parameter t) types expressions =
      same_asked (Demand.type m t s) (types t (Memᴰ.head refl), scope)
  kind_same m d sides outside scope (DefinitionKind.Let t e v path) types expressions = let_same m sides scope t e v path types expressions
  kind_same m d sides outside scope (DefinitionKind.Const t e) types expressions = const_same m sides scope t e types expressions
  kind_same m d sides outside scope (DefinitionKind.Use imported_module item) types expressions = use_same imported_module item
  kind_same m d sides outside scope DefinitionKind.LoopVariable types expressions = same_done _

  definition_program_same : (m d : ℕ) → OutsideDefinition A a m d → Same OutsideDemand (definition_program A m d) (definition_program B m d)
  unfolding definition_program
  definition_program_same m d outside =
      same_each (modules_found m (module_found A m _ outside.found)) (same_done error) λ left right here.
      same_let_some (definition_found (sides_from here) outside) (same_done error) λ definition known.
      kind_same m d (sides_from here) outside known.scope definition.kind known.types known.expressions

  struct_same : (m d : ℕ) {s : ℕ} → OutsideScope A a m s → (kind : DefinitionKind)
      → ((t : ℕ) → Memᴰ t (definition_types kind) → OutsideTypeExpr A a q m t)
      → Same OutsideDemand (struct_kind_data m d s kind) (struct_kind_data m d s kind)
  unfolding struct_kind_data definition_types
  struct_same m d scope (DefinitionKind.Struct fields) types =
      same_bind (resolve_all_same m scope (field_types fields) types) λ ts.
      same_bind (same_entered _) λ t. same_done (Some t)
  struct_same m d scope (DefinitionKind.Function t params) types = same_done None
  struct_same m d scope (DefinitionKind.Parameter t) types = same_done None
  struct_same m d scope (DefinitionKind.Let t e v path) types = same_done None
  struct_same m d scope (DefinitionKind.Const t e) types = same_done None
  struct_same m d scope (DefinitionKind.Use imported_module item) types = same_done None
  struct_same m d scope DefinitionKind.LoopVariable types = same_done None

  struct_program_same : (m d : ℕ) → OutsideDefinition A a m d → Same OutsideDemand (struct_program A m d) (struct_program B m d)
  unfolding struct_program
  struct_program_same m d outside =
      same_each (modules_found m (module_found A m _ outside.found)) (same_done None) λ left right here.
      same_let_some (definition_found (sides_from here) outside) (same_done None) λ definition known.
      struct_same m d known.scope definition.kind known.types

  signature_same : (m d : ℕ) {s : ℕ} → OutsideScope A a m s → (kind : DefinitionKind)
      → ((t : ℕ) → Memᴰ t (definition_types kind) → OutsideTypeExpr A a q m t)
      → Same OutsideDemand (function_kind_signature m d s kind) (function_kind_signature m d s kind)
  unfolding function_kind_signature definition_types
  signature_same m d scope (DefinitionKind.Struct fields) types = same_done None
  signature_same m d {s} scope (DefinitionKind.Function return_t params) types =
      same_bind (resolve_all_same m scope (field_types params) (λ t named. types t (Memᴰ.tail named))) λ param_types.
      same_bind (same_asked (Demand.type m return_t s) (types return_t (Memᴰ.head refl), scope)) λ return_type.
      same_bind (same_entered _) λ t. same_done (Some t)
  signature_same m d scope (DefinitionKind.Parameter t) types = same_done None
  signature_same m d scope (DefinitionKind.Let t e v path) types = same_done None
  signature_same m d scope (DefinitionKind.Const t e) types = same_done None
  signature_same m d scope (DefinitionKind.Use imported_module item) types = same_done None
  signature_same m d scope DefinitionKind.LoopVariable types = same_done None

  signature_program_same : (m d : ℕ) → OutsideDefinition A a m d → Same OutsideDemand (signature_program A m d) (signature_program B m d)
  unfolding signature_program
  signature_program_same m d outside =
      same_each (modules_found m (module_found A m _ outside.found)) (same_done None) λ left right here.
      same_let_some (definition_found (sides_from here) outside) (same_done None) λ definition known.
      signature_same m d known.scope definition.kind known.types

  expression_program_same : (m e : ℕ) (given : Option ℕ) → OutsideExpression A a m e
      → Same OutsideDemand (expression_program A m e given) (expression_program B m e given)
  unfolding expression_program
  expression_program_same m e given outside =
      same_each (modules_found m (module_found A m _ outside.found)) (same_done error) λ left right here.
      same_let_some (info_found m (sides_from here) outside) (same_done error) λ info known.
      same_bind (context_same m (sides_from here) known given) λ context.
      node_same m (sides_from here) info known.scope context info.node known.expected known.definition known.types known.children

  -- for a demand about the outside both programs are the same tree, and all its demands are about the outside
  pub program_same : (d : Demand) → OutsideDemand d → Same OutsideDemand (program A d) (program B d)
  unfolding program
  program_same (Demand.type m t s) outside = type_program_same m t s outside.0 outside.1
  program_same (Demand.definition m d) outside = definition_program_same m d outside
  program_same (Demand.expression m e context) outside = expression_program_same m e context outside
  program_same (Demand.struct m d) outside = struct_program_same m d outside
  program_same (Demand.signature m d) outside = signature_program_same m d outside

  -- ------------------------------------------------------------------ what is asked

  asked_type : (m t : ℕ) → m ≡ asked_module q → Memᴰ t (asked_types q) → Present (type_in A m t) → OutsideTypeExpr A a q m t
  asked_type m t here named (type, e) = record { type = type; found = e; named = question_names here named }

  in_context_same : (m e t : ℕ) → OutsideExpression A a m e → OutsideTypeExpr A a q m t
      → Same OutsideDemand (expression_in_context A m e t) (expression_in_context B m e t)
  unfolding expression_in_context
  in_context_same m e t outside type =
      same_each (modules_found m (module_found A m _ outside.found)) (same_done error) λ left right here.
      same_let_some (info_found m (sides_from here) outside) (same_done error) λ info known.
      same_bind (same_asked (Demand.type m t info.scope) (type, known.scope)) λ context.
      same_asked (Demand.expression m e (Some context)) outside

  says_type_same : {p p' : Program ℕ} → Same OutsideDemand p p' → Same OutsideDemand (says_type p) (says_type p')
  unfolding says_type
  says_type_same h = same_bind h λ t. same_done (Said.type t)

  says_at_same : (m : ℕ) {found found' : Option ℕ} → Found (OutsideExpression A a m) found found' → Same OutsideDemand (says_at m found) (says_at m found')
  unfolding says_at
  says_at_same m found = same_let_some found (same_done _) λ e outside. says_type_same (same_asked (Demand.expression m e None) outside)

  at_same : (m position : ℕ) → NotCoveredInside A a m position → NotCoveredInside B b m position
      → Same OutsideDemand (at_program A m position) (at_program B m position)
  unfolding at_program
  at_same m position not_A not_B =
      same_both (modules_both A B a b q hidden m) (same_done _) λ left right here.
      says_at_same m (at_position_found A B a b q hidden m (sides_from here) position not_A not_B)

  pub asked_same : (r : Asked) → q ≡ r → AboutOutside A a r → AboutOutside B b r → Same OutsideDemand (asked_program A r) (asked_program B r)
  unfolding asked_program asked_module asked_types
  asked_same (Asked.expr m e None) is_q about about_B = says_type_same (same_asked (Demand.expression m e None) about)
  asked_same (Asked.expr m e (Some t)) is_q about about_B =
      says_type_same (in_context_same m e t about.0 (asked_type m t (named_module_of is_q) (named_type_of is_q) about.1))
    where
      named_module_of : q ≡ Asked.expr m e (Some t) → m ≡ asked_module q
      named_module_of h = ap asked_module (sym h)

      named_type_of : q ≡ Asked.expr m e (Some t) → Memᴰ t (asked_types q)
      named_type_of h = subst (λ x. Memᴰ t (asked_types x)) (sym h) (Memᴰ.head refl)
  asked_same (Asked.def m d) is_q about about_B = says_type_same (same_asked (Demand.definition m d) about)
  asked_same (Asked.at m position) is_q about about_B = at_same m position about about_B
  asked_same (Asked.type m t s) is_q about about_B =
      says_type_same (same_asked (Demand.type m t s) (asked_type m t (named_module_of is_q) (named_type_of is_q) about.0, about.1))
    where
      named_module_of : q ≡ Asked.type m t s → m ≡ asked_module q
      named_module_of h = ap asked_module (sym h)

      named_type_of : q ≡ Asked.type m t s → Memᴰ t (asked_types q)
      named_type_of h = subst (λ x. Memᴰ t (asked_types x)) (sym h) (Memᴰ.head refl)
