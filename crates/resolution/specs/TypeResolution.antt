-- The five tracked functions of `type_resolution.rs` as programs, in the Rust's order of evaluation. Assumes nothing.
use Rattle.std.specs.Prelude.{ℕ, suc, Bool, true, false, List, [], ◌∷◌, eqb, length}
use Rattle.std.specs.Prelude.{Option, None, Some}
use Rattle.std.specs.Prelude.{slice_get}
use Rattle.model.specs.Common.{Text, bytes}
use Rattle.model.specs.Records.{Name, TypeExpr, DefinitionKind, Origin, UnaryOp, BinaryOp, Expression, ExpressionInfo, Module, Index}
use Rattle.model.specs.Lookups.{
  module_at,
  type_expr_at,
  definition_at,
  expression_at,
  is_builtin_function_name,
  module_by_name,
  root_scope,
  latest_definition_index_by_name,
  latest_definition_index_by_name_in_chain,
  resolve_name_at_position,
  definition_for_identifier_expr,
  expression_at_position,
  first_function_around,
}
use Rattle.model.specs.Links.{field_types}
use Rattle.resolution.specs.TypeData.{TypeData}
use Rattle.resolution.specs.Types.{as_tuple, as_pointer, as_array, as_struct, as_function, field_type, felt, bool, u32, unknown, error, unit}
use Rattle.resolution.specs.Compatible.{are_types_compatible, unary_op_signatures, binary_op_signatures, unary_result, binary_result}
use Rattle.resolution.specs.Views.{is_unsuffixed_literal, as_identifier, as_struct_literal, struct_field, typed_fields, names_array_expr, right_first, callee_is_builtin, navigate, numeric, numeric_context, element_contexts, element_hint, suffix_type}
use Rattle.resolution.specs.Asked.{Asked}
use Rattle.resolution.specs.Programs.{Demand, Answer, Said, Program, done, look, when◌then◌else◌, let_some, missing_child, type_id_new, type_data, resolve_ast_type, definition_semantic_type, expression_semantic_type, struct_semantic_data, function_semantic_signature, ◌>>=◌, ◌>>◌}

-- ------------------------------------------------------------------ lists of demands

-- each T of a tuple, of a struct's fields or of a function's parameters, in the scope
unfoldable pub resolve_all : ℕ → ℕ → List ℕ → Program (List ℕ)
resolve_all m s [] = done []
resolve_all m s (t ∷ ts) = do
  n ← resolve_ast_type m t s
  ns ← resolve_all m s ts
  done (n ∷ ns)

-- a child that is there, for its demand alone: `let _ = expression_semantic_type(..)`
unfoldable pub infer_only : ℕ → Option ℕ → Option ℕ → Program (Unit {0})
infer_only m child context =
    let_some child (done tt) λ child_id. do
      expression_semantic_type m child_id context
      done tt

-- each argument of a call that is there, with its parameter as context; the first stands at the index
unfoldable pub infer_arguments : ℕ → List ℕ → ℕ → List (Option ℕ) → Program (Unit {0})
infer_arguments m params index [] = done tt
infer_arguments m params index (arg ∷ args) = do
  infer_only m arg (slice_get params index)
  infer_arguments m params (suc index) args

-- each element of a tuple that is there, with its context; the first stands at the index
unfoldable pub infer_elements : ℕ → List ℕ → ℕ → List (Option ℕ) → Program (List ℕ)
infer_elements m contexts index [] = done []
infer_elements m contexts index (None ∷ elements) = infer_elements m contexts (suc index) elements
infer_elements m contexts index (Some element ∷ elements) = do
  t ← expression_semantic_type m element (slice_get contexts index)
  ts ← infer_elements m contexts (suc index) elements
  done (t ∷ ts)

-- the elements of an array after the first, up to one that is missing or doesn't fit
unfoldable pub all_same_type : ℕ → ℕ → List (Option ℕ) → Program Bool
all_same_type m element_type [] = done true
all_same_type m element_type (None ∷ elements) = done false
all_same_type m element_type (Some element ∷ elements) = do
  t ← expression_semantic_type m element (Some element_type)
  look λ table.
      when are_types_compatible table t element_type then all_same_type m element_type elements else done false

-- ------------------------------------------------------------------ resolve_ast_type

-- m is the module's number; s is `context_scope_id`
module _ (m : ℕ) (the_module : Module) (s : ℕ) where
  -- "A custom name must lead to a struct in the first scope that has the name; else error": the TYPE of what is found must be a struct, so it
  -- may be a parameter, a let, a const or a `use` too
  unfoldable pub custom_type : Name → Program ℕ
  custom_type name =
      let_some (latest_definition_index_by_name_in_chain the_module s name) (done error) λ d. do
        def_type ← definition_semantic_type m d
        row ← type_data def_type
        let_some (as_struct row) (done error) λ fields. done def_type

  -- "An array directly of arrays is error"
  unfoldable pub array_type : ℕ → ℕ → Program ℕ
  array_type t size =
      when names_array_expr the_module t
      then done error
      else do
        element ← resolve_ast_type m t s
        row ← type_data element
        let_some (as_array row) (type_id_new (TypeData.FixedArray element size)) λ array. done error

  unfoldable pub type_expr_type : TypeExpr → Program ℕ
  type_expr_type TypeExpr.Felt = done felt
  type_expr_type TypeExpr.Bool = done bool
  type_expr_type TypeExpr.U32 = done u32
  type_expr_type (TypeExpr.Custom name) = custom_type name
  type_expr_type (TypeExpr.Pointer t) = do
    element ← resolve_ast_type m t s
    type_id_new (TypeData.Pointer element)
  type_expr_type (TypeExpr.Tuple ts) = do
    elements ← resolve_all m s ts
    type_id_new (TypeData.Tuple elements)
  type_expr_type (TypeExpr.FixedArray t size) = array_type t size

unfoldable pub type_program : Index → ℕ → ℕ → ℕ → Program ℕ
type_program index m t s =
    let_some (module_at index m) (done error) λ the_module.
    let_some (type_expr_at the_module t) (done error) λ type_expr. type_expr_type m the_module s type_expr

-- ------------------------------------------------------------------ definition_semantic_type

-- `resolve_variable_type`
unfoldable pub resolve_variable_type : ℕ → ℕ → Option ℕ → Option ℕ → Program ℕ
resolve_variable_type m s (Some t) e = resolve_ast_type m t s
resolve_variable_type m s None (Some e) = expression_semantic_type m e None
resolve_variable_type m s None None = done unknown

-- with a destructured value, along its path
unfoldable pub let_type : ℕ → ℕ → Option ℕ → Option ℕ → Option ℕ → List ℕ → Program ℕ
let_type m s t e None path = resolve_variable_type m s t e
let_type m s t e (Some v) path = do
  current ← expression_semantic_type m v None
  look λ table. done (navigate table current path)

unfoldable pub const_type : ℕ → ℕ → Option ℕ → Option ℕ → Program ℕ
const_type m s (Some t) e = resolve_ast_type m t s
const_type m s None (Some e) = expression_semantic_type m e None
const_type m s None None = done error

-- "A `use` looks in the other module's root scope"
unfoldable pub use_type : Index → Name → Name → Program ℕ
use_type index imported_module item =
    let_some (module_by_name index imported_module) (done error) λ imported.
    let_some (module_at index imported) (done error) λ imported_index.
    let_some (root_scope imported_index) (done error) λ imported_root.
    let_some (latest_definition_index_by_name imported_index imported_root item) (done error) λ d.
    definition_semantic_type imported d

unfoldable pub definition_kind_type : Index → ℕ → ℕ → ℕ → DefinitionKind → Program ℕ
definition_kind_type index m d s (DefinitionKind.Struct fields) = do
  struct ← struct_semantic_data m d
  let_some struct (done error) done
definition_kind_type index m d s (DefinitionKind.Function t params) = do
  signature ← function_semantic_signature m d
  let_some signature (done error) done
definition_kind_type index m d s (DefinitionKind.Parameter t) = resolve_ast_type m t s
definition_kind_type index m d s (DefinitionKind.Let t e v path) = let_type m s t e v path
definition_kind_type index m d s (DefinitionKind.Const t e) = const_type m s t e
definition_kind_type index m d s (DefinitionKind.Use imported_module item) = use_type index imported_module item
definition_kind_type index m d s DefinitionKind.LoopVariable = done felt

unfoldable pub definition_program : Index → ℕ → ℕ → Program ℕ
definition_program index m d =
    let_some (module_at index m) (done error) λ the_module.
    let_some (definition_at the_module d) (done error) λ definition.
    definition_kind_type index m d definition.scope definition.kind

-- ------------------------------------------------------------------ struct_semantic_data, function_semantic_signature

unfoldable pub struct_kind_data : ℕ → ℕ → ℕ → DefinitionKind → Program (Option ℕ)
struct_kind_data m d s (DefinitionKind.Struct fields) = do
  types ← resolve_all m s (field_types fields)
  t ← type_id_new (TypeData.Struct m d (typed_fields fields types))
  done (Some t)
struct_kind_data m d s (DefinitionKind.Function t params) = done None
struct_kind_data m d s (DefinitionKind.Parameter t) = done None
struct_kind_data m d s (DefinitionKind.Let t e v path) = done None
struct_kind_data m d s (DefinitionKind.Const t e) = done None
struct_kind_data m d s (DefinitionKind.Use imported_module item) = done None
struct_kind_data m d s DefinitionKind.LoopVariable = done None

unfoldable pub struct_program : Index → ℕ → ℕ → Program (Option ℕ)
struct_program index m d =
    let_some (module_at index m) (done None) λ the_module.
    let_some (definition_at the_module d) (done None) λ definition. struct_kind_data m d definition.scope definition.kind

-- "a finished signature enters as its function type"
unfoldable pub function_kind_signature : ℕ → ℕ → ℕ → DefinitionKind → Program (Option ℕ)
function_kind_signature m d s (DefinitionKind.Struct fields) = done None
function_kind_signature m d s (DefinitionKind.Function return_t params) = do
  param_types ← resolve_all m s (field_types params)
  return_type ← resolve_ast_type m return_t s
  t ← type_id_new (TypeData.Function m d param_types return_type)
  done (Some t)
function_kind_signature m d s (DefinitionKind.Parameter t) = done None
function_kind_signature m d s (DefinitionKind.Let t e v path) = done None
function_kind_signature m d s (DefinitionKind.Const t e) = done None
function_kind_signature m d s (DefinitionKind.Use imported_module item) = done None
function_kind_signature m d s DefinitionKind.LoopVariable = done None

unfoldable pub signature_program : Index → ℕ → ℕ → Program (Option ℕ)
signature_program index m d =
    let_some (module_at index m) (done None) λ the_module.
    let_some (definition_at the_module d) (done None) λ definition.
    function_kind_signature m d definition.scope definition.kind

-- ------------------------------------------------------------------ expression_semantic_type: the context

-- `signature_id.params(db)` and `signature_id.return_type(db)` of a signature that was answered
unfoldable pub signature_param : Option ℕ → ℕ → Program (Option ℕ)
signature_param None index = done None
signature_param (Some t) index = do
  row ← type_data t
  let_some (as_function row) (done None) λ signature. done (slice_get signature.params index)

unfoldable pub signature_return_type : Option ℕ → Program (Option ℕ)
signature_return_type None = done None
signature_return_type (Some t) = do
  row ← type_data t
  let_some (as_function row) (done None) λ signature. done (Some signature.return_type)

-- "`assign` helps only an unsuffixed literal"
unfoldable pub assignment_context : ℕ → Expression → ℕ → Program (Option ℕ)
assignment_context m node lhs =
    when is_unsuffixed_literal node
    then
    (do
      t ← expression_semantic_type m lhs None
      done (Some t))
    else done None

-- "`arg` and `field` see through no `use`". Whatever definition the callee records, its signature is demanded
unfoldable pub argument_context : ℕ → Module → ℕ → ℕ → Program (Option ℕ)
argument_context m the_module callee index =
    let_some (expression_at the_module callee) (done None) λ callee_info.
    let_some (as_identifier callee_info.node) (done None) λ name.
    let_some (definition_for_identifier_expr the_module callee) (done None) λ d. do
      signature ← function_semantic_signature m d
      signature_param signature index

-- "the return type of the first function definition whose scope is the expression's or an ancestor"
unfoldable pub return_context : ℕ → Module → ℕ → Program (Option ℕ)
return_context m the_module s =
    let_some (first_function_around the_module s) (done None) λ d. do
      signature ← function_semantic_signature m d
      signature_return_type signature

-- "`arg` and `field` see through no `use`". The field's T is resolved in the literal's scope
unfoldable pub field_context : ℕ → Module → ℕ → Name → Program (Option ℕ)
field_context m the_module parent field =
    let_some (expression_at the_module parent) (done None) λ parent_info.
    let_some (as_struct_literal parent_info.node) (done None) λ literal.
    let_some
    (resolve_name_at_position the_module literal.name parent_info.scope literal.start literal.end)
    (done None)
    λ d.
    let_some (definition_at the_module d) (done None) λ definition.
    let_some (struct_field definition.kind field) (done None) λ t. do
      type ← resolve_ast_type m t parent_info.scope
      done (Some type)

unfoldable pub context_from_origin : ℕ → Module → ExpressionInfo → Origin → Program (Option ℕ)
context_from_origin m the_module expr_info Origin.Plain = done None
context_from_origin m the_module expr_info (Origin.AssignmentRhs lhs) = assignment_context m expr_info.node lhs
context_from_origin m the_module expr_info (Origin.Arg callee index) = argument_context m the_module callee index
context_from_origin m the_module expr_info Origin.Condition = done (Some bool)
context_from_origin m the_module expr_info Origin.ReturnExpr = return_context m the_module expr_info.scope
context_from_origin m the_module expr_info (Origin.StructField parent field) = field_context m the_module parent field

-- "A given context overrides the origin"
unfoldable pub context_expected : ℕ → Module → ExpressionInfo → Option ℕ → Program (Option ℕ)
context_expected m the_module expr_info (Some t) = done (Some t)
context_expected m the_module expr_info None = context_from_origin m the_module expr_info expr_info.origin

-- ------------------------------------------------------------------ expression_semantic_type: the nodes

-- the expected T, if it resolves to u32 or felt
unfoldable pub expected_numeric : ℕ → ExpressionInfo → Program (Option ℕ)
expected_numeric m expr_info =
    let_some expr_info.expected (done None) λ type_ast. do
      expected_type ← resolve_ast_type m type_ast expr_info.scope
      look λ table. done (numeric table expected_type)

-- suffix, then expected T, then context, then felt
unfoldable pub literal_type : ℕ → ExpressionInfo → Option ℕ → Option Name → Program ℕ
literal_type m expr_info context suffix =
    let_some
    (suffix_type suffix)
    (do
      expected ← expected_numeric m expr_info
      let_some expected (look λ table. done (numeric_context table context)) done)
    done

unfoldable pub parenthesized_type : ℕ → Option ℕ → Option ℕ → Program ℕ
parenthesized_type m context inner = let_some inner (done error) λ inner_id. expression_semantic_type m inner_id context

-- a built-in name; else the recorded definition; else the name at this position
unfoldable pub identifier_type : ℕ → Module → ExpressionInfo → Name → Program ℕ
identifier_type m the_module expr_info name =
    when is_builtin_function_name name
    then done unit
    else
    let_some
    expr_info.definition
    (let_some
    (resolve_name_at_position the_module name expr_info.scope expr_info.start expr_info.end)
    (done error)
    λ d. definition_semantic_type m d)
    λ d. definition_semantic_type m d

unfoldable pub new_type : ℕ → ℕ → ℕ → Option ℕ → Program ℕ
new_type m s t count = do
  infer_only m count (Some felt)
  element ← resolve_ast_type m t s
  type_id_new (TypeData.Pointer element)

unfoldable pub unary_type : ℕ → Option ℕ → UnaryOp → Option ℕ → Program ℕ
unary_type m context op operand =
    let_some operand missing_child λ expr_id. do
      expr_type ← expression_semantic_type m expr_id context
      look λ table. done (unary_result table unary_op_signatures op expr_type)

unfoldable pub binary_type : ℕ → Module → Option ℕ → BinaryOp → Option ℕ → Option ℕ → Program ℕ
binary_type m the_module context op left right =
    let_some left missing_child λ left_id.
    let_some right missing_child λ right_id.
    when right_first the_module op left_id right_id
    then
    (do
      right_type ← expression_semantic_type m right_id context
      left_type ← expression_semantic_type m left_id (Some right_type)
      look λ table. done (binary_result table binary_op_signatures op left_type right_type))
    else do
      left_type ← expression_semantic_type m left_id context
      right_type ← expression_semantic_type m right_id (Some left_type)
      look λ table. done (binary_result table binary_op_signatures op left_type right_type)

unfoldable pub member_type : ℕ → Option ℕ → Name → Program ℕ
member_type m object field =
    let_some object (done error) λ object_id. do
      object_type ← expression_semantic_type m object_id None
      row ← type_data object_type
      let_some (as_struct row) (done error) λ fields. let_some (field_type fields field) (done error) done

unfoldable pub call_type : ℕ → Module → Option ℕ → List (Option ℕ) → Program ℕ
call_type m the_module callee args =
    when callee_is_builtin the_module callee
    then done unit
    else
    let_some callee (done error) λ callee_id. do
      callee_type ← expression_semantic_type m callee_id None
      row ← type_data callee_type
      let_some (as_function row) (done error) λ signature. do
        infer_arguments m signature.params 0 args
        done signature.return_type

unfoldable pub struct_literal_type : ℕ → Module → ℕ → Name → ℕ → ℕ → Program ℕ
struct_literal_type m the_module s name start end =
    let_some (resolve_name_at_position the_module name s start end) (done error) λ d. do
      def_type ← definition_semantic_type m d
      row ← type_data def_type
      let_some (as_struct row) (done error) λ fields. done def_type

unfoldable pub index_type : ℕ → Option ℕ → Option ℕ → Program ℕ
index_type m array index =
    let_some array (done error) λ array_id. do
      array_type ← expression_semantic_type m array_id None
      infer_only m index (Some felt)
      row ← type_data array_type
      let_some (as_array row) (let_some (as_pointer row) (done error) done) λ element. done element.element

unfoldable pub tuple_type : ℕ → Option ℕ → List (Option ℕ) → Program ℕ
tuple_type m context elements = look λ table. do
  element_types ← infer_elements m (element_contexts table context (length elements)) 0 elements
  when eqb (length element_types) (length elements) then type_id_new (TypeData.Tuple element_types) else done error

unfoldable pub tuple_index_type : ℕ → Option ℕ → ℕ → Program ℕ
tuple_index_type m tuple index =
    let_some tuple missing_child λ tuple_id. do
      tuple_ty ← expression_semantic_type m tuple_id None
      row ← type_data tuple_ty
      let_some (as_tuple row) (done error) λ elements. let_some (slice_get elements index) (done error) done

-- an empty array without an array as context: its expected T, if that is an array of size 0
unfoldable pub empty_array_type : ℕ → ExpressionInfo → Program ℕ
empty_array_type m expr_info =
    let_some expr_info.expected (done error) λ expected_type_ast. do
      resolved_type ← resolve_ast_type m expected_type_ast expr_info.scope
      row ← type_data resolved_type
      let_some (as_array row) (done error) λ array.
          when eqb array.size 0 then type_id_new (TypeData.FixedArray array.element 0) else done error

unfoldable pub array_literal_type : ℕ → ExpressionInfo → Option ℕ → List (Option ℕ) → Program ℕ
array_literal_type m expr_info hint [] =
    let_some hint (empty_array_type m expr_info) λ element. type_id_new (TypeData.FixedArray element 0)
array_literal_type m expr_info hint (first_elem ∷ elements) =
    let_some first_elem missing_child λ first_elem_id. do
      inferred ← expression_semantic_type m first_elem_id hint
      same ← all_same_type m inferred elements
      when same then type_id_new (TypeData.FixedArray inferred (suc (length elements))) else done error

unfoldable pub array_repeat_type : ℕ → Option ℕ → Option ℕ → ℕ → Program ℕ
array_repeat_type m hint element count =
    let_some element missing_child λ element_id. do
      inferred ← expression_semantic_type m element_id hint
      type_id_new (TypeData.FixedArray inferred count)

unfoldable pub node_type : ℕ → Module → ExpressionInfo → Option ℕ → Expression → Program ℕ
node_type m the_module expr_info context (Expression.Literal suffix) = literal_type m expr_info context suffix
node_type m the_module expr_info context Expression.BooleanLiteral = done bool
node_type m the_module expr_info context (Expression.Parenthesized inner) = parenthesized_type m context inner
node_type m the_module expr_info context (Expression.Identifier name) = identifier_type m the_module expr_info name
node_type m the_module expr_info context (Expression.New t count) = new_type m expr_info.scope t count
node_type m the_module expr_info context (Expression.Unary op operand) = unary_type m context op operand
node_type m the_module expr_info context (Expression.Binary op left right) = binary_type m the_module context op left right
node_type m the_module expr_info context (Expression.MemberAccess object field) = member_type m object field
node_type m the_module expr_info context (Expression.FunctionCall callee args) = call_type m the_module callee args
node_type m the_module expr_info context (Expression.StructLiteral name start end) =
    struct_literal_type m the_module expr_info.scope name start end
node_type m the_module expr_info context (Expression.IndexAccess array index) = index_type m array index
node_type m the_module expr_info context (Expression.Tuple elements) = tuple_type m context elements
node_type m the_module expr_info context (Expression.TupleIndex tuple index) = tuple_index_type m tuple index
node_type m the_module expr_info context (Expression.Cast t) = resolve_ast_type m t expr_info.scope
node_type m the_module expr_info context (Expression.ArrayLiteral elements) =
    look λ table. array_literal_type m expr_info (element_hint table context) elements
node_type m the_module expr_info context (Expression.ArrayRepeat element count) =
    look λ table. array_repeat_type m (element_hint table context) element count

unfoldable pub expression_program : Index → ℕ → ℕ → Option ℕ → Program ℕ
expression_program index m e given =
    let_some (module_at index m) (done error) λ the_module.
    let_some (expression_at the_module e) (done error) λ expr_info. do
      context ← context_expected m the_module expr_info given
      node_type m the_module expr_info context expr_info.node

-- ------------------------------------------------------------------ the five

unfoldable pub program : Index → (d : Demand) → Program (Answer d)
program index (Demand.type m t s) = type_program index m t s
program index (Demand.definition m d) = definition_program index m d
program index (Demand.expression m e context) = expression_program index m e context
program index (Demand.struct m d) = struct_program index m d
program index (Demand.signature m d) = signature_program index m d

-- ------------------------------------------------------------------ what is asked

-- a context is "resolved first, in e's scope"
unfoldable pub expression_in_context : Index → ℕ → ℕ → ℕ → Program ℕ
expression_in_context index m e t =
    let_some (module_at index m) (done error) λ the_module.
    let_some (expression_at the_module e) (done error) λ expr_info. do
      context ← resolve_ast_type m t expr_info.scope
      expression_semantic_type m e (Some context)

-- the line says a type
unfoldable pub says_type : Program ℕ → Program Said
says_type p = do
  t ← p
  done (Said.type t)

-- the line says `none`
abbrev pub none_word : Text
none_word = bytes "none"

abbrev pub none_said : Said
none_said = Said.word none_word

-- the change request of `at`: "`none` when no expression covers the byte or the module is absent. The chosen expression is typed as by `expr` without context"
unfoldable pub says_at : ℕ → Option ℕ → Program Said
says_at m found = let_some found (done none_said) λ e. says_type (expression_semantic_type m e None)

unfoldable pub at_program : Index → ℕ → ℕ → Program Said
at_program index m position =
    let_some (module_at index m) (done none_said) λ the_module.
    says_at m (expression_at_position the_module position)

-- "An absent module, expression or definition in a question gives `error`"; at a byte it gives `none`
unfoldable pub asked_program : Index → Asked → Program Said
asked_program index (Asked.expr m e None) = says_type (expression_semantic_type m e None)
asked_program index (Asked.expr m e (Some t)) = says_type (expression_in_context index m e t)
asked_program index (Asked.def m d) = says_type (definition_semantic_type m d)
asked_program index (Asked.type m t s) = says_type (resolve_ast_type m t s)
asked_program index (Asked.at m position) = at_program index m position
