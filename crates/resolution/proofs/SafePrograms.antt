-- Every demand keeps the table as it should be, answers a type of the table, and refuses by 6 to 9 only. Assumes nothing.
use Prim.Native.Nat.{ℕ, zero, suc}
use mathlib.Core.Path.{refl}
use mathlib.Core.Bool.{Bool, true, false}
use mathlib.Core.List.Memᴰ
use mathlib.Core.List.{List, [], ◌∷◌}
use Rattle.std.specs.Prelude.{Option, None, Some}
use lib.Dec.{eqb, lit<, lit≤}
use Rattle.std.specs.Prelude.{slice_get}
use lib.ListN.{length}
use Rattle.model.specs.Records.{Name, TypeExpr, DefinitionKind, Origin, UnaryOp, BinaryOp, Expression, ExpressionInfo, Module, Index}
use Rattle.model.specs.Links.{field_types}
use Rattle.resolution.specs.TypeData.{TypeData}
use Rattle.model.specs.Limits.{max_open_demands}
use Rattle.resolution.specs.Types.{Table, first_table, felt, bool, u32, unknown, error, unit}
use Rattle.resolution.specs.Asked.{Asked}
use Rattle.resolution.specs.Programs.{Demand, Answer, Program, done, enter, look, when◌then◌else◌, ◌>>=◌}
use Rattle.resolution.specs.Views.{typed_fields, right_first, numeric_context, element_contexts, element_hint}
use Rattle.resolution.specs.TypeResolution.{
  resolve_all,
  infer_only,
  infer_arguments,
  infer_elements,
  all_same_type,
  custom_type,
  array_type,
  type_expr_type,
  type_program,
  resolve_variable_type,
  let_type,
  const_type,
  use_type,
  definition_kind_type,
  definition_program,
  struct_kind_data,
  struct_program,
  function_kind_signature,
  signature_program,
  signature_param,
  signature_return_type,
  assignment_context,
  argument_context,
  return_context,
  field_context,
  context_from_origin,
  context_expected,
  expected_numeric,
  literal_type,
  parenthesized_type,
  identifier_type,
  new_type,
  unary_type,
  binary_type,
  member_type,
  call_type,
  struct_literal_type,
  index_type,
  tuple_type,
  tuple_index_type,
  empty_array_type,
  array_literal_type,
  array_repeat_type,
  node_type,
  expression_program,
  program,
  expression_in_context,
  says_type,
  says_at,
  at_program,
  asked_program,
}
use Rattle.resolution.specs.Run.{Outcome, refused, run, is_open, demand, resolve_asked}
use Rattle.resolution.specs.TableOk.{row_types, TableOk, Below, OptionBelow, DemandOk, AnswerOk, SaidOk, OutcomeOk}
use Rattle.resolution.proofs.Steady.{compatible_later}
use Rattle.resolution.proofs.Tables.{extends_below, base_below, first_table_ok}
use Rattle.resolution.proofs.Safe.{Safe, safe_done, safe_refuse, safe_look, HandlerOk, run_safe, safe_bind, safe_let_some, safe_if, safe_asked, safe_entered, known}
use Rattle.resolution.proofs.SafeReads.{AllBelow, all_nil, all_cons, all_later, option_later, option_some, at_below, tuple_below, pointer_below, array_below, struct_below, function_below, field_below, navigate_below, numeric_type_below, numeric_below, contexts_below, hint_below, suffix_below, typed_below, navigate_later, numeric_type_later, numeric_later, contexts_later, hint_later, safe_row, safe_unary, safe_binary}

-- ------------------------------------------------------------------ lists of demands

pub resolve_all_safe : {table : Table} → TableOk table → (m s : ℕ) (ts : List ℕ) → Safe AllBelow table (resolve_all m s ts)
unfolding resolve_all
resolve_all_safe {table} ok m s [] = safe_done (all_nil table)
resolve_all_safe ok m s (t ∷ ts) =
    safe_bind ok (safe_asked (Demand.type m t s) tt) λ after ok₁ x n good.
    safe_bind ok₁ (resolve_all_safe ok₁ m s ts) λ last ok₂ y ns goods. safe_done (all_cons last n ns (extends_below y n good) goods)

infer_only_safe : {table : Table} → TableOk table → (m : ℕ) (child context : Option ℕ) → OptionBelow table context → Safe (λ tb u. Unit {0}) table (infer_only m child context)
unfolding infer_only
infer_only_safe ok m child context h =
    safe_let_some _ (safe_done tt) λ e e'. safe_bind ok (safe_asked (Demand.expression m e context) h) λ after ok₁ x t good. safe_done tt

infer_arguments_safe : {table : Table} → TableOk table → (m : ℕ) (params : List ℕ) → AllBelow table params → (index : ℕ) (args : List (Option ℕ))
    → Safe (λ tb u. Unit {0}) table (infer_arguments m params index args)
unfolding infer_arguments
infer_arguments_safe ok m params h index [] = safe_done tt
infer_arguments_safe {table} ok m params h index (arg ∷ args) =
    safe_bind ok (infer_only_safe ok m arg (slice_get params index) (at_below table params index h)) λ after ok₁ x u good.
    infer_arguments_safe ok₁ m params (all_later params x h) (suc index) args

pub infer_elements_safe : {table : Table} → TableOk table → (m : ℕ) (contexts : List ℕ) → AllBelow table contexts → (index : ℕ) (elements : List (Option ℕ))
    → Safe AllBelow table (infer_elements m contexts index elements)
unfolding infer_elements
infer_elements_safe {table} ok m contexts h index [] = safe_done (all_nil table)
infer_elements_safe ok m contexts h index (None ∷ elements) = infer_elements_safe ok m contexts h (suc index) elements
infer_elements_safe {table} ok m contexts h index (Some element ∷ elements) =
    safe_bind ok (safe_asked (Demand.expression m element (slice_get contexts index)) (at_below table contexts index h)) λ after ok₁ x t good.
    safe_bind ok₁ (infer_elements_safe ok₁ m contexts (all_later contexts x h) (suc index) elements) λ last ok₂ y ts goods.
    safe_done (all_cons last t ts (extends_below y t good) goods)

all_same_type_safe : {table : Table} → TableOk table → (m element_type : ℕ) → Below table element_type → (elements : List (Option ℕ))
    → Safe (λ tb u. Unit {0}) table (all_same_type m element_type elements)
unfolding all_same_type
all_same_type_safe ok m element_type h [] = safe_done tt
all_same_type_safe ok m element_type h (None ∷ elements) = safe_done tt
all_same_type_safe ok m element_type h (Some element ∷ elements) =
    safe_bind ok (safe_asked (Demand.expression m element (Some element_type)) h) λ after ok₁ x t good.
    let below = extends_below x element_type h in
    safe_look
    (λ last y i. when compatible_later ok₁ y t element_type good below i then all_same_type m element_type elements else done false)
    (safe_if _ (all_same_type_safe ok₁ m element_type below elements) (safe_done tt))

-- ------------------------------------------------------------------ resolve_ast_type

safe_error : {table : Table} → TableOk table → Safe Below table (done error)
safe_error ok = known ok error (lit< tt)

custom_type_safe : {table : Table} → TableOk table → (m : ℕ) (the_module : Module) (s : ℕ) (name : Name) → Safe Below table (custom_type m the_module s name)
unfolding custom_type
custom_type_safe ok m the_module s name =
    safe_let_some _ (safe_error ok) λ d e.
    safe_bind ok (safe_asked (Demand.definition m d) tt) λ after ok₁ x def_type good.
    safe_bind ok₁ (safe_row ok₁ def_type good) λ last ok₂ y row goods.
    safe_let_some _ (safe_error ok₂) λ fields e'. safe_done (extends_below y def_type good)

array_type_safe : {table : Table} → TableOk table → (m : ℕ) (the_module : Module) (s t size : ℕ) → Safe Below table (array_type m the_module s t size)
unfolding array_type row_types
array_type_safe ok m the_module s t size =
    safe_if _ (safe_error ok)
    (safe_bind ok (safe_asked (Demand.type m t s) tt) λ after ok₁ x element good.
    safe_bind ok₁ (safe_row ok₁ element good) λ last ok₂ y row goods.
    safe_let_some _
    (safe_entered (TypeData.FixedArray element size) (all_cons last element [] (extends_below y element good) (all_nil last)))
    λ array e. safe_error ok₂)

type_expr_safe : {table : Table} → TableOk table → (m : ℕ) (the_module : Module) (s : ℕ) (type : TypeExpr) → Safe Below table (type_expr_type m the_module s type)
unfolding type_expr_type row_types
type_expr_safe ok m the_module s TypeExpr.Felt = known ok felt (lit< tt)
type_expr_safe ok m the_module s TypeExpr.Bool = known ok bool (lit< tt)
type_expr_safe ok m the_module s TypeExpr.U32 = known ok u32 (lit< tt)
type_expr_safe ok m the_module s (TypeExpr.Custom name) = custom_type_safe ok m the_module s name
type_expr_safe ok m the_module s (TypeExpr.Pointer t) =
    safe_bind ok (safe_asked (Demand.type m t s) tt) λ after ok₁ x element good.
    safe_entered (TypeData.Pointer element) (all_cons after element [] good (all_nil after))
type_expr_safe ok m the_module s (TypeExpr.Tuple ts) =
    safe_bind ok (resolve_all_safe ok m s ts) λ after ok₁ x elements good. safe_entered (TypeData.Tuple elements) good
type_expr_safe ok m the_module s (TypeExpr.FixedArray t size) = array_type_safe ok m the_module s t size

type_program_safe : {table : Table} → TableOk table → (index : Index) (m t s : ℕ) → Safe Below table (type_program index m t s)
unfolding type_program
type_program_safe ok index m t s =
    safe_let_some _ (safe_error ok) λ the_module e.
    safe_let_some _ (safe_error ok) λ type e'. type_expr_safe ok m the_module s type

-- ------------------------------------------------------------------ definition_semantic_type

variable_safe : {table : Table} → TableOk table → (m s : ℕ) (t e : Option ℕ) → Safe Below table (resolve_variable_type m s t e)
unfolding resolve_variable_type
variable_safe ok m s (Some t) e = safe_asked (Demand.type m t s) tt
variable_safe ok m s None (Some e) = safe_asked (Demand.expression m e None) tt
variable_safe ok m s None None = known ok unknown (lit< tt)

let_safe : {table : Table} → TableOk table → (m s : ℕ) (t e v : Option ℕ) (path : List ℕ) → Safe Below table (let_type m s t e v path)
unfolding let_type
let_safe ok m s t e None path = variable_safe ok m s t e
let_safe ok m s t e (Some v) path =
    safe_bind ok (safe_asked (Demand.expression m v None) tt) λ after ok₁ x current good.
    safe_look (λ last y i. done (navigate_later ok₁ y path current good i)) (safe_done (navigate_below ok₁ path current good))

const_safe : {table : Table} → TableOk table → (m s : ℕ) (t e : Option ℕ) → Safe Below table (const_type m s t e)
unfolding const_type
const_safe ok m s (Some t) e = safe_asked (Demand.type m t s) tt
const_safe ok m s None (Some e) = safe_asked (Demand.expression m e None) tt
const_safe ok m s None None = safe_error ok

use_safe : {table : Table} → TableOk table → (index : Index) (imported_module item : Name) → Safe Below table (use_type index imported_module item)
unfolding use_type
use_safe ok index imported_module item =
    safe_let_some _ (safe_error ok) λ imported e.
    safe_let_some _ (safe_error ok) λ imported_index e'.
    safe_let_some _ (safe_error ok) λ imported_root e''.
    safe_let_some _ (safe_error ok) λ d e'''.
    safe_asked (Demand.definition imported d) tt

kind_safe : {table : Table} → TableOk table → (index : Index) (m d s : ℕ) (kind : DefinitionKind) → Safe Below table (definition_kind_type index m d s kind)
unfolding definition_kind_type
kind_safe ok index m d s (DefinitionKind.Struct fields) =
    safe_bind ok (safe_asked (Demand.struct m d) tt) λ after ok₁ x struct good.
    safe_let_some _ (safe_error ok₁) λ t e. safe_done (option_some after e good)
kind_safe ok index m d s (DefinitionKind.Function t params) =
    safe_bind ok (safe_asked (Demand.signature m d) tt) λ after ok₁ x signature good.
    safe_let_some _ (safe_error ok₁) λ u e. safe_done (option_some after e good)
kind_safe ok index m d s (DefinitionKind.Parameter t) = safe_asked (Demand.type m t s) tt
kind_safe ok index m d s (DefinitionKind.Let t e v path) = let_safe ok m s t e v path
kind_safe ok index m d s (DefinitionKind.Const t e) = const_safe ok m s t e
kind_safe ok index m d s (DefinitionKind.Use imported_module item) = use_safe ok index imported_module item
kind_safe ok index m d s DefinitionKind.LoopVariable = known ok felt (lit< tt)

definition_program_safe : {table : Table} → TableOk table → (index : Index) (m d : ℕ) → Safe Below table (definition_program index m d)
unfolding definition_program
definition_program_safe ok index m d =
    safe_let_some _ (safe_error ok) λ the_module e.
    safe_let_some _ (safe_error ok) λ definition e'.
    kind_safe ok index m d definition.scope definition.kind

-- ------------------------------------------------------------------ struct_semantic_data, function_semantic_signature

struct_safe : {table : Table} → TableOk table → (m d s : ℕ) (kind : DefinitionKind) → Safe OptionBelow table (struct_kind_data m d s kind)
unfolding struct_kind_data row_types
struct_safe ok m d s (DefinitionKind.Struct fields) =
    safe_bind ok (resolve_all_safe ok m s (field_types fields)) λ after ok₁ x types good.
    safe_bind ok₁ (safe_entered (TypeData.Struct m d (typed_fields fields types)) (typed_below after fields types good)) λ last ok₂ y t good₂. safe_done good₂
struct_safe ok m d s (DefinitionKind.Function t params) = safe_done tt
struct_safe ok m d s (DefinitionKind.Parameter t) = safe_done tt
struct_safe ok m d s (DefinitionKind.Let t e v path) = safe_done tt
struct_safe ok m d s (DefinitionKind.Const t e) = safe_done tt
struct_safe ok m d s (DefinitionKind.Use imported_module item) = safe_done tt
struct_safe ok m d s DefinitionKind.LoopVariable = safe_done tt

struct_program_safe : {table : Table} → TableOk table → (index : Index) (m d : ℕ) → Safe OptionBelow table (struct_program index m d)
unfolding struct_program
struct_program_safe ok index m d =
    safe_let_some _ (safe_done tt) λ the_module e.
    safe_let_some _ (safe_done tt) λ definition e'. struct_safe ok m d definition.scope definition.kind

signature_safe : {table : Table} → TableOk table → (m d s : ℕ) (kind : DefinitionKind) → Safe OptionBelow table (function_kind_signature m d s kind)
unfolding function_kind_signature row_types
signature_safe ok m d s (DefinitionKind.Struct fields) = safe_done tt
signature_safe ok m d s (DefinitionKind.Function return_t params) =
    safe_bind ok (resolve_all_safe ok m s (field_types params)) λ after ok₁ x param_types good.
    safe_bind ok₁ (safe_asked (Demand.type m return_t s) tt) λ later ok₂ y return_type good₂.
    safe_bind ok₂
    (safe_entered (TypeData.Function m d param_types return_type) (all_cons later return_type param_types good₂ (all_later param_types y good)))
    λ last ok₃ z t good₃. safe_done good₃
signature_safe ok m d s (DefinitionKind.Parameter t) = safe_done tt
signature_safe ok m d s (DefinitionKind.Let t e v path) = safe_done tt
signature_safe ok m d s (DefinitionKind.Const t e) = safe_done tt
signature_safe ok m d s (DefinitionKind.Use imported_module item) = safe_done tt
signature_safe ok m d s DefinitionKind.LoopVariable = safe_done tt

signature_program_safe : {table : Table} → TableOk table → (index : Index) (m d : ℕ) → Safe OptionBelow table (signature_program index m d)
unfolding signature_program
signature_program_safe ok index m d =
    safe_let_some _ (safe_done tt) λ the_module e.
    safe_let_some _ (safe_done tt) λ definition e'. signature_safe ok m d definition.scope definition.kind

-- ------------------------------------------------------------------ expression_semantic_type: the context

param_safe : {table : Table} → TableOk table → (signature : Option ℕ) → OptionBelow table signature → (index : ℕ) → Safe OptionBelow table (signature_param signature index)
unfolding signature_param
param_safe ok None h index = safe_done tt
param_safe ok (Some t) h index =
    safe_bind ok (safe_row ok t h) λ after ok₁ x row good.
    safe_let_some _ (safe_done tt) λ signature e.
    safe_done (at_below after signature.params index (λ u named. function_below ok₁ row signature e good u (Memᴰ.tail named)))

return_type_safe : {table : Table} → TableOk table → (signature : Option ℕ) → OptionBelow table signature → Safe OptionBelow table (signature_return_type signature)
unfolding signature_return_type
return_type_safe ok None h = safe_done tt
return_type_safe ok (Some t) h =
    safe_bind ok (safe_row ok t h) λ after ok₁ x row good.
    safe_let_some _ (safe_done tt) λ signature e.
    safe_done (function_below ok₁ row signature e good signature.return_type (Memᴰ.head refl))

module _ {table : Table} (ok : TableOk table) (m : ℕ) (the_module : Module) (info : ExpressionInfo) where
  assignment_safe : (lhs : ℕ) → Safe OptionBelow table (assignment_context m info.node lhs)
  unfolding assignment_context
  assignment_safe lhs =
      safe_if _
      (safe_bind ok (safe_asked (Demand.expression m lhs None) tt) λ after ok₁ x t good. safe_done good)
      (safe_done tt)

  argument_safe : (callee index : ℕ) → Safe OptionBelow table (argument_context m the_module callee index)
  unfolding argument_context
  argument_safe callee index =
      safe_let_some _ (safe_done tt) λ callee_info e.
      safe_let_some _ (safe_done tt) λ name e'.
      safe_let_some _ (safe_done tt) λ d e''.
      safe_bind ok (safe_asked (Demand.signature m d) tt) λ after ok₁ x signature good. param_safe ok₁ signature good index

  return_safe : Safe OptionBelow table (return_context m the_module info.scope)
  unfolding return_context
  return_safe =
      safe_let_some _ (safe_done tt) λ d e.
      safe_bind ok (safe_asked (Demand.signature m d) tt) λ after ok₁ x signature good. return_type_safe ok₁ signature good

  field_safe : (parent : ℕ) (field : Name) → Safe OptionBelow table (field_context m the_module parent field)
  unfolding field_context
  field_safe parent field =
      safe_let_some _ (safe_done tt) λ parent_info e.
      safe_let_some _ (safe_done tt) λ literal e'.
      safe_let_some _ (safe_done tt) λ d e''.
      safe_let_some _ (safe_done tt) λ definition e'''.
      safe_let_some _ (safe_done tt) λ t e''''.
      safe_bind ok (safe_asked (Demand.type m t parent_info.scope) tt) λ after ok₁ x u good. safe_done good

  origin_safe : (origin : Origin) → Safe OptionBelow table (context_from_origin m the_module info origin)
  unfolding context_from_origin
  origin_safe Origin.Plain = safe_done tt
  origin_safe (Origin.AssignmentRhs lhs) = assignment_safe lhs
  origin_safe (Origin.Arg callee index) = argument_safe callee index
  origin_safe Origin.Condition = safe_done (base_below ok bool (lit< tt))
  origin_safe Origin.ReturnExpr = return_safe
  origin_safe (Origin.StructField parent field) = field_safe parent field

  context_safe : (given : Option ℕ) → OptionBelow table given → Safe OptionBelow table (context_expected m the_module info given)
  unfolding context_expected
  context_safe (Some t) h = safe_done h
  context_safe None h = origin_safe info.origin

  -- ---------------------------------------------------------------- expression_semantic_type: the nodes

  expected_safe : Safe OptionBelow table (expected_numeric m info)
  unfolding expected_numeric
  expected_safe =
      safe_let_some _ (safe_done tt) λ t e.
      safe_bind ok (safe_asked (Demand.type m t info.scope) tt) λ after ok₁ x expected_type good.
      safe_look (λ last y i. done (numeric_type_later ok₁ y expected_type good i)) (safe_done (numeric_type_below ok₁ expected_type good))

  literal_safe : (context : Option ℕ) → OptionBelow table context → (suffix : Option Name) → Safe Below table (literal_type m info context suffix)
  unfolding literal_type
  literal_safe context h suffix =
      safe_let_some _
      (safe_bind ok (expected_safe) λ after ok₁ x expected good.
      safe_let_some _ (numeric ok₁ (option_later context x h)) λ t e. safe_done (option_some after e good))
      λ t e. safe_done (option_some table e (suffix_below ok suffix))
    where
      numeric : {after : Table} → TableOk after → OptionBelow after context → Safe Below after (look (λ tb. done (numeric_context tb context)))
      numeric ok₁ g = safe_look (λ last y i. done (numeric_later ok₁ y context g i)) (safe_done (numeric_below ok₁ context g))

  parenthesized_safe : (context : Option ℕ) → OptionBelow table context → (inner : Option ℕ) → Safe Below table (parenthesized_type m context inner)
  unfolding parenthesized_type
  parenthesized_safe context h inner = safe_let_some _ (safe_error ok) λ e e'. safe_asked (Demand.expression m e context) h

  identifier_safe : (name : Name) → Safe Below table (identifier_type m the_module info name)
  unfolding identifier_type
  identifier_safe name =
      safe_if _ (known ok unit (lit< tt))
      (safe_let_some _
      (safe_let_some _ (safe_error ok) λ d e. safe_asked (Demand.definition m d) tt)
      λ d e. safe_asked (Demand.definition m d) tt)

  new_safe : (t : ℕ) (count : Option ℕ) → Safe Below table (new_type m info.scope t count)
  unfolding new_type row_types
  new_safe t count =
      safe_bind ok
      (infer_only_safe ok m count (Some felt) (base_below ok felt (lit< tt)))
      λ after ok₁ x u good.
      safe_bind ok₁ (safe_asked (Demand.type m t info.scope) tt) λ last ok₂ y element good₂.
      safe_entered (TypeData.Pointer element) (all_cons last element [] good₂ (all_nil last))

  unary_safe : (context : Option ℕ) → OptionBelow table context → (op : UnaryOp) (operand : Option ℕ) → Safe Below table (unary_type m context op operand)
  unfolding unary_type
  unary_safe context h op operand =
      safe_let_some _ safe_refuse λ e e'.
      safe_bind ok (safe_asked (Demand.expression m e context) h) λ after ok₁ x t good. safe_unary ok₁ op t good

  binary_safe : (context : Option ℕ) → OptionBelow table context → (op : BinaryOp) (l r : Option ℕ) → Safe Below table (binary_type m the_module context op l r)
  unfolding binary_type
  binary_safe context h op l r =
      safe_let_some _ safe_refuse λ left_id e.
      safe_let_some _ safe_refuse λ right_id e'.
      safe_if
      (right_first the_module op left_id right_id)
      (safe_bind ok (safe_asked (Demand.expression m right_id context) h) λ after ok₁ x right_type good.
      safe_bind ok₁ (safe_asked (Demand.expression m left_id (Some right_type)) good) λ last ok₂ y left_type good₂.
      safe_binary ok₂ op left_type right_type good₂ (extends_below y right_type good))
      (safe_bind ok (safe_asked (Demand.expression m left_id context) h) λ after ok₁ x left_type good.
      safe_bind ok₁ (safe_asked (Demand.expression m right_id (Some left_type)) good) λ last ok₂ y right_type good₂.
      safe_binary ok₂ op left_type right_type (extends_below y left_type good) good₂)

  member_safe : (object : Option ℕ) (field : Name) → Safe Below table (member_type m object field)
  unfolding member_type
  member_safe object field =
      safe_let_some _ (safe_error ok) λ e e'.
      safe_bind ok (safe_asked (Demand.expression m e None) tt) λ after ok₁ x object_type good.
      safe_bind ok₁ (safe_row ok₁ object_type good) λ last ok₂ y row goods.
      safe_let_some _ (safe_error ok₂) λ fields is_struct.
      safe_let_some _ (safe_error ok₂) λ t has_field.
      safe_done (option_some last has_field (field_below ok₂ fields field (struct_below ok₂ row fields is_struct goods)))

  call_safe : (callee : Option ℕ) (args : List (Option ℕ)) → Safe Below table (call_type m the_module callee args)
  unfolding call_type
  call_safe callee args =
      safe_if _ (known ok unit (lit< tt))
      (safe_let_some _ (safe_error ok) λ e e'.
      safe_bind ok (safe_asked (Demand.expression m e None) tt) λ after ok₁ x callee_type good.
      safe_bind ok₁ (safe_row ok₁ callee_type good) λ later ok₂ y row goods.
      safe_let_some _ (safe_error ok₂) λ signature is_function.
      let below = function_below ok₂ row signature is_function goods in
      safe_bind ok₂ (infer_arguments_safe ok₂ m signature.params (λ u named. below u (Memᴰ.tail named)) 0 args) λ last ok₃ z u done_all.
      safe_done (extends_below z signature.return_type (below signature.return_type (Memᴰ.head refl))))

  struct_literal_safe : (name : Name) (start end : ℕ) → Safe Below table (struct_literal_type m the_module info.scope name start end)
  unfolding struct_literal_type
  struct_literal_safe name start end =
      safe_let_some _ (safe_error ok) λ d e.
      safe_bind ok (safe_asked (Demand.definition m d) tt) λ after ok₁ x def_type good.
      safe_bind ok₁ (safe_row ok₁ def_type good) λ last ok₂ y row goods.
      safe_let_some _ (safe_error ok₂) λ fields e'. safe_done (extends_below y def_type good)

  index_safe : (array index : Option ℕ) → Safe Below table (index_type m array index)
  unfolding index_type
  index_safe array index =
      safe_let_some _ (safe_error ok) λ array_id e.
      safe_bind ok (safe_asked (Demand.expression m array_id None) tt) λ after ok₁ x array_type good.
      safe_bind ok₁
      (infer_only_safe ok₁ m index (Some felt) (base_below ok₁ felt (lit< tt)))
      λ later ok₂ y u good₂.
      safe_bind ok₂ (safe_row ok₂ array_type (extends_below y array_type good)) λ last ok₃ z row goods.
      safe_let_some _
      (safe_let_some _ (safe_error ok₃) λ t is_pointer. safe_done (pointer_below ok₃ row t is_pointer goods))
      λ element is_array. safe_done (array_below ok₃ row element is_array goods)

  tuple_safe : (context : Option ℕ) → OptionBelow table context → (elements : List (Option ℕ)) → Safe Below table (tuple_type m context elements)
  unfolding tuple_type row_types
  tuple_safe context h elements =
      safe_look
      (λ after x i. do
        element_types ← infer_elements m (contexts_later ok x context (length elements) h i) 0 elements
        when eqb (length element_types) (length elements) then enter (TypeData.Tuple element_types) done else done error)
      (safe_bind ok (infer_elements_safe ok m (element_contexts table context (length elements)) (contexts_below ok context (length elements)) 0 elements) λ after ok₁ x element_types good.
      safe_if _ (safe_entered (TypeData.Tuple element_types) good) (safe_error ok₁))

  tuple_index_safe : (tuple : Option ℕ) (index : ℕ) → Safe Below table (tuple_index_type m tuple index)
  unfolding tuple_index_type
  tuple_index_safe tuple index =
      safe_let_some _ safe_refuse λ tuple_id e.
      safe_bind ok (safe_asked (Demand.expression m tuple_id None) tt) λ after ok₁ x t good.
      safe_bind ok₁ (safe_row ok₁ t good) λ last ok₂ y row goods.
      safe_let_some _ (safe_error ok₂) λ elements is_tuple.
      safe_let_some _ (safe_error ok₂) λ element e'.
      safe_done (option_some last e' (at_below last elements index (tuple_below ok₂ row elements is_tuple goods)))

  empty_array_safe : Safe Below table (empty_array_type m info)
  unfolding empty_array_type row_types
  empty_array_safe =
      safe_let_some _ (safe_error ok) λ t e.
      safe_bind ok (safe_asked (Demand.type m t info.scope) tt) λ after ok₁ x resolved good.
      safe_bind ok₁ (safe_row ok₁ resolved good) λ last ok₂ y row goods.
      safe_let_some _ (safe_error ok₂) λ array is_array.
      safe_if _
      (safe_entered (TypeData.FixedArray array.element 0) (all_cons last array.element [] (array_below ok₂ row array is_array goods) (all_nil last)))
      (safe_error ok₂)

  array_literal_safe : (hint : Option ℕ) → OptionBelow table hint → (elements : List (Option ℕ)) → Safe Below table (array_literal_type m info hint elements)
  unfolding array_literal_type row_types
  array_literal_safe hint h [] =
      safe_let_some _ empty_array_safe λ element e.
      safe_entered (TypeData.FixedArray element 0) (all_cons table element [] (option_some table e h) (all_nil table))
  array_literal_safe hint h (first_elem ∷ elements) =
      safe_let_some _ safe_refuse λ first_elem_id e.
      safe_bind ok (safe_asked (Demand.expression m first_elem_id hint) h) λ after ok₁ x inferred good.
      safe_bind ok₁ (all_same_type_safe ok₁ m inferred good elements) λ last ok₂ y same u.
      safe_if same
      (safe_entered (TypeData.FixedArray inferred (suc (length elements))) (all_cons last inferred [] (extends_below y inferred good) (all_nil last)))
      (safe_error ok₂)

  array_repeat_safe : (hint : Option ℕ) → OptionBelow table hint → (element : Option ℕ) (count : ℕ) → Safe Below table (array_repeat_type m hint element count)
  unfolding array_repeat_type row_types
  array_repeat_safe hint h element count =
      safe_let_some _ safe_refuse λ element_id e.
      safe_bind ok (safe_asked (Demand.expression m element_id hint) h) λ after ok₁ x inferred good.
      safe_entered (TypeData.FixedArray inferred count) (all_cons after inferred [] good (all_nil after))

  node_safe : (context : Option ℕ) → OptionBelow table context → (node : Expression) → Safe Below table (node_type m the_module info context node)
  unfolding node_type
  node_safe context h (Expression.Literal suffix) = literal_safe context h suffix
  node_safe context h Expression.BooleanLiteral = known ok bool (lit< tt)
  node_safe context h (Expression.Parenthesized inner) = parenthesized_safe context h inner
  node_safe context h (Expression.Identifier name) = identifier_safe name
  node_safe context h (Expression.New t count) = new_safe t count
  node_safe context h (Expression.Unary op operand) = unary_safe context h op operand
  node_safe context h (Expression.Binary op l r) = binary_safe context h op l r
  node_safe context h (Expression.MemberAccess object field) = member_safe object field
  node_safe context h (Expression.FunctionCall callee args) = call_safe callee args
  node_safe context h (Expression.StructLiteral name start end) = struct_literal_safe name start end
  node_safe context h (Expression.IndexAccess array index) = index_safe array index
  node_safe context h (Expression.Tuple elements) = tuple_safe context h elements
  node_safe context h (Expression.TupleIndex tuple index) = tuple_index_safe tuple index
  node_safe context h (Expression.Cast t) = safe_asked (Demand.type m t info.scope) tt
  node_safe context h (Expression.ArrayLiteral elements) =
      safe_look (λ after x i. array_literal_type m info (hint_later ok x context h i) elements)
      (array_literal_safe (element_hint table context) (hint_below ok context) elements)
  node_safe context h (Expression.ArrayRepeat element count) =
      safe_look (λ after x i. array_repeat_type m (hint_later ok x context h i) element count)
      (array_repeat_safe (element_hint table context) (hint_below ok context) element count)

expression_program_safe : {table : Table} → TableOk table → (index : Index) (m e : ℕ) (given : Option ℕ) → OptionBelow table given
    → Safe Below table (expression_program index m e given)
unfolding expression_program
expression_program_safe ok index m e given h =
    safe_let_some _ (safe_error ok) λ the_module e'.
    safe_let_some _ (safe_error ok) λ info e''.
    safe_bind ok (context_safe ok m the_module info given h) λ after ok₁ x context good.
    node_safe ok₁ m the_module info context good info.node

-- ------------------------------------------------------------------ demands and questions

pub program_safe : {table : Table} → TableOk table → (index : Index) (d : Demand) → DemandOk table d → Safe (AnswerOk d) table (program index d)
unfolding program
program_safe ok index (Demand.type m t s) h = type_program_safe ok index m t s
program_safe ok index (Demand.definition m d) h = definition_program_safe ok index m d
program_safe ok index (Demand.expression m e context) h = expression_program_safe ok index m e context h
program_safe ok index (Demand.struct m d) h = struct_program_safe ok index m d
program_safe ok index (Demand.signature m d) h = signature_program_safe ok index m d

-- a demand at a good table ends in a good table with an answer of it, or in a refusal from 6 to 9
pub demand_ok : (free : ℕ) (index : Index) (open_demands : List Demand) → HandlerOk (demand free index open_demands)
unfolding demand
demand_ok zero index open_demands d table ok h = go (is_open open_demands d)
  where
    go : (b : Bool) → OutcomeOk (AnswerOk d) table (elim b [ true ↦ refused 7 | false ↦ refused 8 ])
    go true = (lit≤ tt, lit≤ tt)
    go false = (lit≤ tt, lit≤ tt)
demand_ok (suc free) index open_demands d table ok h =
    go (is_open open_demands d) (run (λ d'. demand free index (d ∷ open_demands) d') (program index d) table)
    (run_safe (AnswerOk d) (λ d'. demand free index (d ∷ open_demands) d') (demand_ok free index (d ∷ open_demands)) (program_safe ok index d h) ok)
  where
    go : (b : Bool) (o : Outcome (Answer d)) → OutcomeOk (AnswerOk d) table o → OutcomeOk (AnswerOk d) table (elim b [ true ↦ refused 7 | false ↦ o ])
    go true o good = (lit≤ tt, lit≤ tt)
    go false o good = good

pub says_type_safe : {table : Table} → TableOk table → {p : Program ℕ} → Safe Below table p → Safe SaidOk table (says_type p)
unfolding says_type
says_type_safe ok h = safe_bind ok h λ after ok₁ x t good. safe_done good

in_context_safe : {table : Table} → TableOk table → (index : Index) (m e t : ℕ) → Safe Below table (expression_in_context index m e t)
unfolding expression_in_context
in_context_safe ok index m e t =
    safe_let_some _ (safe_error ok) λ the_module e'.
    safe_let_some _ (safe_error ok) λ info e''.
    safe_bind ok (safe_asked (Demand.type m t info.scope) tt) λ after ok₁ x context good.
    safe_asked (Demand.expression m e (Some context)) good

at_safe : {table : Table} → TableOk table → (index : Index) (m position : ℕ) → Safe SaidOk table (at_program index m position)
unfolding at_program says_at
at_safe ok index m position =
    safe_let_some _ (safe_done (lit≤ tt)) λ the_module e'.
    safe_let_some _ (safe_done (lit≤ tt)) λ e e''. says_type_safe ok (safe_asked (Demand.expression m e None) tt)

pub asked_safe : {table : Table} → TableOk table → (index : Index) (asked : Asked) → Safe SaidOk table (asked_program index asked)
unfolding asked_program
asked_safe ok index (Asked.expr m e None) = says_type_safe ok (safe_asked (Demand.expression m e None) tt)
asked_safe ok index (Asked.expr m e (Some t)) = says_type_safe ok (in_context_safe ok index m e t)
asked_safe ok index (Asked.def m d) = says_type_safe ok (safe_asked (Demand.definition m d) tt)
asked_safe ok index (Asked.type m t s) = says_type_safe ok (safe_asked (Demand.type m t s) tt)
asked_safe ok index (Asked.at m position) = at_safe ok index m position

pub asked_ok : (index : Index) (asked : Asked) → OutcomeOk SaidOk first_table (resolve_asked index asked)
unfolding resolve_asked
asked_ok index asked =
    run_safe SaidOk (demand max_open_demands index []) (demand_ok max_open_demands index []) (asked_safe first_table_ok index asked) first_table_ok
