-- The definition's programs up to their first demand, where the code reads the records in one go. Assumes nothing.
use Rattle.std.specs.Prelude.{Result}
use Rattle.refusals.specs.declared.Refusal.{Refusal}
use mathlib.Core.Path.{◌≡◌, refl, sym, ap, subst, subst⁻¹, ◌∙◌}
use Prim.Native.Nat.{ℕ, zero, suc, ◌+◌, ◌≤◌}
use native.Mathlib.Omega.{arith}
use mathlib.Core.List.{List, [], ◌∷◌, map}
use Rattle.std.specs.Prelude.{Option, None, Some}
use lib.ListN.{length, drop}
use Rattle.model.specs.Common.{let_some as from_some}
use Rattle.model.specs.Records.{Name, Module, Index, ExpressionInfo}
use Rattle.model.specs.Lookups.{module_at, definition_at, expression_at, module_by_name, root_scope, latest_definition_index_by_name, resolve_name_at_position, definition_for_identifier_expr, is_builtin_function_name}
use Rattle.model.specs.Links.{field_types}
use Rattle.records.specs.Layout.{each, item_value, numbers_at, names_with_types_at, name_with_type_row, link_by, links_at}
use Rattle.resolution.specs.TypeData.{TypeData}
use Rattle.resolution.specs.Types.{error, unit}
use Rattle.resolution.specs.Views.{as_identifier, as_struct_literal, struct_field, typed_fields, numeric, numeric_context, element_hint, element_contexts, suffix_type}
use Rattle.resolution.specs.Programs.{Program, done, look, when◌then◌else◌, let_some, missing_child, type_id_new, resolve_ast_type, definition_semantic_type, expression_semantic_type, function_semantic_signature, ◌>>=◌}
use Rattle.resolution.specs.TypeResolution.{resolve_all, infer_elements, all_same_type, use_type, argument_context, field_context, signature_param, identifier_type, literal_type, expected_numeric, array_literal_type, empty_array_type}
use Rattle.views.specs.Reads.{ScopedType, Imported, argument_definition, field_type_expr, imported_definition, identifier_definition}
use Rattle.type_table.specs.Layout.{table_of, types_of}
use Rattle.type_table.specs.Promises.{Reads, ContextsRead}
use Rattle.type_table.specs.Reads.{element_hint_read}
use Rattle.type_table.specs.declared.TypeList.{TypeList}
use Rattle.type_resolution.specs.State.{Runs, typed}
use Rattle.type_resolution.specs.Shapes.{info_with, literal_in, array_literal_in, empty_array_in, struct_type, signature_type}
use Rattle.type_resolution.proofs.Running.{look_runs}
use Rattle.type_resolution.proofs.Short.{links_length}
use Rattle.records.proofs.Lists.{each_length}

abbrev scoped : ℕ → ℕ → ScopedType
scoped t scope = record { type = t; scope = scope }

abbrev imported_as : ℕ → ℕ → Imported
imported_as source n = record { source = source; definition = n }

-- one choice behind another
let_chain : {X Y A : Type 0} (o : Option X) (q : Program A) (f : X → Option Y) (g : Y → Program A) → let_some o q (λ x. let_some (f x) q g) ≡ let_some (from_some o None f) q g
unfolding let_some
let_chain None q f g = refl
let_chain (Some x) q f g = refl

-- ------------------------------------------------------------------ up to the demand

pub argument_shaped : (m : ℕ) (the_module : Module) (callee index : ℕ) → argument_context m the_module callee index
    ≡ let_some (argument_definition the_module callee) (done None) (λ d. function_semantic_signature m d >>= (λ signature. signature_param signature index))
unfolding argument_context argument_definition
argument_shaped m the_module callee index =
    let go : ℕ → Program (Option ℕ) = λ d. function_semantic_signature m d >>= (λ signature. signature_param signature index) in
    (λ i. let_some (expression_at the_module callee) (done None) (λ info. let_chain (as_identifier info.node) (done None) (λ name. definition_for_identifier_expr the_module callee) go i))
    ∙ let_chain (expression_at the_module callee) (done None) (λ info. from_some (as_identifier info.node) None (λ name. definition_for_identifier_expr the_module callee)) go

field_tail : (m : ℕ) (fields : Option ℕ) (scope : ℕ) → let_some fields (done None) (λ t. resolve_ast_type m t scope >>= (λ n. done (Some n)))
    ≡ let_some (from_some fields None (λ t. Some (scoped t scope))) (done None) (λ x. resolve_ast_type m x.type x.scope >>= (λ n. done (Some n)))
unfolding let_some
field_tail m None scope = refl
field_tail m (Some t) scope = refl

pub field_shaped : (m : ℕ) (the_module : Module) (parent : ℕ) (field : Name) → field_context m the_module parent field
    ≡ let_some (field_type_expr the_module parent field) (done None) (λ x. resolve_ast_type m x.type x.scope >>= (λ t. done (Some t)))
unfolding field_context field_type_expr
field_shaped m the_module parent field =
    let go : ScopedType → Program (Option ℕ) = λ x. resolve_ast_type m x.type x.scope >>= (λ t. done (Some t)) in
    (λ i. let_some (expression_at the_module parent) (done None) (λ info.
    let_some (as_struct_literal info.node) (done None) (λ literal.
    let_some (resolve_name_at_position the_module literal.name info.scope literal.start literal.end) (done None) (λ d.
    let_some (definition_at the_module d) (done None) (λ definition. field_tail m (struct_field definition.kind field) info.scope i)))))
    ∙ (λ i. let_some (expression_at the_module parent) (done None) (λ info.
    let_some (as_struct_literal info.node) (done None) (λ literal.
    let_some (resolve_name_at_position the_module literal.name info.scope literal.start literal.end) (done None) (λ d.
    let_chain (definition_at the_module d) (done None) (λ definition. from_some (struct_field definition.kind field) None (λ t. Some (scoped t info.scope))) go i))))
    ∙ (λ i. let_some (expression_at the_module parent) (done None) (λ info.
    let_some (as_struct_literal info.node) (done None) (λ literal.
    let_chain (resolve_name_at_position the_module literal.name info.scope literal.start literal.end) (done None)
    (λ d. from_some (definition_at the_module d) None (λ definition. from_some (struct_field definition.kind field) None (λ t. Some (scoped t info.scope)))) go i)))
    ∙ (λ i. let_some (expression_at the_module parent) (done None) (λ info.
    let_chain (as_struct_literal info.node) (done None)
    (λ literal. from_some (resolve_name_at_position the_module literal.name info.scope literal.start literal.end) None
    (λ d. from_some (definition_at the_module d) None (λ definition. from_some (struct_field definition.kind field) None (λ t. Some (scoped t info.scope))))) go i))
    ∙ let_chain (expression_at the_module parent) (done None)
    (λ info. from_some (as_struct_literal info.node) None
    (λ literal. from_some (resolve_name_at_position the_module literal.name info.scope literal.start literal.end) None
    (λ d. from_some (definition_at the_module d) None (λ definition. from_some (struct_field definition.kind field) None (λ t. Some (scoped t info.scope)))))) go

import_tail : (imported : ℕ) (d : Option ℕ) → let_some d (done error) (λ n. definition_semantic_type imported n)
    ≡ let_some (from_some d None (λ n. Some (imported_as imported n))) (done error) (λ x. definition_semantic_type x.source x.definition)
unfolding let_some
import_tail imported None = refl
import_tail imported (Some n) = refl

pub use_shaped : (index : Index) (home item : Name) → use_type index home item
    ≡ let_some (imported_definition index home item) (done error) (λ x. definition_semantic_type x.source x.definition)
unfolding use_type imported_definition
use_shaped index home item =
    let go : Imported → Program ℕ = λ x. definition_semantic_type x.source x.definition in
    (λ i. let_some (module_by_name index home) (done error) (λ imported.
    let_some (module_at index imported) (done error) (λ other.
    let_some (root_scope other) (done error) (λ root. import_tail imported (latest_definition_index_by_name other root item) i))))
    ∙ (λ i. let_some (module_by_name index home) (done error) (λ imported.
    let_some (module_at index imported) (done error) (λ other.
    let_chain (root_scope other) (done error) (λ root. from_some (latest_definition_index_by_name other root item) None (λ n. Some (imported_as imported n))) go i)))
    ∙ (λ i. let_some (module_by_name index home) (done error) (λ imported.
    let_chain (module_at index imported) (done error)
    (λ other. from_some (root_scope other) None (λ root. from_some (latest_definition_index_by_name other root item) None (λ n. Some (imported_as imported n)))) go i))
    ∙ let_chain (module_by_name index home) (done error)
    (λ imported. from_some (module_at index imported) None
    (λ other. from_some (root_scope other) None (λ root. from_some (latest_definition_index_by_name other root item) None (λ n. Some (imported_as imported n))))) go

recorded : (m : ℕ) (definition named : Option ℕ) → let_some definition (let_some named (done error) (λ d. definition_semantic_type m d)) (λ d. definition_semantic_type m d)
    ≡ let_some (from_some definition named Some) (done error) (λ d. definition_semantic_type m d)
unfolding let_some
recorded m None named = refl
recorded m (Some d) named = refl

pub identifier_shaped : (m : ℕ) (the_module : Module) (info : ExpressionInfo) (name : Name) → identifier_type m the_module info name
    ≡ when is_builtin_function_name name then done unit
    else let_some (identifier_definition the_module info.definition name info.scope info.start info.end) (done error) (λ d. definition_semantic_type m d)
unfolding identifier_type identifier_definition
identifier_shaped m the_module info name i =
    when is_builtin_function_name name then done unit
    else recorded m info.definition (resolve_name_at_position the_module name info.scope info.start info.end) i

-- ------------------------------------------------------------------ numbers

expected_by : (m s : ℕ) (expected : Option ℕ) (k : Option ℕ → Program ℕ) → (let_some expected (done None) (λ t. resolve_ast_type m t s >>= (λ n. look (λ table. done (numeric table n))))) >>= k
    ≡ let_some expected (k None) (λ t. resolve_ast_type m t s >>= (λ n. look (λ table. k (numeric table n))))
unfolding let_some ◌>>=◌
expected_by m s None k = refl
expected_by m s (Some t) k = refl

pub literal_shaped : (m : ℕ) (info : ExpressionInfo) (context : Option ℕ) (suffix : Option Name) → literal_type m info context suffix ≡ literal_in m info.scope info.expected context suffix
unfolding literal_in literal_type expected_numeric
literal_shaped m info context suffix = refl

pub literal_numbered : (m s : ℕ) (expected context : Option ℕ) (suffix : Option Name) → literal_in m s expected context suffix
    ≡ let_some (suffix_type suffix)
    (let_some expected (let_some None (look (λ table. done (numeric_context table context))) done)
    (λ t. resolve_ast_type m t s >>= (λ n. look (λ table. let_some (numeric table n) (look (λ table. done (numeric_context table context))) done))))
    done
unfolding literal_in literal_type expected_numeric
literal_numbered m s expected context suffix i =
    let_some (suffix_type suffix) (expected_by m s expected (λ o. let_some o (look (λ table. done (numeric_context table context))) done) i) done

-- ------------------------------------------------------------------ arrays

array_info : (m : ℕ) (info : ExpressionInfo) (hint : Option ℕ) (es : List (Option ℕ)) → array_literal_type m info hint es ≡ array_literal_type m (info_with info.scope info.expected) hint es
unfolding array_literal_type empty_array_type
array_info m info hint [] = refl
array_info m info hint (e ∷ es) = refl

pub array_shaped : (m : ℕ) (info : ExpressionInfo) (context : Option ℕ) (es : List (Option ℕ)) → look (λ table. array_literal_type m info (element_hint table context) es) ≡ array_literal_in m info.scope info.expected context es
unfolding array_literal_in
array_shaped m info context es i = look (λ table. array_info m info (element_hint table context) es i)

full_array : (words : List ℕ) (m : ℕ) (info : ExpressionInfo) (hint : Option ℕ) (first count : ℕ) → 1 ≤ count → array_literal_type m info hint (links_at words first count)
    ≡ let_some (link_by (item_value words (first + 0))) missing_child
    (λ e. expression_semantic_type m e hint >>= (λ t. all_same_type m t (drop 1 (links_at words first count)) >>= (λ same. when same then type_id_new (TypeData.FixedArray t count) else done error)))
unfolding array_literal_type links_at each
full_array words m info hint first zero le = absurd (omega arith)
full_array words m info hint first (suc count) le =
    let here : first ≡ first + 0 = omega arith in
    let behind : List (Option ℕ) = each (λ i. link_by (item_value words i)) (suc first) count in
    (λ j. let_some (link_by (item_value words (here j))) missing_child
    (λ e. expression_semantic_type m e hint >>= (λ t. all_same_type m t behind >>= (λ same. when same then type_id_new (TypeData.FixedArray t (suc (each_length (λ i. link_by (item_value words i)) (suc first) count j))) else done error))))

module _ {file words : List ℕ} {depth : ℕ} {T : List ℕ} {O : List (List ℕ)} {T' : List ℕ} {O' : List (List ℕ)} {r : Result ℕ Refusal} (m s : ℕ) (expected context : Option ℕ) (hint : Option ℕ)
    (is : Reads file T (element_hint_read context) hint) where
  -- no element
  pub no_elements : (first count : ℕ) → count ≡ 0 → Runs typed file words (empty_array_in m s expected hint) depth T O T' O' r
      → Runs typed file words (array_literal_in m s expected context (links_at words first count)) depth T O T' O' r
  unfolding array_literal_in empty_array_in array_literal_type element_hint_read links_at each
  no_elements first count e a =
      subst⁻¹ (λ n. Runs typed file words (array_literal_in m s expected context (links_at words first n)) depth T O T' O' r) e
      (look_runs _ (subst (λ h. Runs typed file words (array_literal_type m (info_with s expected) h []) depth T O T' O' r) is.same a))

  -- a first element, and those behind it
  pub some_elements : (first count : ℕ) → 1 ≤ count
      → Runs typed file words
      (let_some (link_by (item_value words (first + 0))) missing_child
      (λ e. expression_semantic_type m e hint >>= (λ t. all_same_type m t (drop 1 (links_at words first count)) >>= (λ same. when same then type_id_new (TypeData.FixedArray t count) else done error)))) depth T O T' O' r
      → Runs typed file words (array_literal_in m s expected context (links_at words first count)) depth T O T' O' r
  unfolding array_literal_in array_literal_type element_hint_read
  some_elements first count le a =
      look_runs _ (subst (λ h. Runs typed file words (array_literal_type m (info_with s expected) h (links_at words first count)) depth T O T' O' r) is.same
      (subst⁻¹ (λ p. Runs typed file words p depth T O T' O' r) (full_array words m (info_with s expected) hint first count le) a))

-- ------------------------------------------------------------------ tuples

pub tuple_looked : {file words : List ℕ} {depth : ℕ} {T : List ℕ} {O : List (List ℕ)} {T' : List ℕ} {O' : List (List ℕ)} {r : Result ℕ Refusal} (m : ℕ) (context : Option ℕ) (first count : ℕ) {contexts : TypeList}
    (k : List ℕ → Program ℕ) → ContextsRead T context count contexts
    → Runs typed file words (infer_elements m (types_of T contexts) 0 (links_at words first count) >>= k) depth T O T' O' r
    → Runs typed file words (look (λ table. infer_elements m (element_contexts table context (length (links_at words first count))) 0 (links_at words first count) >>= k)) depth T O T' O' r
tuple_looked {file} {words} {depth} {T} {O} {T'} {O'} {r} m context first count k is a =
    look_runs _
    (subst⁻¹ (λ n. Runs typed file words (infer_elements m (element_contexts (table_of file T) context n) 0 (links_at words first count) >>= k) depth T O T' O' r) (links_length words first count)
    (subst (λ l. Runs typed file words (infer_elements m l 0 (links_at words first count) >>= k) depth T O T' O' r) (is.same file) a))

-- ------------------------------------------------------------------ fields and parameters

types_each : (file words : List ℕ) (first count : ℕ) → map (λ field. field.type) (each (name_with_type_row file words) first count) ≡ each (item_value words) first count
unfolding each
types_each file words first zero = refl
types_each file words first (suc count) = ap (λ l. item_value words first ∷ l) (types_each file words (suc first) count)

pub listed_types : (file words : List ℕ) (first count : ℕ) → numbers_at words first count ≡ field_types (names_with_types_at file words first count)
unfolding numbers_at names_with_types_at
listed_types file words first count = sym (types_each file words first count)

pub struct_listed : (file words : List ℕ) (m d s first count : ℕ) → struct_type m d s (names_with_types_at file words first count)
    ≡ resolve_all m s (numbers_at words first count) >>= (λ types. type_id_new (TypeData.Struct m d (typed_fields (names_with_types_at file words first count) types)) >>= (λ t. done (Some t)))
unfolding struct_type
struct_listed file words m d s first count =
    ap (λ ts. resolve_all m s ts >>= (λ types. type_id_new (TypeData.Struct m d (typed_fields (names_with_types_at file words first count) types)) >>= (λ t. done (Some t)))) (sym (listed_types file words first count))

pub signature_listed : (file words : List ℕ) (m d s u first count : ℕ) → signature_type m d s u (names_with_types_at file words first count)
    ≡ resolve_all m s (numbers_at words first count) >>= (λ params. resolve_ast_type m u s >>= (λ result. type_id_new (TypeData.Function m d params result) >>= (λ t. done (Some t))))
unfolding signature_type
signature_listed file words m d s u first count =
    ap (λ ts. resolve_all m s ts >>= (λ params. resolve_ast_type m u s >>= (λ result. type_id_new (TypeData.Function m d params result) >>= (λ t. done (Some t))))) (sym (listed_types file words first count))
