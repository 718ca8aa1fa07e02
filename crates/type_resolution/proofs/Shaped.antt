-- The definition's programs in the shape of the code: reads of the table collapsed into one, and what a helper shares. Assumes nothing.
use mathlib.Core.Path.{◌≡◌, refl}
use Prim.Native.Nat.{ℕ}
use mathlib.Core.List.{List}
use Rattle.std.specs.Prelude.{Option, None, Some}
use Rattle.std.specs.Prelude.{slice_get}
use Rattle.model.specs.Common.{let_some as from_some}
use Rattle.model.specs.Records.{Name, NameWithType, Module}
use Rattle.model.specs.Lookups.{latest_definition_index_by_name_in_chain, resolve_name_at_position}
use Rattle.resolution.specs.Types.{Table, Array, Signature, data_of, as_tuple, as_pointer, as_array, as_struct, as_function, field_type, error, unknown, felt}
use Rattle.resolution.specs.Programs.{Demand, Program, done, refuse, ask, enter, look, let_some, missing_child, expression_semantic_type, ◌>>=◌}
use Rattle.resolution.specs.TypeResolution.{custom_type, struct_literal_type, member_type, tuple_index_type, index_type, infer_only, const_type, resolve_variable_type, signature_param, signature_return_type}
use Rattle.type_table.specs.Reads.{struct_or_error, member_read, element_read, tuple_element_read, param_read, return_read}
use Rattle.type_resolution.specs.Shapes.{struct_named, declared_type}

-- ------------------------------------------------------------------ choices between answers

let_done : {X A : Type 0} (o : Option X) (a : A) (f : X → A) → let_some o (done a) (λ x. done (f x)) ≡ done (from_some o a f)
unfolding let_some
let_done None a f = refl
let_done (Some x) a f = refl

pub bind_assoc : {A B C : Type 0} (p : Program A) (g : A → Program B) (k : B → Program C) → (p >>= g) >>= k ≡ p >>= (λ a. g a >>= k)
unfolding ◌>>=◌
bind_assoc (done a) g k = refl
bind_assoc (refuse n) g k = refl
bind_assoc (ask d f) g k = λ i. ask d (λ a. bind_assoc (f a) g k i)
bind_assoc (enter row f) g k = λ i. enter row (λ a. bind_assoc (f a) g k i)
bind_assoc (look f) g k = λ i. look (λ a. bind_assoc (f a) g k i)

pub bind_done : {A : Type 0} (p : Program A) → p >>= done ≡ p
unfolding ◌>>=◌
bind_done (done a) = refl
bind_done (refuse n) = refl
bind_done (ask d f) = λ i. ask d (λ a. bind_done (f a) i)
bind_done (enter row f) = λ i. enter row (λ a. bind_done (f a) i)
bind_done (look f) = λ i. look (λ a. bind_done (f a) i)

-- ------------------------------------------------------------------ a struct that a name led to

struct_read : (t : ℕ) (table : Table) → let_some (as_struct (data_of table t)) (done error) (λ fields. done t) ≡ done (struct_or_error t table)
unfolding struct_or_error
struct_read t table = let_done (as_struct (data_of table t)) error (λ fields. t)

pub custom_named : (m : ℕ) (the_module : Module) (s : ℕ) (name : Name) → custom_type m the_module s name ≡ struct_named m (latest_definition_index_by_name_in_chain the_module s name)
unfolding custom_type struct_named ◌>>=◌
custom_named m the_module s name i =
    let_some (latest_definition_index_by_name_in_chain the_module s name) (done error) (λ d. ask (Demand.definition m d) (λ t. look (λ table. struct_read t table i)))

pub literal_named : (m : ℕ) (the_module : Module) (s : ℕ) (name : Name) (start end : ℕ) → struct_literal_type m the_module s name start end ≡ struct_named m (resolve_name_at_position the_module name s start end)
unfolding struct_literal_type struct_named ◌>>=◌
literal_named m the_module s name start end i =
    let_some (resolve_name_at_position the_module name s start end) (done error) (λ d. ask (Demand.definition m d) (λ t. look (λ table. struct_read t table i)))

-- ------------------------------------------------------------------ reads behind a demand

member_by : (fields : Option (List NameWithType)) (name : Name) → let_some fields (done error) (λ fs. let_some (field_type fs name) (done error) done)
    ≡ done (from_some fields error (λ fs. from_some (field_type fs name) error (λ u. u)))
unfolding let_some
member_by None name = refl
member_by (Some fs) name = let_done (field_type fs name) error (λ u. u)

pub member_reads : (m : ℕ) (object : Option ℕ) (field : Name) → member_type m object field
    ≡ let_some object (done error) (λ e. expression_semantic_type m e None >>= (λ t. look (λ table. done (member_read t field table))))
unfolding member_type member_read ◌>>=◌
member_reads m object field i =
    let_some object (done error) (λ e. ask (Demand.expression m e None) (λ t. look (λ table. member_by (as_struct (data_of table t)) field i)))

tuple_by : (elements : Option (List ℕ)) (index : ℕ) → let_some elements (done error) (λ ts. let_some (slice_get ts index) (done error) done)
    ≡ done (from_some elements error (λ ts. from_some (slice_get ts index) error (λ u. u)))
unfolding let_some
tuple_by None index = refl
tuple_by (Some ts) index = let_done (slice_get ts index) error (λ u. u)

pub tuple_index_reads : (m : ℕ) (tuple : Option ℕ) (index : ℕ) → tuple_index_type m tuple index
    ≡ let_some tuple missing_child (λ e. expression_semantic_type m e None >>= (λ t. look (λ table. done (tuple_element_read t index table))))
unfolding tuple_index_type tuple_element_read ◌>>=◌
tuple_index_reads m tuple index i =
    let_some tuple missing_child (λ e. ask (Demand.expression m e None) (λ t. look (λ table. tuple_by (as_tuple (data_of table t)) index i)))

element_by : (array : Option Array) (pointer : Option ℕ) → let_some array (let_some pointer (done error) done) (λ a. done a.element)
    ≡ done (from_some array (from_some pointer error (λ u. u)) (λ a. a.element))
unfolding let_some
element_by None pointer = let_done pointer error (λ u. u)
element_by (Some a) pointer = refl

pub index_reads : (m : ℕ) (array index : Option ℕ) → index_type m array index
    ≡ let_some array (done error) (λ e. expression_semantic_type m e None >>= (λ t. infer_only m index (Some felt) >>= (λ u. look (λ table. done (element_read t table)))))
unfolding index_type element_read ◌>>=◌
index_reads m array index i =
    let_some array (done error) (λ e. ask (Demand.expression m e None) (λ t. infer_only m index (Some felt) >>= (λ u. look (λ table. element_by (as_array (data_of table t)) (as_pointer (data_of table t)) i))))

param_by : (signature : Option Signature) (index : ℕ) → let_some signature (done None) (λ s. done (slice_get s.params index)) ≡ done (from_some signature None (λ s. slice_get s.params index))
param_by signature index = let_done signature None (λ s. slice_get s.params index)

pub param_reads : (t index : ℕ) → signature_param (Some t) index ≡ look (λ table. done (param_read t index table))
unfolding signature_param param_read ◌>>=◌
param_reads t index i = look (λ table. param_by (as_function (data_of table t)) index i)

return_by : (signature : Option Signature) → let_some signature (done None) (λ s. done (Some s.return_type)) ≡ done (from_some signature None (λ s. Some s.return_type))
return_by signature = let_done signature None (λ s. Some s.return_type)

pub return_reads : (t : ℕ) → signature_return_type (Some t) ≡ look (λ table. done (return_read t table))
unfolding signature_return_type return_read ◌>>=◌
return_reads t i = look (λ table. return_by (as_function (data_of table t)) i)

-- ------------------------------------------------------------------ consts and lets

pub const_declared : (m s : ℕ) (t e : Option ℕ) → const_type m s t e ≡ declared_type m s t e error
unfolding const_type declared_type
const_declared m s (Some t) e = refl
const_declared m s None (Some e) = refl
const_declared m s None None = refl

pub let_declared : (m s : ℕ) (t e : Option ℕ) → resolve_variable_type m s t e ≡ declared_type m s t e unknown
unfolding resolve_variable_type declared_type
let_declared m s (Some t) e = refl
let_declared m s None (Some e) = refl
let_declared m s None None = refl
