-- What the programs of the definition read from the table of types between one demand and the next: each is the end of a program of
-- `TypeResolution` behind its last demand. Definitions only; assumes nothing.
use Rattle.std.specs.Prelude.{ℕ, List}
use Rattle.std.specs.Prelude.{Option, None, Some}
use Rattle.std.specs.Prelude.{slice_get}
use Rattle.model.specs.Common.{let_some}
use Rattle.model.specs.Records.{Name}
use Rattle.resolution.specs.Types.{Table, Array, data_of, as_tuple, as_pointer, as_array, as_struct, as_function, field_type, error}
use Rattle.resolution.specs.Views.{navigate, numeric, numeric_context, element_hint}

-- the type itself, if it is a struct: `custom_type`, `struct_literal_type`
unfoldable pub struct_or_error : ℕ → Table → ℕ
struct_or_error t table = let_some (as_struct (data_of table t)) error (λ fields. t)

-- the type of a field: `member_type`
unfoldable pub member_read : ℕ → Name → Table → ℕ
member_read t name table =
    let_some (as_struct (data_of table t)) error (λ fields. let_some (field_type fields name) error (λ u. u))

-- the element of an array or a pointer: `index_type`
unfoldable pub element_read : ℕ → Table → ℕ
element_read t table =
    let_some (as_array (data_of table t)) (let_some (as_pointer (data_of table t)) error (λ u. u)) (λ element. element.element)

-- an element of a tuple: `tuple_index_type`
unfoldable pub tuple_element_read : ℕ → ℕ → Table → ℕ
tuple_element_read t i table =
    let_some (as_tuple (data_of table t)) error (λ elements. let_some (slice_get elements i) error (λ u. u))

-- a parameter of a function: `signature_param`
unfoldable pub param_read : ℕ → ℕ → Table → Option ℕ
param_read t i table = let_some (as_function (data_of table t)) None (λ signature. slice_get signature.params i)

-- what a function returns: `signature_return_type`
unfoldable pub return_read : ℕ → Table → Option ℕ
return_read t table = let_some (as_function (data_of table t)) None (λ signature. Some signature.return_type)

-- the element and the size of an array: `array_type`, `empty_array_type`
unfoldable pub array_read : ℕ → Table → Option Array
array_read t table = as_array (data_of table t)

-- ------------------------------------------------------------------ the reads that `Views` names

unfoldable pub numeric_read : ℕ → Table → Option ℕ
numeric_read t table = numeric table t

unfoldable pub numeric_context_read : Option ℕ → Table → ℕ
numeric_context_read context table = numeric_context table context

unfoldable pub element_hint_read : Option ℕ → Table → Option ℕ
element_hint_read context table = element_hint table context

unfoldable pub navigate_read : ℕ → List ℕ → Table → ℕ
navigate_read current path table = navigate table current path
