-- What the values of the code mean in the definition: a list is a range of the items. Definitions only; assumes nothing.
use Rattle.std.specs.Prelude.{ℕ, List, Option, option_map}
use Rattle.model.specs.Records.{NameWithType}
use Rattle.resolution.specs.TypeData.{TypeData}
use Rattle.resolution.specs.Types.{Array, Signature}
use Rattle.type_table.specs.declared.TypeList.{TypeList}
use Rattle.type_table.specs.declared.Array.{Array as ArrayRow}
use Rattle.type_table.specs.declared.Signature.{Signature as SignatureRow}
use Rattle.type_table.specs.declared.TypeData.{TypeData as Row}
use Rattle.type_table.specs.declared.TypeData.TheVariants.{Felt, «Bool» as BoolType, U32, Unknown, Error, Tuple, Pointer, FixedArray, Struct, Function}
use Rattle.type_table.specs.Layout.{types_of, names_from, fields_of}

-- the fields of a struct
abbrev pub fields_in : List ℕ → List ℕ → TypeList → List NameWithType
fields_in file w list = fields_of file (names_from w list.first list.count) (types_of w list)

-- the type that the code's row means
abbrev pub data_is : List ℕ → List ℕ → Row → TypeData
data_is file w Felt = TypeData.Felt
data_is file w BoolType = TypeData.Bool
data_is file w U32 = TypeData.U32
data_is file w Unknown = TypeData.Unknown
data_is file w Error = TypeData.Error
data_is file w (Tuple list) = TypeData.Tuple (types_of w list)
data_is file w (Pointer t) = TypeData.Pointer t
data_is file w (FixedArray t size) = TypeData.FixedArray t size
data_is file w (Struct m d list) = TypeData.Struct m d (fields_in file w list)
data_is file w (Function m d list t) = TypeData.Function m d (types_of w list) t

-- the list of a row; an empty one where its kind has none
abbrev pub no_types : TypeList
no_types = record { first = 0; count = 0 }

abbrev pub list_of : Row → TypeList
list_of Felt = no_types
list_of BoolType = no_types
list_of U32 = no_types
list_of Unknown = no_types
list_of Error = no_types
list_of (Tuple list) = list
list_of (Pointer t) = no_types
list_of (FixedArray t size) = no_types
list_of (Struct m d list) = list
list_of (Function m d list t) = list

-- ------------------------------------------------------------------ what may be absent

abbrev pub found_types_of : List ℕ → Option TypeList → Option (List ℕ)
found_types_of w = option_map (types_of w)

abbrev pub found_fields_of : List ℕ → List ℕ → Option TypeList → Option (List NameWithType)
found_fields_of file w = option_map (fields_in file w)

-- an array's element and size
abbrev pub found_array_of : Option ArrayRow → Option Array
found_array_of = option_map (λ array. record { element = array.element; size = array.size })

-- a function's parameters and return type
abbrev pub found_signature_of : List ℕ → Option SignatureRow → Option Signature
found_signature_of w = option_map (λ signature. record { params = types_of w signature.params; return_type = signature.return_type })
