-- The kinds that an arm of a `match` on a type has, by their numbers: what holds of each. Assumes nothing.
use mathlib.Core.Path.{◌≡◌, refl}
use mathlib.Core.Bool.{true, false}
use Prim.Native.Nat.{ℕ}
use mathlib.Core.List.{List, [], ◌∷◌}
use Rattle.std.specs.Prelude.{None}
use types.Run.{miss}
use borrow.Enum.Refused.{Among, opened}
use denote.Enum.Declared.{tag_of}
use Rattle.model.specs.Common.{let_some}
use Rattle.resolution.specs.TypeData.{TypeData}
use Rattle.resolution.specs.Types.{error, kind_number, is_u32_or_felt, as_tuple, as_pointer, as_array, as_struct, as_function}
use Rattle.type_table.specs.declared.TypeData.{TypeData as Row}
use Rattle.type_table.specs.Meaning.{data_is}
use Rattle.type_table.specs.contracts.TypeData.{the_type}

pub other_than_tuple : (file w : List ℕ) (row : Row) → Among (0 ∷ 1 ∷ 2 ∷ 3 ∷ 4 ∷ 6 ∷ 7 ∷ 8 ∷ 9 ∷ []) (tag_of the_type row) → None ≡ as_tuple (data_is file w row)
unfolding as_tuple
other_than_tuple file w Row.Felt h = refl
other_than_tuple file w Row.«Bool» h = refl
other_than_tuple file w Row.U32 h = refl
other_than_tuple file w Row.Unknown h = refl
other_than_tuple file w Row.Error h = refl
other_than_tuple file w (Row.Tuple list) h = absurd (miss (0 ∷ 1 ∷ 2 ∷ 3 ∷ 4 ∷ 6 ∷ 7 ∷ 8 ∷ 9 ∷ []) 5 tt (opened h))
other_than_tuple file w (Row.Pointer u) h = refl
other_than_tuple file w (Row.FixedArray u size) h = refl
other_than_tuple file w (Row.Struct m d list) h = refl
other_than_tuple file w (Row.Function m d list u) h = refl

pub other_than_array : (file w : List ℕ) (row : Row) → Among (0 ∷ 1 ∷ 2 ∷ 3 ∷ 4 ∷ 5 ∷ 6 ∷ 8 ∷ 9 ∷ []) (tag_of the_type row) → None ≡ as_array (data_is file w row)
unfolding as_array
other_than_array file w Row.Felt h = refl
other_than_array file w Row.«Bool» h = refl
other_than_array file w Row.U32 h = refl
other_than_array file w Row.Unknown h = refl
other_than_array file w Row.Error h = refl
other_than_array file w (Row.Tuple list) h = refl
other_than_array file w (Row.Pointer u) h = refl
other_than_array file w (Row.FixedArray u size) h = absurd (miss (0 ∷ 1 ∷ 2 ∷ 3 ∷ 4 ∷ 5 ∷ 6 ∷ 8 ∷ 9 ∷ []) 7 tt (opened h))
other_than_array file w (Row.Struct m d list) h = refl
other_than_array file w (Row.Function m d list u) h = refl

-- the element of an array or a pointer
abbrev pub element_of : TypeData → ℕ
element_of row = let_some (as_array row) (let_some (as_pointer row) error (λ u. u)) (λ element. element.element)

pub other_than_element : (file w : List ℕ) (row : Row) → Among (0 ∷ 1 ∷ 2 ∷ 3 ∷ 4 ∷ 5 ∷ 8 ∷ 9 ∷ []) (tag_of the_type row) → error ≡ element_of (data_is file w row)
unfolding as_array as_pointer
other_than_element file w Row.Felt h = refl
other_than_element file w Row.«Bool» h = refl
other_than_element file w Row.U32 h = refl
other_than_element file w Row.Unknown h = refl
other_than_element file w Row.Error h = refl
other_than_element file w (Row.Tuple list) h = refl
other_than_element file w (Row.Pointer u) h = absurd (miss (0 ∷ 1 ∷ 2 ∷ 3 ∷ 4 ∷ 5 ∷ 8 ∷ 9 ∷ []) 6 tt (opened h))
other_than_element file w (Row.FixedArray u size) h = absurd (miss (0 ∷ 1 ∷ 2 ∷ 3 ∷ 4 ∷ 5 ∷ 8 ∷ 9 ∷ []) 7 tt (opened h))
other_than_element file w (Row.Struct m d list) h = refl
other_than_element file w (Row.Function m d list u) h = refl

pub other_than_struct : (file w : List ℕ) (row : Row) → Among (0 ∷ 1 ∷ 2 ∷ 3 ∷ 4 ∷ 5 ∷ 6 ∷ 7 ∷ 9 ∷ []) (tag_of the_type row) → None ≡ as_struct (data_is file w row)
unfolding as_struct
other_than_struct file w Row.Felt h = refl
other_than_struct file w Row.«Bool» h = refl
other_than_struct file w Row.U32 h = refl
other_than_struct file w Row.Unknown h = refl
other_than_struct file w Row.Error h = refl
other_than_struct file w (Row.Tuple list) h = refl
other_than_struct file w (Row.Pointer u) h = refl
other_than_struct file w (Row.FixedArray u size) h = refl
other_than_struct file w (Row.Struct m d list) h = absurd (miss (0 ∷ 1 ∷ 2 ∷ 3 ∷ 4 ∷ 5 ∷ 6 ∷ 7 ∷ 9 ∷ []) 8 tt (opened h))
other_than_struct file w (Row.Function m d list u) h = refl

pub other_than_function : (file w : List ℕ) (row : Row) → Among (0 ∷ 1 ∷ 2 ∷ 3 ∷ 4 ∷ 5 ∷ 6 ∷ 7 ∷ 8 ∷ []) (tag_of the_type row) → None ≡ as_function (data_is file w row)
unfolding as_function
other_than_function file w Row.Felt h = refl
other_than_function file w Row.«Bool» h = refl
other_than_function file w Row.U32 h = refl
other_than_function file w Row.Unknown h = refl
other_than_function file w Row.Error h = refl
other_than_function file w (Row.Tuple list) h = refl
other_than_function file w (Row.Pointer u) h = refl
other_than_function file w (Row.FixedArray u size) h = refl
other_than_function file w (Row.Struct m d list) h = refl
other_than_function file w (Row.Function m d list u) h = absurd (miss (0 ∷ 1 ∷ 2 ∷ 3 ∷ 4 ∷ 5 ∷ 6 ∷ 7 ∷ 8 ∷ []) 9 tt (opened h))

pub u32_or_felt : (file w : List ℕ) (row : Row) → Among (0 ∷ 2 ∷ []) (tag_of the_type row) → is_u32_or_felt (data_is file w row) ≡ true
unfolding is_u32_or_felt kind_number
u32_or_felt file w Row.Felt h = refl
u32_or_felt file w Row.«Bool» h = absurd (miss (0 ∷ 2 ∷ []) 1 tt (opened h))
u32_or_felt file w Row.U32 h = refl
u32_or_felt file w Row.Unknown h = absurd (miss (0 ∷ 2 ∷ []) 3 tt (opened h))
u32_or_felt file w Row.Error h = absurd (miss (0 ∷ 2 ∷ []) 4 tt (opened h))
u32_or_felt file w (Row.Tuple list) h = absurd (miss (0 ∷ 2 ∷ []) 5 tt (opened h))
u32_or_felt file w (Row.Pointer u) h = absurd (miss (0 ∷ 2 ∷ []) 6 tt (opened h))
u32_or_felt file w (Row.FixedArray u size) h = absurd (miss (0 ∷ 2 ∷ []) 7 tt (opened h))
u32_or_felt file w (Row.Struct m d list) h = absurd (miss (0 ∷ 2 ∷ []) 8 tt (opened h))
u32_or_felt file w (Row.Function m d list u) h = absurd (miss (0 ∷ 2 ∷ []) 9 tt (opened h))

pub other_than_u32_or_felt : (file w : List ℕ) (row : Row) → Among (1 ∷ 3 ∷ 4 ∷ 5 ∷ 6 ∷ 7 ∷ 8 ∷ 9 ∷ []) (tag_of the_type row) → is_u32_or_felt (data_is file w row) ≡ false
unfolding is_u32_or_felt kind_number
other_than_u32_or_felt file w Row.Felt h = absurd (miss (1 ∷ 3 ∷ 4 ∷ 5 ∷ 6 ∷ 7 ∷ 8 ∷ 9 ∷ []) 0 tt (opened h))
other_than_u32_or_felt file w Row.«Bool» h = refl
other_than_u32_or_felt file w Row.U32 h = absurd (miss (1 ∷ 3 ∷ 4 ∷ 5 ∷ 6 ∷ 7 ∷ 8 ∷ 9 ∷ []) 2 tt (opened h))
other_than_u32_or_felt file w Row.Unknown h = refl
other_than_u32_or_felt file w Row.Error h = refl
other_than_u32_or_felt file w (Row.Tuple list) h = refl
other_than_u32_or_felt file w (Row.Pointer u) h = refl
other_than_u32_or_felt file w (Row.FixedArray u size) h = refl
other_than_u32_or_felt file w (Row.Struct m d list) h = refl
other_than_u32_or_felt file w (Row.Function m d list u) h = refl
