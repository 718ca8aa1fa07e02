-- `are_types_compatible` and the operator rows (`type_resolution.rs`). Assumes nothing.
use Rattle.std.specs.Prelude.{ℕ, zero, suc, Bool, true, false, ◌&&◌, ◌||◌, List, [], ◌∷◌, eqb}
use Rattle.std.specs.Prelude.{Option}
use Rattle.std.specs.Prelude.{if◌then◌else◌}
use Rattle.model.specs.Common.{let_some}
use Rattle.model.specs.Records.{UnaryOp, BinaryOp}
use Rattle.resolution.specs.TypeData.{TypeData}
use Rattle.resolution.specs.Types.{Table, data_of, as_tuple, as_pointer, as_array, is_error_or_unknown, felt, bool, u32, error}

-- ------------------------------------------------------------------ compatibility

-- same length, and the test passes at each pair
unfoldable pub all_pairs : (ℕ → ℕ → Bool) → List ℕ → List ℕ → Bool
all_pairs test [] [] = true
all_pairs test [] (y ∷ ys) = false
all_pairs test (x ∷ xs) [] = false
all_pairs test (x ∷ xs) (y ∷ ys) = test x y && all_pairs test xs ys

-- both are there and pass the test
unfoldable pub both_some : {A : Type 0} → (A → A → Bool) → Option A → Option A → Bool
both_some test a e = let_some a false λ x. let_some e false λ y. test x y

-- two rows, where `inner` says of two types inside whether they are compatible
unfoldable pub compatible_rows : (ℕ → ℕ → Bool) → TypeData → TypeData → Bool
compatible_rows inner a e =
    is_error_or_unknown a || is_error_or_unknown e
    || both_some (all_pairs inner) (as_tuple a) (as_tuple e)
    || both_some (λ x y. eqb x.size y.size && inner x.element y.element) (as_array a) (as_array e)
    || both_some inner (as_pointer a) (as_pointer e)

-- equal types, or compatible rows, down to the depth that the first number says
unfoldable pub compatible_within : ℕ → Table → ℕ → ℕ → Bool
compatible_within zero table a e = eqb a e
compatible_within (suc depth) table a e =
    eqb a e || compatible_rows (λ x y. compatible_within depth table x y) (data_of table a) (data_of table e)

-- `are_types_compatible`: actual type, expected type. An element has a lower number than its holder, so the actual type's number is depth enough
unfoldable pub are_types_compatible : Table → ℕ → ℕ → Bool
are_types_compatible table actual expected = compatible_within (suc actual) table actual expected

-- ------------------------------------------------------------------ operators

unfoldable pub unary_number : UnaryOp → ℕ
unary_number UnaryOp.Not = 0
unary_number UnaryOp.Neg = 1

unfoldable pub binary_number : BinaryOp → ℕ
binary_number BinaryOp.Add = 0
binary_number BinaryOp.Sub = 1
binary_number BinaryOp.Mul = 2
binary_number BinaryOp.Div = 3
binary_number BinaryOp.Mod = 4
binary_number BinaryOp.Eq = 5
binary_number BinaryOp.Neq = 6
binary_number BinaryOp.Less = 7
binary_number BinaryOp.Greater = 8
binary_number BinaryOp.LessEqual = 9
binary_number BinaryOp.GreaterEqual = 10
binary_number BinaryOp.And = 11
binary_number BinaryOp.Or = 12
binary_number BinaryOp.BitwiseAnd = 13
binary_number BinaryOp.BitwiseOr = 14
binary_number BinaryOp.BitwiseXor = 15

pub record UnaryOpSignature : Type 0 where
  pub op : UnaryOp
  pub operand : ℕ
  pub result : ℕ

pub record OperatorSignature : Type 0 where
  pub op : BinaryOp
  pub left : ℕ
  pub right : ℕ
  pub result : ℕ

abbrev unary : UnaryOp → ℕ → ℕ → UnaryOpSignature
unary op operand result = record { op = op; operand = operand; result = result }

abbrev binary : BinaryOp → ℕ → ℕ → ℕ → OperatorSignature
binary op left right result = record { op = op; left = left; right = right; result = result }

-- `get_unary_op_signatures`: operator, operand, result
unfoldable pub unary_op_signatures : List UnaryOpSignature
unary_op_signatures = unary UnaryOp.Neg felt felt ∷ unary UnaryOp.Neg u32 u32 ∷ unary UnaryOp.Not bool bool ∷ []

-- `get_binary_op_signatures`: operator, left, right, result
unfoldable pub binary_op_signatures : List OperatorSignature
binary_op_signatures =
    binary BinaryOp.Add felt felt felt
    ∷ binary BinaryOp.Add u32 u32 u32
    ∷ binary BinaryOp.Sub felt felt felt
    ∷ binary BinaryOp.Sub u32 u32 u32
    ∷ binary BinaryOp.Mul felt felt felt
    ∷ binary BinaryOp.Mul u32 u32 u32
    ∷ binary BinaryOp.Div felt felt felt
    ∷ binary BinaryOp.Div u32 u32 u32
    ∷ binary BinaryOp.Mod u32 u32 u32
    ∷ binary BinaryOp.Eq felt felt bool
    ∷ binary BinaryOp.Eq u32 u32 bool
    ∷ binary BinaryOp.Eq bool bool bool
    ∷ binary BinaryOp.Neq felt felt bool
    ∷ binary BinaryOp.Neq u32 u32 bool
    ∷ binary BinaryOp.Neq bool bool bool
    ∷ binary BinaryOp.Less u32 u32 bool
    ∷ binary BinaryOp.Greater u32 u32 bool
    ∷ binary BinaryOp.LessEqual u32 u32 bool
    ∷ binary BinaryOp.GreaterEqual u32 u32 bool
    ∷ binary BinaryOp.And bool bool bool
    ∷ binary BinaryOp.Or bool bool bool
    ∷ binary BinaryOp.BitwiseAnd u32 u32 u32
    ∷ binary BinaryOp.BitwiseOr u32 u32 u32
    ∷ binary BinaryOp.BitwiseXor u32 u32 u32
    ∷ []

-- the rows tried from the top: the result of the first that fits, else error
unfoldable pub unary_result : Table → List UnaryOpSignature → UnaryOp → ℕ → ℕ
unary_result table [] op operand = error
unary_result table (row ∷ rows) op operand =
    if eqb (unary_number row.op) (unary_number op) && are_types_compatible table operand row.operand
    then row.result
    else unary_result table rows op operand

unfoldable pub binary_result : Table → List OperatorSignature → BinaryOp → ℕ → ℕ → ℕ
binary_result table [] op left right = error
binary_result table (row ∷ rows) op left right =
    if eqb (binary_number row.op) (binary_number op)
    && (are_types_compatible table left row.left && are_types_compatible table right row.right)
    then row.result
    else binary_result table rows op left right

-- `Add | Mul | Eq | Neq`
unfoldable pub is_commutative : BinaryOp → Bool
is_commutative BinaryOp.Add = true
is_commutative BinaryOp.Sub = false
is_commutative BinaryOp.Mul = true
is_commutative BinaryOp.Div = false
is_commutative BinaryOp.Mod = false
is_commutative BinaryOp.Eq = true
is_commutative BinaryOp.Neq = true
is_commutative BinaryOp.Less = false
is_commutative BinaryOp.Greater = false
is_commutative BinaryOp.LessEqual = false
is_commutative BinaryOp.GreaterEqual = false
is_commutative BinaryOp.And = false
is_commutative BinaryOp.Or = false
is_commutative BinaryOp.BitwiseAnd = false
is_commutative BinaryOp.BitwiseOr = false
is_commutative BinaryOp.BitwiseXor = false
