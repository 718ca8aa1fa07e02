-- The operator rows of the Rust ("24 binary and 3 unary rows, tried from the top"), from text to text, by computation: what `resolve` prints for
-- operands of the types of each row, of every other pair of felt, bool and u32, and of a type that fits every row. The results are written
-- here from `get_unary_op_signatures` and `get_binary_op_signatures` (type_resolution.rs), in their order. Assumes nothing.
use Prim.Native.String.{String}
use Rattle.std.specs.Prelude.{◌≡◌, refl, Bool, ◌&&◌, List, [], ◌∷◌, ◌++◌, map, length}
use Rattle.std.specs.Prelude.{if◌then◌else◌}
use Rattle.model.specs.Common.{Text, tabs, any, eq_numbers}
use Rattle.resolution.specs.Resolve.{resolve}
use Rattle.resolution.specs.Computes.{resolves}

-- a node over two parameters x and y: its last fields on the E line, the T of x and of y, and the type that is printed
pub record OperatorRow : Type 0 where
  pub node : Text
  pub left : Text
  pub right : Text
  pub result : Text

-- `x op y`: operator, left, right, result
abbrev binary : String → String → String → String → OperatorRow
binary op left right result = record { node = tabs "bin→" ++ (tabs op ++ tabs "→0→1"); left = tabs left; right = tabs right; result = tabs result }

-- `op x`: operator, operand, result. (y is there, and is not named)
abbrev unary : String → String → String → OperatorRow
unary op operand result = record { node = tabs "un→" ++ (tabs op ++ tabs "→0"); left = tabs operand; right = tabs operand; result = tabs result }

-- the index file of a row, and the answer line
unfoldable pub row_file : OperatorRow → Text
row_file row =
    tabs "index→1\nM→m\nS→-→module\nS→0→function\nT→" ++ (row.left ++ (tabs "\nT→" ++ (row.right ++ (tabs "\nD→1→x→5→6→5→11→param→0\nD→1→y→13→14→13→19→param→1\nE→1→30→31→-→0→plain→-→-→ident→x\nE→1→34→35→-→1→plain→-→-→ident→y\nE→1→30→35→-→-→plain→-→-→"
    ++ (row.node ++ tabs "\nQ→expr→0→2→-\n")))))

unfoldable pub row_line : OperatorRow → Text
row_line row = tabs "expr→0→2→type→" ++ (row.result ++ tabs "\n")

abbrev pub RowsPrinted : List OperatorRow → Type 0
RowsPrinted rows = map (λ row. resolve (row_file row)) rows ≡ map row_line rows

-- ------------------------------------------------------------------ the 27 rows

unfoldable pub unary_rows : List OperatorRow
unary_rows = unary "-" "felt" "felt" ∷ unary "-" "u32" "u32" ∷ unary "!" "bool" "bool" ∷ []

unfoldable pub binary_rows : List OperatorRow
binary_rows =
    binary "+" "felt" "felt" "felt"
    ∷ binary "+" "u32" "u32" "u32"
    ∷ binary "-" "felt" "felt" "felt"
    ∷ binary "-" "u32" "u32" "u32"
    ∷ binary "*" "felt" "felt" "felt"
    ∷ binary "*" "u32" "u32" "u32"
    ∷ binary "/" "felt" "felt" "felt"
    ∷ binary "/" "u32" "u32" "u32"
    ∷ binary "%" "u32" "u32" "u32"
    ∷ binary "==" "felt" "felt" "bool"
    ∷ binary "==" "u32" "u32" "bool"
    ∷ binary "==" "bool" "bool" "bool"
    ∷ binary "!=" "felt" "felt" "bool"
    ∷ binary "!=" "u32" "u32" "bool"
    ∷ binary "!=" "bool" "bool" "bool"
    ∷ binary "<" "u32" "u32" "bool"
    ∷ binary ">" "u32" "u32" "bool"
    ∷ binary "<=" "u32" "u32" "bool"
    ∷ binary ">=" "u32" "u32" "bool"
    ∷ binary "&&" "bool" "bool" "bool"
    ∷ binary "||" "bool" "bool" "bool"
    ∷ binary "&" "u32" "u32" "u32"
    ∷ binary "|" "u32" "u32" "u32"
    ∷ binary "^" "u32" "u32" "u32"
    ∷ []

pub operator_rows_printed : RowsPrinted (unary_rows ++ binary_rows)
unfolding resolves row_file row_line unary_rows binary_rows
operator_rows_printed = refl

-- ------------------------------------------------------------------ no other row

abbrev types : List String
types = "felt" ∷ "bool" ∷ "u32" ∷ []

abbrev unary_operators : List String
unary_operators = "!" ∷ "-" ∷ []

abbrev binary_operators : List String
binary_operators =
    "+" ∷ "-" ∷ "*" ∷ "/" ∷ "%" ∷ "==" ∷ "!=" ∷ "<" ∷ ">" ∷ "<=" ∷ ">=" ∷ "&&" ∷ "||" ∷ "&" ∷ "|" ∷ "^" ∷ []

-- each of the list, one list behind the other
abbrev for_each : {A B : Type 0} → List A → (A → List B) → List B
for_each [] f = []
for_each (x ∷ xs) f = f x ++ for_each xs f

-- the row has the same node and the same operands
abbrev same_operands : OperatorRow → OperatorRow → Bool
same_operands row row' =
    eq_numbers row.node row'.node && (eq_numbers row.left row'.left && eq_numbers row.right row'.right)

-- the rows of the second list whose operator and operands are in no row of the first
abbrev without : List OperatorRow → List OperatorRow → List OperatorRow
without rows [] = []
without rows (row ∷ more) = if any (same_operands row) rows then without rows more else row ∷ without rows more

-- error for every operator with operands of felt, bool and u32 that are in no row above
unfoldable pub other_unary_rows : List OperatorRow
other_unary_rows = without unary_rows (for_each unary_operators λ op. for_each types λ operand. unary op operand "error" ∷ [])

unfoldable pub other_binary_rows : List OperatorRow
other_binary_rows =
    without binary_rows (for_each binary_operators λ op. for_each types λ left. for_each types λ right. binary op left right "error" ∷ [])

pub other_operands_printed : RowsPrinted (other_unary_rows ++ other_binary_rows)
unfolding resolves row_file row_line unary_rows binary_rows other_unary_rows other_binary_rows
other_operands_printed = refl

-- 3 and 24 rows; of 2 times 3 operands and of 16 times 9 pairs the others
pub row_counts : map length (unary_rows ∷ binary_rows ∷ other_unary_rows ∷ other_binary_rows ∷ []) ≡ 3 ∷ 24 ∷ 3 ∷ 120 ∷ []
unfolding resolves unary_rows binary_rows other_unary_rows other_binary_rows
row_counts = refl

-- ------------------------------------------------------------------ tried from the top

-- operands of a custom name that is defined nowhere, so of type error, fit every row of the operator: the first counts. With a u32 beside it
-- the first that takes a u32 there counts
unfoldable pub first_rows : List OperatorRow
first_rows =
    unary "-" "custom→a" "felt"
    ∷ unary "!" "custom→a" "bool"
    ∷ binary "+" "custom→a" "custom→a" "felt"
    ∷ binary "-" "custom→a" "custom→a" "felt"
    ∷ binary "*" "custom→a" "custom→a" "felt"
    ∷ binary "/" "custom→a" "custom→a" "felt"
    ∷ binary "%" "custom→a" "custom→a" "u32"
    ∷ binary "==" "custom→a" "custom→a" "bool"
    ∷ binary "!=" "custom→a" "custom→a" "bool"
    ∷ binary "<" "custom→a" "custom→a" "bool"
    ∷ binary ">" "custom→a" "custom→a" "bool"
    ∷ binary "<=" "custom→a" "custom→a" "bool"
    ∷ binary ">=" "custom→a" "custom→a" "bool"
    ∷ binary "&&" "custom→a" "custom→a" "bool"
    ∷ binary "||" "custom→a" "custom→a" "bool"
    ∷ binary "&" "custom→a" "custom→a" "u32"
    ∷ binary "|" "custom→a" "custom→a" "u32"
    ∷ binary "^" "custom→a" "custom→a" "u32"
    ∷ binary "+" "custom→a" "u32" "u32"
    ∷ binary "-" "u32" "custom→a" "u32"
    ∷ binary "*" "custom→a" "u32" "u32"
    ∷ binary "/" "u32" "custom→a" "u32"
    ∷ []

pub first_rows_printed : RowsPrinted first_rows
unfolding resolves row_file row_line first_rows
first_rows_printed = refl
