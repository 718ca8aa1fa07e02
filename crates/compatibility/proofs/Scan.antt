-- The scan of the operator rows from the top: its rule once, and what it says of both tables. Assumes nothing.
use Prim.Native.Nat.{ℕ}
use mathlib.Core.Path.{◌≡◌, refl, sym, ap, ap₂, ◌∙◌}
use mathlib.Core.Bool.{Bool, true, false}
use mathlib.Core.List.{List, [], ◌∷◌}
use lib.Dec.{eqb}
use Rattle.std.specs.Prelude.{if◌then◌else◌, Option, None, Some, cond, map, find, unwrap_or}
use Rattle.std.specs.Option.{MatchOption, option_map}
use denote.Ref.{Bor}
use Rattle.model.specs.Records.{UnaryOp, BinaryOp}
use Rattle.resolution.specs.Types.{Table, error}
use Rattle.resolution.specs.Compatible.{unary_number, binary_number, unary_op_signatures, binary_op_signatures, unary_result, binary_result}
use denote.Enum.Bare.{sameb}
use denote.Enum.Declared.{tag_of}
use Rattle.records.specs.declared.UnaryOp.{UnaryOp as RowUnaryOp}
use Rattle.records.specs.declared.BinaryOp.{BinaryOp as RowBinaryOp}
use Rattle.records.specs.contracts.UnaryOp.{the_type as the_unary}
use Rattle.records.specs.contracts.BinaryOp.{the_type as the_binary}
use Rattle.compatibility.specs.declared.TheConstants.{UNARY_ROWS, BINARY_ROWS}
use Rattle.compatibility.specs.declared.UnaryRow.{UnaryRow}
use Rattle.compatibility.specs.declared.BinaryRow.{BinaryRow}
use Rattle.records.specs.Meaning.{unary_op_of, binary_op_of}
use Rattle.compatibility.specs.Operators.{unary_signature_of, binary_signature_of, unary_row_fits, binary_row_fits}

-- ------------------------------------------------------------------ operators by `==`

tag_unary : (op : RowUnaryOp) → tag_of the_unary op ≡ unary_number (unary_op_of op)
unfolding unary_number
tag_unary RowUnaryOp.Not = refl
tag_unary RowUnaryOp.Neg = refl

tag_binary : (op : RowBinaryOp) → tag_of the_binary op ≡ binary_number (binary_op_of op)
unfolding binary_number
tag_binary RowBinaryOp.Add = refl
tag_binary RowBinaryOp.Sub = refl
tag_binary RowBinaryOp.Mul = refl
tag_binary RowBinaryOp.Div = refl
tag_binary RowBinaryOp.Mod = refl
tag_binary RowBinaryOp.Eq = refl
tag_binary RowBinaryOp.Neq = refl
tag_binary RowBinaryOp.Less = refl
tag_binary RowBinaryOp.Greater = refl
tag_binary RowBinaryOp.LessEqual = refl
tag_binary RowBinaryOp.GreaterEqual = refl
tag_binary RowBinaryOp.And = refl
tag_binary RowBinaryOp.Or = refl
tag_binary RowBinaryOp.BitwiseAnd = refl
tag_binary RowBinaryOp.BitwiseOr = refl
tag_binary RowBinaryOp.BitwiseXor = refl

pub same_unary : (a b : RowUnaryOp) → sameb the_unary a b ≡ eqb (unary_number (unary_op_of a)) (unary_number (unary_op_of b))
same_unary a b = ap₂ eqb (tag_unary a) (tag_unary b)

pub same_binary : (a b : RowBinaryOp) → sameb the_binary a b ≡ eqb (binary_number (binary_op_of a)) (binary_number (binary_op_of b))
same_binary a b = ap₂ eqb (tag_binary a) (tag_binary b)

-- the code's rows are the definition's, by computation
unary_rows_are : map unary_signature_of UNARY_ROWS ≡ unary_op_signatures
unfolding unary_op_signatures
unary_rows_are = refl

binary_rows_are : map binary_signature_of BINARY_ROWS ≡ binary_op_signatures
unfolding binary_op_signatures
binary_rows_are = refl

-- ------------------------------------------------------------------ any rows

-- the result of the first row that fits, else the last one; S is a row of the code, and R of the definition
module _
    {S R : Type 0}
    (means : S → R)
    (f : List R → ℕ)
    (fits : R → Bool)
    (result : R → ℕ)
    (last : ℕ)
    (at_row : (row : R) (rows : List R) → f (row ∷ rows) ≡ (if fits row then result row else f rows))
    (at_end : f [] ≡ last)
  where
    first_fits : (rows : List S) → f (map means rows) ≡ unwrap_or (option_map (λ s. result (means s)) (find (λ s. fits (means s)) rows)) last
    first_fits [] = at_end
    first_fits (s ∷ rows) = at_row (means s) (map means rows) ∙ go (fits (means s)) (first_fits rows)
      where
        go : (b : Bool) → f (map means rows) ≡ unwrap_or (option_map (λ s. result (means s)) (find (λ s. fits (means s)) rows)) last → (if b then result (means s) else f (map means rows)) ≡ unwrap_or (option_map (λ s. result (means s)) (cond b (Some s) (find (λ s. fits (means s)) rows))) last
        go true below = refl
        go false below = below

    result_is : (rows : List S) (found : Option (Bor S)) (r : ℕ) → option_map (λ x. x.now) found ≡ find (λ s. fits (means s)) rows
        → MatchOption found (r ≡ last) (λ x. r ≡ result (means x.now)) → r ≡ f (map means rows)
    result_is rows None r is given = given ∙ ap (λ o. unwrap_or (option_map (λ s. result (means s)) o) last) is ∙ sym (first_fits rows)
    result_is rows (Some x) r is given = given ∙ ap (λ o. unwrap_or (option_map (λ s. result (means s)) o) last) is ∙ sym (first_fits rows)

-- ------------------------------------------------------------------ one operand

module _ (table : Table) (op : UnaryOp) (operand : ℕ) where
  pub unary_found : (found : Option (Bor UnaryRow)) (r : ℕ) → option_map (λ x. x.now) found ≡ find (λ row. unary_row_fits table op operand (unary_signature_of row)) UNARY_ROWS
      → MatchOption found (r ≡ error) (λ x. r ≡ x.now.result) → r ≡ unary_result table unary_op_signatures op operand
  unfolding unary_result
  unary_found found r is given =
      result_is unary_signature_of (λ rows. unary_result table rows op operand) (unary_row_fits table op operand) (λ row. row.result) error (λ row rows. refl) refl UNARY_ROWS found r is given
      ∙ ap (λ rows. unary_result table rows op operand) unary_rows_are

-- ------------------------------------------------------------------ two operands

module _ (table : Table) (op : BinaryOp) (left right : ℕ) where
  pub binary_found : (found : Option (Bor BinaryRow)) (r : ℕ) → option_map (λ x. x.now) found ≡ find (λ row. binary_row_fits table op left right (binary_signature_of row)) BINARY_ROWS
      → MatchOption found (r ≡ error) (λ x. r ≡ x.now.result) → r ≡ binary_result table binary_op_signatures op left right
  unfolding binary_result
  binary_found found r is given =
      result_is binary_signature_of (λ rows. binary_result table rows op left right) (binary_row_fits table op left right) (λ row. row.result) error (λ row rows. refl) refl BINARY_ROWS found r is given
      ∙ ap (λ rows. binary_result table rows op left right) binary_rows_are
