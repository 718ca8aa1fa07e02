-- The text of a type by its row, and texts with commas between them. Assumes nothing.
use Prim.Native.Nat.{ℕ, zero, ◌+◌, ◌≤◌, ◌<◌, zero-le, suc-le-suc}
use mathlib.Core.Path.{◌≡◌, refl, sym, ap, subst, ◌∙◌}
use mathlib.Core.Logic.{∥∥₁_elim}
use native.Mathlib.Nat.{ℕ_set}
use mathlib.Core.List.{is_set as List-set}
use mathlib.Core.List.{List, [], ◌∷◌, ◌++◌, append_assoc, append-nil}
use native.Mathlib.Numerals.{add-one}
use native.Mathlib.Omega.{arith}
use lib.ListN.{length, get_or, take, drop, length-append, take-append-drop}
use lib.Seq.{take-suc, take_all}
use Rattle.model.specs.Common.{bytes}
use Rattle.resolution.specs.TypeData.{TypeData}
use Rattle.resolution.specs.Types.{data_of}
use Rattle.resolution.specs.Answer.{decimal, comma_texts, row_text, type_text}
use Rattle.resolution.specs.TableOk.{row_types, TableOk}
use Rattle.resolution.proofs.Steps.{type_text_step}
use Rattle.type_table.specs.declared.TypeData.{TypeData as Row}
use Rattle.type_table.specs.declared.TypeData.TheVariants.{Felt, «Bool» as BoolType, U32, Unknown, Error, Tuple, Pointer, FixedArray, Struct, Function}
use Rattle.type_table.specs.declared.TypeList.{TypeList}
use Rattle.type_table.specs.Layout.{types_of, table_of, AllBelow, Sound}
use Rattle.type_table.specs.Meaning.{data_is}
use Rattle.type_table.specs.Promises.{DataRead}
use Rattle.type_table.proofs.Laws.{lower}
use Rattle.type_text.specs.Text.{comma_rest, tuple_text, pointer_text, array_text, definition_text}

list_set : IsSet (List ℕ)
list_set = List-set ℕ_set

-- ------------------------------------------------------------------ the row that the code has read

-- a row that is read is the type's
module _ (file w : List ℕ) (t : ℕ) (read : Row) (promised : DataRead w t read) where
  row_is : (row : Row) → read ≡ row → data_is file w row ≡ data_of (table_of file w) t
  row_is row told = sym (ap (data_is file w) told) ∙ promised.same file

  -- the text of a type by the kind of its row
  module _ (held : ∥ TableOk (table_of file w) ∥₁) where
    text_is : (row : Row) → read ≡ row → row_text (type_text (table_of file w)) (data_is file w row) ≡ type_text (table_of file w) t
    text_is row told = ∥∥₁_elim held (list_set _ _) (λ ok. ap (row_text (type_text (table_of file w))) (row_is row told) ∙ sym (type_text_step ok t))

    pub felt_is : read ≡ Felt → bytes "felt" ≡ type_text (table_of file w) t
    unfolding row_text
    felt_is told = text_is Felt told

    pub bool_is : read ≡ BoolType → bytes "bool" ≡ type_text (table_of file w) t
    unfolding row_text
    bool_is told = text_is BoolType told

    pub u32_is : read ≡ U32 → bytes "u32" ≡ type_text (table_of file w) t
    unfolding row_text
    u32_is told = text_is U32 told

    pub unknown_is : read ≡ Unknown → bytes "unknown" ≡ type_text (table_of file w) t
    unfolding row_text
    unknown_is told = text_is Unknown told

    pub error_is : read ≡ Error → bytes "error" ≡ type_text (table_of file w) t
    unfolding row_text
    error_is told = text_is Error told

    pub pointer_is : (u : ℕ) → read ≡ Pointer u → pointer_text (type_text (table_of file w)) u ≡ type_text (table_of file w) t
    unfolding row_text pointer_text
    pointer_is u told = text_is (Pointer u) told

    pub array_is : (u size : ℕ) → read ≡ FixedArray u size → array_text (type_text (table_of file w)) u size ≡ type_text (table_of file w) t
    unfolding row_text array_text
    array_is u size told = text_is (FixedArray u size) told

    pub struct_is : (m d : ℕ) (list : TypeList) → read ≡ Struct m d list → definition_text (bytes "struct:") m d ≡ type_text (table_of file w) t
    unfolding row_text definition_text
    struct_is m d list told = text_is (Struct m d list) told

    pub function_is : (m d : ℕ) (list : TypeList) (u : ℕ) → read ≡ Function m d list u → definition_text (bytes "fn:") m d ≡ type_text (table_of file w) t
    unfolding row_text definition_text
    function_is m d list u told = text_is (Function m d list u) told

  -- a type inside another has a lower number
  module _ (sound : Sound file w) where
    inner_below : (row : Row) → read ≡ row → AllBelow t (row_types (data_is file w row))
    inner_below row told = subst (λ (r : TypeData). AllBelow t (row_types r)) (sym (row_is row told)) (lower file w sound t)

    pub pointer_below : (u : ℕ) → read ≡ Pointer u → u < t
    unfolding row_types
    pointer_below u told = inner_below (Pointer u) told zero (suc-le-suc zero-le)

    pub array_below : (u size : ℕ) → read ≡ FixedArray u size → u < t
    unfolding row_types
    array_below u size told = inner_below (FixedArray u size) told zero (suc-le-suc zero-le)

-- the list of a tuple
module _
    (file w : List ℕ)
    (t : ℕ)
    (read : Row)
    (promised : DataRead w t read)
    (list : TypeList)
    (told : read ≡ Tuple list)
    (l : List ℕ)
    (listed : l ≡ types_of w list)
  where
    pub tuple_below : Sound file w → AllBelow t l
    unfolding row_types
    tuple_below sound = subst (λ (x : List ℕ). AllBelow t x) (sym listed) (inner_below file w t read promised sound (Tuple list) told)

    pub tuple_is : ∥ TableOk (table_of file w) ∥₁ → tuple_text (type_text (table_of file w)) l ≡ type_text (table_of file w) t
    unfolding row_text tuple_text
    tuple_is ok = ap (tuple_text (type_text (table_of file w))) listed ∙ text_is file w t read promised ok (Tuple list) told

-- ------------------------------------------------------------------ commas

none_is : (l : List ℕ) → length l ≡ 0 → l ≡ []
none_is [] e = refl
none_is (x ∷ l) e = absurd (omega arith)

pub comma_none : (f : ℕ → List ℕ) (l : List ℕ) → length l ≡ 0 → [] ≡ comma_texts f l
unfolding comma_texts
comma_none f l e = sym (ap (comma_texts f) (none_is l e))

-- ------------------------------------------------------------------ a comma before each

comma_cons : (f : ℕ → List ℕ) (x : ℕ) (l : List ℕ) → f x ++ comma_rest f l ≡ comma_texts f (x ∷ l)
unfolding comma_texts comma_rest
comma_cons f x [] = append-nil (f x)
comma_cons f x (y ∷ l) = ap (λ z. f x ++ (bytes "," ++ z)) (comma_cons f y l)

rest_append : (f : ℕ → List ℕ) (l m : List ℕ) → comma_rest f (l ++ m) ≡ comma_rest f l ++ comma_rest f m
unfolding comma_rest
rest_append f [] m = refl
rest_append f (x ∷ l) m =
    ap (λ z. bytes "," ++ (f x ++ z)) (rest_append f l m)
    ∙ ap (λ z. bytes "," ++ z) (sym (append_assoc (f x) (comma_rest f l) (comma_rest f m)))
    ∙ sym (append_assoc (bytes ",") (f x ++ comma_rest f l) (comma_rest f m))

rest_one : (f : ℕ → List ℕ) (x : ℕ) → comma_rest f (x ∷ []) ≡ bytes "," ++ f x
unfolding comma_rest
rest_one f x = ap (λ z. bytes "," ++ z) (append-nil (f x))

-- the first, and the rest behind it
pub comma_split : (f : ℕ → List ℕ) (l : List ℕ) {x : ℕ} (r : List ℕ) → l ≡ (x ∷ r) → f x ++ comma_rest f r ≡ comma_texts f l
comma_split f l {x} r is = comma_cons f x r ∙ ap (comma_texts f) (sym is)

pub split_length : (f : ℕ → List ℕ) (l : List ℕ) {x : ℕ} (r : List ℕ) → l ≡ (x ∷ r) → length (f x) + length (comma_rest f r) ≡ length (comma_texts f l)
split_length f l {x} r is = sym (length-append (f x) (comma_rest f r)) ∙ ap length (comma_split f l r is)

module _ (f : ℕ → List ℕ) (l : List ℕ) where
  pub rest_none : comma_rest f (take 0 l) ≡ []
  unfolding comma_rest
  rest_none = refl

  pub rest_step : (i : ℕ) → i < length l → comma_rest f (take i l) ++ (bytes "," ++ f (get_or l i 0)) ≡ comma_rest f (take (i + 1) l)
  rest_step i below =
      sym
      (ap (λ n. comma_rest f (take n l)) (add-one i) ∙ ap (comma_rest f) (take-suc l i 0 below)
      ∙ rest_append f (take i l) (get_or l i 0 ∷ []) ∙ ap (λ z. comma_rest f (take i l) ++ z) (rest_one f (get_or l i 0)))

  pub rest_step_length : (i : ℕ) → i < length l → length (comma_rest f (take (i + 1) l)) ≡ length (comma_rest f (take i l)) + (1 + length (f (get_or l i 0)))
  rest_step_length i below =
      ap length (sym (rest_step i below)) ∙ length-append (comma_rest f (take i l)) (bytes "," ++ f (get_or l i 0))
      ∙ ap (λ n. length (comma_rest f (take i l)) + n) (length-append (bytes ",") (f (get_or l i 0)))

  pub rest_upto : (i : ℕ) → length (comma_rest f (take i l)) ≤ length (comma_rest f l)
  rest_upto i =
      omega (
        arith,
        ap length (rest_append f (take i l) (drop i l)),
        length-append (comma_rest f (take i l)) (comma_rest f (drop i l)),
        ap (λ x. length (comma_rest f x)) (take-append-drop i l),
      )

  pub rest_all : (i : ℕ) → length l ≤ i → comma_rest f (take i l) ≡ comma_rest f l
  rest_all i past = ap (comma_rest f) (take_all i l past)

-- ------------------------------------------------------------------ lengths of the texts of the kinds

module _ (f : ℕ → List ℕ) where
  pub tuple_text_length : (ts : List ℕ) → length (tuple_text f ts) ≡ 1 + (length (comma_texts f ts) + 1)
  unfolding tuple_text
  tuple_text_length ts = omega (arith, length-append (bytes "(") (comma_texts f ts ++ bytes ")"), length-append (comma_texts f ts) (bytes ")"))

  pub pointer_text_length : (t : ℕ) → length (pointer_text f t) ≡ 4 + (length (f t) + 1)
  unfolding pointer_text
  pointer_text_length t = omega (arith, length-append (bytes "ptr(") (f t ++ bytes ")"), length-append (f t) (bytes ")"))

  pub array_text_length : (t size : ℕ) → length (array_text f t size) ≡ 1 + (length (f t) + (1 + (length (decimal size) + 1)))
  unfolding array_text
  array_text_length t size =
      omega (
        arith,
        length-append (bytes "[") (f t ++ (bytes ";" ++ (decimal size ++ bytes "]"))),
        length-append (f t) (bytes ";" ++ (decimal size ++ bytes "]")),
        length-append (bytes ";") (decimal size ++ bytes "]"),
        length-append (decimal size) (bytes "]"),
      )

pub definition_text_length : (lead : List ℕ) (m d : ℕ) → length (definition_text lead m d) ≡ length lead + (length (decimal m) + (1 + length (decimal d)))
unfolding definition_text
definition_text_length lead m d =
    omega
    (arith, length-append lead (decimal m ++ (bytes "." ++ decimal d)), length-append (decimal m) (bytes "." ++ decimal d), length-append (bytes ".") (decimal d))
