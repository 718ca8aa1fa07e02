-- What a program reads of the table, of its rows and of the operator rows, is a type of the table, and the same of every later table.
-- Assumes nothing.
use Prim.Native.Nat.{ℕ, zero, suc}
use mathlib.Core.Path.{◌≡◌, refl, sym, ◌∙◌, ap, subst}
use mathlib.Core.Bool.{Bool, true, false, ◌&&◌}
use mathlib.Core.List.Memᴰ
use mathlib.Core.List.{List, [], ◌∷◌, map, Memᴰ}
use Rattle.std.specs.Prelude.{Option, None, Some}
use lib.Dec.{T, eqb, ltb, ltb→lt, lit<}
use Rattle.std.specs.Prelude.{slice_get}
use lib.ListN.{length}
use Rattle.std.specs.Prelude.{if◌then◌else◌}
use Rattle.model.specs.Common.{let_some, eq_numbers, bytes}
use Rattle.model.specs.Records.{Name, NameWithType, UnaryOp, BinaryOp}
use Rattle.model.proofs.Tests.{none≢some, some-injective}
use Rattle.resolution.specs.TypeData.{TypeData}
use Rattle.resolution.specs.Types.{Table, Array, Signature, is_u32_or_felt, as_tuple, as_pointer, as_array, as_struct, as_function, field_type, data_of, felt, u32, error}
use Rattle.resolution.specs.Compatible.{are_types_compatible, UnaryOpSignature, OperatorSignature, unary_number, binary_number, unary_op_signatures, binary_op_signatures, unary_result, binary_result}
use Rattle.resolution.specs.Views.{typed_fields, navigate, numeric, numeric_context, element_contexts, element_hint, suffix_type}
use Rattle.resolution.specs.Programs.{done, look}
use Rattle.resolution.specs.TableOk.{row_types, TableOk, Extends, Below, OptionBelow}
use Rattle.resolution.proofs.Steady.{data_later, compatible_later}
use Rattle.resolution.proofs.Tables.{extends_below, base_below, inner_below}
use Rattle.resolution.proofs.Safe.{Safe, safe_done, safe_look}

-- ------------------------------------------------------------------ numbers of types in lists and options

abbrev pub AllBelow : Table → List ℕ → Type 0
AllBelow table ts = (t : ℕ) → Memᴰ t ts → Below table t

pub all_nil : (table : Table) → AllBelow table []
all_nil table t named = absurd (Memᴰ.not-nil named)

pub all_cons : (table : Table) (t : ℕ) (ts : List ℕ) → Below table t → AllBelow table ts → AllBelow table (t ∷ ts)
all_cons table t ts h g u (Memᴰ.head e) = subst (Below table) (sym e) h
all_cons table t ts h g u (Memᴰ.tail named) = g u named

pub all_later : {table after : Table} (ts : List ℕ) → Extends table after → AllBelow table ts → AllBelow after ts
all_later ts x h t named = extends_below x t (h t named)

pub option_later : {table after : Table} (o : Option ℕ) → Extends table after → OptionBelow table o → OptionBelow after o
option_later None x h = tt
option_later (Some t) x h = extends_below x t h

pub option_some : (table : Table) {o : Option ℕ} {t : ℕ} → o ≡ Some t → OptionBelow table o → Below table t
option_some table e h = subst (OptionBelow table) e h

pub at_below : (table : Table) (ts : List ℕ) (n : ℕ) → AllBelow table ts → OptionBelow table (slice_get ts n)
at_below table [] n h = tt
at_below table (t ∷ ts) zero h = h t (Memᴰ.head refl)
at_below table (t ∷ ts) (suc n) h = at_below table ts n (λ u named. h u (Memᴰ.tail named))

-- ------------------------------------------------------------------ what is read from a row

module _ {table : Table} (ok : TableOk table) where
  pub row_below : (t : ℕ) → AllBelow table (row_types (data_of table t))
  row_below t u named = inner_below ok t u named

  pub tuple_below : (row : TypeData) (ts : List ℕ) → as_tuple row ≡ Some ts → AllBelow table (row_types row) → AllBelow table ts
  unfolding as_tuple row_types
  tuple_below TypeData.Felt ts e h = absurd (none≢some e)
  tuple_below TypeData.Bool ts e h = absurd (none≢some e)
  tuple_below TypeData.U32 ts e h = absurd (none≢some e)
  tuple_below TypeData.Unknown ts e h = absurd (none≢some e)
  tuple_below TypeData.Error ts e h = absurd (none≢some e)
  tuple_below (TypeData.Tuple us) ts e h = subst (AllBelow table) (some-injective e) h
  tuple_below (TypeData.Pointer t) ts e h = absurd (none≢some e)
  tuple_below (TypeData.FixedArray t size) ts e h = absurd (none≢some e)
  tuple_below (TypeData.Struct m d fields) ts e h = absurd (none≢some e)
  tuple_below (TypeData.Function m d params t) ts e h = absurd (none≢some e)

  pub pointer_below : (row : TypeData) (t : ℕ) → as_pointer row ≡ Some t → AllBelow table (row_types row) → Below table t
  unfolding as_pointer row_types
  pointer_below TypeData.Felt t e h = absurd (none≢some e)
  pointer_below TypeData.Bool t e h = absurd (none≢some e)
  pointer_below TypeData.U32 t e h = absurd (none≢some e)
  pointer_below TypeData.Unknown t e h = absurd (none≢some e)
  pointer_below TypeData.Error t e h = absurd (none≢some e)
  pointer_below (TypeData.Tuple us) t e h = absurd (none≢some e)
  pointer_below (TypeData.Pointer u) t e h = h t (Memᴰ.head (sym (some-injective e)))
  pointer_below (TypeData.FixedArray u size) t e h = absurd (none≢some e)
  pointer_below (TypeData.Struct m d fields) t e h = absurd (none≢some e)
  pointer_below (TypeData.Function m d params u) t e h = absurd (none≢some e)

  pub array_below : (row : TypeData) (array : Array) → as_array row ≡ Some array → AllBelow table (row_types row) → Below table array.element
  unfolding as_array row_types
  array_below TypeData.Felt array e h = absurd (none≢some e)
  array_below TypeData.Bool array e h = absurd (none≢some e)
  array_below TypeData.U32 array e h = absurd (none≢some e)
  array_below TypeData.Unknown array e h = absurd (none≢some e)
  array_below TypeData.Error array e h = absurd (none≢some e)
  array_below (TypeData.Tuple us) array e h = absurd (none≢some e)
  array_below (TypeData.Pointer u) array e h = absurd (none≢some e)
  array_below (TypeData.FixedArray u size) array e h = h array.element (Memᴰ.head (ap (λ r. r.element) (sym (some-injective e))))
  array_below (TypeData.Struct m d fields) array e h = absurd (none≢some e)
  array_below (TypeData.Function m d params u) array e h = absurd (none≢some e)

  abbrev pub FieldsBelow : List NameWithType → Type 0
  FieldsBelow fields = AllBelow table (map (λ field. field.type) fields)

  pub struct_below : (row : TypeData) (fields : List NameWithType) → as_struct row ≡ Some fields → AllBelow table (row_types row) → FieldsBelow fields
  unfolding as_struct row_types
  struct_below TypeData.Felt fields e h = absurd (none≢some e)
  struct_below TypeData.Bool fields e h = absurd (none≢some e)
  struct_below TypeData.U32 fields e h = absurd (none≢some e)
  struct_below TypeData.Unknown fields e h = absurd (none≢some e)
  struct_below TypeData.Error fields e h = absurd (none≢some e)
  struct_below (TypeData.Tuple us) fields e h = absurd (none≢some e)
  struct_below (TypeData.Pointer u) fields e h = absurd (none≢some e)
  struct_below (TypeData.FixedArray u size) fields e h = absurd (none≢some e)
  struct_below (TypeData.Struct m d others) fields e h = subst FieldsBelow (some-injective e) h
  struct_below (TypeData.Function m d params u) fields e h = absurd (none≢some e)

  abbrev pub SignatureBelow : Signature → Type 0
  SignatureBelow signature = AllBelow table (signature.return_type ∷ signature.params)

  pub function_below : (row : TypeData) (signature : Signature) → as_function row ≡ Some signature → AllBelow table (row_types row) → SignatureBelow signature
  unfolding as_function row_types
  function_below TypeData.Felt signature e h = absurd (none≢some e)
  function_below TypeData.Bool signature e h = absurd (none≢some e)
  function_below TypeData.U32 signature e h = absurd (none≢some e)
  function_below TypeData.Unknown signature e h = absurd (none≢some e)
  function_below TypeData.Error signature e h = absurd (none≢some e)
  function_below (TypeData.Tuple us) signature e h = absurd (none≢some e)
  function_below (TypeData.Pointer u) signature e h = absurd (none≢some e)
  function_below (TypeData.FixedArray u size) signature e h = absurd (none≢some e)
  function_below (TypeData.Struct m d fields) signature e h = absurd (none≢some e)
  function_below (TypeData.Function m d params u) signature e h = subst SignatureBelow (some-injective e) h

  pub field_below : (fields : List NameWithType) (name : Name) → FieldsBelow fields → OptionBelow table (field_type fields name)
  unfolding field_type
  field_below [] name h = tt
  field_below (field ∷ fields) name h = go (eq_numbers field.name name) (field_below fields name (λ u named. h u (Memᴰ.tail named)))
    where
      go : (b : Bool) → OptionBelow table (field_type fields name) → OptionBelow table (if b then Some field.type else field_type fields name)
      go true rest = h field.type (Memᴰ.head refl)
      go false rest = rest

-- ------------------------------------------------------------------ what is read from the table

abbrev pub every_below_6 : List ℕ → Bool
every_below_6 [] = true
every_below_6 (t ∷ ts) = ltb t 6 && every_below_6 ts

pub T_left : (a b : Bool) → T (a && b) → T a
T_left true b h = tt
T_left false b h = h

pub T_right : (a b : Bool) → T (a && b) → T b
T_right true b h = h
T_right false b h = absurd h

-- what holds of both ends of a lookup holds of the lookup
choice : {A B : Type 0} (P : B → Type 0) (o : Option A) (b : B) (f : A → B) → P b → ((x : A) → o ≡ Some x → P (f x)) → P (let_some o b f)
choice P None b f h g = h
choice P (Some x) b f h g = g x refl

-- two lookups that go on alike
let_some_same : {A B : Type 0} (o : Option A) (b : B) {f g : A → B} → ((x : A) → o ≡ Some x → f x ≡ g x) → let_some o b f ≡ let_some o b g
let_some_same None b h = refl
let_some_same (Some x) b h = h x refl

either : {B : Type 0} (P : B → Type 0) (c : Bool) (a b : B) → P a → P b → P (if c then a else b)
either P true a b h g = h
either P false a b h g = g

module _ {table : Table} (ok : TableOk table) where
  pub error_below : Below table error
  error_below = base_below ok error (lit< tt)

  pub navigate_below : (path : List ℕ) (current : ℕ) → Below table current → Below table (navigate table current path)
  unfolding navigate
  navigate_below [] current h = h
  navigate_below (index ∷ path) current h =
      choice (Below table) (as_tuple (data_of table current)) error _ error_below λ elements e.
      choice (Below table) (slice_get elements index) error _ error_below λ t e'.
      navigate_below path t (option_some table e' (at_below table elements index (tuple_below ok (data_of table current) elements e (row_below ok current))))

  pub numeric_type_below : (t : ℕ) → Below table t → OptionBelow table (numeric table t)
  unfolding numeric
  numeric_type_below t h = either (OptionBelow table) (is_u32_or_felt (data_of table t)) (Some t) None h tt

  pub numeric_below : (context : Option ℕ) → OptionBelow table context → Below table (numeric_context table context)
  unfolding numeric_context
  numeric_below None h = base_below ok felt (lit< tt)
  numeric_below (Some t) h =
      choice (Below table) (numeric table t) felt (λ u. u) (base_below ok felt (lit< tt)) λ u e. option_some table e (numeric_type_below t h)

  pub contexts_below : (context : Option ℕ) (count : ℕ) → AllBelow table (element_contexts table context count)
  unfolding element_contexts
  contexts_below None count = all_nil table
  contexts_below (Some t) count =
      choice (AllBelow table) (as_tuple (data_of table t)) [] _ (all_nil table) λ ts e.
      either (AllBelow table) (eqb (length ts) count) ts [] (tuple_below ok (data_of table t) ts e (row_below ok t)) (all_nil table)

  pub hint_below : (context : Option ℕ) → OptionBelow table (element_hint table context)
  unfolding element_hint
  hint_below None = tt
  hint_below (Some t) =
      choice (OptionBelow table) (as_array (data_of table t)) None _ tt λ array e. array_below ok (data_of table t) array e (row_below ok t)

  pub suffix_below : (suffix : Option Name) → OptionBelow table (suffix_type suffix)
  unfolding suffix_type
  suffix_below None = tt
  suffix_below (Some suffix) =
      either (OptionBelow table) (eq_numbers suffix (bytes "u32")) (Some u32) _ (base_below ok u32 (lit< tt))
      (either (OptionBelow table) (eq_numbers suffix (bytes "felt")) (Some felt) None (base_below ok felt (lit< tt)) tt)

  pub unary_below : (rows : List UnaryOpSignature) → AllBelow table (map (λ r. r.result) rows) → (op : UnaryOp) (t : ℕ) → Below table (unary_result table rows op t)
  unfolding unary_result
  unary_below [] h op t = error_below
  unary_below (row ∷ rows) h op t =
      either (Below table) (eqb (unary_number row.op) (unary_number op) && are_types_compatible table t row.operand) row.result _
      (h row.result (Memᴰ.head refl))
      (unary_below rows (λ u named. h u (Memᴰ.tail named)) op t)

  pub binary_below : (rows : List OperatorSignature) → AllBelow table (map (λ r. r.result) rows) → (op : BinaryOp) (l r : ℕ) → Below table (binary_result table rows op l r)
  unfolding binary_result
  binary_below [] h op l r = error_below
  binary_below (row ∷ rows) h op l r =
      either (Below table)
      (eqb (binary_number row.op) (binary_number op) && (are_types_compatible table l row.left && are_types_compatible table r row.right))
      row.result
      _
      (h row.result (Memᴰ.head refl))
      (binary_below rows (λ u named. h u (Memᴰ.tail named)) op l r)

  -- every number of a list is below 6
  pub small : (ts : List ℕ) → T (every_below_6 ts) → AllBelow table ts
  small [] h = all_nil table
  small (t ∷ ts) h = all_cons table t ts (base_below ok t (ltb→lt t 6 (T_left (ltb t 6) (every_below_6 ts) h))) (small ts (T_right (ltb t 6) (every_below_6 ts) h))

  pub unary_rows_below : (op : UnaryOp) (t : ℕ) → Below table (unary_result table unary_op_signatures op t)
  unfolding unary_op_signatures
  unary_rows_below op t = unary_below unary_op_signatures (small (map (λ r. r.result) unary_op_signatures) tt) op t

  pub binary_rows_below : (op : BinaryOp) (l r : ℕ) → Below table (binary_result table binary_op_signatures op l r)
  unfolding binary_op_signatures
  binary_rows_below op l r = binary_below binary_op_signatures (small (map (λ r. r.result) binary_op_signatures) tt) op l r

  pub safe_row : (t : ℕ) → Below table t → Safe (λ tb row. AllBelow tb (row_types row)) table (look (λ tb. done (data_of tb t)))
  safe_row t h = safe_look (λ after x i. done (data_later x t h i)) (safe_done (row_below ok t))

  -- ---------------------------------------------------------------- what is read, read of a later table

  pub navigate_later : {after : Table} → Extends table after → (path : List ℕ) (current : ℕ) → Below table current
      → navigate after current path ≡ navigate table current path
  unfolding navigate
  navigate_later x [] current h = refl
  navigate_later {after} x (index ∷ path) current h =
      (λ i.
      let_some (as_tuple (data_later x current h i)) error λ elements.
      let_some (slice_get elements index) error λ t. navigate after t path)
      ∙ let_some_same (as_tuple (data_of table current)) error λ elements e.
      let_some_same (slice_get elements index) error λ t e'.
      navigate_later x path t (option_some table e' (at_below table elements index (tuple_below ok (data_of table current) elements e (row_below ok current))))

  pub numeric_type_later : {after : Table} → Extends table after → (t : ℕ) → Below table t → numeric after t ≡ numeric table t
  unfolding numeric
  numeric_type_later x t h = λ i. if is_u32_or_felt (data_later x t h i) then Some t else None

  pub numeric_later : {after : Table} → Extends table after → (context : Option ℕ) → OptionBelow table context
      → numeric_context after context ≡ numeric_context table context
  unfolding numeric_context
  numeric_later x None h = refl
  numeric_later x (Some t) h = λ i. let_some (numeric_type_later x t h i) felt (λ u. u)

  pub contexts_later : {after : Table} → Extends table after → (context : Option ℕ) (count : ℕ) → OptionBelow table context
      → element_contexts after context count ≡ element_contexts table context count
  unfolding element_contexts
  contexts_later x None count h = refl
  contexts_later x (Some t) count h =
      λ i. let_some (as_tuple (data_later x t h i)) [] λ ts. if eqb (length ts) count then ts else []

  pub hint_later : {after : Table} → Extends table after → (context : Option ℕ) → OptionBelow table context
      → element_hint after context ≡ element_hint table context
  unfolding element_hint
  hint_later x None h = refl
  hint_later x (Some t) h = λ i. let_some (as_array (data_later x t h i)) None λ array. Some array.element

  pub unary_later : {after : Table} → Extends table after → (rows : List UnaryOpSignature) → AllBelow table (map (λ r. r.operand) rows)
      → (op : UnaryOp) (t : ℕ) → Below table t → unary_result after rows op t ≡ unary_result table rows op t
  unfolding unary_result
  unary_later x [] h op t g = refl
  unary_later x (row ∷ rows) h op t g =
      λ i.
      if eqb (unary_number row.op) (unary_number op) && compatible_later ok x t row.operand g (h row.operand (Memᴰ.head refl)) i
      then row.result
      else unary_later x rows (λ u named. h u (Memᴰ.tail named)) op t g i

  pub binary_later : {after : Table} → Extends table after → (rows : List OperatorSignature)
      → AllBelow table (map (λ r. r.left) rows) → AllBelow table (map (λ r. r.right) rows)
      → (op : BinaryOp) (l r : ℕ) → Below table l → Below table r → binary_result after rows op l r ≡ binary_result table rows op l r
  unfolding binary_result
  binary_later x [] hl hr op l r gl gr = refl
  binary_later x (row ∷ rows) hl hr op l r gl gr =
      λ i.
      if eqb (binary_number row.op) (binary_number op)
      && (compatible_later ok x l row.left gl (hl row.left (Memᴰ.head refl)) i
      && compatible_later ok x r row.right gr (hr row.right (Memᴰ.head refl)) i)
      then row.result
      else binary_later x rows (λ u named. hl u (Memᴰ.tail named)) (λ u named. hr u (Memᴰ.tail named)) op l r gl gr i

  -- an operator's row, read of the table
  pub safe_unary : (op : UnaryOp) (t : ℕ) → Below table t → Safe Below table (look (λ tb. done (unary_result tb unary_op_signatures op t)))
  unfolding unary_op_signatures
  safe_unary op t h =
      safe_look (λ after x i. done (unary_later x unary_op_signatures (small (map (λ r. r.operand) unary_op_signatures) tt) op t h i))
      (safe_done (unary_rows_below op t))

  pub safe_binary : (op : BinaryOp) (l r : ℕ) → Below table l → Below table r
      → Safe Below table (look (λ tb. done (binary_result tb binary_op_signatures op l r)))
  unfolding binary_op_signatures
  safe_binary op l r hl hr =
      safe_look
      (λ after x i.
      done
      (binary_later x binary_op_signatures
      (small (map (λ r. r.left) binary_op_signatures) tt)
      (small (map (λ r. r.right) binary_op_signatures) tt)
      op
      l
      r
      hl
      hr
      i))
      (safe_done (binary_rows_below op l r))

-- the types of a struct's fields
pub typed_below : (table : Table) (fields : List NameWithType) (ts : List ℕ) → AllBelow table ts
    → AllBelow table (map (λ field. field.type) (typed_fields fields ts))
unfolding typed_fields
typed_below table [] ts h = all_nil table
typed_below table (field ∷ fields) [] h = all_nil table
typed_below table (field ∷ fields) (t ∷ ts) h =
    all_cons table t (map (λ f. f.type) (typed_fields fields ts)) (h t (Memᴰ.head refl)) (typed_below table fields ts (λ u named. h u (Memᴰ.tail named)))
