-- What the reads of the table give, by what the row of a type is. Assumes nothing.
use Prim.Native.Nat.{ℕ, ◌+◌, ◌-◌, ◌≤◌, ◌<◌, zero-le}
use mathlib.Core.Path.{◌≡◌, refl, sym, ap, subst, ◌∙◌}
use mathlib.Core.List.{List, [], ◌∷◌}
use Rattle.std.specs.Prelude.{Option, None, Some, unwrap_or}
use Rattle.std.specs.Option.{MatchOption, option_map}
use Rattle.std.specs.Bool.{then_some}
use mathlib.Core.Bool.{Bool, true, false}
use native.Mathlib.Omega.{arith}
use borrow.Author.Tests.{eq-eqb, ne_eqb, eqb-true, eqb-false}
use lib.Dec.{eqb}
use Rattle.std.specs.Prelude.{slice_get}
use lib.ListN.{length}
use borrow.Enum.Refused.{Among}
use denote.Enum.Declared.{tag_of}
use Rattle.std.specs.Prelude.{if◌then◌else◌}
use Rattle.model.specs.Common.{let_some}
use Rattle.records.specs.Layout.{item_value, numbers_at}
use Rattle.records.proofs.Lists.{each_begun, each_unroll, each_ended}
use Rattle.resolution.specs.Types.{Table, error, data_of, is_u32_or_felt, as_tuple, as_array, as_pointer, as_struct, as_function}
use Rattle.resolution.specs.Views.{numeric, navigate, element_contexts}
use Rattle.type_table.specs.declared.TypeList.{TypeList}
use Rattle.type_table.specs.declared.Signature.{Signature}
use Rattle.type_table.specs.declared.TypeData.{TypeData as Row}
use Rattle.type_table.specs.Layout.{types_of, table_of, Sound}
use Rattle.type_table.specs.Meaning.{fields_in, data_is, list_of, no_types, found_types_of}
use Rattle.type_table.specs.Reads.{array_read, element_read, numeric_read}
use Rattle.type_table.specs.Promises.{Reads, Within, DataRead, TupleRead, SignatureRead, ContextsRead}
use Rattle.type_table.specs.contracts.TypeData.{the_type}
use Rattle.type_table.proofs.ByKind.{element_of, other_than_tuple, other_than_array, other_than_element, other_than_struct, other_than_function, u32_or_felt, other_than_u32_or_felt}

module _ {w : List ℕ} {t : ℕ} {row : Row} (r : DataRead w t row) where
  -- a list that a row holds lies within the items
  row_within : (file : List ℕ) → Sound file w → {row' : Row} → row ≡ row' → Within w (list_of row')
  row_within file sound e = subst (λ x. Within w (list_of x)) e (r.within file sound)

  pub tuple_found : {list : TypeList} → row ≡ Row.Tuple list → TupleRead w t (Some list)
  unfolding as_tuple
  tuple_found {list} e = record {
    same = λ file. ap (λ x. as_tuple (data_is file w x)) (sym e) ∙ ap as_tuple (r.same file);
    within = λ file sound list' h. let same : list ≡ list' = cc in subst (Within w) same (row_within file sound e);
  }

  pub tuple_absent : Among (0 ∷ 1 ∷ 2 ∷ 3 ∷ 4 ∷ 6 ∷ 7 ∷ 8 ∷ 9 ∷ []) (tag_of the_type row) → TupleRead w t None
  tuple_absent h = record {
    same = λ file. other_than_tuple file w row h ∙ ap as_tuple (r.same file);
    within = λ file sound list e. let z : ◌≡◌ {A = ℕ} 0 1 = cc in absurd (omega arith);
  }

  pub array_found : {u size : ℕ} → row ≡ Row.FixedArray u size → (file : List ℕ) → Reads file w (array_read t) (Some (record { element = u; size = size }))
  unfolding as_array array_read
  array_found e file = record { same = ap (λ x. as_array (data_is file w x)) (sym e) ∙ ap as_array (r.same file) }

  pub array_absent : Among (0 ∷ 1 ∷ 2 ∷ 3 ∷ 4 ∷ 5 ∷ 6 ∷ 8 ∷ 9 ∷ []) (tag_of the_type row) → (file : List ℕ) → Reads file w (array_read t) None
  unfolding array_read
  array_absent h file = record { same = other_than_array file w row h ∙ ap as_array (r.same file) }

  pub element_in_array : {u size : ℕ} → row ≡ Row.FixedArray u size → (file : List ℕ) → Reads file w (element_read t) u
  unfolding as_array element_read
  element_in_array e file = record { same = ap (λ x. element_of (data_is file w x)) (sym e) ∙ ap element_of (r.same file) }

  pub element_in_pointer : {u : ℕ} → row ≡ Row.Pointer u → (file : List ℕ) → Reads file w (element_read t) u
  unfolding as_array as_pointer element_read
  element_in_pointer e file = record { same = ap (λ x. element_of (data_is file w x)) (sym e) ∙ ap element_of (r.same file) }

  pub element_absent : Among (0 ∷ 1 ∷ 2 ∷ 3 ∷ 4 ∷ 5 ∷ 8 ∷ 9 ∷ []) (tag_of the_type row) → (file : List ℕ) → Reads file w (element_read t) error
  unfolding element_read
  element_absent h file = record { same = other_than_element file w row h ∙ ap element_of (r.same file) }

  pub struct_found : {m d : ℕ} {list : TypeList} → row ≡ Row.Struct m d list → (file : List ℕ) → Some (fields_in file w list) ≡ as_struct (data_of (table_of file w) t)
  unfolding as_struct
  struct_found e file = ap (λ x. as_struct (data_is file w x)) (sym e) ∙ ap as_struct (r.same file)

  pub struct_absent : Among (0 ∷ 1 ∷ 2 ∷ 3 ∷ 4 ∷ 5 ∷ 6 ∷ 7 ∷ 9 ∷ []) (tag_of the_type row) → (file : List ℕ) → None ≡ as_struct (data_of (table_of file w) t)
  struct_absent h file = other_than_struct file w row h ∙ ap as_struct (r.same file)

  pub signature_found : {m d u : ℕ} {list : TypeList} → row ≡ Row.Function m d list u → SignatureRead w t (Some (record { params = list; return_type = u }))
  unfolding as_function
  signature_found {list = list} e = record {
    same = λ file. ap (λ x. as_function (data_is file w x)) (sym e) ∙ ap as_function (r.same file);
    within = λ file sound signature h. subst (Within w) (ap (λ (o : Option Signature). let_some o list (λ s. s.params)) h) (row_within file sound e);
  }

  pub signature_absent : Among (0 ∷ 1 ∷ 2 ∷ 3 ∷ 4 ∷ 5 ∷ 6 ∷ 7 ∷ 8 ∷ []) (tag_of the_type row) → SignatureRead w t None
  signature_absent h = record {
    same = λ file. other_than_function file w row h ∙ ap as_function (r.same file);
    within = λ file sound signature e. let z : ◌≡◌ {A = ℕ} 0 1 = cc in absurd (omega arith);
  }

  pub numeric_found : Among (0 ∷ 2 ∷ []) (tag_of the_type row) → (file : List ℕ) → Reads file w (numeric_read t) (Some t)
  unfolding numeric_read numeric
  numeric_found h file = record {
    same = ap (λ b. if b then Some t else None) (sym (u32_or_felt file w row h)) ∙ ap (λ x. if is_u32_or_felt x then Some t else None) (r.same file);
  }

  pub numeric_absent : Among (1 ∷ 3 ∷ 4 ∷ 5 ∷ 6 ∷ 7 ∷ 8 ∷ 9 ∷ []) (tag_of the_type row) → (file : List ℕ) → Reads file w (numeric_read t) None
  unfolding numeric_read numeric
  numeric_absent h file = record {
    same = ap (λ b. if b then Some t else None) (sym (other_than_u32_or_felt file w row h)) ∙ ap (λ x. if is_u32_or_felt x then Some t else None) (r.same file);
  }

-- ------------------------------------------------------------------ one read behind another

-- what is there goes on, what is not ends
pub some_read : {A B : Type 0} {o p : Option A} {x : A} (b : B) (f : A → B) → o ≡ p → o ≡ Some x → f x ≡ let_some p b f
some_read b f same e = ap (λ o. let_some o b f) (sym e ∙ same)

pub none_read : {A B : Type 0} {o p : Option A} (b : B) (f : A → B) → o ≡ p → o ≡ None → b ≡ let_some p b f
none_read b f same e = ap (λ o. let_some o b f) (sym e ∙ same)

-- what is there, or another value
unwrapped : {A : Type 0} (o : Option A) (b : A) → unwrap_or o b ≡ let_some o b (λ x. x)
unwrapped None b = refl
unwrapped (Some x) b = refl

pub read_or : {A : Type 0} {o p : Option A} (b : A) → o ≡ p → unwrap_or o b ≡ let_some p b (λ x. x)
read_or {o = o} b same = unwrapped o b ∙ ap (λ o. let_some o b (λ x. x)) same

-- what `and_then` gives, where o stands for p, and the closure's result is f of what o holds
pub chained : {A A' B : Type 0} (m : A' → A) (f : A → Option B) (o : Option A') (r : Option B) {p : Option A}
    → option_map m o ≡ p → MatchOption o (r ≡ None) (λ x. r ≡ f (m x)) → r ≡ let_some p None f
chained m f None r same is = is ∙ ap (λ o. let_some o None f) same
chained m f (Some x) r same is = is ∙ ap (λ o. let_some o None f) same

-- what `map_or` gives
pub mapped_or : {A A' B : Type 0} (m : A' → A) (f : A → B) (b : B) (o : Option A') (r : B) {p : Option A}
    → option_map m o ≡ p → MatchOption o (r ≡ b) (λ x. r ≡ f (m x)) → r ≡ let_some p b f
mapped_or m f b None r same is = is ∙ ap (λ o. let_some o b f) same
mapped_or m f b (Some x) r same is = is ∙ ap (λ o. let_some o b f) same

-- what `and_then` gives with a default behind it
pub chained_or : {A A' B : Type 0} (m : A' → A) (f : A → Option B) (b : B) (o : Option A') (r : Option B) {p : Option A}
    → option_map m o ≡ p → MatchOption o (r ≡ None) (λ x. r ≡ f (m x)) → unwrap_or r b ≡ let_some p b (λ x. let_some (f x) b (λ y. y))
chained_or m f b o r {p} same is = ap (λ x. unwrap_or x b) (chained m f o r same is) ∙ go p
  where
    go : (p : Option _) → unwrap_or (let_some p None f) b ≡ let_some p b (λ x. let_some (f x) b (λ y. y))
    go None = refl
    go (Some x) = unwrapped (f x) b

module _ (w : List ℕ) (context : Option ℕ) (count : ℕ) where
  pub no_context : context ≡ None → ContextsRead w context count no_types
  unfolding element_contexts
  no_context e = record {
    same = λ file. ap (λ o. element_contexts (table_of file w) o count) (sym e);
    within = λ file sound. zero-le;
  }

  module _ {t : ℕ} {r : Option TypeList} (is : context ≡ Some t) (read : TupleRead w t r) where
    contexts_of : (file : List ℕ) → let_some (found_types_of w r) [] (λ ts. if eqb (length ts) count then ts else []) ≡ element_contexts (table_of file w) context count
    unfolding element_contexts
    contexts_of file =
        ap (λ o. let_some o [] (λ ts. if eqb (length ts) count then ts else [])) (read.same file) ∙ ap (λ o. element_contexts (table_of file w) o count) (sym is)

    pub no_tuple : r ≡ None → ContextsRead w context count no_types
    no_tuple e = record {
      same = λ file. ap (λ x. let_some (found_types_of w x) [] (λ ts. if eqb (length ts) count then ts else [])) (sym e) ∙ contexts_of file;
      within = λ file sound. zero-le;
    }

    module _ {list : TypeList} (e : r ≡ Some list) where
      found_contexts : (file : List ℕ) → (if eqb (length (types_of w list)) count then types_of w list else []) ≡ element_contexts (table_of file w) context count
      found_contexts file = ap (λ x. let_some (found_types_of w x) [] (λ ts. if eqb (length ts) count then ts else [])) (sym e) ∙ contexts_of file

      pub all_contexts : length (types_of w list) ≡ count → ContextsRead w context count list
      all_contexts same = record {
        same = λ file. ap (λ b. if b then types_of w list else []) (sym (eq-eqb _ _ same)) ∙ found_contexts file;
        within = λ file sound. read.within file sound list e;
      }

      pub other_count : (length (types_of w list) ≡ count → ⊥) → ContextsRead w context count no_types
      other_count other = record {
        same = λ file. ap (λ b. if b then types_of w list else []) (sym (ne_eqb _ _ other)) ∙ found_contexts file;
        within = λ file sound. zero-le;
      }

-- a context's elements, where they are as many
pub contexts_by : (w : List ℕ) (count : ℕ) (context : Option ℕ) (elements held : Option TypeList) → MatchOption context (elements ≡ None) (λ t. TupleRead w t elements)
    → MatchOption elements (held ≡ None) (λ list. held ≡ then_some (eqb (length (types_of w list)) count) list) → ContextsRead w context count (unwrap_or held no_types)
contexts_by w count None None held read is = subst (λ o. ContextsRead w None count (unwrap_or o no_types)) (sym is) (no_context w None count refl)
contexts_by w count None (Some list) held read is = absurd (let z : ◌≡◌ {A = ℕ} 0 1 = cc in omega arith)
contexts_by w count (Some t) None held read is = subst (λ o. ContextsRead w (Some t) count (unwrap_or o no_types)) (sym is) (no_tuple w (Some t) count refl read refl)
contexts_by w count (Some t) (Some list) held read is =
    subst (λ o. ContextsRead w (Some t) count (unwrap_or o no_types)) (sym is) (go (eqb (length (types_of w list)) count) refl)
  where
    go : (b : Bool) → eqb (length (types_of w list)) count ≡ b → ContextsRead w (Some t) count (unwrap_or (then_some b list) no_types)
    go true h = all_contexts w (Some t) count refl read refl (eqb-true _ _ h)
    go false h = other_count w (Some t) count refl read refl (eqb-false _ _ h)

-- ------------------------------------------------------------------ along a path

pub path_begun : (words : List ℕ) (table : Table) (at first count : ℕ) → navigate table at (numbers_at words first count) ≡ navigate table at (numbers_at words (first + 0) (count - 0))
unfolding numbers_at
path_begun words table at first count = ap (navigate table at) (each_begun (item_value words) first count)

pub path_end : (words : List ℕ) (table : Table) (at first count i : ℕ) → count ≤ i → navigate table at (numbers_at words (first + i) (count - i)) ≡ at
unfolding navigate numbers_at
path_end words table at first count i past = ap (navigate table at) (each_ended (item_value words) first count i past)

-- what is left of a path behind a type
abbrev pub path_from : List ℕ → Table → ℕ → ℕ → ℕ → ℕ → ℕ
path_from words table at first count i = navigate table at (numbers_at words (first + i) (count - i))

module _ (words : List ℕ) (table : Table) (at first count i : ℕ) (below : i < count) where
  path_apart : path_from words table at first count i
      ≡ let_some (as_tuple (data_of table at)) error (λ elements. let_some (slice_get elements (item_value words (first + i))) error (λ t. path_from words table t first count (i + 1)))
  unfolding navigate numbers_at
  path_apart = ap (navigate table at) (each_unroll (item_value words) first count i below)

  pub path_no_tuple : {o : Option (List ℕ)} → o ≡ as_tuple (data_of table at) → o ≡ None → error ≡ path_from words table at first count i
  path_no_tuple same e =
      none_read error (λ elements. let_some (slice_get elements (item_value words (first + i))) error (λ t. path_from words table t first count (i + 1))) same e ∙ sym path_apart

  module _ {o : Option (List ℕ)} {elements : List ℕ} (same : o ≡ as_tuple (data_of table at)) (e : o ≡ Some elements)
      {p : Option ℕ} {index : ℕ} (is : p ≡ slice_get elements index) (read : index ≡ item_value words (first + i)) where
    path_element : let_some p error (λ t. path_from words table t first count (i + 1)) ≡ path_from words table at first count i
    path_element =
        ap (λ x. let_some x error (λ t. path_from words table t first count (i + 1))) (is ∙ ap (slice_get elements) read)
        ∙ some_read error (λ elements. let_some (slice_get elements (item_value words (first + i))) error (λ t. path_from words table t first count (i + 1))) same e
        ∙ sym path_apart

    pub path_no_element : p ≡ None → error ≡ path_from words table at first count i
    path_no_element h = ap (λ x. let_some x error (λ t. path_from words table t first count (i + 1))) (sym h) ∙ path_element

    pub path_on : {t : ℕ} → p ≡ Some t → path_from words table at first count i ≡ path_from words table t first count (i + 1)
    path_on h = sym (ap (λ x. let_some x error (λ t. path_from words table t first count (i + 1))) (sym h) ∙ path_element)
