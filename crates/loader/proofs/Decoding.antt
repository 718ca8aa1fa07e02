-- The record that a word and the words behind it stand for is the one that the row's words hold: document 01's tables. Assumes nothing.
use Prim.Native.Nat.{ℕ, zero, suc, ◌+◌, ◌*◌, ◌≤◌}
use mathlib.Core.Path.{◌≡◌, refl, sym, ap, ap₂, ◌∙◌}
use mathlib.Core.List.{List, [], ◌∷◌, map}
use mathlib.Core.Bool.{true, false, not, false≢true}
use Rattle.std.specs.Prelude.{Option, None, Some}
use native.Mathlib.Omega.{arith}
use lib.Dec.{eqb}
use borrow.Author.Tests.{ne_eqb}
use lib.ListN.{length, length-map}
use Rattle.model.specs.Common.{Text}
use Rattle.model.specs.Limits.{max_items, type_expr_items, kind_items, node_items}
use Rattle.model.specs.Records.{TypeExpr, DefinitionKind, Expression, Question}
use Rattle.format.specs.declared.Kind.{Kind}
use Rattle.format.specs.declared.Listed.{Listed}
use Rattle.format.specs.declared.Shape.{Shape}
use Rattle.format.specs.declared.ScopeWord.{ScopeWord}
use Rattle.format.specs.declared.TypeWord.{TypeWord}
use Rattle.format.specs.declared.DefinitionWord.{DefinitionWord}
use Rattle.format.specs.declared.OriginWord.{OriginWord}
use Rattle.format.specs.declared.NodeWord.{NodeWord}
use Rattle.format.specs.declared.QuestionWord.{QuestionWord}
use Rattle.format.specs.Words.{word_at, unary_op_at, binary_op_at}
use Rattle.format.specs.Fields.{only_if}
use Rattle.format.specs.Tails as tails
use Rattle.format.specs.Shapes.{
  num,
  maybe_num,
  maybe_txt,
  nums,
  maybe_nums,
  fields,
  scope_as,
  type_shape,
  type_as,
  path_ok,
  definition_shape,
  definition_as,
  origin_shape,
  origin_as,
  node_shape,
  node_as,
  question_shape,
  question_as,
}
use Rattle.records.specs.Layout.{each, link_by, name_by, suffix_by, start_of, length_of, size_by, option_at, item_value, numbers_at, links_at, names_with_types_at, scope_kind_by, type_expr_by, definition_kind_by, origin_by, unary_op_by, binary_op_by, expression_by, question_by}
use Rattle.records.proofs.Lists.{each_same}
use Rattle.records.proofs.Packing.{start_packed, length_packed}
use Rattle.records.proofs.Stores.{Listed as WithinItems, ListedNode}
use Rattle.loader.specs.Values.{Words, parts, linked, named, value_by}
use Rattle.loader.specs.Items.{item_row, items_by}
use Rattle.loader.specs.Numbers.{scope_number, type_number, definition_number, origin_number, node_number, question_number}
use Rattle.loader.specs.Lines.{tail_by, TailHeld, last_word, scope_fits, path_fits}
use Rattle.loader.specs.declared.rows.Tail.{Tail}

positive : (n : ℕ) → eqb (suc n) 0 ≡ false
positive n = ne_eqb (suc n) 0 (λ e. omega arith)

-- ------------------------------------------------------------------ links and names that may be missing

pub linked_is : (o : Option ℕ) → maybe_num (linked o) ≡ o
linked_is None = refl
linked_is (Some n) = refl

named_is : (o : Option Text) → maybe_txt (named o) ≡ o
named_is None = refl
named_is (Some t) = refl

-- ------------------------------------------------------------------ lists

map_each : {A B : Type 0} (f : A → B) (g : ℕ → A) (first count : ℕ) → map f (each g first count) ≡ each (λ i. f (g i)) first count
unfolding each
map_each f g first zero = refl
map_each f g first (suc count) = ap (λ l. f (g first) ∷ l) (map_each f g (suc first) count)

module _ (file words : List ℕ) (first count : ℕ) where
  nums_by : nums (items_by Listed.Numbers file words first count) ≡ numbers_at words first count
  unfolding items_by numbers_at
  nums_by = map_each (λ (i : tails.Item). num i.first) (item_row Listed.Numbers file words) first count

  maybe_nums_by : maybe_nums (items_by Listed.MaybeNumbers file words first count) ≡ links_at words first count
  unfolding items_by links_at
  maybe_nums_by =
      map_each (λ (i : tails.Item). maybe_num i.first) (item_row Listed.MaybeNumbers file words) first count
      ∙ each_same (λ i. maybe_num (linked (link_by (item_value words i)))) (λ i. link_by (item_value words i)) first count (λ i a b. linked_is (link_by (item_value words i)))

  fields_by : fields (items_by Listed.Fields file words first count) ≡ names_with_types_at file words first count
  unfolding items_by names_with_types_at
  fields_by = map_each _ (item_row Listed.Fields file words) first count

-- where a list's word says that it is
module _ (first count list : ℕ) (low : first ≤ 2048) (is : list ≡ first + 65536 * count) where
  starts : start_of list ≡ first
  starts = ap start_of is ∙ start_packed first count (omega arith)

  has_length : length_of list ≡ count
  has_length = ap length_of is ∙ length_packed first count (omega arith)

  pub within : WithinItems (first + count) list
  within = omega (arith, starts, has_length)

-- ------------------------------------------------------------------ a value and its row

-- the record that was read is the row's, if there is room for its items
pub record RowOf {A : Type 0} (value : A) (items : A → ℕ) (count : ℕ) (Few : Type 0) (row : A) : Type 0 where
  pub counts : items value ≡ count
  pub held : Few → value ≡ row

-- of one that may not have been read
pub record RowRead {A : Type 0} (read : Option A) (items : A → ℕ) (count : ℕ) (Few : Type 0) (row : A) : Type 0 where
  pub value : A
  pub is : read ≡ Some value
  pub counts : items value ≡ count
  pub held : Few → value ≡ row

module _ (file words t : List ℕ) (first : ℕ) (x : Tail) (low : first ≤ 2048) where
  abbrev Few : Type 0
  Few = first + x.items.count ≤ max_items

  -- a list that was read, and the one that its word says
  module _ {s : Shape} (h : TailHeld file words s t first x) where
    word_is : Few → x.list ≡ first + 65536 * x.items.count
    word_is few = h.packed (omega arith)

    pub list_within : Few → WithinItems (first + x.items.count) x.list
    list_within few = within first x.items.count x.list low (word_is few)

    few_starts : Few → start_of x.list ≡ first
    few_starts few = starts first x.items.count x.list low (word_is few)

    few_length : Few → length_of x.list ≡ x.items.count
    few_length few = has_length first x.items.count x.list low (word_is few)

    nums_held : s.list ≡ Listed.Numbers → Few → nums h.list ≡ numbers_at words (start_of x.list) (length_of x.list)
    nums_held e few =
        ap nums (h.held few ∙ ap (λ l. items_by l file words first x.items.count) e)
        ∙ nums_by file words first x.items.count
        ∙ ap₂ (numbers_at words) (sym (few_starts few)) (sym (few_length few))

    maybe_nums_held : s.list ≡ Listed.MaybeNumbers → Few → maybe_nums h.list ≡ links_at words (start_of x.list) (length_of x.list)
    maybe_nums_held e few =
        ap maybe_nums (h.held few ∙ ap (λ l. items_by l file words first x.items.count) e)
        ∙ maybe_nums_by file words first x.items.count
        ∙ ap₂ (links_at words) (sym (few_starts few)) (sym (few_length few))

    fields_held : s.list ≡ Listed.Fields → Few → fields h.list ≡ names_with_types_at file words (start_of x.list) (length_of x.list)
    fields_held e few =
        ap fields (h.held few ∙ ap (λ l. items_by l file words first x.items.count) e)
        ∙ fields_by file words first x.items.count
        ∙ ap₂ (names_with_types_at file words) (sym (few_starts few)) (sym (few_length few))

    counted : {A : Type 0} (f : tails.Item → A) → length (map f h.list) ≡ x.items.count
    counted f = length-map h.list f ∙ h.counts

  -- ---------------------------------------------------------------- T

  pub type_row : (w : TypeWord) (h : TailHeld file words (type_shape w) t first x)
      → RowOf (type_as w (tail_by file (type_shape w) x h.list)) type_expr_items x.items.count Few (type_expr_by file words (type_number w) (parts x.a).low (parts x.b).low (last_word (type_shape w) x))
  unfolding type_as type_expr_items type_expr_by option_at
  type_row TypeWord.Felt h = record { counts = sym (h.none refl); held = λ few. refl }
  type_row TypeWord.Bool h = record { counts = sym (h.none refl); held = λ few. refl }
  type_row TypeWord.U32 h = record { counts = sym (h.none refl); held = λ few. refl }
  type_row TypeWord.Custom h = record { counts = sym (h.none refl); held = λ few. refl }
  type_row TypeWord.Ptr h = record { counts = sym (h.none refl); held = λ few. refl }
  type_row TypeWord.Tuple h = record { counts = counted h _; held = λ few. ap TypeExpr.Tuple (nums_held h refl few) }
  type_row TypeWord.Array h = record { counts = sym (h.none refl); held = λ few. refl }

  pub type_listed : (w : TypeWord) → TailHeld file words (type_shape w) t first x → Few → type_number w ≡ 5 → WithinItems (first + x.items.count) (last_word (type_shape w) x)
  type_listed TypeWord.Felt h few e = omega arith
  type_listed TypeWord.Bool h few e = omega arith
  type_listed TypeWord.U32 h few e = omega arith
  type_listed TypeWord.Custom h few e = omega arith
  type_listed TypeWord.Ptr h few e = omega arith
  type_listed TypeWord.Tuple h few e = list_within h few
  type_listed TypeWord.Array h few e = omega arith

  -- ---------------------------------------------------------------- D

  path_is : (v : ℕ) (list : List ℕ) → path_ok (maybe_num (linked (link_by v))) list ≡ path_fits DefinitionWord.Let v (length list)
  path_is zero [] = refl
  path_is zero (k ∷ ks) = sym (positive (length ks))
  path_is (suc v) list = λ i. elim (sym (positive v) i) [ true ↦ eqb (length list) 0 | false ↦ true ]

  abbrev let_of : {s : Shape} → TailHeld file words s t first x → DefinitionKind
  let_of h = DefinitionKind.Let (maybe_num (linked (link_by (parts x.a).low))) (maybe_num (linked (link_by (parts x.b).low))) (maybe_num (linked (link_by (parts x.c).low))) (nums h.list)

  -- a let's path
  path_held : {s : Shape} (h : TailHeld file words s t first x) → path_ok (maybe_num (linked (link_by (parts x.c).low))) (nums h.list) ≡ path_fits DefinitionWord.Let (parts x.c).low x.items.count
  path_held h = path_is (parts x.c).low (nums h.list) ∙ ap (path_fits DefinitionWord.Let (parts x.c).low) (counted h _)

  pub definition_kind_row : (w : DefinitionWord) (h : TailHeld file words (definition_shape w) t first x) → path_fits w (parts x.c).low x.items.count ≡ true
      → RowRead (definition_as w (tail_by file (definition_shape w) x h.list)) kind_items x.items.count Few (definition_kind_by file words (definition_number w) (parts x.a).low (parts x.b).low (parts x.c).low x.list)
  unfolding definition_as kind_items definition_kind_by option_at
  definition_kind_row DefinitionWord.Fn h path = record { value = _; is = refl; counts = counted h _; held = λ few. ap (DefinitionKind.Function (parts x.a).low) (fields_held h refl few) }
  definition_kind_row DefinitionWord.Struct h path = record { value = _; is = refl; counts = counted h _; held = λ few. ap DefinitionKind.Struct (fields_held h refl few) }
  definition_kind_row DefinitionWord.Const h path =
      record { value = _; is = refl; counts = sym (h.none refl); held = λ few. ap₂ DefinitionKind.Const (linked_is (link_by (parts x.a).low)) (linked_is (link_by (parts x.b).low)) }
  definition_kind_row DefinitionWord.Let h path =
      record {
        value = let_of h;
        is = ap (λ b. only_if b (let_of h)) (path_held h ∙ path);
        counts = counted h _;
        held = λ few. (λ i. DefinitionKind.Let (linked_is (link_by (parts x.a).low) i) (linked_is (link_by (parts x.b).low) i) (linked_is (link_by (parts x.c).low) i) (nums_held h refl few i));
      }
  definition_kind_row DefinitionWord.Param h path = record { value = _; is = refl; counts = sym (h.none refl); held = λ few. refl }
  definition_kind_row DefinitionWord.Use h path = record { value = _; is = refl; counts = sym (h.none refl); held = λ few. refl }
  definition_kind_row DefinitionWord.Loop h path = record { value = DefinitionKind.LoopVariable; is = refl; counts = sym (h.none refl); held = λ few. refl }

  pub definition_path_lost : (w : DefinitionWord) (h : TailHeld file words (definition_shape w) t first x) → path_fits w (parts x.c).low x.items.count ≡ false → definition_as w (tail_by file (definition_shape w) x h.list) ≡ None
  unfolding definition_as
  definition_path_lost DefinitionWord.Fn h path = absurd (false≢true (sym path))
  definition_path_lost DefinitionWord.Struct h path = absurd (false≢true (sym path))
  definition_path_lost DefinitionWord.Const h path = absurd (false≢true (sym path))
  definition_path_lost DefinitionWord.Let h path = ap (λ b. only_if b (let_of h)) (path_held h ∙ path)
  definition_path_lost DefinitionWord.Param h path = absurd (false≢true (sym path))
  definition_path_lost DefinitionWord.Use h path = absurd (false≢true (sym path))
  definition_path_lost DefinitionWord.Loop h path = absurd (false≢true (sym path))

  -- ---------------------------------------------------------------- E

  unary_is : (n : ℕ) → unary_op_at n ≡ unary_op_by n
  unfolding unary_op_at unary_op_by word_at option_at
  unary_is zero = refl
  unary_is (suc zero) = refl
  unary_is (suc (suc n)) = refl

  binary_is : (n : ℕ) → binary_op_at n ≡ binary_op_by n
  unfolding binary_op_at binary_op_by word_at option_at
  binary_is zero = refl
  binary_is (suc zero) = refl
  binary_is (suc (suc zero)) = refl
  binary_is (suc (suc (suc zero))) = refl
  binary_is (suc (suc (suc (suc zero)))) = refl
  binary_is (suc (suc (suc (suc (suc zero))))) = refl
  binary_is (suc (suc (suc (suc (suc (suc zero)))))) = refl
  binary_is (suc (suc (suc (suc (suc (suc (suc zero))))))) = refl
  binary_is (suc (suc (suc (suc (suc (suc (suc (suc zero)))))))) = refl
  binary_is (suc (suc (suc (suc (suc (suc (suc (suc (suc zero))))))))) = refl
  binary_is (suc (suc (suc (suc (suc (suc (suc (suc (suc (suc zero)))))))))) = refl
  binary_is (suc (suc (suc (suc (suc (suc (suc (suc (suc (suc (suc zero))))))))))) = refl
  binary_is (suc (suc (suc (suc (suc (suc (suc (suc (suc (suc (suc (suc zero)))))))))))) = refl
  binary_is (suc (suc (suc (suc (suc (suc (suc (suc (suc (suc (suc (suc (suc zero))))))))))))) = refl
  binary_is (suc (suc (suc (suc (suc (suc (suc (suc (suc (suc (suc (suc (suc (suc zero)))))))))))))) = refl
  binary_is (suc (suc (suc (suc (suc (suc (suc (suc (suc (suc (suc (suc (suc (suc (suc zero))))))))))))))) = refl
  binary_is (suc (suc (suc (suc (suc (suc (suc (suc (suc (suc (suc (suc (suc (suc (suc (suc n)))))))))))))))) = refl

  pub node_row : (w : NodeWord) (h : TailHeld file words (node_shape w) t first x)
      → RowOf (node_as w (tail_by file (node_shape w) x h.list)) node_items x.items.count Few (expression_by file words (node_number w) (parts x.a).low (parts x.b).low (last_word (node_shape w) x))
  unfolding node_as node_items expression_by option_at
  node_row NodeWord.Lit h = record { counts = sym (h.none refl); held = λ few. ap Expression.Literal (named_is (suffix_by file (parts x.a).low)) }
  node_row NodeWord.Bool h = record { counts = sym (h.none refl); held = λ few. refl }
  node_row NodeWord.Ident h = record { counts = sym (h.none refl); held = λ few. refl }
  node_row NodeWord.Un h = record { counts = sym (h.none refl); held = λ few. ap₂ Expression.Unary (unary_is (parts x.a).low) (linked_is (link_by (parts x.b).low)) }
  node_row NodeWord.Bin h =
      record { counts = sym (h.none refl); held = λ few. (λ i. Expression.Binary (binary_is (parts x.a).low i) (linked_is (link_by (parts x.b).low) i) (linked_is (link_by (parts x.c).low) i)) }
  node_row NodeWord.Call h = record { counts = counted h _; held = λ few. ap₂ Expression.FunctionCall (linked_is (link_by (parts x.a).low)) (maybe_nums_held h refl few) }
  node_row NodeWord.Member h = record { counts = sym (h.none refl); held = λ few. ap (λ e. Expression.MemberAccess e (name_by file (parts x.b).low)) (linked_is (link_by (parts x.a).low)) }
  node_row NodeWord.Index h = record { counts = sym (h.none refl); held = λ few. ap₂ Expression.IndexAccess (linked_is (link_by (parts x.a).low)) (linked_is (link_by (parts x.b).low)) }
  node_row NodeWord.Slit h = record { counts = sym (h.none refl); held = λ few. refl }
  node_row NodeWord.Tuple h = record { counts = counted h _; held = λ few. ap Expression.Tuple (maybe_nums_held h refl few) }
  node_row NodeWord.Tidx h = record { counts = sym (h.none refl); held = λ few. ap (λ e. Expression.TupleIndex e (parts x.b).low) (linked_is (link_by (parts x.a).low)) }
  node_row NodeWord.Arr h = record { counts = counted h _; held = λ few. ap Expression.ArrayLiteral (maybe_nums_held h refl few) }
  node_row NodeWord.Rep h = record { counts = sym (h.none refl); held = λ few. ap (λ e. Expression.ArrayRepeat e (size_by (parts x.b).low (parts x.b).high)) (linked_is (link_by (parts x.a).low)) }
  node_row NodeWord.Cast h = record { counts = sym (h.none refl); held = λ few. refl }
  node_row NodeWord.New h = record { counts = sym (h.none refl); held = λ few. ap (Expression.New (parts x.a).low) (linked_is (link_by (parts x.b).low)) }
  node_row NodeWord.Paren h = record { counts = sym (h.none refl); held = λ few. ap Expression.Parenthesized (linked_is (link_by (parts x.a).low)) }

  pub node_listed : (w : NodeWord) → TailHeld file words (node_shape w) t first x → Few → ListedNode (first + x.items.count) (node_number w) (last_word (node_shape w) x)
  node_listed NodeWord.Lit h few = omega arith
  node_listed NodeWord.Bool h few = omega arith
  node_listed NodeWord.Ident h few = omega arith
  node_listed NodeWord.Un h few = omega arith
  node_listed NodeWord.Bin h few = omega arith
  node_listed NodeWord.Call h few = record { call = λ e. list_within h few; tuple = λ e. list_within h few; array = λ e. list_within h few }
  node_listed NodeWord.Member h few = omega arith
  node_listed NodeWord.Index h few = omega arith
  node_listed NodeWord.Slit h few = omega arith
  node_listed NodeWord.Tuple h few = record { call = λ e. list_within h few; tuple = λ e. list_within h few; array = λ e. list_within h few }
  node_listed NodeWord.Tidx h few = omega arith
  node_listed NodeWord.Arr h few = record { call = λ e. list_within h few; tuple = λ e. list_within h few; array = λ e. list_within h few }
  node_listed NodeWord.Rep h few = omega arith
  node_listed NodeWord.Cast h few = omega arith
  node_listed NodeWord.New h few = omega arith
  node_listed NodeWord.Paren h few = omega arith

  pub definition_listed : {s : Shape} (k : ℕ) → TailHeld file words s t first x → Few → k ≤ 3 → WithinItems (first + x.items.count) x.list
  definition_listed k h few e = list_within h few

  -- ---------------------------------------------------------------- Q

  pub question_row_is : (w : QuestionWord) (h : TailHeld file words (question_shape w) t first x)
      → question_as w (tail_by file (question_shape w) x h.list) ≡ question_by (question_number w) (parts x.a).low (parts x.b).low (parts x.c).low
  unfolding question_as question_by option_at
  question_row_is QuestionWord.Expr h = ap (Question.expr (parts x.a).low (parts x.b).low) (linked_is (link_by (parts x.c).low))
  question_row_is QuestionWord.Def h = refl
  question_row_is QuestionWord.OfType h = refl
  question_row_is QuestionWord.At h = refl

  -- no question has a list
  pub question_none : (w : QuestionWord) → TailHeld file words (question_shape w) t first x → x.items.count ≡ 0
  question_none QuestionWord.Expr h = h.none refl
  question_none QuestionWord.Def h = h.none refl
  question_none QuestionWord.OfType h = h.none refl
  question_none QuestionWord.At h = h.none refl

-- ------------------------------------------------------------------ origins and scopes

pub origin_row_is : (file : Text) (w : OriginWord) (a b c : Words) (rest : Text)
    → origin_as w (record { a = value_by (origin_shape w).a file a; b = value_by (origin_shape w).b file b; c = value_by Kind.Nothing file c; rest = rest })
    ≡ origin_by file (origin_number w) a.low b.low
unfolding origin_as origin_by option_at
origin_row_is file OriginWord.Plain a b c rest = refl
origin_row_is file OriginWord.Field a b c rest = refl
origin_row_is file OriginWord.Arg a b c rest = refl
origin_row_is file OriginWord.Assign a b c rest = refl
origin_row_is file OriginWord.Return a b c rest = refl
origin_row_is file OriginWord.Cond a b c rest = refl

pub scope_row_is : (w : ScopeWord) (parent : ℕ) → scope_fits parent w ≡ true → scope_as (maybe_num (linked (link_by parent))) w ≡ Some (record { parent = link_by parent; kind = scope_kind_by (scope_number w) })
unfolding scope_as scope_kind_by option_at
scope_row_is ScopeWord.Module zero e = refl
scope_row_is ScopeWord.Module (suc p) e = absurd (false≢true (sym (positive p) ∙ e))
scope_row_is ScopeWord.Function zero e = absurd (false≢true e)
scope_row_is ScopeWord.Function (suc p) e = refl
scope_row_is ScopeWord.Block zero e = absurd (false≢true e)
scope_row_is ScopeWord.Block (suc p) e = refl
scope_row_is ScopeWord.Loop zero e = absurd (false≢true e)
scope_row_is ScopeWord.Loop (suc p) e = refl

pub scope_lost : (w : ScopeWord) (parent : ℕ) → scope_fits parent w ≡ false → scope_as (maybe_num (linked (link_by parent))) w ≡ None
unfolding scope_as
scope_lost ScopeWord.Module zero e = absurd (false≢true (sym e))
scope_lost ScopeWord.Module (suc p) e = refl
scope_lost ScopeWord.Function zero e = refl
scope_lost ScopeWord.Function (suc p) e = absurd (false≢true (sym e ∙ ap not (positive p)))
scope_lost ScopeWord.Block zero e = refl
scope_lost ScopeWord.Block (suc p) e = absurd (false≢true (sym e ∙ ap not (positive p)))
scope_lost ScopeWord.Loop zero e = refl
scope_lost ScopeWord.Loop (suc p) e = absurd (false≢true (sym e ∙ ap not (positive p)))

-- ------------------------------------------------------------------ the numbers of words

pub origin_small : (w : OriginWord) → origin_number w ≤ 5
origin_small OriginWord.Plain = omega arith
origin_small OriginWord.Field = omega arith
origin_small OriginWord.Arg = omega arith
origin_small OriginWord.Assign = omega arith
origin_small OriginWord.Return = omega arith
origin_small OriginWord.Cond = omega arith

pub node_small : (w : NodeWord) → node_number w ≤ 15
node_small NodeWord.Lit = omega arith
node_small NodeWord.Bool = omega arith
node_small NodeWord.Ident = omega arith
node_small NodeWord.Un = omega arith
node_small NodeWord.Bin = omega arith
node_small NodeWord.Call = omega arith
node_small NodeWord.Member = omega arith
node_small NodeWord.Index = omega arith
node_small NodeWord.Slit = omega arith
node_small NodeWord.Tuple = omega arith
node_small NodeWord.Tidx = omega arith
node_small NodeWord.Arr = omega arith
node_small NodeWord.Rep = omega arith
node_small NodeWord.Cast = omega arith
node_small NodeWord.New = omega arith
node_small NodeWord.Paren = omega arith
