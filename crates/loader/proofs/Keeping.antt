-- What holds before each line holds behind it. Assumes nothing.
use Prim.Native.Nat.{ℕ, zero, suc, ◌+◌, ◌≤◌, ◌<◌}
use mathlib.Core.Path.{◌≡◌, refl, sym, ap, ap₂, subst, ◌∙◌}
use mathlib.Core.List.{List, [], ◌∷◌, ◌++◌}
use mathlib.Core.Bool.{true, ◌&&◌}
use native.Mathlib.Nat.{not-suc-le-zero}
use native.Mathlib.Omega.{arith}
use lib.Dec.{leb, ltb}
use lib.ListN.{length, length-append}
use Rattle.model.specs.Common.{Text, total}
use Rattle.model.specs.Limits.{max_items, scope_count, type_expr_count, definition_count, expression_count, item_count, type_expr_items, definition_items, expression_items, module_items}
use Rattle.model.specs.Records.{Name, Scope, TypeExpr, Definition, ExpressionInfo, Module, Question, Index}
use Rattle.model.proofs.Tests.{leb_le, ltb_lt, and_left, and_right}
use Rattle.format.specs.declared.LineWord.{LineWord}
use Rattle.format.specs.Lines.{entry_items, a_module, a_scope, a_type, a_definition, an_expression, a_question}
use Rattle.format.specs.FirstPass.{empty_module, with_scope, with_type, with_definition, with_expression, on_last, add, has_line_room, in_place}
use Rattle.records.specs.Layout.{module_place, question_row, begin_of, scope_rows, type_expr_rows, definition_rows, expression_rows}
use Rattle.records.specs.Promises.{Same}
use Rattle.records.proofs.Lists.{each_length}
use Rattle.loader.specs.State.{module_so_far, index_so_far, row_entry, BeginsAt, Begins, Left, Fine, HasRoom, counts_after, has_room}
use Rattle.loader.specs.Lines.{LineHeld}
use Rattle.loader.specs.Steps.{Counted, BeginsWithin, Good}
use Rattle.loader.specs.declared.items.ItemsRead.{ItemsRead}
use Rattle.loader.specs.declared.rows.Counts.{Counts}
use Rattle.loader.proofs.Leaving.{left_then, left_fewer, fewer_after}
use Rattle.loader.proofs.Advancing.{Open, Ready, row_added}

-- ------------------------------------------------------------------ counting

total_snoc : {A : Type 0} (f : A → ℕ) (xs : List A) (x : A) → total f (xs ++ (x ∷ [])) ≡ total f xs + f x
unfolding total
total_snoc f [] x = omega arith
total_snoc f (y ∷ xs) x = omega (arith, total_snoc f xs x)

-- the last of some modules has k more
total_last : (f : Module → ℕ) (g : Module → Module) (k : ℕ) → ((m : Module) → f (g m) ≡ f m + k) → (ms : List Module) → 1 ≤ length ms → total f (on_last g ms) ≡ total f ms + k
unfolding on_last total
total_last f g k more [] h = absurd (not-suc-le-zero h)
total_last f g k more (m ∷ []) h = omega (arith, more m)
total_last f g k more (m ∷ m' ∷ ms) h = omega (arith, total_last f g k more (m' ∷ ms) (omega arith))

one_more : {A : Type 0} (xs : List A) (x : A) → length (xs ++ (x ∷ [])) ≡ length xs + 1
one_more xs x = length-append xs (x ∷ [])

none_more : (n : ℕ) → n ≡ n + 0
none_more n = omega arith

abbrev scopes_of : Module → ℕ
scopes_of m = length m.scopes

abbrev types_of : Module → ℕ
types_of m = length m.types

abbrev definitions_of : Module → ℕ
definitions_of m = length m.definitions

abbrev expressions_of : Module → ℕ
expressions_of m = length m.expressions

-- the counts of an index with one entry more
module _ (n : Counts) (index : Index) (c : Counted n index) where
  counted_module : (name : Name) (count : ℕ) → entry_items (a_module name) ≡ count → Counted (counts_after LineWord.M n count) (add (a_module name) index)
  unfolding add entry_items scope_count type_expr_count definition_count expression_count item_count total
  counted_module name count e =
      let ms = index.modules in
      record {
        scopes = total_snoc scopes_of ms (empty_module name) ∙ sym (none_more _) ∙ c.scopes;
        types = total_snoc types_of ms (empty_module name) ∙ sym (none_more _) ∙ c.types;
        definitions = total_snoc definitions_of ms (empty_module name) ∙ sym (none_more _) ∙ c.definitions;
        expressions = total_snoc expressions_of ms (empty_module name) ∙ sym (none_more _) ∙ c.expressions;
        items = total_snoc module_items ms (empty_module name) ∙ ap₂ ◌+◌ c.items e;
      }

  counted_question : (r : Question) (count : ℕ) → entry_items (a_question r) ≡ count → Counted (counts_after LineWord.Q n count) (add (a_question r) index)
  unfolding add entry_items scope_count type_expr_count definition_count expression_count item_count
  counted_question r count e =
      record { scopes = c.scopes; types = c.types; definitions = c.definitions; expressions = c.expressions; items = none_more _ ∙ ap₂ ◌+◌ c.items e }

  module _ (some_module : 1 ≤ length index.modules) where
    counted_scope : (r : Scope) (count : ℕ) → entry_items (a_scope r) ≡ count → Counted (counts_after LineWord.S n count) (add (a_scope r) index)
    unfolding add entry_items scope_count type_expr_count definition_count expression_count item_count
    counted_scope r count e =
        let ms = index.modules in
        let g = with_scope r in
        record {
          scopes = total_last scopes_of g 1 (λ m. one_more m.scopes r) ms some_module ∙ ap (λ k. k + 1) c.scopes;
          types = total_last types_of g 0 (λ m. none_more _) ms some_module ∙ sym (none_more _) ∙ c.types;
          definitions = total_last definitions_of g 0 (λ m. none_more _) ms some_module ∙ sym (none_more _) ∙ c.definitions;
          expressions = total_last expressions_of g 0 (λ m. none_more _) ms some_module ∙ sym (none_more _) ∙ c.expressions;
          items = total_last module_items g 0 (λ m. none_more _) ms some_module ∙ ap₂ ◌+◌ c.items e;
        }

    counted_type : (r : TypeExpr) (count : ℕ) → entry_items (a_type r) ≡ count → Counted (counts_after LineWord.T n count) (add (a_type r) index)
    unfolding add entry_items scope_count type_expr_count definition_count expression_count item_count
    counted_type r count e =
        let ms = index.modules in
        let g = with_type r in
        record {
          scopes = total_last scopes_of g 0 (λ m. none_more _) ms some_module ∙ sym (none_more _) ∙ c.scopes;
          types = total_last types_of g 1 (λ m. one_more m.types r) ms some_module ∙ ap (λ k. k + 1) c.types;
          definitions = total_last definitions_of g 0 (λ m. none_more _) ms some_module ∙ sym (none_more _) ∙ c.definitions;
          expressions = total_last expressions_of g 0 (λ m. none_more _) ms some_module ∙ sym (none_more _) ∙ c.expressions;
          items = total_last module_items g (type_expr_items r) (λ m. omega (arith, total_snoc type_expr_items m.types r)) ms some_module ∙ ap₂ ◌+◌ c.items e;
        }

    counted_definition : (r : Definition) (count : ℕ) → entry_items (a_definition r) ≡ count → Counted (counts_after LineWord.D n count) (add (a_definition r) index)
    unfolding add entry_items scope_count type_expr_count definition_count expression_count item_count
    counted_definition r count e =
        let ms = index.modules in
        let g = with_definition r in
        record {
          scopes = total_last scopes_of g 0 (λ m. none_more _) ms some_module ∙ sym (none_more _) ∙ c.scopes;
          types = total_last types_of g 0 (λ m. none_more _) ms some_module ∙ sym (none_more _) ∙ c.types;
          definitions = total_last definitions_of g 1 (λ m. one_more m.definitions r) ms some_module ∙ ap (λ k. k + 1) c.definitions;
          expressions = total_last expressions_of g 0 (λ m. none_more _) ms some_module ∙ sym (none_more _) ∙ c.expressions;
          items = total_last module_items g (definition_items r) (λ m. omega (arith, total_snoc definition_items m.definitions r)) ms some_module ∙ ap₂ ◌+◌ c.items e;
        }

    counted_expression : (r : ExpressionInfo) (count : ℕ) → entry_items (an_expression r) ≡ count → Counted (counts_after LineWord.E n count) (add (an_expression r) index)
    unfolding add entry_items scope_count type_expr_count definition_count expression_count item_count
    counted_expression r count e =
        let ms = index.modules in
        let g = with_expression r in
        record {
          scopes = total_last scopes_of g 0 (λ m. none_more _) ms some_module ∙ sym (none_more _) ∙ c.scopes;
          types = total_last types_of g 0 (λ m. none_more _) ms some_module ∙ sym (none_more _) ∙ c.types;
          definitions = total_last definitions_of g 0 (λ m. none_more _) ms some_module ∙ sym (none_more _) ∙ c.definitions;
          expressions = total_last expressions_of g 1 (λ m. one_more m.expressions r) ms some_module ∙ ap (λ k. k + 1) c.expressions;
          items = total_last module_items g (expression_items r) (λ m. omega (arith, total_snoc expression_items m.expressions r)) ms some_module ∙ ap₂ ◌+◌ c.items e;
        }

  counted_row : (file words : List ℕ) (w : LineWord) (count : ℕ) → n.modules ≡ length index.modules → Ready w words n → entry_items (row_entry w file words n) ≡ count
      → Counted (counts_after w n count) (add (row_entry w file words n) index)
  unfolding row_entry
  counted_row file words LineWord.M count many ready e = counted_module _ count e
  counted_row file words LineWord.S count many ready e = counted_scope (omega (arith, many, ready.is_last)) _ count e
  counted_row file words LineWord.T count many ready e = counted_type (omega (arith, many, ready.is_last)) _ count e
  counted_row file words LineWord.D count many ready e = counted_definition (omega (arith, many, ready.is_last)) _ count e
  counted_row file words LineWord.E count many ready e = counted_expression (omega (arith, many, ready.is_last)) _ count e
  counted_row file words LineWord.Q count many ready e = counted_question _ count e

-- ------------------------------------------------------------------ room for a line

module _ (version : ℕ) {file words : List ℕ} (n : Counts) (good : Good file words n) where
  pub modules_many : n.modules ≡ length (index_so_far version file words n).modules
  unfolding index_so_far
  modules_many = sym (each_length (module_so_far file words n) 0 n.modules)

  pub questions_many : length (index_so_far version file words n).questions ≡ n.questions
  unfolding index_so_far
  questions_many = each_length (question_row words) 0 n.questions

  pub room_is : (w : LineWord) → has_line_room w (index_so_far version file words n) ≡ has_room w n
  unfolding has_line_room index_so_far
  room_is LineWord.M = ap (λ k. ltb k 8) (each_length (module_so_far file words n) 0 n.modules)
  room_is LineWord.S = ap (λ k. ltb k 128) (good.counted version).scopes
  room_is LineWord.T = ap (λ k. ltb k 512) (good.counted version).types
  room_is LineWord.D = ap (λ k. ltb k 256) (good.counted version).definitions
  room_is LineWord.E = ap (λ k. ltb k 512) (good.counted version).expressions
  room_is LineWord.Q = ap (λ k. ltb k 256) (each_length (question_row words) 0 n.questions)

pub has_room_for : (w : LineWord) (n : Counts) → has_room w n ≡ true → HasRoom w n
has_room_for LineWord.M n e = ltb_lt n.modules 8 e
has_room_for LineWord.S n e = ltb_lt n.scopes 128 e
has_room_for LineWord.T n e = ltb_lt n.types 512 e
has_room_for LineWord.D n e = ltb_lt n.definitions 256 e
has_room_for LineWord.E n e = ltb_lt n.expressions 512 e
has_room_for LineWord.Q n e = ltb_lt n.questions 256 e

-- ------------------------------------------------------------------ what a line stands on

module _ (words words' : List ℕ) where
  -- where the rows of a module begin is left
  begin_left : (m n : ℕ) → Same words words' (module_place 0) (module_place n) → m < n → (k : ℕ) → k < 8 → begin_of words' m k ≡ begin_of words m k
  begin_left m n same h k low = same (module_place m + k) (omega arith) (omega arith)

  within_left : (m : ℕ) (n : Counts) (modules : ℕ) → Same words words' (module_place 0) (module_place modules) → m < modules → BeginsWithin words m n → BeginsWithin words' m n
  within_left m n modules same h b =
      record {
        scopes = subst (λ k. k ≤ n.scopes) (sym (begin_left m modules same h scope_rows (omega arith))) b.scopes;
        types = subst (λ k. k ≤ n.types) (sym (begin_left m modules same h type_expr_rows (omega arith))) b.types;
        definitions = subst (λ k. k ≤ n.definitions) (sym (begin_left m modules same h definition_rows (omega arith))) b.definitions;
        expressions = subst (λ k. k ≤ n.expressions) (sym (begin_left m modules same h expression_rows (omega arith))) b.expressions;
      }

  open_left : (n : Counts) (modules : ℕ) → n.modules ≤ modules → Same words words' (module_place 0) (module_place modules) → Open words n → Open words' n
  open_left n modules most same o =
      record { last = o.last; is_last = o.is_last; begins = within_left o.last n modules same (omega (arith, o.is_last, most)) o.begins }

  pub ready_left : (w : LineWord) (n : Counts) (count : ℕ) → Left (counts_after w n count) words words' → Ready w words n → Ready w words' n
  ready_left LineWord.M n count left b =
      record {
        scopes = begin_left n.modules (n.modules + 1) left.modules (omega arith) scope_rows (omega arith) ∙ b.scopes;
        types = begin_left n.modules (n.modules + 1) left.modules (omega arith) type_expr_rows (omega arith) ∙ b.types;
        definitions = begin_left n.modules (n.modules + 1) left.modules (omega arith) definition_rows (omega arith) ∙ b.definitions;
        expressions = begin_left n.modules (n.modules + 1) left.modules (omega arith) expression_rows (omega arith) ∙ b.expressions;
      }
  ready_left LineWord.S n count left o = open_left n n.modules (omega arith) left.modules o
  ready_left LineWord.T n count left o = open_left n n.modules (omega arith) left.modules o
  ready_left LineWord.D n count left o = open_left n n.modules (omega arith) left.modules o
  ready_left LineWord.E n count left o = open_left n n.modules (omega arith) left.modules o
  ready_left LineWord.Q n count left o = tt

-- a line in its place has a module before it
module _ {file words : List ℕ} (n : Counts) (good : Good file words n) where
  open_here : (most : ℕ) → most ≤ 5 → (leb 1 n.stage && leb n.stage most) ≡ true → Open words n
  open_here most low e = of n.modules refl (good.staged first (omega (arith, second)))
    where
      first : 1 ≤ n.stage
      first = leb_le 1 n.stage (and_left (leb 1 n.stage) (leb n.stage most) e)

      second : n.stage ≤ most
      second = leb_le n.stage most (and_right (leb 1 n.stage) (leb n.stage most) e)

      of : (k : ℕ) → n.modules ≡ k → 1 ≤ n.modules → Open words n
      of zero q h = absurd (none n.modules q h)
        where
          none : (k : ℕ) → k ≡ 0 → 1 ≤ k → ⊥
          none k q h = omega arith
      of (suc m) q h = record { last = m; is_last = q; begins = good.begun m q }

  ready_here : (w : LineWord) → in_place w n.stage ≡ true → Begins w words n → Ready w words n
  ready_here LineWord.M e b = b
  ready_here LineWord.S e b = open_here 2 (omega arith) e
  ready_here LineWord.T e b = open_here 3 (omega arith) e
  ready_here LineWord.D e b = open_here 4 (omega arith) e
  ready_here LineWord.E e b = open_here 5 (omega arith) e
  ready_here LineWord.Q e b = tt

-- ------------------------------------------------------------------ behind a line

module _ {file words words' : List ℕ} (n : Counts) (good : Good file words n) (w : LineWord) (t : Text) (read : ItemsRead) (room : HasRoom w n)
    (left : Left n words words') (line : LineHeld w file words' n t read) (few : n.items + read.count ≤ max_items) where
  -- the index so far is left
  pub same_index : (version : ℕ) → index_so_far version file words' n ≡ index_so_far version file words n
  same_index version = good.steady version words' left

  pub entry_is : line.entry ≡ row_entry w file words' n
  entry_is = line.held few

  module _ (placed : in_place w n.stage ≡ true) where
    ready : Ready w words' n
    ready = of w placed line.begins
      where
        opened : Open words n → Open words' n
        opened o = open_left words words' n n.modules (omega arith) left.modules o

        of : (v : LineWord) → in_place v n.stage ≡ true → Begins v words' n → Ready v words' n
        of LineWord.M e b = b
        of LineWord.S e b = opened (ready_here n good LineWord.S e tt)
        of LineWord.T e b = opened (ready_here n good LineWord.T e tt)
        of LineWord.D e b = opened (ready_here n good LineWord.D e tt)
        of LineWord.E e b = opened (ready_here n good LineWord.E e tt)
        of LineWord.Q e b = tt

    pub index_after : (version : ℕ) → index_so_far version file words' (counts_after w n read.count) ≡ add line.entry (index_so_far version file words n)
    index_after version = row_added version file words' n read.count w ready ∙ ap₂ add (sym entry_is) (same_index version)

    fine_after : Fine file words' (counts_after w n read.count)
    fine_after = of w room
      where
        f : Fine file words n
        f = good.fine

        long : length words' ≡ 16384
        long = left.long ∙ f.room

        of : (v : LineWord) → HasRoom v n → Fine file words' (counts_after v n read.count)
        of LineWord.M r = omega (arith, f, long, few, r)
        of LineWord.S r = omega (arith, f, long, few, r)
        of LineWord.T r = omega (arith, f, long, few, r)
        of LineWord.D r = omega (arith, f, long, few, r)
        of LineWord.E r = omega (arith, f, long, few, r)
        of LineWord.Q r = omega (arith, f, long, few, r)

    counted_after : (version : ℕ) → Counted (counts_after w n read.count) (index_so_far version file words' (counts_after w n read.count))
    counted_after version =
        subst (Counted (counts_after w n read.count)) (sym (index_after version ∙ ap (λ e. add e (index_so_far version file words n)) entry_is))
        (counted_row n (index_so_far version file words n) (good.counted version) file words' w read.count (modules_many version n good) ready (ap entry_items (sym entry_is) ∙ line.counts))

    begun_after : (m : ℕ) → (counts_after w n read.count).modules ≡ suc m → BeginsWithin words' m (counts_after w n read.count)
    begun_after = of w ready
      where
        -- the module is an older one
        older : (v : LineWord) → (m : ℕ) → n.modules ≡ suc m → BeginsWithin words' m (counts_after v n read.count)
        older v m q =
            let f = fewer_after v n read.count in
            let b = within_left words words' m n n.modules left.modules (omega (arith, q)) (good.begun m q) in
            record {
              scopes = omega (arith, b.scopes, f.scopes);
              types = omega (arith, b.types, f.types);
              definitions = omega (arith, b.definitions, f.definitions);
              expressions = omega (arith, b.expressions, f.expressions);
            }

        new : BeginsAt words' n.modules n → (m : ℕ) → n.modules + 1 ≡ suc m → BeginsWithin words' m (counts_after LineWord.M n read.count)
        new b m q =
            let here : n.modules ≡ m = omega (arith, q) in
            subst (λ k. BeginsWithin words' k (counts_after LineWord.M n read.count)) here
            (record { scopes = omega (arith, b.scopes); types = omega (arith, b.types); definitions = omega (arith, b.definitions); expressions = omega (arith, b.expressions) })

        of : (v : LineWord) → Ready v words' n → (m : ℕ) → (counts_after v n read.count).modules ≡ suc m → BeginsWithin words' m (counts_after v n read.count)
        of LineWord.M r m q = new r m q
        of LineWord.S r m q = older LineWord.S m q
        of LineWord.T r m q = older LineWord.T m q
        of LineWord.D r m q = older LineWord.D m q
        of LineWord.E r m q = older LineWord.E m q
        of LineWord.Q r m q = older LineWord.Q m q

    staged_after : 1 ≤ (counts_after w n read.count).stage → (counts_after w n read.count).stage ≤ 5 → 1 ≤ (counts_after w n read.count).modules
    staged_after = of w ready
      where
        of : (v : LineWord) → Ready v words' n → 1 ≤ (counts_after v n read.count).stage → (counts_after v n read.count).stage ≤ 5 → 1 ≤ (counts_after v n read.count).modules
        of LineWord.M r a b = omega arith
        of LineWord.S r a b = omega (arith, r.is_last)
        of LineWord.T r a b = omega (arith, r.is_last)
        of LineWord.D r a b = omega (arith, r.is_last)
        of LineWord.E r a b = omega (arith, r.is_last)
        of LineWord.Q r a b = absurd (past b)
          where
            past : 6 ≤ 5 → ⊥
            past h = omega arith

    steady_after : (version : ℕ) (words'' : List ℕ) → Left (counts_after w n read.count) words' words'' → index_so_far version file words'' (counts_after w n read.count) ≡ index_so_far version file words' (counts_after w n read.count)
    steady_after version words'' l =
        row_added version file words'' n read.count w (ready_left words' words'' w n read.count l ready)
        ∙ ap₂ add (line.stays few words'' l)
        (good.steady version words'' (left_then left (left_fewer (fewer_after w n read.count) l)) ∙ sym (same_index version))
        ∙ sym (row_added version file words' n read.count w ready)

    pub good_after : Good file words' (counts_after w n read.count)
    good_after = record { fine = fine_after; counted = counted_after; begun = begun_after; staged = staged_after; steady = steady_after }
