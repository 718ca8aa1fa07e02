-- A list of a record is no longer than the limit of items over the whole file. Assumes nothing.
use Rattle.model.proofs.Tests.{some-injective}
use Rattle.std.specs.Prelude.{Option}
use mathlib.Core.Path.{◌≡◌, sym, ap, subst, ◌∙◌}
use mathlib.Core.Bool.{Bool, true, false}
use Prim.Native.Nat.{ℕ, zero, suc, ◌≤◌}
use native.Mathlib.Omega.{arith}
use mathlib.Core.List.{List, [], ◌∷◌}
use Rattle.std.specs.Prelude.{None, Some}
use Rattle.std.specs.Prelude.{slice_get}
use lib.ListN.{length}
use Rattle.std.specs.Prelude.{if◌then◌else◌}
use Rattle.model.specs.Common.{total}
use Rattle.model.specs.Records as model
use Rattle.model.specs.Lookups.{module_at}
use Rattle.model.specs.Limits.{item_count, module_items, type_expr_items, kind_items, node_items, definition_items, expression_items}
use Rattle.model.proofs.Tests.{some-injective}
use Rattle.records.specs.Layout.{index_of, module_row, item_value, link_by, numbers_at, links_at, names_with_types_at, name_with_type_row}
use Rattle.records.specs.Meaning.{type_expr_of, found_type_expr_of, definition_kind_of, found_definition_of, expression_of, info_of, found_expression_of}
use Rattle.records.proofs.Lists.{each_length}
use Rattle.records.specs.declared.TypeExpr.{TypeExpr}
use Rattle.records.specs.declared.Definition.{Definition}
use Rattle.records.specs.declared.DefinitionKind.{DefinitionKind}
use Rattle.records.specs.declared.Expression.{Expression}
use Rattle.records.specs.declared.ExpressionInfo.{ExpressionInfo}
use Rattle.records.specs.declared.Items.{Items}
use Rattle.type_resolution.specs.State.{Ready}
use Rattle.type_resolution.specs.Shapes.{ShortType, ShortNode}
use Rattle.type_resolution.specs.Leaves.{TypeIn, DefinitionIn, ExpressionIn}

-- ------------------------------------------------------------------ one of many

at_most_total : {A : Type 0} (count : A → ℕ) (l : List A) (i : ℕ) (x : A) → Some x ≡ slice_get l i → count x ≤ total count l
unfolding total
at_most_total count [] i x e = let z : ◌≡◌ {A = ℕ} 0 1 = cc in absurd (omega arith)
at_most_total count (y ∷ l) zero x e = let same = ap count (some-injective e) in omega (arith, same)
at_most_total count (y ∷ l) (suc i) x e = let rest = at_most_total count l i x e in omega (arith, rest)

module _ {X : Type 0} (file words : List ℕ) (few : item_count (index_of file words) ≤ 2048) (m : ℕ) (records : model.Module → List X) (count : X → ℕ)
    (counted : (home : model.Module) → total count (records home) ≤ module_items home) where
  -- the items of a record that a module has
  short_by : (there : Bool) (n : ℕ) (x : X) → module_at (index_of file words) m ≡ (if there then Some (module_row file words m) else None)
      → Some x ≡ (if there then slice_get (records (module_row file words m)) n else None) → count x ≤ 2048
  unfolding item_count
  short_by false n x e h = let z : ◌≡◌ {A = ℕ} 0 1 = cc in absurd (omega arith)
  short_by true n x e h =
      let one = at_most_total count (records (module_row file words m)) n x h in
      let all = counted (module_row file words m) in
      let home = at_most_total module_items (index_of file words).modules m (module_row file words m) (sym e) in
      omega (arith, one, all, home, few)

-- ------------------------------------------------------------------ lengths

numbers_length : (words : List ℕ) (list : Items) → length (numbers_at words list.first list.count) ≡ list.count
unfolding numbers_at
numbers_length words list = each_length (item_value words) list.first list.count

pub links_length : (words : List ℕ) (first count : ℕ) → length (links_at words first count) ≡ count
unfolding links_at
links_length words first count = each_length (λ i. link_by (item_value words i)) first count

pub names_length : (file words : List ℕ) (first count : ℕ) → length (names_with_types_at file words first count) ≡ count
unfolding names_with_types_at
names_length file words first count = each_length (name_with_type_row file words) first count

-- ------------------------------------------------------------------ by kind

type_short : (file words : List ℕ) (x : TypeExpr) → type_expr_items (type_expr_of file words x) ≤ 2048 → ShortType x
unfolding type_expr_items
type_short file words TypeExpr.Felt le = tt
type_short file words TypeExpr.Bool le = tt
type_short file words TypeExpr.U32 le = tt
type_short file words (TypeExpr.Custom name) le = tt
type_short file words (TypeExpr.Pointer t) le = tt
type_short file words (TypeExpr.Tuple list) le = subst (λ n. n ≤ 2048) (numbers_length words list) le
type_short file words (TypeExpr.FixedArray t size) le = tt

node_short : (file words : List ℕ) (x : Expression) → node_items (expression_of file words x) ≤ 2048 → ShortNode x
unfolding node_items
node_short file words (Expression.Literal suffix) le = tt
node_short file words Expression.BooleanLiteral le = tt
node_short file words (Expression.Identifier name) le = tt
node_short file words (Expression.Unary op e) le = tt
node_short file words (Expression.Binary op left right) le = tt
node_short file words (Expression.FunctionCall callee list) le = tt
node_short file words (Expression.MemberAccess object field) le = tt
node_short file words (Expression.IndexAccess array index) le = tt
node_short file words (Expression.StructLiteral name span) le = tt
node_short file words (Expression.Tuple list) le = subst (λ n. n ≤ 2048) (links_length words list.first list.count) le
node_short file words (Expression.TupleIndex tuple index) le = tt
node_short file words (Expression.ArrayLiteral list) le = tt
node_short file words (Expression.ArrayRepeat element size) le = tt
node_short file words (Expression.Cast t) le = tt
node_short file words (Expression.New t count) le = tt
node_short file words (Expression.Parenthesized inner) le = tt

struct_short : (file words : List ℕ) (kind : DefinitionKind) (list : Items) → kind ≡ DefinitionKind.Struct list
    → kind_items (definition_kind_of file words kind) ≤ 2048 → list.count ≤ 2048
unfolding kind_items
struct_short file words kind list is le =
    subst (λ n. n ≤ 2048) (names_length file words list.first list.count) (subst (λ k. kind_items (definition_kind_of file words k) ≤ 2048) is le)

function_short : (file words : List ℕ) (kind : DefinitionKind) (u : ℕ) (list : Items) → kind ≡ DefinitionKind.Function u list
    → kind_items (definition_kind_of file words kind) ≤ 2048 → list.count ≤ 2048
unfolding kind_items
function_short file words kind u list is le =
    subst (λ n. n ≤ 2048) (names_length file words list.first list.count) (subst (λ k. kind_items (definition_kind_of file words k) ≤ 2048) is le)

-- ------------------------------------------------------------------ for callers

module _ {file words : List ℕ} {depth : ℕ} {T : List ℕ} {O : List (List ℕ)} (ok : Ready file words depth T O) where
  pub short_type : {m t : ℕ} {r : Option TypeExpr} {x : TypeExpr} → TypeIn words m t r → r ≡ Some x → ShortType x
  short_type {m} {t} {x = x} i h =
      type_short file words x
      (short_by file words ok.few m (λ home. home.types) type_expr_items (λ home. omega arith) i.there t (type_expr_of file words x)
      (i.module_is file) (sym (ap (found_type_expr_of file words) h) ∙ i.same file))

  pub short_node : {m e : ℕ} {r : Option ExpressionInfo} {x : ExpressionInfo} → ExpressionIn words m e r → r ≡ Some x → ShortNode x.node
  short_node {m} {e} {x = x} i h =
      node_short file words x.node
      (short_by file words ok.few m (λ home. home.expressions) expression_items (λ home. omega arith) i.there e (info_of file words x)
      (i.module_is file) (sym (ap (found_expression_of file words) h) ∙ i.same file))

  kind_short : {m d : ℕ} {r : Option Definition} {x : Definition} → DefinitionIn words m d r → r ≡ Some x → kind_items (definition_kind_of file words x.kind) ≤ 2048
  kind_short {m} {d} {x = x} i h =
      short_by file words ok.few m (λ home. home.definitions) definition_items (λ home. omega arith) i.there d _
      (i.module_is file) (sym (ap (found_definition_of file words) h) ∙ i.same file)

  pub short_fields : {m d : ℕ} {r : Option Definition} {x : Definition} {list : Items} → DefinitionIn words m d r → r ≡ Some x
      → x.kind ≡ DefinitionKind.Struct list → list.count ≤ 2048
  short_fields {x = x} {list} i h is = struct_short file words x.kind list is (kind_short i h)

  pub short_params : {m d : ℕ} {r : Option Definition} {x : Definition} {u : ℕ} {list : Items} → DefinitionIn words m d r → r ≡ Some x
      → x.kind ≡ DefinitionKind.Function u list → list.count ≤ 2048
  short_params {x = x} {u} {list} i h is = function_short file words x.kind u list is (kind_short i h)
