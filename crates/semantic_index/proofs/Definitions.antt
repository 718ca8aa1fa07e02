-- The tests at a definition, and where the searches through a module's rows begin. Assumes nothing.
use mathlib.Core.Path.{◌≡◌, sym, ap, ap₂, ◌∙◌}
use mathlib.Core.Bool.{Bool, true, false, not, ◌&&◌, ◌||◌}
use Prim.Native.Nat.{ℕ, ◌+◌}
use mathlib.Core.List.{List}
use Rattle.std.specs.Prelude.{Option, None, Some, MatchOption}
use lib.Dec.{eqb, leb}
use lib.ListN.{length}
use Rattle.model.specs.Common.{let_some, first, last, eq_numbers}
use Rattle.model.specs.Records.{Name, Definition, ExpressionInfo, Module}
use Rattle.model.specs.Lookups.{
  expression_at,
  module_named,
  module_by_name,
  without_parent,
  root_scope,
  scope_chain,
  named,
  latest_definition_index_by_name,
  is_top_level_allowed,
  let_value,
  covered,
  in_let_initializer,
  in_order,
  visible_at,
  named_and_visible,
  latest_visible_by_name,
  is_function,
  among,
  function_around,
  first_function_around,
}
use Rattle.records.specs.Layout.{
  each,
  begin_of,
  count_of,
  scope_rows,
  definition_rows,
  module_count,
  scope_row,
  definition_row,
  rows_of,
  module_row,
  index_of,
}
use Rattle.records.proofs.Lists.{each_length, some_and}
use Rattle.records.proofs.Searches.{each_from}
use Rattle.records.specs.Meaning.{definition_link_of, expression_link_of, info_of, found_expression_of}
use Rattle.records.specs.declared.ExpressionId.{ExpressionId}
use Rattle.records.specs.declared.ExpressionInfo.{ExpressionInfo as Info}
use Rattle.semantic_index.proofs.Searches.{first_from, first_begin}

-- ------------------------------------------------------------------ a definition of the name in the scope

module _ (s : ℕ) (name : Name) (definition : Definition) (x : ℕ) (is : x ≡ definition.scope) where
  module _ (b : Bool) (same : b ≡ eqb x s) where
    in_scope : b ≡ eqb definition.scope s
    in_scope = same ∙ ap (λ x. eqb x s) is

    pub other_scope : b ≡ false → b ≡ named s name definition
    unfolding named
    other_scope h = h ∙ ap (λ b. b && eq_numbers definition.name name) (sym h ∙ in_scope)

    pub same_scope : (n : Name) (c : Bool) → b ≡ true → n ≡ definition.name → c ≡ eq_numbers n name → c ≡ named s name definition
    unfolding named
    same_scope n c h called e =
        e ∙ ap (λ n. eq_numbers n name) called ∙ ap (λ b. b && eq_numbers definition.name name) (sym h ∙ in_scope)

-- ------------------------------------------------------------------ visibility

abbrev recorded : Option ExpressionInfo → Option ℕ
recorded o = let_some o None (λ expression. expression.definition)

module _ (file words : List ℕ) (r : Option Info) (o : Option ExpressionInfo) (is : found_expression_of file words r ≡ o) where
  pub recorded_absent : r ≡ None → None ≡ recorded o
  recorded_absent h = ap (λ r. recorded (found_expression_of file words r)) (sym h) ∙ ap recorded is

  pub recorded_found : (x : Info) → r ≡ Some x → definition_link_of x.definition ≡ recorded o
  recorded_found x h = ap (λ r. recorded (found_expression_of file words r)) (sym h) ∙ ap recorded is

  -- what `is_some_and` says of the record, whose closure compares the spans
  pub covered_by : (start end : ℕ) (P : Info → Type 0) (b : Bool) → MatchOption r (b ≡ false) P
      → ((x : Info) → P x → b ≡ (leb x.span.start start && leb end x.span.end)) → b ≡ covered o start end
  unfolding covered
  covered_by start end P b answer tests =
      some_and (info_of file words) (λ init. leb init.start start && leb end init.end) P r b answer tests ∙ ap (λ o. covered o start end) is

module _ (the_module : Module) (definition : Definition) (start end : ℕ) (l : Option ExpressionId) (is : expression_link_of l ≡ let_value definition.kind) where
  abbrev value_covers : Option ℕ → Bool
  value_covers o = let_some o false (λ e. covered (expression_at the_module e) start end)

  pub initializer_by : (P : ExpressionId → Type 0) (b : Bool) → MatchOption l (b ≡ false) P
      → ((x : ExpressionId) → P x → b ≡ covered (expression_at the_module x.0) start end) → b ≡ in_let_initializer the_module definition start end
  unfolding in_let_initializer
  initializer_by P b answer tests =
      some_and (λ e. e.0) (λ e. covered (expression_at the_module e) start end) P l b answer tests ∙ ap value_covers is

module _ (definition : Definition) (start : ℕ) (b : Bool) (is : b ≡ is_top_level_allowed definition.kind) where
  pub allowed : b ≡ true → b ≡ in_order definition start
  unfolding in_order
  allowed h = h ∙ ap (λ b. b || leb definition.full_start start) (sym h ∙ is)

  pub not_allowed : b ≡ false → leb definition.full_start start ≡ in_order definition start
  unfolding in_order
  not_allowed h = ap (λ b. b || leb definition.full_start start) (sym h ∙ is)

module _ (the_module : Module) (definition : Definition) (start end : ℕ) (b : Bool) (is : b ≡ in_order definition start) where
  pub not_visible : b ≡ false → b ≡ visible_at the_module definition start end
  unfolding visible_at
  not_visible h = h ∙ ap (λ b. b && not (in_let_initializer the_module definition start end)) (sym h ∙ is)

  pub maybe_visible : (c : Bool) → b ≡ true → c ≡ in_let_initializer the_module definition start end → not c ≡ visible_at the_module definition start end
  unfolding visible_at
  maybe_visible c h e = ap not e ∙ ap (λ b. b && not (in_let_initializer the_module definition start end)) (sym h ∙ is)

module _ (the_module : Module) (s : ℕ) (name : Name) (start end : ℕ) (definition : Definition) (b : Bool) (is : b ≡ named s name definition) where
  pub not_named : b ≡ false → b ≡ named_and_visible the_module s name start end definition
  unfolding named_and_visible
  not_named h = h ∙ ap (λ b. b && visible_at the_module definition start end) (sym h ∙ is)

  pub named_visible : (c : Bool) (d : Definition) → b ≡ true → d ≡ definition → c ≡ visible_at the_module d start end
      → c ≡ named_and_visible the_module s name start end definition
  unfolding named_and_visible
  named_visible c d h same e =
      e ∙ ap (λ d. visible_at the_module d start end) same ∙ ap (λ b. b && visible_at the_module definition start end) (sym h ∙ is)

-- ------------------------------------------------------------------ a function around a scope

module _ (the_module : Module) (s : ℕ) (definition : Definition) (b : Bool) (is : b ≡ is_function definition.kind) where
  pub no_function : b ≡ false → false ≡ function_around the_module s definition
  unfolding function_around
  no_function h = ap (λ b. b && among definition.scope (scope_chain the_module s)) (sym h ∙ is)

  pub a_function : (x : ℕ) (c : Bool) → b ≡ true → x ≡ definition.scope → among x (scope_chain the_module s) ≡ c → c ≡ function_around the_module s definition
  unfolding function_around
  a_function x c h in_scope e =
      sym e
      ∙ ap (λ x. among x (scope_chain the_module s)) in_scope
      ∙ ap (λ b. b && among definition.scope (scope_chain the_module s)) (sym h ∙ is)

-- ------------------------------------------------------------------ what the searches find

module _ (file words : List ℕ) (m from count : ℕ) (begins : from ≡ begin_of words m definition_rows) (counts : count ≡ count_of words m definition_rows) where
  pub named_found : (s : ℕ) (name : Name) (r : Option ℕ) → r ≡ last (named s name) (each (λ d. definition_row file words (from + d)) 0 count)
      → r ≡ latest_definition_index_by_name (module_row file words m) s name
  unfolding latest_definition_index_by_name module_row rows_of
  named_found s name r e =
      e
      ∙ ap (last (named s name)) (each_from (definition_row file words) from count)
      ∙ ap₂ (λ a n. last (named s name) (each (definition_row file words) a n)) begins counts

  pub visible_found : (s : ℕ) (name : Name) (start end : ℕ) (r : Option ℕ)
      → r ≡ last (named_and_visible (module_row file words m) s name start end) (each (λ d. definition_row file words (from + d)) 0 count)
      → r ≡ latest_visible_by_name (module_row file words m) s name start end
  unfolding latest_visible_by_name module_row rows_of
  visible_found s name start end r e =
      e
      ∙ ap (last (named_and_visible (module_row file words m) s name start end)) (each_from (definition_row file words) from count)
      ∙ ap₂ (λ a n. last (named_and_visible (module_row file words m) s name start end) (each (definition_row file words) a n)) begins counts

  pub function_begin : (s : ℕ)
      → first_function_around (module_row file words m) s ≡ first_from (function_around (module_row file words m) s) (definition_row file words) from count 0
  unfolding first_function_around module_row rows_of
  function_begin s =
      ap₂ (λ a n. first (function_around (module_row file words m) s) (each (definition_row file words) a n)) (sym begins) (sym counts)
      ∙ first_begin (function_around (module_row file words m) s) (definition_row file words) from count

pub root_found : (file words : List ℕ) (m from count : ℕ) → from ≡ begin_of words m scope_rows → count ≡ count_of words m scope_rows
    → (r : Option ℕ) → r ≡ first without_parent (each (λ s. scope_row words (from + s)) 0 count) → r ≡ root_scope (module_row file words m)
unfolding root_scope module_row rows_of
root_found file words m from count begins counts r e =
    e
    ∙ ap (first without_parent) (each_from (scope_row words) from count)
    ∙ ap₂ (λ a n. first without_parent (each (scope_row words) a n)) begins counts

pub module_found : (file words : List ℕ) (name : Name) (count : ℕ) → count ≡ length (index_of file words).modules
    → (r : Option ℕ) → r ≡ first (module_named name) (each (module_row file words) 0 count) → r ≡ module_by_name (index_of file words) name
unfolding module_by_name index_of
module_found file words name count counts r e =
    e ∙ ap (λ n. first (module_named name) (each (module_row file words) 0 n)) (counts ∙ each_length (module_row file words) 0 (module_count words))

pub module_test : (file words : List ℕ) (name n : Name) (m : ℕ) (b : Bool) → n ≡ (module_row file words m).name → b ≡ eq_numbers n name
    → b ≡ module_named name (module_row file words m)
unfolding module_named
module_test file words name n m b called e = e ∙ ap (λ n. eq_numbers n name) called
