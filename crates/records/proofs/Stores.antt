-- For whoever writes the words: what a store leaves of the rows, and what the rows that it wrote hold. Assumes nothing.
use mathlib.Core.Path.{◌≡◌, refl, sym, ap, ◌∙◌}
use mathlib.Core.Logic.{◌⊎◌, inl, inr, ⊎_elim}
use Prim.Native.Nat.{ℕ, ◌+◌, ◌-◌, ◌/◌, ◌%◌, ◌≤◌, ◌<◌}
use native.Mathlib.Nat.{add-zero, not-suc-le-zero, eq-or-lt_of_le}
use native.Mathlib.Omega.{arith}
use mathlib.Core.List.{List, [], ◌∷◌, ◌++◌}
use mathlib.Core.Bool.{Bool, true, false}
use lib.Dec.{ltb}
use Rattle.model.proofs.Tests.{ltb_lt, ltb-false}
use lib.ListN.{length, set, length-set, length-append, get_or-append}
use lib.Seq.{get_or-set_same, get_or-set_other, get_or-append_seam, get_or-append-add}
use Rattle.model.specs.Records.{TypeExpr, DefinitionKind, Expression}
use Rattle.records.specs.Layout.{
  scope_place,
  type_expr_place,
  definition_place,
  expression_place,
  question_place,
  item_place,
  word,
  link_by,
  start_of,
  length_of,
  name_by,
  item_value,
  item_name,
  numbers_at,
  links_at,
  names_with_types_at,
  name_with_type_row,
  scope_kind_by,
  scope_row,
  type_expr_by,
  type_expr_row,
  definition_kind_by,
  definition_word,
  definition_row,
  origin_by,
  expression_by,
  expression_word,
  expression_row,
  question_by,
  question_row,
}
use Rattle.records.specs.Promises.{Put, Same}
use Rattle.records.proofs.Congruence.{ap₃, ap₄, ap₅}
use Rattle.records.proofs.Lists.{each_same}
use Rattle.records.proofs.Options.{no_more, ◌and◌, same, options_same}

-- ------------------------------------------------------------------ stores

pub put_nothing : (words : List ℕ) (at : ℕ) → Put words at [] words
put_nothing words at = record { long = refl; inside = λ k h. absurd (not-suc-le-zero h); outside = λ i h. refl }

module _ {words : List ℕ} {at : ℕ} {values words' : List ℕ} (i v : ℕ) (p : Put words at values words') (here : i ≡ at + length values) (room : i < length words) where
  more_length : length (values ++ (v ∷ [])) ≡ length values + 1
  more_length = length-append values (v ∷ [])

  more_old : (k : ℕ) → k < length values → word (set words' i v) (at + k) ≡ word (values ++ (v ∷ [])) k
  more_old k h =
      get_or-set_other words' i (at + k) v 0 (λ e. omega arith) ∙ p.inside k h ∙ sym (get_or-append values (v ∷ []) 0 k h)

  more_new : (k : ℕ) → k ≡ length values → word (set words' i v) (at + k) ≡ word (values ++ (v ∷ [])) k
  more_new k e =
      ap (λ n. word (set words' i v) n) (ap (λ n. at + n) e ∙ sym here)
      ∙ get_or-set_same words' i v 0 (let same = p.long in omega arith)
      ∙ sym (get_or-append_seam values v [] 0)
      ∙ ap (word (values ++ (v ∷ []))) (sym e)

  more_outside : (j : ℕ) → (j < at) ⊎ (at + length (values ++ (v ∷ [])) ≤ j) → (j ≡ i → ⊥) × ((j < at) ⊎ (at + length values ≤ j))
  more_outside j (inl lt) = (λ e. omega arith, inl lt)
  more_outside j (inr le) = let l = more_length in (λ e. omega arith, inr (omega arith))

  -- one word more
  pub put_more : Put words at (values ++ (v ∷ [])) (set words' i v)
  put_more = record {
    long = length-set words' i v ∙ p.long;
    inside = λ k h. let l = more_length in ⊎_elim (more_new k) (more_old k) (eq-or-lt_of_le (omega arith));
    outside = λ j h. get_or-set_other words' i j v 0 (more_outside j h).0 ∙ p.outside j (more_outside j h).1;
  }

pub lt_or_ge : (a b : ℕ) → (a < b) ⊎ (b ≤ a)
lt_or_ge a b = of (ltb a b) refl
  where
    of : (t : Bool) → ltb a b ≡ t → (a < b) ⊎ (b ≤ a)
    of true h = inl (ltb_lt a b h)
    of false h = inr (ltb-false a b h)

-- one store behind the other
pub put_append : {words : List ℕ} {at : ℕ} {values words' more words'' : List ℕ} → Put words at values words' → Put words' (at + length values) more words'' → Put words at (values ++ more) words''
put_append {words} {at} {values} {words'} {more} {words''} p q =
    record {
      long = q.long ∙ p.long;
      inside = λ k h. ⊎_elim (λ low. old k low) (λ high. new k (k - length values) (omega (arith, high)) (omega (arith, h, high, lengths))) (lt_or_ge k (length values));
      outside = λ i h. q.outside i (apart i h).0 ∙ p.outside i (apart i h).1;
    }
  where
    lengths : length (values ++ more) ≡ length values + length more
    lengths = length-append values more

    old : (k : ℕ) → k < length values → word words'' (at + k) ≡ word (values ++ more) k
    old k low = q.outside (at + k) (inl (omega arith)) ∙ p.inside k low ∙ sym (get_or-append values more 0 k low)

    new : (k j : ℕ) → k ≡ length values + j → j < length more → word words'' (at + k) ≡ word (values ++ more) k
    new k j e low =
        ap (word words'') (omega (arith, e)) ∙ q.inside j low ∙ sym (ap (word (values ++ more)) e ∙ get_or-append-add values more j 0)

    apart : (i : ℕ) → (i < at) ⊎ (at + length (values ++ more) ≤ i) → ((i < at + length values) ⊎ (at + length values + length more ≤ i)) × ((i < at) ⊎ (at + length values ≤ i))
    apart i (inl lt) = (inl (omega arith), inl lt)
    apart i (inr le) = (inr (omega (arith, lengths)), inr (omega (arith, lengths)))

-- ------------------------------------------------------------------ what the row holds that was put

module _ {words : List ℕ} {at : ℕ} {values words' : List ℕ} (p : Put words at values words') where
  first_put : 0 < length values → word words' at ≡ word values 0
  first_put h = ap (word words') (sym (add-zero at)) ∙ p.inside 0 h

pub scope_put : {words words' : List ℕ} (s parent kind : ℕ) → Put words (scope_place s) (parent ∷ kind ∷ []) words' → scope_row words' s ≡ record { parent = link_by parent; kind = scope_kind_by kind }
unfolding scope_row
scope_put s parent kind p = λ d. record {
  parent = ap link_by (first_put p (omega arith)) d;
  kind = ap scope_kind_by (p.inside 1 (omega arith)) d;
}

pub type_expr_put : {words words' : List ℕ} (file : List ℕ) (t kind a b c : ℕ) → Put words (type_expr_place t) (kind ∷ a ∷ b ∷ c ∷ []) words' → type_expr_row file words' t ≡ type_expr_by file words' kind a b c
unfolding type_expr_row
type_expr_put {words' = words'} file t kind a b c p =
    ap₄ (type_expr_by file words') (first_put p (omega arith)) (p.inside 1 (omega arith)) (p.inside 2 (omega arith)) (p.inside 3 (omega arith))

pub question_put : {words words' : List ℕ} (q kind m a b : ℕ) → Put words (question_place q) (kind ∷ m ∷ a ∷ b ∷ []) words' → question_row words' q ≡ question_by kind m a b
unfolding question_row
question_put q kind m a b p = ap₄ question_by (first_put p (omega arith)) (p.inside 1 (omega arith)) (p.inside 2 (omega arith)) (p.inside 3 (omega arith))

pub definition_put : {words words' : List ℕ} (file : List ℕ) (n kind scope name ns ne fs fe a b c d z : ℕ)
    → Put words (definition_place n) (kind ∷ scope ∷ name ∷ ns ∷ ne ∷ fs ∷ fe ∷ a ∷ b ∷ c ∷ d ∷ z ∷ []) words'
    → definition_row file words' n ≡ record { scope = scope; name = name_by file name; name_start = ns; name_end = ne; full_start = fs; full_end = fe; kind = definition_kind_by file words' kind a b c d }
unfolding definition_row
definition_put {words' = words'} file n kind scope name ns ne fs fe a b c d z p = λ i. record {
  scope = p.inside 1 (omega arith) i;
  name = ap (name_by file) (p.inside 2 (omega arith)) i;
  name_start = p.inside 3 (omega arith) i;
  name_end = p.inside 4 (omega arith) i;
  full_start = p.inside 5 (omega arith) i;
  full_end = p.inside 6 (omega arith) i;
  kind = ap₅ (definition_kind_by file words') (first_put p (omega arith)) (p.inside 7 (omega arith)) (p.inside 8 (omega arith)) (p.inside 9 (omega arith)) (p.inside 10 (omega arith)) i;
}

pub expression_put : {words words' : List ℕ} (file : List ℕ) (n kinds scope start end expected definition link value a b c : ℕ)
    → Put words (expression_place n) (kinds ∷ scope ∷ start ∷ end ∷ expected ∷ definition ∷ link ∷ value ∷ a ∷ b ∷ c ∷ []) words'
    → expression_row file words' n ≡ record { scope = scope; start = start; end = end; expected = link_by expected; definition = link_by definition; origin = origin_by file (kinds / 256) link value; node = expression_by file words' (kinds % 256) a b c }
unfolding expression_row
expression_put {words' = words'} file n kinds scope start end expected definition link value a b c p = λ i. record {
  scope = p.inside 1 (omega arith) i;
  start = p.inside 2 (omega arith) i;
  end = p.inside 3 (omega arith) i;
  expected = ap link_by (p.inside 4 (omega arith)) i;
  definition = ap link_by (p.inside 5 (omega arith)) i;
  origin = ap₃ (origin_by file) (ap (λ k. k / 256) (first_put p (omega arith))) (p.inside 6 (omega arith)) (p.inside 7 (omega arith)) i;
  node = ap₄ (expression_by file words') (ap (λ k. k % 256) (first_put p (omega arith))) (p.inside 8 (omega arith)) (p.inside 9 (omega arith)) (p.inside 10 (omega arith)) i;
}

-- ------------------------------------------------------------------ rows that a store leaves

pub same_above : {words : List ℕ} {at : ℕ} {values words' : List ℕ} → Put words at values words' → (from to : ℕ) → at + length values ≤ from → Same words words' from to
same_above p from to h i le lt = p.outside i (inr (omega arith))

-- a list that lies within the first n items
abbrev pub Listed : ℕ → ℕ → Type 0
Listed n v = start_of v + length_of v ≤ n

-- the nodes with a list: a call, a tuple, an array
pub record ListedNode (n kind v : ℕ) : Type 0 where
  pub call : kind ≡ 5 → Listed n v
  pub tuple : kind ≡ 9 → Listed n v
  pub array : kind ≡ 11 → Listed n v

module _ (file words words' : List ℕ) (n : ℕ) (items : Same words words' (item_place 0) (item_place n)) where
  value_same : (i : ℕ) → i < n → item_value words' i ≡ item_value words i
  value_same i h = items (item_place i) (omega arith) (omega arith)

  name_same : (i : ℕ) → i < n → item_name words' i ≡ item_name words i
  name_same i h = items (item_place i + 1) (omega arith) (omega arith)

  pub numbers_same : (v : ℕ) → Listed n v → numbers_at words' (start_of v) (length_of v) ≡ numbers_at words (start_of v) (length_of v)
  unfolding numbers_at
  numbers_same v h = each_same (item_value words') (item_value words) (start_of v) (length_of v) (λ i le lt. value_same i (omega arith))

  pub links_same : (v : ℕ) → Listed n v → links_at words' (start_of v) (length_of v) ≡ links_at words (start_of v) (length_of v)
  unfolding links_at
  links_same v h =
      each_same (λ i. link_by (item_value words' i)) (λ i. link_by (item_value words i)) (start_of v) (length_of v) (λ i le lt. ap link_by (value_same i (omega arith)))

  pub names_with_types_same : (v : ℕ) → Listed n v → names_with_types_at file words' (start_of v) (length_of v) ≡ names_with_types_at file words (start_of v) (length_of v)
  unfolding names_with_types_at
  names_with_types_same v h =
      each_same (name_with_type_row file words') (name_with_type_row file words) (start_of v) (length_of v)
      (λ i le lt. let below : i < n = omega arith in λ d. record { name = ap (name_by file) (name_same i below) d; type = value_same i below d })

  pub type_expr_by_same : (kind a b c : ℕ) → (kind ≡ 5 → Listed n c) → type_expr_by file words' kind a b c ≡ type_expr_by file words kind a b c
  unfolding type_expr_by
  type_expr_by_same kind a b c listed =
      options_same kind _ _ _ (same and same and same and same and same and (λ h. ap TypeExpr.Tuple (numbers_same c (listed h))) and no_more)

  pub definition_kind_by_same : (kind a b c d : ℕ) → (kind ≤ 3 → Listed n d) → definition_kind_by file words' kind a b c d ≡ definition_kind_by file words kind a b c d
  unfolding definition_kind_by
  definition_kind_by_same kind a b c d listed =
      options_same kind _ _ _
      ((λ h. ap (DefinitionKind.Function a) (names_with_types_same d (listed (omega arith))))
      and (λ h. ap DefinitionKind.Struct (names_with_types_same d (listed (omega arith))))
      and same
      and (λ h. ap (DefinitionKind.Let (link_by a) (link_by b) (link_by c)) (numbers_same d (listed (omega arith))))
      and same
      and same
      and no_more)

  pub expression_by_same : (kind a b c : ℕ) → ListedNode n kind c
      → expression_by file words' kind a b c ≡ expression_by file words kind a b c
  unfolding expression_by
  expression_by_same kind a b c listed =
      options_same kind _ _ _
      (same
      and same
      and same
      and same
      and same
      and (λ h. ap (Expression.FunctionCall (link_by a)) (links_same c (listed.call h)))
      and same
      and same
      and same
      and (λ h. ap Expression.Tuple (links_same c (listed.tuple h)))
      and same
      and (λ h. ap Expression.ArrayLiteral (links_same c (listed.array h)))
      and same
      and same
      and same
      and no_more)

-- whole rows
pub scope_row_same : (words words' : List ℕ) (s : ℕ) → Same words words' (scope_place s) (scope_place s + 2) → scope_row words' s ≡ scope_row words s
unfolding scope_row
scope_row_same words words' s row = λ d. record {
  parent = ap link_by (row (scope_place s) (omega arith) (omega arith)) d;
  kind = ap scope_kind_by (row (scope_place s + 1) (omega arith) (omega arith)) d;
}

pub question_row_same : (words words' : List ℕ) (q : ℕ) → Same words words' (question_place q) (question_place q + 4) → question_row words' q ≡ question_row words q
unfolding question_row
question_row_same words words' q row =
    ap₄ question_by (row (question_place q) (omega arith) (omega arith)) (row (question_place q + 1) (omega arith) (omega arith)) (row (question_place q + 2) (omega arith) (omega arith)) (row (question_place q + 3) (omega arith) (omega arith))

module _ (file words words' : List ℕ) (n : ℕ) (items : Same words words' (item_place 0) (item_place n)) where
  pub type_expr_row_same : (t : ℕ) → Same words words' (type_expr_place t) (type_expr_place t + 4) → (word words (type_expr_place t) ≡ 5 → Listed n (word words (type_expr_place t + 3))) → type_expr_row file words' t ≡ type_expr_row file words t
  unfolding type_expr_row
  type_expr_row_same t row listed =
      ap₄ (type_expr_by file words') (row (type_expr_place t) (omega arith) (omega arith)) (row (type_expr_place t + 1) (omega arith) (omega arith)) (row (type_expr_place t + 2) (omega arith) (omega arith)) (row (type_expr_place t + 3) (omega arith) (omega arith))
      ∙ type_expr_by_same file words words' n items _ _ _ _ listed

  pub definition_row_same : (k : ℕ) → Same words words' (definition_place k) (definition_place k + 12) → (word words (definition_place k) ≤ 3 → Listed n (definition_word words k 10)) → definition_row file words' k ≡ definition_row file words k
  unfolding definition_row
  definition_row_same k row listed = λ i. record {
    scope = at 1 (omega arith) i;
    name = ap (name_by file) (at 2 (omega arith)) i;
    name_start = at 3 (omega arith) i;
    name_end = at 4 (omega arith) i;
    full_start = at 5 (omega arith) i;
    full_end = at 6 (omega arith) i;
    kind =
        (ap₅ (definition_kind_by file words') (row (definition_place k) (omega arith) (omega arith)) (at 7 (omega arith)) (at 8 (omega arith)) (at 9 (omega arith)) (at 10 (omega arith))
        ∙ definition_kind_by_same file words words' n items (word words (definition_place k)) (definition_word words k 7) (definition_word words k 8) (definition_word words k 9) (definition_word words k 10) listed) i;
  }
    where
      at : (j : ℕ) → j < 12 → definition_word words' k j ≡ definition_word words k j
      at j h = row (definition_place k + j) (omega arith) (omega arith)

  pub expression_row_same : (e : ℕ) → Same words words' (expression_place e) (expression_place e + 11)
      → ListedNode n (word words (expression_place e) % 256) (expression_word words e 10)
      → expression_row file words' e ≡ expression_row file words e
  unfolding expression_row
  expression_row_same e row listed = λ i. record {
    scope = at 1 (omega arith) i;
    start = at 2 (omega arith) i;
    end = at 3 (omega arith) i;
    expected = ap link_by (at 4 (omega arith)) i;
    definition = ap link_by (at 5 (omega arith)) i;
    origin = ap₃ (origin_by file) (ap (λ k. k / 256) kinds) (at 6 (omega arith)) (at 7 (omega arith)) i;
    node =
        (ap₄ (expression_by file words') (ap (λ k. k % 256) kinds) (at 8 (omega arith)) (at 9 (omega arith)) (at 10 (omega arith))
        ∙ expression_by_same file words words' n items (word words (expression_place e) % 256) (expression_word words e 8) (expression_word words e 9) (expression_word words e 10) listed) i;
  }
    where
      kinds : word words' (expression_place e) ≡ word words (expression_place e)
      kinds = row (expression_place e) (omega arith) (omega arith)

      at : (j : ℕ) → j < 11 → expression_word words' e j ≡ expression_word words e j
      at j h = row (expression_place e + j) (omega arith) (omega arith)
