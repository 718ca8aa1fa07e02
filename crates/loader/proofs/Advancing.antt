-- One line more: the counts, the names so far, the index so far. Assumes nothing.
use Prim.Native.Nat.{ℕ, zero, suc, ◌+◌, ◌-◌, ◌*◌, ◌≤◌, ◌<◌}
use mathlib.Core.Path.{◌≡◌, refl, sym, ap, ap₂, ◌∙◌}
use mathlib.Core.List.{List, [], ◌∷◌, ◌++◌}
use mathlib.Core.Bool.{Bool, true, false, not, ◌&&◌, ◌||◌}
use Rattle.std.specs.List.{list_any, range_with_len}
use Rattle.std.specs.Prelude.{Option, None, Some}
use native.Mathlib.Nat.{zero-add}
use native.Mathlib.Omega.{arith}
use native.Mathlib.Numerals.{add-one}
use lib.Dec.{eqb}
use borrow.Author.Tests.{eq-eqb, ne_eqb}
use Rattle.std.specs.Prelude.{if◌then◌else◌}
use Rattle.model.specs.Common.{first, next, is_none, eq_numbers, total}
use Rattle.model.specs.Records.{Name, Scope, TypeExpr, Definition, ExpressionInfo, Module, Index}
use Rattle.model.proofs.Tests.{eqb_sound}
use Rattle.model.specs.Lookups.{module_named, module_by_name}
use Rattle.format.specs.declared.LineWord.{LineWord}
use Rattle.format.specs.Lines.{a_module}
use Rattle.format.specs.FirstPass.{empty_module, with_scope, with_type, with_definition, with_expression, on_last, add, stage_of, is_again}
use Rattle.records.specs.Layout.{each, word, scope_row, type_expr_row, definition_row, expression_row, question_row, scope_rows, type_expr_rows, definition_rows, expression_rows, begin_of, end_of}
use Rattle.records.proofs.Lists.{each_same, each_snoc}
use Rattle.loader.specs.State.{rows_so_far, module_by, module_so_far, index_so_far, row_entry, BeginsAt, counts_after}
use Rattle.loader.specs.Steps.{name_at, again, BeginsWithin}
use Rattle.loader.specs.declared.rows.Counts.{Counts}

pub and_false : (b : Bool) → (b && false) ≡ false
and_false true = refl
and_false false = refl

-- ------------------------------------------------------------------ the counts

module _ (n : Counts) (count : ℕ) where
  pub stage_after : (w : LineWord) → (counts_after w n count).stage ≡ stage_of w
  stage_after LineWord.M = refl
  stage_after LineWord.S = refl
  stage_after LineWord.T = refl
  stage_after LineWord.D = refl
  stage_after LineWord.E = refl
  stage_after LineWord.Q = refl

-- ------------------------------------------------------------------ names so far

-- a test of some number below n, and the search through what the numbers stand for
pub any_found : {A : Type 0} (test : A → Bool) (g : ℕ → A) (a n : ℕ) → list_any (λ m. test (g m)) (range_with_len a n) ≡ not (is_none (first test (each g a n)))
unfolding first each
any_found test g a zero = refl
any_found test g a (suc n) = by (test (g a)) (ap (λ m. list_any (λ k. test (g k)) (range_with_len m n)) (add-one a) ∙ any_found test g (suc a) n)
  where
    none_next : (o : Option ℕ) → not (is_none o) ≡ not (is_none (next o))
    none_next None = refl
    none_next (Some k) = refl

    by : (b : Bool) → list_any (λ m. test (g m)) (range_with_len (a + 1) n) ≡ not (is_none (first test (each g (suc a) n)))
        → (b || list_any (λ m. test (g m)) (range_with_len (a + 1) n)) ≡ not (is_none (if b then Some zero else next (first test (each g (suc a) n))))
    by true e = refl
    by false e = e ∙ none_next (first test (each g (suc a) n))

-- a search by a part of each element
first_by : {A B : Type 0} (f : A → B) (test : B → Bool) (g : ℕ → A) (start n : ℕ) → first (λ a. test (f a)) (each g start n) ≡ first test (each (λ i. f (g i)) start n)
unfolding first each
first_by f test g start zero = refl
first_by f test g start (suc n) = ap (λ o. if test (f (g start)) then Some zero else next o) (first_by f test g (suc start) n)

pub again_is : (version : ℕ) (file words : List ℕ) (n : Counts) → is_again (a_module (name_at file words n.modules)) (index_so_far version file words n) ≡ again file words n.modules
unfolding is_again module_by_name module_named again index_so_far module_by
again_is version file words n =
    ap (λ o. not (is_none o)) (first_by (λ (m : Module). m.name) (λ name. eq_numbers name (name_at file words n.modules)) (module_so_far file words n) 0 n.modules)

-- ------------------------------------------------------------------ the index with one row more

on_last_snoc : (f : Module → Module) (ms : List Module) (m : Module) → on_last f (ms ++ (m ∷ [])) ≡ ms ++ (f m ∷ [])
unfolding on_last
on_last_snoc f [] m = refl
on_last_snoc f (x ∷ []) m = refl
on_last_snoc f (x ∷ y ∷ ms) m = ap (λ l. x ∷ l) (on_last_snoc f (y ∷ ms) m)

same_number : (m : ℕ) → eqb m m ≡ true
same_number m = eq-eqb m m refl

-- the last of suc m modules grows, the others stay
each_on_last : (f : Module → Module) (g g' : ℕ → Module) (m : ℕ) → ((i : ℕ) → i < m → g' i ≡ g i) → g' m ≡ f (g m) → each g' 0 (suc m) ≡ on_last f (each g 0 (suc m))
each_on_last f g g' m older last =
    each_snoc g' 0 m
    ∙ (λ i. each_same g' g 0 m (λ k le lt. older k (omega arith)) i ++ ((ap g' (zero-add m) ∙ last ∙ ap (λ k. f (g k)) (sym (zero-add m))) i ∷ []))
    ∙ sym (ap (on_last f) (each_snoc g 0 m) ∙ on_last_snoc f (each g 0 m) (g (0 + m)))

module _ {A : Type 0} (row : ℕ → A) (words : List ℕ) (k : ℕ) where
  -- of an older module
  rows_older : (total total' m i : ℕ) → i < m → rows_so_far row total' (suc m) words i k ≡ rows_so_far row total (suc m) words i k
  unfolding rows_so_far
  rows_older total total' m i h =
      (λ d. each row (begin_of words i k) ((if off d then total' else end_of words i k) - begin_of words i k))
      ∙ sym (λ d. each row (begin_of words i k) ((if off d then total else end_of words i k) - begin_of words i k))
    where
      off : eqb (suc i) (suc m) ≡ false
      off = ne_eqb (suc i) (suc m) (λ e. omega (arith, h, e))

  rows_last : (total m : ℕ) → rows_so_far row total (suc m) words m k ≡ each row (begin_of words m k) (total - begin_of words m k)
  unfolding rows_so_far
  rows_last total m = λ d. each row (begin_of words m k) ((if same_number (suc m) d then total else end_of words m k) - begin_of words m k)

  rows_more : (total m : ℕ) → begin_of words m k ≤ total → rows_so_far row (total + 1) (suc m) words m k ≡ rows_so_far row total (suc m) words m k ++ (row total ∷ [])
  rows_more total m h =
      rows_last (total + 1) m
      ∙ ap (each row (begin_of words m k)) (one_more (begin_of words m k) h)
      ∙ each_snoc row (begin_of words m k) (total - begin_of words m k)
      ∙ ap₂ (λ l r. l ++ (row r ∷ [])) (sym (rows_last total m)) (behind (begin_of words m k) h)
    where
      one_more : (b : ℕ) → b ≤ total → total + 1 - b ≡ suc (total - b)
      one_more b h = omega arith

      behind : (b : ℕ) → b ≤ total → b + (total - b) ≡ total
      behind b h = omega arith

-- ------------------------------------------------------------------ the row of each kind

abbrev pub module_with : Name → List Scope → List TypeExpr → List Definition → List ExpressionInfo → Module
module_with name s t d e = record { name = name; scopes = s; types = t; definitions = d; expressions = e }

-- a module's rows begin within the counted ones, and there is a module
pub record Open (words : List ℕ) (n : Counts) : Type 0 where
  pub last : ℕ
  pub is_last : n.modules ≡ suc last
  pub begins : BeginsWithin words last n

module _ (file words : List ℕ) where
  -- an older module has nothing to do with the totals
  module_older : (m i s t d e s' t' d' e' : ℕ) → i < m → module_by file words (suc m) s' t' d' e' i ≡ module_by file words (suc m) s t d e i
  unfolding module_by
  module_older m i s t d e s' t' d' e' h =
      λ k.
      module_with (name_at file words i)
      (rows_older (scope_row words) words scope_rows s s' m i h k)
      (rows_older (type_expr_row file words) words type_expr_rows t t' m i h k)
      (rows_older (definition_row file words) words definition_rows d d' m i h k)
      (rows_older (expression_row file words) words expression_rows e e' m i h k)

  abbrev modules_by : ℕ → ℕ → ℕ → ℕ → ℕ → List Module
  modules_by modules s t d e = each (module_by file words modules s t d e) 0 modules

  in_last_module : (f : Module → Module) (modules m s t d e s' t' d' e' : ℕ) → modules ≡ suc m
      → module_by file words (suc m) s' t' d' e' m ≡ f (module_by file words (suc m) s t d e m) → modules_by modules s' t' d' e' ≡ on_last f (modules_by modules s t d e)
  in_last_module f modules m s t d e s' t' d' e' q last =
      ap (λ k. modules_by k s' t' d' e') q
      ∙ each_on_last f (module_by file words (suc m) s t d e) (module_by file words (suc m) s' t' d' e') m (λ i h. module_older m i s t d e s' t' d' e' h) last
      ∙ ap (λ k. on_last f (modules_by k s t d e)) (sym q)

  module _ (n : Counts) where
    -- the last module's rows of each kind
    abbrev last_scopes : ℕ → List Scope
    last_scopes m = rows_so_far (scope_row words) n.scopes (suc m) words m scope_rows

    abbrev last_types : ℕ → List TypeExpr
    last_types m = rows_so_far (type_expr_row file words) n.types (suc m) words m type_expr_rows

    abbrev last_definitions : ℕ → List Definition
    last_definitions m = rows_so_far (definition_row file words) n.definitions (suc m) words m definition_rows

    abbrev last_expressions : ℕ → List ExpressionInfo
    last_expressions m = rows_so_far (expression_row file words) n.expressions (suc m) words m expression_rows

    module _ (o : Open words n) where
      scope_added : modules_by n.modules (n.scopes + 1) n.types n.definitions n.expressions ≡ on_last (with_scope (scope_row words n.scopes)) (modules_by n.modules n.scopes n.types n.definitions n.expressions)
      unfolding module_by
      scope_added =
          in_last_module (with_scope (scope_row words n.scopes)) n.modules o.last _ _ _ _ (n.scopes + 1) n.types n.definitions n.expressions o.is_last
          (λ k. module_with (name_at file words o.last) (rows_more (scope_row words) words scope_rows n.scopes o.last o.begins.scopes k) (last_types o.last) (last_definitions o.last) (last_expressions o.last))

      type_added : modules_by n.modules n.scopes (n.types + 1) n.definitions n.expressions ≡ on_last (with_type (type_expr_row file words n.types)) (modules_by n.modules n.scopes n.types n.definitions n.expressions)
      unfolding module_by
      type_added =
          in_last_module (with_type (type_expr_row file words n.types)) n.modules o.last _ _ _ _ n.scopes (n.types + 1) n.definitions n.expressions o.is_last
          (λ k. module_with (name_at file words o.last) (last_scopes o.last) (rows_more (type_expr_row file words) words type_expr_rows n.types o.last o.begins.types k) (last_definitions o.last) (last_expressions o.last))

      definition_added : modules_by n.modules n.scopes n.types (n.definitions + 1) n.expressions ≡ on_last (with_definition (definition_row file words n.definitions)) (modules_by n.modules n.scopes n.types n.definitions n.expressions)
      unfolding module_by
      definition_added =
          in_last_module (with_definition (definition_row file words n.definitions)) n.modules o.last _ _ _ _ n.scopes n.types (n.definitions + 1) n.expressions o.is_last
          (λ k. module_with (name_at file words o.last) (last_scopes o.last) (last_types o.last) (rows_more (definition_row file words) words definition_rows n.definitions o.last o.begins.definitions k) (last_expressions o.last))

      expression_added : modules_by n.modules n.scopes n.types n.definitions (n.expressions + 1) ≡ on_last (with_expression (expression_row file words n.expressions)) (modules_by n.modules n.scopes n.types n.definitions n.expressions)
      unfolding module_by
      expression_added =
          in_last_module (with_expression (expression_row file words n.expressions)) n.modules o.last _ _ _ _ n.scopes n.types n.definitions (n.expressions + 1) o.is_last
          (λ k. module_with (name_at file words o.last) (last_scopes o.last) (last_types o.last) (last_definitions o.last) (rows_more (expression_row file words) words expression_rows n.expressions o.last o.begins.expressions k))

    -- a new module's rows begin where all rows end
    module _ {A : Type 0} (row : ℕ → A) (k total : ℕ) (begins : begin_of words n.modules k ≡ total) where
      rows_closed : (i : ℕ) → i < n.modules → rows_so_far row total (suc n.modules) words i k ≡ rows_so_far row total n.modules words i k
      unfolding rows_so_far
      rows_closed i h =
          (λ d. each row (begin_of words i k) ((if off d then total else end_of words i k) - begin_of words i k))
          ∙ at (eqb (suc i) n.modules) refl
        where
          off : eqb (suc i) (suc n.modules) ≡ false
          off = ne_eqb (suc i) (suc n.modules) (λ e. omega (arith, h, e))

          at : (b : Bool) → eqb (suc i) n.modules ≡ b
              → each row (begin_of words i k) (end_of words i k - begin_of words i k) ≡ each row (begin_of words i k) ((if b then total else end_of words i k) - begin_of words i k)
          at false e = refl
          at true e =
              ap (λ v. each row (begin_of words i k) (v - begin_of words i k))
              (ap (word words) (place (eqb_sound (suc i) n.modules e)) ∙ begins)
            where
              place : suc i ≡ n.modules → 16 + 8 * i + 8 + k ≡ 16 + 8 * n.modules + k
              place q = omega (arith, q)

      rows_begun : rows_so_far row total (suc n.modules) words n.modules k ≡ []
      unfolding each
      rows_begun = rows_last row words k total n.modules ∙ ap (each row (begin_of words n.modules k)) nothing_left
        where
          nothing_left : total - begin_of words n.modules k ≡ 0
          nothing_left = omega (arith, begins)

    module_added : BeginsAt words n.modules n
        → modules_by (n.modules + 1) n.scopes n.types n.definitions n.expressions ≡ modules_by n.modules n.scopes n.types n.definitions n.expressions ++ (empty_module (name_at file words n.modules) ∷ [])
    unfolding module_by
    module_added b =
        ap (λ k. modules_by k n.scopes n.types n.definitions n.expressions) (next_number n.modules)
        ∙ each_snoc (module_by file words (suc n.modules) n.scopes n.types n.definitions n.expressions) 0 n.modules
        ∙ ap₂ (λ l m. l ++ (m ∷ []))
        (each_same (module_by file words (suc n.modules) n.scopes n.types n.definitions n.expressions) (module_by file words n.modules n.scopes n.types n.definitions n.expressions) 0 n.modules (λ i le lt. older i (omega arith)))
        (ap (module_by file words (suc n.modules) n.scopes n.types n.definitions n.expressions) (zero-add n.modules) ∙ new)
      where
        next_number : (k : ℕ) → k + 1 ≡ suc k
        next_number k = omega arith

        older : (i : ℕ) → i < n.modules
            → module_by file words (suc n.modules) n.scopes n.types n.definitions n.expressions i ≡ module_by file words n.modules n.scopes n.types n.definitions n.expressions i
        older i h =
            λ k.
            module_with (name_at file words i)
            (rows_closed (scope_row words) scope_rows n.scopes b.scopes i h k)
            (rows_closed (type_expr_row file words) type_expr_rows n.types b.types i h k)
            (rows_closed (definition_row file words) definition_rows n.definitions b.definitions i h k)
            (rows_closed (expression_row file words) expression_rows n.expressions b.expressions i h k)

        new : module_by file words (suc n.modules) n.scopes n.types n.definitions n.expressions n.modules ≡ empty_module (name_at file words n.modules)
        new =
            λ k.
            module_with (name_at file words n.modules)
            (rows_begun (scope_row words) scope_rows n.scopes b.scopes k)
            (rows_begun (type_expr_row file words) type_expr_rows n.types b.types k)
            (rows_begun (definition_row file words) definition_rows n.definitions b.definitions k)
            (rows_begun (expression_row file words) expression_rows n.expressions b.expressions k)

-- ------------------------------------------------------------------ the index with one line more

-- what a line of a kind stands on
abbrev pub Ready : LineWord → List ℕ → Counts → Type 0
Ready LineWord.M words n = BeginsAt words n.modules n
Ready LineWord.S words n = Open words n
Ready LineWord.T words n = Open words n
Ready LineWord.D words n = Open words n
Ready LineWord.E words n = Open words n
Ready LineWord.Q words n = Unit {0}

module _ (version : ℕ) (file words : List ℕ) (n : Counts) (count : ℕ) where
  abbrev with_modules : List Module → Index
  with_modules modules = record { version = version; modules = modules; questions = each (question_row words) 0 n.questions }

  pub row_added : (w : LineWord) → Ready w words n → index_so_far version file words (counts_after w n count) ≡ add (row_entry w file words n) (index_so_far version file words n)
  unfolding index_so_far add row_entry
  row_added LineWord.M ready = ap with_modules (module_added file words n ready)
  row_added LineWord.S ready = ap with_modules (scope_added file words n ready)
  row_added LineWord.T ready = ap with_modules (type_added file words n ready)
  row_added LineWord.D ready = ap with_modules (definition_added file words n ready)
  row_added LineWord.E ready = ap with_modules (expression_added file words n ready)
  row_added LineWord.Q ready =
      ap (λ q. record { version = version; modules = each (module_so_far file words n) 0 n.modules; questions = q })
      (ap (each (question_row words) 0) (next_number n.questions) ∙ each_snoc (question_row words) 0 n.questions ∙ ap (λ k. each (question_row words) 0 n.questions ++ (question_row words k ∷ [])) (zero-add n.questions))
    where
      next_number : (k : ℕ) → k + 1 ≡ suc k
      next_number k = omega arith
