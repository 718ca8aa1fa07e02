-- What holds of the index while lines are added: names that differ, roots that are modules', numbers of questions, limits. Assumes nothing.
use Prim.Native.Nat.{ℕ, zero, suc, ◌+◌, ◌≤◌}
use native.Mathlib.Omega.{arith}
use mathlib.Core.Path.{◌≡◌, refl, sym, ◌∙◌, ap, subst}
use mathlib.Core.Bool.{true, false, not, false≢true}
use mathlib.Core.List.{List, [], ◌∷◌, ◌++◌}
use Rattle.std.specs.Prelude.{Option, None, Some}
use mathlib.Core.Logic.{◌⊎◌, inl, inr, ⊎_elim}
use Rattle.std.specs.Prelude.{slice_get}
use lib.ListN.{length, length-append}
use Rattle.model.specs.Common.{let_some, is_none, first, total, eq_numbers}
use Rattle.model.specs.Records.{Name, Module, Index}
use Rattle.model.specs.Lookups.{module_named, module_by_name}
use Rattle.model.specs.Limits.{
  max_modules,
  max_scopes,
  max_type_exprs,
  max_definitions,
  max_expressions,
  max_questions,
  max_items,
  scope_count,
  type_expr_count,
  definition_count,
  expression_count,
  type_expr_items,
  definition_items,
  expression_items,
  module_items,
  item_count,
}
use Rattle.model.specs.WellFormed.{WithinLimits, QuestionNumbers}
use Rattle.model.proofs.Tests.{ltb_lt, eq_numbers_self, none≢some, some-injective, some_of}
use Rattle.model.proofs.Search.{first_none_fails, some_passes}
use Rattle.model.proofs.Places.{getElem_snoc}
use Rattle.format.specs.declared.LineWord.{LineWord}
use Rattle.format.specs.Lines.{Entry, a_module, entry_items}
use Rattle.format.specs.FirstPass.{empty_module, with_scope, with_type, with_definition, with_expression, on_last, add, has_line_room, is_again}
use Rattle.format.proofs.Reading.{RootKind, EntryOf, module_entry, scope_entry, type_entry, definition_entry, expression_entry, question_entry}

-- ------------------------------------------------------------------ every element

abbrev pub All : {A : Type 0} → (A → Type 0) → List A → Type 0
All P [] = Unit {0}
All P (x ∷ xs) = P x × All P xs

all_append : {A : Type 0} (P : A → Type 0) (xs : List A) (x : A) → All P xs → P x → All P (xs ++ (x ∷ []))
all_append P [] x h p = (p, tt)
all_append P (y ∷ ys) x (q, h) p = (q, all_append P ys x h p)

pub all_at : {A : Type 0} (P : A → Type 0) (xs : List A) (n : ℕ) (x : A) → All P xs → slice_get xs n ≡ Some x → P x
all_at P [] n x h e = absurd (none≢some e)
all_at P (y ∷ ys) zero x (p, h) e = subst P (some-injective e) p
all_at P (y ∷ ys) (suc n) x (p, h) e = all_at P ys n x h e

all_on_last : (P : Module → Type 0) (f : Module → Module) → ((m : Module) → P m → P (f m)) → (ms : List Module) → All P ms → All P (on_last f ms)
unfolding on_last
all_on_last P f keep [] h = tt
all_on_last P f keep (m ∷ []) (p, h) = (keep m p, tt)
all_on_last P f keep (m ∷ m' ∷ ms) (p, h) = (p, all_on_last P f keep (m' ∷ ms) h)

-- ------------------------------------------------------------------ names

abbrev name_at : List Module → ℕ → Option Name
name_at ms m = let_some (slice_get ms m) None (λ the_module. Some the_module.name)

abbrev pub NamesDiffer : List Module → Type 0
NamesDiffer ms = (m m' : ℕ) (name : Name) → name_at ms m ≡ Some name → name_at ms m' ≡ Some name → m ≡ m'

names_on_last : (f : Module → Module) → ((m : Module) → (f m).name ≡ m.name) → (ms : List Module) (m : ℕ) → name_at (on_last f ms) m ≡ name_at ms m
unfolding on_last
names_on_last f keep [] m = refl
names_on_last f keep (x ∷ []) zero = ap (λ (n : Name). Some n) (keep x)
names_on_last f keep (x ∷ []) (suc m) = refl
names_on_last f keep (x ∷ y ∷ ms) zero = refl
names_on_last f keep (x ∷ y ∷ ms) (suc m) = names_on_last f keep (y ∷ ms) m

differ_on_last : (f : Module → Module) → ((m : Module) → (f m).name ≡ m.name) → (ms : List Module) → NamesDiffer ms → NamesDiffer (on_last f ms)
differ_on_last f keep ms differ m m' name e e' =
    differ m m' name (sym (names_on_last f keep ms m) ∙ e) (sym (names_on_last f keep ms m') ∙ e')

-- a name that no module has
has_name : (name : Name) (the_module : Module) → the_module.name ≡ name → module_named name the_module ≡ true
unfolding module_named
has_name name the_module h = ap (λ n. eq_numbers n name) h ∙ eq_numbers_self name

not_again : (name : Name) (index : Index) → is_again (a_module name) index ≡ false → (m : ℕ) → name_at index.modules m ≡ Some name → ⊥
unfolding is_again module_by_name
not_again name index new m e =
    let (the_module, at, is_named) = some_of (slice_get index.modules m) (λ r. Some r.name) name e in
    false≢true
    (sym (first_none_fails (module_named name) index.modules (is_none_of (first (module_named name) index.modules) new) m)
    ∙ some_passes (module_named name) at (has_name name the_module (some-injective is_named)))
  where
    is_none_of : (o : Option ℕ) → not (is_none o) ≡ false → o ≡ None
    is_none_of None h = refl
    is_none_of (Some n) h = absurd (false≢true (sym h))

differ_append : (name : Name) (ms : List Module) → ((m : ℕ) → name_at ms m ≡ Some name → ⊥) → NamesDiffer ms → NamesDiffer (ms ++ (empty_module name ∷ []))
differ_append name ms new differ m m' n e e' =
    ⊎_elim
    (λ old. ⊎_elim (λ old'. differ m m' n old old') (λ added'. absurd (new m (old ∙ ap (λ (x : Name). Some x) (sym added'.1)))) (at m' e'))
    (λ added.
    ⊎_elim
    (λ old'. absurd (new m' (old' ∙ ap (λ (x : Name). Some x) (sym added.1))))
    (λ added'. added.0 ∙ sym added'.0)
    (at m' e'))
    (at m e)
  where
    -- an old module of that name, or the new one
    at : (k : ℕ) → name_at (ms ++ (empty_module name ∷ [])) k ≡ Some n → (name_at ms k ≡ Some n) ⊎ ((k ≡ length ms) × (name ≡ n))
    at k h =
        let (the_module, found, is_named) = some_of (slice_get (ms ++ (empty_module name ∷ [])) k) (λ r. Some r.name) n h in
        ⊎_elim
        (λ old. inl (ap (λ o. let_some o None (λ r. Some r.name)) old ∙ is_named))
        (λ added. inr (added.0, ap (λ r. r.name) added.1 ∙ some-injective is_named))
        (getElem_snoc ms (empty_module name) the_module k found)

-- ------------------------------------------------------------------ limits

total_append : {A : Type 0} (f : A → ℕ) (xs : List A) (x : A) → total f (xs ++ (x ∷ [])) ≡ total f xs + f x
unfolding total
total_append f [] x = omega arith
total_append f (y ∷ xs) x = omega (arith, total_append f xs x)

length_on_last : (f : Module → Module) (ms : List Module) → length (on_last f ms) ≡ length ms
unfolding on_last
length_on_last f [] = refl
length_on_last f (m ∷ []) = refl
length_on_last f (m ∷ m' ∷ ms) = ap suc (length_on_last f (m' ∷ ms))

-- one module's count rises by k at most
raised : (f : Module → ℕ) (g : Module → Module) (k : ℕ) → ((m : Module) → f (g m) ≤ f m + k) → (ms : List Module) → total f (on_last g ms) ≤ total f ms + k
unfolding on_last total
raised f g k h [] = omega arith
raised f g k h (m ∷ []) = omega (arith, h m)
raised f g k h (m ∷ m' ∷ ms) = omega (arith, raised f g k h (m' ∷ ms))

-- a count that the line does not change
kept : (f : Module → ℕ) (g : Module → Module) → ((m : Module) → f (g m) ≡ f m) → (ms : List Module) (most : ℕ) → total f ms ≤ most → total f (on_last g ms) ≤ most
unfolding on_last total
kept f g h [] most before = before
kept f g h (m ∷ []) most before = omega (arith, h m, before)
kept f g h (m ∷ m' ∷ ms) most before = go (kept f g h (m' ∷ ms) (total f (m' ∷ ms)) (omega arith))
  where
    go : total f (on_last g (m' ∷ ms)) ≤ total f (m' ∷ ms) → f m + total f (on_last g (m' ∷ ms)) ≤ most
    go less = omega (arith, less, before)

-- a new module has no records
empty_kept : (f : Module → ℕ) (name : Name) → f (empty_module name) ≡ 0 → (ms : List Module) (most : ℕ) → total f ms ≤ most → total f (ms ++ (empty_module name ∷ [])) ≤ most
empty_kept f name h ms most before = omega (arith, total_append f ms (empty_module name), h, before)

abbrev scopes_of : Module → ℕ
scopes_of m = length m.scopes

abbrev types_of : Module → ℕ
types_of m = length m.types

abbrev definitions_of : Module → ℕ
definitions_of m = length m.definitions

abbrev expressions_of : Module → ℕ
expressions_of m = length m.expressions

one_more : {A : Type 0} (xs : List A) (x : A) → length (xs ++ (x ∷ [])) ≤ length xs + 1
one_more xs x = omega (arith, length-append xs (x ∷ []))

grown_limits : (w : LineWord) (entry : Entry) (index : Index) → EntryOf w entry → has_line_room w index ≡ true → item_count index + entry_items entry ≤ max_items → WithinLimits index
    → WithinLimits (add entry index)
unfolding add has_line_room entry_items scope_count type_expr_count definition_count expression_count item_count total
grown_limits w entry index (module_entry name) room items l =
    let ms = index.modules in
    record {
      modules = omega (arith, length-append ms (empty_module name ∷ []), ltb_lt (length ms) max_modules room);
      scopes = empty_kept scopes_of name refl ms max_scopes l.scopes;
      types = empty_kept types_of name refl ms max_type_exprs l.types;
      definitions = empty_kept definitions_of name refl ms max_definitions l.definitions;
      expressions = empty_kept expressions_of name refl ms max_expressions l.expressions;
      questions = l.questions;
      items = empty_kept module_items name refl ms max_items l.items;
    }
grown_limits w entry index (scope_entry r kind) room items l =
    let ms = index.modules in
    let g = with_scope r in
    record {
      modules = subst (λ n. n ≤ max_modules) (sym (length_on_last g ms)) l.modules;
      scopes = omega (arith, raised scopes_of g 1 (λ m. one_more m.scopes r) ms, ltb_lt (total scopes_of ms) max_scopes room);
      types = kept types_of g (λ m. refl) ms max_type_exprs l.types;
      definitions = kept definitions_of g (λ m. refl) ms max_definitions l.definitions;
      expressions = kept expressions_of g (λ m. refl) ms max_expressions l.expressions;
      questions = l.questions;
      items = kept module_items g (λ m. refl) ms max_items l.items;
    }
grown_limits w entry index (type_entry r) room items l =
    let ms = index.modules in
    let g = with_type r in
    record {
      modules = subst (λ n. n ≤ max_modules) (sym (length_on_last g ms)) l.modules;
      scopes = kept scopes_of g (λ m. refl) ms max_scopes l.scopes;
      types = omega (arith, raised types_of g 1 (λ m. one_more m.types r) ms, ltb_lt (total types_of ms) max_type_exprs room);
      definitions = kept definitions_of g (λ m. refl) ms max_definitions l.definitions;
      expressions = kept expressions_of g (λ m. refl) ms max_expressions l.expressions;
      questions = l.questions;
      items = omega (arith, raised module_items g (type_expr_items r) (λ m. omega (arith, total_append type_expr_items m.types r)) ms, items);
    }
grown_limits w entry index (definition_entry r) room items l =
    let ms = index.modules in
    let g = with_definition r in
    record {
      modules = subst (λ n. n ≤ max_modules) (sym (length_on_last g ms)) l.modules;
      scopes = kept scopes_of g (λ m. refl) ms max_scopes l.scopes;
      types = kept types_of g (λ m. refl) ms max_type_exprs l.types;
      definitions = omega (arith, raised definitions_of g 1 (λ m. one_more m.definitions r) ms, ltb_lt (total definitions_of ms) max_definitions room);
      expressions = kept expressions_of g (λ m. refl) ms max_expressions l.expressions;
      questions = l.questions;
      items = omega (arith, raised module_items g (definition_items r) (λ m. omega (arith, total_append definition_items m.definitions r)) ms, items);
    }
grown_limits w entry index (expression_entry r) room items l =
    let ms = index.modules in
    let g = with_expression r in
    record {
      modules = subst (λ n. n ≤ max_modules) (sym (length_on_last g ms)) l.modules;
      scopes = kept scopes_of g (λ m. refl) ms max_scopes l.scopes;
      types = kept types_of g (λ m. refl) ms max_type_exprs l.types;
      definitions = kept definitions_of g (λ m. refl) ms max_definitions l.definitions;
      expressions = omega (arith, raised expressions_of g 1 (λ m. one_more m.expressions r) ms, ltb_lt (total expressions_of ms) max_expressions room);
      questions = l.questions;
      items = omega (arith, raised module_items g (expression_items r) (λ m. omega (arith, total_append expression_items m.expressions r)) ms, items);
    }
grown_limits w entry index (question_entry q numbers) room items l =
    record {
      modules = l.modules;
      scopes = l.scopes;
      types = l.types;
      definitions = l.definitions;
      expressions = l.expressions;
      questions = omega (arith, length-append index.questions (q ∷ []), ltb_lt (length index.questions) max_questions room);
      items = l.items;
    }

-- ------------------------------------------------------------------ all of it

pub record Growing (version : ℕ) (index : Index) : Type 0 where
  pub one_version : index.version ≡ version
  pub names : NamesDiffer index.modules
  pub roots : All (λ m. All RootKind m.scopes) index.modules
  pub numbers : All QuestionNumbers index.questions
  pub limits : WithinLimits index

-- the parts that a line of a module keeps
in_module : (version : ℕ) (index : Index) (f : Module → Module) → ((m : Module) → (f m).name ≡ m.name)
    → ((m : Module) → All RootKind m.scopes → All RootKind (f m).scopes) → Growing version index
    → NamesDiffer (on_last f index.modules) × All (λ m. All RootKind m.scopes) (on_last f index.modules)
in_module version index f same_name keep g =
    (differ_on_last f same_name index.modules g.names, all_on_last (λ m. All RootKind m.scopes) f keep index.modules g.roots)

pub grown : (version : ℕ) (w : LineWord) (entry : Entry) (index : Index) → EntryOf w entry → has_line_room w index ≡ true → item_count index + entry_items entry ≤ max_items
    → is_again entry index ≡ false → Growing version index → Growing version (add entry index)
unfolding add
grown version w entry index entry_of room items new g = by_kind entry_of new (grown_limits w entry index entry_of room items g.limits)
  where
    by_kind : {v : LineWord} {r : Entry} → EntryOf v r → is_again r index ≡ false → WithinLimits (add r index) → Growing version (add r index)
    by_kind (module_entry name) fresh limits =
        record {
          one_version = g.one_version;
          names = differ_append name index.modules (not_again name index fresh) g.names;
          roots = all_append (λ m. All RootKind m.scopes) index.modules (empty_module name) g.roots tt;
          numbers = g.numbers;
          limits = limits;
        }
    by_kind (scope_entry r kind) fresh limits =
        let (names, roots) = in_module version index (with_scope r) (λ m. refl) (λ m h. all_append RootKind m.scopes r h kind) g in
        record { one_version = g.one_version; names = names; roots = roots; numbers = g.numbers; limits = limits }
    by_kind (type_entry r) fresh limits =
        let (names, roots) = in_module version index (with_type r) (λ m. refl) (λ m h. h) g in
        record { one_version = g.one_version; names = names; roots = roots; numbers = g.numbers; limits = limits }
    by_kind (definition_entry r) fresh limits =
        let (names, roots) = in_module version index (with_definition r) (λ m. refl) (λ m h. h) g in
        record { one_version = g.one_version; names = names; roots = roots; numbers = g.numbers; limits = limits }
    by_kind (expression_entry r) fresh limits =
        let (names, roots) = in_module version index (with_expression r) (λ m. refl) (λ m h. h) g in
        record { one_version = g.one_version; names = names; roots = roots; numbers = g.numbers; limits = limits }
    by_kind (question_entry q numbers) fresh limits =
        record {
          one_version = g.one_version;
          names = g.names;
          roots = g.roots;
          numbers = all_append QuestionNumbers index.questions q g.numbers numbers;
          limits = limits;
        }

pub grown_start : (version : ℕ) → Growing version (record { version = version; modules = []; questions = [] })
unfolding scope_count type_expr_count definition_count expression_count item_count total
grown_start version =
    record {
      one_version = refl;
      names = λ m m' name e e'. absurd (none≢some e);
      roots = tt;
      numbers = tt;
      limits = record { modules = omega arith; scopes = omega arith; types = omega arith; definitions = omega arith; expressions = omega arith; questions = omega arith; items = omega arith };
    }
