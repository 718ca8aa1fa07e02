-- Where no line has refusal 5, every link leads. Assumes nothing.
use Prim.Native.Nat.{ℕ, zero, suc, ◌+◌, ◌<◌}
use native.Mathlib.Omega.{arith}
use mathlib.Core.Path.{◌≡◌, refl, sym, ◌∙◌, ap, subst}
use mathlib.Core.Bool.{Bool, true, false, not, ◌&&◌, ◌||◌, false≢true}
use mathlib.Core.List.{List, [], ◌∷◌, ◌++◌, map, Memᴰ}
use Rattle.std.specs.Prelude.{Option, None, Some}
use lib.Dec.{ltb}
use Rattle.std.specs.Prelude.{slice_get}
use lib.ListN.{length}
use Rattle.model.specs.Common.{is_empty, let_some, next, first}
use Rattle.model.specs.Records.{Scope, TypeExpr, Definition, ExpressionInfo, Module, Question, Index}
use Rattle.model.specs.Lookups.{module_at, scope_at, type_expr_at, definition_at, expression_at, parent}
use Rattle.model.specs.Links.{scope_in, type_in, type_types, definition_types, definition_expressions, link, expression_types, expression_definitions, expression_expressions}
use Rattle.model.specs.WellFormed.{Present, LinksLead, ParentsLower, HasRoot, QuestionLinks}
use Rattle.model.proofs.Tests.{and_left, and_right, under, eqb_sound, ltb_lt, lt-ltb, none≢some, some-injective, some_of}
use Rattle.model.proofs.Places.{getElem_below, getElem_there}
use Rattle.format.specs.LinkCheck.{all_below, parent_ok, scope_linked, type_linked, definition_linked, expression_linked, question_linked, map_from, module_lines, modules_lines, linked_lines, link_fault}

-- ------------------------------------------------------------------ every test of a list passes

abbrev AllTrue : List Bool → Type 0
AllTrue [] = Unit {0}
AllTrue (b ∷ bs) = (b ≡ true) × AllTrue bs

none_false : (bs : List Bool) → first not bs ≡ None → AllTrue bs
unfolding first
none_false [] e = tt
none_false (true ∷ bs) e = (refl, none_false bs (next_none (first not bs) e))
  where
    next_none : (o : Option ℕ) → next o ≡ None → o ≡ None
    next_none None e = refl
    next_none (Some n) e = absurd (none≢some (sym e))
none_false (false ∷ bs) e = absurd (none≢some (sym e))

true_left : (cs bs : List Bool) → AllTrue (cs ++ bs) → AllTrue cs
true_left [] bs h = tt
true_left (c ∷ cs) bs (e, h) = (e, true_left cs bs h)

true_right : (cs bs : List Bool) → AllTrue (cs ++ bs) → AllTrue bs
true_right [] bs h = h
true_right (c ∷ cs) bs (e, h) = true_right cs bs h

map_at : {A : Type 0} (test : A → Bool) (xs : List A) (n : ℕ) (x : A) → AllTrue (map test xs) → slice_get xs n ≡ Some x → test x ≡ true
map_at test [] n x h e = absurd (none≢some e)
map_at test (y ∷ ys) zero x (p, h) e = ap test (sym (some-injective e)) ∙ p
map_at test (y ∷ ys) (suc n) x (p, h) e = map_at test ys n x h e

map_from_at : {A : Type 0} (test : ℕ → A → Bool) (k : ℕ) (xs : List A) (n : ℕ) (x : A) → AllTrue (map_from test k xs) → slice_get xs n ≡ Some x
    → test (k + n) x ≡ true
unfolding map_from
map_from_at test k [] n x h e = absurd (none≢some e)
map_from_at test k (y ∷ ys) zero x (p, h) e = (λ i. test (plus_zero i) (sym (some-injective e) i)) ∙ p
  where
    plus_zero : k + 0 ≡ k
    plus_zero = omega arith
map_from_at test k (y ∷ ys) (suc n) x (p, h) e =
    subst (λ j. test j x ≡ true) (over k n) (map_from_at test (suc k) ys n x h e)
  where
    over : (a b : ℕ) → suc a + b ≡ a + suc b
    over a b = omega arith

pub below_of : (n k : ℕ) (ks : List ℕ) → all_below n ks ≡ true → Memᴰ k ks → k < n
unfolding all_below
below_of n k [] h named = elim named [ ]
below_of n k (j ∷ ks) h named = at (ltb j n) refl h named (λ g m. below_of n k ks g m)
  where
    at : (b : Bool) → ltb j n ≡ b → elim b [ true ↦ all_below n ks | false ↦ false ] ≡ true → Memᴰ k (j ∷ ks)
        → (all_below n ks ≡ true → Memᴰ k ks → k < n) → k < n
    at true less g (Memᴰ.head e) rest = subst (λ i. i < n) (sym e) (ltb_lt j n less)
    at true less g (Memᴰ.tail m) rest = rest g m
    at false less g m rest = absurd (false≢true g)

-- ------------------------------------------------------------------ one module

record ModuleLinked (the_module : Module) : Type 0 where
  started : not (is_empty the_module.scopes) ≡ true
  scopes : AllTrue (map_from scope_linked 0 the_module.scopes)
  types : AllTrue (map_from type_linked 0 the_module.types)
  definitions : AllTrue (map (definition_linked the_module) the_module.definitions)
  expressions : AllTrue (map (expression_linked the_module) the_module.expressions)

module_linked : (m : Module) → AllTrue (module_lines m) → ModuleLinked m
unfolding module_lines
module_linked m (started, h) =
    let h₁ = true_right (map_from scope_linked 0 m.scopes) _ h in
    let h₂ = true_right (map_from type_linked 0 m.types) _ h₁ in
    record {
      started = started;
      scopes = true_left (map_from scope_linked 0 m.scopes) _ h;
      types = true_left (map_from type_linked 0 m.types) _ h₁;
      definitions = true_left (map (definition_linked m) m.definitions) _ h₂;
      expressions = true_right (map (definition_linked m) m.definitions) _ h₂;
    }

module_at_linked : (ms : List Module) (n : ℕ) (m : Module) → AllTrue (modules_lines ms) → slice_get ms n ≡ Some m → ModuleLinked m
unfolding modules_lines
module_at_linked [] n m h e = absurd (none≢some e)
module_at_linked (m' ∷ ms) zero m h e = subst ModuleLinked (some-injective e) (module_linked m' (true_left (module_lines m') (modules_lines ms) h))
module_at_linked (m' ∷ ms) (suc n) m h e = module_at_linked ms n m (true_right (module_lines m') (modules_lines ms) h) e

module _ (the_module : Module) (linked : ModuleLinked the_module) where
  parent_linked : (s : ℕ) (scope : Scope) → scope_at the_module s ≡ Some scope → parent_ok s scope.parent ≡ true
  unfolding scope_linked
  parent_linked s scope e =
      subst (λ k. parent_ok k scope.parent ≡ true) (omega arith) (map_from_at scope_linked 0 the_module.scopes s scope linked.scopes e)

  parent_lower : (s p : ℕ) (scope : Scope) → scope_at the_module s ≡ Some scope → scope.parent ≡ Some p → p < s
  parent_lower s p scope e is_parent = ltb_lt p s (subst (λ o. parent_ok s o ≡ true) is_parent (parent_linked s scope e))

  root_first : (s : ℕ) (scope : Scope) → scope_at the_module s ≡ Some scope → scope.parent ≡ None → s ≡ 0
  root_first s scope e is_root = eqb_sound s 0 (subst (λ o. parent_ok s o ≡ true) is_root (parent_linked s scope e))

  type_lower : (t u : ℕ) (type : TypeExpr) → type_expr_at the_module t ≡ Some type → Memᴰ u (type_types type) → u < t
  unfolding type_linked
  type_lower t u type e named =
      below_of t u (type_types type)
      (subst (λ k. all_below k (type_types type) ≡ true) (omega arith) (map_from_at type_linked 0 the_module.types t type linked.types e))
      named

  has_root : HasRoot the_module
  has_root =
      let (scope, found) = first_scope the_module.scopes linked.started in
      record { scope = scope; found = found; no_parent = no_parent scope.parent (parent_linked 0 scope found) }
    where
      first_scope : (scopes : List Scope) → not (is_empty scopes) ≡ true → (scope : Scope) × (slice_get scopes 0 ≡ Some scope)
      first_scope [] e = absurd (false≢true e)
      first_scope (scope ∷ scopes) e = (scope, refl)

      no_parent : (o : Option ℕ) → parent_ok 0 o ≡ true → o ≡ None
      no_parent None e = refl
      no_parent (Some p) e = absurd (let h = ltb_lt p 0 e in omega arith)

  parents_lower : ParentsLower the_module
  unfolding parent
  parents_lower s p e =
      let (scope, at, is_parent) = some_of (scope_at the_module s) (λ r. r.parent) p e in parent_lower s p scope at is_parent

  module _ (d : ℕ) (definition : Definition) (at : definition_at the_module d ≡ Some definition) where
    definition_passes : definition_linked the_module definition ≡ true
    definition_passes = map_at (definition_linked the_module) the_module.definitions d definition linked.definitions at

    definition_scope : definition.scope < length the_module.scopes
    unfolding definition_linked
    definition_scope = ltb_lt definition.scope (length the_module.scopes) (and_left (ltb definition.scope (length the_module.scopes)) _ definition_passes)

    definition_type : (t : ℕ) → Memᴰ t (definition_types definition.kind) → t < length the_module.types
    unfolding definition_linked
    definition_type t named =
        below_of (length the_module.types) t (definition_types definition.kind)
        (and_left (all_below (length the_module.types) (definition_types definition.kind)) _ (and_right (ltb definition.scope (length the_module.scopes)) _ definition_passes))
        named

    definition_expression : (e : ℕ) → Memᴰ e (definition_expressions definition.kind) → e < length the_module.expressions
    unfolding definition_linked
    definition_expression e named =
        below_of (length the_module.expressions) e (definition_expressions definition.kind)
        (and_right (all_below (length the_module.types) (definition_types definition.kind)) _ (and_right (ltb definition.scope (length the_module.scopes)) _ definition_passes))
        named

  module _ (e : ℕ) (expression : ExpressionInfo) (at : expression_at the_module e ≡ Some expression) where
    expression_passes : expression_linked the_module expression ≡ true
    expression_passes = map_at (expression_linked the_module) the_module.expressions e expression linked.expressions at

    expression_scope : expression.scope < length the_module.scopes
    unfolding expression_linked
    expression_scope = ltb_lt expression.scope (length the_module.scopes) (and_left (ltb expression.scope (length the_module.scopes)) _ expression_passes)

    behind_scope : (all_below (length the_module.types) (expression_types expression) && (all_below (length the_module.definitions) (expression_definitions expression) && all_below (length the_module.expressions) (expression_expressions expression))) ≡ true
    unfolding expression_linked
    behind_scope = and_right (ltb expression.scope (length the_module.scopes)) _ expression_passes

    expression_type : (t : ℕ) → Memᴰ t (expression_types expression) → t < length the_module.types
    expression_type t named =
        below_of (length the_module.types) t (expression_types expression)
        (and_left (all_below (length the_module.types) (expression_types expression)) _ behind_scope)
        named

    behind_types : (all_below (length the_module.definitions) (expression_definitions expression) && all_below (length the_module.expressions) (expression_expressions expression)) ≡ true
    behind_types = and_right (all_below (length the_module.types) (expression_types expression)) _ behind_scope

    expression_definition : (d : ℕ) → Memᴰ d (expression_definitions expression) → d < length the_module.definitions
    expression_definition d named =
        below_of (length the_module.definitions) d (expression_definitions expression)
        (and_left (all_below (length the_module.definitions) (expression_definitions expression)) _ behind_types)
        named

    expression_expression : (f : ℕ) → Memᴰ f (expression_expressions expression) → f < length the_module.expressions
    expression_expression f named =
        below_of (length the_module.expressions) f (expression_expressions expression)
        (and_right (all_below (length the_module.definitions) (expression_definitions expression)) _ behind_types)
        named

-- ------------------------------------------------------------------ the index

-- a record of a module that is there
present_in : {A : Type 0} {o : Option Module} {the_module : Module} → o ≡ Some the_module → (f : Module → List A) (n : ℕ) → n < length (f the_module)
    → Present (let_some o None (λ r. slice_get (f r) n))
present_in {the_module = the_module} here f n less =
    let (x, found) = getElem_there (f the_module) n less in (x, ap (λ o. let_some o None (λ r. slice_get (f r) n)) here ∙ found)

module _ (index : Index) (no_fault : link_fault index ≡ None) where
  all_linked : AllTrue (linked_lines index)
  unfolding link_fault
  all_linked = none_false (linked_lines index) (none_of (first not (linked_lines index)) no_fault)
    where
      none_of : (o : Option ℕ) → let_some o None (λ n. Some (2 + n)) ≡ None → o ≡ None
      none_of None e = refl
      none_of (Some n) e = absurd (none≢some (sym e))

  -- a module's links lead
  at_module : (m : ℕ) (the_module : Module) → module_at index m ≡ Some the_module → ModuleLinked the_module
  unfolding linked_lines
  at_module m the_module here =
      module_at_linked index.modules m the_module (true_left (modules_lines index.modules) (map (question_linked index) index.questions) all_linked) here

  -- a record that is found is its module's
  in_its_module : {A : Type 0} (m : ℕ) (f : Module → Option A) (x : A) → let_some (module_at index m) None f ≡ Some x
      → (the_module : Module) × (module_at index m ≡ Some the_module) × (f the_module ≡ Some x) × ModuleLinked the_module
  in_its_module m f x e =
      let (the_module, here, at) = some_of (module_at index m) f x e in (the_module, here, at, at_module m the_module here)

  pub links_lead : LinksLead index
  links_lead =
      record {
        parent_found =
            λ m s p scope e is_parent.
            let (the_module, here, at, linked) = in_its_module m (λ r. scope_at r s) scope e in
            let lower : p < s = parent_lower the_module linked s p scope at is_parent in
            present_in here (λ r. r.scopes) p (omega (arith, lower, getElem_below the_module.scopes s at));
        type_types_found =
            λ m t u type e named.
            let (the_module, here, at, linked) = in_its_module m (λ r. type_expr_at r t) type e in
            let lower : u < t = type_lower the_module linked t u type at named in
            present_in here (λ r. r.types) u (omega (arith, lower, getElem_below the_module.types t at));
        definition_scope_found =
            λ m d definition e.
            let (the_module, here, at, linked) = in_its_module m (λ r. definition_at r d) definition e in
            present_in here (λ r. r.scopes) definition.scope (definition_scope the_module linked d definition at);
        definition_types_found =
            λ m d t definition e named.
            let (the_module, here, at, linked) = in_its_module m (λ r. definition_at r d) definition e in
            present_in here (λ r. r.types) t (definition_type the_module linked d definition at t named);
        definition_expressions_found =
            λ m d f definition e named.
            let (the_module, here, at, linked) = in_its_module m (λ r. definition_at r d) definition e in
            present_in here (λ r. r.expressions) f (definition_expression the_module linked d definition at f named);
        expression_scope_found =
            λ m f expression e.
            let (the_module, here, at, linked) = in_its_module m (λ r. expression_at r f) expression e in
            present_in here (λ r. r.scopes) expression.scope (expression_scope the_module linked f expression at);
        expression_types_found =
            λ m f t expression e named.
            let (the_module, here, at, linked) = in_its_module m (λ r. expression_at r f) expression e in
            present_in here (λ r. r.types) t (expression_type the_module linked f expression at t named);
        expression_definitions_found =
            λ m f d expression e named.
            let (the_module, here, at, linked) = in_its_module m (λ r. expression_at r f) expression e in
            present_in here (λ r. r.definitions) d (expression_definition the_module linked f expression at d named);
        expression_expressions_found =
            λ m f g expression e named.
            let (the_module, here, at, linked) = in_its_module m (λ r. expression_at r f) expression e in
            present_in here (λ r. r.expressions) g (expression_expression the_module linked f expression at g named);
      }

  pub root_there : (m : ℕ) (the_module : Module) → module_at index m ≡ Some the_module → HasRoot the_module
  root_there m the_module here = has_root the_module (at_module m the_module here)

  pub root_alone : (m s : ℕ) (scope : Scope) → scope_in index m s ≡ Some scope → scope.parent ≡ None → s ≡ 0
  root_alone m s scope e is_root =
      let (the_module, here, at, linked) = in_its_module m (λ r. scope_at r s) scope e in root_first the_module linked s scope at is_root

  pub all_parents_lower : (m : ℕ) (the_module : Module) → module_at index m ≡ Some the_module → ParentsLower the_module
  all_parents_lower m the_module here = parents_lower the_module (at_module m the_module here)

  pub all_types_earlier : (m t u : ℕ) (type : TypeExpr) → type_in index m t ≡ Some type → Memᴰ u (type_types type) → u < t
  all_types_earlier m t u type e named =
      let (the_module, here, at, linked) = in_its_module m (λ r. type_expr_at r t) type e in type_lower the_module linked t u type at named

  -- a test at a module that is there
  at_present : (m : ℕ) (the_module : Module) (test : Module → Bool) → module_at index m ≡ Some the_module → let_some (module_at index m) true test ≡ true
      → test the_module ≡ true
  at_present m the_module test here e = sym (ap (λ o. let_some o true test) here) ∙ e

  question_links : (question : Question) → question_linked index question ≡ true → QuestionLinks index question
  unfolding question_linked
  question_links (Question.expr m e None) h = tt
  question_links (Question.expr m e (Some t)) h =
      λ present.
      let (the_module, here, at) = some_of (module_at index m) (λ r. expression_at r e) present.0 present.1 in
      let there : ltb e (length the_module.expressions) ≡ true = lt-ltb e (length the_module.expressions) (getElem_below the_module.expressions e at) in
      let test = at_present m the_module (λ r. not (ltb e (length r.expressions)) || all_below (length r.types) (link (Some t))) here h in
      present_in here (λ r. r.types) t
      (below_of (length the_module.types) t (link (Some t))
      (under (ltb e (length the_module.expressions)) (all_below (length the_module.types) (link (Some t))) test there)
      (Memᴰ.head refl))
  question_links (Question.def m d) h = tt
  question_links (Question.at m position) h = tt
  question_links (Question.type m t s) h =
      λ present.
      let (the_module, here) = present in
      let test = at_present m the_module (λ r. ltb t (length r.types) && ltb s (length r.scopes)) here h in (
        present_in here (λ r. r.types) t (ltb_lt t (length the_module.types) (and_left (ltb t (length the_module.types)) _ test)),
        present_in here (λ r. r.scopes) s (ltb_lt s (length the_module.scopes) (and_right (ltb t (length the_module.types)) _ test)),
      )

  pub all_question_links : (n : ℕ) (question : Question) → slice_get index.questions n ≡ Some question → QuestionLinks index question
  unfolding linked_lines
  all_question_links n question e =
      question_links question
      (map_at (question_linked index) index.questions n question (true_right (modules_lines index.modules) (map (question_linked index) index.questions) all_linked) e)
