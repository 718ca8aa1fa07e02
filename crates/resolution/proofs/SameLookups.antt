-- In two indexes that agree outside a body, every lookup that starts outside finds the same, and finds it outside. Assumes nothing.
use Prim.Native.Nat.{ℕ, zero, suc}
use mathlib.Core.Path.{◌≡◌, refl, sym, ◌∙◌, ap, subst}
use mathlib.Core.Bool.{Bool, true, false, not, ◌&&◌, ◌||◌, false≢true}
use mathlib.Core.List.Memᴰ
use mathlib.Core.List.{List, [], ◌∷◌, Memᴰ}
use Rattle.std.specs.Prelude.{Option, None, Some}
use lib.Dec.{eqb, ltb}
use Rattle.model.specs.Common.{let_some, is_none, first_some, any, eq_numbers}
use Rattle.model.specs.Records.{Name, ScopeKind, Scope, TypeExpr, DefinitionKind, Definition, ExpressionInfo, Module, Index}
use Rattle.model.specs.Lookups.{
  module_at,
  scope_at,
  type_expr_at,
  definition_at,
  expression_at,
  module_named,
  module_by_name,
  parent,
  without_parent,
  root_scope,
  chain_from,
  scope_chain,
  named,
  latest_definition_index_by_name,
  latest_definition_index_by_name_in_chain,
  let_value,
  covered,
  in_let_initializer,
  in_order,
  visible_at,
  named_and_visible,
  latest_visible_by_name,
  resolve_name_at_position,
  covers,
  span,
  covers_shorter,
  covers_shortest,
  expression_at_position,
  is_function,
  among,
  function_around,
  first_function_around,
}
use Rattle.model.specs.Links.{module_name, scope_in, type_in, definition_in, expression_in, link, definition_expressions, expression_definitions, expression_expressions}
use Rattle.model.specs.WellFormed.{Present, LinksLead, WellFormed}
use Rattle.model.proofs.Tests.{bool_same, and_left, and_right, eqb_sound, none≢some, some-injective}
use Rattle.model.proofs.Search.{passes, passes_some, some_passes, any_same}
use Rattle.resolution.specs.Asked.{Asked}
use Rattle.resolution.specs.Inside.{Body, IsBody, Inside, body_scope, below, OutsideScope, OutsideDefinition, OutsideExpression, OutsideType, NothingLinksInside, NotCoveredInside}
use Rattle.resolution.specs.Secrecy.{Supposed}
use Rattle.resolution.proofs.Found.{Found, neither, both, found_by, found_or_else, Both, nor, and}
use Rattle.resolution.proofs.FoundBySearch.{first_found, last_found}

-- ------------------------------------------------------------------ options

-- both find x
pub found_two : {A : Type 0} {P : A → Type 0} {o o' : Option A} {x : A} → o ≡ Some x → o' ≡ Some x → P x → Found P o o'
found_two {P = P} {o' = o'} {x = x} e e' p =
    subst (λ r. Found P r o') (sym e) (subst (λ r. Found P (Some x) r) (sym e') (both x p))

pub link_mem : {o : Option ℕ} {n : ℕ} → o ≡ Some n → Memᴰ n (link o)
link_mem {n = n} e = subst (λ r. Memᴰ n (link r)) (sym e) (Memᴰ.head refl)

-- the value of a let is a link of it
let_value_named : (kind : DefinitionKind) (e : ℕ) → let_value kind ≡ Some e → Memᴰ e (definition_expressions kind)
unfolding let_value definition_expressions
let_value_named (DefinitionKind.Function t fields) e h = absurd (none≢some h)
let_value_named (DefinitionKind.Struct fields) e h = absurd (none≢some h)
let_value_named (DefinitionKind.Const t value) e h = absurd (none≢some h)
let_value_named (DefinitionKind.Let t value v path) e h = Memᴰ.append_left (link v) (link_mem h)
let_value_named (DefinitionKind.Parameter t) e h = absurd (none≢some h)
let_value_named (DefinitionKind.Use m item) e h = absurd (none≢some h)
let_value_named DefinitionKind.LoopVariable e h = absurd (none≢some h)

-- ------------------------------------------------------------------ modules

-- a record of the module is the index's record
pub in_module : {A : Type 0} {o : Option Module} {the_module : Module} → o ≡ Some the_module → (f : Module → Option A)
    → let_some o None f ≡ f the_module
in_module here f = ap (λ o. let_some o None f) here

-- a module is there if one of its records is
pub module_found : {A : Type 0} (index : Index) (m : ℕ) (f : Module → Option A) {x : A} → let_some (module_at index m) None f ≡ Some x
    → Present (module_at index m)
module_found index m f e = go (module_at index m) e
  where
    go : (o : Option Module) {x : _} → let_some o None f ≡ Some x → Present o
    go None h = absurd (none≢some h)
    go (Some the_module) h = (the_module, refl)

-- ------------------------------------------------------------------ outside records lead outside

module _ (index : Index) (body : Body) (accepted : LinksLead index) (no_links : NothingLinksInside index body) where
  pub parent_outside : {m s p : ℕ} (outside : OutsideScope index body m s) → outside.scope.parent ≡ Some p → OutsideScope index body m p
  parent_outside {m} {s} {p} outside e =
      let (scope, found) = accepted.parent_found m s p outside.scope outside.found e in
      record { scope = scope; found = found; not_inside = λ inside. outside.not_inside (below outside.found e inside) }

  pub definition_scope_outside : {m d : ℕ} (outside : OutsideDefinition index body m d) → OutsideScope index body m outside.definition.scope
  definition_scope_outside {m} {d} outside =
      let (scope, found) = accepted.definition_scope_found m d outside.definition outside.found in
      record { scope = scope; found = found; not_inside = outside.not_inside }

  pub expression_scope_outside : {m e : ℕ} (outside : OutsideExpression index body m e) → OutsideScope index body m outside.expression.scope
  expression_scope_outside {m} {e} outside =
      let (scope, found) = accepted.expression_scope_found m e outside.expression outside.found in
      record { scope = scope; found = found; not_inside = outside.not_inside }

  pub definition_expression_outside : {m d e : ℕ} (outside : OutsideDefinition index body m d)
      → Memᴰ e (definition_expressions outside.definition.kind) → OutsideExpression index body m e
  definition_expression_outside {m} {d} {e} outside named =
      let (expression, found) = accepted.definition_expressions_found m d e outside.definition outside.found named in
      record { expression = expression; found = found; not_inside = no_links.definition_to_expression m d e outside named expression found }

  pub expression_definition_outside : {m e d : ℕ} (outside : OutsideExpression index body m e)
      → Memᴰ d (expression_definitions outside.expression) → OutsideDefinition index body m d
  expression_definition_outside {m} {e} {d} outside named =
      let (definition, found) = accepted.expression_definitions_found m e d outside.expression outside.found named in
      record { definition = definition; found = found; not_inside = no_links.expression_to_definition m e d outside named definition found }

  pub expression_expression_outside : {m e f : ℕ} (outside : OutsideExpression index body m e)
      → Memᴰ f (expression_expressions outside.expression) → OutsideExpression index body m f
  expression_expression_outside {m} {e} {f} outside named =
      let (expression, found) = accepted.expression_expressions_found m e f outside.expression outside.found named in
      record { expression = expression; found = found; not_inside = no_links.expression_to_expression m e f outside named expression found }

-- a scope without parent is not inside
abbrev IsModuleScope : ScopeKind → Type 0
IsModuleScope ScopeKind.ModuleScope = Unit {0}
IsModuleScope ScopeKind.FunctionScope = ⊥
IsModuleScope ScopeKind.BlockScope = ⊥
IsModuleScope ScopeKind.LoopScope = ⊥

pub root_outside : (index : Index) (body : Body) → WellFormed index → IsBody index body → (m s : ℕ) (scope : Scope)
    → scope_in index m s ≡ Some scope → scope.parent ≡ None → Inside index body m s → ⊥
root_outside index body formed is_body m s scope e root (body_scope m_is s_is) =
    subst IsModuleScope
    (sym (formed.root_kind m s scope e root) ∙ ap (λ r. r.kind) (some-injective (sym e ∙ here)) ∙ is_body.is_function)
    tt
  where
    here : scope_in index m s ≡ Some is_body.scope
    here = (λ i. scope_in index (m_is i) (s_is i)) ∙ is_body.found
root_outside index body formed is_body m s scope e root (below e' has_parent inside) =
    none≢some (sym root ∙ ap (λ r. r.parent) (some-injective (sym e ∙ e')) ∙ has_parent)

-- a module with its name
named_module : (o : Option Module) (name : Name) → let_some o None (λ the_module. Some the_module.name) ≡ Some name
    → (the_module : Module) × (o ≡ Some the_module) × (the_module.name ≡ name)
named_module None name e = absurd (none≢some e)
named_module (Some the_module) name e = (the_module, refl, some-injective e)

-- ------------------------------------------------------------------ two indexes that agree

-- two accepted indexes of which demand 3 supposes what it supposes
pub record Hidden (first second : Index) (first_body second_body : Body) (asked : Asked) : Type 0 where
  pub supposed : Supposed first second first_body second_body asked
  pub first_formed : WellFormed first
  pub second_formed : WellFormed second

-- an outside T that is there
pub record OutsideTypeExpr (index : Index) (body : Body) (asked : Asked) (m t : ℕ) : Type 0 where
  pub type : TypeExpr
  pub found : type_in index m t ≡ Some type
  pub named : OutsideType index body asked m t

-- a module of the one and of the other
pub record Sides (first second : Index) (m : ℕ) : Type 0 where
  pub left : Module
  pub right : Module
  pub left_found : module_at first m ≡ Some left
  pub right_found : module_at second m ≡ Some right

module _ (A B : Index) (a b : Body) (q : Asked) (hidden : Hidden A B a b q) where
  pub sides_of : (m : ℕ) → Present (module_at A m) → Sides A B m
  sides_of m (left, e) =
      let (right, e') = module_found B m (λ the_module. Some the_module.name) (hidden.supposed.agree.first_stands.modules m left.name (in_module e (λ the_module. Some the_module.name))) in
      record { left = left; right = right; left_found = e; right_found = e' }

  -- a module that the one lacks, the other lacks
  pub modules_both : (m : ℕ) → Both (λ left right. (module_at A m ≡ Some left) × (module_at B m ≡ Some right)) (module_at A m) (module_at B m)
  modules_both m = go (module_at A m) (module_at B m) refl refl
    where
      names : Module → Option Name
      names the_module = Some the_module.name

      go : (o o' : Option Module) → module_at A m ≡ o → module_at B m ≡ o'
          → Both (λ left right. (o ≡ Some left) × (o' ≡ Some right)) o o'
      go None None e e' = nor
      go (Some left) (Some right) e e' = and left right (refl, refl)
      go (Some left) None e e' =
          let (right, h) = module_found B m names (hidden.supposed.agree.first_stands.modules m left.name (in_module e names)) in
          absurd (none≢some (sym e' ∙ h))
      go None (Some right) e e' =
          let (left, h) = module_found A m names (hidden.supposed.agree.second_stands.modules m right.name (in_module e' names)) in
          absurd (none≢some (sym e ∙ h))

  module _ (m : ℕ) (sides : Sides A B m) where
    -- ---------------------------------------------------------------- records

    pub left_scope : {s : ℕ} (outside : OutsideScope A a m s) → scope_at sides.left s ≡ Some outside.scope
    left_scope {s} outside = sym (in_module sides.left_found (λ the_module. scope_at the_module s)) ∙ outside.found

    pub right_scope : {s : ℕ} (outside : OutsideScope A a m s) → scope_at sides.right s ≡ Some outside.scope
    right_scope {s} outside =
        sym (in_module sides.right_found (λ the_module. scope_at the_module s)) ∙ (hidden.supposed.agree.first_stands.scopes m s outside).0

    pub left_definition : {d : ℕ} (outside : OutsideDefinition A a m d) → definition_at sides.left d ≡ Some outside.definition
    left_definition {d} outside = sym (in_module sides.left_found (λ the_module. definition_at the_module d)) ∙ outside.found

    pub right_definition : {d : ℕ} (outside : OutsideDefinition A a m d) → definition_at sides.right d ≡ Some outside.definition
    right_definition {d} outside =
        sym (in_module sides.right_found (λ the_module. definition_at the_module d)) ∙ (hidden.supposed.agree.first_stands.definitions m d outside).0

    pub left_expression : {e : ℕ} (outside : OutsideExpression A a m e) → expression_at sides.left e ≡ Some outside.expression
    left_expression {e} outside = sym (in_module sides.left_found (λ the_module. expression_at the_module e)) ∙ outside.found

    pub right_expression : {e : ℕ} (outside : OutsideExpression A a m e) → expression_at sides.right e ≡ Some outside.expression
    right_expression {e} outside =
        sym (in_module sides.right_found (λ the_module. expression_at the_module e)) ∙ (hidden.supposed.agree.first_stands.expressions m e outside).0

    pub left_type : {t : ℕ} (outside : OutsideTypeExpr A a q m t) → type_expr_at sides.left t ≡ Some outside.type
    left_type {t} outside = sym (in_module sides.left_found (λ the_module. type_expr_at the_module t)) ∙ outside.found

    pub right_type : {t : ℕ} (outside : OutsideTypeExpr A a q m t) → type_expr_at sides.right t ≡ Some outside.type
    right_type {t} outside =
        sym (in_module sides.right_found (λ the_module. type_expr_at the_module t))
        ∙ (hidden.supposed.agree.first_stands.types m t outside.type outside.named outside.found).0

    -- ---------------------------------------------------------------- scopes

    parent_found : {s : ℕ} → OutsideScope A a m s → Found (OutsideScope A a m) (parent sides.left s) (parent sides.right s)
    unfolding parent
    parent_found {s} outside =
        found_by (OutsideScope A a m)
        (in_module' (left_scope outside) ∙ sym (in_module' (right_scope outside)))
        (λ p e. parent_outside A a hidden.first_formed.links hidden.supposed.first_no_links outside (sym (in_module' (left_scope outside)) ∙ e))
      where
        in_module' : {o : Option Scope} {scope : Scope} → o ≡ Some scope → let_some o None (λ r. r.parent) ≡ scope.parent
        in_module' here = ap (λ o. let_some o None (λ r. r.parent)) here

    -- the same scopes, all outside
    data Chain : List ℕ → List ℕ → Type 0 where
      chain_nil : Chain [] []
      chain_cons : {s : ℕ} {xs ys : List ℕ} → OutsideScope A a m s → Chain xs ys → Chain (s ∷ xs) (s ∷ ys)

    chain_let_some : {o o' : Option ℕ} {f g : ℕ → List ℕ} → Found (OutsideScope A a m) o o'
        → ((p : ℕ) → OutsideScope A a m p → Chain (f p) (g p)) → Chain (let_some o [] f) (let_some o' [] g)
    chain_let_some neither h = chain_nil
    chain_let_some (both p outside) h = h p outside

    chain_from_same : (more : ℕ) {s : ℕ} → OutsideScope A a m s → Chain (chain_from more sides.left s) (chain_from more sides.right s)
    unfolding chain_from
    chain_from_same zero outside = chain_nil
    chain_from_same (suc more) outside =
        chain_cons outside (chain_let_some (parent_found outside) (λ p outside_p. chain_from_same more outside_p))

    chain_same : {s : ℕ} → OutsideScope A a m s → Chain (scope_chain sides.left s) (scope_chain sides.right s)
    unfolding scope_chain
    chain_same {s} outside = chain_from_same (suc s) outside

    chain_found : {P : ℕ → Type 0} {xs ys : List ℕ} {f g : ℕ → Option ℕ} → Chain xs ys
        → ((s : ℕ) → OutsideScope A a m s → Found P (f s) (g s)) → Found P (first_some f xs) (first_some g ys)
    unfolding first_some
    chain_found chain_nil h = neither
    chain_found (chain_cons {s = s} outside rest) h = found_or_else (h s outside) (chain_found rest h)

    -- ---------------------------------------------------------------- definitions

    -- two tests that pass at outside definitions only, and there alike
    passes_same : (test test' : Definition → Bool)
        → ((d : ℕ) (x : Definition) → definition_in A m d ≡ Some x → test x ≡ true → Inside A a m x.scope → ⊥)
        → ((d : ℕ) (x : Definition) → definition_in B m d ≡ Some x → test' x ≡ true → Inside B b m x.scope → ⊥)
        → ((d : ℕ) (outside : OutsideDefinition A a m d) → test outside.definition ≡ test' outside.definition)
        → (d : ℕ) → passes test sides.left.definitions d ≡ passes test' sides.right.definitions d
    passes_same test test' in_A in_B same d =
        bool_same
        (passes test sides.left.definitions d)
        (passes test' sides.right.definitions d)
        (λ e. to_right (passes_some (definition_at sides.left d) test e))
        (λ e. to_left (passes_some (definition_at sides.right d) test' e))
      where
        to_right : (x : Definition) × (definition_at sides.left d ≡ Some x) × (test x ≡ true) → passes test' sides.right.definitions d ≡ true
        to_right (x, e, t) =
            let e' : definition_in A m d ≡ Some x = in_module sides.left_found (λ the_module. definition_at the_module d) ∙ e in
            let outside : OutsideDefinition A a m d = record { definition = x; found = e'; not_inside = in_A d x e' t } in
            some_passes test' (right_definition outside) (sym (same d outside) ∙ t)

        to_left : (x : Definition) × (definition_at sides.right d ≡ Some x) × (test' x ≡ true) → passes test sides.left.definitions d ≡ true
        to_left (x, e, t) =
            let e' : definition_in B m d ≡ Some x = in_module sides.right_found (λ the_module. definition_at the_module d) ∙ e in
            let stands = hidden.supposed.agree.second_stands.definitions m d (record { definition = x; found = e'; not_inside = in_B d x e' t }) in
            let outside : OutsideDefinition A a m d = record { definition = x; found = stands.0; not_inside = stands.1 } in
            some_passes test (left_definition outside) (same d outside ∙ t)

    passes_outside : (test : Definition → Bool)
        → ((d : ℕ) (x : Definition) → definition_in A m d ≡ Some x → test x ≡ true → Inside A a m x.scope → ⊥)
        → (d : ℕ) → passes test sides.left.definitions d ≡ true → OutsideDefinition A a m d
    passes_outside test in_A d e =
        let (x, e', t) = passes_some (definition_at sides.left d) test e in
        let e'' : definition_in A m d ≡ Some x = in_module sides.left_found (λ the_module. definition_at the_module d) ∙ e' in
        record { definition = x; found = e''; not_inside = in_A d x e'' t }

    -- a definition of a name in an outside scope is outside
    named_outside : (index : Index) (body : Body) (s : ℕ) (name : Name) → (Inside index body m s → ⊥) → (x : Definition)
        → named s name x ≡ true → Inside index body m x.scope → ⊥
    unfolding named
    named_outside index body s name outside x e inside =
        outside (subst (Inside index body m) (eqb_sound x.scope s (and_left (eqb x.scope s) (eq_numbers x.name name) e)) inside)

    pub latest_found : (name : Name) (s : ℕ) → OutsideScope A a m s
        → Found (OutsideDefinition A a m) (latest_definition_index_by_name sides.left s name) (latest_definition_index_by_name sides.right s name)
    unfolding latest_definition_index_by_name
    latest_found name s outside =
        last_found (OutsideDefinition A a m) (named s name) (named s name) sides.left.definitions sides.right.definitions
        (passes_same (named s name) (named s name) in_A in_B (λ d o. refl))
        (passes_outside (named s name) in_A)
      where
        in_A : (d : ℕ) (x : Definition) → definition_in A m d ≡ Some x → named s name x ≡ true → Inside A a m x.scope → ⊥
        in_A d x e t = named_outside A a s name outside.not_inside x t

        in_B : (d : ℕ) (x : Definition) → definition_in B m d ≡ Some x → named s name x ≡ true → Inside B b m x.scope → ⊥
        in_B d x e t = named_outside B b s name (hidden.supposed.agree.first_stands.scopes m s outside).1 x t

    pub chain_lookup_found : (name : Name) {s : ℕ} → OutsideScope A a m s
        → Found (OutsideDefinition A a m) (latest_definition_index_by_name_in_chain sides.left s name) (latest_definition_index_by_name_in_chain sides.right s name)
    unfolding latest_definition_index_by_name_in_chain
    chain_lookup_found name outside = chain_found (chain_same outside) (λ s o. latest_found name s o)

    -- ---------------------------------------------------------------- names at a position

    let_initializer_same : {d : ℕ} (outside : OutsideDefinition A a m d) (start end : ℕ)
        → in_let_initializer sides.left outside.definition start end ≡ in_let_initializer sides.right outside.definition start end
    unfolding in_let_initializer
    let_initializer_same outside start end = go (let_value outside.definition.kind) refl
      where
        go : (o : Option ℕ) → let_value outside.definition.kind ≡ o
            → let_some o false (λ e. covered (expression_at sides.left e) start end) ≡ let_some o false (λ e. covered (expression_at sides.right e) start end)
        go None h = refl
        go (Some e) h =
            let value = definition_expression_outside A a hidden.first_formed.links hidden.supposed.first_no_links outside (let_value_named outside.definition.kind e h) in
            ap (λ o. covered o start end) (left_expression value ∙ sym (right_expression value))

    visible_same : {d : ℕ} (outside : OutsideDefinition A a m d) (start end : ℕ)
        → visible_at sides.left outside.definition start end ≡ visible_at sides.right outside.definition start end
    unfolding visible_at
    visible_same outside start end = ap (λ inside. in_order outside.definition start && not inside) (let_initializer_same outside start end)

    latest_visible_found : (name : Name) (start end s : ℕ) → OutsideScope A a m s
        → Found (OutsideDefinition A a m) (latest_visible_by_name sides.left s name start end) (latest_visible_by_name sides.right s name start end)
    unfolding latest_visible_by_name named_and_visible
    latest_visible_found name start end s outside =
        last_found (OutsideDefinition A a m) (test sides.left) (test sides.right) sides.left.definitions sides.right.definitions
        (passes_same (test sides.left) (test sides.right) in_A in_B (λ d o. ap (λ v. named s name o.definition && v) (visible_same o start end)))
        (passes_outside (test sides.left) in_A)
      where
        test : Module → Definition → Bool
        test the_module x = named s name x && visible_at the_module x start end

        in_A : (d : ℕ) (x : Definition) → definition_in A m d ≡ Some x → test sides.left x ≡ true → Inside A a m x.scope → ⊥
        in_A d x e t = named_outside A a s name outside.not_inside x (and_left (named s name x) (visible_at sides.left x start end) t)

        in_B : (d : ℕ) (x : Definition) → definition_in B m d ≡ Some x → test sides.right x ≡ true → Inside B b m x.scope → ⊥
        in_B d x e t =
            named_outside B b s name (hidden.supposed.agree.first_stands.scopes m s outside).1 x
            (and_left (named s name x) (visible_at sides.right x start end) t)

    pub name_at_position_found : (name : Name) (start end : ℕ) {s : ℕ} → OutsideScope A a m s
        → Found (OutsideDefinition A a m)
        (resolve_name_at_position sides.left name s start end)
        (resolve_name_at_position sides.right name s start end)
    unfolding resolve_name_at_position
    name_at_position_found name start end outside = chain_found (chain_same outside) (λ s o. latest_visible_found name start end s o)

    -- ---------------------------------------------------------------- the expression at a byte

    -- two tests that pass at outside expressions only, and there alike
    expression_passes_same : (test test' : ExpressionInfo → Bool)
        → ((e : ℕ) (x : ExpressionInfo) → expression_in A m e ≡ Some x → test x ≡ true → Inside A a m x.scope → ⊥)
        → ((e : ℕ) (x : ExpressionInfo) → expression_in B m e ≡ Some x → test' x ≡ true → Inside B b m x.scope → ⊥)
        → ((e : ℕ) (outside : OutsideExpression A a m e) → test outside.expression ≡ test' outside.expression)
        → (e : ℕ) → passes test sides.left.expressions e ≡ passes test' sides.right.expressions e
    expression_passes_same test test' in_A in_B same e =
        bool_same
        (passes test sides.left.expressions e)
        (passes test' sides.right.expressions e)
        (λ h. to_right (passes_some (expression_at sides.left e) test h))
        (λ h. to_left (passes_some (expression_at sides.right e) test' h))
      where
        to_right : (x : ExpressionInfo) × (expression_at sides.left e ≡ Some x) × (test x ≡ true) → passes test' sides.right.expressions e ≡ true
        to_right (x, h, t) =
            let h' : expression_in A m e ≡ Some x = in_module sides.left_found (λ the_module. expression_at the_module e) ∙ h in
            let outside : OutsideExpression A a m e = record { expression = x; found = h'; not_inside = in_A e x h' t } in
            some_passes test' (right_expression outside) (sym (same e outside) ∙ t)

        to_left : (x : ExpressionInfo) × (expression_at sides.right e ≡ Some x) × (test' x ≡ true) → passes test sides.left.expressions e ≡ true
        to_left (x, h, t) =
            let h' : expression_in B m e ≡ Some x = in_module sides.right_found (λ the_module. expression_at the_module e) ∙ h in
            let stands = hidden.supposed.agree.second_stands.expressions m e (record { expression = x; found = h'; not_inside = in_B e x h' t }) in
            let outside : OutsideExpression A a m e = record { expression = x; found = stands.0; not_inside = stands.1 } in
            some_passes test (left_expression outside) (same e outside ∙ t)

    expression_passes_outside : (test : ExpressionInfo → Bool)
        → ((e : ℕ) (x : ExpressionInfo) → expression_in A m e ≡ Some x → test x ≡ true → Inside A a m x.scope → ⊥)
        → (e : ℕ) → passes test sides.left.expressions e ≡ true → OutsideExpression A a m e
    expression_passes_outside test in_A e h =
        let (x, h', t) = passes_some (expression_at sides.left e) test h in
        let h'' : expression_in A m e ≡ Some x = in_module sides.left_found (λ the_module. expression_at the_module e) ∙ h' in
        record { expression = x; found = h''; not_inside = in_A e x h'' t }

    pub at_position_found : (position : ℕ) → NotCoveredInside A a m position → NotCoveredInside B b m position
        → Found (OutsideExpression A a m) (expression_at_position sides.left position) (expression_at_position sides.right position)
    unfolding expression_at_position covers_shortest covers_shorter
    at_position_found position not_A not_B =
        last_found (OutsideExpression A a m) (test sides.left) (test sides.right) sides.left.expressions sides.right.expressions
        (expression_passes_same (test sides.left) (test sides.right) (in_A sides.left) (in_B sides.right)
        (λ e o. ap (λ found. covers position o.expression && not found) (shorter_same (span o.expression))))
        (expression_passes_outside (test sides.left) (in_A sides.left))
      where
        shorter : ℕ → ExpressionInfo → Bool
        shorter than y = covers position y && ltb (span y) than

        test : Module → ExpressionInfo → Bool
        test the_module x = covers position x && not (any (shorter (span x)) the_module.expressions)

        in_A : (the_module : Module) (e : ℕ) (x : ExpressionInfo) → expression_in A m e ≡ Some x → test the_module x ≡ true → Inside A a m x.scope → ⊥
        in_A the_module e x h t = not_A e x h (and_left (covers position x) _ t)

        in_B : (the_module : Module) (e : ℕ) (x : ExpressionInfo) → expression_in B m e ≡ Some x → test the_module x ≡ true → Inside B b m x.scope → ⊥
        in_B the_module e x h t = not_B e x h (and_left (covers position x) _ t)

        shorter_same : (than : ℕ) → any (shorter than) sides.left.expressions ≡ any (shorter than) sides.right.expressions
        shorter_same than =
            any_same (shorter than) (shorter than) sides.left.expressions sides.right.expressions
            (expression_passes_same (shorter than) (shorter than)
            (λ e x h t. not_A e x h (and_left (covers position x) _ t))
            (λ e x h t. not_B e x h (and_left (covers position x) _ t))
            (λ e o. refl))

    -- ---------------------------------------------------------------- the function of a `return`

    chain_among : {xs ys : List ℕ} → Chain xs ys → (n : ℕ) → among n xs ≡ among n ys
    unfolding among any
    chain_among chain_nil n = refl
    chain_among (chain_cons {s = s} outside rest) n = ap (λ r. eqb n s || r) (chain_among rest n)

    -- a scope of the chain is outside, in both indexes
    chain_outside : {xs ys : List ℕ} → Chain xs ys → (n : ℕ) → among n xs ≡ true → (Inside A a m n → ⊥) × (Inside B b m n → ⊥)
    unfolding among any
    chain_outside chain_nil n e = absurd (false≢true e)
    chain_outside (chain_cons {s = s} {xs = xs} outside rest) n e = go (λ t. chain_outside rest n t) (eqb n s) refl e
      where
        go : (any (eqb n) xs ≡ true → (Inside A a m n → ⊥) × (Inside B b m n → ⊥)) → (found : Bool) → eqb n s ≡ found → (found || any (eqb n) xs) ≡ true → (Inside A a m n → ⊥) × (Inside B b m n → ⊥)
        go later true h t = (
          λ inside. outside.not_inside (subst (Inside A a m) (eqb_sound n s h) inside),
          λ inside. (hidden.supposed.agree.first_stands.scopes m s outside).1 (subst (Inside B b m) (eqb_sound n s h) inside),
        )
        go later false h t = later t

    pub first_function_found : {s : ℕ} → OutsideScope A a m s
        → Found (OutsideDefinition A a m) (first_function_around sides.left s) (first_function_around sides.right s)
    unfolding first_function_around function_around
    first_function_found {s} outside =
        first_found (OutsideDefinition A a m) (test sides.left) (test sides.right) sides.left.definitions sides.right.definitions
        (passes_same (test sides.left) (test sides.right) in_A in_B
        (λ d o. ap (λ v. is_function o.definition.kind && v) (chain_among (chain_same outside) o.definition.scope)))
        (passes_outside (test sides.left) in_A)
      where
        test : Module → Definition → Bool
        test the_module x = is_function x.kind && among x.scope (scope_chain the_module s)

        in_A : (d : ℕ) (x : Definition) → definition_in A m d ≡ Some x → test sides.left x ≡ true → Inside A a m x.scope → ⊥
        in_A d x e t =
            (chain_outside (chain_same outside) x.scope (and_right (is_function x.kind) (among x.scope (scope_chain sides.left s)) t)).0

        in_B : (d : ℕ) (x : Definition) → definition_in B m d ≡ Some x → test sides.right x ≡ true → Inside B b m x.scope → ⊥
        in_B d x e t =
            (chain_outside (chain_same outside) x.scope
            (chain_among (chain_same outside) x.scope ∙ and_right (is_function x.kind) (among x.scope (scope_chain sides.right s)) t)).1

    -- ---------------------------------------------------------------- the root scope

    no_parent : (o : Option ℕ) → is_none o ≡ true → o ≡ None
    no_parent None e = refl
    no_parent (Some n) e = absurd (false≢true e)

    pub root_found : Found (OutsideScope A a m) (root_scope sides.left) (root_scope sides.right)
    unfolding root_scope without_parent
    root_found =
        first_found (OutsideScope A a m) test test sides.left.scopes sides.right.scopes
        (λ s.
        bool_same (passes test sides.left.scopes s) (passes test sides.right.scopes s)
        (λ e. to_right s (outside_A s e))
        (λ e. to_left s e))
        (λ s e. (outside_A s e).0)
      where
        test : Scope → Bool
        test scope = is_none scope.parent

        outside_A : (s : ℕ) → passes test sides.left.scopes s ≡ true → (outside : OutsideScope A a m s) × (test outside.scope ≡ true)
        outside_A s e =
            let (x, e', t) = passes_some (scope_at sides.left s) test e in
            let e'' : scope_in A m s ≡ Some x = in_module sides.left_found (λ the_module. scope_at the_module s) ∙ e' in
            (record { scope = x; found = e''; not_inside = root_outside A a hidden.first_formed hidden.supposed.first_is_body m s x e'' (no_parent x.parent t) }, t)

        to_right : (s : ℕ) → (outside : OutsideScope A a m s) × (test outside.scope ≡ true) → passes test sides.right.scopes s ≡ true
        to_right s (outside, t) = some_passes test (right_scope outside) t

        to_left : (s : ℕ) → passes test sides.right.scopes s ≡ true → passes test sides.left.scopes s ≡ true
        to_left s e =
            let (x, e', t) = passes_some (scope_at sides.right s) test e in
            let e'' : scope_in B m s ≡ Some x = in_module sides.right_found (λ the_module. scope_at the_module s) ∙ e' in
            let stands = hidden.supposed.agree.second_stands.scopes m s (record { scope = x; found = e''; not_inside = root_outside B b hidden.second_formed hidden.supposed.second_is_body m s x e'' (no_parent x.parent t) }) in
            some_passes test (sym (in_module sides.left_found (λ the_module. scope_at the_module s)) ∙ stands.0) t

  -- ------------------------------------------------------------------ modules by name

  pub module_by_name_found : (name : Name) → Found (λ m. Present (module_at A m)) (module_by_name A name) (module_by_name B name)
  unfolding module_by_name module_named
  module_by_name_found name =
      first_found (λ m. Present (module_at A m)) test test A.modules B.modules
      (λ m.
      bool_same (passes test A.modules m) (passes test B.modules m)
      (λ e. across A B m (hidden.supposed.agree.first_stands.modules m) e)
      (λ e. across B A m (hidden.supposed.agree.second_stands.modules m) e))
      (λ m e. let (x, e', t) = passes_some (module_at A m) test e in (x, e'))
    where
      test : Module → Bool
      test the_module = eq_numbers the_module.name name

      across : (one other : Index) (m : ℕ) → ((n : Name) → module_name one m ≡ Some n → module_name other m ≡ Some n)
          → passes test one.modules m ≡ true → passes test other.modules m ≡ true
      across one other m stands e =
          let (x, e', t) = passes_some (module_at one m) test e in
          let (y, found_y, same_name) = named_module (module_at other m) x.name (stands x.name (in_module e' (λ the_module. Some the_module.name))) in
          some_passes test found_y (ap (λ n. eq_numbers n name) same_name ∙ t)
