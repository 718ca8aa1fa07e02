-- The walk from a scope to its ancestors, of which the code counts how many it still looks at. Assumes nothing.
use mathlib.Core.Path.{◌≡◌, sym, ap, ◌∙◌}
use mathlib.Core.Bool.{true, false, ◌||◌}
use Prim.Native.Nat.{ℕ, suc, ◌+◌, ◌-◌, ◌≤◌, ◌<◌}
use native.Mathlib.Numerals.{add-one}
use native.Mathlib.Omega.{arith}
use mathlib.Core.List.{List, [], ◌∷◌}
use Rattle.std.specs.Prelude.{Option, None, Some}
use borrow.Author.Tests.{eq-eqb, ne_eqb}
use Rattle.model.specs.Common.{let_some, or_else, first_some, any}
use Rattle.model.specs.Records as model
use Rattle.model.specs.Lookups.{parent, chain_from, scope_chain, among}
use Rattle.records.specs.Meaning.{found_scope_of, scope_link_of}
use Rattle.records.specs.declared.Scope.{Scope}

-- ------------------------------------------------------------------ one step

-- the parent of a scope that was looked for
abbrev up : Option model.Scope → Option ℕ
up o = let_some o None (λ scope. scope.parent)

pub parent_absent : (r : Option Scope) (o : Option model.Scope) → r ≡ None → found_scope_of r ≡ o → None ≡ up o
parent_absent r o h e = ap (λ r. up (found_scope_of r)) (sym h) ∙ ap up e

pub parent_found : (r : Option Scope) (o : Option model.Scope) (s : Scope) → r ≡ Some s → found_scope_of r ≡ o → scope_link_of s.parent ≡ up o
parent_found r o s h e = ap (λ r. up (found_scope_of r)) (sym h) ∙ ap up e

-- ------------------------------------------------------------------ the scopes that are left

module _ (the_module : model.Module) where
  pub chain_begin : (s : ℕ) → scope_chain the_module s ≡ chain_from (s + 1) the_module s
  unfolding scope_chain
  chain_begin s = ap (λ n. chain_from n the_module s) (sym (add-one s))

  chain_turn : (left s : ℕ) → 0 < left → chain_from left the_module s ≡ s ∷ let_some (parent the_module s) [] (λ p. chain_from (left - 1) the_module p)
  unfolding chain_from
  chain_turn left s h = ap (λ n. chain_from n the_module s) (one_more left h)
    where
      one_more : (n : ℕ) → 0 < n → n ≡ suc (n - 1)
      one_more n h = omega arith

  chain_top : (left s : ℕ) (y : Option ℕ) → 0 < left → y ≡ parent the_module s → y ≡ None → chain_from left the_module s ≡ s ∷ []
  chain_top left s y h is top =
      chain_turn left s h ∙ ap (λ (o : Option ℕ). s ∷ let_some o [] (λ p. chain_from (left - 1) the_module p)) (sym is ∙ top)

  chain_up : (left s p : ℕ) (y : Option ℕ) → 0 < left → y ≡ parent the_module s → y ≡ Some p → chain_from left the_module s ≡ s ∷ chain_from (left - 1) the_module p
  chain_up left s p y h is to =
      chain_turn left s h ∙ ap (λ (o : Option ℕ). s ∷ let_some o [] (λ p. chain_from (left - 1) the_module p)) (sym is ∙ to)

  chain_end : (left s : ℕ) → left ≤ 0 → chain_from left the_module s ≡ []
  unfolding chain_from
  chain_end left s h = ap (λ n. chain_from n the_module s) (none_left left h)
    where
      none_left : (n : ℕ) → n ≤ 0 → n ≡ 0
      none_left n h = omega arith

-- ------------------------------------------------------------------ the first answer that a function gives along the scopes

module _ (g : ℕ → Option ℕ) where
  answer_here : (s d : ℕ) (rest : List ℕ) (x : Option ℕ) → x ≡ g s → x ≡ Some d → first_some g (s ∷ rest) ≡ Some d
  unfolding first_some
  answer_here s d rest x is hit = ap (λ o. or_else o (first_some g rest)) (sym is ∙ hit)

  answer_later : (s : ℕ) (rest : List ℕ) (x : Option ℕ) → x ≡ g s → x ≡ None → first_some g (s ∷ rest) ≡ first_some g rest
  unfolding first_some
  answer_later s rest x is miss = ap (λ o. or_else o (first_some g rest)) (sym is ∙ miss)

  no_answer : first_some g [] ≡ None
  unfolding first_some
  no_answer = λ i. None

module _ (g : ℕ → Option ℕ) (the_module : model.Module) where
  pub found_begin : (s n : ℕ) → n ≡ s + 1 → first_some g (scope_chain the_module s) ≡ first_some g (chain_from n the_module s)
  found_begin s n e = ap (first_some g) (chain_begin the_module s) ∙ ap (λ n. first_some g (chain_from n the_module s)) (sym e)

  pub found_hit : (left s : ℕ) (x : Option ℕ) (d : ℕ) → 0 < left → x ≡ g s → x ≡ Some d → first_some g (chain_from left the_module s) ≡ Some d
  found_hit left s x d h e hit = ap (first_some g) (chain_turn the_module left s h) ∙ answer_here g s d _ x e hit

  pub found_top : (left s : ℕ) (x y : Option ℕ) → 0 < left → x ≡ g s → x ≡ None → y ≡ parent the_module s → y ≡ None
      → first_some g (chain_from left the_module s) ≡ None
  found_top left s x y h e miss is top = ap (first_some g) (chain_top the_module left s y h is top) ∙ answer_later g s [] x e miss ∙ no_answer g

  pub found_up : (left less s p : ℕ) (x y : Option ℕ) → 0 < left → less ≡ left - 1 → x ≡ g s → x ≡ None → y ≡ parent the_module s → y ≡ Some p
      → first_some g (chain_from left the_module s) ≡ first_some g (chain_from less the_module p)
  found_up left less s p x y h one e miss is to =
      ap (first_some g) (chain_up the_module left s p y h is to) ∙ answer_later g s _ x e miss
      ∙ ap (λ n. first_some g (chain_from n the_module p)) (sym one)

  pub found_end : (left s : ℕ) → left ≤ 0 → first_some g (chain_from left the_module s) ≡ None
  found_end left s h = ap (first_some g) (chain_end the_module left s h) ∙ no_answer g

-- ------------------------------------------------------------------ whether a scope is among them

module _ (x : ℕ) where
  among_here : (s : ℕ) (rest : List ℕ) → x ≡ s → among x (s ∷ rest) ≡ true
  unfolding among any
  among_here s rest eq = ap (λ b. b || among x rest) (eq-eqb x s eq)

  among_later : (s : ℕ) (rest : List ℕ) → (x ≡ s → ⊥) → among x (s ∷ rest) ≡ among x rest
  unfolding among any
  among_later s rest ne = ap (λ b. b || among x rest) (ne_eqb x s ne)

  among_none : among x [] ≡ false
  unfolding among any
  among_none = λ i. false

module _ (x : ℕ) (the_module : model.Module) where
  pub met_begin : (s n : ℕ) → n ≡ s + 1 → among x (scope_chain the_module s) ≡ among x (chain_from n the_module s)
  met_begin s n e = ap (among x) (chain_begin the_module s) ∙ ap (λ n. among x (chain_from n the_module s)) (sym e)

  pub met_hit : (left s : ℕ) → 0 < left → x ≡ s → among x (chain_from left the_module s) ≡ true
  met_hit left s h eq = ap (among x) (chain_turn the_module left s h) ∙ among_here x s _ eq

  pub met_top : (left s : ℕ) (y : Option ℕ) → 0 < left → (x ≡ s → ⊥) → y ≡ parent the_module s → y ≡ None → among x (chain_from left the_module s) ≡ false
  met_top left s y h ne is top = ap (among x) (chain_top the_module left s y h is top) ∙ among_later x s [] ne ∙ among_none x

  pub met_up : (left less s p : ℕ) (y : Option ℕ) → 0 < left → less ≡ left - 1 → (x ≡ s → ⊥) → y ≡ parent the_module s → y ≡ Some p
      → among x (chain_from left the_module s) ≡ among x (chain_from less the_module p)
  met_up left less s p y h one ne is to =
      ap (among x) (chain_up the_module left s p y h is to) ∙ among_later x s _ ne ∙ ap (λ n. among x (chain_from n the_module p)) (sym one)

  pub met_end : (left s : ℕ) → left ≤ 0 → among x (chain_from left the_module s) ≡ false
  met_end left s h = ap (among x) (chain_end the_module left s h) ∙ among_none x
