-- The two loops by which the Rust looks for the function of a `return` find what `first_function_around` finds. Assumes nothing.
use Prim.Native.Nat.{ℕ}
use mathlib.Core.Path.{◌≡◌, refl, sym, ◌∙◌, ap}
use mathlib.Core.Bool.{Bool, true, false, ◌&&◌, ◌||◌, false≢true}
use mathlib.Core.List.{List, [], ◌∷◌, tail}
use Rattle.std.specs.Prelude.{Option, None, Some}
use lib.Dec.{eqb}
use Rattle.std.specs.Prelude.{slice_get}
use Rattle.model.specs.Common.{let_some, or_else, first_some, first, any}
use Rattle.model.specs.Records.{Definition, Module}
use Rattle.model.specs.Lookups.{parent, chain_from, scope_chain, is_function, among, function_around, first_function_around}
use Rattle.model.proofs.Tests.{bool_same, and_left, and_right, or_right}
use Rattle.model.proofs.Search.{passes, passes_some, some_passes, first_none, first_none_fails}

-- the inner loop's test at a turn of the outer loop: a function, whose scope is the turn's or a proper ancestor of the expression's
unfoldable pub fits : List ℕ → ℕ → Definition → Bool
fits ancestors turn definition = is_function definition.kind && (eqb definition.scope turn || among definition.scope ancestors)

-- scopes outside, definitions inside
unfoldable pub return_loops : Module → ℕ → Option ℕ
return_loops the_module s =
    first_some (λ turn. first (fits (tail (scope_chain the_module s)) turn) the_module.definitions) (scope_chain the_module s)

-- a later turn finds nothing that the first did not
data Member (n : ℕ) : List ℕ → Type 0 where
  here : {s : ℕ} {rest : List ℕ} → n ≡ s → Member n (s ∷ rest)
  later : {s : ℕ} {rest : List ℕ} → Member n rest → Member n (s ∷ rest)

or_split : (a b : Bool) → (a || b) ≡ true → (a ≡ true → b ≡ true) → b ≡ true
or_split true b e f = f refl
or_split false b e f = e

among_member : (n turn : ℕ) (rest : List ℕ) → Member turn rest → eqb n turn ≡ true → among n rest ≡ true
unfolding among any
among_member n turn [] x'' h = elim x'' [ ]
among_member n turn (s ∷ rest) (here e) h = ap (λ r. eqb n r || any (eqb n) rest) (sym e) ∙ ap (λ b. b || any (eqb n) rest) h
among_member n turn (s ∷ rest) (later m) h = or_right (eqb n s) (any (eqb n) rest) (among_member n turn rest m h)

module _ (definitions : List Definition) (s : ℕ) (ancestors : List ℕ) (none_fits : first (fits ancestors s) definitions ≡ None) where
  fails : (turn : ℕ) → Member turn ancestors → (n : ℕ) → passes (fits ancestors turn) definitions n ≡ false
  unfolding fits
  fails turn member n =
      bool_same (passes (fits ancestors turn) definitions n) false
      (λ e. sym (first_none_fails (fits ancestors s) definitions none_fits n) ∙ at_first (passes_some _ (fits ancestors turn) e))
      (λ e. absurd (false≢true e))
    where
      at_first : (x : Definition) × (slice_get definitions n ≡ Some x) × (fits ancestors turn x ≡ true) → passes (fits ancestors s) definitions n ≡ true
      at_first (x, e, t) =
          let around = among x.scope ancestors in
          some_passes (fits ancestors s) e
          (ap (λ b. b && (eqb x.scope s || around)) (and_left (is_function x.kind) (eqb x.scope turn || around) t)
          ∙ or_right (eqb x.scope s) around
          (or_split (eqb x.scope turn) around (and_right (is_function x.kind) (eqb x.scope turn || around) t) (among_member x.scope turn ancestors member)))

  rest_none : (turns : List ℕ) → ((turn : ℕ) → Member turn turns → Member turn ancestors)
      → first_some (λ turn. first (fits ancestors turn) definitions) turns ≡ None
  unfolding first_some
  rest_none [] inside = refl
  rest_none (turn ∷ turns) inside =
      λ i. or_else (first_none (fits ancestors turn) definitions (fails turn (inside turn (here refl))) i) (rest_none turns (λ t m. inside t (later m)) i)

loops : (definitions : List Definition) (s : ℕ) (ancestors : List ℕ) (o : Option ℕ) → first (fits ancestors s) definitions ≡ o
    → or_else o (first_some (λ turn. first (fits ancestors turn) definitions) ancestors) ≡ o
loops definitions s ancestors None e = rest_none definitions s ancestors e ancestors (λ t m. m)
loops definitions s ancestors (Some d) e = refl

pub return_loops_agree : (the_module : Module) (s : ℕ) → return_loops the_module s ≡ first_function_around the_module s
unfolding return_loops first_function_around function_around scope_chain chain_from first_some fits among any
return_loops_agree the_module s =
    let ancestors : List ℕ = let_some (parent the_module s) [] (λ p. chain_from s the_module p) in
    loops the_module.definitions s ancestors (first (fits ancestors s) the_module.definitions) refl
