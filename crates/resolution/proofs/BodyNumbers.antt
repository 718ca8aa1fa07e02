-- Two files that meet what demand 3 supposes, with bodies in one module: the two bodies have the same number. A scope below a body has a higher
-- number, and each scope outside stands in both under its number; so the body's is the first number that is not outside, in either. (The bodies
-- may stand in different modules, under different numbers: `moved` of the crate secrecy_examples.) Assumes nothing.
use Prim.Native.Nat.{ℕ, ◌≤◌, ◌<◌}
use native.Mathlib.Nat.{le_refl}
use native.Mathlib.Omega.{arith}
use mathlib.Core.Path.{◌≡◌, refl, sym, ◌∙◌, ap, subst}
use mathlib.Core.Bool.{Bool, true, false}
use Rattle.std.specs.Prelude.{None}
use lib.Dec.{ltb}
use Rattle.model.specs.Common.{Text, let_some}
use Rattle.model.specs.Records.{Question, Index}
use Rattle.model.specs.Lookups.{module_at, scope_at, parent}
use Rattle.model.specs.Links.{scope_in}
use Rattle.model.specs.WellFormed.{Present, WellFormed}
use Rattle.model.proofs.Tests.{ltb_lt, ltb-false, some_of}
use Rattle.model.proofs.Places.{getElem_there, getElem_below}
use Rattle.format.proofs.Loaded.{loaded_well_formed}
use Rattle.resolution.specs.Asked.{Asked}
use Rattle.resolution.specs.Inside.{Body, IsBody, Inside, body_scope, below}
use Rattle.resolution.specs.Secrecy.{StandsIn, FilesSupposed}

-- a scope inside has no lower number than the body's
inside_not_lower : (index : Index) (body : Body) → WellFormed index → {m s : ℕ} → Inside index body m s → body.scope_number ≤ s
unfolding parent
inside_not_lower index body formed (body_scope m_is s_is) = subst (λ n. body.scope_number ≤ n) (sym s_is) (le_refl body.scope_number)
inside_not_lower index body formed {m} {s} (below {p = p} {scope = scope} found is_parent inside) =
    let (the_module, at, there) = some_of (module_at index m) (λ n. scope_at n s) scope found in
    let lower : p < s = formed.parents_lower m the_module at s p (ap (λ o. let_some o None (λ r. r.parent)) there ∙ is_parent) in
    let up = inside_not_lower index body formed inside in
    omega (arith, lower, up)

-- a number below a scope's is a scope's
scope_below : (index : Index) (m s k : ℕ) → Present (scope_in index m s) → k < s → Present (scope_in index m k)
scope_below index m s k (scope, found) less =
    let (the_module, at, there) = some_of (module_at index m) (λ n. scope_at n s) scope found in
    let bound = getElem_below the_module.scopes s there in
    let (x, here) = getElem_there the_module.scopes k (omega (arith, less, bound)) in
    (x, ap (λ o. let_some o None (λ n. scope_at n k)) at ∙ here)

-- where what is outside in the second index stands outside in the first, the first body has no lower number
not_lower : (A B : Index) (a b : Body) (asked : Asked) → WellFormed B → IsBody B b → StandsIn B b A a asked
    → a.module_number ≡ b.module_number → a.scope_number < b.scope_number → ⊥
not_lower A B a b asked formed is_body stands one_module less =
    let (scope, found) = scope_below B b.module_number b.scope_number a.scope_number (is_body.scope, is_body.found) less in
    let (there, out) =
    stands.scopes b.module_number a.scope_number
    (record {
      scope = scope;
      found = found;
      not_inside = λ inside. let up = inside_not_lower B b formed inside in omega (arith, less, up);
    }) in
    out (body_scope (sym one_module) refl)

pub bodies_have_one_number : (first_file second_file : Text) (first_place second_place : ℕ) (question : Question) (asked : Asked) (files : FilesSupposed first_file second_file first_place second_place question asked)
    → files.first_body.module_number ≡ files.second_body.module_number → files.first_body.scope_number ≡ files.second_body.scope_number
bodies_have_one_number first_file second_file first_place second_place question asked files one_module =
    neither_lower files.first_body.scope_number files.second_body.scope_number
    (not_lower files.first files.second files.first_body files.second_body asked
    (loaded_well_formed second_file files.second files.second_loaded)
    files.supposed.second_is_body
    files.supposed.agree.second_stands
    one_module)
    (not_lower files.second files.first files.second_body files.first_body asked
    (loaded_well_formed first_file files.first files.first_loaded)
    files.supposed.first_is_body
    files.supposed.agree.first_stands
    (sym one_module))
  where
    neither_lower : (m n : ℕ) → (m < n → ⊥) → (n < m → ⊥) → m ≡ n
    neither_lower m n up down = by_tests (ltb m n) (ltb n m) refl refl
      where
        by_tests : (t u : Bool) → ltb m n ≡ t → ltb n m ≡ u → m ≡ n
        by_tests true u h k = absurd (up (ltb_lt m n h))
        by_tests false true h k = absurd (down (ltb_lt n m k))
        by_tests false false h k =
            let n_below = ltb-false m n h in
            let m_below = ltb-false n m k in
            omega (arith, n_below, m_below)
