-- The lines of a module: its own, and those of its S, T, D and E. Assumes nothing.
use mathlib.Core.Path.{◌≡◌, refl, sym, ap, ◌∙◌}
use mathlib.Core.Bool.{Bool, true, false, not}
use Prim.Native.Nat.{ℕ, ◌+◌}
use native.Mathlib.Omega.{arith}
use mathlib.Core.List.{List, [], ◌∷◌, ◌++◌, map}
use Rattle.std.specs.Prelude.{Option, None, Some}
use lib.ListN.{length, length-append, length-map}
use Rattle.model.specs.Common.{is_empty, first}
use Rattle.model.specs.Records.{Module}
use Rattle.format.specs.LinkCheck.{scope_linked, type_linked, definition_linked, expression_linked, map_from, module_lines}
use Rattle.links.proofs.Lines.{fault_in, fault_begin, fault_here, fault_later, part_miss, map_from_length}

-- ------------------------------------------------------------------ the lines from a kind on

abbrev pub expression_lines : Module → List Bool
expression_lines m = map (expression_linked m) m.expressions

abbrev pub definition_lines : Module → List Bool
definition_lines m = map (definition_linked m) m.definitions ++ expression_lines m

abbrev pub type_lines : Module → List Bool
type_lines m = map_from type_linked 0 m.types ++ definition_lines m

abbrev pub scope_lines : Module → List Bool
scope_lines m = map_from scope_linked 0 m.scopes ++ type_lines m

-- ------------------------------------------------------------------ the module's own line

module _ (m : Module) (n : ℕ) (long : n ≡ length m.scopes) where
  pub no_scope : n ≡ 0 → Some 0 ≡ first not (module_lines m)
  unfolding module_lines
  no_scope e = sym (fault_begin (module_lines m) ∙ fault_here 0 (not (is_empty m.scopes)) (scope_lines m) (ap not (empty m.scopes (sym long ∙ e))))
    where
      empty : {A : Type 0} (xs : List A) → length xs ≡ 0 → is_empty xs ≡ true
      empty [] e = refl
      empty (x ∷ xs) e = absurd (omega arith)

  pub some_scope : (n ≡ 0 → ⊥) → first not (module_lines m) ≡ fault_in 1 (scope_lines m)
  unfolding module_lines
  some_scope h = fault_begin (module_lines m) ∙ fault_later 0 (not (is_empty m.scopes)) (scope_lines m) (ap not (filled m.scopes (λ e. h (long ∙ e))))
    where
      filled : {A : Type 0} (xs : List A) → (length xs ≡ 0 → ⊥) → is_empty xs ≡ false
      filled [] h = absurd (h refl)
      filled (x ∷ xs) h = refl

-- ------------------------------------------------------------------ past the rows of a kind, of which each passes

module _ {A : Type 0} (at : ℕ) (xs : List A) (bs : List Bool) (n : ℕ) (long : n ≡ length xs) (o : Option ℕ) where
  pub past_numbered : (test : ℕ → A → Bool) → o ≡ first not (map_from test 0 xs) → o ≡ None → fault_in at (map_from test 0 xs ++ bs) ≡ fault_in (at + n) bs
  past_numbered test is e = part_miss at (map_from test 0 xs) bs o is n (long ∙ sym (map_from_length test 0 xs)) e

  pub past_rows : (test : A → Bool) → o ≡ first not (map test xs) → o ≡ None → fault_in at (map test xs ++ bs) ≡ fault_in (at + n) bs
  past_rows test is e = part_miss at (map test xs) bs o is n (long ∙ sym (length-map xs test)) e

-- ------------------------------------------------------------------ how many there are

pub module_lines_length : (m : Module) (s t d e : ℕ) → s ≡ length m.scopes → t ≡ length m.types → d ≡ length m.definitions → e ≡ length m.expressions
    → 1 + s + t + d + e ≡ length (module_lines m)
unfolding module_lines
module_lines_length m s t d e is_s is_t is_d is_e =
    omega (
      arith,
      length-append (map_from scope_linked 0 m.scopes) (type_lines m),
      length-append (map_from type_linked 0 m.types) (definition_lines m),
      length-append (map (definition_linked m) m.definitions) (expression_lines m),
      map_from_length scope_linked 0 m.scopes,
      map_from_length type_linked 0 m.types,
      length-map m.definitions (definition_linked m),
      length-map m.expressions (expression_linked m),
    )
