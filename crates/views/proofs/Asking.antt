-- What a question asks at a line's number. Assumes nothing.
use Prim.Native.Nat.{ℕ, zero, suc, ◌<◌}
use native.Mathlib.Omega.{arith}
use mathlib.Core.Path.{◌≡◌, refl, sym, ap}
use mathlib.Core.Bool.{false≢true}
use mathlib.Core.List.{[], ◌∷◌}
use lib.Dec.{eqb}
use borrow.Author.Tests.{eqb-true}
use Rattle.std.specs.Prelude.{Option, None, Some, is_some, IfSome, option_map}
use Rattle.std.specs.Prelude.{slice_get}
use Rattle.model.specs.Common.{let_some}
use Rattle.model.specs.Records.{Question, Module, Index}
use Rattle.model.specs.Lookups.{module_at, expression_at_position}
use Rattle.resolution.specs.Asked.{question_asked}
use Rattle.views.specs.declared.Asked.{Asked as Code}
use Rattle.views.specs.Asking.{asked_of}
use Rattle.views.specs.Reads.{position_expression}

asked_past : (index : Index) (question : Question) (n : ℕ) → 0 < n → None ≡ slice_get (question_asked index question) n
unfolding question_asked
asked_past index question zero h = absurd (omega arith)
asked_past index (Question.expr m e context) (suc n) h = refl
asked_past index (Question.def m d) (suc n) h = refl
asked_past index (Question.type m t s) (suc n) h = refl
asked_past index (Question.at m position) (suc n) h = refl

-- what `then` gives of a question's one line
pub asked_by : (index : Index) (question : Question) (n : ℕ) (P : Code → Type 0) → ((x : Code) → P x → question_asked index question ≡ asked_of x ∷ [])
    → (r : Option Code) → is_some r ≡ eqb n 0 → IfSome r P → option_map asked_of r ≡ slice_get (question_asked index question) n
asked_by index question zero P answers None e p = absurd (false≢true e)
asked_by index question (suc n) P answers None e p = asked_past index question (suc n) (omega arith)
asked_by index question zero P answers (Some x) e p = ap (λ l. slice_get l 0) (sym (answers x p))
asked_by index question (suc n) P answers (Some x) e p = let none = eqb-true (suc n) 0 (sym e) in absurd (omega (arith, none))

-- ------------------------------------------------------------------ the expression at a byte

module _ (index : Index) (m position : ℕ) where
  pub position_past : module_at index m ≡ None → None ≡ position_expression index m position
  unfolding position_expression
  position_past e = ap (λ o. let_some o None λ the_module. expression_at_position the_module position) (sym e)

  pub position_there : (the_module : Module) → module_at index m ≡ Some the_module → expression_at_position the_module position ≡ position_expression index m position
  unfolding position_expression
  position_there the_module e = ap (λ o. let_some o None λ n. expression_at_position n position) (sym e)
