-- The links of a question, by what of its module is there. Assumes nothing.
use mathlib.Core.Path.{◌≡◌, sym, ap, ◌∙◌}
use mathlib.Core.Bool.{Bool, true, false, not, ◌&&◌, ◌||◌}
use Prim.Native.Nat.{ℕ, ◌≤◌, ◌<◌}
use mathlib.Core.List.{List}
use Rattle.std.specs.Prelude.{Option, None, Some}
use lib.ListN.{length}
use lib.Dec.{ltb}
use borrow.Author.Tests.{lt-ltb, le-ltb}
use Rattle.std.specs.Prelude.{if◌then◌else◌}
use Rattle.model.specs.Common.{let_some}
use Rattle.model.specs.Records.{Module, Question, Index}
use Rattle.model.specs.Lookups.{module_at}
use Rattle.model.specs.Links.{link}
use Rattle.format.specs.LinkCheck.{all_below, question_linked}
use Rattle.records.specs.Layout.{module_row, index_of}
use Rattle.links.proofs.Below.{and_stop, and_go, bound_same}

-- what the module of an `expr` question and of a `type` question must keep
abbrev context_test : ℕ → Option ℕ → Module → Bool
context_test e t the_module = not (ltb e (length the_module.expressions)) || all_below (length the_module.types) (link t)

abbrev type_test : ℕ → ℕ → Module → Bool
type_test t s the_module = ltb t (length the_module.types) && ltb s (length the_module.scopes)

-- the module is there, or not
module _ (file words : List ℕ) (m : ℕ) (b : Bool) (is : module_at (index_of file words) m ≡ (if b then Some (module_row file words m) else None)) where
  abbrev index : Index
  index = index_of file words

  abbrev the_module : Module
  the_module = module_row file words m

  without : (test : Module → Bool) → b ≡ false → true ≡ let_some (module_at index m) true test
  without test h = sym (ap (λ o. let_some o true test) (is ∙ ap (λ b. if b then Some the_module else None) h))

  within : (test : Module → Bool) (c : Bool) → b ≡ true → c ≡ test the_module → c ≡ let_some (module_at index m) true test
  within test c h e = e ∙ sym (ap (λ o. let_some o true test) (is ∙ ap (λ b. if b then Some the_module else None) h))

  module _ (e : ℕ) (t : Option ℕ) where
    pub context_no_module : b ≡ false → true ≡ question_linked index (Question.expr m e t)
    unfolding question_linked
    context_no_module h = without (context_test e t) h

    pub context_no_expression : (n : ℕ) → b ≡ true → n ≡ length the_module.expressions → n ≤ e → true ≡ question_linked index (Question.expr m e t)
    unfolding question_linked
    context_no_expression n h are past =
        within (context_test e t) true h
        (ap (λ b. not b || all_below (length the_module.types) (link t)) (sym (le-ltb e n past) ∙ ap (ltb e) are))

    pub context_tested : (n k : ℕ) (c : Bool) → b ≡ true → n ≡ length the_module.expressions → e < n → k ≡ length the_module.types → c ≡ all_below k (link t)
        → c ≡ question_linked index (Question.expr m e t)
    unfolding question_linked
    context_tested n k c h are there are_types tested =
        within (context_test e t) c h
        (tested
        ∙ bound_same (link t) k (length the_module.types) are_types
        ∙ ap (λ b. not b || all_below (length the_module.types) (link t)) (sym (lt-ltb e n there) ∙ ap (ltb e) are))

  module _ (t s : ℕ) where
    pub type_no_module : b ≡ false → true ≡ question_linked index (Question.type m t s)
    unfolding question_linked
    type_no_module h = without (type_test t s) h

    pub type_past : (n : ℕ) → b ≡ true → n ≡ length the_module.types → n ≤ t → ltb t n ≡ question_linked index (Question.type m t s)
    unfolding question_linked
    type_past n h are past =
        within (type_test t s) (ltb t n) h
        (and_stop (ltb t n) (ltb t (length the_module.types)) (ltb s (length the_module.scopes)) (ap (ltb t) are) (le-ltb t n past))

    pub type_there : (n k : ℕ) → b ≡ true → n ≡ length the_module.types → t < n → k ≡ length the_module.scopes
        → ltb s k ≡ question_linked index (Question.type m t s)
    unfolding question_linked
    type_there n k h are there are_scopes =
        within (type_test t s) (ltb s k) h
        (and_go (ltb t n) (ltb t (length the_module.types)) (ltb s (length the_module.scopes)) (ap (ltb t) are) (ltb s k) (lt-ltb t n there) (ap (ltb s) are_scopes))
