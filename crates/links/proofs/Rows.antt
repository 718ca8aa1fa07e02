-- The links of a definition and of an expression, in the order in which they are tested. Assumes nothing.
use mathlib.Core.Path.{◌≡◌, refl, ap, ◌∙◌}
use mathlib.Core.Bool.{Bool, true, false, ◌&&◌}
use Prim.Native.Nat.{ℕ, ◌≤◌, ◌<◌}
use lib.ListN.{length}
use lib.Dec.{ltb}
use borrow.Author.Tests.{lt-ltb, le-ltb}
use Rattle.model.specs.Records.{Definition, ExpressionInfo, Module}
use Rattle.model.specs.Links.{definition_types, definition_expressions, expression_types, expression_definitions, expression_expressions}
use Rattle.format.specs.LinkCheck.{all_below, definition_linked, expression_linked}
use Rattle.links.proofs.Below.{and_stop, and_go, bound_same}

and_right : (x y z : Bool) → (x && y && z) ≡ (x && (y && z))
and_right true y z = refl
and_right false y z = refl

and_right_2 : (x y z w : Bool) → (x && y && z && w) ≡ (x && (y && (z && w)))
and_right_2 true y z w = and_right y z w
and_right_2 false y z w = refl

-- the row that the code read, and what its tests but the last give
module _ (the_module : Module) (definition row : Definition) (same : definition ≡ row) (v : Bool)
    (is : v ≡ (ltb definition.scope (length the_module.scopes) && all_below (length the_module.types) (definition_types definition.kind))) where
  abbrev last_test : Bool
  last_test = all_below (length the_module.expressions) (definition_expressions definition.kind)

  whole : (b : Bool) → b ≡ (ltb definition.scope (length the_module.scopes) && all_below (length the_module.types) (definition_types definition.kind) && last_test)
      → b ≡ definition_linked the_module row
  unfolding definition_linked
  whole b e =
      e
      ∙ and_right (ltb definition.scope (length the_module.scopes)) (all_below (length the_module.types) (definition_types definition.kind)) last_test
      ∙ ap (definition_linked the_module) same

  pub definition_stops : v ≡ false → v ≡ definition_linked the_module row
  definition_stops h = whole v (and_stop v _ last_test is h)

  pub definition_goes : v ≡ true → (b : Bool) → b ≡ last_test → b ≡ definition_linked the_module row
  definition_goes h b e = whole b (and_go v _ last_test is b h e)

-- the first two tests of an expression, and the first three
unfoldable pub two_lead : Module → ExpressionInfo → Bool
two_lead the_module expression = ltb expression.scope (length the_module.scopes) && all_below (length the_module.types) (expression_types expression)

unfoldable pub three_lead : Module → ExpressionInfo → Bool
three_lead the_module expression = two_lead the_module expression && all_below (length the_module.definitions) (expression_definitions expression)

module _ (the_module : Module) (expression : ExpressionInfo) where
  module _ (n : ℕ) (are : n ≡ length the_module.scopes) where
    pub scope_past : n ≤ expression.scope → ltb expression.scope n ≡ two_lead the_module expression
    unfolding two_lead
    scope_past h = and_stop _ _ _ (ap (ltb expression.scope) are) (le-ltb expression.scope n h)

    pub scope_there : expression.scope < n → (k : ℕ) (b : Bool) → k ≡ length the_module.types → b ≡ all_below k (expression_types expression)
        → b ≡ two_lead the_module expression
    unfolding two_lead
    scope_there h k b are_types e =
        and_go _ _ _ (ap (ltb expression.scope) are) b (lt-ltb expression.scope n h) (e ∙ bound_same (expression_types expression) k (length the_module.types) are_types)

  module _ (v : Bool) (is : v ≡ two_lead the_module expression) where
    pub types_past : v ≡ false → v ≡ three_lead the_module expression
    unfolding three_lead
    types_past h = and_stop _ _ _ is h

    pub types_there : v ≡ true → (k : ℕ) (b : Bool) → k ≡ length the_module.definitions → b ≡ all_below k (expression_definitions expression)
        → b ≡ three_lead the_module expression
    unfolding three_lead
    types_there h k b are e = and_go _ _ _ is b h (e ∙ bound_same (expression_definitions expression) k (length the_module.definitions) are)

  module _ (row : ExpressionInfo) (same : expression ≡ row) (v : Bool) (is : v ≡ three_lead the_module expression) where
    the_whole : (b : Bool) → b ≡ (three_lead the_module expression && all_below (length the_module.expressions) (expression_expressions expression))
        → b ≡ expression_linked the_module row
    unfolding expression_linked three_lead two_lead
    the_whole b e =
        e
        ∙ and_right_2 (ltb expression.scope (length the_module.scopes)) (all_below (length the_module.types) (expression_types expression))
        (all_below (length the_module.definitions) (expression_definitions expression))
        (all_below (length the_module.expressions) (expression_expressions expression))
        ∙ ap (expression_linked the_module) same

    pub expression_past : v ≡ false → v ≡ expression_linked the_module row
    expression_past h = the_whole v (and_stop _ _ _ is h)

    pub expression_tested : v ≡ true → (k : ℕ) (b : Bool) → k ≡ length the_module.expressions → b ≡ all_below k (expression_expressions expression)
        → b ≡ expression_linked the_module row
    expression_tested h k b are e = the_whole b (and_go _ _ _ is b h (e ∙ bound_same (expression_expressions expression) k (length the_module.expressions) are))
