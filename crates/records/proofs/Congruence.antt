-- Congruence at three, four and five arguments. Assumes nothing.
use mathlib.Core.Path.{◌≡◌}

pub ap₃ : {A B C D : Type 0} (f : A → B → C → D) {a a' : A} {b b' : B} {c c' : C} → a ≡ a' → b ≡ b' → c ≡ c' → f a b c ≡ f a' b' c'
ap₃ f p q r = λ d. f (p d) (q d) (r d)

pub ap₄ : {A B C D E : Type 0} (f : A → B → C → D → E) {a a' : A} {b b' : B} {c c' : C} {e e' : D} → a ≡ a' → b ≡ b' → c ≡ c' → e ≡ e' → f a b c e ≡ f a' b' c' e'
ap₄ f p q r s = λ d. f (p d) (q d) (r d) (s d)

pub ap₅ : {A B C D E F : Type 0} (f : A → B → C → D → E → F) {a a' : A} {b b' : B} {c c' : C} {e e' : D} {g g' : E} → a ≡ a' → b ≡ b' → c ≡ c' → e ≡ e' → g ≡ g' → f a b c e g ≡ f a' b' c' e' g'
ap₅ f p q r s t = λ d. f (p d) (q d) (r d) (s d) (t d)
