-- Where bytes end that a test fails, and which byte stands at a place. Assumes nothing.
use Rattle.std.specs.Prelude.{ℕ, ◌+◌, ◌≡◌, [], ◌∷◌, Bool, true, false, eqb, length, drop}
use Rattle.model.specs.Common.{Text}

-- the bytes that stand here, up to the first that passes the test
unfoldable pub until : (ℕ → Bool) → Text → Text
until stop [] = []
until stop (b ∷ t) = elim (stop b) [ true ↦ [] | false ↦ b ∷ until stop t ]

-- calls that answer like this compute the test of a byte
abbrev pub Tests : (ℕ → Bool → Type 0) → (ℕ → Bool) → Type 0
Tests answers test = (b : ℕ) (r : Bool) → answers b r → r ≡ test b

-- where the first byte from a place on stands that passes the test, or the end: whichever test of a byte calls that answer like this compute
pub record EndsAt (answers : ℕ → Bool → Type 0) (s : Text) (from r : ℕ) : Type 0 where
  pub ends : (stop : ℕ → Bool) → Tests answers stop → r ≡ from + length (until stop (drop from s))

-- the given byte stands here
abbrev pub begins : ℕ → Text → Bool
begins b [] = false
begins b (c ∷ t) = eqb c b
