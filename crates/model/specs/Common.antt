-- Choices, searches in lists and texts: the plain tools of the other files. Nothing here is about types. Assumes nothing.
use Rattle.std.specs.Prelude.{ℕ, zero, suc, ◌+◌, Bool, true, false, ◌&&◌, ◌||◌, List, [], ◌∷◌, ◌++◌, eqb, if◌then◌else◌}
use Prim.Native.Char.{code}
use Prim.Native.String.{String, [] as nil, ◌∷◌ as ◌then◌}
use Rattle.std.specs.Prelude.{Option, None, Some}

-- ------------------------------------------------------------------ choices

-- Rust's `let Some(a) = o else { b }; f(a)`
abbrev pub let_some {ℓ} : {A : Type 0} {B : Type ℓ} → Option A → B → (A → B) → B
let_some None b f = b
let_some (Some a) b f = f a

-- the first of two that is there
abbrev pub or_else : {A : Type 0} → Option A → Option A → Option A
or_else None o = o
or_else (Some a) o = Some a

abbrev pub is_empty : {A : Type 0} → List A → Bool
is_empty [] = true
is_empty (x ∷ xs) = false

abbrev pub is_none : {A : Type 0} → Option A → Bool
is_none None = true
is_none (Some a) = false

-- ------------------------------------------------------------------ searches

-- the first answer that a function gives along a list
unfoldable pub first_some : {A B : Type 0} → (A → Option B) → List A → Option B
first_some f [] = None
first_some f (x ∷ xs) = or_else (f x) (first_some f xs)

-- a place in the rest of a list, as a place in the list
abbrev pub next : Option ℕ → Option ℕ
next None = None
next (Some n) = Some (suc n)

-- the place of the first element that passes the test, counted from 0
unfoldable pub first : {A : Type 0} → (A → Bool) → List A → Option ℕ
first test [] = None
first test (x ∷ xs) = if test x then Some zero else next (first test xs)

-- the place of the last element that passes the test
unfoldable pub last : {A : Type 0} → (A → Bool) → List A → Option ℕ
last test [] = None
last test (x ∷ xs) = or_else (next (last test xs)) (if test x then Some zero else None)

-- some element passes the test
unfoldable pub any : {A : Type 0} → (A → Bool) → List A → Bool
any test [] = false
any test (x ∷ xs) = test x || any test xs

-- each element of the list passes
abbrev pub every : {A : Type 0} → (A → Bool) → List A → Bool
every test [] = true
every test (x ∷ xs) = test x && every test xs

-- the sum of a count over a list
unfoldable pub total : {A : Type 0} → (A → ℕ) → List A → ℕ
total count [] = 0
total count (x ∷ xs) = count x + total count xs

-- the same numbers in the same order: equal texts, equal names
unfoldable pub eq_numbers : List ℕ → List ℕ → Bool
eq_numbers [] [] = true
eq_numbers [] (y ∷ ys) = false
eq_numbers (x ∷ xs) [] = false
eq_numbers (x ∷ xs) (y ∷ ys) = elim (eqb x y) [ true ↦ eq_numbers xs ys | false ↦ false ]

-- the answers that a function gives along a list
unfoldable pub collect : {A B : Type 0} → (A → Option B) → List A → List B
collect f [] = []
collect f (x ∷ xs) = let_some (f x) (collect f xs) (λ y. y ∷ collect f xs)

-- ------------------------------------------------------------------ texts

-- a text is the list of its bytes
abbrev pub Text : Type 0
Text = List ℕ

-- the texts of a list's elements, one behind the other
unfoldable pub joined : {A : Type 0} → (A → Text) → List A → Text
joined text [] = []
joined text (x ∷ xs) = text x ++ joined text xs

-- the bytes of a text of ASCII characters, as `bytes "assert"`
abbrev pub bytes : String → Text
bytes nil = []
bytes (c then s) = code c ∷ bytes s

-- a text as document 01 shows it, where `→` is a tab
abbrev pub tabs : String → Text
tabs nil = []
tabs (c then s) = (if eqb (code c) 8594 then 9 else code c) ∷ tabs s
