-- From text to text, by computation: document 01's whole case and its rows marked ● ("Expressions worth trying") as one table under one
-- theorem; then what else it says of answers. Assumes nothing.
use Rattle.std.specs.Prelude.{ℕ, ◌≡◌, refl, List, [], ◌∷◌, map}
use Prim.Native.String.{String}
use Rattle.model.specs.Common.{tabs}
use Rattle.format.specs.Cases.{whole}
use Rattle.resolution.specs.Answer.{line_text, line_written}
use Rattle.resolution.specs.Resolve.{Reply, resolve, answer}
use Rattle.resolution.specs.Computes.{resolves}

-- an index file, and what `resolve` prints for it
pub record Row : Type 0 where
  pub file : String
  pub prints : String

abbrev pub row : String → String → Row
row file prints = record { file = file; prints = prints }

abbrev pub Printed : List Row → Type 0
Printed rows = map (λ r. resolve (tabs r.file)) rows ≡ map (λ r. tabs r.prints) rows

unfoldable pub rows : List Row
rows =
    -- the whole case
    row whole "expr→0→2→type→u32\nexpr→0→1→type→felt\n"
    -- `1 + y` u32 (y is u32, a parameter of f)
    ∷ row "index→1\nM→m\nS→-→module\nS→0→function\nT→u32\nD→0→f→3→4→0→90→fn→0→y→0\nD→1→y→5→6→5→11→param→0\nE→1→24→25→-→1→plain→-→-→ident→y\nE→1→20→21→-→-→plain→-→-→lit→-\nE→1→20→25→-→-→plain→-→-→bin→+→1→0\nQ→expr→0→2→-\n" "expr→0→2→type→u32\n"
    -- `1 - y` error
    ∷ row "index→1\nM→m\nS→-→module\nS→0→function\nT→u32\nD→0→f→3→4→0→90→fn→0→y→0\nD→1→y→5→6→5→11→param→0\nE→1→24→25→-→1→plain→-→-→ident→y\nE→1→20→21→-→-→plain→-→-→lit→-\nE→1→20→25→-→-→plain→-→-→bin→-→1→0\nQ→expr→0→2→-\n" "expr→0→2→type→error\n"
    -- `(1) + y` error
    ∷ row "index→1\nM→m\nS→-→module\nS→0→function\nT→u32\nD→0→f→3→4→0→90→fn→0→y→0\nD→1→y→5→6→5→11→param→0\nE→1→24→25→-→1→plain→-→-→ident→y\nE→1→20→21→-→-→plain→-→-→lit→-\nE→1→19→22→-→-→plain→-→-→paren→1\nE→1→19→25→-→-→plain→-→-→bin→+→2→0\nQ→expr→0→3→-\n" "expr→0→3→type→error\n"
    -- error + error is felt (p and q are defined nowhere)
    ∷ row "index→1\nM→m\nS→-→module\nS→0→function\nT→u32\nD→0→f→3→4→0→90→fn→0→y→0\nD→1→y→5→6→5→11→param→0\nE→1→20→21→-→-→plain→-→-→ident→p\nE→1→24→25→-→-→plain→-→-→ident→q\nE→1→20→25→-→-→plain→-→-→bin→+→0→1\nQ→expr→0→0→-\nQ→expr→0→1→-\nQ→expr→0→2→-\n" "expr→0→0→type→error\nexpr→0→1→type→error\nexpr→0→2→type→felt\n"
    -- error < error bool
    ∷ row "index→1\nM→m\nS→-→module\nS→0→function\nT→u32\nD→0→f→3→4→0→90→fn→0→y→0\nD→1→y→5→6→5→11→param→0\nE→1→20→21→-→-→plain→-→-→ident→p\nE→1→24→25→-→-→plain→-→-→ident→q\nE→1→20→25→-→-→plain→-→-→bin→<→0→1\nQ→expr→0→2→-\n" "expr→0→2→type→bool\n"
    -- empty array, context `[u32;7]`: `[u32;0]`
    ∷ row "index→1\nM→m\nS→-→module\nT→u32\nT→array→0→7\nE→0→20→22→-→-→plain→-→-→arr\nQ→expr→0→0→1\n" "expr→0→0→type→[u32;0]\n"
    -- empty array, no context, expected `[felt;3]`: error
    ∷ row "index→1\nM→m\nS→-→module\nT→felt\nT→array→0→3\nE→0→20→22→1→-→plain→-→-→arr\nQ→expr→0→0→-\n" "expr→0→0→type→error\n"
    -- expected `[felt;0]`: `[felt;0]`
    ∷ row "index→1\nM→m\nS→-→module\nT→felt\nT→array→0→0\nE→0→20→22→1→-→plain→-→-→arr\nQ→expr→0→0→-\n" "expr→0→0→type→[felt;0]\n"
    -- type `[[felt;2];3]`: error
    ∷ row "index→1\nM→m\nS→-→module\nT→felt\nT→array→0→2\nT→array→1→3\nQ→type→0→2→0\n" "type→0→2→type→error\n"
    -- two arguments to a one-parameter function: its return type
    ∷ row "index→1\nM→m\nS→-→module\nS→0→function\nT→u32\nD→0→f→3→4→0→90→fn→0→y→0\nD→1→y→5→6→5→11→param→0\nE→1→20→21→-→0→plain→-→-→ident→f\nE→1→22→23→-→-→plain→-→-→lit→-\nE→1→25→26→-→-→plain→-→-→lit→-\nE→1→20→27→-→-→plain→-→-→call→0→1→2\nQ→expr→0→3→-\n" "expr→0→3→type→u32\n"
    -- suffix `u8`, context u32: u32
    ∷ row "index→1\nM→m\nS→-→module\nT→u32\nE→0→20→23→-→-→plain→-→-→lit→u8\nQ→expr→0→0→0\n" "expr→0→0→type→u32\n"
    -- a bare number returned by the second function (to felt), the first returning u32: u32
    ∷ row "index→1\nM→m\nS→-→module\nS→0→function\nS→0→function\nT→u32\nT→felt\nD→0→f→3→4→0→90→fn→0\nD→0→g→103→104→100→190→fn→1\nE→2→130→131→-→-→return→-→-→lit→-\nQ→expr→0→0→-\n" "expr→0→0→type→u32\n"
    -- `const a = a;`, the value's recorded definition being that constant: 7
    ∷ row "index→1\nM→m\nS→-→module\nD→0→a→6→7→0→12→const→-→0\nE→0→10→11→-→0→plain→-→-→ident→a\nQ→def→0→0\nQ→expr→0→0→-\n" "def→0→0→refused→7\nexpr→0→0→refused→7\n"
    ∷ []

pub rows_printed : Printed rows
unfolding resolves rows whole
rows_printed = refl

-- more, unmarked in document 01
unfoldable pub more : List Row
more =
    -- an absent module, expression or definition: error
    row "index→1\nM→m\nS→-→module\nQ→expr→0→7→-\nQ→expr→7→0→3\nQ→def→0→7\nQ→type→7→0→0\n" "expr→0→7→type→error\nexpr→7→0→type→error\ndef→0→7→type→error\ntype→7→0→type→error\n"
    -- 6: a missing child where the Rust unwraps
    ∷ row "index→1\nM→m\nS→-→module\nE→0→0→1→-→-→plain→-→-→un→!→-\nQ→expr→0→0→-\n" "expr→0→0→refused→6\n"
    -- the texts of types
    ∷ row "index→1\nM→m\nS→-→module\nT→felt\nT→tuple\nT→tuple→0→1\nT→ptr→2\nT→custom→s\nT→array→4→18446744073709551615\nD→0→s→7→8→0→20→struct→x→0\nD→0→f→27→28→20→40→fn→4\nQ→type→0→3→0\nQ→type→0→5→0\nQ→def→0→1\n" "type→0→3→type→ptr((felt,()))\ntype→0→5→type→[struct:0.0;18446744073709551615]\ndef→0→1→type→fn:0.1\n"
    -- a file without questions
    ∷ row "index→1\nM→m\nS→-→module\n" ""
    ∷ []

pub more_printed : Printed more
unfolding resolves more
more_printed = refl

-- ------------------------------------------------------------------ `at`

unfoldable pub hovers : List Row
hovers =
    -- the whole case: x, the bare number, their sum; behind the last byte, before the first, in an absent module
    row "index→1\nM→main\nS→-→module\nS→0→function\nT→u32\nD→0→f→3→4→0→30→fn→0→x→0\nD→1→x→5→6→5→11→param→0\nE→1→24→25→-→1→plain→-→-→ident→x\nE→1→20→21→-→-→plain→-→-→lit→-\nE→1→20→25→-→-→plain→-→-→bin→+→1→0\nQ→at→0→24\nQ→at→0→20\nQ→at→0→22\nQ→at→0→25\nQ→at→0→19\nQ→at→1→20\nQ→at→65535→4294967295\n" "at→0→24→type→u32\nat→0→20→type→felt\nat→0→22→type→u32\nat→0→25→none\nat→0→19→none\nat→1→20→none\nat→65535→4294967295→none\n"
    -- of equally short ones the highest number; a longer one with a higher number is not taken
    ∷ row "index→1\nM→m\nS→-→module\nE→0→4→6→-→-→plain→-→-→bool\nE→0→5→7→-→-→plain→-→-→lit→-\nE→0→0→9→-→-→plain→-→-→lit→u32\nQ→at→0→4\nQ→at→0→5\nQ→at→0→8\n" "at→0→4→type→bool\nat→0→5→type→felt\nat→0→8→type→u32\n"
    -- an empty span, and one that ends before it starts, cover nothing; 6; the origin counts, as for `expr` without context
    ∷ row "index→1\nM→m\nS→-→module\nE→0→3→3→-→-→plain→-→-→bool\nE→0→8→2→-→-→plain→-→-→bool\nE→0→5→6→-→-→plain→-→-→un→!→-\nE→0→7→8→-→-→assign→4→-→lit→-\nE→0→9→10→-→-→plain→-→-→lit→u32\nQ→at→0→3\nQ→at→0→4\nQ→at→0→5\nQ→at→0→7\n" "at→0→3→none\nat→0→4→none\nat→0→5→refused→6\nat→0→7→type→u32\n"
    ∷ []

pub hovers_printed : Printed hovers
unfolding resolves hovers
hovers_printed = refl

-- ------------------------------------------------------------------ one line by its question's number and its own

-- the line, what the answer buffer then holds of it, and the numbers of a refused file
abbrev pub shown : Reply → List (List ℕ)
shown (Reply.the_line line) = line_text line ∷ line_written line ∷ []
shown Reply.past_last = []
shown (Reply.file_refused number at_line) = (number ∷ at_line ∷ []) ∷ []

-- last, a question number that the file lacks: 5, line 0. (The whole case has two questions)
pub one_question : map (λ n. shown (answer (tabs whole) n 0)) (0 ∷ 1 ∷ 2 ∷ [])
    ≡ (tabs "expr→0→2→type→u32\n" ∷ tabs "expr→0→2→type→u32\n" ∷ [])
    ∷ (tabs "expr→0→1→type→felt\n" ∷ tabs "expr→0→1→type→felt\n" ∷ [])
    ∷ ((5 ∷ 0 ∷ []) ∷ [])
    ∷ []
unfolding resolves whole
one_question = refl

-- each has one line
pub one_line : map (λ n. answer (tabs whole) n 1) (0 ∷ 1 ∷ 2 ∷ []) ≡ Reply.past_last ∷ Reply.past_last ∷ Reply.file_refused 5 0 ∷ []
unfolding resolves whole
one_line = refl

-- after 6 to 10 the answer buffer is unchanged
pub nothing_written : shown (answer (tabs "index→1\nM→m\nS→-→module\nE→0→0→1→-→-→plain→-→-→un→!→-\nQ→expr→0→0→-\n") 0 0) ≡ tabs "expr→0→0→refused→6\n" ∷ [] ∷ []
unfolding resolves
nothing_written = refl

-- a file that loading refuses has no question
pub no_question : map (λ n. answer (tabs "index→1\nM→m\n") n 0) (0 ∷ 9 ∷ []) ≡ Reply.file_refused 5 2 ∷ Reply.file_refused 5 2 ∷ []
unfolding resolves
no_question = refl
