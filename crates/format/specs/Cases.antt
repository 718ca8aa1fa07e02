-- Worked cases of loading, each computed from the file's text: refused files with number and line, files at the limits and past them, accepted
-- files. Tables under one theorem each. Assumes nothing.
use Rattle.std.specs.Prelude.{ℕ, ◌≡◌, refl, List, [], ◌∷◌, ◌++◌, map, length}
use Prim.Native.String.{String}
use Rattle.std.specs.Prelude.{None, Some}
use Rattle.model.specs.Common.{Text, bytes, tabs}
use Rattle.model.specs.Limits.{item_count}
use Rattle.model.specs.Records.{ScopeKind, TypeExpr, DefinitionKind, Origin, BinaryOp, Expression, Module, Question}
use Rattle.format.specs.Load.{Loading, accepted, refused, load}
use Rattle.format.specs.Computes.{loads}

-- ------------------------------------------------------------------ the whole case of document 01

unfoldable pub whole : String
whole =
    "index→1\nM→main\nS→-→module\nS→0→function\nT→u32\nD→0→f→3→4→0→30→fn→0→x→0\nD→1→x→5→6→5→11→param→0\nE→1→24→25→-→1→plain→-→-→ident→x\nE→1→20→21→-→-→plain→-→-→lit→-\nE→1→20→25→-→-→plain→-→-→bin→+→1→0\nQ→expr→0→2→-\nQ→expr→0→1→-\n"

abbrev main : Module
main =
    record {
      name = bytes "main";
      scopes = record { parent = None; kind = ScopeKind.ModuleScope } ∷ record { parent = Some 0; kind = ScopeKind.FunctionScope } ∷ [];
      types = TypeExpr.U32 ∷ [];
      definitions =
          record { scope = 0; name = bytes "f"; name_start = 3; name_end = 4; full_start = 0; full_end = 30; kind = DefinitionKind.Function 0 (record { name = bytes "x"; type = 0 } ∷ []) }
          ∷ record { scope = 1; name = bytes "x"; name_start = 5; name_end = 6; full_start = 5; full_end = 11; kind = DefinitionKind.Parameter 0 }
          ∷ [];
      expressions =
          record { scope = 1; start = 24; end = 25; expected = None; definition = Some 1; origin = Origin.Plain; node = Expression.Identifier (bytes "x") }
          ∷ record { scope = 1; start = 20; end = 21; expected = None; definition = None; origin = Origin.Plain; node = Expression.Literal None }
          ∷ record { scope = 1; start = 20; end = 25; expected = None; definition = None; origin = Origin.Plain; node = Expression.Binary BinaryOp.Add (Some 1) (Some 0) }
          ∷ [];
    }

pub whole_loads : load (tabs whole) ≡ accepted (record { version = 1; modules = main ∷ []; questions = Question.expr 0 2 None ∷ Question.expr 0 1 None ∷ [] })
unfolding loads whole
whole_loads = refl

-- ------------------------------------------------------------------ refused files: the number and the line

pub record Refused : Type 0 where
  pub file : String
  pub number : ℕ
  pub line : ℕ

abbrev refused_file : String → ℕ → ℕ → Refused
refused_file file number line = record { file = file; number = number; line = line }

unfoldable pub refusals : List Refused
refusals =
    -- the first line, its LF included
    refused_file "" 2 1
    ∷ refused_file "index→1" 2 1
    ∷ refused_file "index→2\n" 2 1
    ∷ refused_file "index→1\r\n" 2 1
    ∷ refused_file "index 1\n" 2 1
    ∷ refused_file "Index→1\n" 2 1
    ∷ refused_file "index→1→\n" 2 1
    ∷ refused_file "index→01\n" 2 1
    -- the last byte, an empty line, the first field
    ∷ refused_file "index→1\nM→m\nS→-→module" 4 3
    ∷ refused_file "index→1\n\n" 4 2
    ∷ refused_file "index→1\nX→m\n" 4 2
    ∷ refused_file "index→1\n→M→m\n" 4 2
    ∷ refused_file "index→1\nM→m\nS→-→module\nQ→def→0→0" 4 4
    ∷ refused_file "index→1\nM→m\nS→-→module\n\n" 4 4
    -- M: the name
    ∷ refused_file "index→1\nM\n" 4 2
    ∷ refused_file "index→1\nM→\n" 4 2
    ∷ refused_file "index→1\nM→-\n" 4 2
    ∷ refused_file "index→1\nM→a→b\n" 4 2
    ∷ refused_file "index→1\nM→a b\n" 4 2
    ∷ refused_file "index→1\nM→a\r\n" 4 2
    ∷ refused_file "index→1\nM→a\0\n" 4 2
    ∷ refused_file "index→1\nM→aaaaaaaaaaaaaaaaaaaaaaaaaaaaaaaaaaaaaaaaaaaaaaaaaaaaaaaaaaaaaaaaa\n" 4 2
    ∷ refused_file "index→1\nM→m\nS→-→module\nM→m\n" 4 4
    -- S: kind and parent
    ∷ refused_file "index→1\nS→-→module\n" 4 2
    ∷ refused_file "index→1\nM→m\nS→-→module\nS→-→block\n" 4 4
    ∷ refused_file "index→1\nM→m\nS→-→module\nS→0→module\n" 4 4
    ∷ refused_file "index→1\nM→m\nS→-→module\nS→0→blocks\n" 4 4
    ∷ refused_file "index→1\nM→m\nS→-→module\nS→00→block\n" 4 4
    ∷ refused_file "index→1\nM→m\nS→-→module\nS→+0→block\n" 4 4
    ∷ refused_file "index→1\nM→m\nS→-→module\nS→65536→block\n" 4 4
    ∷ refused_file "index→1\nM→m\nS→-→module\nS→65535→block\n" 5 4
    ∷ refused_file "index→1\nM→m\nS→-→module\nS→99999999999999999999999999999999→block\n" 4 4
    ∷ refused_file "index→1\nM→m\nS→-→module\nS→1→block\n" 5 4
    ∷ refused_file "index→1\nM→m\nS→-→module\nS→-→module\n" 5 4
    ∷ refused_file "index→1\nM→m\nS→0→block\n" 5 3
    -- a module without scope, at its M line; the first line with 5
    ∷ refused_file "index→1\nM→m\nT→felt\nT→ptr→7\n" 5 2
    ∷ refused_file "index→1\nM→m\nS→-→module\nT→ptr→7\nM→n\n" 5 4
    ∷ refused_file "index→1\nM→m\nS→-→module\nM→n\nQ→type→0→0→0\n" 5 4
    ∷ refused_file "index→1\nM→m\nS→-→module\nM→n\nS→0→block\nT→ptr→9\n" 5 5
    -- T
    ∷ refused_file "index→1\nM→m\nS→-→module\nT→ptr→0\n" 5 4
    ∷ refused_file "index→1\nM→m\nS→-→module\nT→felt→\n" 4 4
    ∷ refused_file "index→1\nM→m\nS→-→module\nT→feltx\n" 4 4
    ∷ refused_file "index→1\nM→m\nS→-→module\nT→ptr→-\n" 4 4
    ∷ refused_file "index→1\nM→m\nS→-→module\nT→felt\nT→array→0→18446744073709551616\n" 4 5
    ∷ refused_file "index→1\nM→m\nS→-→module\nT→felt\nT→tuple→0→1\n" 5 5
    ∷ refused_file "index→1\nM→m\nS→-→module\nT→felt\nD→0→x→0→1→0→1→param→0\nT→felt\n" 4 6
    ∷ refused_file "index→1\nM→m\nS→-→module\nT→felt\nM→n\nS→-→module\nT→ptr→0\n" 5 7
    -- D
    ∷ refused_file "index→1\nM→m\nS→-→module\nD→1→x→0→1→0→1→loop\n" 5 4
    ∷ refused_file "index→1\nM→m\nS→-→module\nD→0→x→0→1→0→4294967296→loop\n" 4 4
    ∷ refused_file "index→1\nM→m\nS→-→module\nD→0→x→0→1→0→1→fn→-\n" 4 4
    ∷ refused_file "index→1\nM→m\nS→-→module\nT→felt\nD→0→x→0→1→0→1→fn→0→a\n" 4 5
    ∷ refused_file "index→1\nM→m\nS→-→module\nT→felt\nD→0→x→0→1→0→1→fn→0→a→1\n" 5 5
    ∷ refused_file "index→1\nM→m\nS→-→module\nD→0→x→0→1→0→1→struct→a→0\n" 5 4
    ∷ refused_file "index→1\nM→m\nS→-→module\nD→0→x→0→1→0→1→let→-→-→-→0\n" 4 4
    ∷ refused_file "index→1\nM→m\nS→-→module\nD→0→x→0→1→0→1→let→-→-→0→0→1\n" 5 4
    ∷ refused_file "index→1\nM→m\nS→-→module\nE→0→0→1→-→-→plain→-→-→bool\nD→0→x→0→1→0→1→loop\n" 4 5
    ∷ refused_file "index→1\nM→m\nS→-→module\nD→0→x→0→1→0→1→const→-→0\n" 5 4
    ∷ refused_file "index→1\nM→m\nS→-→module\nD→0→x→0→1→0→1→let→-→-\n" 4 4
    ∷ refused_file "index→1\nM→m\nS→-→module\nD→0→x→0→1→0→1→use→m\n" 4 4
    ∷ refused_file "index→1\nM→m\nS→-→module\nD→0→x→0→1→0→1→loop→0\n" 4 4
    ∷ refused_file "index→1\nM→m\nS→-→module\nD→0→x→0→1→0→1→param→-\n" 4 4
    -- E: origin, links and node
    ∷ refused_file "index→1\nM→m\nS→-→module\nE→0→0→1→-→-→plain→0→-→bool\n" 4 4
    ∷ refused_file "index→1\nM→m\nS→-→module\nE→0→0→1→-→-→return→-→x→bool\n" 4 4
    ∷ refused_file "index→1\nM→m\nS→-→module\nE→0→0→1→-→-→assign→-→-→bool\n" 4 4
    ∷ refused_file "index→1\nM→m\nS→-→module\nE→0→0→1→-→-→arg→0→65536→bool\n" 4 4
    ∷ refused_file "index→1\nM→m\nS→-→module\nE→0→0→1→-→-→field→1→x→bool\n" 5 4
    ∷ refused_file "index→1\nM→m\nS→-→module\nE→0→0→1→-→-→assign→1→-→bool\n" 5 4
    ∷ refused_file "index→1\nM→m\nS→-→module\nE→0→0→1→-→0→plain→-→-→bool\n" 5 4
    ∷ refused_file "index→1\nM→m\nS→-→module\nE→0→0→1→0→-→plain→-→-→bool\n" 5 4
    ∷ refused_file "index→1\nM→m\nS→-→module\nE→0→0→1→-→-→plain→-→-→bin→=→-→-\n" 4 4
    ∷ refused_file "index→1\nM→m\nS→-→module\nE→0→0→1→-→-→plain→-→-→un→+→-\n" 4 4
    ∷ refused_file "index→1\nM→m\nS→-→module\nE→0→0→1→-→-→plain→-→-→cast→-\n" 4 4
    ∷ refused_file "index→1\nM→m\nS→-→module\nE→0→0→1→-→-→plain→-→-→new→0→-\n" 5 4
    ∷ refused_file "index→1\nM→m\nS→-→module\nE→0→0→1→-→-→plain→-→-→member→0→-\n" 4 4
    ∷ refused_file "index→1\nM→m\nS→-→module\nE→0→0→1→-→-→plain→-→-→tidx→0→65536\n" 4 4
    ∷ refused_file "index→1\nM→m\nS→-→module\nE→0→0→1→-→-→plain→-→-→call\n" 4 4
    ∷ refused_file "index→1\nM→m\nS→-→module\nE→0→0→1→-→-→plain→-→-→call→-→-→1\n" 5 4
    ∷ refused_file "index→1\nM→m\nS→-→module\nE→0→0→1→-→-→plain→-→-→bool→\n" 4 4
    ∷ refused_file "index→1\nM→m\nS→-→module\nE→0→0→1→-→-→plain→-→-→arr→1\n" 5 4
    -- Q: a context or `type` question's links, if the module, and for `expr` the expression, exists
    ∷ refused_file "index→1\nM→m\nS→-→module\nE→0→0→1→-→-→plain→-→-→bool\nQ→expr→0→0→0\n" 5 5
    ∷ refused_file "index→1\nM→m\nS→-→module\nT→felt\nQ→type→0→0→1\n" 5 5
    ∷ refused_file "index→1\nM→m\nS→-→module\nQ→type→0→0→0\n" 5 4
    ∷ refused_file "index→1\nM→m\nS→-→module\nQ→expr→0→0\n" 4 4
    ∷ refused_file "index→1\nM→m\nS→-→module\nQ→def→0→-\n" 4 4
    ∷ refused_file "index→1\nM→m\nS→-→module\nQ→def→0→0\nM→n\n" 4 5
    -- `at`: a position, not a link; nothing else
    ∷ refused_file "index→1\nM→m\nS→-→module\nQ→at→0→4294967296\n" 4 4
    ∷ refused_file "index→1\nM→m\nS→-→module\nQ→at→0→-\n" 4 4
    ∷ refused_file "index→1\nM→m\nS→-→module\nQ→at→65536→0\n" 4 4
    ∷ refused_file "index→1\nM→m\nS→-→module\nQ→at→0→0→0\n" 4 4
    -- 4 before 5, whatever the line
    ∷ refused_file "index→1\nM→m\nS→-→module\nT→ptr→9\nT\n" 4 5
    -- 3 before 4: a line counts by its first field
    ∷ refused_file "index→1\nM→a\nS→-→module\nM→b\nS→-→module\nM→c\nS→-→module\nM→d\nS→-→module\nM→e\nS→-→module\nM→f\nS→-→module\nM→g\nS→-→module\nM→h\nS→-→module\nM\n" 3 18
    ∷ []

pub refusals_hold : map (λ r. load (tabs r.file)) refusals ≡ map (λ r. refused r.number r.line) refusals
unfolding loads refusals
refusals_hold = refl

-- ------------------------------------------------------------------ long files: a head, a part so many times, a tail

pub record Long : Type 0 where
  pub head : String
  pub times : ℕ
  pub part : String
  pub tail : String
  pub number : ℕ
  pub line : ℕ

abbrev long : String → ℕ → String → String → ℕ → ℕ → Long
long head times part tail number line = record { head = head; times = times; part = part; tail = tail; number = number; line = line }

abbrev times_text : ℕ → Text → Text
times_text ℕ.zero part = []
times_text (ℕ.suc n) part = part ++ times_text n part

abbrev long_text : Long → Text
long_text l = tabs l.head ++ (times_text l.times (tabs l.part) ++ tabs l.tail)

unfoldable pub longs : List Long
longs =
    -- a file over its byte limit, before the first line
    long "" 65537 "a" "" 3 0
    ∷ long "" 65536 "a" "" 2 1
    -- one line too many of each kind, whatever its form
    ∷ long "index→1\nM→m\nS→-→module\n" 127 "S→0→block\n" "S\n" 3 131
    ∷ long "index→1\nM→m\nS→-→module\n" 512 "T→felt\n" "T\n" 3 516
    ∷ long "index→1\nM→m\nS→-→module\n" 256 "D→0→x→0→1→0→1→loop\n" "D\n" 3 260
    ∷ long "index→1\nM→m\nS→-→module\n" 512 "E→0→0→1→-→-→plain→-→-→bool\n" "E\n" 3 516
    ∷ long "index→1\nM→m\nS→-→module\n" 256 "Q→def→0→0\n" "Q" 3 260
    -- 2,049 items: 3 in a line of right form, also without LF or in the wrong place, else 4
    ∷ long "index→1\nM→m\nS→-→module\nT→felt\nT→tuple" 2049 "→0" "\n" 3 5
    ∷ long "index→1\nM→m\nS→-→module\nT→felt\nT→tuple" 2049 "→0" "" 3 5
    ∷ long "index→1\nM→m\nS→-→module\nT→felt\nD→0→x→0→1→0→1→param→0\nT→tuple" 2049 "→0" "\n" 3 6
    ∷ long "index→1\nM→m\nS→-→module\nT→felt\nT→tuple" 2049 "→0" "→-\n" 4 5
    ∷ []

pub longs_hold : map (λ l. load (long_text l)) longs ≡ map (λ l. refused l.number l.line) longs
unfolding loads longs
longs_hold = refl

-- ------------------------------------------------------------------ accepted files: how many modules and questions they have

pub record Taken : Type 0 where
  pub file : String
  pub modules : ℕ
  pub questions : ℕ

abbrev accepted_file : String → ℕ → ℕ → Taken
accepted_file file modules questions = record { file = file; modules = modules; questions = questions }

abbrev sizes : Loading → List ℕ
sizes (accepted index) = length index.modules ∷ length index.questions ∷ []
sizes (refused number line) = []

unfoldable pub taken : List Taken
taken =
    -- a question about nothing is no fault
    accepted_file "index→1\nM→m\nS→-→module\nQ→expr→0→0→9\n" 1 1
    ∷ accepted_file "index→1\nM→m\nS→-→module\nQ→expr→3→0→9\n" 1 1
    ∷ accepted_file "index→1\nM→m\nS→-→module\nQ→type→1→9→9\n" 1 1
    ∷ accepted_file "index→1\nM→m\nS→-→module\nQ→def→0→65535\n" 1 1
    ∷ accepted_file "index→1\nQ→def→0→0\n" 0 1
    ∷ accepted_file "index→1\nQ→at→65535→4294967295\n" 0 1
    -- nothing at all, and the limits of a field
    ∷ accepted_file "index→1\n" 0 0
    ∷ accepted_file "index→1\nM→~~~~~~~~~~~~~~~~~~~~~~~~~~~~~~~~~~~~~~~~~~~~~~~~~~~~~~~~~~~~~~~~\nS→-→module\n" 1 0
    ∷ accepted_file "index→1\nM→m\nS→-→module\nT→felt\nT→array→0→18446744073709551615\n" 1 0
    -- every kind of line, origin and node
    ∷ accepted_file "index→1\nM→m\nS→-→module\nT→felt\nT→tuple\nT→tuple→0→1\nT→bool\nT→u32\nT→custom→s\nT→ptr→5\nD→0→x→0→1→0→1→struct→x→0→y→2\nD→0→x→0→1→0→1→const→-→-\nD→0→x→0→1→0→1→let→0→1→2→0→1\nD→0→x→0→1→0→1→use→m→x\nD→0→x→0→1→0→1→loop\nD→0→x→0→1→0→1→fn→0\nD→0→x→0→1→0→1→param→6\nE→0→0→1→-→-→plain→-→-→lit→u32\nE→0→0→1→-→-→field→0→x→bool\nE→0→0→1→-→-→arg→1→0→ident→x\nE→0→0→1→-→-→assign→2→-→un→!→-\nE→0→0→1→-→-→return→-→-→bin→^→1→-\nE→0→0→1→-→-→cond→-→-→call→-→1→-\nE→0→0→1→-→-→plain→-→-→member→1→x\nE→0→0→1→-→-→plain→-→-→index→1→2\nE→0→0→1→-→-→plain→-→-→slit→p→0→1\nE→0→0→1→-→-→plain→-→-→tuple\nE→0→0→1→-→-→plain→-→-→tidx→1→65535\nE→0→0→1→-→-→plain→-→-→arr→1→2\nE→0→0→1→-→-→plain→-→-→rep→1→7\nE→0→0→1→-→-→plain→-→-→cast→0\nE→0→0→1→-→-→plain→-→-→new→0→-\nE→0→0→1→-→-→plain→-→-→paren→15\nQ→type→0→2→0\nQ→def→0→1\nQ→expr→0→15→2\n" 1 3
    ∷ []

pub taken_hold : map (λ f. sizes (load (tabs f.file))) taken ≡ map (λ f. f.modules ∷ f.questions ∷ []) taken
unfolding loads taken
taken_hold = refl

-- ------------------------------------------------------------------ accepted files at a limit: how many items and modules they have

pub record AtLimit : Type 0 where
  pub head : String
  pub times : ℕ
  pub part : String
  pub tail : String
  pub modules : ℕ
  pub items : ℕ

abbrev at_limit : String → ℕ → String → String → ℕ → ℕ → AtLimit
at_limit head times part tail modules items =
    record { head = head; times = times; part = part; tail = tail; modules = modules; items = items }

abbrev items_and_modules : Loading → List ℕ
items_and_modules (accepted index) = length index.modules ∷ item_count index ∷ []
items_and_modules (refused number line) = []

unfoldable pub limits : List AtLimit
limits =
    -- 2,048 items, 8 modules, 128 scopes
    at_limit "index→1\nM→m\nS→-→module\nT→felt\nT→tuple" 2048 "→0" "\n" 1 2048
    ∷ at_limit "index→1\nM→a\nS→-→module\nM→b\nS→-→module\nM→c\nS→-→module\nM→d\nS→-→module\nM→e\nS→-→module\nM→f\nS→-→module\nM→g\nS→-→module\nM→h\nS→-→module\n" 120 "S→0→block\n" "" 8 0
    ∷ []

pub limits_hold : map (λ l. items_and_modules (load (tabs l.head ++ (times_text l.times (tabs l.part) ++ tabs l.tail)))) limits
    ≡ map (λ l. l.modules ∷ l.items ∷ []) limits
unfolding loads limits
limits_hold = refl
