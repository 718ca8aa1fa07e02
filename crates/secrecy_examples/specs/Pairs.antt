-- The premises of demand 3 are met: pairs of files as text, each with a body of its own, and questions about the outside at a place in each. By the
-- theorem each question has the same line in both files; what is printed stands beside it, by computation.
--   `plain`: one body returns a number, the other defines a variable; a question each of `expr`, `def` and `type`.
--   `deep`: bodies with scopes nested three deep and four deep, over two modules, with names of their own that are also outside.
--   `between`: records inside stand between those outside by number: scopes, T, definitions and expressions.
--   `moved`: the bodies stand in different modules, under different numbers.
--   `ring`: the line that both have in common is a refusal.
--   `byte`: bytes outside, where expressions inside end or are empty.
-- Last, what the tests refuse: files that lack a premise or whose lists of scopes and T are wrong, questions that are not about the outside or name a
-- T that is not listed. (Two files that differ outside have no proof of `same`; that is not shown.) Assumes nothing.
use Rattle.std.specs.Prelude.{ℕ, ◌≡◌, refl, Bool, true, false, List, [], ◌∷◌, map}
use Prim.Native.String.{String}
use Rattle.std.specs.Prelude.{None, Some}
use Rattle.model.specs.Common.{tabs}
use Rattle.model.specs.Records.{Question}
use Rattle.format.specs.Computes.{loads}
use Rattle.resolution.specs.Asked.{Asked}
use Rattle.resolution.specs.Secrecy.{SameLine}
use Rattle.resolution.specs.Resolve.{resolve}
use Rattle.resolution.specs.Computes.{resolves}
use Rattle.resolution.proofs.BodyTest.{BodyScopes, Types, asked_test, tests}
use Rattle.resolution.proofs.PairTest.{Pair, index_in, file_test, Agreeing, pair_same}

-- module, `function` scope, scopes inside
abbrev body : ℕ → ℕ → List ℕ → BodyScopes
body m s inside = record { body = record { module_number = m; scope_number = s }; inside = inside }

-- ------------------------------------------------------------------ bodies that differ

-- `fn f() -> felt { return 1; } const c = true;`, and then `{ let d: u32 = c; return d; }`
unfoldable pub one_file : String
one_file =
    "index→1\nM→main\nS→-→module\nS→0→function\nT→felt\nD→0→f→3→4→0→39→fn→0\nD→0→c→46→47→40→55→const→-→0\nE→0→50→54→-→-→plain→-→-→bool\nE→1→24→25→-→-→return→-→-→lit→-\nQ→def→0→1\nQ→expr→0→0→0\nQ→type→0→0→0\n"

unfoldable pub other_file : String
other_file =
    "index→1\nM→main\nS→-→module\nS→0→function\nT→felt\nT→u32\nD→0→f→3→4→0→39→fn→0\nD→0→c→46→47→40→55→const→-→0\nD→1→d→21→22→17→27→let→1→1→-\nE→0→50→54→-→-→plain→-→-→bool\nE→1→25→26→1→1→plain→-→-→ident→c\nE→1→35→36→-→2→return→-→-→ident→d\nQ→def→0→0\nQ→type→0→0→0\nQ→expr→0→0→0\nQ→def→0→1\n"

unfoldable pub plain : Pair
plain = record { first_file = one_file; second_file = other_file; first_body = body 0 1 (1 ∷ []); second_body = body 0 1 (1 ∷ []); types = (0, 0) ∷ [] }

plain_agreeing : Agreeing plain
unfolding loads tests index_in file_test plain one_file other_file
plain_agreeing = record { first_test = refl; second_test = refl; same = refl }

-- a question each of `def`, `expr` and `type`: c at 0 and 3, its value with a context at 1 and 2, felt at 2 and 1
pub c_same : SameLine (tabs one_file) (tabs other_file) 0 3 (Question.def 0 1) (Asked.def 0 1)
unfolding loads tests index_in plain one_file other_file
c_same = pair_same plain (Question.def 0 1) (Asked.def 0 1) 0 3 plain_agreeing refl refl refl refl refl

pub value_same : SameLine (tabs one_file) (tabs other_file) 1 2 (Question.expr 0 0 (Some 0)) (Asked.expr 0 0 (Some 0))
unfolding loads tests index_in plain one_file other_file
value_same = pair_same plain (Question.expr 0 0 (Some 0)) (Asked.expr 0 0 (Some 0)) 1 2 plain_agreeing refl refl refl refl refl

pub felt_same : SameLine (tabs one_file) (tabs other_file) 2 1 (Question.type 0 0 0) (Asked.type 0 0 0)
unfolding loads tests index_in plain one_file other_file
felt_same = pair_same plain (Question.type 0 0 0) (Asked.type 0 0 0) 2 1 plain_agreeing refl refl refl refl refl

pub one_printed : resolve (tabs one_file) ≡ tabs "def→0→1→type→bool\nexpr→0→0→type→bool\ntype→0→0→type→felt\n"
unfolding resolves one_file
one_printed = refl

pub other_printed : resolve (tabs other_file) ≡ tabs "def→0→0→type→fn:0.0\ntype→0→0→type→felt\nexpr→0→0→type→bool\ndef→0→1→type→bool\n"
unfolding resolves other_file
other_printed = refl

-- ------------------------------------------------------------------ bodies with scopes nested three deep, and four deep

-- struct P, function f, constant c (`1 + y`) and `use lib.k` as y are outside. In the body a block holds a loop
unfoldable pub three_deep : String
three_deep =
    "index→1\nM→main\nS→-→module\nS→0→function\nS→1→block\nS→2→loop\nT→felt\nT→u32\nT→custom→P\nT→ptr→0\nD→0→P→7→8→0→20→struct→x→1\nD→0→f→24→25→21→90→fn→1→p→2\nD→0→c→97→98→91→110→const→-→0\nD→0→y→120→121→111→122→use→lib→k\nD→1→p→26→27→26→30→param→2\nD→3→i→44→45→44→45→loop\nD→3→q→52→53→48→60→let→3→5→-\nE→0→101→106→-→-→plain→-→-→bin→+→1→2\nE→0→101→102→-→-→plain→-→-→lit→-\nE→0→105→106→-→3→plain→-→-→ident→y\nE→2→40→44→-→-→cond→-→-→bool\nE→3→70→71→-→-→return→-→-→lit→-\nE→3→56→59→-→-→plain→-→-→new→0→4\nM→lib\nS→-→module\nD→0→k→6→7→0→14→const→-→0\nE→0→10→14→-→-→plain→-→-→lit→u32\nQ→def→0→2\nQ→expr→0→0→-\nQ→type→0→2→0\n"

-- the body has a loop in a block in a block, and its own y, c and P
unfoldable pub four_deep : String
four_deep =
    "index→1\nM→main\nS→-→module\nS→0→function\nS→1→block\nS→2→block\nS→3→loop\nT→felt\nT→u32\nT→custom→P\nT→tuple→0→0\nD→0→P→7→8→0→20→struct→x→1\nD→0→f→24→25→21→90→fn→1→p→2\nD→0→c→97→98→91→110→const→-→0\nD→0→y→120→121→111→122→use→lib→k\nD→4→P→40→41→33→50→struct→z→0\nD→2→y→55→56→51→60→let→0→-→-\nD→3→c→66→67→60→70→let→-→4→-\nE→0→101→106→-→-→plain→-→-→bin→+→1→2\nE→0→101→102→-→-→plain→-→-→lit→-\nE→0→105→106→-→3→plain→-→-→ident→y\nE→4→72→76→-→-→plain→-→-→bool\nE→3→68→69→-→5→plain→-→-→ident→y\nM→lib\nS→-→module\nD→0→k→6→7→0→14→const→-→0\nE→0→10→14→-→-→plain→-→-→lit→u32\nQ→type→0→2→0\nQ→def→0→2\nQ→expr→0→4→-\nQ→expr→0→0→-\n"

unfoldable pub deep : Pair
deep =
    record { first_file = three_deep; second_file = four_deep; first_body = body 0 1 (1 ∷ 2 ∷ 3 ∷ []); second_body = body 0 1 (1 ∷ 2 ∷ 3 ∷ 4 ∷ []); types = (0, 1) ∷ (0, 2) ∷ [] }

deep_agreeing : Agreeing deep
unfolding loads tests index_in file_test deep three_deep four_deep
deep_agreeing = record { first_test = refl; second_test = refl; same = refl }

pub deep_constant_same : SameLine (tabs three_deep) (tabs four_deep) 0 1 (Question.def 0 2) (Asked.def 0 2)
unfolding loads tests index_in deep three_deep four_deep
deep_constant_same = pair_same deep (Question.def 0 2) (Asked.def 0 2) 0 1 deep_agreeing refl refl refl refl refl

pub deep_sum_same : SameLine (tabs three_deep) (tabs four_deep) 1 3 (Question.expr 0 0 None) (Asked.expr 0 0 None)
unfolding loads tests index_in deep three_deep four_deep
deep_sum_same = pair_same deep (Question.expr 0 0 None) (Asked.expr 0 0 None) 1 3 deep_agreeing refl refl refl refl refl

pub deep_struct_same : SameLine (tabs three_deep) (tabs four_deep) 2 0 (Question.type 0 2 0) (Asked.type 0 2 0)
unfolding loads tests index_in deep three_deep four_deep
deep_struct_same = pair_same deep (Question.type 0 2 0) (Asked.type 0 2 0) 2 0 deep_agreeing refl refl refl refl refl

pub three_printed : resolve (tabs three_deep) ≡ tabs "def→0→2→type→u32\nexpr→0→0→type→u32\ntype→0→2→type→struct:0.0\n"
unfolding resolves three_deep
three_printed = refl

pub four_printed : resolve (tabs four_deep) ≡ tabs "type→0→2→type→struct:0.0\ndef→0→2→type→u32\nexpr→0→4→type→felt\nexpr→0→0→type→u32\n"
unfolding resolves four_deep
four_printed = refl

-- ------------------------------------------------------------------ records inside between those outside

-- functions f and g and a struct P; the body is f's. Outside are scopes 0 and 3, T 0 and 2, D 0, 2, 4 and 5, E 1 and 3. In the body a block has a P
-- of its own
unfoldable pub block_between : String
block_between =
    "index→1\nM→main\nS→-→module\nS→0→function\nS→1→block\nS→0→function\nT→felt\nT→u32\nT→custom→P\nD→0→f→3→4→0→60→fn→0\nD→1→a→20→21→16→30→let→1→-→-\nD→0→P→67→68→61→80→struct→x→0\nD→2→P→37→38→31→50→struct→y→1\nD→0→g→84→85→81→140→fn→0→p→2\nD→3→p→86→87→86→90→param→2\nE→1→52→53→-→-→return→-→-→lit→-\nE→3→110→111→-→5→plain→-→-→ident→p\nE→2→40→41→-→1→plain→-→-→ident→a\nE→3→110→113→-→-→return→-→-→member→1→x\nQ→expr→0→3→-\nQ→type→0→2→3\nQ→def→0→4\n"

-- scope 2, T 1, D 1 and 3, E 0 and 2 are others, and behind the last outside stand scope 4, T 3, D 6 and E 4. The body has a g and a p of its own
unfoldable pub loop_between : String
loop_between =
    "index→1\nM→main\nS→-→module\nS→0→function\nS→1→loop\nS→0→function\nS→2→block\nT→felt\nT→ptr→0\nT→custom→P\nT→tuple→1→2\nD→0→f→3→4→0→60→fn→0\nD→1→g→20→21→16→30→param→3\nD→0→P→67→68→61→80→struct→x→0\nD→2→i→37→38→31→50→loop\nD→0→g→84→85→81→140→fn→0→p→2\nD→3→p→86→87→86→90→param→2\nD→4→p→44→45→40→50→let→-→4→-\nE→2→52→56→-→-→cond→-→-→bool\nE→3→110→111→-→5→plain→-→-→ident→p\nE→1→40→44→-→1→plain→-→-→ident→g\nE→3→110→113→-→-→return→-→-→member→1→x\nE→4→46→48→-→-→plain→-→-→tuple→2→0\nQ→def→0→4\nQ→expr→0→4→-\nQ→expr→0→3→-\nQ→type→0→2→3\n"

unfoldable pub between : Pair
between =
    record { first_file = block_between; second_file = loop_between; first_body = body 0 1 (1 ∷ 2 ∷ []); second_body = body 0 1 (1 ∷ 2 ∷ 4 ∷ []); types = (0, 0) ∷ (0, 2) ∷ [] }

between_agreeing : Agreeing between
unfolding loads tests index_in file_test between block_between loop_between
between_agreeing = record { first_test = refl; second_test = refl; same = refl }

-- `p.x` in g, the type P in g's scope, and g
pub between_member_same : SameLine (tabs block_between) (tabs loop_between) 0 2 (Question.expr 0 3 None) (Asked.expr 0 3 None)
unfolding loads tests index_in between block_between loop_between
between_member_same = pair_same between (Question.expr 0 3 None) (Asked.expr 0 3 None) 0 2 between_agreeing refl refl refl refl refl

pub between_struct_same : SameLine (tabs block_between) (tabs loop_between) 1 3 (Question.type 0 2 3) (Asked.type 0 2 3)
unfolding loads tests index_in between block_between loop_between
between_struct_same = pair_same between (Question.type 0 2 3) (Asked.type 0 2 3) 1 3 between_agreeing refl refl refl refl refl

pub between_function_same : SameLine (tabs block_between) (tabs loop_between) 2 0 (Question.def 0 4) (Asked.def 0 4)
unfolding loads tests index_in between block_between loop_between
between_function_same = pair_same between (Question.def 0 4) (Asked.def 0 4) 2 0 between_agreeing refl refl refl refl refl

pub block_between_printed : resolve (tabs block_between) ≡ tabs "expr→0→3→type→felt\ntype→0→2→type→struct:0.2\ndef→0→4→type→fn:0.4\n"
unfolding resolves block_between
block_between_printed = refl

pub loop_between_printed : resolve (tabs loop_between) ≡ tabs "def→0→4→type→fn:0.4\nexpr→0→4→type→((ptr(felt),struct:0.2),bool)\nexpr→0→3→type→felt\ntype→0→2→type→struct:0.2\n"
unfolding resolves loop_between
loop_between_printed = refl

-- ------------------------------------------------------------------ bodies in different modules

-- f in main with a body, g in lib without one; c in main is `lib.k`
unfoldable pub body_in_main : String
body_in_main =
    "index→1\nM→main\nS→-→module\nS→0→function\nT→felt\nD→0→f→3→4→0→30→fn→0\nD→0→k→35→36→31→40→use→lib→k\nD→0→c→46→47→41→55→const→-→0\nE→0→50→51→-→1→plain→-→-→ident→k\nE→1→24→25→-→-→return→-→-→lit→-\nM→lib\nS→-→module\nS→0→function\nT→u32\nD→0→g→3→4→0→30→fn→0\nD→0→k→37→38→31→50→const→0→-\nQ→def→0→2\nQ→def→1→0\n"

-- f without a body, g with one, in which there is another k
unfoldable pub body_in_lib : String
body_in_lib =
    "index→1\nM→main\nS→-→module\nT→felt\nD→0→f→3→4→0→30→fn→0\nD→0→k→35→36→31→40→use→lib→k\nD→0→c→46→47→41→55→const→-→0\nE→0→50→51→-→1→plain→-→-→ident→k\nM→lib\nS→-→module\nS→0→function\nS→0→function\nT→u32\nT→felt\nD→0→g→3→4→0→30→fn→0\nD→0→k→37→38→31→50→const→0→-\nD→2→k→15→16→11→20→let→1→0→-\nE→2→18→19→-→-→plain→-→-→bool\nQ→def→1→0\nQ→def→0→2\n"

unfoldable pub moved : Pair
moved =
    record { first_file = body_in_main; second_file = body_in_lib; first_body = body 0 1 (1 ∷ []); second_body = body 1 2 (2 ∷ []); types = (0, 0) ∷ (1, 0) ∷ [] }

moved_agreeing : Agreeing moved
unfolding loads tests index_in file_test moved body_in_main body_in_lib
moved_agreeing = record { first_test = refl; second_test = refl; same = refl }

pub moved_constant_same : SameLine (tabs body_in_main) (tabs body_in_lib) 0 1 (Question.def 0 2) (Asked.def 0 2)
unfolding loads tests index_in moved body_in_main body_in_lib
moved_constant_same = pair_same moved (Question.def 0 2) (Asked.def 0 2) 0 1 moved_agreeing refl refl refl refl refl

pub moved_function_same : SameLine (tabs body_in_main) (tabs body_in_lib) 1 0 (Question.def 1 0) (Asked.def 1 0)
unfolding loads tests index_in moved body_in_main body_in_lib
moved_function_same = pair_same moved (Question.def 1 0) (Asked.def 1 0) 1 0 moved_agreeing refl refl refl refl refl

pub body_in_main_printed : resolve (tabs body_in_main) ≡ tabs "def→0→2→type→u32\ndef→1→0→type→fn:1.0\n"
unfolding resolves body_in_main
body_in_main_printed = refl

pub body_in_lib_printed : resolve (tabs body_in_lib) ≡ tabs "def→1→0→type→fn:1.0\ndef→0→2→type→u32\n"
unfolding resolves body_in_lib
body_in_lib_printed = refl

-- ------------------------------------------------------------------ a refusal in common

-- `const a = b; const b = a;` outside
unfoldable pub ring_one : String
ring_one =
    "index→1\nM→main\nS→-→module\nS→0→function\nT→felt\nD→0→a→6→7→0→12→const→-→0\nD→0→b→19→20→13→25→const→-→1\nD→0→f→29→30→26→60→fn→0\nE→0→10→11→-→1→plain→-→-→ident→b\nE→0→23→24→-→0→plain→-→-→ident→a\nE→1→50→51→-→-→return→-→-→lit→-\nQ→def→0→0\nQ→def→0→2\n"

-- the body has its own a, which is no ring
unfoldable pub ring_other : String
ring_other =
    "index→1\nM→main\nS→-→module\nS→0→function\nT→felt\nD→0→a→6→7→0→12→const→-→0\nD→0→b→19→20→13→25→const→-→1\nD→0→f→29→30→26→60→fn→0\nD→1→a→44→45→40→50→let→0→2→-\nE→0→10→11→-→1→plain→-→-→ident→b\nE→0→23→24→-→0→plain→-→-→ident→a\nE→1→46→49→-→-→plain→-→-→bool\nE→1→55→56→-→3→return→-→-→ident→a\nQ→def→0→3\nQ→expr→0→3→-\nQ→def→0→0\n"

unfoldable pub ring : Pair
ring = record { first_file = ring_one; second_file = ring_other; first_body = body 0 1 (1 ∷ []); second_body = body 0 1 (1 ∷ []); types = (0, 0) ∷ [] }

ring_agreeing : Agreeing ring
unfolding loads tests index_in file_test ring ring_one ring_other
ring_agreeing = record { first_test = refl; second_test = refl; same = refl }

pub ring_same : SameLine (tabs ring_one) (tabs ring_other) 0 2 (Question.def 0 0) (Asked.def 0 0)
unfolding loads tests index_in ring ring_one ring_other
ring_same = pair_same ring (Question.def 0 0) (Asked.def 0 0) 0 2 ring_agreeing refl refl refl refl refl

pub ring_one_printed : resolve (tabs ring_one) ≡ tabs "def→0→0→refused→7\ndef→0→2→type→fn:0.2\n"
unfolding resolves ring_one
ring_one_printed = refl

pub ring_other_printed : resolve (tabs ring_other) ≡ tabs "def→0→3→type→felt\nexpr→0→3→type→felt\ndef→0→0→refused→7\n"
unfolding resolves ring_other
ring_other_printed = refl

-- ------------------------------------------------------------------ a byte

-- `const c = 1 + 2u32;` outside, from byte 50 on. In the body stands a number
unfoldable pub byte_one : String
byte_one =
    "index→1\nM→main\nS→-→module\nS→0→function\nT→felt\nD→0→f→3→4→0→39→fn→0\nD→0→c→46→47→40→59→const→-→0\nE→0→50→58→-→-→plain→-→-→bin→+→1→2\nE→0→50→51→-→-→plain→-→-→lit→-\nE→0→54→58→-→-→plain→-→-→lit→u32\nE→1→24→25→-→-→return→-→-→lit→-\nQ→at→0→50\nQ→at→0→52\nQ→at→0→58\nQ→at→0→24\nQ→at→7→0\n"

-- in the body two expressions, one of which ends where c's value begins, and one that is empty where it ends
unfoldable pub byte_other : String
byte_other =
    "index→1\nM→main\nS→-→module\nS→0→function\nT→felt\nD→0→f→3→4→0→39→fn→0\nD→0→c→46→47→40→59→const→-→0\nE→0→50→58→-→-→plain→-→-→bin→+→1→2\nE→0→50→51→-→-→plain→-→-→lit→-\nE→0→54→58→-→-→plain→-→-→lit→u32\nE→1→20→50→-→-→plain→-→-→bool\nE→1→58→58→-→-→plain→-→-→bool\nQ→at→7→0\nQ→at→0→58\nQ→at→0→52\nQ→at→0→24\nQ→at→0→50\n"

unfoldable pub byte : Pair
byte = record { first_file = byte_one; second_file = byte_other; first_body = body 0 1 (1 ∷ []); second_body = body 0 1 (1 ∷ []); types = (0, 0) ∷ [] }

byte_agreeing : Agreeing byte
unfolding loads tests index_in file_test byte byte_one byte_other
byte_agreeing = record { first_test = refl; second_test = refl; same = refl }

-- the number, the sum, behind the last byte, and in a module that is not there
pub byte_number_same : SameLine (tabs byte_one) (tabs byte_other) 0 4 (Question.at 0 50) (Asked.at 0 50)
unfolding loads tests index_in byte byte_one byte_other
byte_number_same = pair_same byte (Question.at 0 50) (Asked.at 0 50) 0 4 byte_agreeing refl refl refl refl refl

pub byte_sum_same : SameLine (tabs byte_one) (tabs byte_other) 1 2 (Question.at 0 52) (Asked.at 0 52)
unfolding loads tests index_in byte byte_one byte_other
byte_sum_same = pair_same byte (Question.at 0 52) (Asked.at 0 52) 1 2 byte_agreeing refl refl refl refl refl

pub byte_behind_same : SameLine (tabs byte_one) (tabs byte_other) 2 1 (Question.at 0 58) (Asked.at 0 58)
unfolding loads tests index_in byte byte_one byte_other
byte_behind_same = pair_same byte (Question.at 0 58) (Asked.at 0 58) 2 1 byte_agreeing refl refl refl refl refl

pub byte_absent_same : SameLine (tabs byte_one) (tabs byte_other) 4 0 (Question.at 7 0) (Asked.at 7 0)
unfolding loads tests index_in byte byte_one byte_other
byte_absent_same = pair_same byte (Question.at 7 0) (Asked.at 7 0) 4 0 byte_agreeing refl refl refl refl refl

-- byte 24 lies in the body: there the lines differ
pub byte_one_printed : resolve (tabs byte_one) ≡ tabs "at→0→50→type→felt\nat→0→52→type→u32\nat→0→58→none\nat→0→24→type→felt\nat→7→0→none\n"
unfolding resolves byte_one
byte_one_printed = refl

pub byte_other_printed : resolve (tabs byte_other) ≡ tabs "at→7→0→none\nat→0→58→none\nat→0→52→type→u32\nat→0→24→type→bool\nat→0→50→type→felt\n"
unfolding resolves byte_other
byte_other_printed = refl

-- ------------------------------------------------------------------ what the test refuses

pub record Refused : Type 0 where
  pub file : String
  pub scopes : BodyScopes
  pub types : Types

-- no T is listed
abbrev refused : String → BodyScopes → Refused
refused file scopes = record { file = file; scopes = scopes; types = [] }

-- each lacks one of the premises, or one of its lists, of the scopes inside and of the T, is wrong
unfoldable pub refused_files : List Refused
refused_files =
    -- the body's scope is a block
    refused "index→1\nM→m\nS→-→module\nS→0→function\nS→1→block\n" (body 0 2 (2 ∷ []))
    -- a scope below the body is not said to be inside; a scope is said to be inside and is not below
    ∷ refused "index→1\nM→m\nS→-→module\nS→0→function\nS→1→block\n" (body 0 1 (1 ∷ []))
    ∷ refused "index→1\nM→m\nS→-→module\nS→0→function\nS→0→function\n" (body 0 1 (1 ∷ 2 ∷ []))
    -- an outside constant has its value inside
    ∷ refused "index→1\nM→m\nS→-→module\nS→0→function\nD→0→c→0→1→0→1→const→-→0\nE→1→2→3→-→-→plain→-→-→bool\n" (body 0 1 (1 ∷ []))
    -- an outside name records a definition inside
    ∷ refused "index→1\nM→m\nS→-→module\nS→0→function\nD→1→i→0→1→0→1→loop\nE→0→2→3→-→0→plain→-→-→ident→i\n" (body 0 1 (1 ∷ []))
    -- an outside expression has a child inside
    ∷ refused "index→1\nM→m\nS→-→module\nS→0→function\nE→1→2→3→-→-→plain→-→-→bool\nE→0→1→4→-→-→plain→-→-→paren→0\n" (body 0 1 (1 ∷ []))
    -- an outside number is an operand of a sum inside
    ∷ refused "index→1\nM→m\nS→-→module\nS→0→function\nE→0→2→3→-→-→plain→-→-→lit→-\nE→1→2→5→-→-→plain→-→-→bin→+→0→0\n" (body 0 1 (1 ∷ []))
    -- an outside definition names a T that is not listed; so does an outside expression
    ∷ refused "index→1\nM→m\nS→-→module\nS→0→function\nT→felt\nD→0→f→0→1→0→1→fn→0\n" (body 0 1 (1 ∷ []))
    ∷ refused "index→1\nM→m\nS→-→module\nS→0→function\nT→felt\nE→0→2→3→-→-→plain→-→-→cast→0\n" (body 0 1 (1 ∷ []))
    -- a T that is listed names one that is not
    ∷ record { file = "index→1\nM→m\nS→-→module\nS→0→function\nT→felt\nT→ptr→0\n"; scopes = body 0 1 (1 ∷ []); types = (0, 1) ∷ [] }
    -- loading refuses the file
    ∷ refused "index→1\nM→m\nS→-→module\nS→1→function\n" (body 0 1 (1 ∷ []))
    ∷ []

pub files_refused : map (λ r. file_test r.file r.scopes r.types) refused_files ≡ map (λ r. false) refused_files
unfolding loads tests index_in file_test refused_files
files_refused = refl

-- the same without what is wrong passes
pub file_taken : file_test "index→1\nM→m\nS→-→module\nS→0→function\nS→1→block\n" (body 0 1 (1 ∷ 2 ∷ [])) [] ≡ true
unfolding loads tests index_in file_test
file_taken = refl

-- D 0, E 0 and scope 0 are outside, D 1, E 1 and scope 1 inside; of T 0 and 1 the first is listed
unfoldable pub asked_file : String
asked_file =
    "index→1\nM→m\nS→-→module\nS→0→function\nT→felt\nT→felt\nD→0→c→0→1→0→1→const→-→0\nD→1→i→2→3→2→3→loop\nE→0→0→1→-→-→plain→-→-→bool\nE→1→2→3→-→-→plain→-→-→bool\n"

abbrev is_taken : Asked → Bool
is_taken = asked_test (index_in asked_file) (body 0 1 (1 ∷ [])) ((0, 0) ∷ [])

-- about a record inside, an absent one, a scope inside, an absent module; with a T that is not listed; about a byte that an expression inside covers
unfoldable pub refused_lines : List Asked
refused_lines =
    Asked.def 0 1
    ∷ Asked.def 0 2
    ∷ Asked.expr 0 1 None
    ∷ Asked.expr 0 2 None
    ∷ Asked.expr 0 0 (Some 1)
    ∷ Asked.type 0 0 1
    ∷ Asked.type 0 1 0
    ∷ Asked.type 0 2 0
    ∷ Asked.def 1 0
    ∷ Asked.at 0 2
    ∷ []

pub lines_refused : map is_taken refused_lines ≡ map (λ q. false) refused_lines
unfolding loads tests index_in asked_file refused_lines
lines_refused = refl

-- the same of records outside passes, and of a byte that no expression inside covers, in an absent module too
pub lines_taken : map is_taken (Asked.def 0 0 ∷ Asked.expr 0 0 None ∷ Asked.expr 0 0 (Some 0) ∷ Asked.type 0 0 0 ∷ Asked.at 0 0 ∷ Asked.at 0 3 ∷ Asked.at 1 2 ∷ [])
    ≡ true ∷ true ∷ true ∷ true ∷ true ∷ true ∷ true ∷ []
unfolding loads tests index_in asked_file
lines_taken = refl
