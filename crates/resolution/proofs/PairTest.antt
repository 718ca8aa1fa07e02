-- Two files, a body in each and a list of T: tests that compute, by which the two meet what demand 3 supposes. What is outside is the same value
-- in both (`outside_of`), and each body passes its test. So an example of demand 3 is one computation. Assumes nothing.
use Prim.Native.Nat.{ℕ}
use Prim.Native.String.{String}
use mathlib.Core.Path.{◌≡◌, refl, sym, ◌∙◌, ap}
use mathlib.Core.Bool.{Bool, true, false, not, ◌&&◌, false≢true}
use mathlib.Core.List.{List, []}
use Rattle.std.specs.Prelude.{Option, None, Some}
use Rattle.std.specs.Prelude.{slice_get}
use Rattle.model.specs.Common.{let_some, tabs, every}
use Rattle.model.specs.Records.{Name, TypeExpr, Module, Question, Index}
use Rattle.model.specs.Lookups.{module_at}
use Rattle.model.specs.Links.{module_name, scope_in, type_in, definition_in, expression_in}
use Rattle.model.proofs.Tests.{and_left, and_right}
use Rattle.format.specs.Load.{Loading, accepted, refused, load}
use Rattle.format.proofs.Loaded.{loaded_well_formed}
use Rattle.resolution.specs.Asked.{Asked, asked_module, asked_types, Asks}
use Rattle.resolution.specs.Inside.{Inside, OutsideScope, OutsideDefinition, OutsideExpression, OutsideType, definition_names, expression_names, type_names, question_names}
use Rattle.resolution.specs.Secrecy.{StandsIn, Supposed, FilesSupposedAsWorded, SameLine}
use Rattle.resolution.proofs.BodyTest.{
  map_place_at,
  shown,
  shown_in,
  when_some,
  some_when,
  BodyScopes,
  in_body,
  Types,
  listed,
  OutsideModule,
  outside_module,
  outside_of,
  body_test,
  about_test,
  asked_test,
  Tested,
  tested,
  not_inside,
  outside_true,
  no_links,
  no_outside_literal,
  type_listed,
  about,
  seen_at,
}
use Rattle.resolution.proofs.Secrecy.{demand_three}

-- ------------------------------------------------------------------ what is outside in the one stands in the other

module _ (A B : Index) (a b : BodyScopes) (types : Types) (A_tested : Tested A a types) (B_tested : Tested B b types) (same : outside_of A a types ≡ outside_of B b types) where
  modules_same : (m : ℕ) (name : Name) → module_name A m ≡ Some name → module_name B m ≡ Some name
  unfolding outside_of
  modules_same m name e = sym (named B b) ∙ ap (λ o. let_some (slice_get o.modules m) None (λ r. Some r.name)) (sym same) ∙ named A a ∙ e
    where
      named : (index : Index) (scopes : BodyScopes) → let_some (slice_get (outside_of index scopes types).modules m) None (λ r. Some r.name) ≡ module_name index m
      named index scopes = ap (λ r. let_some r None (λ o. Some o.name)) (map_place_at (outside_module scopes types) index.modules m) ∙ of (module_at index m)
        where
          of : (o : Option Module)
              → ◌≡◌ {A = Option Name} (let_some (let_some o None (λ the_module. Some (outside_module scopes types m the_module))) None (λ r. Some r.name))
              (let_some o None (λ the_module. Some the_module.name))
          of None = refl
          of (Some the_module) = refl

  -- records of one kind, by what is shown of them
  record_same : {X : Type 0} (records : Module → List X) (seen : OutsideModule → List (Option X)) (A_test B_test : ℕ → ℕ → X → Bool)
      → ((m : ℕ) (the_module : Module) → seen (outside_module a types m the_module) ≡ shown (A_test m) (records the_module))
      → ((m : ℕ) (the_module : Module) → seen (outside_module b types m the_module) ≡ shown (B_test m) (records the_module))
      → (m n : ℕ) (x : X) → let_some (module_at A m) None (λ the_module. slice_get (records the_module) n) ≡ Some x → A_test m n x ≡ true
      → (let_some (module_at B m) None (λ the_module. slice_get (records the_module) n) ≡ Some x) × (B_test m n x ≡ true)
  record_same records seen A_test B_test A_is B_is m n x found outside =
      when_some (B_test m n) (let_some (module_at B m) None (λ the_module. slice_get (records the_module) n)) x
      (sym (seen_at records seen B_test B b types B_is m n)
      ∙ ap (λ o. let_some (slice_get o.modules m) None (λ r. shown_in (seen r) n)) (sym same)
      ∙ seen_at records seen A_test A a types A_is m n
      ∙ some_when (A_test m n) (let_some (module_at A m) None (λ the_module. slice_get (records the_module) n)) x found outside)

  scopes_same : (m s : ℕ) (outside : OutsideScope A a.body m s) → (scope_in B m s ≡ Some outside.scope) × (Inside B b.body m s → ⊥)
  scopes_same m s outside =
      let (found, out) =
      record_same (λ r. r.scopes) (λ o. o.scopes) (λ k n x. not (in_body a k n)) (λ k n x. not (in_body b k n)) (λ k r. refl) (λ k r. refl) m s outside.scope outside.found
      (outside_true A a types A_tested m s outside.not_inside) in
      (found, not_inside B b types B_tested out)

  definitions_same : (m d : ℕ) (outside : OutsideDefinition A a.body m d)
      → (definition_in B m d ≡ Some outside.definition) × (Inside B b.body m outside.definition.scope → ⊥)
  definitions_same m d outside =
      let (found, out) =
      record_same (λ r. r.definitions) (λ o. o.definitions) (λ k n x. not (in_body a k x.scope)) (λ k n x. not (in_body b k x.scope)) (λ k r. refl) (λ k r. refl) m d outside.definition
      outside.found
      (outside_true A a types A_tested m outside.definition.scope outside.not_inside) in
      (found, not_inside B b types B_tested out)

  expressions_same : (m e : ℕ) (outside : OutsideExpression A a.body m e)
      → (expression_in B m e ≡ Some outside.expression) × (Inside B b.body m outside.expression.scope → ⊥)
  expressions_same m e outside =
      let (found, out) =
      record_same (λ r. r.expressions) (λ o. o.expressions) (λ k n x. not (in_body a k x.scope)) (λ k n x. not (in_body b k x.scope)) (λ k r. refl) (λ k r. refl) m e outside.expression
      outside.found
      (outside_true A a types A_tested m outside.expression.scope outside.not_inside) in
      (found, not_inside B b types B_tested out)

  module _ (asked : Asked) (named_listed : every (listed types (asked_module asked)) (asked_types asked) ≡ true) where
    type_same : (m t : ℕ) (type : TypeExpr) → OutsideType A a.body asked m t → type_in A m t ≡ Some type → type_in B m t ≡ Some type
    type_same m t type outside found =
        let (there, out) =
        record_same (λ r. r.types) (λ o. o.types) (λ k n x. listed types k n) (λ k n x. listed types k n) (λ k r. refl) (λ k r. refl) m t type found
        (type_listed A a types A_tested asked named_listed outside) in
        there

    type_outside : {m t : ℕ} → OutsideType A a.body asked m t → OutsideType B b.body asked m t
    type_outside {m} (definition_names {d = d} outside named) =
        let (found, out) = definitions_same m d outside in definition_names (record { definition = outside.definition; found = found; not_inside = out }) named
    type_outside {m} (expression_names {e = e} outside named) =
        let (found, out) = expressions_same m e outside in expression_names (record { expression = outside.expression; found = found; not_inside = out }) named
    type_outside {m} (type_names {t = t} {type = type} holder found named) = type_names (type_outside holder) (type_same m t type holder found) named
    type_outside (question_names m_of named) = question_names m_of named

    stands : StandsIn A a.body B b.body asked
    stands =
        record {
          modules = modules_same;
          scopes = scopes_same;
          types = λ m t type outside found. (type_same m t type outside found, type_outside outside);
          definitions = definitions_same;
          expressions = expressions_same;
        }

-- ------------------------------------------------------------------ two indexes

supposed : (A B : Index) (a b : BodyScopes) (types : Types) → Tested A a types → Tested B b types → outside_of A a types ≡ outside_of B b types
    → (asked : Asked) → asked_test A a types asked ≡ true → asked_test B b types asked ≡ true → Supposed A B a.body b.body asked
unfolding asked_test outside_of
supposed A B a b types A_tested B_tested same asked A_asked B_asked =
    let listed_types = and_right (about_test A a asked) _ A_asked in
    record {
      first_is_body = A_tested.is_body;
      second_is_body = B_tested.is_body;
      agree =
          record {
            one_version = ap (λ o. o.version) same;
            first_stands = stands A B a b types A_tested B_tested same asked listed_types;
            second_stands = stands B A b a types B_tested A_tested (sym same) asked listed_types;
          };
      first_no_links = no_links A a types A_tested;
      second_no_links = no_links B b types B_tested;
      first_about = about A a types A_tested asked (and_left (about_test A a asked) _ A_asked);
      second_about = about B b types B_tested asked (and_left (about_test B b asked) _ B_asked);
    }

-- ------------------------------------------------------------------ two files

abbrev is_accepted : Loading → Bool
is_accepted (accepted index) = true
is_accepted (refused number line) = false

abbrev loaded_index : Loading → Index
loaded_index (accepted index) = index
loaded_index (refused number line) = record { version = 0; modules = []; questions = [] }

accepted_is : (loading : Loading) → is_accepted loading ≡ true → loading ≡ accepted (loaded_index loading)
accepted_is (accepted index) h = refl
accepted_is (refused number line) h = absurd (false≢true h)

-- two files with a body in each, and a list of T with all that count as outside among them
pub record Pair : Type 0 where
  pub first_file : String
  pub second_file : String
  pub first_body : BodyScopes
  pub second_body : BodyScopes
  pub types : Types

unfoldable pub index_in : String → Index
index_in file = loaded_index (load (tabs file))

-- loading takes the file, and its body passes the test
unfoldable pub file_test : String → BodyScopes → Types → Bool
file_test file body types = is_accepted (load (tabs file)) && body_test (index_in file) body types

-- both files pass the test, and what is outside is the same
pub record Agreeing (pair : Pair) : Type 0 where
  pub first_test : file_test pair.first_file pair.first_body pair.types ≡ true
  pub second_test : file_test pair.second_file pair.second_body pair.types ≡ true
  pub same : outside_of (index_in pair.first_file) pair.first_body pair.types ≡ outside_of (index_in pair.second_file) pair.second_body pair.types

file_loaded : (file : String) (body : BodyScopes) (types : Types) → file_test file body types ≡ true → load (tabs file) ≡ accepted (index_in file)
unfolding file_test index_in
file_loaded file body types h = accepted_is (load (tabs file)) (and_left (is_accepted (load (tabs file))) _ h)

file_tested : (file : String) (body : BodyScopes) (types : Types) → file_test file body types ≡ true → Tested (index_in file) body types
unfolding file_test
file_tested file body types h =
    tested (index_in file) body types (loaded_well_formed (tabs file) (index_in file) (file_loaded file body types h))
    (and_right (is_accepted (load (tabs file))) _ h)

-- what demand 3 supposes, of a question that stands in both files at these places and asks something about the outside
pub pair_supposed : (pair : Pair) (question : Question) (asked : Asked) (first_place second_place : ℕ) → Agreeing pair → Asks question asked
    → asked_test (index_in pair.first_file) pair.first_body pair.types asked ≡ true
    → asked_test (index_in pair.second_file) pair.second_body pair.types asked ≡ true
    → slice_get (index_in pair.first_file).questions first_place ≡ Some question
    → slice_get (index_in pair.second_file).questions second_place ≡ Some question
    → FilesSupposedAsWorded (tabs pair.first_file) (tabs pair.second_file) first_place second_place question asked
pair_supposed pair question asked first_place second_place agreeing asks first_test second_test first_asked second_asked =
    let A_tested = file_tested pair.first_file pair.first_body pair.types agreeing.first_test in
    let B_tested = file_tested pair.second_file pair.second_body pair.types agreeing.second_test in
    record {
      files =
          record {
            first = index_in pair.first_file;
            second = index_in pair.second_file;
            first_loaded = file_loaded pair.first_file pair.first_body pair.types agreeing.first_test;
            second_loaded = file_loaded pair.second_file pair.second_body pair.types agreeing.second_test;
            first_asked = first_asked;
            second_asked = second_asked;
            asks = asks;
            first_body = pair.first_body.body;
            second_body = pair.second_body.body;
            supposed =
                supposed (index_in pair.first_file) (index_in pair.second_file) pair.first_body pair.second_body pair.types A_tested B_tested agreeing.same asked
                first_test
                second_test;
          };
      first_no_literal = no_outside_literal (index_in pair.first_file) pair.first_body pair.types A_tested;
      second_no_literal = no_outside_literal (index_in pair.second_file) pair.second_body pair.types B_tested;
    }

-- and so the same line
pub pair_same : (pair : Pair) (question : Question) (asked : Asked) (first_place second_place : ℕ) → Agreeing pair → Asks question asked
    → asked_test (index_in pair.first_file) pair.first_body pair.types asked ≡ true
    → asked_test (index_in pair.second_file) pair.second_body pair.types asked ≡ true
    → slice_get (index_in pair.first_file).questions first_place ≡ Some question
    → slice_get (index_in pair.second_file).questions second_place ≡ Some question
    → SameLine (tabs pair.first_file) (tabs pair.second_file) first_place second_place question asked
pair_same pair question asked first_place second_place agreeing asks first_test second_test first_asked second_asked =
    demand_three (tabs pair.first_file) (tabs pair.second_file) first_place second_place question asked
    (pair_supposed pair question asked first_place second_place agreeing asks first_test second_test first_asked second_asked)
