-- An index that loading accepts is well formed. Assumes nothing.
use Prim.Native.Nat.{ℕ, zero, suc}
use mathlib.Core.Path.{◌≡◌, refl, sym, ap, subst}
use mathlib.Core.Bool.{Bool, true, false}
use Rattle.std.specs.Prelude.{Option, None, Some}
use lib.Dec.{ltb}
use lib.ListN.{length, take, drop}
use Rattle.std.specs.Prelude.{if◌then◌else◌}
use Rattle.model.specs.Common.{is_empty, Text, let_some, first}
use Rattle.model.specs.Records.{Scope, Index}
use Rattle.model.specs.Lookups.{module_at, scope_at}
use Rattle.model.specs.Links.{scope_in}
use Rattle.model.specs.Limits.{max_bytes}
use Rattle.model.specs.WellFormed.{WellFormed, QuestionNumbers}
use Rattle.model.proofs.Tests.{none≢some, some-injective, some_of}
use Rattle.format.specs.Words.{keyword, is_keyword, place_in, word_at}
use Rattle.format.specs.FirstPass.{Seen, Step, refuse, go, step_on, First, read, wrong, lines_within, first_pass}
use Rattle.format.specs.LinkCheck.{link_fault}
use Rattle.format.specs.Load.{Loading, accepted, refused, first_lines, first_line_length, version_of, after_first, load_lines, load}
use Rattle.format.proofs.Reading.{RootKind}
use Rattle.format.proofs.Passing.{step_go}
use Rattle.format.proofs.Linked.{links_lead, root_there, root_alone, all_parents_lower, all_types_earlier, all_question_links}
use Rattle.format.proofs.Growing.{All, all_at, Growing, grown, grown_start}

-- ------------------------------------------------------------------ the first pass

abbrev IsRead : First → Type 0
IsRead (read index) = Unit {0}
IsRead (wrong k line) = ⊥

wrong≢read : {k line : ℕ} {index : Index} → wrong k line ≡ read index → ⊥
wrong≢read e = subst IsRead (sym e) tt

abbrev index_in : First → Index → Index
index_in (read index) other = index
index_in (wrong k line) other = other

step_grown : (version : ℕ) (s : Seen) (t : Text) (s₁ : Seen) (t₁ : Text) → step_on s t ≡ go s₁ t₁ → Growing version s.index → Growing version s₁.index
step_grown version s t s₁ t₁ e g =
    let (w, is, added) = step_go s t s₁ t₁ e in
    subst (Growing version) added.is_added
    (grown version w added.line.entry s.index added.entry_of added.room added.items added.new g)

lines_grown : (version n line : ℕ) (s : Seen) (t : Text) (index : Index) → lines_within n line s t ≡ read index → Growing version s.index → Growing version index
unfolding lines_within
lines_grown version zero line s t index e g = absurd (wrong≢read e)
lines_grown version (suc n) line s t index e g = at_end (is_empty t) e (λ s₁ t₁ h k. lines_grown version n (suc line) s₁ t₁ index h k)
  where
    Rest : Type 0
    Rest = (s₁ : Seen) (t₁ : Text) → lines_within n (suc line) s₁ t₁ ≡ read index → Growing version s₁.index → Growing version index

    after : (step : Step) → step_on s t ≡ step → elim step [ refuse k ↦ wrong k line | go s₁ t₁ ↦ lines_within n (suc line) s₁ t₁ ] ≡ read index → Rest → Growing version index
    after (refuse k) is_step h rest = absurd (wrong≢read h)
    after (go s₁ t₁) is_step h rest = rest s₁ t₁ h (step_grown version s t s₁ t₁ is_step g)

    at_end : (b : Bool) → elim b [ true ↦ read s.index | false ↦ elim (step_on s t) [ refuse k ↦ wrong k line | go s₁ t₁ ↦ lines_within n (suc line) s₁ t₁ ] ] ≡ read index
        → Rest → Growing version index
    at_end true h rest = subst (Growing version) (ap (λ x. index_in x index) h) g
    at_end false h rest = after (step_on s t) refl h rest

pass_grown : (version : ℕ) (t : Text) (index : Index) → first_pass version t ≡ read index → Growing version index
unfolding first_pass
pass_grown version t index e = lines_grown version (suc (length t)) 2 _ t index e (grown_start version)

-- ------------------------------------------------------------------ loading

abbrev IsAccepted : Loading → Type 0
IsAccepted (accepted index) = Unit {0}
IsAccepted (refused k line) = ⊥

refused≢accepted : {k line : ℕ} {index : Index} → refused k line ≡ accepted index → ⊥
refused≢accepted e = subst IsAccepted (sym e) tt

abbrev index_of : Loading → Index → Index
index_of (accepted index) other = index
index_of (refused k line) other = other

-- what the lines of an accepted file gave
record Lines (version : ℕ) (index : Index) : Type 0 where
  growing : Growing version index
  no_fault : link_fault index ≡ None

lines_accepted : (version : ℕ) (t : Text) (index : Index) → load_lines version t ≡ accepted index → Lines version index
unfolding load_lines
lines_accepted version t index e = by_pass (first_pass version t) refl e
  where
    by_fault : (found : Index) (o : Option ℕ) → link_fault found ≡ o → let_some o (accepted found) (λ line. refused 5 line) ≡ accepted index → Growing version found
        → Lines version index
    by_fault found None no_fault h g =
        let same : found ≡ index = ap (λ x. index_of x found) h in subst (Lines version) same (record { growing = g; no_fault = no_fault })
    by_fault found (Some line) fault h g = absurd (refused≢accepted h)

    by_pass : (pass : First) → first_pass version t ≡ pass → after_first pass ≡ accepted index → Lines version index
    by_pass (wrong k line) is_pass h = absurd (refused≢accepted h)
    by_pass (read found) is_pass h = by_fault found (link_fault found) refl h (pass_grown version t found is_pass)

-- the one first line that there is
version_one : (file : Text) (version : ℕ) → version_of file ≡ Some version → version ≡ 1
unfolding version_of place_in first word_at
version_one file version e = by_test (is_keyword (take first_line_length file) (keyword "index\t1\n" 1)) e
  where
    by_test : (b : Bool) → let_some (if b then Some 0 else None) None (λ n. Some (word_at first_lines 0 n)) ≡ Some version → version ≡ 1
    by_test true h = sym (some-injective h)
    by_test false h = absurd (none≢some h)

file_lines : (file : Text) (index : Index) → load file ≡ accepted index → Lines 1 index
unfolding load
file_lines file index e = by_size (ltb max_bytes (length file)) e
  where
    by_version : (o : Option ℕ) → version_of file ≡ o → elim o [ None ↦ refused 2 1 | Some version ↦ load_lines version (drop first_line_length file) ] ≡ accepted index
        → Lines 1 index
    by_version None is_version h = absurd (refused≢accepted h)
    by_version (Some version) is_version h =
        subst (λ v. Lines v index) (version_one file version is_version) (lines_accepted version (drop first_line_length file) index h)

    by_size : (b : Bool) → elim b [
      | true ↦ refused 3 0
      | false ↦ elim (version_of file) [ None ↦ refused 2 1 | Some version ↦ load_lines version (drop first_line_length file) ]
    ] ≡ accepted index → Lines 1 index
    by_size true h = absurd (refused≢accepted h)
    by_size false h = by_version (version_of file) refl h

pub loaded_well_formed : (file : Text) (index : Index) → load file ≡ accepted index → WellFormed index
loaded_well_formed file index e =
    let lines = file_lines file index e in
    let g = lines.growing in
    let no_fault = lines.no_fault in
    record {
      version = g.one_version;
      links = links_lead index no_fault;
      root_kind = root_kind g.roots;
      names_differ = g.names;
      has_root = root_there index no_fault;
      one_root = root_alone index no_fault;
      parents_lower = all_parents_lower index no_fault;
      types_earlier = all_types_earlier index no_fault;
      questions = all_question_links index no_fault;
      question_numbers = λ n question h. all_at QuestionNumbers index.questions n question g.numbers h;
      limits = g.limits;
    }
  where
    root_kind : All (λ m. All RootKind m.scopes) index.modules → (m s : ℕ) (scope : Scope) → scope_in index m s ≡ Some scope → RootKind scope
    root_kind roots m s scope h =
        let (the_module, here, at) = some_of (module_at index m) (λ r. scope_at r s) scope h in
        all_at RootKind the_module.scopes s scope (all_at (λ r. All RootKind r.scopes) index.modules m the_module roots here) at
