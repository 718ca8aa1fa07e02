-- All lines one after the other, and the words that end the index. Assumes nothing.
use Prim.Native.Nat.{ℕ, suc, ◌+◌, ◌-◌, ◌*◌, ◌≤◌, ◌<◌}
use mathlib.Core.Path.{◌≡◌, refl, sym, ap, ap₂, subst, ◌∙◌}
use mathlib.Core.List.{List, [], ◌∷◌, map}
use mathlib.Core.Bool.{Bool, true, false}
use native.Mathlib.Nat.{not-suc-le-zero}
use native.Mathlib.Omega.{arith}
use lib.Dec.{eqb}
use lib.ListN.{length, drop, length-append, length-map, drop_of_length-le}
use Rattle.std.specs.Prelude.{if◌then◌else◌, Result, Ok, Err, IfErr}
use Rattle.std.specs.Result.{IsErrAnd, MatchResult}
use Rattle.model.specs.Common.{Text, is_empty, total}
use Rattle.model.specs.Limits.{scope_count, type_expr_count, definition_count, expression_count, item_count}
use Rattle.model.specs.Records.{Module, Index}
use Rattle.model.proofs.Tests.{eqb_sound}
use Rattle.format.specs.FirstPass.{Seen, refuse, go, step_on, First, read, wrong, lines_within, first_pass}
use Rattle.format.specs.LinkCheck.{question_linked, module_lines, modules_lines, linked_lines}
use Rattle.format.proofs.Enough.{step_shorter, lines_enough}
use Rattle.words.proofs.Bytes.{here}
use Rattle.records.specs.Layout.{word, each, scope_row, type_expr_row, definition_row, expression_row, question_row, scope_rows, type_expr_rows, definition_rows, expression_rows, begin_of, end_of, rows_of, module_row, index_of}
use Rattle.records.proofs.Lists.{each_same}
use Rattle.loader.specs.State.{rows_so_far, module_by, module_so_far, index_so_far, seen_as}
use Rattle.loader.specs.Steps.{name_at, Good, step_is}
use Rattle.loader.specs.Pass.{Finished, AllRead, FirstIs}
use Rattle.refusals.specs.declared.FileRefusal.{FileRefusal}
use Rattle.refusals.specs.declared.FileRefused.{FileRefused}
use Rattle.refusals.specs.Numbers.{file_refusal_number}
use Rattle.loader.specs.declared.lines.Next.{Next}
use Rattle.loader.specs.declared.rows.Counts.{Counts}
use Rattle.links.proofs.Modules.{module_lines_length}
use Rattle.loader.proofs.Advancing.{module_with}
use Rattle.loader.proofs.Keeping.{modules_many, questions_many}

-- ------------------------------------------------------------------ before the first line

abbrev pub nothing_counted : Counts
nothing_counted = record { stage = 0; modules = 0; scopes = 0; types = 0; definitions = 0; expressions = 0; questions = 0; items = 0 }

pub good_begun : (file words : List ℕ) → length file ≤ 65536 → length words ≡ 16384 → Good file words nothing_counted
unfolding index_so_far each scope_count type_expr_count definition_count expression_count item_count total
good_begun file words short room =
    record {
      fine = omega (arith, short, room);
      counted = λ version. record { scopes = refl; types = refl; definitions = refl; expressions = refl; items = refl };
      begun = λ m q. absurd (none m q);
      staged = λ h k. absurd (not-suc-le-zero h);
      steady = λ version words' left. refl;
    }
  where
    none : (m : ℕ) → 0 ≡ suc m → ⊥
    none m q = omega (arith, q)

-- ------------------------------------------------------------------ one line after the other

-- the lines from `at` on, of which the first has the number `line`
abbrev pub lines_from : ℕ → Seen → Text → First
lines_from line s t = lines_within (suc (length t)) line s t

pub pass_begun : (version : ℕ) (file words t : List ℕ) → first_pass version t ≡ lines_from 2 (seen_as version file words nothing_counted) t
unfolding first_pass index_so_far each
pass_begun version file words t = refl

module _ (line : ℕ) (s : Seen) (file : Text) (at : ℕ) where
  pub pass_ended : length file ≤ at → lines_from line s (drop at file) ≡ read s.index
  unfolding lines_within
  pass_ended h = ap (λ t. lines_from line s t) (drop_of_length-le file h)

  module _ (more : at < length file) where
    there : is_empty (drop at file) ≡ false
    there = ap is_empty (here file at more)

    next_step : lines_from line s (drop at file) ≡ elim (step_on s (drop at file)) [ refuse k ↦ wrong k line | go s₁ t₁ ↦ lines_within (length (drop at file)) (suc line) s₁ t₁ ]
    unfolding lines_within
    next_step =
        λ i. elim (there i) [
          | true ↦ read s.index
          | false ↦ elim (step_on s (drop at file)) [ refuse k ↦ wrong k line | go s₁ t₁ ↦ lines_within (length (drop at file)) (suc line) s₁ t₁ ]
        ]

    pub pass_refused : (k : ℕ) → step_on s (drop at file) ≡ refuse k → lines_from line s (drop at file) ≡ wrong k line
    pass_refused k e = next_step ∙ (λ i. elim (e i) [ refuse k ↦ wrong k line | go s₁ t₁ ↦ lines_within (length (drop at file)) (suc line) s₁ t₁ ])

    pub pass_shorter : (s₁ : Seen) (t₁ : Text) → step_on s (drop at file) ≡ go s₁ t₁ → length t₁ < length (drop at file)
    pass_shorter s₁ t₁ e = step_shorter s (drop at file) s₁ t₁ e

    pub pass_goes : (s₁ : Seen) (t₁ : Text) → step_on s (drop at file) ≡ go s₁ t₁ → lines_from line s (drop at file) ≡ lines_from (line + 1) s₁ t₁
    pass_goes s₁ t₁ e =
        next_step
        ∙ (λ i. elim (e i) [ refuse k ↦ wrong k line | go s₁ t₁ ↦ lines_within (length (drop at file)) (suc line) s₁ t₁ ])
        ∙ enough
      where
        less : length t₁ < length (drop at file)
        less = pass_shorter s₁ t₁ e

        rest : length (drop at file) ≡ suc (length t₁) + (length (drop at file) - suc (length t₁))
        rest = omega (arith, less)

        next_line : suc line ≡ line + 1
        next_line = omega arith

        enough : lines_within (length (drop at file)) (suc line) s₁ t₁ ≡ lines_from (line + 1) s₁ t₁
        enough =
            ap₂ (λ n l. lines_within n l s₁ t₁) rest next_line
            ∙ lines_enough (length (drop at file) - suc (length t₁)) (line + 1) s₁ t₁

-- ------------------------------------------------------------------ the words that end the index

-- a module's rows end where the next ones begin
module _ {A : Type 0} (row : ℕ → A) (words : List ℕ) (modules k total : ℕ) (ends : begin_of words modules k ≡ total) where
  rows_ended : (i : ℕ) → i < modules → rows_of row words i k ≡ rows_so_far row total modules words i k
  unfolding rows_of rows_so_far
  rows_ended i h = at (eqb (suc i) modules) refl
    where
      at : (b : Bool) → eqb (suc i) modules ≡ b → each row (begin_of words i k) (end_of words i k - begin_of words i k) ≡ each row (begin_of words i k) ((if b then total else end_of words i k) - begin_of words i k)
      at false e = refl
      at true e = ap (λ v. each row (begin_of words i k) (v - begin_of words i k)) (ap (word words) (place (eqb_sound (suc i) modules e)) ∙ ends)
        where
          place : suc i ≡ modules → 16 + 8 * i + 8 + k ≡ 16 + 8 * modules + k
          place q = omega (arith, q)

pub index_is : (version : ℕ) (file words words' : List ℕ) (n : Counts) → Finished words n version words' → index_of file words' ≡ index_so_far version file words' n
unfolding index_of index_so_far module_row module_by
index_is version file words words' n f =
    λ i. record {
      version = f.version_put i;
      modules = (ap (each (module_row file words') 0) f.modules ∙ each_same (module_row file words') (module_so_far file words' n) 0 n.modules (λ m le lt. module_is m (omega arith))) i;
      questions = ap (each (question_row words') 0) f.questions i;
    }
  where
    module_is : (m : ℕ) → m < n.modules → module_row file words' m ≡ module_so_far file words' n m
    module_is m h =
        λ i.
        module_with (name_at file words' m)
        (rows_ended (scope_row words') words' n.modules scope_rows n.scopes f.ends.scopes m h i)
        (rows_ended (type_expr_row file words') words' n.modules type_expr_rows n.types f.ends.types m h i)
        (rows_ended (definition_row file words') words' n.modules definition_rows n.definitions f.ends.definitions m h i)
        (rows_ended (expression_row file words') words' n.modules expression_rows n.expressions f.ends.expressions m h i)

-- the lines of an index: one for each record
modules_lines_length : (ms : List Module) → length (modules_lines ms)
    ≡ length ms + (total (λ m. length m.scopes) ms + (total (λ m. length m.types) ms + (total (λ m. length m.definitions) ms + total (λ m. length m.expressions) ms)))
unfolding modules_lines total
modules_lines_length [] = omega arith
modules_lines_length (m ∷ ms) = omega (arith, length-append (module_lines m) (modules_lines ms), module_lines_length m _ _ _ _ refl refl refl refl, modules_lines_length ms)

lines_length : (index : Index) → length (linked_lines index)
    ≡ length index.modules + (scope_count index + (type_expr_count index + (definition_count index + expression_count index))) + length index.questions
unfolding linked_lines scope_count type_expr_count definition_count expression_count
lines_length index =
    length-append (modules_lines index.modules) (map (question_linked index) index.questions)
    ∙ ap₂ ◌+◌ (modules_lines_length index.modules) (length-map index.questions (question_linked index))

few_lines : (version : ℕ) {file words : List ℕ} (n : Counts) → Good file words n → length (linked_lines (index_so_far version file words n)) ≤ 1672
few_lines version {file} {words} n good = omega (arith, lines_length (index_so_far version file words n), good.counted version, good.fine, modules, questions)
  where
    modules : length (index_so_far version file words n).modules ≡ n.modules
    modules = sym (modules_many version n good)

    questions : length (index_so_far version file words n).questions ≡ n.questions
    questions = questions_many version n good

-- what was read when all lines are
pub all_read : (version : ℕ) {file words words' : List ℕ} (n : Counts) (t : Text) → Good file words n → Finished words n version words' → first_pass version t ≡ read (index_so_far version file words n)
    → AllRead file words' version t
all_read version {file} {words} {words'} n t good f e =
    let same = index_is version file words words' n f ∙ good.steady version words' f.left in
    record {
      is = e ∙ ap read (sym same);
      few_modules = subst (λ k. k ≤ 8) (sym f.modules) good.fine.modules;
      items = f.items ∙ sym (good.counted version).items ∙ ap item_count (sym same);
      few_lines = subst (λ index. length (linked_lines index) ≤ 1672) (sym same) (few_lines version n good);
    }

-- ------------------------------------------------------------------ a refusal with its line

-- a `map_err` that gave a value had it from what it was given
pub mapped_ok : {A E D : Type 0} (P : E → D → Type 0) (r : Result A E) {m : Result A D} {x : A} → MatchResult r (λ y. m ≡ Ok y) (λ e. IsErrAnd m (P e)) → m ≡ Ok x → r ≡ Ok x
mapped_ok {A} {E} {D} P (Ok y) h e = ap again (sym h ∙ e)
  where
    again : Result A D → Result A E
    again (Ok x) = Ok x
    again (Err d) = Ok y
mapped_ok P (Err e₁) h e = absurd (subst (λ k. IsErrAnd k (P e₁)) e h)

-- where a step is refused, the pass is, with the line
pub first_lost : (P : FileRefusal → FileRefused → Type 0) (version : ℕ) (file words words' : List ℕ) (n : Counts) (line at : ℕ) (t : Text) → at < length file
    → first_pass version t ≡ lines_from line (seen_as version file words n) (drop at file)
    → (r : Result Next FileRefusal) → step_is version file words' r ≡ step_on (seen_as version file words n) (drop at file)
    → {m : Result Next FileRefused} → MatchResult r (λ y. m ≡ Ok y) (λ e. IsErrAnd m (P e)) → (d : FileRefused) → m ≡ Err d
    → ((e : FileRefusal) (x : FileRefused) → P e x → x ≡ record { refusal = e; line = line })
    → (last : Result (Unit {0}) FileRefused) → IsErrAnd last (λ x. x ≡ d) → FirstIs file words' version t last
first_lost P version file words words' n line at t inside so_far (Ok y) step h d e made last is_d = absurd (subst (λ k. IfErr k (λ x. ⊥)) (sym h ∙ e) tt)
first_lost P version file words words' n line at t inside so_far (Err k) step h d e made (Ok u) is_d = absurd is_d
first_lost P version file words words' n line at t inside so_far (Err k) step h d e made (Err x) is_d =
    so_far
    ∙ pass_refused line (seen_as version file words n) file at inside (file_refusal_number k) (sym step)
    ∙ ap (λ o. wrong (file_refusal_number o.refusal) o.line) (sym (is_d ∙ made k d (subst (λ o. IsErrAnd o (P k)) e h)))
