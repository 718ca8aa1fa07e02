-- A file that loading refuses is refused with a number of at most 5. Assumes nothing.
use Prim.Native.Nat.{ℕ, zero, suc, ◌+◌, ◌≤◌}
use native.Mathlib.Omega.{arith}
use mathlib.Core.Path.{◌≡◌, subst}
use mathlib.Core.Bool.{Bool, true, false, ◌&&◌, not}
use mathlib.Core.List.{[], ◌∷◌}
use Rattle.std.specs.Prelude.{Option, None, Some}
use lib.Dec.{eqb, ltb}
use lib.ListN.{length, drop}
use Rattle.std.specs.Prelude.{if◌then◌else◌}
use Rattle.model.specs.Common.{Text, is_empty, let_some}
use Rattle.model.specs.Limits.{max_bytes, max_items, item_count}
use Rattle.model.specs.Refusals.{refusal_link}
use Rattle.format.specs.declared.LineWord.{LineWord}
use Rattle.format.specs.Words.{line_word_of}
use Rattle.format.specs.Fields.{field_of, behind}
use Rattle.format.specs.Lines.{Line, line_from, entry_items}
use Rattle.format.specs.FirstPass.{Seen, Step, refuse, go, add, stage_of, in_place, is_again, has_line_room, ended, judged, counted, step_on, First, read, wrong, lines_within, first_pass}
use Rattle.format.specs.LinkCheck.{link_fault}
use Rattle.format.specs.Load.{Loading, accepted, refused, first_line_length, version_of, after_first, load_lines, load}

-- ------------------------------------------------------------------ one line

abbrev StepFew : Step → Type 0
StepFew (refuse k) = k ≤ 5
StepFew (go s t) = Unit {0}

if_few : (b : Bool) (x y : Step) → StepFew x → StepFew y → StepFew (if b then x else y)
if_few true x y h k = h
if_few false x y h k = k

ended_few : (s : Seen) (t : Text) → StepFew (ended s t)
ended_few s [] = omega arith
ended_few s (b ∷ t) = if_few (eqb b 10) (go s t) (refuse 4) tt (omega arith)

judged_few : (w : LineWord) (s : Seen) (o : Option Line) → StepFew (judged w s o)
judged_few w s None = omega arith
judged_few w s (Some l) =
    let on = ended_few (record { stage = stage_of w; index = add l.entry s.index }) l.rest in
    if_few (ltb max_items (item_count s.index + entry_items l.entry)) (refuse 3) _ (omega arith)
    (if_few (in_place w s.stage && not (is_again l.entry s.index)) _ (refuse 4) on (omega arith))

step_few : (s : Seen) (t : Text) → StepFew (step_on s t)
unfolding step_on
step_few s t = by_word (line_word_of (field_of t))
  where
    by_room : (w : LineWord) (b : Bool) → StepFew (elim b [ true ↦ judged w s (line_from w (behind t)) | false ↦ refuse 3 ])
    by_room w true = judged_few w s (line_from w (behind t))
    by_room w false = omega arith

    by_word : (o : Option LineWord) → StepFew (let_some o (refuse 4) λ w. counted w s (behind t))
    by_word None = omega arith
    by_word (Some w) = by_room w (has_line_room w s.index)

-- ------------------------------------------------------------------ all lines

abbrev FirstFew : First → Type 0
FirstFew (read index) = Unit {0}
FirstFew (wrong k line) = k ≤ 5

lines_few : (n line : ℕ) (s : Seen) (t : Text) → FirstFew (lines_within n line s t)
unfolding lines_within
lines_few zero line s t = omega arith
lines_few (suc n) line s t = at_end (is_empty t) (lines_few n (suc line))
  where
    Rest : Type 0
    Rest = (s₁ : Seen) (t₁ : Text) → FirstFew (lines_within n (suc line) s₁ t₁)

    after : (step : Step) → StepFew step → Rest → FirstFew (elim step [ refuse k ↦ wrong k line | go s₁ t₁ ↦ lines_within n (suc line) s₁ t₁ ])
    after (refuse k) h rest = h
    after (go s₁ t₁) h rest = rest s₁ t₁

    at_end : (b : Bool) → Rest → FirstFew (elim b [ true ↦ read s.index | false ↦ elim (step_on s t) [ refuse k ↦ wrong k line | go s₁ t₁ ↦ lines_within n (suc line) s₁ t₁ ] ])
    at_end true rest = tt
    at_end false rest = after (step_on s t) (step_few s t) rest

-- ------------------------------------------------------------------ the file

abbrev LoadingFew : Loading → Type 0
LoadingFew (accepted index) = Unit {0}
LoadingFew (refused number line) = number ≤ 5

load_lines_few : (version : ℕ) (t : Text) → LoadingFew (load_lines version t)
unfolding load_lines first_pass
load_lines_few version t = by_pass (first_pass version t) (lines_few (suc (length t)) 2 _ t)
  where
    by_pass : (pass : First) → FirstFew pass → LoadingFew (after_first pass)
    by_pass (wrong k line) h = h
    by_pass (read index) h = by_fault (link_fault index)
      where
        by_fault : (o : Option ℕ) → LoadingFew (let_some o (accepted index) (λ line. refused refusal_link line))
        by_fault None = tt
        by_fault (Some line) = omega arith

load_few : (file : Text) → LoadingFew (load file)
unfolding load
load_few file = by_size (ltb max_bytes (length file))
  where
    by_version : (o : Option ℕ) → LoadingFew (elim o [ None ↦ refused 2 1 | Some version ↦ load_lines version (drop first_line_length file) ])
    by_version None = omega arith
    by_version (Some version) = load_lines_few version (drop first_line_length file)

    by_size : (b : Bool)
        → LoadingFew (elim b [ true ↦ refused 3 0 | false ↦ elim (version_of file) [ None ↦ refused 2 1 | Some version ↦ load_lines version (drop first_line_length file) ] ])
    by_size true = omega arith
    by_size false = by_version (version_of file)

pub refused_few : (file : Text) (number line : ℕ) → load file ≡ refused number line → number ≤ 5
refused_few file number line e = subst LoadingFew e (load_few file)
