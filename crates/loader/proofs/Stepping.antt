-- The line that begins here, as the definition judges it. Assumes nothing.
use Prim.Native.Nat.{ℕ, ◌+◌, ◌-◌, ◌≤◌, ◌<◌}
use mathlib.Core.Path.{◌≡◌, refl, sym, ap, ap₂, ◌∙◌}
use mathlib.Core.List.{List, [], ◌∷◌}
use mathlib.Core.Bool.{Bool, true, false, not, ◌&&◌}
use Rattle.std.specs.Prelude.{Option, None, Some}
use native.Mathlib.Omega.{arith}
use lib.Dec.{ltb}
use lib.ListN.{length, take, drop}
use borrow.Author.Tests.{le-ltb}
use Rattle.std.specs.Prelude.{if◌then◌else◌}
use Rattle.model.specs.Common.{Text, let_some}
use Rattle.model.specs.Limits.{max_items, item_count}
use Rattle.model.proofs.Tests.{lt-ltb, and_left}
use Rattle.format.specs.declared.LineWord.{LineWord}
use Rattle.format.specs.Words.{line_word_of}
use Rattle.format.specs.Fields.{field_of}
use Rattle.format.specs.Lines.{Line, entry_items, line_from}
use Rattle.format.specs.FirstPass.{Seen, Step, refuse, go, ended, judged, counted, step_on, add, stage_of, in_place, is_again}
use Rattle.words.specs.Ends.{begins}
use Rattle.words.proofs.Bytes.{begins_here}
use Rattle.fields.proofs.Numbers.{behind_at}
use Rattle.fields.proofs.Slots.{field_take}
use Rattle.loader.specs.State.{index_so_far, seen_as, row_entry, Left, HasRoom, has_room, counts_after}
use Rattle.loader.specs.Lines.{LineHeld}
use Rattle.loader.specs.Steps.{repeated, may_stand, Good}
use Rattle.loader.specs.declared.items.ItemsRead.{ItemsRead}
use Rattle.loader.specs.declared.rows.Counts.{Counts}
use Rattle.loader.proofs.Advancing.{stage_after, again_is}
use Rattle.loader.proofs.Keeping.{room_is, same_index, entry_is, index_after}

-- no LF stands at the line's end
ended_no : (s : Seen) (t : Text) → begins 10 t ≡ false → ended s t ≡ refuse 4
ended_no s [] h = refl
ended_no s (b ∷ t) h = ap (λ q. if q then go s t else refuse 4) h

module _ (version : ℕ) {file words : List ℕ} (n : Counts) (good : Good file words n) (at p : ℕ) (ends : p ≡ at + length (field_of (drop at file)))
    (o : Option LineWord) (is_word : o ≡ line_word_of (take (p - at) (drop at file))) where
  abbrev now_seen : Seen
  now_seen = seen_as version file words n

  field_is : take (p - at) (drop at file) ≡ field_of (drop at file)
  field_is = ap (λ k. take k (drop at file)) size ∙ field_take (drop at file)
    where
      size : p - at ≡ length (field_of (drop at file))
      size = omega (arith, ends)

  starts : step_on now_seen (drop at file) ≡ (let_some o (refuse 4) λ w. counted w now_seen (drop p file))
  unfolding step_on
  starts =
      ap₂ (λ v t. let_some v (refuse 4) λ w. counted w now_seen t) (sym (is_word ∙ ap line_word_of field_is)) (behind_at file at ∙ ap (λ k. drop k file) (sym ends))

  pub step_none : o ≡ None → step_on now_seen (drop at file) ≡ refuse 4
  step_none e = starts ∙ ap (λ v. let_some v (refuse 4) λ w. counted w now_seen (drop p file)) e

  module _ (w : LineWord) (is_w : o ≡ Some w) where
    starts_with : step_on now_seen (drop at file) ≡ counted w now_seen (drop p file)
    starts_with = starts ∙ ap (λ v. let_some v (refuse 4) λ k. counted k now_seen (drop p file)) is_w

    pub step_full : has_room w n ≡ false → step_on now_seen (drop at file) ≡ refuse 3
    step_full e =
        starts_with ∙ (λ i. elim ((room_is version n good w ∙ e) i) [ true ↦ judged w now_seen (line_from w (drop p file)) | false ↦ refuse 3 ])

    module _ (free : has_room w n ≡ true) where
      step_judged : step_on now_seen (drop at file) ≡ judged w now_seen (line_from w (drop p file))
      step_judged =
          starts_with ∙ (λ i. elim ((room_is version n good w ∙ free) i) [ true ↦ judged w now_seen (line_from w (drop p file)) | false ↦ refuse 3 ])

      pub step_wrong : line_from w (drop p file) ≡ None → step_on now_seen (drop at file) ≡ refuse 4
      step_wrong e = step_judged ∙ ap (judged w now_seen) e

      module _ {words' : List ℕ} (read : ItemsRead) (room : HasRoom w n) (left : Left n words words') (line : LineHeld w file words' n (drop p file) read) where
        abbrev the_line : Line
        the_line = record { entry = line.entry; rest = drop read.end file }

        items_are : item_count now_seen.index + entry_items line.entry ≡ n.items + read.count
        items_are = ap₂ ◌+◌ (good.counted version).items line.counts

        -- how the definition judges a line of right form
        abbrev judging : Bool → Bool → Step
        judging many fits =
            if many then refuse 3 else if fits then ended (record { stage = stage_of w; index = add line.entry now_seen.index }) (drop read.end file) else refuse 4

        judged_by : step_on now_seen (drop at file)
            ≡ judging (ltb max_items (n.items + read.count)) (in_place w n.stage && not (is_again line.entry now_seen.index))
        judged_by =
            step_judged
            ∙ ap (judged w now_seen) line.is
            ∙ ap (λ k. judging (ltb max_items k) (in_place w n.stage && not (is_again line.entry now_seen.index))) items_are

        pub step_many : max_items < n.items + read.count → step_on now_seen (drop at file) ≡ refuse 3
        step_many h = judged_by ∙ ap (λ b. judging b (in_place w n.stage && not (is_again line.entry now_seen.index))) (lt-ltb max_items (n.items + read.count) h)

        module _ (few : n.items + read.count ≤ max_items) where
          again_by : is_again line.entry now_seen.index ≡ repeated file words' w n.modules
          unfolding is_again row_entry
          again_by =
              ap₂ is_again (entry_is n good w (drop p file) read room left line few) (sym (same_index n good w (drop p file) read room left line few version))
              ∙ of w
            where
              of : (v : LineWord) → is_again (row_entry v file words' n) (index_so_far version file words' n) ≡ repeated file words' v n.modules
              of LineWord.M = again_is version file words' n
              of LineWord.S = refl
              of LineWord.T = refl
              of LineWord.D = refl
              of LineWord.E = refl
              of LineWord.Q = refl

          fitting : step_on now_seen (drop at file) ≡ judging false (may_stand file words' w n.stage n.modules)
          fitting =
              judged_by
              ∙ ap₂ (λ b g. judging b (in_place w n.stage && not g)) (le-ltb max_items (n.items + read.count) few) again_by

          pub step_misplaced : may_stand file words' w n.stage n.modules ≡ false → step_on now_seen (drop at file) ≡ refuse 4
          step_misplaced e = fitting ∙ ap (judging false) e

          module _ (stands : may_stand file words' w n.stage n.modules ≡ true) where
            ending : step_on now_seen (drop at file) ≡ ended (record { stage = stage_of w; index = add line.entry now_seen.index }) (drop read.end file)
            ending = fitting ∙ ap (judging false) stands

            pub step_unended : begins 10 (drop read.end file) ≡ false → step_on now_seen (drop at file) ≡ refuse 4
            step_unended h = ending ∙ ended_no _ (drop read.end file) h

            pub placed : in_place w n.stage ≡ true
            placed = and_left (in_place w n.stage) (not (repeated file words' w n.modules)) stands

            pub step_goes : begins 10 (drop read.end file) ≡ true → step_on now_seen (drop at file) ≡ go (seen_as version file words' (counts_after w n read.count)) (drop (read.end + 1) file)
            step_goes h =
                ending
                ∙ ap (ended _) (begins_here 10 file read.end h)
                ∙ (λ i. go (record { stage = sym (stage_after n read.count w) i; index = sym (index_after n good w (drop p file) read room left line few placed version) i }) (drop (read.end + 1) file))
