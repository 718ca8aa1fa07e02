-- A whole file. Assumes nothing.
use Prim.Native.Nat.{ℕ, ◌+◌, ◌≤◌, ◌<◌}
use mathlib.Core.Path.{◌≡◌, refl, sym, ap, subst, ◌∙◌}
use mathlib.Core.List.{List, ◌++◌}
use mathlib.Core.Bool.{Bool, true, false, not, false≢true}
use Rattle.std.specs.Prelude.{Option, None, Some}
use native.Mathlib.Omega.{arith}
use lib.ListN.{length, take, drop, replicate, length-take, length-drop, length-append, length-replicate}
use lib.Seq.{take-append_seam, drop-append_seam}
use borrow.Author.Tests.{le-ltb}
use Rattle.std.specs.Prelude.{if◌then◌else◌, Result, Ok, Err, IsErrAnd, is_err}
use Rattle.model.specs.Common.{Text, let_some, bytes, first}
use Rattle.model.specs.Limits.{max_bytes, record_words}
use Rattle.model.specs.Records.{Index}
use Rattle.model.proofs.Tests.{lt-ltb, none≢some, some-injective, eq_numbers_sound}
use Rattle.format.specs.Words.{keyword, is_keyword, place_in, word_at}
use Rattle.format.specs.FirstPass.{read, wrong, first_pass}
use Rattle.format.specs.LinkCheck.{linked_lines, link_fault}
use Rattle.links.proofs.Lines.{first_below}
use Rattle.format.specs.Load.{accepted, refused, first_lines, first_line_length, version_of, after_first, load_lines, load}
use Rattle.loader.specs.Load.{Loaded, loaded_is, ItemsCounted, Cleared, FilePut, WordsPut, Filled}

-- what `?` hands on is the refusal that it was given
pub err_is : {A E : Type 0} (r : Result A E) (e : E) → IsErrAnd r (λ x. x ≡ e) → r ≡ Err e
err_is (Ok a) e h = absurd h
err_is (Err x) e h = ap Err h

-- a first line of the format has eight bytes
pub version_long : (file : Text) (version : ℕ) → version_of file ≡ Some version → 8 ≤ length file
unfolding version_of place_in first is_keyword
version_long file version e = of (is_keyword {A = ℕ} (take first_line_length file) (keyword "index\t1\n" 1)) refl e
  where
    of : (b : Bool) → is_keyword {A = ℕ} (take first_line_length file) (keyword "index\t1\n" 1) ≡ b
        → ◌≡◌ {A = Option ℕ} (let_some (if b then Some 0 else None) None (λ n. Some (word_at first_lines 0 n))) (Some version) → 8 ≤ length file
    of true is h = omega (arith, ap length (eq_numbers_sound (take first_line_length file) (bytes "index\t1\n") is), length-take first_line_length file)
    of false is h = absurd (none≢some h)

module _ (file : Text) where
  pub too_long : max_bytes < length file → refused 3 0 ≡ load file
  unfolding load
  too_long h =
      sym (λ i. elim (lt-ltb max_bytes (length file) h i) [
        | true ↦ refused 3 0
        | false ↦ elim (version_of file) [ None ↦ refused 2 1 | Some version ↦ load_lines version (drop first_line_length file) ]
      ])

  module _ (short : length file ≤ max_bytes) where
    by_version : load file ≡ elim (version_of file) [ None ↦ refused 2 1 | Some version ↦ load_lines version (drop first_line_length file) ]
    unfolding load
    by_version =
        λ i. elim (le-ltb max_bytes (length file) short i) [
          | true ↦ refused 3 0
          | false ↦ elim (version_of file) [ None ↦ refused 2 1 | Some version ↦ load_lines version (drop first_line_length file) ]
        ]

    pub no_version : version_of file ≡ None → refused 2 1 ≡ load file
    no_version e = sym (by_version ∙ (λ i. elim (e i) [ None ↦ refused 2 1 | Some version ↦ load_lines version (drop first_line_length file) ]))

    module _ (version : ℕ) (is_version : version_of file ≡ Some version) where
      by_lines : load file ≡ after_first (first_pass version (drop first_line_length file))
      unfolding load_lines
      by_lines = by_version ∙ (λ i. elim (is_version i) [ None ↦ refused 2 1 | Some version ↦ load_lines version (drop first_line_length file) ])

      pub lines_wrong : (number line : ℕ) → first_pass version (drop first_line_length file) ≡ wrong number line → refused number line ≡ load file
      lines_wrong number line e = sym (by_lines ∙ ap after_first e)

      module _ (index : Index) (is_read : first_pass version (drop first_line_length file) ≡ read index) where
        by_links : load file ≡ (let_some (link_fault index) (accepted index) λ line. refused 5 line)
        by_links = by_lines ∙ ap after_first is_read

        pub links_fault : (line : ℕ) → Some line ≡ link_fault index → refused 5 line ≡ load file
        links_fault line e = sym (by_links ∙ ap (λ o. let_some o (accepted index) λ line. refused 5 line) (sym e))

        pub links_lead : None ≡ link_fault index → accepted index ≡ load file
        links_lead e = sym (by_links ∙ ap (λ o. let_some o (accepted index) λ line. refused 5 line) (sym e))

-- a line with 5 is one of the lines behind the first
pub fault_small : (index : Index) (line : ℕ) → Some line ≡ link_fault index → line < 2 + length (linked_lines index)
unfolding link_fault
fault_small index line e = of (first not (linked_lines index)) refl e
  where
    of : (o : Option ℕ) → first not (linked_lines index) ≡ o → Some line ≡ (let_some o None λ n. Some (2 + n)) → line < 2 + length (linked_lines index)
    of None is h = absurd (none≢some (sym h))
    of (Some k) is h = let below = first_below (linked_lines index) k is in let same : line ≡ 2 + k = some-injective h in omega (arith, below, same)

-- ------------------------------------------------------------------ the first words of a buffer

pub zeros_long : length {A = ℕ} (replicate record_words 0) ≡ record_words
zeros_long = length-replicate {A = ℕ} record_words 0

-- a file that was refused, where the words were cleared
pub refused_put : (file words zeros : List ℕ) (r : Loaded) → is_err r ≡ true → FilePut file words r → zeros ≡ replicate record_words 0 → WordsPut file zeros r
refused_put file words zeros (Ok u) e put zero = absurd (false≢true e)
refused_put file words zeros (Err x) e put zero = record { put = record { long = ap length zero ∙ zeros_long; is = put.is; items = tt }; cleared = zero }

pub filled : (file old words : List ℕ) (r : Loaded) → record_words ≤ length old → WordsPut file words r → Filled file old (words ++ drop record_words old) r
filled file old words r enough put =
    record {
      is = ap (λ w. loaded_is file w r) first_part ∙ put.put.is;
      items = subst (λ w. ItemsCounted file w r) (sym first_part) put.put.items;
      cleared = subst (λ w. Cleared w r) (sym first_part) put.cleared;
      behind = ap (λ k. drop k (words ++ drop record_words old)) (sym put.put.long) ∙ drop-append_seam words (drop record_words old);
      long = omega (arith, length-append words (drop record_words old), length-drop record_words old, put.put.long, enough);
    }
  where
    first_part : take record_words (words ++ drop record_words old) ≡ words
    first_part = ap (λ k. take k (words ++ drop record_words old)) (sym put.put.long) ∙ take-append_seam words (drop record_words old)
