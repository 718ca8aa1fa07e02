-- What stands behind a word: three fields and a list. Assumes nothing.
use Prim.Native.Nat.{ℕ, suc, ◌+◌, ◌*◌, ◌≤◌}
use mathlib.Core.Path.{◌≡◌, sym, ap, subst, ◌∙◌}
use mathlib.Core.List.{List}
use mathlib.Core.Bool.{Bool, true, false}
use Rattle.std.specs.Prelude.{Option, None, Some}
use native.Mathlib.Omega.{arith}
use lib.ListN.{length, drop}
use Rattle.model.specs.Common.{Text}
use Rattle.model.specs.Limits.{max_items}
use Rattle.model.proofs.Tests.{none≢some, some-injective}
use Rattle.format.specs.declared.Kind.{Kind}
use Rattle.format.specs.declared.Listed.{Listed}
use Rattle.format.specs.declared.Shape.{Shape}
use Rattle.format.specs.Tails as tails
use Rattle.records.specs.Layout.{item_place}
use Rattle.records.specs.Promises.{Same}
use Rattle.records.proofs.Lists.{each_same}
use Rattle.loader.specs.Values.{three_by, three_words_is}
use Rattle.loader.specs.Items.{item_by, item_row, items_by, ItemsHeld}
use Rattle.loader.specs.Lines.{tail_by, TailHeld, TailIs, TailPut}
use Rattle.loader.specs.declared.values.ThreeFields.{ThreeFields}
use Rattle.loader.specs.declared.items.ItemsRead.{ItemsRead}
use Rattle.loader.specs.declared.rows.Tail.{Tail}

-- what the definition reads where the code has read three fields, and where it has not
module _ (s t : Text) (ka kb kc : Kind) (r : Option ThreeFields) (q : three_words_is ka kb kc s r ≡ tails.three ka kb kc t) where
  pub three_found : (x : ThreeFields) → r ≡ Some x
      → tails.three ka kb kc t ≡ Some (three_by ka kb kc s x)
  three_found x h = sym q ∙ ap (three_words_is ka kb kc s) h

  pub three_lost : r ≡ None → tails.three ka kb kc t ≡ None
  three_lost h = sym q ∙ ap (three_words_is ka kb kc s) h

-- no list has no items
empty_list : (l : Listed) (t : Text) (r : tails.Items) → tails.is_empty_list l ≡ true → tails.items l t ≡ Some r → length r.list ≡ 0
unfolding tails.items
empty_list l t r empty e =
    of (tails.at_end t) (sym (λ i. elim (empty i) [ true ↦ elim (tails.at_end t) [ true ↦ Some (tails.no_items t) | false ↦ None ] | false ↦ tails.items_within (suc (length t)) l t ]) ∙ e)
  where
    of : (b : Bool) → ◌≡◌ {A = Option tails.Items} (elim b [ true ↦ Some (tails.no_items t) | false ↦ None ]) (Some r) → length r.list ≡ 0
    of true h = ap (λ (x : tails.Items). length x.list) (sym (some-injective h))
    of false h = absurd (none≢some h)

module _ (s : Shape) (file t : Text) where
  pub tail_no_three : tails.three s.a s.b s.c t ≡ None → tails.tail s t ≡ None
  unfolding tails.tail
  tail_no_three p = rw p

  module _ (f : ThreeFields) (p : tails.three s.a s.b s.c t ≡ Some (three_by s.a s.b s.c file f)) where
    pub tail_no_items : tails.items s.list (drop f.end file) ≡ None → tails.tail s t ≡ None
    unfolding tails.tail
    tail_no_items q = rw (p, q)

    module _ {words : List ℕ} {first : ℕ} (read : ItemsRead) (h : ItemsHeld file words s.list (drop f.end file) first read) (list : ℕ) (is_list : read.count ≤ max_items → list ≡ first + 65536 * read.count) where
      abbrev the_tail : Tail
      the_tail = record { a = f.a; b = f.b; c = f.c; list = list; items = read }

      pub tail_held : TailHeld file words s t first the_tail
      unfolding tails.tail
      tail_held =
          record {
            list = h.list;
            is = whole;
            counts = h.counts;
            none = λ empty. sym h.counts ∙ empty_list s.list (drop f.end file) _ empty h.is;
            held = h.held;
            packed = is_list;
          }
        where
          items_read : tails.items s.list (drop f.end file) ≡ Some (record { list = h.list; rest = drop read.end file })
          items_read = h.is

          whole : tails.tail s t ≡ Some (tail_by file s the_tail h.list)
          whole = rw (p, items_read)

-- while the items are left
pub tail_kept : {file words words' : List ℕ} {s : Shape} {t : Text} {first : ℕ} {x : Tail} → Same words words' (item_place 0) (item_place max_items) → TailHeld file words s t first x → TailHeld file words' s t first x
unfolding items_by
tail_kept {file} {words} {words'} {s} {t} {first} {x} left h =
    record {
      list = h.list;
      is = h.is;
      counts = h.counts;
      none = h.none;
      held = λ few.
          h.held few
          ∙ each_same (item_row s.list file words) (item_row s.list file words') first x.items.count
          (λ i le lt. (λ d. item_by s.list file (sym (left (item_place i) (omega arith) (omega arith)) d) (sym (left (item_place i + 1) (omega arith) (omega arith)) d)));
      packed = h.packed;
    }

-- what was read, or not
module _ (file words : List ℕ) (s : Shape) (t : Text) (first : ℕ) {r : Option Tail} (h : TailIs file words s t first r) where
  pub tail_of : (x : Tail) → r ≡ Some x → TailHeld file words s t first x
  tail_of x e = subst (TailIs file words s t first) e h

  pub tail_none : r ≡ None → tails.tail s t ≡ None
  tail_none e = subst (TailIs file words s t first) e h

pub tail_put_as : {file words : List ℕ} {s s' : Shape} {t : Text} {first : ℕ} {words' : List ℕ} {r : Option Tail} → s ≡ s' → TailPut file words s t first words' r → TailPut file words s' t first words' r
tail_put_as {file} {words} {s} {s'} {t} {first} {words'} {r} e h = subst (λ k. TailPut file words k t first words' r) e h
