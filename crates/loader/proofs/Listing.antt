-- Lists: one item after the other, and their rows. Assumes nothing.
use Prim.Native.Nat.{ℕ, suc, ◌+◌, ◌-◌, ◌≤◌, ◌<◌}
use mathlib.Core.Path.{◌≡◌, refl, sym, ap, ◌∙◌}
use mathlib.Core.List.{List, [], ◌∷◌, ◌++◌, append_assoc, append-nil}
use mathlib.Core.Bool.{Bool, true, false, not, false≢true}
use Rattle.std.specs.Prelude.{Option, None, Some}
use native.Mathlib.Omega.{arith}
use lib.ListN.{length, drop, length-append}
use Rattle.model.specs.Common.{Text, let_some}
use Rattle.model.specs.Limits.{max_items}
use Rattle.format.specs.declared.Listed.{Listed}
use Rattle.format.specs.Fields.{Read, slot}
use Rattle.format.specs.Tails.{Item, Items, first_kind, second_kind, at_end, no_items, with_item, items_within, is_empty_list, items}
use Rattle.format.proofs.Reading.{Every, every_some, every_then, this}
use Rattle.format.proofs.Enough.{items_enough, first_shorter, slot_shorter}
use Rattle.records.specs.Layout.{each, item_place}
use Rattle.records.proofs.Lists.{each_same, each_snoc}
use Rattle.loader.specs.Values.{Words, value_by}
use Rattle.std.specs.Bool.{then_some}
use Rattle.words.specs.Ends.{begins}
use Rattle.loader.specs.declared.items.ItemWords.{ItemWords}
use Rattle.loader.specs.Items.{ItemHere, item_here, is_named, first_word, one_word, item_by, item_row, items_by, Behind, ItemPut, ItemsHeld, ItemsAre}

-- ------------------------------------------------------------------ the end of a list

pub end_is : (t : Text) → not (begins 9 t) ≡ at_end t
unfolding at_end
end_is [] = refl
end_is (b ∷ t) = refl

-- ------------------------------------------------------------------ one item

-- no item has an array's size: its words' high parts have no meaning
first_low : (l : Listed) (file : Text) (w : Words) → value_by (first_kind l) file w ≡ value_by (first_kind l) file (one_word w.low)
first_low Listed.Empty file w = refl
first_low Listed.Numbers file w = refl
first_low Listed.MaybeNumbers file w = refl
first_low Listed.Fields file w = refl

second_low : (l : Listed) (file : Text) (w : Words) → value_by (second_kind l) file w ≡ value_by (second_kind l) file (one_word w.low)
second_low Listed.Empty file w = refl
second_low Listed.Numbers file w = refl
second_low Listed.MaybeNumbers file w = refl
second_low Listed.Fields file w = refl

-- a second part that is not there takes no word
second_any : (l : Listed) (file : Text) (w w' : Words) → is_named l ≡ false → value_by (second_kind l) file w ≡ value_by (second_kind l) file w'
second_any Listed.Empty file w w' e = refl
second_any Listed.Numbers file w w' e = refl
second_any Listed.MaybeNumbers file w w' e = refl
second_any Listed.Fields file w w' e = absurd (false≢true (sym e))

first_is : (l : Listed) (value name : ℕ) → is_named l ≡ true → first_word l value name ≡ name
first_is Listed.Empty value name e = absurd (false≢true e)
first_is Listed.Numbers value name e = absurd (false≢true e)
first_is Listed.MaybeNumbers value name e = absurd (false≢true e)
first_is Listed.Fields value name e = refl

first_other : (l : Listed) (value name : ℕ) → is_named l ≡ false → first_word l value name ≡ value
first_other Listed.Empty value name e = refl
first_other Listed.Numbers value name e = refl
first_other Listed.MaybeNumbers value name e = refl
first_other Listed.Fields value name e = absurd (false≢true (sym e))

module _ (l : Listed) (file t : Text) where
  pub no_first : slot (first_kind l) t ≡ None → item_here l t ≡ None
  unfolding item_here
  no_first p = rw p

  module _ (x : Read) (p : slot (first_kind l) t ≡ Some x) where
    pub no_second : slot (second_kind l) x.rest ≡ None → item_here l t ≡ None
    unfolding item_here
    no_second q = rw (p, q)

    both_parts : (y : Read) → slot (second_kind l) x.rest ≡ Some y → item_here l t ≡ Some (record { item = record { first = x.value; second = y.value }; rest = y.rest })
    unfolding item_here
    both_parts y q = rw (p, q)

  module _ (a b : Words) (f e : ℕ) (p : slot (first_kind l) t ≡ Some (record { value = value_by (first_kind l) file a; rest = drop f file }))
      (q : slot (second_kind l) (drop f file) ≡ Some (record { value = value_by (second_kind l) file b; rest = drop e file })) where
    pub item_with_name : is_named l ≡ true → Some (record { item = item_by l file b.low a.low; rest = drop e file }) ≡ item_here l t
    item_with_name h =
        sym
        (both_parts _ p _ q
        ∙ (λ i.
        Some
        (record {
          item = record { first = (first_low l file a ∙ ap (λ w. value_by (first_kind l) file (one_word w)) (sym (first_is l b.low a.low h))) i; second = second_low l file b i };
          rest = drop e file;
        })))

    pub item_plain : is_named l ≡ false → Some (record { item = item_by l file a.low 0; rest = drop e file }) ≡ item_here l t
    item_plain h =
        sym
        (both_parts _ p _ q
        ∙ (λ i.
        Some
        (record {
          item = record { first = (first_low l file a ∙ ap (λ w. value_by (first_kind l) file (one_word w)) (sym (first_other l a.low 0 h))) i; second = second_any l file b (one_word a.low) h i };
          rest = drop e file;
        })))

-- ------------------------------------------------------------------ one item after the other

-- the items from here on
abbrev pub items_from : Listed → Text → Option Items
items_from l t = items_within (suc (length t)) l t

abbrev pub prepend : List Item → Option Items → Option Items
prepend list None = None
prepend list (Some r) = Some (record { list = list ++ r.list; rest = r.rest })

prepend_nothing : (o : Option Items) → o ≡ prepend [] o
prepend_nothing None = refl
prepend_nothing (Some r) = refl

prepend_twice : (p q : List Item) (o : Option Items) → prepend p (prepend q o) ≡ prepend (p ++ q) o
prepend_twice p q None = refl
prepend_twice p q (Some r) = ap (λ l. Some (record { list = l; rest = r.rest })) (sym (append_assoc p q r.list))

pub item_shorter : (l : Listed) (t : Text) (x : ItemHere) → item_here l t ≡ Some x → length x.rest < length t
unfolding item_here
item_shorter l t x e = every_some (shorter l t) e
  where
    shorter : (l : Listed) (t : Text) → Every (λ (x : ItemHere). length x.rest < length t) (item_here l t)
    shorter l t =
        every_then (first_shorter l t) λ x p.
        every_then (slot_shorter (second_kind l) x.rest) λ y q. this (record { item = record { first = x.value; second = y.value }; rest = y.rest }) (omega arith)

module _ (l : Listed) (t : Text) where
  -- as `items_within` has them
  abbrev by_fields : Option Items
  by_fields =
      let_some (slot (first_kind l) t) None λ x.
      let_some (slot (second_kind l) x.rest) None λ y.
      let_some (items_within (length t) l y.rest) None λ r. Some (with_item x.value y.value r)

  pub items_ended : at_end t ≡ true → items_from l t ≡ Some (no_items t)
  unfolding items_within
  items_ended h = λ i. elim (h i) [ true ↦ Some (no_items t) | false ↦ by_fields ]

  items_go_on : at_end t ≡ false → items_from l t ≡ (let_some (item_here l t) None λ x. let_some (items_within (length t) l x.rest) None λ r. Some (with_item x.item.first x.item.second r))
  unfolding items_within item_here
  items_go_on h = (λ i. elim (h i) [ true ↦ Some (no_items t) | false ↦ by_fields ]) ∙ of (slot (first_kind l) t)
    where
      second : (x : Read) (o : Option Read)
          → (let_some o None λ y. let_some (items_within (length t) l y.rest) None λ r. Some (with_item x.value y.value r))
          ≡ (let_some {A = ItemHere} (let_some o None λ y. Some (record { item = record { first = x.value; second = y.value }; rest = y.rest })) None λ z. let_some (items_within (length t) l z.rest) None λ r. Some (with_item z.item.first z.item.second r))
      second x None = refl
      second x (Some y) = refl

      of : (o : Option Read)
          → (let_some o None λ x. let_some (slot (second_kind l) x.rest) None λ y. let_some (items_within (length t) l y.rest) None λ r. Some (with_item x.value y.value r))
          ≡ (let_some {A = ItemHere} (let_some o None λ x. let_some (slot (second_kind l) x.rest) None λ y. Some (record { item = record { first = x.value; second = y.value }; rest = y.rest })) None λ z. let_some (items_within (length t) l z.rest) None λ r. Some (with_item z.item.first z.item.second r))
      of None = refl
      of (Some x) = second x (slot (second_kind l) x.rest)

  pub items_lost : at_end t ≡ false → item_here l t ≡ None → items_from l t ≡ None
  items_lost h p =
      items_go_on h
      ∙ ap (λ o. let_some o None λ z. let_some (items_within (length t) l z.rest) None λ r. Some (with_item z.item.first z.item.second r)) p

  pub items_step : (x : ItemHere) → at_end t ≡ false → item_here l t ≡ Some x → items_from l t ≡ prepend (x.item ∷ []) (items_from l x.rest)
  items_step x h p =
      items_go_on h
      ∙ ap (λ o. let_some o None λ z. let_some (items_within (length t) l z.rest) None λ r. Some (with_item z.item.first z.item.second r)) p
      ∙ of (items_within (length t) l x.rest)
      ∙ ap (prepend (x.item ∷ [])) enough
    where
      of : (o : Option Items) → (let_some o None λ r. Some (with_item x.item.first x.item.second r)) ≡ prepend (x.item ∷ []) o
      of None = refl
      of (Some r) = refl

      enough : items_within (length t) l x.rest ≡ items_from l x.rest
      enough =
          let less = item_shorter l t x p in
          let more : length t ≡ suc (length x.rest) + (length t - suc (length x.rest)) = omega arith in
          ap (λ n. items_within n l x.rest) more ∙ items_enough (length t - suc (length x.rest)) l x.rest

-- ------------------------------------------------------------------ the rows of items

pub behind_self : (first : ℕ) (words : List ℕ) → Behind first words words
behind_self first words = record { long = refl; same = λ i h. refl }

pub behind_then : (first k : ℕ) {words words' words'' : List ℕ} → Behind first words words' → Behind (first + k) words' words'' → Behind first words words''
behind_then first k p q = record { long = q.long ∙ p.long; same = λ i h. q.same i (omega arith) ∙ p.same i h }

-- ------------------------------------------------------------------ a list so far

-- i items were read, and they stand in their rows if there is room; the others stand from e on
pub record SoFar (file words : List ℕ) (l : Listed) (t : Text) (first e i : ℕ) : Type 0 where
  pub list : List Item
  pub counts : length list ≡ i
  pub held : first + i ≤ max_items → list ≡ items_by l file words first i
  pub is : items_from l t ≡ prepend list (items_from l (drop e file))
  pub fewer : i + length (drop e file) ≤ length t

pub so_far_begun : (file words : List ℕ) (l : Listed) (at first : ℕ) → SoFar file words l (drop at file) first at 0
unfolding items_by each
so_far_begun file words l at first =
    record { list = []; counts = refl; held = λ h. refl; is = prepend_nothing (items_from l (drop at file)); fewer = omega arith }

module _ {file words : List ℕ} {l : Listed} {t : Text} {first e i : ℕ} (so_far : SoFar file words l t first e i) where
  pub so_far_ended : at_end (drop e file) ≡ true → is_empty_list l ≡ false → ItemsHeld file words l t first (record { count = i; end = e })
  unfolding items
  so_far_ended h listed =
      record {
        list = so_far.list;
        is =
            (λ d. elim (listed d) [ true ↦ elim (at_end t) [ true ↦ Some (no_items t) | false ↦ None ] | false ↦ items_from l t ])
            ∙ so_far.is
            ∙ ap (prepend so_far.list) (items_ended l (drop e file) h)
            ∙ ap (λ k. Some (record { list = k; rest = drop e file })) (append-nil so_far.list);
        counts = so_far.counts;
        held = so_far.held;
      }

  pub so_far_lost : at_end (drop e file) ≡ false → item_here l (drop e file) ≡ None → is_empty_list l ≡ false → items l t ≡ None
  unfolding items
  so_far_lost h p listed =
      (λ d. elim (listed d) [ true ↦ elim (at_end t) [ true ↦ Some (no_items t) | false ↦ None ] | false ↦ items_from l t ])
      ∙ so_far.is
      ∙ ap (prepend so_far.list) (items_lost l (drop e file) h p)

  module _ (x : ItemWords) (words' : List ℕ) (more : at_end (drop e file) ≡ false)
      (read : item_here l (drop e file) ≡ Some (record { item = item_by l file x.value x.name; rest = drop x.end file }))
      (put : ItemPut words (first + i) x.value x.name words') where
    rows_same : items_by l file words' first i ≡ items_by l file words first i
    unfolding items_by
    rows_same =
        each_same (item_row l file words') (item_row l file words) first i
        (λ j le lt.
        (λ d. item_by l file (put.behind.same (item_place j) (omega arith) d) (put.behind.same (item_place j + 1) (omega arith) d)))

    row_new : first + i < max_items → item_row l file words' (first + i) ≡ item_by l file x.value x.name
    row_new h = λ d. item_by l file (put.put_value h d) (put.put_name h d)

    pub so_far_more : SoFar file words' l t first x.end (i + 1)
    unfolding items_by
    so_far_more =
        record {
          list = so_far.list ++ (item_by l file x.value x.name ∷ []);
          counts = length-append so_far.list (item_by l file x.value x.name ∷ []) ∙ ap (λ n. n + 1) so_far.counts;
          held = grown;
          is =
              so_far.is
              ∙ ap (prepend so_far.list) (items_step l (drop e file) _ more read)
              ∙ prepend_twice so_far.list (item_by l file x.value x.name ∷ []) (items_from l (drop x.end file));
          fewer = let less = item_shorter l (drop e file) _ read in let before = so_far.fewer in omega (arith, less, before);
        }
      where
        next : i + 1 ≡ suc i
        next = omega arith

        grown : first + (i + 1) ≤ max_items → so_far.list ++ (item_by l file x.value x.name ∷ []) ≡ items_by l file words' first (i + 1)
        grown h =
            (λ d. (so_far.held (omega arith) ∙ sym rows_same) d ++ (sym (row_new (omega arith)) d ∷ []))
            ∙ sym (ap (each (item_row l file words') first) next ∙ each_snoc (item_row l file words') first i)

    pub so_far_shorter : length (drop x.end file) < length (drop e file)
    so_far_shorter = item_shorter l (drop e file) _ read

-- ------------------------------------------------------------------ no list

module _ (file words : List ℕ) (l : Listed) (at first : ℕ) (listed : is_empty_list l ≡ true) where
  none_held : at_end (drop at file) ≡ true → ItemsHeld file words l (drop at file) first (record { count = 0; end = at })
  unfolding items items_by each
  none_held h =
      record {
        list = [];
        is =
            (λ d. elim (listed d) [
              | true ↦ elim (h d) [ true ↦ Some (no_items (drop at file)) | false ↦ None ]
              | false ↦ items_from l (drop at file)
            ]);
        counts = refl;
        held = λ short. refl;
      }

  some_lost : at_end (drop at file) ≡ false → items l (drop at file) ≡ None
  unfolding items
  some_lost h =
      λ d. elim (listed d) [
        | true ↦ elim (h d) [ true ↦ Some (no_items (drop at file)) | false ↦ None ]
        | false ↦ items_from l (drop at file)
      ]

  pub no_list : (b : Bool) → b ≡ at_end (drop at file) → ItemsAre file words l (drop at file) first (then_some b (record { count = 0; end = at }))
  no_list true h = none_held (sym h)
  no_list false h = some_lost (sym h)
