-- T: the line that was read is the row that was written. Assumes nothing.
use Prim.Native.Nat.{ℕ, ◌+◌, ◌≤◌}
use mathlib.Core.Path.{◌≡◌, sym, ap, subst, ◌∙◌}
use mathlib.Core.List.{List, [], ◌∷◌}
use Rattle.std.specs.Prelude.{None, Some}
use native.Mathlib.Omega.{arith}
use lib.ListN.{drop}
use Rattle.model.specs.Common.{Text}
use Rattle.model.specs.Limits.{max_items, type_expr_items}
use Rattle.model.specs.Records.{TypeExpr}
use Rattle.format.specs.declared.LineWord.{LineWord}
use Rattle.format.specs.declared.TypeWord.{TypeWord}
use Rattle.format.specs.Words.{type_word_of}
use Rattle.format.specs.Tails as tails
use Rattle.format.specs.Shapes.{type_shape, type_as}
use Rattle.format.specs.Lines.{a_type, entry_items, word_here, type_line, line_from}
use Rattle.records.specs.Layout.{word, type_expr_place, item_place, type_expr_by, type_expr_row}
use Rattle.records.specs.Promises.{Put}
use Rattle.records.proofs.Stores.{type_expr_put, type_expr_row_same, same_above, Listed}
use Rattle.loader.specs.Items.{Behind}
use Rattle.loader.specs.Numbers.{type_number}
use Rattle.loader.specs.State.{row_entry, Fine, HasRoom}
use Rattle.loader.specs.Values.{parts}
use Rattle.loader.specs.Lines.{tail_by, TailHeld, last_word, LinePut}
use Rattle.loader.specs.declared.rows.Counts.{Counts}
use Rattle.loader.specs.declared.rows.Tail.{Tail}
use Rattle.loader.proofs.Tailing.{tail_kept}
use Rattle.loader.proofs.Leaving.{left_then, behind_left, put_left, type_apart}
use Rattle.loader.proofs.Decoding.{RowOf, type_row, type_listed}

module _ (file t : Text) where
  pub type_no_word : word_here type_word_of t ≡ None → line_from LineWord.T t ≡ None
  unfolding line_from type_line
  type_no_word p = rw p

  module _ (w : TypeWord) (q : ℕ) (here : word_here type_word_of t ≡ Some (record { word = w; rest = drop q file })) where
    pub type_no_tail : tails.tail (type_shape w) (drop q file) ≡ None → line_from LineWord.T t ≡ None
    unfolding line_from type_line
    type_no_tail p = rw (here, p)

    type_read : (x : tails.Tail) → tails.tail (type_shape w) (drop q file) ≡ Some x
        → line_from LineWord.T t ≡ Some (record { entry = a_type (type_as w x); rest = x.rest })
    unfolding line_from type_line
    type_read x p = rw (here, p)

    module _ {words words' words'' : List ℕ} (n : Counts) (x : Tail) (h : TailHeld file words' (type_shape w) (drop q file) n.items x)
        (fine : Fine file words n) (room : HasRoom LineWord.T n) (behind : Behind n.items words words')
        (put : Put words' (type_expr_place n.types) (type_number w ∷ (parts x.a).low ∷ (parts x.b).low ∷ last_word (type_shape w) x ∷ []) words'') where
      kept : TailHeld file words'' (type_shape w) (drop q file) n.items x
      kept = tail_kept (same_above put (item_place 0) (item_place max_items) (omega (arith, room))) h

      abbrev the_type : TypeExpr
      the_type = type_as w (tail_by file (type_shape w) x kept.list)

      the_row : RowOf the_type type_expr_items x.items.count (n.items + x.items.count ≤ max_items) (type_expr_by file words'' (type_number w) (parts x.a).low (parts x.b).low (last_word (type_shape w) x))
      the_row = type_row file words'' (drop q file) n.items x fine.items w kept

      row_is : type_expr_row file words'' n.types ≡ type_expr_by file words'' (type_number w) (parts x.a).low (parts x.b).low (last_word (type_shape w) x)
      row_is = type_expr_put file n.types (type_number w) (parts x.a).low (parts x.b).low (last_word (type_shape w) x) put

      listed : n.items + x.items.count ≤ max_items → word words'' (type_expr_place n.types) ≡ 5 → Listed (n.items + x.items.count) (word words'' (type_expr_place n.types + 3))
      listed few e =
          subst (Listed (n.items + x.items.count)) (sym (put.inside 3 (omega arith)))
          (type_listed file words'' (drop q file) n.items x fine.items w kept few (sym (ap (word words'') (omega arith) ∙ put.inside 0 (omega arith)) ∙ e))

      pub type_put : LinePut LineWord.T file words n t words'' (Some x.items)
      unfolding row_entry entry_items
      type_put =
          record {
            left = left_then (behind_left n fine behind) (put_left (type_apart n fine room) put);
            line =
                record {
                  entry = a_type the_type;
                  is = type_read (tail_by file (type_shape w) x kept.list) kept.is;
                  counts = the_row.counts;
                  held = λ few. ap a_type (the_row.held few ∙ sym row_is);
                  stays = λ few words''' left.
                      ap a_type
                      (type_expr_row_same file words'' words''' (n.items + x.items.count) left.items n.types
                      (λ i a b. left.types i (omega arith) (omega arith)) (listed few));
                  begins = tt;
                };
          }
