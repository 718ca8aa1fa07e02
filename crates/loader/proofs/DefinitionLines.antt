-- D: the line that was read is the row that was written. Assumes nothing.
use Prim.Native.Nat.{ℕ, ◌+◌, ◌≤◌}
use mathlib.Core.Path.{◌≡◌, sym, ap, subst, ◌∙◌}
use mathlib.Core.List.{List, [], ◌∷◌}
use mathlib.Core.Bool.{true, false}
use Rattle.std.specs.Prelude.{Option, None, Some}
use native.Mathlib.Omega.{arith}
use lib.ListN.{drop}
use Rattle.model.specs.Common.{Text, let_some}
use Rattle.model.specs.Limits.{max_items, kind_items}
use Rattle.model.specs.Records.{DefinitionKind, Definition}
use Rattle.format.specs.declared.Kind.{Kind}
use Rattle.format.specs.declared.LineWord.{LineWord}
use Rattle.format.specs.declared.DefinitionWord.{DefinitionWord}
use Rattle.format.specs.Words.{definition_word_of}
use Rattle.format.specs.Tails as tails
use Rattle.format.specs.Shapes.{definition_shape, definition_as}
use Rattle.format.specs.Lines.{a_definition, entry_items, definition_from, word_here, definition_line, line_from}
use Rattle.records.specs.Layout.{word, definition_place, item_place, definition_kind_by, definition_row, definition_word}
use Rattle.records.specs.Promises.{Put}
use Rattle.records.proofs.Stores.{definition_put, definition_row_same, same_above, Listed}
use Rattle.loader.specs.Items.{Behind}
use Rattle.loader.specs.Numbers.{definition_number}
use Rattle.loader.specs.Values.{parts, three_by}
use Rattle.loader.specs.State.{row_entry, Fine, HasRoom}
use Rattle.loader.specs.Lines.{tail_by, TailHeld, path_fits, LinePut}
use Rattle.loader.specs.declared.rows.Counts.{Counts}
use Rattle.loader.specs.declared.values.ThreeFields.{ThreeFields}
use Rattle.loader.specs.declared.rows.Tail.{Tail}
use Rattle.loader.proofs.Tailing.{tail_kept}
use Rattle.loader.proofs.Leaving.{left_then, behind_left, put_left, definition_apart}
use Rattle.loader.proofs.Decoding.{RowRead, definition_kind_row, definition_path_lost, definition_listed}

module _ (file t : Text) where
  pub definition_no_first : tails.three Kind.Number Kind.Name Kind.Position t ≡ None → line_from LineWord.D t ≡ None
  unfolding line_from definition_line
  definition_no_first p = rw p

  module _ (h : ThreeFields) (head : tails.three Kind.Number Kind.Name Kind.Position t ≡ Some (three_by Kind.Number Kind.Name Kind.Position file h)) where
    pub definition_no_second : tails.three Kind.Position Kind.Position Kind.Position (drop h.end file) ≡ None → line_from LineWord.D t ≡ None
    unfolding line_from definition_line
    definition_no_second p = rw (head, p)

    module _ (k : ThreeFields) (spans : tails.three Kind.Position Kind.Position Kind.Position (drop h.end file) ≡ Some (three_by Kind.Position Kind.Position Kind.Position file k)) where
      pub definition_no_word : word_here definition_word_of (drop k.end file) ≡ None → line_from LineWord.D t ≡ None
      unfolding line_from definition_line
      definition_no_word p = rw (head, spans, p)

      module _ (w : DefinitionWord) (q : ℕ) (here : word_here definition_word_of (drop k.end file) ≡ Some (record { word = w; rest = drop q file })) where
        pub definition_no_tail : tails.tail (definition_shape w) (drop q file) ≡ None → line_from LineWord.D t ≡ None
        unfolding line_from definition_line
        definition_no_tail p = rw (head, spans, here, p)

        abbrev with_kind : DefinitionKind → Definition
        with_kind kind = definition_from (three_by Kind.Number Kind.Name Kind.Position file h) (three_by Kind.Position Kind.Position Kind.Position file k) kind

        definition_read : (x : tails.Tail) (o : Option DefinitionKind) → tails.tail (definition_shape w) (drop q file) ≡ Some x → definition_as w x ≡ o
            → line_from LineWord.D t ≡ (let_some o None λ kind. Some (record { entry = a_definition (with_kind kind); rest = x.rest }))
        unfolding line_from definition_line
        definition_read x o p r = rw (head, spans, here, p, r)

        module _ {words' : List ℕ} (n : Counts) (x : Tail) (tail : TailHeld file words' (definition_shape w) (drop q file) n.items x) (low : n.items ≤ 2048) where
          pub definition_no_path : path_fits w (parts x.c).low x.items.count ≡ false → line_from LineWord.D t ≡ None
          definition_no_path r =
              definition_read (tail_by file (definition_shape w) x tail.list) None tail.is (definition_path_lost file words' (drop q file) n.items x low w tail r)

          module _ {words words₃ : List ℕ} (fine : Fine file words n) (room : HasRoom LineWord.D n) (path : path_fits w (parts x.c).low x.items.count ≡ true) (behind : Behind n.items words words')
              (put : Put words' (definition_place n.definitions)
              (definition_number w ∷ (parts h.a).low ∷ (parts h.b).low ∷ (parts h.c).low ∷ (parts k.a).low ∷ (parts k.b).low ∷ (parts k.c).low ∷ (parts x.a).low ∷ (parts x.b).low ∷ (parts x.c).low ∷ x.list ∷ 0 ∷ []) words₃) where
            kept : TailHeld file words₃ (definition_shape w) (drop q file) n.items x
            kept = tail_kept (same_above put (item_place 0) (item_place max_items) (omega (arith, room))) tail

            value : RowRead (definition_as w (tail_by file (definition_shape w) x kept.list)) kind_items x.items.count (n.items + x.items.count ≤ max_items)
                (definition_kind_by file words₃ (definition_number w) (parts x.a).low (parts x.b).low (parts x.c).low x.list)
            value = definition_kind_row file words₃ (drop q file) n.items x low w kept path

            row_is : definition_row file words₃ n.definitions ≡ with_kind (definition_kind_by file words₃ (definition_number w) (parts x.a).low (parts x.b).low (parts x.c).low x.list)
            row_is =
                definition_put file n.definitions (definition_number w) (parts h.a).low (parts h.b).low (parts h.c).low (parts k.a).low (parts k.b).low (parts k.c).low (parts x.a).low (parts x.b).low (parts x.c).low x.list 0 put

            listed : n.items + x.items.count ≤ max_items → word words₃ (definition_place n.definitions) ≤ 3 → Listed (n.items + x.items.count) (definition_word words₃ n.definitions 10)
            listed few e =
                subst (Listed (n.items + x.items.count)) (sym (put.inside 10 (omega arith)))
                (definition_listed file words₃ (drop q file) n.items x low (word words₃ (definition_place n.definitions)) kept few e)

            pub definition_put_as : LinePut LineWord.D file words n t words₃ (Some x.items)
            unfolding row_entry entry_items
            definition_put_as =
                record {
                  left = left_then (behind_left n fine behind) (put_left (definition_apart n fine room) put);
                  line =
                      record {
                        entry = a_definition (with_kind value.value);
                        is = definition_read (tail_by file (definition_shape w) x kept.list) (Some value.value) kept.is value.is;
                        counts = value.counts;
                        held = λ few. ap (λ m. a_definition (with_kind m)) (value.held few) ∙ ap a_definition (sym row_is);
                        stays = λ few words''' left.
                            ap a_definition
                            (definition_row_same file words₃ words''' (n.items + x.items.count) left.items n.definitions
                            (λ i a b. left.definitions i (omega arith) (omega arith)) (listed few));
                        begins = tt;
                      };
                }
