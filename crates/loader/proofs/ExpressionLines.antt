-- E: the line that was read is the row that was written. Assumes nothing.
use Prim.Native.Nat.{ℕ, ◌+◌, ◌*◌, ◌%◌, ◌≤◌, ◌<◌}
use mathlib.Core.Path.{◌≡◌, sym, ap, subst, ◌∙◌}
use mathlib.Core.List.{List, [], ◌∷◌}
use Rattle.std.specs.Prelude.{None, Some}
use native.Mathlib.Omega.{arith}
use lib.ListN.{drop}
use Rattle.model.specs.Common.{Text}
use Rattle.model.specs.Limits.{max_items, node_items}
use Rattle.model.specs.Records.{Origin, Expression, ExpressionInfo}
use Rattle.format.specs.declared.Kind.{Kind}
use Rattle.format.specs.declared.LineWord.{LineWord}
use Rattle.format.specs.declared.OriginWord.{OriginWord}
use Rattle.format.specs.declared.NodeWord.{NodeWord}
use Rattle.format.specs.Words.{origin_word_of, node_word_of}
use Rattle.format.specs.Tails as tails
use Rattle.format.specs.Shapes.{origin_shape, origin_as, node_shape, node_as}
use Rattle.format.specs.Lines.{an_expression, entry_items, expression_from, word_here, origin_here, expression_line, line_from}
use Rattle.records.specs.Layout.{word, link_by, expression_place, item_place, origin_by, expression_by, expression_row, expression_word}
use Rattle.records.specs.Promises.{Put}
use Rattle.records.proofs.Packing.{node_packed, origin_packed}
use Rattle.records.proofs.Stores.{expression_put, expression_row_same, same_above, ListedNode}
use Rattle.loader.specs.Items.{Behind}
use Rattle.loader.specs.Numbers.{origin_number, node_number}
use Rattle.loader.specs.Values.{parts, three_by}
use Rattle.loader.specs.State.{row_entry, Fine, HasRoom}
use Rattle.loader.specs.Lines.{tail_by, TailHeld, last_word, OriginHeld, LinePut}
use Rattle.loader.specs.declared.rows.Counts.{Counts}
use Rattle.loader.specs.declared.values.ThreeFields.{ThreeFields}
use Rattle.loader.specs.declared.rows.OriginWords.{OriginWords}
use Rattle.loader.specs.declared.rows.Tail.{Tail}
use Rattle.loader.proofs.Tailing.{tail_kept}
use Rattle.loader.proofs.Leaving.{left_then, behind_left, put_left, expression_apart}
use Rattle.loader.proofs.Decoding.{RowOf, linked_is, origin_row_is, origin_small, node_row, node_listed, node_small}

-- ------------------------------------------------------------------ the origin

module _ (file t : Text) where
  pub origin_no_word : word_here origin_word_of t ≡ None → origin_here t ≡ None
  unfolding origin_here
  origin_no_word p = rw p

  module _ (w : OriginWord) (q : ℕ) (here : word_here origin_word_of t ≡ Some (record { word = w; rest = drop q file })) where
    pub origin_no_three : tails.three (origin_shape w).a (origin_shape w).b Kind.Nothing (drop q file) ≡ None → origin_here t ≡ None
    unfolding origin_here
    origin_no_three p = rw (here, p)

    origin_read : (x : tails.Three) → tails.three (origin_shape w).a (origin_shape w).b Kind.Nothing (drop q file) ≡ Some x
        → origin_here t ≡ Some (record { origin = origin_as w x; rest = x.rest })
    unfolding origin_here
    origin_read x p = rw (here, p)

    pub origin_held : (x : ThreeFields) → tails.three (origin_shape w).a (origin_shape w).b Kind.Nothing (drop q file) ≡ Some (three_by (origin_shape w).a (origin_shape w).b Kind.Nothing file x)
        → OriginHeld file t (record { kind = origin_number w; link = (parts x.a).low; value = (parts x.b).low; end = x.end })
    origin_held x p =
        record {
          is =
              origin_read (three_by (origin_shape w).a (origin_shape w).b Kind.Nothing file x) p
              ∙ ap (λ o. Some (record { origin = o; rest = drop x.end file })) (origin_row_is file w (parts x.a) (parts x.b) (parts x.c) (drop x.end file));
          small = origin_small w;
        }

-- ------------------------------------------------------------------ the line

module _ (file t : Text) where
  pub expression_no_first : tails.three Kind.Number Kind.Position Kind.Position t ≡ None → line_from LineWord.E t ≡ None
  unfolding line_from expression_line
  expression_no_first p = rw p

  module _ (h : ThreeFields) (head : tails.three Kind.Number Kind.Position Kind.Position t ≡ Some (three_by Kind.Number Kind.Position Kind.Position file h)) where
    pub expression_no_second : tails.three Kind.MaybeNumber Kind.MaybeNumber Kind.Nothing (drop h.end file) ≡ None → line_from LineWord.E t ≡ None
    unfolding line_from expression_line
    expression_no_second p = rw (head, p)

    module _ (k : ThreeFields) (links : tails.three Kind.MaybeNumber Kind.MaybeNumber Kind.Nothing (drop h.end file) ≡ Some (three_by Kind.MaybeNumber Kind.MaybeNumber Kind.Nothing file k)) where
      abbrev with_parts : Origin → Expression → ExpressionInfo
      with_parts origin node =
          expression_from (three_by Kind.Number Kind.Position Kind.Position file h) (three_by Kind.MaybeNumber Kind.MaybeNumber Kind.Nothing file k) origin node

      pub expression_no_origin : origin_here (drop k.end file) ≡ None → line_from LineWord.E t ≡ None
      unfolding line_from expression_line
      expression_no_origin p = rw (head, links, p)

      module _ (o : OriginWords) (origin : OriginHeld file (drop k.end file) o) where
        abbrev the_origin : Origin
        the_origin = origin_by file o.kind o.link o.value

        origin_is : origin_here (drop k.end file) ≡ Some (record { origin = the_origin; rest = drop o.end file })
        origin_is = origin.is

        pub expression_no_word : word_here node_word_of (drop o.end file) ≡ None → line_from LineWord.E t ≡ None
        unfolding line_from expression_line
        expression_no_word p = rw (head, links, origin_is, p)

        module _ (w : NodeWord) (q : ℕ) (here : word_here node_word_of (drop o.end file) ≡ Some (record { word = w; rest = drop q file })) where
          pub expression_no_tail : tails.tail (node_shape w) (drop q file) ≡ None → line_from LineWord.E t ≡ None
          unfolding line_from expression_line
          expression_no_tail p = rw (head, links, origin_is, here, p)

          expression_read : (x : tails.Tail) → tails.tail (node_shape w) (drop q file) ≡ Some x
              → line_from LineWord.E t ≡ Some (record { entry = an_expression (with_parts the_origin (node_as w x)); rest = x.rest })
          unfolding line_from expression_line
          expression_read x p = rw (head, links, origin_is, here, p)

          module _ {words words' words₄ : List ℕ} (n : Counts) (x : Tail) (tail : TailHeld file words' (node_shape w) (drop q file) n.items x)
              (fine : Fine file words n) (room : HasRoom LineWord.E n) (behind : Behind n.items words words')
              (put : Put words' (expression_place n.expressions)
              ((node_number w + 256 * o.kind) ∷ (parts h.a).low ∷ (parts h.b).low ∷ (parts h.c).low ∷ (parts k.a).low ∷ (parts k.b).low ∷ o.link ∷ o.value ∷ (parts x.a).low ∷ (parts x.b).low ∷ last_word (node_shape w) x ∷ []) words₄) where
            node_low : node_number w < 256
            node_low = omega (arith, node_small w)

            kept : TailHeld file words₄ (node_shape w) (drop q file) n.items x
            kept = tail_kept (same_above put (item_place 0) (item_place max_items) (omega (arith, room))) tail

            abbrev the_node : Expression
            the_node = node_as w (tail_by file (node_shape w) x kept.list)

            abbrev row_node : Expression
            row_node = expression_by file words₄ (node_number w) (parts x.a).low (parts x.b).low (last_word (node_shape w) x)

            node_held : RowOf the_node node_items x.items.count (n.items + x.items.count ≤ max_items) row_node
            node_held = node_row file words₄ (drop q file) n.items x fine.items w kept

            row_is : with_parts the_origin row_node ≡ expression_row file words₄ n.expressions
            row_is =
                (λ i. record {
                  scope = (parts h.a).low;
                  start = (parts h.b).low;
                  end = (parts h.c).low;
                  expected = linked_is (link_by (parts k.a).low) i;
                  definition = linked_is (link_by (parts k.b).low) i;
                  origin = origin_by file (sym (origin_packed (node_number w) o.kind node_low) i) o.link o.value;
                  node = expression_by file words₄ (sym (node_packed (node_number w) o.kind node_low) i) (parts x.a).low (parts x.b).low (last_word (node_shape w) x);
                })
                ∙ sym (expression_put file n.expressions (node_number w + 256 * o.kind) (parts h.a).low (parts h.b).low (parts h.c).low (parts k.a).low (parts k.b).low o.link o.value (parts x.a).low (parts x.b).low (last_word (node_shape w) x) put)

            listed : n.items + x.items.count ≤ max_items → ListedNode (n.items + x.items.count) (word words₄ (expression_place n.expressions) % 256) (expression_word words₄ n.expressions 10)
            listed few =
                subst (λ m. ListedNode (n.items + x.items.count) m (expression_word words₄ n.expressions 10))
                (sym (ap (λ m. m % 256) (ap (word words₄) (omega arith) ∙ put.inside 0 (omega arith)) ∙ node_packed (node_number w) o.kind node_low))
                (subst (ListedNode (n.items + x.items.count) (node_number w)) (sym (put.inside 10 (omega arith))) (node_listed file words₄ (drop q file) n.items x fine.items w kept few))

            pub expression_put_as : LinePut LineWord.E file words n t words₄ (Some x.items)
            unfolding row_entry entry_items
            expression_put_as =
                record {
                  left = left_then (behind_left n fine behind) (put_left (expression_apart n fine room) put);
                  line =
                      record {
                        entry = an_expression (with_parts the_origin the_node);
                        is = expression_read (tail_by file (node_shape w) x kept.list) kept.is;
                        counts = node_held.counts;
                        held = λ few. ap (λ m. an_expression (with_parts the_origin m)) (node_held.held few) ∙ ap an_expression row_is;
                        stays = λ few words''' left.
                            ap an_expression
                            (expression_row_same file words₄ words''' (n.items + x.items.count) left.items n.expressions
                            (λ i a b. left.expressions i (omega arith) (omega arith)) (listed few));
                        begins = tt;
                      };
                }
