-- S and M: the line that was read is the row that was written. Assumes nothing.
use Prim.Native.Nat.{ℕ}
use mathlib.Core.Path.{◌≡◌, refl, sym, ap, ◌∙◌}
use mathlib.Core.List.{List, [], ◌∷◌}
use mathlib.Core.Bool.{true, false}
use Rattle.std.specs.Prelude.{Option, None, Some}
use native.Mathlib.Omega.{arith}
use lib.ListN.{drop}
use Rattle.model.specs.Common.{Text, let_some}
use Rattle.model.specs.Records.{Scope}
use Rattle.format.specs.declared.Kind.{Kind}
use Rattle.format.specs.declared.LineWord.{LineWord}
use Rattle.format.specs.declared.ScopeWord.{ScopeWord}
use Rattle.format.specs.Words.{scope_word_of}
use Rattle.format.specs.Fields.{slot}
use Rattle.format.specs.Tails as tails
use Rattle.format.specs.Shapes.{maybe_num, bare, module_shape, scope_as}
use Rattle.format.specs.Lines.{a_module, a_scope, entry_items, word_here, module_line, scope_line, line_from}
use Rattle.records.specs.Layout.{word, module_place, scope_place, link_by, name_by, scope_kind_by}
use Rattle.records.specs.Promises.{Put}
use Rattle.records.proofs.Stores.{scope_put, scope_row_same}
use Rattle.loader.specs.Items.{Behind}
use Rattle.loader.specs.Numbers.{scope_number}
use Rattle.loader.specs.State.{row_entry, Fine, HasRoom}
use Rattle.loader.specs.Values.{parts, linked}
use Rattle.loader.specs.Lines.{tail_by, TailHeld, scope_fits, LinePut}
use Rattle.loader.specs.declared.rows.Counts.{Counts}
use Rattle.loader.specs.declared.rows.Tail.{Tail}
use Rattle.loader.proofs.Leaving.{left_then, behind_left, put_left, module_apart, scope_apart}
use Rattle.loader.proofs.Decoding.{scope_row_is, scope_lost}

module _ (file t : Text) where
  -- ---------------------------------------------------------------- S

  pub scope_no_parent : slot Kind.MaybeNumber t ≡ None → line_from LineWord.S t ≡ None
  unfolding line_from scope_line
  scope_no_parent p = rw p

  module _ (parent e : ℕ) (up : slot Kind.MaybeNumber t ≡ Some (record { value = linked (link_by parent); rest = drop e file })) where
    pub scope_no_word : word_here scope_word_of (drop e file) ≡ None → line_from LineWord.S t ≡ None
    unfolding line_from scope_line
    scope_no_word p = rw (up, p)

    module _ (w : ScopeWord) (q : ℕ) (here : word_here scope_word_of (drop e file) ≡ Some (record { word = w; rest = drop q file })) where
      pub scope_no_tail : tails.tail bare (drop q file) ≡ None → line_from LineWord.S t ≡ None
      unfolding line_from scope_line
      scope_no_tail p = rw (up, here, p)

      scope_read : (x : tails.Tail) (o : Option Scope) → tails.tail bare (drop q file) ≡ Some x → scope_as (maybe_num (linked (link_by parent))) w ≡ o
          → line_from LineWord.S t ≡ (let_some o None λ v. Some (record { entry = a_scope v; rest = x.rest }))
      unfolding line_from scope_line
      scope_read x o p r = rw (up, here, p, r)

      module _ {words' : List ℕ} (n : Counts) (x : Tail) (h : TailHeld file words' bare (drop q file) n.items x) where
        pub scope_no_fit : scope_fits parent w ≡ false → line_from LineWord.S t ≡ None
        scope_no_fit r = scope_read (tail_by file bare x h.list) None h.is (scope_lost w parent r)

        module _ {words words'' : List ℕ} (fine : Fine file words n) (room : HasRoom LineWord.S n) (fits : scope_fits parent w ≡ true) (behind : Behind n.items words words')
            (put : Put words' (scope_place n.scopes) (parent ∷ scope_number w ∷ []) words'') where
          pub scope_put_as : LinePut LineWord.S file words n t words'' (Some x.items)
          unfolding row_entry entry_items
          scope_put_as =
              record {
                left = left_then (behind_left n fine behind) (put_left (scope_apart n fine room) put);
                line =
                    record {
                      entry = a_scope (record { parent = link_by parent; kind = scope_kind_by (scope_number w) });
                      is = scope_read (tail_by file bare x h.list) (Some (record { parent = link_by parent; kind = scope_kind_by (scope_number w) })) h.is (scope_row_is w parent fits);
                      counts = sym (h.none refl);
                      held = λ few. ap a_scope (sym (scope_put n.scopes parent (scope_number w) put));
                      stays = λ few words''' left. ap a_scope (scope_row_same words'' words''' n.scopes (λ i a b. left.scopes i (omega arith) (omega arith)));
                      begins = tt;
                    };
              }

  -- ---------------------------------------------------------------- M

  pub module_no_tail : tails.tail module_shape t ≡ None → line_from LineWord.M t ≡ None
  unfolding line_from module_line
  module_no_tail p = rw p

  module _ {words words' words₃ : List ℕ} (n : Counts) (x : Tail) (h : TailHeld file words' module_shape t n.items x)
      (fine : Fine file words n) (room : HasRoom LineWord.M n) (behind : Behind n.items words words')
      (put : Put words' (module_place n.modules) ((parts x.a).low ∷ n.scopes ∷ n.types ∷ n.definitions ∷ n.expressions ∷ 0 ∷ []) words₃) where
    name_put : word words₃ (module_place n.modules) ≡ (parts x.a).low
    name_put = ap (word words₃) (omega arith) ∙ put.inside 0 (omega arith)

    pub module_put_as : LinePut LineWord.M file words n t words₃ (Some x.items)
    unfolding row_entry entry_items line_from module_line
    module_put_as =
        record {
          left = left_then (behind_left n fine behind) (put_left (module_apart n fine room) put);
          line =
              record {
                entry = a_module (name_by file (parts x.a).low);
                is = is;
                counts = sym (h.none refl);
                held = λ few. ap (λ k. a_module (name_by file k)) (sym name_put);
                stays = λ few words''' left. ap (λ k. a_module (name_by file k)) (left.modules (module_place n.modules) (omega arith) (omega arith));
                begins =
                    record {
                      scopes = put.inside 1 (omega arith);
                      types = put.inside 2 (omega arith);
                      definitions = put.inside 3 (omega arith);
                      expressions = put.inside 4 (omega arith);
                    };
              };
        }
      where
        read : tails.tail module_shape t ≡ Some (tail_by file module_shape x h.list)
        read = h.is

        is : line_from LineWord.M t ≡ Some (record { entry = a_module (name_by file (parts x.a).low); rest = drop x.items.end file })
        is = rw read
