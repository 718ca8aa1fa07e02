-- Q: the line that was read is the row that was written. Assumes nothing.
use Prim.Native.Nat.{ℕ}
use mathlib.Core.Path.{◌≡◌, sym, ap, ◌∙◌}
use mathlib.Core.List.{List, [], ◌∷◌}
use Rattle.std.specs.Prelude.{None, Some}
use native.Mathlib.Omega.{arith}
use lib.ListN.{drop}
use Rattle.model.specs.Common.{Text}
use Rattle.format.specs.declared.LineWord.{LineWord}
use Rattle.format.specs.declared.QuestionWord.{QuestionWord}
use Rattle.format.specs.Words.{question_word_of}
use Rattle.format.specs.Tails as tails
use Rattle.format.specs.Shapes.{question_shape, question_as}
use Rattle.format.specs.Lines.{a_question, entry_items, word_here, question_line, line_from}
use Rattle.records.specs.Layout.{question_place}
use Rattle.records.specs.Promises.{Put}
use Rattle.records.proofs.Stores.{question_put, question_row_same}
use Rattle.loader.specs.Items.{Behind}
use Rattle.loader.specs.Numbers.{question_number}
use Rattle.loader.specs.State.{row_entry, Fine, HasRoom}
use Rattle.loader.specs.Values.{parts}
use Rattle.loader.specs.Lines.{tail_by, TailHeld, LinePut}
use Rattle.loader.specs.declared.rows.Counts.{Counts}
use Rattle.loader.specs.declared.rows.Tail.{Tail}
use Rattle.loader.proofs.Leaving.{left_then, behind_left, put_left, question_apart}
use Rattle.loader.proofs.Decoding.{question_row_is, question_none}

module _ (file t : Text) where
  pub question_no_word : word_here question_word_of t ≡ None → line_from LineWord.Q t ≡ None
  unfolding line_from question_line
  question_no_word p = rw p

  module _ (w : QuestionWord) (q : ℕ) (here : word_here question_word_of t ≡ Some (record { word = w; rest = drop q file })) where
    pub question_no_tail : tails.tail (question_shape w) (drop q file) ≡ None → line_from LineWord.Q t ≡ None
    unfolding line_from question_line
    question_no_tail p = rw (here, p)

    question_read : (x : tails.Tail) → tails.tail (question_shape w) (drop q file) ≡ Some x
        → line_from LineWord.Q t ≡ Some (record { entry = a_question (question_as w x); rest = x.rest })
    unfolding line_from question_line
    question_read x p = rw (here, p)

    module _ {words words' words'' : List ℕ} (n : Counts) (x : Tail) (h : TailHeld file words' (question_shape w) (drop q file) n.items x)
        (fine : Fine file words n) (room : HasRoom LineWord.Q n) (behind : Behind n.items words words')
        (put : Put words' (question_place n.questions) (question_number w ∷ (parts x.a).low ∷ (parts x.b).low ∷ (parts x.c).low ∷ []) words'') where
      pub question_put_as : LinePut LineWord.Q file words n t words'' (Some x.items)
      unfolding row_entry entry_items
      question_put_as =
          record {
            left = left_then (behind_left n fine behind) (put_left (question_apart n fine room) put);
            line =
                record {
                  entry = a_question (question_as w (tail_by file (question_shape w) x h.list));
                  is = question_read (tail_by file (question_shape w) x h.list) h.is;
                  counts = sym (question_none file words' (drop q file) n.items x fine.items w h);
                  held = λ few.
                      ap a_question
                      (question_row_is file words' (drop q file) n.items x fine.items w h
                      ∙ sym (question_put n.questions (question_number w) (parts x.a).low (parts x.b).low (parts x.c).low put));
                  stays = λ few words''' left.
                      ap a_question (question_row_same words'' words''' n.questions (λ i a b. left.questions i (omega arith) (omega arith)));
                  begins = tt;
                };
          }
