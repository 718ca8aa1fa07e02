-- What a store leaves: the rows that are counted. Assumes nothing.
use Prim.Native.Nat.{ℕ, ◌+◌, ◌≤◌, ◌<◌}
use mathlib.Core.Path.{◌≡◌, refl, sym, subst, ◌∙◌}
use mathlib.Core.Logic.{inl, inr, ⊎_elim}
use mathlib.Core.List.{List}
use native.Mathlib.Omega.{arith}
use lib.ListN.{length}
use Rattle.std.specs.Prelude.{Option, None}
use Rattle.model.specs.Common.{Text}
use Rattle.format.specs.Lines.{line_from}
use Rattle.loader.specs.Lines.{LineIs, LinePut}
use Rattle.format.specs.declared.LineWord.{LineWord}
use Rattle.records.specs.Layout.{word, module_place, scope_place, type_expr_place, definition_place, expression_place, question_place, item_place}
use Rattle.records.specs.Promises.{Put}
use Rattle.records.proofs.Stores.{lt_or_ge}
use Rattle.loader.specs.Items.{Behind}
use Rattle.loader.specs.State.{Left, Fine, HasRoom, counts_after}
use Rattle.loader.specs.declared.items.ItemsRead.{ItemsRead}
use Rattle.loader.specs.declared.rows.Counts.{Counts}

pub left_self : (n : Counts) (words : List ℕ) → Left n words words
left_self n words =
    record {
      long = refl;
      modules = λ i a b. refl;
      scopes = λ i a b. refl;
      types = λ i a b. refl;
      definitions = λ i a b. refl;
      expressions = λ i a b. refl;
      questions = λ i a b. refl;
      items = λ i a b. refl;
    }

pub left_then : {n : Counts} {words words' words'' : List ℕ} → Left n words words' → Left n words' words'' → Left n words words''
left_then p q =
    record {
      long = q.long ∙ p.long;
      modules = λ i a b. q.modules i a b ∙ p.modules i a b;
      scopes = λ i a b. q.scopes i a b ∙ p.scopes i a b;
      types = λ i a b. q.types i a b ∙ p.types i a b;
      definitions = λ i a b. q.definitions i a b ∙ p.definitions i a b;
      expressions = λ i a b. q.expressions i a b ∙ p.expressions i a b;
      questions = λ i a b. q.questions i a b ∙ p.questions i a b;
      items = λ i a b. q.items i a b ∙ p.items i a b;
    }

-- no line was read
pub line_lost : {w : LineWord} {file words : List ℕ} {n : Counts} {t : Text} {words' : List ℕ} {r : Option ItemsRead}
    → r ≡ None → Left n words words' → line_from w t ≡ None → LinePut w file words n t words' r
line_lost {w} {file} {words} {n} {t} {words'} e left none = record { left = left; line = subst (LineIs w file words' n t) (sym e) none }

-- fewer rows
pub record Fewer (n m : Counts) : Type 0 where
  pub modules : n.modules ≤ m.modules
  pub scopes : n.scopes ≤ m.scopes
  pub types : n.types ≤ m.types
  pub definitions : n.definitions ≤ m.definitions
  pub expressions : n.expressions ≤ m.expressions
  pub questions : n.questions ≤ m.questions
  pub items : n.items ≤ m.items

pub left_fewer : {n m : Counts} {words words' : List ℕ} → Fewer n m → Left m words words' → Left n words words'
left_fewer f p =
    record {
      long = p.long;
      modules = λ i a b. p.modules i a (omega (arith, f.modules));
      scopes = λ i a b. p.scopes i a (omega (arith, f.scopes));
      types = λ i a b. p.types i a (omega (arith, f.types));
      definitions = λ i a b. p.definitions i a (omega (arith, f.definitions));
      expressions = λ i a b. p.expressions i a (omega (arith, f.expressions));
      questions = λ i a b. p.questions i a (omega (arith, f.questions));
      items = λ i a b. p.items i a (omega (arith, f.items));
    }

pub fewer_after : (w : LineWord) (n : Counts) (count : ℕ) → Fewer n (counts_after w n count)
fewer_after LineWord.M n count = omega arith
fewer_after LineWord.S n count = omega arith
fewer_after LineWord.T n count = omega arith
fewer_after LineWord.D n count = omega arith
fewer_after LineWord.E n count = omega arith
fewer_after LineWord.Q n count = omega arith

-- items behind the counted ones
pub behind_left : {file words words' : List ℕ} (n : Counts) → Fine file words n → Behind n.items words words' → Left n words words'
behind_left n fine p =
    record {
      long = p.long;
      modules = λ i a b. p.same i (omega (arith, fine.modules));
      scopes = λ i a b. p.same i (omega (arith, fine.scopes));
      types = λ i a b. p.same i (omega (arith, fine.types));
      definitions = λ i a b. p.same i (omega (arith, fine.definitions));
      expressions = λ i a b. p.same i (omega (arith, fine.expressions));
      questions = λ i a b. p.same i (omega (arith, fine.questions));
      items = λ i a b. p.same i b;
    }

-- the words from `at` on belong to no counted row
abbrev Off : ℕ → ℕ → ℕ → ℕ → Type 0
Off at width from to = (i : ℕ) → at ≤ i → i < at + width → from ≤ i → i < to → ⊥

pub record Apart (n : Counts) (at width : ℕ) : Type 0 where
  pub modules : Off at width (module_place 0) (module_place n.modules)
  pub scopes : Off at width (scope_place 0) (scope_place n.scopes)
  pub types : Off at width (type_expr_place 0) (type_expr_place n.types)
  pub definitions : Off at width (definition_place 0) (definition_place n.definitions)
  pub expressions : Off at width (expression_place 0) (expression_place n.expressions)
  pub questions : Off at width (question_place 0) (question_place n.questions)
  pub items : Off at width (item_place 0) (item_place n.items)

pub put_left : {n : Counts} {words : List ℕ} {at : ℕ} {values words' : List ℕ} → Apart n at (length values) → Put words at values words' → Left n words words'
put_left {n} {words} {at} {values} {words'} apart p =
    record {
      long = p.long;
      modules = λ i a b. other i (λ x y. apart.modules i x y a b);
      scopes = λ i a b. other i (λ x y. apart.scopes i x y a b);
      types = λ i a b. other i (λ x y. apart.types i x y a b);
      definitions = λ i a b. other i (λ x y. apart.definitions i x y a b);
      expressions = λ i a b. other i (λ x y. apart.expressions i x y a b);
      questions = λ i a b. other i (λ x y. apart.questions i x y a b);
      items = λ i a b. other i (λ x y. apart.items i x y a b);
    }
  where
    other : (i : ℕ) → (at ≤ i → i < at + length values → ⊥) → word words' i ≡ word words i
    other i off =
        p.outside i
        (⊎_elim (λ low. inl low) (λ high. ⊎_elim (λ inside. absurd (off high inside)) (λ past. inr past) (lt_or_ge i (at + length values))) (lt_or_ge i at))

-- the next row of each kind
module _ {file words : List ℕ} (n : Counts) (fine : Fine file words n) where
  pub module_apart : HasRoom LineWord.M n → Apart n (module_place n.modules) 6
  module_apart room = omega (arith, fine, room)

  pub scope_apart : HasRoom LineWord.S n → Apart n (scope_place n.scopes) 2
  scope_apart room = omega (arith, fine, room)

  pub type_apart : HasRoom LineWord.T n → Apart n (type_expr_place n.types) 4
  type_apart room = omega (arith, fine, room)

  pub definition_apart : HasRoom LineWord.D n → Apart n (definition_place n.definitions) 12
  definition_apart room = omega (arith, fine, room)

  pub expression_apart : HasRoom LineWord.E n → Apart n (expression_place n.expressions) 11
  expression_apart room = omega (arith, fine, room)

  pub question_apart : HasRoom LineWord.Q n → Apart n (question_place n.questions) 4
  question_apart room = omega (arith, fine, room)

-- a row's values, known by what they are equal to
pub put_same : {words words' : List ℕ} {at : ℕ} {values values' : List ℕ} → values ≡ values' → Put words at values words' → Put words at values' words'
put_same {words} {words'} {at} e p = subst (λ v. Put words at v words') e p
