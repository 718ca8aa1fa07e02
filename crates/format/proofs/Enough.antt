-- The numbers by which the definition recurses over a text are never met: a longer one reads the same. Assumes nothing.
use Prim.Native.Nat.{ℕ, zero, suc, ◌+◌, ◌≤◌, ◌<◌}
use native.Mathlib.Omega.{arith}
use native.Mathlib.Nat.{not-suc-le-zero}
use mathlib.Core.Path.{◌≡◌, refl, ap}
use mathlib.Core.Bool.{Bool, true, false}
use mathlib.Core.List.{[], ◌∷◌}
use Rattle.std.specs.Prelude.{Option, None, Some}
use lib.Dec.{eqb}
use lib.ListN.{length, length-drop}
use Rattle.model.specs.Common.{is_empty, Text, let_some}
use Rattle.format.specs.declared.Kind.{Kind}
use Rattle.format.specs.declared.Listed.{Listed}
use Rattle.format.specs.declared.Shape.{Shape}
use Rattle.format.specs.declared.LineWord.{LineWord}
use Rattle.format.specs.Words.{scope_word_of, type_word_of, definition_word_of, origin_word_of, node_word_of, question_word_of}
use Rattle.format.specs.Fields.{field_of, behind, behind_tab, value_of, Value, absent, Read, reading, slot_field, is_nothing, slot}
use Rattle.format.specs.Tails.{Three, three, first_kind, second_kind, Items, no_items, with_item, at_end, items_within, is_empty_list, items, Tail, tail}
use Rattle.format.specs.Shapes.{maybe_num, bare, module_shape, scope_as, type_shape, definition_shape, definition_as, origin_shape, node_shape, question_shape}
use Rattle.format.specs.Lines.{Line, WordRead, word_here, OriginRead, origin_here, module_line, scope_line, type_line, definition_line, expression_line, question_line, line_from}
use Rattle.format.specs.FirstPass.{Seen, Step, go, refuse, First, read, wrong, step_on, lines_within}
use Rattle.format.proofs.Reading.{Every, nothing, this, every_some, every_then, every_after}
use Rattle.format.proofs.Passing.{step_go}

-- ------------------------------------------------------------------ what is left is no longer

behind_shorter : (t : Text) → length (behind t) ≤ length t
unfolding behind
behind_shorter t = omega (arith, length-drop (length (field_of t)) t)

-- a tab is a byte
tab_shorter : (t : Text) → Every (λ (u : Text). suc (length u) ≤ length t) (behind_tab t)
unfolding behind_tab
tab_shorter [] = nothing
tab_shorter (b ∷ t) = of (eqb b 9)
  where
    of : (tab : Bool) → Every (λ (u : Text). suc (length u) ≤ suc (length t)) (elim tab [ true ↦ Some t | false ↦ None ])
    of true = this t (omega arith)
    of false = nothing

field_shorter : (k : Kind) (t : Text) → Every (λ (r : Read). suc (length r.rest) ≤ length t) (slot_field k t)
unfolding slot_field
field_shorter k t = every_then (tab_shorter t) λ u less. of u less (value_of k (field_of u))
  where
    of : (u : Text) → suc (length u) ≤ length t → (v : Option Value) → Every (λ (r : Read). suc (length r.rest) ≤ length t) (reading (behind u) v)
    of u less None = nothing
    of u less (Some v) = this (record { value = v; rest = behind u }) (omega (arith, behind_shorter u))

weaker : {A : Type 0} {P Q : A → Type 0} {o : Option A} → ((x : A) → P x → Q x) → Every P o → Every Q o
weaker f nothing = nothing
weaker f (this x p) = this x (f x p)

-- a slot of no field takes nothing
pub slot_shorter : (k : Kind) (t : Text) → Every (λ (r : Read). length r.rest ≤ length t) (slot k t)
unfolding slot
slot_shorter k t = of (is_nothing k)
  where
    of : (b : Bool) → Every (λ (r : Read). length r.rest ≤ length t) (elim b [ true ↦ Some (record { value = absent; rest = t }) | false ↦ slot_field k t ])
    of true = this (record { value = absent; rest = t }) (omega arith)
    of false = weaker (λ r h. omega arith) (field_shorter k t)

-- ------------------------------------------------------------------ items

-- the first slot of an item is a field
pub first_shorter : (l : Listed) (t : Text) → Every (λ (r : Read). suc (length r.rest) ≤ length t) (slot (first_kind l) t)
unfolding slot
first_shorter Listed.Empty t = field_shorter Kind.Unused t
first_shorter Listed.Numbers t = field_shorter Kind.Number t
first_shorter Listed.MaybeNumbers t = field_shorter Kind.MaybeNumber t
first_shorter Listed.Fields t = field_shorter Kind.Name t

then_same : {A B : Type 0} {P : A → Type 0} {o : Option A} {k k' : A → Option B} → Every P o → ((x : A) → P x → k x ≡ k' x)
    → let_some o None k ≡ let_some o None k'
then_same nothing f = refl
then_same (this x p) f = f x p

items_same : (n n' : ℕ) (l : Listed) (t : Text) → length t < n → length t < n' → items_within n l t ≡ items_within n' l t
unfolding items_within
items_same zero n' l t h h' = absurd (not-suc-le-zero h)
items_same (suc n) zero l t h h' = absurd (not-suc-le-zero h')
items_same (suc n) (suc n') l t h h' =
    λ i. elim (at_end t) [ true ↦ Some (no_items t) | false ↦ fields (λ u k k'. items_same n n' l u k k') i ]
  where
    fields : ((u : Text) → length u < n → length u < n' → items_within n l u ≡ items_within n' l u)
        → (let_some (slot (first_kind l) t) None λ x. let_some (slot (second_kind l) x.rest) None λ y. let_some (items_within n l y.rest) None λ r. Some (with_item x.value y.value r))
        ≡ (let_some (slot (first_kind l) t) None λ x. let_some (slot (second_kind l) x.rest) None λ y. let_some (items_within n' l y.rest) None λ r. Some (with_item x.value y.value r))
    fields rest =
        then_same (first_shorter l t) λ x p.
        then_same (slot_shorter (second_kind l) x.rest) λ y q.
        ap (λ (o : Option Items). let_some o None λ r. Some (with_item x.value y.value r)) (rest y.rest (omega arith) (omega arith))

-- the bytes that are left bound the items
pub items_enough : (more : ℕ) (l : Listed) (t : Text) → items_within (suc (length t) + more) l t ≡ items_within (suc (length t)) l t
items_enough more l t = items_same (suc (length t) + more) (suc (length t)) l t (omega arith) (omega arith)

-- ------------------------------------------------------------------ lines

items_shorter : (n : ℕ) (l : Listed) (t : Text) → Every (λ (r : Items). length r.rest ≤ length t) (items_within n l t)
unfolding items_within
items_shorter zero l t = nothing
items_shorter (suc n) l t = of (λ u. items_shorter n l u) (at_end t)
  where
    of : ((u : Text) → Every (λ (r : Items). length r.rest ≤ length u) (items_within n l u)) → (b : Bool)
        → Every (λ (r : Items). length r.rest ≤ length t)
        (elim b [
          | true ↦ Some (no_items t)
          | false ↦
              let_some (slot (first_kind l) t) None λ x.
              let_some (slot (second_kind l) x.rest) None λ y.
              let_some (items_within n l y.rest) None λ r. Some (with_item x.value y.value r)
        ])
    of rest true = this (no_items t) (omega arith)
    of rest false =
        every_then (first_shorter l t) λ x p.
        every_then (slot_shorter (second_kind l) x.rest) λ y q.
        every_then (rest y.rest) λ r less. this (with_item x.value y.value r) (omega arith)

list_shorter : (l : Listed) (t : Text) → Every (λ (r : Items). length r.rest ≤ length t) (items l t)
unfolding items
list_shorter l t = of (is_empty_list l) (at_end t)
  where
    of : (b end : Bool) → Every (λ (r : Items). length r.rest ≤ length t)
        (elim b [ true ↦ elim end [ true ↦ Some (no_items t) | false ↦ None ] | false ↦ items_within (suc (length t)) l t ])
    of true true = this (no_items t) (omega arith)
    of true false = nothing
    of false end = items_shorter (suc (length t)) l t

three_shorter : (ka kb kc : Kind) (t : Text) → Every (λ (x : Three). length x.rest ≤ length t) (three ka kb kc t)
unfolding three
three_shorter ka kb kc t =
    every_then (slot_shorter ka t) λ a p.
    every_then (slot_shorter kb a.rest) λ b q.
    every_then (slot_shorter kc b.rest) λ c r. this (record { a = a.value; b = b.value; c = c.value; rest = c.rest }) (omega arith)

tail_shorter : (s : Shape) (t : Text) → Every (λ (x : Tail). length x.rest ≤ length t) (tail s t)
unfolding tail
tail_shorter s t =
    every_then (three_shorter s.a s.b s.c t) λ h p.
    every_then (list_shorter s.list h.rest) λ r q.
    this (record { a = h.a; b = h.b; c = h.c; list = r.list; rest = r.rest }) (omega arith)

word_shorter : {A : Type 0} (word_of : Text → Option A) (t : Text) → Every (λ (w : WordRead A). length w.rest ≤ length t) (word_here word_of t)
unfolding word_here
word_shorter word_of t =
    every_then (tab_shorter t) λ u less.
    every_after (word_of (field_of u)) λ w. this (record { word = w; rest = behind u }) (omega (arith, behind_shorter u))

origin_shorter : (t : Text) → Every (λ (o : OriginRead). length o.rest ≤ length t) (origin_here t)
unfolding origin_here
origin_shorter t =
    every_then (word_shorter origin_word_of t) λ v a.
    every_then (three_shorter (origin_shape v.word).a (origin_shape v.word).b Kind.Nothing v.rest) λ o b. this _ (omega arith)

line_shorter : (w : LineWord) (t : Text) → Every (λ (l : Line). length l.rest ≤ length t) (line_from w t)
unfolding line_from module_line scope_line type_line definition_line expression_line question_line
line_shorter LineWord.M t = every_then (tail_shorter module_shape t) λ x p. this _ p
line_shorter LineWord.S t =
    every_then (slot_shorter Kind.MaybeNumber t) λ p a.
    every_then (word_shorter scope_word_of p.rest) λ w b.
    every_then (tail_shorter bare w.rest) λ x c.
    every_after (scope_as (maybe_num p.value) w.word) λ scope. this _ (omega arith)
line_shorter LineWord.T t =
    every_then (word_shorter type_word_of t) λ w a.
    every_then (tail_shorter (type_shape w.word) w.rest) λ x b. this _ (omega arith)
line_shorter LineWord.D t =
    every_then (three_shorter Kind.Number Kind.Name Kind.Position t) λ h a.
    every_then (three_shorter Kind.Position Kind.Position Kind.Position h.rest) λ k b.
    every_then (word_shorter definition_word_of k.rest) λ w c.
    every_then (tail_shorter (definition_shape w.word) w.rest) λ x d.
    every_after (definition_as w.word x) λ kind. this _ (omega arith)
line_shorter LineWord.E t =
    every_then (three_shorter Kind.Number Kind.Position Kind.Position t) λ h a.
    every_then (three_shorter Kind.MaybeNumber Kind.MaybeNumber Kind.Nothing h.rest) λ k b.
    every_then (origin_shorter k.rest) λ o c.
    every_then (word_shorter node_word_of o.rest) λ w d.
    every_then (tail_shorter (node_shape w.word) w.rest) λ x e. this _ (omega arith)
line_shorter LineWord.Q t =
    every_then (word_shorter question_word_of t) λ w a.
    every_then (tail_shorter (question_shape w.word) w.rest) λ x b. this _ (omega arith)

-- a line takes at least its LF
pub step_shorter : (s : Seen) (t : Text) (s₁ : Seen) (t₁ : Text) → step_on s t ≡ go s₁ t₁ → length t₁ < length t
step_shorter s t s₁ t₁ e =
    let (w, is, added) = step_go s t s₁ t₁ e in
    let read : length added.line.rest ≤ length (behind t) = every_some (line_shorter w (behind t)) added.read in
    let ended : length added.line.rest ≡ suc (length t₁) = ap length added.ends in omega (arith, read, ended, behind_shorter t)

lines_same : (n n' line : ℕ) (s : Seen) (t : Text) → length t < n → length t < n' → lines_within n line s t ≡ lines_within n' line s t
unfolding lines_within
lines_same zero n' line s t h h' = absurd (not-suc-le-zero h)
lines_same (suc n) zero line s t h h' = absurd (not-suc-le-zero h')
lines_same (suc n) (suc n') line s t h h' =
    λ i. elim (is_empty t) [ true ↦ read s.index | false ↦ after (λ s₁ t₁ k k'. lines_same n n' (suc line) s₁ t₁ k k') (step_on s t) refl i ]
  where
    after : ((s₁ : Seen) (t₁ : Text) → length t₁ < n → length t₁ < n' → lines_within n (suc line) s₁ t₁ ≡ lines_within n' (suc line) s₁ t₁)
        → (step : Step) → step_on s t ≡ step
        → ◌≡◌ {A = First} (elim step [ refuse k ↦ wrong k line | go s₁ t₁ ↦ lines_within n (suc line) s₁ t₁ ])
        (elim step [ refuse k ↦ wrong k line | go s₁ t₁ ↦ lines_within n' (suc line) s₁ t₁ ])
    after rest (refuse k) e = refl
    after rest (go s₁ t₁) e = let less = step_shorter s t s₁ t₁ e in rest s₁ t₁ (omega arith) (omega arith)

-- the bytes that are left bound the lines
pub lines_enough : (more line : ℕ) (s : Seen) (t : Text) → lines_within (suc (length t) + more) line s t ≡ lines_within (suc (length t)) line s t
lines_enough more line s t = lines_same (suc (length t) + more) (suc (length t)) line s t (omega arith) (omega arith)
