-- What std's searches over numbers find, as places among rows: `find`, from the first up and from the last down, and `all`. Assumes nothing.
use mathlib.Core.Path.{◌≡◌, refl, sym, ap, subst, ◌∙◌}
use mathlib.Core.Bool.{Bool, true, false, cond, ◌&&◌}
use Prim.Native.Nat.{ℕ, zero, suc, ◌+◌, ◌-◌, ◌<◌}
use native.Mathlib.Nat.{add-zero, zero-add, sub-zero}
use native.Mathlib.Numerals.{add-one}
use native.Mathlib.Omega.{arith}
use mathlib.Core.List.{List, [], ◌∷◌}
use lib.ListN.{length}
use denote.Ref.{Bor}
use denote.Param.Members.{Mut}
use Rattle.std.specs.Prelude.{Option, None, Some, MatchOption, IsSomeAnd, option_map, if◌then◌else◌, find}
use Rattle.std.specs.Bool.{⊤}
use Rattle.std.specs.Fn.{Called, CalledAt}
use Rattle.std.specs.Iterator.{YieldsThen}
use Rattle.std.specs.Iterator.Adapters.{rev_steps, rev_source}
use Rattle.std.specs.List.{FoldsTo, list_all, range_with_len}
use Rattle.std.specs.declared.ops.Range.{Range}
use Rattle.std.specs.declared.iter.Rev.{Rev}
use Rattle.std.proofs.lemmas.Iterator.{YieldsList}
use Rattle.std.proofs.lemmas.Iterator.Consumers.{YieldsList-from_shown}
use Rattle.std.proofs.lemmas.Iterator.Search.{find_from_yields_List, all_from_yields_List}
use Rattle.model.specs.Common.{next, first, last, every}
use Rattle.model.proofs.Search.{last_append}
use Rattle.records.specs.Layout.{each}
use Rattle.records.proofs.Lists.{as_it_is, each_length, each_snoc}

-- a place among the rows from n on, as a place among all
unfoldable pub shifted : ℕ → Option ℕ → Option ℕ
shifted n None = None
shifted n (Some k) = Some (n + k)

pub shifted_next : (n : ℕ) (o : Option ℕ) → shifted n (next o) ≡ shifted (n + 1) o
unfolding shifted
shifted_next n None = refl
shifted_next n (Some k) = ap Some (over n k)
  where
    over : (n k : ℕ) → n + suc k ≡ n + 1 + k
    over n k = omega arith

pub shifted_0 : (o : Option ℕ) → o ≡ shifted 0 o
unfolding shifted
shifted_0 None = refl
shifted_0 (Some k) = ap Some (sym (zero-add k))

-- rows that begin at `from`, by their numbers from n on
each_moved : {A : Type 0} (row : ℕ → A) (from n count : ℕ) → each (λ i. row (from + i)) n count ≡ each row (from + n) count
unfolding each
each_moved row from n zero = refl
each_moved row from n (suc count) =
    ap (λ l. row (from + n) ∷ l) (each_moved row from (suc n) count ∙ ap (λ a. each row a count) (over from n))
  where
    over : (a b : ℕ) → a + suc b ≡ suc (a + b)
    over a b = omega arith

-- a step of a range of numbers from its end
abbrev steps_back : Range ℕ → Option ℕ → Range ℕ → Type 0
steps_back s r t = (t.start ≡ s.start) × MatchOption r ((s.end - s.start ≡ 0) × (t.end ≡ s.end)) (λ x. (0 < s.end - s.start) × (x ≡ t.end) × (s.end ≡ t.end + 1))

-- the numbers from a on, the last first
abbrev down : ℕ → ℕ → List ℕ
down a zero = []
down a (suc n) = (a + n) ∷ down a n

rev_range : (s : Rev (Range ℕ)) (count : ℕ) → rev_source s ≡ record { start = 0; end = count }
    → YieldsList (rev_steps steps_back) (λ x. x) s (down 0 count)
rev_range s count e =
    subst (YieldsList (rev_steps steps_back) (λ x. x) s)
    (ap (λ (k : Range ℕ). down k.start (k.end - k.start)) e ∙ ap (down 0) (sub-zero count))
    (YieldsList-from_shown (rev_steps steps_back) (λ x. x) (λ u. down (rev_source u).start ((rev_source u).end - (rev_source u).start))
    (λ u t p. ap (λ n. length (down (rev_source u).start n)) p.1.0)
    (λ u x t p. one (rev_source u).start (rev_source u).end x (rev_source t).start (rev_source t).end p.0 p.1.0 p.1.1 p.1.2) s)
  where
    one : (a b x c d : ℕ) → c ≡ a → 0 < b - a → x ≡ d → b ≡ d + 1 → down a (b - a) ≡ x ∷ down c (d - c)
    one a b x c d start some is end =
        ap (down a) (one_less a b c d start some end) ∙ ap (λ n. n ∷ down a (d - c)) (last_one a b x c d start some is end) ∙ ap (λ n. x ∷ down n (d - c)) (sym start)
      where
        one_less : (a b c d : ℕ) → c ≡ a → 0 < b - a → b ≡ d + 1 → b - a ≡ suc (d - c)
        one_less a b c d start some end = omega (arith, start, some, end)

        last_one : (a b x c d : ℕ) → c ≡ a → 0 < b - a → x ≡ d → b ≡ d + 1 → a + (d - c) ≡ x
        last_one a b x c d start some is end = omega (arith, start, some, is, end)

pub each_from : {A : Type 0} (row : ℕ → A) (from count : ℕ) → each (λ i. row (from + i)) 0 count ≡ each row from count
each_from row from count = each_moved row from 0 count ∙ ap (λ a. each row a count) (add-zero from)

module _ {A : Type 0} (test : A → Bool) (row : ℕ → A) where
  found_from : (a n : ℕ) → find (λ i. test (row i)) (range_with_len a n) ≡ shifted a (first test (each row a n))
  unfolding first each shifted
  found_from a zero = refl
  found_from a (suc n) =
      ap (cond (test (row a)) (Some a)) (found_from (a + 1) n ∙ ap (λ k. shifted (a + 1) (first test (each row k n))) (add-one a))
      ∙ by a (test (row a)) (first test (each row (suc a) n))
    where
      by : (a : ℕ) (b : Bool) (o : Option ℕ) → cond b (Some a) (shifted (a + 1) o) ≡ shifted a (if b then Some zero else next o)
      by a true o = ap Some (sym (add-zero a))
      by a false o = sym (shifted_next a o)

  found_back : (n : ℕ) → find (λ i. test (row i)) (down 0 n) ≡ last test (each row 0 n)
  unfolding last each
  found_back zero = refl
  found_back (suc n) =
      ap (cond (test (row (0 + n))) (Some (0 + n))) (found_back n)
      ∙ ap (λ k. if test (row (0 + n)) then Some k else last test (each row 0 n)) (zero-add n ∙ sym (each_length row 0 n))
      ∙ sym (last_append test (each row 0 n) (row (0 + n)))
      ∙ ap (last test) (sym (each_snoc row 0 n))

  all_from : (a n : ℕ) → list_all (λ i. test (row i)) (range_with_len a n) ≡ every test (each row a n)
  unfolding each
  all_from a zero = refl
  all_from a (suc n) = ap (λ b. test (row a) && b) (all_from (a + 1) n ∙ ap (λ k. every test (each row k n)) (add-one a))

  -- what the calls of `find` and of `all` over the numbers below the count say, where the closure computes the test of a row
  module _ {F : Type 0} (count : ℕ) where
    pub found_first : {S : Type 0} {steps : S → Option ℕ → S → Type 0} {s : S} {g : Mut F (Bor ℕ × Unit {0}) Bool} (u : S) (f : F) (r : Option ℕ)
        → (xs : List ℕ) × (j : F) × YieldsThen steps s xs r u × FoldsTo (λ p x q. CalledAt g p x false q) f xs j × MatchOption r ⊤ (λ x. (h : F) × CalledAt g j x true h)
        → YieldsList steps (λ x. x) s (range_with_len 0 count)
        → ((x : ℕ) (b : Bool) (q : F) → CalledAt g f x b q → (q ≡ f) × (b ≡ test (row x))) → r ≡ first test (each row 0 count)
    found_first u f r ran numbers tests =
        as_it_is r
        ∙ find_from_yields_List (λ i. test (row i)) u f r ran numbers tests
        ∙ found_from 0 count
        ∙ sym (shifted_0 (first test (each row 0 count)))

    pub found_last : {g : Mut F (Bor ℕ × Unit {0}) Bool} {s : Rev (Range ℕ)} (u : Rev (Range ℕ)) (f : F) (r : Option ℕ)
        → (xs : List ℕ) × (j : F) × YieldsThen (rev_steps steps_back) s xs r u × FoldsTo (λ p x q. CalledAt g p x false q) f xs j × MatchOption r ⊤ (λ x. (h : F) × CalledAt g j x true h)
        → rev_source s ≡ record { start = 0; end = count }
        → ((x : ℕ) (b : Bool) (q : F) → CalledAt g f x b q → (q ≡ f) × (b ≡ test (row x))) → r ≡ last test (each row 0 count)
    found_last {g} {s} u f r ran source tests =
        as_it_is r ∙ find_from_yields_List (λ i. test (row i)) u f r ran (rev_range s count source) tests ∙ found_back count

    pub all_pass : {S : Type 0} {steps : S → Option ℕ → S → Type 0} {s : S} {g : Mut F (ℕ × Unit {0}) Bool} (u : S) (f : F) (r : Bool)
        → (xs : List ℕ) × (o : Option ℕ) × (j : F) × YieldsThen steps s xs o u × FoldsTo (λ p x q. Called g p (x, tt) true q) f xs j × MatchOption o (r ≡ true) (λ x. (r ≡ false) × ((h : F) × Called g j (x, tt) false h))
        → YieldsList steps (λ x. x) s (range_with_len 0 count)
        → ((x : ℕ) (b : Bool) (q : F) → Called g f (x, tt) b q → (q ≡ f) × (b ≡ test (row x))) → r ≡ every test (each row 0 count)
    all_pass u f r ran numbers tests = all_from_yields_List (λ i. test (row i)) u f r ran numbers tests ∙ all_from 0 count

-- what was found, made the record of that number by `map`
pub numbered_by : {R : Type 0} (number : R → ℕ) (P : ℕ → R → Type 0) (o : Option ℕ) (r : Option R) → MatchOption o (r ≡ None) (λ k. IsSomeAnd r (P k))
    → ((k : ℕ) (x : R) → P k x → number x ≡ k) → option_map number r ≡ o
numbered_by number P None r is made = ap (option_map number) is
numbered_by number P (Some k) None is made = elim is [ ]
numbered_by number P (Some k) (Some x) is made = ap Some (made k x is)
