-- The T of the first field of a name, from the place that the search finds. Assumes nothing.
use mathlib.Core.Path.{◌≡◌, refl, ap, ◌∙◌}
use mathlib.Core.Bool.{Bool, true, false}
use Prim.Native.Nat.{ℕ, zero, suc, ◌+◌}
use native.Mathlib.Nat.{add-zero}
use native.Mathlib.Omega.{arith}
use mathlib.Core.List.{List}
use Rattle.std.specs.Prelude.{Option, None, Some, MatchOption, IsSomeAnd, option_map, if◌then◌else◌}
use Rattle.model.specs.Common.{next, first, eq_numbers}
use Rattle.model.specs.Records.{Name, NameWithType}
use Rattle.resolution.specs.Types.{field_type}
use Rattle.records.specs.Layout.{each, item_value, name_with_type_row, names_with_types_at}
use Rattle.records.specs.Meaning.{type_link_of}
use Rattle.records.proofs.Searches.{each_from}

abbrev pub called : Name → NameWithType → Bool
called name field = eq_numbers field.name name

module _ (file words : List ℕ) (name : Name) where
  -- the T of the field at a place behind the first
  abbrev pub type_behind : ℕ → Option ℕ → Option ℕ
  type_behind from = option_map (λ i. item_value words (from + i))

  first_called : (from count : ℕ) → type_behind from (first (called name) (each (name_with_type_row file words) from count)) ≡ field_type (each (name_with_type_row file words) from count) name
  unfolding each first field_type
  first_called from zero = refl
  first_called from (suc count) =
      by from (called name (name_with_type_row file words from)) (first (called name) (each (name_with_type_row file words) (suc from) count))
      ∙ ap (λ o. if called name (name_with_type_row file words from) then Some (item_value words from) else o) (first_called (suc from) count)
    where
      over : (a b : ℕ) → a + suc b ≡ suc a + b
      over a b = omega arith

      by : (from : ℕ) (b : Bool) (o : Option ℕ) → type_behind from (if b then Some zero else next o) ≡ (if b then Some (item_value words from) else type_behind (suc from) o)
      by from true o = ap (λ n. Some (item_value words n)) (add-zero from)
      by from false None = refl
      by from false (Some i) = ap (λ n. Some (item_value words n)) (over from i)

  pub type_found : (from count : ℕ) (r : Option ℕ) → r ≡ first (called name) (each (λ i. name_with_type_row file words (from + i)) 0 count)
      → type_behind from r ≡ field_type (names_with_types_at file words from count) name
  unfolding names_with_types_at
  type_found from count r e =
      ap (type_behind from) (e ∙ ap (first (called name)) (each_from (name_with_type_row file words) from count)) ∙ first_called from count

-- what `map` says of the place that was found, whose closure reads the T there
pub behind_by : (words : List ℕ) (from : ℕ) (P : ℕ → ℕ → Type 0) (o r : Option ℕ) → MatchOption o (r ≡ None) (λ i. IsSomeAnd r (P i))
    → ((i t : ℕ) → P i t → t ≡ item_value words (from + i)) → type_link_of r ≡ option_map (λ i. item_value words (from + i)) o
behind_by words from P None r is read = ap type_link_of is
behind_by words from P (Some i) None is read = elim is [ ]
behind_by words from P (Some i) (Some t) is read = ap Some (read i t is)
