-- A lookup in the module of a number, by where the link to that module leads. Assumes nothing.
use mathlib.Core.Path.{◌≡◌, sym, ap, ◌∙◌}
use Prim.Native.Nat.{ℕ}
use mathlib.Core.List.{List}
use Rattle.std.specs.Prelude.{Option, None, Some}
use Rattle.model.specs.Common.{let_some}
use Rattle.model.specs.Records.{Module}
use Rattle.model.specs.Lookups.{module_at}
use Rattle.records.specs.Layout.{module_row, index_of}
use Rattle.lookup_bench.specs.Numbers.{link_number, module_to, in_module}

module _ (file words : List ℕ) (m : ℕ) (to : Option ℕ) (is : module_at (index_of file words) m ≡ module_to file words to) (lookup : Module → Option ℕ) where
  number_by : (at : Option ℕ) → to ≡ at → link_number (in_module (index_of file words) m lookup) ≡ link_number (let_some (module_to file words at) None lookup)
  number_by at h = ap (λ o. link_number (let_some o None lookup)) (is ∙ ap (module_to file words) h)

  pub absent : to ≡ None → 0 ≡ link_number (in_module (index_of file words) m lookup)
  absent h = sym (number_by None h)

  pub present : (n : ℕ) (found : Option ℕ) (r : ℕ) → to ≡ Some n → r ≡ link_number found → found ≡ lookup (module_row file words n)
      → r ≡ link_number (in_module (index_of file words) m lookup)
  present n found r h written same = written ∙ ap link_number same ∙ sym (number_by (Some n) h)
