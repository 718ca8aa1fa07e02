-- `records::name_with_type_item` meets its contract: the place is below the count, or not. Assumes nothing.
use Prim.Native.Nat.{ℕ}
use mathlib.Core.List.{List}
use mathlib.Core.Path.{◌≡◌}
use Rattle.std.proofs.Common.{rules}
use Rattle.records.proofs.Lists.{then_item}
use Rattle.records.specs.Layout.{name_by, item_name, item_value, name_with_type_row, names_with_types_at}
use Rattle.records.specs.Meaning.{name_of, named_type_of}
use Rattle.records.specs.declared.NameWithType.{NameWithType}
use Rattle.records.proofs.name_with_type_item.Goals as goal

-- a name and a T that are those of the row
both_are : (file words : List ℕ) (i : ℕ) (item : NameWithType) → name_of file item.name ≡ name_by file (item_name words i) → item.type_expr ≡ item_value words i
    → named_type_of file item ≡ name_with_type_row file words i
both_are file words i item named typed = λ d. record { name = named d; type = typed d }

pub returns : goal.returns
unfolding names_with_types_at
returns c = λ file. then_item (named_type_of file) (name_with_type_row file c.args.words.now) c.args.items.first _ _ _
    (λ x answers. both_are file c.args.words.now _ x (search rules) (search rules)) _ c.then.ensures.variant c.then.ensures.some
