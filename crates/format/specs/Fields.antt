-- From bytes to fields, and what each kind of field may hold. A line is read from left to right: what is left of it are the bytes from the
-- end of the last field on, so a next field stands there only if the first of them is a tab. Assumes nothing.
use Rattle.std.specs.Prelude.{ℕ, ◌+◌, ◌-◌, ◌*◌, [], ◌∷◌, Bool, true, false, ◌&&◌, ◌||◌, not, length, drop, eqb, leb}
use Rattle.std.specs.Prelude.{Option, None, Some}
use Rattle.model.specs.Common.{Text, bytes, let_some, eq_numbers}
use Rattle.model.specs.Limits.{max_number, max_position, max_size}
use Rattle.format.specs.declared.Kind.{Kind}
use Rattle.format.specs.Words.{unary_op_words, binary_op_words, place_in}

-- ------------------------------------------------------------------ fields: "Lines end in LF, fields are parted by one tab"

-- a field ends before a tab, before an LF, and where the file ends
abbrev pub stops : ℕ → Bool
stops b = eqb b 9 || eqb b 10

-- the field that begins here
unfoldable pub field_of : Text → Text
field_of [] = []
field_of (b ∷ t) = elim (stops b) [ true ↦ [] | false ↦ b ∷ field_of t ]

-- what is left behind it
unfoldable pub behind : Text → Text
behind t = drop (length (field_of t)) t

-- ------------------------------------------------------------------ numbers: "decimal without leading zeros", of any length

abbrev pub is_digit : ℕ → Bool
is_digit b = leb 48 b && leb b 57

-- the number whose digits are those of n and then the text's
unfoldable pub digits : ℕ → Text → Option ℕ
digits n [] = Some n
digits n (b ∷ t) = elim (is_digit b) [ true ↦ digits (n * 10 + (b - 48)) t | false ↦ None ]

abbrev pub only_if : {A : Type 0} → Bool → A → Option A
only_if true a = Some a
only_if false a = None

-- a zero stands alone
unfoldable pub alone : Text → Option ℕ
alone [] = Some 0
alone (b ∷ t) = None

unfoldable pub plain_number : Text → Option ℕ
plain_number [] = None
plain_number (b ∷ t) = elim (eqb b 48) [ true ↦ alone t | false ↦ digits 0 (b ∷ t) ]

-- a number that is at most `most`
unfoldable pub number_of : ℕ → Text → Option ℕ
number_of most t = let_some (plain_number t) None λ n. only_if (leb n most) n

-- ------------------------------------------------------------------ names: "1 to 64 bytes from 21 to 7E hexadecimal, and not `-`"

abbrev pub is_dash : Text → Bool
is_dash t = eq_numbers t (bytes "-")

unfoldable pub all_visible : Text → Bool
all_visible [] = true
all_visible (b ∷ t) = elim (leb 33 b && leb b 126) [ true ↦ all_visible t | false ↦ false ]

unfoldable pub is_name : Text → Bool
is_name t = leb 1 (length t) && leb (length t) 64 && all_visible t && not (is_dash t)

-- ------------------------------------------------------------------ what a field holds

pub data Value : Type 0 where
  absent : Value
  number : ℕ → Value
  text : Text → Value

abbrev pub numbered : Option ℕ → Option Value
numbered None = None
numbered (Some n) = Some (number n)

-- a name as it stands, or nothing
unfoldable pub name_value : Text → Option Value
name_value t = only_if (is_name t) (text t)

-- "`-`, which means absent", or what is read otherwise
unfoldable pub or_dash : Text → Option Value → Option Value
or_dash t v = elim (is_dash t) [ true ↦ Some absent | false ↦ v ]

-- the value of a field of a kind, or none where its form is wrong
unfoldable pub value_of : Kind → Text → Option Value
value_of Kind.Nothing t = None
value_of Kind.Number t = numbered (number_of max_number t)
value_of Kind.MaybeNumber t = or_dash t (numbered (number_of max_number t))
value_of Kind.Position t = numbered (number_of max_position t)
value_of Kind.Size t = numbered (number_of max_size t)
value_of Kind.Name t = name_value t
value_of Kind.MaybeName t = or_dash t (name_value t)
value_of Kind.UnaryOp t = numbered (place_in unary_op_words t)
value_of Kind.BinaryOp t = numbered (place_in binary_op_words t)
value_of Kind.Unused t = only_if (is_dash t) absent

-- ------------------------------------------------------------------ reading a field

-- what is read: a value, and what is left of the line
pub record Read : Type 0 where
  pub value : Value
  pub rest : Text

abbrev pub reading : Text → Option Value → Option Read
reading t None = None
reading t (Some v) = Some (record { value = v; rest = t })

-- what stands behind the tab that must stand here
unfoldable pub behind_tab : Text → Option Text
behind_tab [] = None
behind_tab (b ∷ t) = elim (eqb b 9) [ true ↦ Some t | false ↦ None ]

-- the field behind the tab that stands here
unfoldable pub slot_field : Kind → Text → Option Read
slot_field k t = let_some (behind_tab t) None λ u. reading (behind u) (value_of k (field_of u))

-- `Nothing` reads no field
abbrev pub is_nothing : Kind → Bool
is_nothing Kind.Nothing = true
is_nothing Kind.Number = false
is_nothing Kind.MaybeNumber = false
is_nothing Kind.Position = false
is_nothing Kind.Size = false
is_nothing Kind.Name = false
is_nothing Kind.MaybeName = false
is_nothing Kind.UnaryOp = false
is_nothing Kind.BinaryOp = false
is_nothing Kind.Unused = false

unfoldable pub slot : Kind → Text → Option Read
slot k t = elim (is_nothing k) [ true ↦ Some (record { value = absent; rest = t }) | false ↦ slot_field k t ]
