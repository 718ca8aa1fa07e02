-- What the words of a field hold, by the field's kind. Assumes nothing.
use Rattle.std.specs.Prelude.{ℕ, ◌/◌, ◌%◌, Bool, true, false, drop}
use Rattle.std.specs.Prelude.{Option, None, Some}
use Rattle.model.specs.Common.{Text}
use Rattle.format.specs.declared.Kind.{Kind}
use Rattle.format.specs.Fields.{Value, absent, number, text, Read}
use Rattle.format.specs.Tails.{Three}
use Rattle.loader.specs.declared.values.FieldWords.{FieldWords}
use Rattle.loader.specs.declared.values.ThreeFields.{ThreeFields}
use Rattle.records.specs.Layout.{link_by, name_by, suffix_by, size_by}

-- a field's word, and the high word of an array's size
pub record Words : Type 0 where
  pub low : ℕ
  pub high : ℕ

-- both as one number
abbrev pub parts : ℕ → Words
parts w = record { low = w % 4294967296; high = w / 4294967296 }

-- a link or `-`
abbrev pub linked : Option ℕ → Value
linked None = absent
linked (Some n) = number n

-- a name or `-`
abbrev pub named : Option Text → Value
named None = absent
named (Some t) = text t

-- the value that a field's words hold
abbrev pub value_by : Kind → Text → Words → Value
value_by Kind.Nothing file w = absent
value_by Kind.Number file w = number w.low
value_by Kind.MaybeNumber file w = linked (link_by w.low)
value_by Kind.Position file w = number w.low
value_by Kind.Size file w = number (size_by w.low w.high)
value_by Kind.Name file w = text (name_by file w.low)
value_by Kind.MaybeName file w = named (suffix_by file w.low)
value_by Kind.UnaryOp file w = number w.low
value_by Kind.BinaryOp file w = number w.low
value_by Kind.Unused file w = absent

-- a link that may be missing stands in its word plus one
abbrev pub is_link : Kind → Bool
is_link Kind.Nothing = false
is_link Kind.Number = false
is_link Kind.MaybeNumber = true
is_link Kind.Position = false
is_link Kind.Size = false
is_link Kind.Name = false
is_link Kind.MaybeName = false
is_link Kind.UnaryOp = false
is_link Kind.BinaryOp = false
is_link Kind.Unused = false

-- a field's words as one number, and where it ends
abbrev pub slot_words_is : Kind → Text → Option FieldWords → Option Read
slot_words_is k file None = None
slot_words_is k file (Some r) = Some (record { value = value_by k file (parts r.words); rest = drop r.end file })

-- the same of three fields
abbrev pub three_by : Kind → Kind → Kind → Text → ThreeFields → Three
three_by ka kb kc file r = record { a = value_by ka file (parts r.a); b = value_by kb file (parts r.b); c = value_by kc file (parts r.c); rest = drop r.end file }

abbrev pub three_words_is : Kind → Kind → Kind → Text → Option ThreeFields → Option Three
three_words_is ka kb kc file None = None
three_words_is ka kb kc file (Some r) = Some (three_by ka kb kc file r)
