-- The refusals of document 01, "by who can cause them": their numbers, each in one place. Assumes nothing.
use Rattle.std.specs.Prelude.{ℕ}

-- ------------------------------------------------------------------ the caller

-- a buffer shorter than it has to be
abbrev pub refusal_buffer : ℕ
refusal_buffer = 1

-- ------------------------------------------------------------------ the exporter

-- "first line wrong, its LF included"
abbrev pub refusal_first_line : ℕ
refusal_first_line = 2

-- "a limit of the "At most" line passed"
abbrev pub refusal_limit : ℕ
refusal_limit = 3

-- "a line of wrong form, place or last byte, or a module name again"
abbrev pub refusal_form : ℕ
refusal_form = 4

-- "a link to no record, a T that isn't earlier, a wrong parent, a module without scope"; a question number the file lacks
abbrev pub refusal_link : ℕ
refusal_link = 5

-- "a missing child where the Rust unwraps"
abbrev pub refusal_child : ℕ
refusal_child = 6

-- ------------------------------------------------------------------ the program's author

-- "the demand is already open"
abbrev pub refusal_open : ℕ
refusal_open = 7

-- "it would be the 257th open"
abbrev pub refusal_depth : ℕ
refusal_depth = 8

-- "a 257th distinct type, or over 2,048 items held for tuples, fields and parameters"
abbrev pub refusal_types : ℕ
refusal_types = 9

-- "a text over 4,096 bytes"
abbrev pub refusal_text : ℕ
refusal_text = 10
