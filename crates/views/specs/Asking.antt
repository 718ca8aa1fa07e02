-- What an answer line is about, as the code holds it. Definitions only.
use Rattle.std.specs.Prelude.{Option, option_map}
use Rattle.records.specs.Meaning.{type_link_of}
use Rattle.resolution.specs.Asked as resolution
use Rattle.views.specs.declared.Asked.{Asked}

abbrev pub asked_of : Asked → resolution.Asked
asked_of (Asked.Expr m e t) = resolution.Asked.expr m e.0 (type_link_of t)
asked_of (Asked.Def m d) = resolution.Asked.def m d.0
asked_of (Asked.«Type» m t s) = resolution.Asked.type m t s.0
asked_of (Asked.At m position) = resolution.Asked.at m position

-- what a question asks at a number
abbrev pub found_asked_of : Option Asked → Option resolution.Asked
found_asked_of = option_map asked_of
