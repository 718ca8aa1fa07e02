-- What a line says, as the code holds it, with the table behind it. Assumes nothing: these are definitions.
use Rattle.std.specs.Prelude.{ℕ, Option, None, Some, Result, Ok, Err}
use Rattle.resolution.specs.Types.{Table}
use Rattle.resolution.specs.Programs as resolution
use Rattle.resolution.specs.TypeResolution.{none_said}
use Rattle.resolution.specs.Run.{Outcome}
use Rattle.refusals.specs.declared.Refusal.{Refusal}
use Rattle.type_resolution.specs.State.{answer_by}

-- a type, or the word `none`
abbrev pub said_of : Option ℕ → resolution.Said
said_of (Some t) = resolution.Said.type t
said_of None = none_said

abbrev pub says : Result (Option ℕ) Refusal → Table → Outcome resolution.Said
says = answer_by said_of

-- a type, or why there is none
abbrev pub said_type : Result ℕ Refusal → Result (Option ℕ) Refusal
said_type (Ok t) = Ok (Some t)
said_type (Err refusal) = Err refusal
