-- The numbers of the refusals: those of model's specs/Refusals.antt. Definitions only.
use Rattle.std.specs.Prelude.{ℕ}
use Rattle.model.specs.Refusals.{refusal_buffer, refusal_first_line, refusal_limit, refusal_form, refusal_link}
use Rattle.model.specs.Refusals.{refusal_child, refusal_open, refusal_depth, refusal_types, refusal_text}
use Rattle.refusals.specs.declared.Refusal.{Refusal}
use Rattle.refusals.specs.declared.FileRefusal.{FileRefusal}

abbrev pub refusal_number : Refusal → ℕ
refusal_number Refusal.MissingChild = refusal_child
refusal_number Refusal.OpenDemand = refusal_open
refusal_number Refusal.Depth = refusal_depth
refusal_number Refusal.TableFull = refusal_types
refusal_number Refusal.LongText = refusal_text

abbrev pub file_refusal_number : FileRefusal → ℕ
file_refusal_number FileRefusal.ShortBuffer = refusal_buffer
file_refusal_number FileRefusal.FirstLine = refusal_first_line
file_refusal_number FileRefusal.Limit = refusal_limit
file_refusal_number FileRefusal.Form = refusal_form
file_refusal_number FileRefusal.Link = refusal_link
