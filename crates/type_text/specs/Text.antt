-- What is written of a type's text. Definitions only; assumes nothing.
use Rattle.std.specs.Prelude.{ℕ, ◌+◌, ◌≤◌, ◌≡◌, List, [], ◌∷◌, ◌++◌, leb, length, take, drop}
use Rattle.std.specs.Prelude.{if◌then◌else◌, Result, Ok, Err}
use Rattle.model.specs.Common.{bytes}
use Rattle.resolution.specs.Answer.{decimal, comma_texts, max_text}
use Rattle.type_text.specs.declared.TextError.{TextError}
use Rattle.type_text.specs.declared.Writer.{Writer}
use Rattle.type_text.specs.declared.TextError.TheVariants.{TooLong, NoRoom}

-- the texts of the kinds, as in the definition's `row_text`
unfoldable pub tuple_text : (ℕ → List ℕ) → List ℕ → List ℕ
tuple_text text ts = bytes "(" ++ (comma_texts text ts ++ bytes ")")

-- the texts of the types, with a comma before each
unfoldable pub comma_rest : (ℕ → List ℕ) → List ℕ → List ℕ
comma_rest text [] = []
comma_rest text (t ∷ ts) = bytes "," ++ (text t ++ comma_rest text ts)

unfoldable pub pointer_text : (ℕ → List ℕ) → ℕ → List ℕ
pointer_text text t = bytes "ptr(" ++ (text t ++ bytes ")")

unfoldable pub array_text : (ℕ → List ℕ) → ℕ → ℕ → List ℕ
array_text text t size = bytes "[" ++ (text t ++ (bytes ";" ++ (decimal size ++ bytes "]")))

unfoldable pub definition_text : List ℕ → ℕ → ℕ → List ℕ
definition_text lead m d = lead ++ (decimal m ++ (bytes "." ++ decimal d))

-- how many digits a number below 2^64 has
pub record Digits (n r : ℕ) : Type 0 where
  pub count : r ≡ length (decimal n)
  pub few : r ≤ 20

-- the bytes with a text from a place on
unfoldable pub put_at : List ℕ → ℕ → List ℕ → List ℕ
put_at out at text = take at out ++ text ++ drop (at + length text) out

-- the text stands from a place on, and the result is the place behind it; all other bytes are as they were
pub record Wrote (text : List ℕ) (at : ℕ) (out out' : List ℕ) (r : ℕ) : Type 0 where
  pub bytes : out' ≡ put_at out at text
  pub next : r ≡ at + length text

-- the same of a writer: it goes on in the same buffer
pub record Writes (text : List ℕ) (w w' : Writer) : Type 0 where
  pub wrote : Wrote text w.at w.out.now w'.out.now w'.at
  pub long : length w'.out.now ≡ length w.out.now
  pub same_buffer : w'.out.ghost_name ≡ w.out.ghost_name

-- 10: "a text over 4,096 bytes"
unfoldable pub text_answer : List ℕ → ℕ → Result ℕ TextError
text_answer text room = if leb (length text) max_text then (if leb (length text) room then Ok (length text) else Err NoRoom) else Err TooLong

unfoldable pub text_bytes : Result ℕ TextError → List ℕ → List ℕ → List ℕ
text_bytes (Ok n) text out = text ++ drop (length text) out
text_bytes (Err TooLong) text out = out
text_bytes (Err NoRoom) text out = out

-- the text at the buffer's start, the bytes behind it stay; a text over 4,096 bytes or over the buffer changes nothing
pub record WritesText (text out out' : List ℕ) (r : Result ℕ TextError) : Type 0 where
  pub answer : r ≡ text_answer text (length out)
  pub bytes : out' ≡ text_bytes r text out
