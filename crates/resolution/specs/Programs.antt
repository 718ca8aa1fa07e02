-- A resolution function as a program: a tree of what it does, in the Rust's order of evaluation, up to its answer or a refusal.
-- `Run` says what a program gives. Assumes nothing.
use Rattle.std.specs.Prelude.{ℕ, Bool, true, false}
use Rattle.std.specs.Prelude.{Option, None, Some}
use Rattle.model.specs.Common.{Text}
use Rattle.model.specs.Refusals.{refusal_child}
use Rattle.resolution.specs.TypeData.{TypeData}
use Rattle.resolution.specs.Types.{Table, data_of}

infixl 20 ◌>>=◌ ◌>>◌
-- a call of one of the five tracked resolution functions: its kind, its module, its record, and its scope or context
pub data Demand : Type 0 where
  -- `resolve_ast_type`: module, T, scope
  type : ℕ → ℕ → ℕ → Demand
  -- `definition_semantic_type`: module, D
  definition : ℕ → ℕ → Demand
  -- `expression_semantic_type`: module, E, context
  expression : ℕ → ℕ → Option ℕ → Demand
  -- `struct_semantic_data`: module, D
  struct : ℕ → ℕ → Demand
  -- `function_semantic_signature`: module, D
  signature : ℕ → ℕ → Demand

-- what a demand answers: the number of a type. A finished struct or signature is its struct or function type; `none` is the Rust's `None`,
-- for a definition of another kind and for an absent one
abbrev pub Answer : Demand → Type 0
Answer (Demand.type m t s) = ℕ
Answer (Demand.definition m d) = ℕ
Answer (Demand.expression m e context) = ℕ
Answer (Demand.struct m d) = Option ℕ
Answer (Demand.signature m d) = Option ℕ

-- what the program of an answer line answers: the type of a number, a word, or that there is no line
pub data Said : Type 0 where
  type : ℕ → Said
  word : Text → Said
  nothing : Said

pub data Program (A : Type 0) : Type 0 where
  -- the answer
  done : A → Program A
  -- the end of the question, with the refusal's number
  refuse : ℕ → Program A
  -- the answer of a demand, and what follows
  ask : (d : Demand) → (Answer d → Program A) → Program A
  -- `TypeId::new`: the number of a type, which enters the table if it is new
  enter : TypeData → (ℕ → Program A) → Program A
  -- the table as it stands
  look : (Table → Program A) → Program A

-- one program, then another with its answer; for `do`
unfoldable pub ◌>>=◌ : {A B : Type 0} → Program A → (A → Program B) → Program B
done a >>= f = f a
refuse n >>= f = refuse n
ask d k >>= f = ask d (λ a. k a >>= f)
enter row k >>= f = enter row (λ t. k t >>= f)
look k >>= f = look (λ table. k table >>= f)

abbrev pub ◌>>◌ : {A B : Type 0} → Program A → Program B → Program B
p >> q = p >>= (λ a. q)

-- Choices between programs, as `if◌then◌else◌` and `let_some` of Common. They stay shut: the laws of a run are stated over them
infix 5 when◌then◌else◌
unfoldable pub when◌then◌else◌ : {A : Type 0} → Bool → Program A → Program A → Program A
when true then p else q = p
when false then p else q = q

unfoldable pub let_some : {A B : Type 0} → Option A → Program B → (A → Program B) → Program B
let_some None p f = p
let_some (Some a) p f = f a

-- 6: a missing child where the Rust unwraps
abbrev pub missing_child : {A : Type 0} → Program A
missing_child = refuse refusal_child

-- `TypeId::new(db, row)`
abbrev pub type_id_new : TypeData → Program ℕ
type_id_new row = enter row done

-- `t.data(db)`
abbrev pub type_data : ℕ → Program TypeData
type_data t = look (λ table. done (data_of table t))

abbrev pub resolve_ast_type : ℕ → ℕ → ℕ → Program ℕ
resolve_ast_type m t s = ask (Demand.type m t s) done

abbrev pub definition_semantic_type : ℕ → ℕ → Program ℕ
definition_semantic_type m d = ask (Demand.definition m d) done

abbrev pub expression_semantic_type : ℕ → ℕ → Option ℕ → Program ℕ
expression_semantic_type m e context = ask (Demand.expression m e context) done

abbrev pub struct_semantic_data : ℕ → ℕ → Program (Option ℕ)
struct_semantic_data m d = ask (Demand.struct m d) done

abbrev pub function_semantic_signature : ℕ → ℕ → Program (Option ℕ)
function_semantic_signature m d = ask (Demand.signature m d) done
