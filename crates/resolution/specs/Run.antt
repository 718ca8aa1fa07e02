-- What a program gives: interning with refusal 9, the list of open demands with refusals 7 and 8, and what is asked. Assumes nothing.
use Rattle.std.specs.Prelude.{ℕ, zero, suc, Bool, true, false, List, [], ◌∷◌, ◌++◌, length}
use Rattle.std.specs.Prelude.{None, Some}
use Rattle.std.specs.Prelude.{if◌then◌else◌}
use Rattle.model.specs.Common.{let_some, any, eq_numbers}
use Rattle.model.specs.Records.{Index}
use Rattle.model.specs.Limits.{max_open_demands}
use Rattle.model.specs.Refusals.{refusal_open, refusal_depth, refusal_types}
use Rattle.resolution.specs.TypeData.{TypeData}
use Rattle.resolution.specs.Types.{Table, first_table, find_type, has_room}
use Rattle.resolution.specs.Asked.{Asked}
use Rattle.resolution.specs.Programs.{Demand, Answer, Said, Program, done, refuse, ask, enter, look}
use Rattle.resolution.specs.TypeResolution.{program, asked_program}

-- an answer with the table after it, or the number of a refusal
pub data Outcome (A : Type 0) : Type 0 where
  answered : A → Table → Outcome A
  refused : ℕ → Outcome A

-- go on after an answer; "the first of 6 to 9 in the Rust's order of evaluation ends it"
unfoldable pub go_on : {A B : Type 0} → Outcome A → (A → Table → Outcome B) → Outcome B
go_on (answered a table) f = f a table
go_on (refused n) f = refused n

-- `TypeId::new`: equal types one number. 9: "a 257th distinct type, or over 2,048 items held for tuples, fields and parameters"
unfoldable pub enter_type : TypeData → Table → Outcome ℕ
enter_type row table =
    let_some
    (find_type table row)
    (if has_room table row then answered (length table) (table ++ (row ∷ [])) else refused refusal_types)
    λ t. answered t table

-- a program, where `handler` answers its demands
unfoldable pub run : {A : Type 0} → ((d : Demand) → Table → Outcome (Answer d)) → Program A → Table → Outcome A
run handler (done a) table = answered a table
run handler (refuse n) table = refused n
run handler (ask d k) table = go_on (handler d table) (λ a. run handler (k a))
run handler (enter row k) table = go_on (enter_type row table) (λ t. run handler (k t))
run handler (look k) table = run handler (k table) table

-- ------------------------------------------------------------------ open demands

-- kind, module, record, and scope or context
unfoldable pub demand_key : Demand → List ℕ
demand_key (Demand.type m t s) = 0 ∷ m ∷ t ∷ s ∷ []
demand_key (Demand.definition m d) = 1 ∷ m ∷ d ∷ []
demand_key (Demand.expression m e None) = 2 ∷ m ∷ e ∷ []
demand_key (Demand.expression m e (Some t)) = 2 ∷ m ∷ e ∷ t ∷ []
demand_key (Demand.struct m d) = 3 ∷ m ∷ d ∷ []
demand_key (Demand.signature m d) = 4 ∷ m ∷ d ∷ []

-- "same kind, record, module, and context or scope"
unfoldable pub eq_demand : Demand → Demand → Bool
eq_demand a b = eq_numbers (demand_key a) (demand_key b)

unfoldable pub is_open : List Demand → Demand → Bool
is_open open_demands d = any (eq_demand d) open_demands

-- A demand with so many free places, the index, and the open demands, last opened first.
-- 7: "the demand is already open"; 8: "it would be the 257th open"; 7 before 8
unfoldable pub demand : ℕ → Index → List Demand → (d : Demand) → Table → Outcome (Answer d)
demand zero index open_demands d table = elim (is_open open_demands d) [ true ↦ refused refusal_open | false ↦ refused refusal_depth ]
demand (suc free) index open_demands d table =
    elim (is_open open_demands d) [
      | true ↦ refused refusal_open
      | false ↦ run (λ d'. demand free index (d ∷ open_demands) d') (program index d) table
    ]

-- ------------------------------------------------------------------ what is asked

-- what a line says, with the table that holds its type, or a refusal from 6 to 9. Each starts anew, with no demand open
unfoldable pub resolve_asked : Index → Asked → Outcome Said
resolve_asked index asked =
    run (demand max_open_demands index []) (asked_program index asked) first_table
