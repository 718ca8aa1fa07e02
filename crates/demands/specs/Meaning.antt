-- What the places of the list of open demands hold. Any words hold some demand. Definitions only.
use Rattle.std.specs.Prelude.{ℕ, zero, suc, Bool, true, false, not, List, [], ◌∷◌, get_or, eqb}
use Rattle.std.specs.Prelude.{Option, None, Some}
use Rattle.model.specs.Limits.{max_open_demands}
use Rattle.resolution.specs.Programs.{Demand}
use Rattle.demands.specs.declared.OpenDemand.{OpenDemand}

-- ------------------------------------------------------------------ a demand, and its place

abbrev pub demand_of : OpenDemand → Demand
demand_of (OpenDemand.«Type» m t s) = Demand.type m t s.0
demand_of (OpenDemand.Definition m d) = Demand.definition m d.0
demand_of (OpenDemand.Expression m e context) = Demand.expression m e.0 context
demand_of (OpenDemand.Struct m d) = Demand.struct m d.0
demand_of (OpenDemand.Signature m d) = Demand.signature m d.0

abbrev pub zero_place : List ℕ
zero_place = 0 ∷ 0 ∷ 0 ∷ 0 ∷ 0 ∷ []

-- five words: the kind, the module, the record, whether there is a context, and the scope or context
abbrev pub place_of : OpenDemand → List ℕ
place_of (OpenDemand.«Type» m t s) = 0 ∷ m ∷ t ∷ 0 ∷ s.0 ∷ []
place_of (OpenDemand.Definition m d) = 1 ∷ m ∷ d.0 ∷ 0 ∷ 0 ∷ []
place_of (OpenDemand.Expression m e None) = 2 ∷ m ∷ e.0 ∷ 0 ∷ 0 ∷ []
place_of (OpenDemand.Expression m e (Some t)) = 2 ∷ m ∷ e.0 ∷ 1 ∷ t ∷ []
place_of (OpenDemand.Struct m d) = 3 ∷ m ∷ d.0 ∷ 0 ∷ 0 ∷ []
place_of (OpenDemand.Signature m d) = 4 ∷ m ∷ d.0 ∷ 0 ∷ 0 ∷ []

-- ------------------------------------------------------------------ the demand that a place stands for

-- a context that may be missing
abbrev pub context_by : Bool → ℕ → Option ℕ
context_by true t = Some t
context_by false t = None

-- by the kind; the scope and the context stand in the same word, and every kind above a signature's is a signature's
abbrev pub demand_by : ℕ → ℕ → ℕ → Option ℕ → ℕ → Demand
demand_by zero m n context scope = Demand.type m n scope
demand_by (suc zero) m n context scope = Demand.definition m n
demand_by (suc (suc zero)) m n context scope = Demand.expression m n context
demand_by (suc (suc (suc zero))) m n context scope = Demand.struct m n
demand_by (suc (suc (suc (suc k)))) m n context scope = Demand.signature m n

abbrev pub place_demand : List ℕ → Demand
place_demand place =
    demand_by
    (get_or place 0 0)
    (get_or place 1 0)
    (get_or place 2 0)
    (context_by (not (eqb (get_or place 3 0) 0)) (get_or place 4 0))
    (get_or place 4 0)

-- past the end, the demand of a place of zeros
unfoldable pub place_at : List (List ℕ) → ℕ → Demand
place_at places i = place_demand (get_or places i [])

-- ------------------------------------------------------------------ the list

-- the demands of the first places, the last one opened first
unfoldable pub open_demands : ℕ → List (List ℕ) → List Demand
open_demands zero places = []
open_demands (suc n) places = place_at places n ∷ open_demands n places

-- so many places at the start, or all where there are fewer, are zero; the rest stays
unfoldable pub cleared : ℕ → List (List ℕ) → List (List ℕ)
cleared zero places = places
cleared (suc n) [] = []
cleared (suc n) (place ∷ places) = zero_place ∷ cleared n places

abbrev pub cleared_places : List (List ℕ) → List (List ℕ)
cleared_places places = cleared max_open_demands places
