-- What entering a demand promises. Definitions only.
use Rattle.std.specs.Prelude.{◌≡◌, ℕ, ◌+◌, ◌<◌, Bool, cond, List, ◌∷◌, length, drop, ltb, Result, Ok, Err}
use Rattle.resolution.specs.Programs.{Demand}
use Rattle.resolution.specs.Run.{is_open}
use Rattle.refusals.specs.declared.Refusal.{Refusal}
use Rattle.demands.specs.Meaning.{open_demands}

-- 7, `OpenDemand`: "the demand is already open"; 8, `Depth`: "it would be the 257th open"; 7 before 8
abbrev pub entered_by : Bool → ℕ → Result ℕ Refusal
entered_by already depth = cond already (Err Refusal.OpenDemand) (cond (ltb depth 256) (Ok (depth + 1)) (Err Refusal.Depth))

-- the demand is refused, or it is open now, one place deeper. Places that are open stay, and so does all past the 256th
pub record Opens (d : Demand) (depth : ℕ) (places places' : List (List ℕ)) (r : Result ℕ Refusal) : Type 0 where
  pub outcome : r ≡ entered_by (is_open (open_demands depth places) d) depth
  pub kept : open_demands depth places' ≡ open_demands depth places
  pub pushed : (n : ℕ) → r ≡ Ok n → open_demands n places' ≡ d ∷ open_demands depth places
  pub next : (n : ℕ) → r ≡ Ok n → (n ≡ depth + 1) × (depth < 256)
  pub same_length : length places' ≡ length places
  pub rest : drop 256 places' ≡ drop 256 places
