-- How calls of a source or a sink went, one after the other: None where a call went well, and else its trouble.
use Rattle.std.specs.Prelude.{◌≡◌, ℕ, ◌≤◌, List, [], ◌∷◌, ◌++◌, replicate, flat_map, All, Option, Some, None, Result}
use Rattle.std.specs.Prelude.{Ok, Err, ◌⊎◌}
use Rattle.cmwq_io.specs.declared.trouble.Trouble.{Trouble}
use Rattle.cmwq_io.specs.declared.trouble.Trouble.TheVariants.{Interrupted, Failed}

abbrev pub outcome_of : {T : Type 0} → Result T Trouble → Option Trouble
outcome_of (Ok x) = None
outcome_of (Err trouble) = Some trouble

-- so many interruptions in a row
abbrev pub interruptions : ℕ → List (Option Trouble)
interruptions times = replicate times (Some Interrupted)

-- a call that was interrupted so many times in a row, and then went well
abbrev pub made_after : ℕ → List (Option Trouble)
made_after times = interruptions times ++ None ∷ []

-- calls that were made again where they were interrupted, each at most a thousand times, until all went well
pub record IsAllMade (outcomes : List (Option Trouble)) : Type 0 where
  pub times : List ℕ
  pub few : All (λ n. n ≤ 1000) times
  pub calls : outcomes ≡ flat_map made_after times

-- a call that failed after at most a thousand interruptions in a row, or was interrupted 1,001 times in a row
abbrev pub IsGivenUp : List (Option Trouble) → Type 0
IsGivenUp outcomes =
    ((times : ℕ) × (times ≤ 1000) × (outcomes ≡ interruptions times ++ Some Failed ∷ []))
    ⊎ ((times : ℕ) × (times ≡ 1001) × (outcomes ≡ interruptions times))

-- calls that went well as above, and then one that was given up, after which none was made
pub record EndsGivenUp (outcomes : List (Option Trouble)) : Type 0 where
  pub made : List (Option Trouble)
  pub given_up : List (Option Trouble)
  pub well : IsAllMade made
  pub ends : IsGivenUp given_up
  pub calls : outcomes ≡ made ++ given_up

-- the calls made since have this form
abbrev pub GoesOnBy : (List (Option Trouble) → Type 0) → List (Option Trouble) → List (Option Trouble) → Type 0
GoesOnBy Form old new = (calls : List (Option Trouble)) × (new ≡ old ++ calls) × Form calls

-- what goes well ends with a call that went well; what ends with a fault ends with the call that was given up
abbrev pub EndsAtFault : {T E : Type 0} → List (Option Trouble) → List (Option Trouble) → Result T E → Type 0
EndsAtFault old new (Ok x) = GoesOnBy IsAllMade old new
EndsAtFault old new (Err e) = GoesOnBy EndsGivenUp old new
