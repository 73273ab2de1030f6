-- How the count of troubles of a source or a sink goes on. A count ends at 2^64 - 1, where it stays.
use Rattle.std.specs.Prelude.{◌≡◌, ℕ, ◌+◌, ◌-◌, ◌^◌, ◌<◌, ◌≤◌, Result, Ok, Err}

-- one more trouble
pub record IsOneMore (old new : ℕ) : Type 0 where
  pub below : old < 2 ^ 64 - 1 → new ≡ old + 1
  pub at_end : 2 ^ 64 - 1 ≤ old → new ≡ old

-- one call: one more at Err, and the same at Ok
abbrev pub CountsTrouble : {T E : Type 0} → ℕ → ℕ → Result T E → Type 0
CountsTrouble old new (Ok x) = new ≡ old
CountsTrouble old new (Err e) = IsOneMore old new

-- some calls, of which one or more failed
pub record Rises (old new : ℕ) : Type 0 where
  pub grown : old ≤ new
  pub more : old < 2 ^ 64 - 1 → old < new

-- at most so many calls failed
pub record IsCountWithin (most old new : ℕ) : Type 0 where
  pub grown : old ≤ new
  pub within : new ≤ old + most

-- a call that is made again where it was interrupted, at most a thousand times: one or more calls failed at Err
abbrev pub Tries : {T E : Type 0} → ℕ → ℕ → Result T E → Type 0
Tries old new (Ok x) = IsCountWithin 1000 old new
Tries old new (Err e) = IsCountWithin 1001 old new × Rises old new
