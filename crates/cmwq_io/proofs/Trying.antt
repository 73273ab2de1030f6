-- What a loop that makes a call again knows.
use Rattle.std.proofs.Common.{ℕ, ◌+◌, ◌-◌, ◌^◌, ◌<◌, ◌≤◌}

-- so many calls were made, and all of them failed
pub record HasTried (calls old new : ℕ) : Type 0 where
  pub grown : old ≤ new
  pub within : new ≤ old + calls
  pub more : 0 < calls → old < 2 ^ 64 - 1 → old < new
