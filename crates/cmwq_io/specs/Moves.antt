-- What moves out of a source and into a sink, where their bytes are known.
use Rattle.std.specs.Prelude.{◌<◌, ◌≤◌}
use Rattle.cmwq_io.specs.Common.{ℕ, List, length, take, Option, Result, IfOk, Appends}

-- at least one of the bytes, and no more than there are
pub record IsPartLen (n : ℕ) (bytes : List ℕ) : Type 0 where
  pub some : 0 < n
  pub within : n ≤ length bytes

abbrev pub TakesPart : {E : Type 0} → Result ℕ E → List ℕ → Type 0
TakesPart r bytes = IfOk r (λ n. IsPartLen n bytes)

-- known bytes grow by a front of these
abbrev pub AppendsFront : Option (List ℕ) → Option (List ℕ) → List ℕ → Type 0
AppendsFront old new bytes = (n : ℕ) × Appends old new (take n bytes)
