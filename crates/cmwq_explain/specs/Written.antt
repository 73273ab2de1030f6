-- What an explanation writes.
use Rattle.std.specs.Prelude.{ℕ, ◌≤◌, List, Option, length}
use Rattle.std.specs.Io.KnownBytes.{Appends}

-- at most 407 bytes are written: a line of at most 400, or a front of it
abbrev pub WritesLittle : Option (List ℕ) → Option (List ℕ) → Type 0
WritesLittle old new = (bytes : List ℕ) × (length bytes ≤ 407) × Appends old new bytes
