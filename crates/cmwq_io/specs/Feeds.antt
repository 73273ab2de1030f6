-- The byte that ends a line, and where it stands.
use Rattle.std.specs.Prelude.{ℕ, Bool, ◌==◌, List, take, position, Option, is_some}

abbrev pub is_feed : ℕ → Bool
is_feed byte = byte == 10

abbrev pub has_feed : List ℕ → Bool
has_feed bytes = is_some (position is_feed bytes)

-- where the first line feed is, if it stands among the first 121 bytes
abbrev pub near_feed : List ℕ → Option ℕ
near_feed bytes = position is_feed (take 121 bytes)
