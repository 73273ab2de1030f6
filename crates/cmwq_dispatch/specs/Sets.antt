-- A set of numbers below 64 in a word.
use Rattle.std.specs.Prelude.{ℕ, Bool, ◌==◌}
use Rattle.std.specs.Int.{bit_at}

abbrev pub has : ℕ → ℕ → Bool
has word x = bit_at word x == 1
