-- Lists of numbers that rise: of open queueings, and of tickets by age.
use Rattle.std.specs.Prelude.{◌<◌, ◌==◌}
use Rattle.cmwq_flush.specs.Common.{ℕ, Bool, not, List, AllPairs, filter}

abbrev pub IsBelowNumber : ℕ → ℕ → Type 0
IsBelowNumber n m = n < m

abbrev pub AreRising : List ℕ → Type 0
AreRising ns = AllPairs IsBelowNumber ns

-- the list without this number
abbrev pub is_other_number : ℕ → ℕ → Bool
is_other_number n m = not (m == n)

abbrev pub without : ℕ → List ℕ → List ℕ
without n ns = filter (is_other_number n) ns
