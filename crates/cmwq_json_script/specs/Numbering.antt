-- Names, numbered in the order of their first use. There are at most 16.
use Rattle.cmwq_text.specs.Words.{◌>>=◌}
use Rattle.std.specs.Prelude.{if◌then◌else◌, ◌∷◌, ◌++◌}
use Rattle.cmwq_json_script.specs.Common.{ℕ, List, [], length, Option, Some, None, nat_lt, Data, name_said}
use Rattle.cmwq_json_script.specs.Common.{number_of_name}

abbrev pub numbered : List (List ℕ) → List ℕ → Option ℕ → Option (ℕ × List (List ℕ))
numbered names name (Some n) = Some (n, names)
numbered names name None = if nat_lt (length names) 16 then Some (length names, names ++ name ∷ []) else None

-- the number of the name that is said, and the names that there are then
abbrev pub number_said : List (List ℕ) → Data → Option (ℕ × List (List ℕ))
number_said names d = do
  name ← name_said d
  numbered names name (number_of_name names name)
