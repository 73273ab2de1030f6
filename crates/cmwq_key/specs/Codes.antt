-- How numbers stand in a key, and what is told by numbers: whether something is so, and a list.
use Rattle.std.specs.Prelude.{◌/◌, ◌%◌, ℕ, Bool, if◌then◌else◌, List, [], ◌∷◌, ◌++◌, length, nat_lt, Option, Some, None}
use Rattle.std.specs.List.{flat_map}

-- ---- numbers

-- a number that isn't small: a mark, and its parts
abbrev pub large_code : ℕ → List ℕ
large_code n = 65535 ∷ n % 65536 ∷ n / 65536 % 65536 ∷ n / 65536 / 65536 % 65536 ∷ n / 65536 / 65536 / 65536 ∷ []

-- a small one as it is
unfoldable pub code : ℕ → List ℕ
code n = if nat_lt n 65535 then n ∷ [] else large_code n

unfoldable pub codes : List ℕ → List ℕ
codes ns = flat_map code ns

-- ---- what numbers tell

abbrev pub flag : Bool → ℕ
flag is = if is then 1 else 0

abbrev pub told_flag : Bool → List ℕ
told_flag is = flag is ∷ []

-- whether there is one, and which
abbrev pub told_option : {A : Type 0} → (A → List ℕ) → Option A → List ℕ
told_option told None = 0 ∷ []
told_option told (Some x) = 1 ∷ told x

-- how many there are, and each
abbrev pub told_list : {A : Type 0} → (A → List ℕ) → List A → List ℕ
told_list told xs = length xs ∷ flat_map told xs
