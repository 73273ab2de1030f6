-- Names, and members that each have one of their own.
use Rattle.std.specs.Prelude.{◌&&◌, ◌||◌, ◌==◌, if◌then◌else◌, ◌∷◌, ◌++◌}
use Rattle.cmwq_json.specs.Common.{ℕ, Bool, not, List, [], length, map, position, Option, Some, None, option_and_then}
use Rattle.cmwq_json.specs.Common.{nat_le, nat_lt, bytes_eq, list_any, list_all, Data, as_str}

abbrev pub is_in_range : ℕ → ℕ → ℕ → Bool
is_in_range low high n = nat_le low n && nat_le n high

-- A to Z, a to z, 0 to 9, and _
abbrev pub is_name_byte : ℕ → Bool
is_name_byte b = is_in_range 65 90 b || is_in_range 97 122 b || is_in_range 48 57 b || b == 95

abbrev pub is_name : List ℕ → Bool
is_name name = is_in_range 1 16 (length name) && list_all is_name_byte name

abbrev pub name_said : Data → Option (List ℕ)
name_said d = option_and_then (λ name. if is_name name then Some name else None) (as_str d)

-- members in the order of their places: their names, and what else each of them is
pub record Named (X : Type 0) : Type 0 where
  pub names : List (List ℕ)
  pub values : List X

abbrev pub nobody : {X : Type 0} → Named X
nobody = record { names = []; values = [] }

abbrev pub is_taken : List (List ℕ) → List ℕ → Bool
is_taken names name = list_any (bytes_eq name) names

-- the number of a name is its place
abbrev pub number_of_name : List (List ℕ) → List ℕ → Option ℕ
number_of_name names name = position (bytes_eq name) names

-- one more, where there is room for it among so many and nobody before has its name
abbrev pub add_named : {X : Type 0} → ℕ → Named X → List ℕ × X → Option (Named X)
add_named most before x =
    if nat_lt (length before.names) most && not (is_taken before.names x.0)
    then Some (record { names = before.names ++ x.0 ∷ []; values = before.values ++ x.1 ∷ [] })
    else None

abbrev pub map_named : {X Y : Type 0} → (X → Y) → Named X → Named Y
map_named f m = record { names = m.names; values = map f m.values }
