-- What callers see of a tail: the whole list, and how much of it was given away.
use Rattle.std.specs.Prelude.{◌≡◌, ◌≤◌, ◌+◌, ℕ, List, [], ◌∷◌, ◌++◌, length, drop}

pub record Tailed (T : Type 0) : Type 0 where
  pub all : List T
  pub given : ℕ
  -- as many items may be kept
  pub room : ℕ

abbrev pub kept_of : {T : Type 0} → Tailed T → List T
kept_of t = drop t.given t.all

abbrev pub with_item : {T : Type 0} → Tailed T → T → Tailed T
with_item t x = record t { all = t.all ++ x ∷ [] }

-- all is given away
abbrev pub all_given : {T : Type 0} → Tailed T → Tailed T
all_given t = record t { given = length t.all }

-- what is kept is the rest of the list
pub record IsTail {T : Type 0} (all : List T) (given room : ℕ) (kept : List T) (capacity : ℕ) : Type 0 where
  pub rest : kept ≡ drop given all
  pub within : given ≤ length all
  pub few : length all ≤ room + given
  pub reserved : room ≤ capacity
  pub most : length all ≤ 4611686018427387904
