-- How nodes in lists stand for open queueings: each item has two nodes, 2 * i and 2 * i + 1.
use Rattle.std.specs.Prelude.{◌≡◌, ◌<◌, ◌*◌, ◌+◌, if◌then◌else◌, ◌&&◌, ◌==◌, true, ℕ, Bool, List, [], ◌∷◌, Option, Some}
use Rattle.std.specs.Prelude.{None, map, length, nat_lt, slice_index_or}
use Rattle.std.specs.List.{list_any, range_with_len}
use Rattle.cmwq_list.specs.Lists.{Listed, has_item}
use Rattle.cmwq_flush.specs.declared.openings.Open.{Open}
use Rattle.cmwq_flush.specs.declared.openings.Open.TheVariants.{Nothing, One, Two}
use Rattle.cmwq_flush.specs.declared.openings.Row.{Row}
use Rattle.cmwq_flush.specs.Rows.{no_row}

-- some list has the node
abbrev pub is_node_listed : List (List ℕ) → ℕ → Bool
is_node_listed lists v = list_any (has_item v) lists

abbrev pub node_row : List Row → ℕ → Row
node_row rows v = slice_index_or rows v no_row

abbrev pub rows_of_nodes : List (List ℕ) → List Row → List (List Row)
rows_of_nodes lists rows = map (map (node_row rows)) lists

abbrev pub node_number : List (List ℕ) → List Row → ℕ → Option ℕ
node_number lists rows v = if is_node_listed lists v then Some (node_row rows v).number else None

abbrev pub node_has_number : List (List ℕ) → List Row → ℕ → ℕ → Bool
node_has_number lists rows v n = is_node_listed lists v && ((node_row rows v).number == n)

-- the numbers of an item's two nodes, the older one first
abbrev pub by_age : Option ℕ → Option ℕ → List ℕ
by_age None None = []
by_age (Some a) None = a ∷ []
by_age None (Some b) = b ∷ []
by_age (Some a) (Some b) = if nat_lt a b then a ∷ b ∷ [] else b ∷ a ∷ []

abbrev pub numbers_of_nodes : List (List ℕ) → List Row → ℕ → List ℕ
numbers_of_nodes lists rows i = by_age (node_number lists rows (2 * i)) (node_number lists rows (2 * i + 1))

abbrev pub opened_by : List (List ℕ) → List Row → ℕ → List (List ℕ)
opened_by lists rows items = map (numbers_of_nodes lists rows) (range_with_len 0 items)

abbrev pub numbers_in : Open → List ℕ
numbers_in Nothing = []
numbers_in (One a) = a ∷ []
numbers_in (Two a b) = a ∷ b ∷ []

-- no number stands at two nodes
pub record AreOpenings (items : ℕ) (s : Listed) (rows : List Row) : Type 0 where
  pub nodes : s.items ≡ 2 * items
  pub many : length rows ≡ 2 * items
  pub known : (v : ℕ) → is_node_listed s.lists v ≡ true → v < s.items
  pub once : (v w : ℕ) → is_node_listed s.lists v ≡ true → is_node_listed s.lists w ≡ true
      → (node_row rows v).number ≡ (node_row rows w).number → v ≡ w
