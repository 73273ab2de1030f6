-- How nodes in lists stand for flushes in overflow: list 0 has the nodes that are free, and list q + 1 those of queue
-- q.
use Rattle.std.specs.Prelude.{◌≡◌, ◌<◌, ℕ, Bool, true, List, [], ◌∷◌, Option, map, length, nat_le, find, slice_index}
use Rattle.std.specs.Prelude.{slice_index_or, slice_set}
use Rattle.std.specs.List.{sum_by}
use Rattle.cmwq_list.specs.Lists.{Listed, list_at}
use Rattle.cmwq_flush.specs.Openings.{is_node_listed}

-- for each queue the tickets of its flushes in overflow, by age, and for how many there is room in all
pub record OverflowLists : Type 0 where
  pub room : ℕ
  pub queues : List (List ℕ)

abbrev pub tickets_at : List (List ℕ) → ℕ → List ℕ
tickets_at queues q = slice_index_or queues q []

abbrev pub with_tickets : OverflowLists → ℕ → List ℕ → OverflowLists
with_tickets o q tickets = record o { queues = slice_set o.queues q tickets }

abbrev pub ticket_of_node : List ℕ → ℕ → ℕ
ticket_of_node tickets v = slice_index tickets v

abbrev pub tickets_of_nodes : List ℕ → List ℕ → List ℕ
tickets_of_nodes tickets nodes = map (ticket_of_node tickets) nodes

abbrev pub overflow_of : List (List ℕ) → List ℕ → List (List ℕ)
overflow_of [] tickets = []
overflow_of (free ∷ lists) tickets = map (tickets_of_nodes tickets) lists

-- the first flush of a list whose ticket isn't before this one
abbrev pub is_from : List ℕ → ℕ → ℕ → Bool
is_from tickets t v = nat_le t (ticket_of_node tickets v)

abbrev pub first_from : List (List ℕ) → List ℕ → ℕ → ℕ → Option ℕ
first_from lists tickets l t = find (is_from tickets t) (list_at lists l)

-- each node stands in some list
pub record AreNodes (s : Listed) (tickets : List ℕ) : Type 0 where
  pub free : 0 < length s.lists
  pub many : length tickets ≡ s.items
  pub known : (v : ℕ) → is_node_listed s.lists v ≡ true → v < s.items
  pub all : sum_by length s.lists ≡ s.items
