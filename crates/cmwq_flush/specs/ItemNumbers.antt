-- The open queueings of each item, its run's and its unstarted one's, by their numbers, which rise.
use Rattle.std.specs.Prelude.{ℕ, ◌<◌, Bool, List, [], ◌∷◌, ◌++◌, find, All, Option, slice_index_or, slice_set, nat_le}
use Rattle.cmwq_flush.specs.Numbers.{without}

abbrev pub numbers_open : List (List ℕ) → ℕ → List ℕ
numbers_open opened i = slice_index_or opened i []

abbrev pub numbers_with : List (List ℕ) → ℕ → ℕ → List (List ℕ)
numbers_with opened i n = slice_set opened i (numbers_open opened i ++ n ∷ [])

abbrev pub numbers_without : List (List ℕ) → ℕ → ℕ → List (List ℕ)
numbers_without opened i n = slice_set opened i (without n (numbers_open opened i))

-- a ticket that waits for an item is for its queueings up to the ticket's own number, and for the least of these first
abbrev pub is_up_to : ℕ → ℕ → Bool
is_up_to t n = nat_le n t

abbrev pub item_waits_for : List (List ℕ) → ℕ → ℕ → Option ℕ
item_waits_for opened i t = find (is_up_to t) (numbers_open opened i)

abbrev pub IsItemReady : List (List ℕ) → ℕ → ℕ → Type 0
IsItemReady opened i t = All (λ n. t < n) (numbers_open opened i)
