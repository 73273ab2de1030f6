-- What is left of a hub's history at its end.
use Rattle.std.specs.Prelude.{◌≡◌, ◌≤◌}
use Rattle.cmwq_rt.specs.Common.{ℕ, List, drop, length, slice_get, Some, Entry, Layout, IsLegal, past_of, View}
use Rattle.cmwq_rt.specs.Common.{IsStranger, AllSettle, RunFault}

-- there is a legal history that all callers and workers see, and these are its entries after the first so many
pub record EndsAs (s : Layout) (c c' w w' : List View) (first : ℕ) (rest : List Entry) : Type 0 where
  pub history : List Entry
  pub legal : IsLegal s (past_of history)
  pub within : first ≤ length history
  pub rest_is : rest ≡ drop first history
  pub callers : AllSettle history c c'
  pub workers : AllSettle history w w'

-- one of those handed in is another hub's
abbrev pub OneIsStranger : List View → RunFault → Type 0
OneIsStranger handed f = (k : ℕ) × (v : View) × (slice_get handed k ≡ Some v) × IsStranger v f
