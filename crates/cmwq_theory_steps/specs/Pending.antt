-- What an item has that is pending: one unstarted queueing at most, and none while it is booked.
use Rattle.std.specs.Prelude.{◌≡◌, ◌==◌, ◌&&◌}
use Rattle.cmwq_theory_steps.specs.Common.{ℕ, Bool, true, List, filter, None, option_to_list, Entry, Queueing, Layout}
use Rattle.cmwq_theory_steps.specs.Common.{is_booked, still_open, is_unstarted, unstarted_queueing, IsLegal, is_started}

-- of an item's open queueings one at most hasn't started
abbrev pub OneUnstarted : Type 0
OneUnstarted = (s : Layout) (past : List Entry) (i : ℕ) → IsLegal s past
    → filter (is_unstarted past i) (still_open past) ≡ option_to_list (unstarted_queueing past i)

-- an item that is booked has no unstarted queueing
abbrev pub BookedOrUnstarted : Type 0
BookedOrUnstarted = (s : Layout) (past : List Entry) (i : ℕ) → IsLegal s past → is_booked past i ≡ true
    → unstarted_queueing past i ≡ None

-- its run: it has started
abbrev pub is_run_of : List Entry → ℕ → Queueing → Bool
is_run_of past i x = (x.item.0 == i) && is_started past x.number
