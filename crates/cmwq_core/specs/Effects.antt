-- What an entry does, in the pieces in which it is found.
use Rattle.std.specs.Prelude.{◌≡◌, ◌+◌, ◌*◌, ◌<◌}
use Rattle.cmwq_core.specs.Common.{ℕ, Bool, false, is_some, List, Option, Some, None, Who, Caller, Worker, Reply}
use Rattle.cmwq_core.specs.Common.{Queueing, Entry, next, number_started, number_finished, gives_ticket, is_done}
use Rattle.cmwq_core.specs.Common.{Layout, item_of, one, is_slept, is_woke, is_frozen_now, is_thawed_now}
use Rattle.cmwq_model.specs.declared.reply.Reply.TheVariants as reply

-- of what the caller runs and the item's unstarted queueing, the one that the reply ends
abbrev pub ended_from : Reply → Option Queueing → Option Queueing → Option Queueing
ended_from (reply.Finished n) run unstarted = run
ended_from (reply.Cancelled n) run unstarted = unstarted
ended_from (reply.TicketCancelled k n) run unstarted = unstarted
ended_from (reply.Again k) run unstarted = unstarted
ended_from (reply.Rebooked d) run unstarted = unstarted
ended_from r run unstarted = None

-- of what is next, the one that the reply starts
abbrev pub started_from : Reply → Option Queueing → Option Queueing
started_from (reply.Started n) next = next
started_from (reply.StartedEnlist n x) next = next
started_from r next = None

-- the item of the entry is one that there is
abbrev pub IsInside : Layout → Entry → Type 0
IsInside s e = (i : ℕ) → item_of e ≡ Some i → i < s.items

abbrev pub next_for : Layout → List Entry → Who → Option Queueing
next_for s past (Worker w) = next s past w.pool
next_for s past (Caller c) = None

-- it ends a queueing that hasn't started
abbrev pub ends_early : Reply → Option Queueing → Bool
ends_early (reply.Finished n) o = false
ends_early r o = is_some o

-- what the reply alone pays off, and what it takes on
abbrev pub paid_alone : Reply → ℕ
paid_alone r =
    2 * one (is_some (number_started r)) + one (is_some (number_finished r)) + one (is_woke r) + one (is_done r) + one
    (is_thawed_now r)

abbrev pub taken_alone : Reply → ℕ
taken_alone r = one (is_some (number_started r)) + one (is_slept r) + one (gives_ticket r) + one (is_frozen_now r)
