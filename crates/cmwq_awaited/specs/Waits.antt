-- What a wait is for, and what it still waits for.
use Rattle.std.specs.Prelude.{ℕ, List, Option, Some, None, find, slice_get, option_and_then, option_map}
use Rattle.cmwq_model.specs.Calls.{item_of}
use Rattle.cmwq_model.specs.Prelude.{unended_tickets, waits_for}
use Rattle.cmwq_model.specs.declared.call.Call.{Call}
use Rattle.cmwq_model.specs.declared.call.Call.TheVariants as call
use Rattle.cmwq_model.specs.declared.entry.Entry.{Entry}
use Rattle.cmwq_model.specs.declared.record.Ticket.{Ticket}
use Rattle.cmwq_state.specs.History.{ticket_has_number}
use Rattle.cmwq_awaited.specs.declared.waits.Goal.{Goal}
use Rattle.cmwq_awaited.specs.declared.waits.Goal.TheVariants as goal

abbrev pub goal_of : Call → Option Goal
goal_of (call.Flush q) = Some (goal.Flush q)
goal_of (call.Drain q) = Some (goal.Drain q)
goal_of (call.Destroy q) = Some (goal.Destroy q)
goal_of (call.FlushItem i) = Some (goal.FlushItem i)
goal_of (call.FlushDelayed i) = Some (goal.FlushItem i)
goal_of (call.CancelSync i) = Some (goal.CancelSync i)
goal_of c = None

-- the number of a queueing, and its item, which the entry of this number has
abbrev pub of_entry : List Entry → ℕ → Option (ℕ × ℕ)
of_entry entries n = option_map (λ (i : ℕ). (n, i)) (option_and_then item_of (slice_get entries n))

-- the least queueing that an unended ticket waits for, and its item
abbrev pub waited_for : List Entry → List Entry → ℕ → Option (ℕ × ℕ)
waited_for past entries number =
    option_and_then (λ (t : Ticket). option_and_then (of_entry entries) (waits_for past t.number t.call))
    (find (ticket_has_number number) (unended_tickets past))
