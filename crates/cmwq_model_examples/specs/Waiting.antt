-- Flush, cancel_sync and drain.
use Rattle.std.specs.Prelude.{false, [], ◌∷◌}
use Rattle.cmwq_model.specs.declared.reply.Reply.TheVariants as reply
use Rattle.cmwq_model_examples.specs.Words.{Example, example, caller, normal, queue, delay, cancel, flush, drain}
use Rattle.cmwq_model_examples.specs.Words.{flush_item, flush_delayed, cancel_sync, end, take, finish, entry, system}
use Rattle.cmwq_model_examples.specs.Words.{wq}

-- A flush waits for what was queued before it, and not for what came later.
abbrev pub flush_waits_for_older : Example
flush_waits_for_older = example (system 1 2 1 3 100 (wq 1 false false ∷ [])) (
    entry (caller 0) 0 (queue 0 0 0) (reply.Yes 0) ∷
    entry (caller 0) 1 (flush 0) (reply.Ticket 1) ∷
    entry (caller 0) 2 (queue 1 0 0) (reply.Yes 2) ∷
    entry (caller 0) 3 (end 1) (reply.Waiting 0) ∷
    entry (normal 0 0) 0 take (reply.StartedEnlist 0 1) ∷
    entry (normal 0 0) 1 finish (reply.Finished 0) ∷
    entry (caller 0) 4 (end 1) reply.Done ∷
    entry (caller 0) 5 (end 1) reply.Misuse ∷
    [])

-- While a cancel_sync waits, the item that queues itself is refused.
abbrev pub cancel_sync_of_self_queueing : Example
cancel_sync_of_self_queueing = example (system 1 2 1 1 100 (wq 2 false false ∷ [])) (
    entry (caller 0) 0 (queue 0 0 0) (reply.Yes 0) ∷
    entry (normal 0 0) 0 take (reply.StartedEnlist 0 1) ∷
    entry (normal 0 0) 1 (queue 0 0 0) (reply.Yes 2) ∷
    entry (caller 0) 1 (cancel_sync 0) (reply.TicketCancelled 3 2) ∷
    entry (normal 0 0) 2 (queue 0 0 0) reply.No ∷
    entry (caller 0) 2 (end 3) (reply.Waiting 0) ∷
    entry (normal 0 0) 3 finish (reply.Finished 0) ∷
    entry (caller 0) 3 (end 3) reply.Done ∷
    entry (caller 0) 4 (queue 0 0 0) (reply.Yes 8) ∷
    [])

-- While a queue drains, only its own runs queue on it.
abbrev pub drain_refuses_others : Example
drain_refuses_others = example (system 1 2 1 3 100 (wq 1 false false ∷ [])) (
    entry (caller 0) 0 (queue 0 0 0) (reply.Yes 0) ∷
    entry (normal 0 0) 0 take (reply.StartedEnlist 0 1) ∷
    entry (caller 0) 1 (drain 0) (reply.Ticket 2) ∷
    entry (caller 0) 2 (queue 1 0 0) reply.Draining ∷
    entry (normal 0 0) 1 (queue 1 0 0) (reply.Yes 4) ∷
    entry (normal 0 0) 2 (delay 2 0 0 3) reply.Draining ∷
    entry (normal 0 0) 3 finish (reply.Finished 0) ∷
    entry (caller 0) 3 (end 2) (reply.Waiting 4) ∷
    entry (normal 0 1) 0 take (reply.Started 4) ∷
    entry (normal 0 1) 1 finish (reply.Finished 4) ∷
    entry (caller 0) 4 (end 2) reply.Done ∷
    entry (caller 0) 5 (queue 1 0 0) (reply.Yes 11) ∷
    [])

-- A flush of a delayed item queues it at once; a cancel_sync without a run is ready at once.
abbrev pub flush_delayed_and_cancel_sync : Example
flush_delayed_and_cancel_sync = example (system 1 2 1 1 100 (wq 1 false false ∷ [])) (
    entry (caller 0) 0 (delay 0 0 0 9) (reply.Booked 9) ∷
    entry (caller 0) 1 (flush_item 0) reply.Idle ∷
    entry (caller 0) 2 (flush_delayed 0) (reply.TicketQueued 2) ∷
    entry (caller 0) 3 (end 2) (reply.Waiting 2) ∷
    entry (normal 0 0) 0 take (reply.StartedEnlist 2 1) ∷
    entry (normal 0 0) 1 finish (reply.Finished 2) ∷
    entry (caller 0) 4 (end 2) reply.Done ∷
    entry (caller 0) 5 (flush_delayed 0) reply.Idle ∷
    entry (caller 0) 6 (cancel 0) reply.No ∷
    entry (caller 0) 7 (delay 0 0 0 1) (reply.Booked 1) ∷
    entry (caller 0) 8 (cancel_sync 0) (reply.TicketUnbooked 10) ∷
    entry (caller 0) 9 (queue 0 0 0) reply.No ∷
    entry (caller 0) 10 (end 10) reply.Done ∷
    entry (caller 0) 11 (cancel_sync 0) (reply.TicketNo 13) ∷
    entry (caller 0) 12 (end 13) reply.Done ∷
    [])
