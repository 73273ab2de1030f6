-- Why the laws are said of legal histories: small illegal ones that break each.
use Rattle.std.specs.Prelude.{◌∷◌}
use Rattle.cmwq_theory_laws.specs.Common.{ℕ, false, List, [], WorkerId, Caller, Worker, Call, Reply, Entry, Layout}
use Rattle.cmwq_theory_laws.specs.Common.{past_of}
use Rattle.cmwq_model.specs.declared.call.Call.TheVariants as call
use Rattle.cmwq_model.specs.declared.reply.Reply.TheVariants as reply
use Rattle.cmwq_theory_laws.specs.Headline.{RunsInOneWorker, StartedOnce, StartsEarlier, StartsActive, RunsWithinActive}
use Rattle.cmwq_theory_laws.specs.Headline.{WaitsEndAfter, CancelsSettle}
use Rattle.cmwq_theory_laws.specs.Gone.{GoneAreEmpty}

-- the only caller, and the first two workers of a CPU
abbrev pub by_caller : ℕ → Call → Reply → Entry
by_caller serial call reply = record { who = Caller (record { 0 = 0 }); serial = serial; call = call; reply = reply }

abbrev pub worker_of_pool_zero : ℕ → WorkerId
worker_of_pool_zero x = record { pool = record { cpu = record { 0 = 0 }; high = false }; index = x }

abbrev pub by_worker : ℕ → ℕ → Call → Reply → Entry
by_worker x serial call reply =
    record { who = Worker (worker_of_pool_zero x); serial = serial; call = call; reply = reply }

-- a call to queue the item on the only queue and CPU
abbrev pub queue_zero : ℕ → Call
queue_zero i = call.Queue (record { 0 = i }) (record { 0 = 0 }) (record { 0 = 0 })

-- its max_active is 1
abbrev pub narrow_layout : Layout
narrow_layout =
    record {
      cpus = 1;
      workers = 2;
      callers = 1;
      items = 2;
      room = 100;
      queues =
          record { max_active = 1; high = false; intensive = false; freezable = false } ∷ [];
    }

-- an item that is queued again while it runs is started by a second worker at once
abbrev pub started_beside_its_run : List Entry
started_beside_its_run = past_of (
    by_caller 0 (queue_zero 0) (reply.Yes 0) ∷
    by_worker 0 0 call.Take (reply.StartedEnlist 0 1) ∷
    by_caller 1 (queue_zero 0) (reply.Yes 2) ∷
    by_worker 1 0 call.Take (reply.Started 2) ∷
    [])

abbrev pub RunInTwoWorkers : Type 0
RunInTwoWorkers = RunsInOneWorker started_beside_its_run → ⊥

-- a worker takes again what it has begun
abbrev pub started_again : List Entry
started_again = past_of (
    by_caller 0 (queue_zero 0) (reply.Yes 0) ∷
    by_worker 0 0 call.Take (reply.StartedEnlist 0 1) ∷
    by_worker 0 1 call.Take (reply.Started 0) ∷
    [])

abbrev pub StartedTwice : Type 0
StartedTwice = StartedOnce started_again → ⊥

-- a worker starts what nobody queued
abbrev pub started_unqueued : List Entry
started_unqueued = past_of (by_worker 0 0 call.Take (reply.StartedEnlist 0 1) ∷ [])

abbrev pub StartedUnqueued : Type 0
StartedUnqueued = StartsEarlier started_unqueued → ⊥

-- a second worker starts what isn't active yet
abbrev pub started_inactive : List Entry
started_inactive = past_of (
    by_caller 0 (queue_zero 0) (reply.Yes 0) ∷
    by_caller 1 (queue_zero 1) (reply.Yes 1) ∷
    by_worker 0 0 call.Take (reply.StartedEnlist 0 1) ∷
    by_worker 1 0 call.Take (reply.Started 1) ∷
    [])

abbrev pub RunBeyondMaxActive : Type 0
RunBeyondMaxActive = (StartsActive narrow_layout started_inactive → ⊥)
    × (RunsWithinActive narrow_layout started_inactive → ⊥)

-- a wait that begins after an item was queued ends before the item was started
abbrev pub ended_early : Call → List Entry
ended_early wait = past_of (
    by_caller 0 (queue_zero 0) (reply.Yes 0) ∷
    by_caller 1 wait (reply.Ticket 1) ∷
    by_caller 2 (call.End 1) reply.Done ∷
    [])

abbrev pub EndedEarly : Type 0
EndedEarly =
    (WaitsEndAfter (ended_early (call.Flush (record { 0 = 0 }))) → ⊥)
    × (WaitsEndAfter (ended_early (call.FlushItem (record { 0 = 0 }))) → ⊥)
    × (WaitsEndAfter (ended_early (call.FlushDelayed (record { 0 = 0 }))) → ⊥)
    × (WaitsEndAfter (ended_early (call.Drain (record { 0 = 0 }))) → ⊥)
    × (WaitsEndAfter (ended_early (call.Destroy (record { 0 = 0 }))) → ⊥)

-- a cancel_sync is done while the item is pending, and while it runs
abbrev pub done_while_pending : List Entry
done_while_pending = past_of (
    by_caller 0 (queue_zero 0) (reply.Yes 0) ∷
    by_caller 1 (call.CancelSync (record { 0 = 0 })) (reply.TicketNo 1) ∷
    by_caller 2 (call.End 1) reply.Done ∷
    [])

abbrev pub done_while_it_runs : List Entry
done_while_it_runs = past_of (
    by_caller 0 (queue_zero 0) (reply.Yes 0) ∷
    by_worker 0 0 call.Take (reply.StartedEnlist 0 1) ∷
    by_caller 1 (call.CancelSync (record { 0 = 0 })) (reply.TicketNo 2) ∷
    by_caller 2 (call.End 2) reply.Done ∷
    [])

abbrev pub Unsettled : Type 0
Unsettled = (CancelsSettle done_while_pending → ⊥) × (CancelsSettle done_while_it_runs → ⊥)

-- a destroy is done while something of its queue is open
abbrev pub GoneButOpen : Type 0
GoneButOpen = GoneAreEmpty (ended_early (call.Destroy (record { 0 = 0 }))) → ⊥
