-- Examples of AllSleep. In two small stands all its premises hold, and a caller waits for ever. And each premise is
-- needed: where only that one does not hold, somebody may move.
use Rattle.std.specs.Prelude.{◌≡◌, ◌∷◌, ℕ, Bool, true, false, if◌then◌else◌, List, [], Option, Some, None}
use Rattle.std.specs.Prelude.{map, slice_get}
use Rattle.cmwq_model.specs.Prelude.{IsLegal, Layout}
use Rattle.cmwq_model.specs.declared.call.Call.{Call}
use Rattle.cmwq_model.specs.declared.entry.Entry.{Entry}
use Rattle.cmwq_model.specs.declared.record.Ticket.{Ticket}
use Rattle.cmwq_model.specs.declared.reply.Reply.TheVariants as reply
use Rattle.cmwq_model_examples.specs.Words.{caller, entry, finish, flush, freeze, normal, queue, sleep, system, take}
use Rattle.cmwq_model_examples.specs.Words.{wq, wqf}
use Rattle.cmwq_json_script.specs.declared.action.Action.{Action}
use Rattle.cmwq_json_script.specs.declared.action.Action.TheVariants as action
use Rattle.cmwq_json_script.specs.declared.action.Holder.TheVariants as holders
use Rattle.cmwq_core.specs.History.{History, past_in}
use Rattle.cmwq_dispatch.specs.Dispatched.{Dispatched, Stands, dispatched_of, past_now}
use Rattle.cmwq_dispatch.specs.declared.resting.RestingWorkers.{RestingWorkers}
use Rattle.cmwq_play.specs.Searches.{GetsStuck, after}
use Rattle.cmwq_play.specs.Stands.{Stand, may}
use Rattle.cmwq_play.specs.declared.place.CallerAt.{CallerAt}
use Rattle.cmwq_play.specs.declared.place.Doing.{Doing}
use Rattle.cmwq_play.specs.declared.place.Doing.TheVariants.{Acts, AtGate, AtLock, Waits}
use Rattle.cmwq_play.specs.declared.place.RunAt.{RunAt}
use Rattle.cmwq_play.specs.declared.place.Ticketed.{Ticketed}
use Rattle.cmwq_play.specs.declared.place.WorkerAt.{WorkerAt}
use Rattle.cmwq_dispatch.specs.Dispatched.{IdleWorkersRest}
use Rattle.cmwq_rest_laws.specs.Asleep.{AllSleep, CallerSleeps, WorkerSleeps}

-- ---- a small hub, and a small script

-- one CPU with one worker in each of its two pools, two callers, two items, and two queues that may be frozen
abbrev pub small : Layout
small = system 1 1 2 2 100 (wqf 1 ∷ wqf 1 ∷ [])

-- the entries, with the oldest first
abbrev pub history_of : List Entry → History
history_of entries = record { layout = small; room = 100; entries = entries }

-- the only worker of a pool rests, or not
abbrev pub pool_where : Bool → RestingWorkers
pool_where rests =
    record { enlisted = record { bits = if rests then 1 else 0 }; reserve = record { bits = 0 }; named = None }

-- What is told of a hub: its entries; whether it has failed; for which tickets callers sleep; and whether its two
-- workers rest, that of the normal pool and that of the pool of high priority. Its second caller is lent to runs.
abbrev pub hub_where : List Entry → Bool → List Ticket → Bool → Bool → Dispatched
hub_where entries failed tickets normal_rests high_rests =
    dispatched_of (history_of entries) false failed false 0 1
    (record { tickets = tickets; pools = pool_where normal_rests ∷ pool_where high_rests ∷ [] })

abbrev pub run_doing : Doing → RunAt
run_doing doing = record { item = record { 0 = 0 }; next = 0; doing = doing }

abbrev pub worker_where : Bool → Option RunAt → WorkerAt
worker_where high run =
    record { id = record { pool = record { cpu = record { 0 = 0 }; high = high }; index = 0 }; run = run }

abbrev pub calls : List Call → List Action
calls = map action.Call

-- What is told of a stand: its entries; the actions of its only caller, how many of them are done, and for what it
-- waits; the run of the worker of the normal pool; and whether the only gate is open. Nobody holds the only lock.
abbrev pub stand_where : List Entry → List Action → ℕ → Option Ticketed → Option RunAt → Bool → Stand
stand_where entries actions done wait run is_open = record {
  scripts = actions ∷ [];
  does = [];
  history = history_of entries;
  callers = record { id = record { 0 = 0 }; next = done; wait = wait } ∷ [];
  workers = worker_where false run ∷ worker_where true None ∷ [];
  gates = is_open ∷ [];
  locks = None ∷ [];
  free = [];
}

abbrev pub ticket_where : ℕ → Call → ℕ → Ticket
ticket_where c call number = record { caller = record { 0 = c }; call = call; number = number }

abbrev pub wait_where : Call → ℕ → Ticketed
wait_where call number = record { ticket = number; call = call }

-- ---- all sleep, and one waits for ever

-- a caller freezes a queue, queues an item there, and flushes the queue
abbrev pub freezes_and_flushes : List Action
freezes_and_flushes = calls (freeze ∷ queue 0 0 0 ∷ flush 0 ∷ [])

abbrev pub frozen : List Entry
frozen =
    entry (caller 0) 0 freeze reply.Frozen ∷ entry (caller 0) 1 (queue 0 0 0) (reply.Yes 1) ∷
    entry (caller 0) 2 (flush 0) (reply.Ticket 2) ∷ []

abbrev pub frozen_hub : Dispatched
frozen_hub = hub_where frozen false (ticket_where 0 (flush 0) 2 ∷ []) true true

-- the stand before its first move, and where it waits
abbrev pub freezing : Stand
freezing = stand_where [] freezes_and_flushes 0 None None false

abbrev pub frozen_stand : Stand
frozen_stand = stand_where frozen freezes_and_flushes 3 (Some (wait_where (flush 0) 2)) None false

-- a caller takes a lock, and takes it again
abbrev pub locks_twice : List Action
locks_twice = action.Lock 0 ∷ action.Lock 0 ∷ []

abbrev pub empty_hub : Dispatched
empty_hub = hub_where [] false [] true true

abbrev pub locking : Stand
locking = stand_where [] locks_twice 0 None None false

abbrev pub locked_stand : Stand
locked_stand =
    record (stand_where [] locks_twice 1 None None false) { locks = Some (holders.Caller (record { 0 = 0 })) ∷ [] }

-- Moves lead to where all sleep, and where something is left to do.
pub record SleepForEver (start : Stand) (schedule : List ℕ) (d : Dispatched) (p : Stand) : Type 0 where
  pub leads : after start schedule ≡ p
  pub asleep : AllSleep d p
  pub stuck : GetsStuck start schedule

-- One caller flushes a queue that it has frozen itself, and another takes a lock that it holds itself. Each waits for
-- ever.
pub record SomeSleepForEver : Type 0 where
  pub in_hub : SleepForEver freezing (0 ∷ 0 ∷ 0 ∷ []) frozen_hub frozen_stand
  pub at_lock : SleepForEver locking (0 ∷ []) empty_hub locked_stand

-- ---- without one of the premises

pub data Premise : Type 0 where
  legal : Premise
  stands : Premise
  lives : Premise
  idle : Premise
  layout : Premise
  past : Premise
  callers : Premise
  workers : Premise

-- the premises of AllSleep
abbrev pub Holds : Premise → Dispatched → Stand → Type 0
Holds legal d p = IsLegal d.history.layout (past_now d)
Holds stands d p = Stands d
Holds lives d p = d.failed ≡ false
Holds idle d p = IdleWorkersRest d
Holds layout d p = p.history.layout ≡ d.history.layout
Holds past d p = past_in p.history ≡ past_now d
Holds callers d p = (k : ℕ) (at : CallerAt) → slice_get p.callers k ≡ Some at → CallerSleeps d p k at
Holds workers d p = (k : ℕ) (at : WorkerAt) → slice_get p.workers k ≡ Some at → WorkerSleeps d p at

-- All but this one hold, and yet somebody may move.
pub record IsNeeded (q : Premise) (d : Dispatched) (p : Stand) (party : ℕ) : Type 0 where
  pub others : (r : Premise) → (r ≡ q → ⊥) → Holds r d p
  pub moves : may p party ≡ true

-- a queue is flushed while it is empty, so the wait is ready
abbrev pub flushed : List Entry
flushed = entry (caller 0) 0 (flush 0) (reply.Ticket 0) ∷ []

-- an item is queued; its run begins; the run sleeps, while the caller that is lent to it flushes the other queue
abbrev pub queued : List Entry
queued = entry (caller 0) 0 (queue 0 0 0) (reply.Yes 0) ∷ []

abbrev pub running : List Entry
running =
    entry (caller 0) 0 (queue 0 0 0) (reply.Yes 0) ∷ entry (normal 0 0) 0 take (reply.Started 0) ∷ []

abbrev pub waiting : List Entry
waiting =
    entry (caller 0) 0 (queue 0 0 0) (reply.Yes 0) ∷ entry (normal 0 0) 0 take (reply.Started 0) ∷
    entry (normal 0 0) 1 sleep reply.Slept ∷ entry (caller 1) 0 (flush 1) (reply.Ticket 3) ∷ []

-- a worker starts the item, enlists one that the layout does not have, and finishes; then the item is queued again
abbrev pub made_up : List Entry
made_up =
    entry (caller 0) 0 (queue 0 0 0) (reply.Yes 0) ∷ entry (normal 0 0) 0 take (reply.StartedEnlist 0 5) ∷
    entry (normal 0 0) 1 finish (reply.Finished 0) ∷ entry (caller 0) 1 (queue 0 0 0) (reply.Yes 3) ∷ []

-- while an item runs another is queued behind it
abbrev pub queued_behind : List Entry
queued_behind =
    entry (caller 0) 0 (queue 0 0 0) (reply.Yes 0) ∷ entry (normal 0 0) 0 take (reply.Started 0) ∷
    entry (caller 0) 1 (queue 1 0 0) (reply.Yes 2) ∷ []

-- where the caller waits for its flush
abbrev pub flusher : Stand
flusher = stand_where flushed (calls (flush 0 ∷ [])) 1 (Some (wait_where (flush 0) 0)) None false

-- where it has queued an item, and nothing runs
abbrev pub queuer : List Entry → Stand
queuer entries = stand_where entries (calls (queue 0 0 0 ∷ [])) 1 None None false

-- where this is the next action of the caller, while the gate is open and the lock is free
abbrev pub about_to : Action → Stand
about_to next = stand_where [] (next ∷ []) 0 None None true

-- where it has queued an item whose run does this, while the gate is open and the lock is free
abbrev pub runner : List Entry → Doing → Stand
runner entries doing = stand_where entries (calls (queue 0 0 0 ∷ [])) 1 None (Some (run_doing doing)) true

-- where a run is at a gate that is shut, in another layout than the hub has: the first queue is wider, and of high
-- priority
abbrev pub wider : Layout
wider = system 1 1 2 2 100 (wq 2 true false ∷ wqf 1 ∷ [])

abbrev pub shut_out : Stand
shut_out =
    stand_where queued_behind (calls (queue 0 0 0 ∷ queue 1 0 0 ∷ [])) 2 None (Some (run_doing (AtGate 0 false))) false

abbrev pub elsewhere : Stand
elsewhere = record shut_out { history = record { layout = wider; room = 100; entries = queued_behind } }

pub record PremisesAreNeeded : Type 0 where
  -- the history is made up: a worker that is not of the layout is idle, and does not rest
  pub made_up : IsNeeded legal (hub_where made_up false [] true true) (queuer made_up) 1
  -- a wait is ready for which a caller is still registered
  pub forgotten : IsNeeded stands (hub_where flushed false (ticket_where 0 (flush 0) 0 ∷ []) true true) flusher 0
  -- the hub has failed, so nobody rests, and something is queued
  pub failed : IsNeeded lives (hub_where queued true [] false false) (queuer queued) 1
  -- a worker is about to start what is queued
  pub awake : IsNeeded idle (hub_where queued false [] false true) (queuer queued) 1
  -- the hub has another layout than the script, or has not seen what is queued
  pub other_layout : IsNeeded layout (hub_where queued_behind false [] false true) elsewhere 2
  pub unseen : IsNeeded past empty_hub (queuer queued) 1
  -- a caller waits and is not registered; or it has a call left, or an open gate or a free lock is next
  pub unregistered : IsNeeded callers (hub_where flushed false [] true true) flusher 0
  pub unfinished : IsNeeded callers empty_hub (about_to (action.Call (flush 0))) 0
  pub before_open_gate : IsNeeded callers empty_hub (about_to (action.SleepAt 0)) 0
  pub before_free_lock : IsNeeded callers empty_hub (about_to (action.Lock 0)) 0
  -- a run acts; or its gate is open, or its lock is free; or the caller that is lent to it is not registered
  pub acting : IsNeeded workers (hub_where running false [] false true) (runner running Acts) 1
  pub at_open_gate : IsNeeded workers (hub_where waiting false [] false true) (runner waiting (AtGate 0 true)) 1
  pub at_free_lock : IsNeeded workers (hub_where waiting false [] false true) (runner waiting (AtLock 0 true)) 1
  pub lent : IsNeeded workers (hub_where waiting false [] false true)
      (runner waiting (Waits 1 (wait_where (flush 1) 3))) 1
