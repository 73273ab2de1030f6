-- Examples of the laws. One history meets all premises of the law that a hub does not hang by itself. And each premise
-- is needed: in a history in which only that one does not hold, something is open. So it is with three other laws.
use Rattle.std.specs.Prelude.{◌++◌, ◌≡◌, ◌∷◌, Contains, IsTrue, List, ℕ, false, true, []}
use Rattle.cmwq_model.specs.Prelude.{IsLegal, Layout, is_layout, past_of, still_open, unended_tickets}
use Rattle.cmwq_model.specs.declared.call.Call.{Call}
use Rattle.cmwq_model.specs.declared.entry.Entry.{Entry}
use Rattle.cmwq_model.specs.declared.id.Who.TheVariants.{Caller}
use Rattle.cmwq_model.specs.declared.record.Ticket.{Ticket}
use Rattle.cmwq_model.specs.declared.reply.Reply.TheVariants as reply
use Rattle.cmwq_model_examples.specs.Words.{caller, cancel, drain, end, entry, finish, flush, flush_item, freeze}
use Rattle.cmwq_model_examples.specs.Words.{normal, queue, retire, set_max, sleep, system, take, wake, wq, wqf}
use Rattle.cmwq_theory_wakes.specs.Readiness.{is_unready}
use Rattle.cmwq_waits.specs.declared.run_wait.RunWait.{RunWait}
use Rattle.cmwq_waits.specs.Allowed.{WaitsWereAllowed}
use Rattle.cmwq_waiting.specs.Deadlocks.{NoneMayTrap}
use Rattle.cmwq_waiting.specs.Rest.{CallersOnlyEnd, EachRunWaits, IsAtRest, NoneActive, NoneRuns, NoneShutDown}
use Rattle.cmwq_waiting.specs.Rest.{NoneStarts}
use Rattle.cmwq_model.specs.Widths.{is_shut_down}
use Rattle.cmwq_model.specs.declared.record.Queueing.{Queueing}
use Rattle.cmwq_waits.specs.Begun.{is_lent, waits_of}
use Rattle.cmwq_waiting.specs.Waits.{LentFollowSleeps, WaitersMakeNone}

-- ---- the premises, of a layout and its entries, with the oldest first; callers from 1 on are lent

pub record Story : Type 0 where
  pub layout : Layout
  pub entries : List Entry

pub data Premise : Type 0 where
  layout : Premise
  legal : Premise
  allowed : Premise
  untrapped : Premise
  rest : Premise
  waits : Premise
  unfrozen : Premise

abbrev pub Holds : Premise → Story → Type 0
Holds layout x = IsTrue (is_layout x.layout)
Holds legal x = IsLegal x.layout (past_of x.entries)
Holds allowed x = WaitsWereAllowed 1 x.layout (past_of x.entries)
Holds untrapped x = NoneMayTrap 1 x.layout (past_of x.entries)
Holds rest x = IsAtRest 1 x.layout (past_of x.entries)
Holds waits x = EachRunWaits 1 (past_of x.entries)
Holds unfrozen x = NoneShutDown x.layout (past_of x.entries)

-- all others hold, and something is open
pub record IsNeeded (p : Premise) (x : Story) : Type 0 where
  pub others : (q : Premise) → (q ≡ p → ⊥) → Holds q x
  pub is_open : still_open (past_of x.entries) ≡ [] → ⊥

-- ---- layouts

-- one CPU with two workers in each pool, two callers, three items, and a queue of this width
abbrev pub one_queue : ℕ → Layout
one_queue width = system 1 2 2 3 100 (wq width false false ∷ [])

-- the same without workers, and with a queue that may be frozen
abbrev pub without_workers : Layout
without_workers = system 1 0 2 3 100 (wq 2 false false ∷ [])

abbrev pub freezable : Layout
freezable = system 1 2 2 3 100 (wqf 1 ∷ [])

-- two CPUs with one worker in each pool, and two queues
abbrev pub two_queues : Layout
two_queues = system 2 1 2 3 100 (wq 1 false false ∷ wq 1 false false ∷ [])

-- ---- a history that meets all premises

-- The run of item 0 waits for item 1,
abbrev pub waiting : List Entry
waiting =
    entry (caller 0) 0 (queue 0 0 0) (reply.Yes 0) ∷ entry (normal 0 0) 0 take (reply.StartedEnlist 0 1)
    ∷ entry (caller 0) 1 (queue 1 0 0) (reply.Yes 2) ∷ entry (normal 0 0) 1 sleep reply.Slept
    ∷ entry (caller 1) 0 (flush_item 1) (reply.Ticket 4) ∷ []

-- which runs and finishes. Then the wait ends, and the run of item 0 finishes too.
abbrev pub running : List Entry
running = entry (normal 0 1) 0 take (reply.Started 2) ∷ entry (normal 0 1) 1 finish (reply.Finished 2) ∷ []

abbrev pub ending : List Entry
ending =
    entry (caller 1) 1 (end 4) reply.Done ∷ entry (normal 0 0) 2 wake reply.Woke
    ∷ entry (normal 0 0) 3 finish (reply.Finished 0) ∷ []

abbrev pub its_wait : RunWait
its_wait = record {
  run = record {
    item = record { 0 = 0 };
    place = record { queue = record { 0 = 0 }; cpu = record { 0 = 0 } };
    number = 0;
  };
  ticket = record { caller = record { 0 = 1 }; call = flush_item 1; number = 4 };
}

abbrev pub ended : Story
ended = record { layout = one_queue 2; entries = waiting ++ running ++ ending }

-- a run waits, and then all premises hold, and nothing is open
pub record PremisesAreMet : Type 0 where
  pub waits : waits_of 1 (past_of waiting) ≡ its_wait ∷ []
  pub holds : (q : Premise) → Holds q ended
  pub none_open : still_open (past_of ended.entries) ≡ []

-- ---- histories in which one premise does not hold

-- an item is queued, and no more
abbrev pub queued : List Entry
queued = entry (caller 0) 0 (queue 0 0 0) (reply.Yes 0) ∷ []

-- it starts
abbrev pub started : List Entry
started = queued ++ entry (normal 0 0) 0 take (reply.StartedEnlist 0 1) ∷ []

-- the only idle worker of the pool retires, which is made up
abbrev pub retired : List Entry
retired = queued ++ entry (normal 0 0) 0 retire reply.Retired ∷ []

-- the run waits for its own item
abbrev pub for_itself : List Entry
for_itself =
    started ++ entry (normal 0 0) 1 sleep reply.Slept ∷ entry (caller 1) 0 (flush_item 0) (reply.Ticket 3) ∷ []

-- The run of item 0 and item 1 have both places of the queue, so item 2 is inactive, for which the run waits.
abbrev pub two_places : List Entry
two_places =
    started
    ++ entry (caller 0) 1 (queue 1 0 0) (reply.Yes 2) ∷ entry (caller 0) 2 (queue 2 0 0) (reply.Yes 3)
    ∷ entry (normal 0 0) 1 sleep reply.Slept ∷ entry (caller 1) 0 (flush_item 2) (reply.Ticket 5)
    ∷ entry (normal 0 1) 0 take (reply.Started 2) ∷ []

-- The queue gets narrower, and item 1 finishes. Now the run alone has all places.
abbrev pub narrowed : List Entry
narrowed =
    two_places
    ++ entry (caller 0) 3 (set_max 0 1) (reply.Width 1) ∷ entry (normal 0 1) 1 finish (reply.Finished 2) ∷ []

-- The run of item 0 drains queue 1, on which item 1 runs on the other CPU.
abbrev pub draining : List Entry
draining =
    entry (caller 0) 0 (queue 0 0 0) (reply.Yes 0) ∷ entry (normal 0 0) 0 take (reply.Started 0)
    ∷ entry (caller 0) 1 (queue 1 1 1) (reply.Yes 2) ∷ entry (normal 1 0) 0 take (reply.Started 2)
    ∷ entry (normal 0 0) 1 sleep reply.Slept ∷ entry (caller 1) 0 (drain 1) (reply.Ticket 5) ∷ []

-- That run queues item 2 on the first CPU, whose only worker has the run of item 0.
abbrev pub queued_in_drain : List Entry
queued_in_drain =
    draining
    ++ entry (normal 1 0) 1 (queue 2 1 0) (reply.Yes 6) ∷ entry (normal 1 0) 2 finish (reply.Finished 2) ∷ []

-- an item is queued on a frozen queue
abbrev pub frozen : List Entry
frozen = entry (caller 0) 0 freeze reply.Frozen ∷ entry (caller 0) 1 (queue 0 0 0) (reply.Yes 1) ∷ []

pub record PremisesAreNeeded : Type 0 where
  -- the pools have no workers, or the queue has no places
  pub no_workers : IsNeeded layout (record { layout = without_workers; entries = queued })
  pub no_places : IsNeeded layout (record { layout = one_queue 0; entries = queued })
  -- an entry is made up
  pub made_up : IsNeeded legal (record { layout = one_queue 2; entries = retired })
  -- a wait began that is refused
  pub refused : IsNeeded allowed (record { layout = one_queue 2; entries = for_itself })
  -- an entry makes a queue narrower, or queues what a wait is for
  pub narrower : IsNeeded untrapped (record { layout = one_queue 2; entries = narrowed })
  pub in_drain : IsNeeded untrapped (record { layout = two_queues; entries = queued_in_drain })
  -- a worker would start something, or a wait is ready
  pub unstarted : IsNeeded rest (record { layout = one_queue 2; entries = queued })
  pub ready : IsNeeded rest (record { layout = one_queue 2; entries = waiting ++ running })
  -- a run acts
  pub acting : IsNeeded waits (record { layout = one_queue 2; entries = started })
  -- a queue is frozen
  pub shut_down : IsNeeded unfrozen (record { layout = freezable; entries = frozen })

-- ---- the law that only what is frozen is open

pub data FrozenPremise : Type 0 where
  some_layout : FrozenPremise
  legal_entries : FrozenPremise
  none_starts : FrozenPremise
  none_runs : FrozenPremise

abbrev pub HoldsThen : FrozenPremise → Story → Type 0
HoldsThen some_layout x = IsTrue (is_layout x.layout)
HoldsThen legal_entries x = IsLegal x.layout (past_of x.entries)
HoldsThen none_starts x = NoneStarts x.layout (past_of x.entries)
HoldsThen none_runs x = NoneRuns (past_of x.entries)

-- all others hold, and a queueing is open on a queue that no freeze shuts down
pub record IsNeededThen (p : FrozenPremise) (x : Story) : Type 0 where
  pub others : (q : FrozenPremise) → (q ≡ p → ⊥) → HoldsThen q x
  pub queueing : Queueing
  pub is_open : Contains (still_open (past_of x.entries)) queueing
  pub not_frozen : is_shut_down x.layout (past_of x.entries) queueing.place.queue.0 ≡ false

pub record FrozenPremisesAreNeeded : Type 0 where
  -- the pools have no workers
  pub no_workers : IsNeededThen some_layout (record { layout = without_workers; entries = queued })
  -- an entry is made up
  pub made_up : IsNeededThen legal_entries (record { layout = one_queue 2; entries = retired })
  -- a worker would start something
  pub unstarted : IsNeededThen none_starts (record { layout = one_queue 2; entries = queued })
  -- a run is under way
  pub acting : IsNeededThen none_runs (record { layout = one_queue 2; entries = started })

-- ---- the law of a hub that is over

-- A ticket of this call is not ready, and later it is.
pub record GetsReady (s : Layout) (first later : List Entry) (n : ℕ) (c : Call) : Type 0 where
  pub legal : IsLegal s (past_of later ++ past_of first)
  pub unready : is_unready (past_of first) n c ≡ true
  pub ready : is_unready (past_of later ++ past_of first) n c ≡ false

-- an active queueing is open, which starts and finishes
abbrev pub active : List Entry
active = queued ++ entry (caller 1) 0 (flush 0) (reply.Ticket 1) ∷ []

abbrev pub finishing : List Entry
finishing =
    entry (normal 0 0) 0 take (reply.StartedEnlist 0 1) ∷ entry (normal 0 0) 1 finish (reply.Finished 0) ∷ []

-- what is open is inactive, and a caller takes it back
abbrev pub inactive : List Entry
inactive = frozen ++ entry (caller 1) 0 (flush 0) (reply.Ticket 2) ∷ []

abbrev pub taking_back : List Entry
taking_back = entry (caller 0) 2 (cancel 0) (reply.Cancelled 1) ∷ []

-- Where one premise does not hold, a ticket gets ready.
pub record OverPremisesAreNeeded : Type 0 where
  pub active_ends : GetsReady (one_queue 2) active finishing 1 (flush 0)
  pub only_ends : CallersOnlyEnd (past_of finishing)
  pub inactive_ends : GetsReady freezable inactive taking_back 2 (flush 0)
  pub none_active : NoneActive freezable (past_of inactive)

-- ---- the law of the tickets of lent callers

-- caller 1, which is lent, has an unended ticket, and no run waits
pub record HasNoWait (entries : List Entry) (t : Ticket) : Type 0 where
  pub legal : IsLegal (one_queue 2) (past_of entries)
  pub unended : Contains (unended_tickets (past_of entries)) t
  pub lent : is_lent 1 (Caller t.caller) ≡ true
  pub none : waits_of 1 (past_of entries) ≡ []

-- it was given the ticket while no run had fallen asleep
abbrev pub alone : List Entry
alone = entry (caller 1) 0 (flush 0) (reply.Ticket 0) ∷ []

abbrev pub alone_ticket : Ticket
alone_ticket = record { caller = record { 0 = 1 }; call = flush 0; number = 0 }

-- the run that waits wakes before its ticket has ended
abbrev pub woken : List Entry
woken = waiting ++ entry (normal 0 0) 2 wake reply.Woke ∷ []

pub record LentPremisesAreNeeded : Type 0 where
  pub alone_waits_none : HasNoWait alone alone_ticket
  pub waiters_make_none : WaitersMakeNone 1 (past_of alone)
  pub woken_waits_none : HasNoWait woken its_wait.ticket
  pub lent_follow : LentFollowSleeps 1 (past_of woken)
