-- Which runs wait, as a function of the history.
use Rattle.std.specs.Prelude.{◌++◌, ◌∷◌, ◌≡◌, ◌≤◌, if◌then◌else◌, Bool, Contains, List, None, Option, Some, ℕ, count_by}
use Rattle.std.specs.Prelude.{false, filter, length, nat_le, option_and_then, option_map, option_to_list, true, []}
use Rattle.cmwq_model.specs.Prelude.{IsLegal, Layout, is_asleep, runs_asleep, ticket_in, unended_tickets}
use Rattle.cmwq_model.specs.Prelude.{worker_of, workers}
use Rattle.cmwq_model.specs.declared.entry.Entry.{Entry}
use Rattle.cmwq_model.specs.declared.id.Who.{Who}
use Rattle.cmwq_model.specs.declared.id.Who.TheVariants.{Caller, Worker}
use Rattle.cmwq_model.specs.declared.id.WorkerId.{WorkerId}
use Rattle.cmwq_model.specs.declared.record.Queueing.{Queueing}
use Rattle.cmwq_model.specs.declared.record.Ticket.{Ticket}
use Rattle.cmwq_model.specs.declared.reply.Reply.{Reply}
use Rattle.cmwq_model.specs.declared.reply.Reply.TheVariants as reply
use Rattle.cmwq_theory_steps.specs.ItemQueueings.{queueing_run}
use Rattle.cmwq_theory_steps.specs.TicketSteps.{ticket_ended}
use Rattle.cmwq_waits.specs.HeldUp.{AreWaiting}
use Rattle.cmwq_waits.specs.Refused.{AreApart}
use Rattle.cmwq_waits.specs.Registered.{still_waits}
use Rattle.cmwq_waits.specs.declared.run_wait.RunWait.{RunWait}

-- ---- callers that are lent to runs: those from a number on

abbrev pub is_lent : ℕ → Who → Bool
is_lent first (Caller c) = nat_le first c.0
is_lent first (Worker w) = false

-- ---- a wait begins: a run falls asleep, and the very next entry is a lent caller's, which is given a ticket

-- the worker whose run the last entry laid to sleep
abbrev pub is_sleep : Reply → Bool
is_sleep reply.Slept = true
is_sleep r = false

abbrev pub sleeper : List Entry → Option WorkerId
sleeper [] = None
sleeper (e ∷ past) = if is_sleep e.reply then worker_of e.who else None

-- what it runs
abbrev pub laid : List Entry → Option Queueing
laid past = option_and_then (λ (w : WorkerId). queueing_run past (Worker w)) (sleeper past)

abbrev pub wait_by : Option Queueing → Option Ticket → Option RunWait
wait_by o t = option_and_then (λ (x : Queueing). option_map (λ (u : Ticket). record { run = x; ticket = u }) t) o

abbrev pub wait_begun : ℕ → List Entry → Entry → Option RunWait
wait_begun first past e =
    if is_lent first e.who then wait_by (laid past) (ticket_in e (length past)) else None

-- ---- the runs that wait, in the order in which they began to

-- A run that waits makes no entry. So a wait goes on until its worker makes one, or its ticket ends.
abbrev pub waits_on : List Entry → Entry → RunWait → Bool
waits_on past e w = still_waits (queueing_run past e.who) (ticket_ended past e) w

unfoldable pub waits_of : ℕ → List Entry → List RunWait
waits_of first [] = []
waits_of first (e ∷ past) =
    filter (waits_on past e) (waits_of first past) ++ option_to_list (wait_begun first past e)

-- ---- who waits

-- Its worker runs it, and sleeps, and its ticket is unended.
pub record IsAsleepFor (past : List Entry) (w : RunWait) : Type 0 where
  pub worker : WorkerId
  pub runs : queueing_run past (Worker worker) ≡ Some w.run
  pub asleep : is_asleep past worker ≡ true
  pub unended : Contains (unended_tickets past) w.ticket

abbrev pub WaitsAreAsleep : Type 0
WaitsAreAsleep = (first : ℕ) (s : Layout) (past : List Entry) → IsLegal s past → (w : RunWait)
    → Contains (waits_of first past) w → IsAsleepFor past w

-- So each run that waits is open and has started, and its ticket is unended.
abbrev pub WaitsAreWaiting : Type 0
WaitsAreWaiting = (first : ℕ) (s : Layout) (past : List Entry) → IsLegal s past → AreWaiting past (waits_of first past)

-- no run waits twice
abbrev pub WaitsAreApart : Type 0
WaitsAreApart = (first : ℕ) (s : Layout) (past : List Entry) → IsLegal s past → AreApart (waits_of first past)

-- So there are at most as many waits as workers whose runs sleep.
abbrev pub WaitsAreFew : Type 0
WaitsAreFew = (first : ℕ) (s : Layout) (past : List Entry) → IsLegal s past
    → length (waits_of first past) ≤ count_by (runs_asleep past) (workers s)

-- ---- a registry of them

-- The number of the first lent caller, what the last entry laid to sleep, and the runs that wait. It has places for so
-- many.
pub record Registry : Type 0 where
  pub first : ℕ
  pub laid : Option Queueing
  pub waits : List RunWait
  pub places : ℕ

abbrev pub registry : ℕ → Option Queueing → List RunWait → ℕ → Registry
registry first laid waits places = record { first = first; laid = laid; waits = waits; places = places }

-- It has the waits of a history, and a place for each worker.
pub record HasWaitsOf (s : Layout) (past : List Entry) (r : Registry) : Type 0 where
  pub laid : r.laid ≡ laid past
  pub waits : r.waits ≡ waits_of r.first past
  pub places : r.places ≡ length (workers s)
