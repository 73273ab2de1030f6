-- What is left open where a history is at rest, and once a hub is over.
use Rattle.std.specs.Prelude.{◌≡◌, ◌++◌, Bool, Contains, IsTrue, List, ℕ, false, true, []}
use Rattle.std.specs.List.{list_any}
use Rattle.cmwq_model.specs.Prelude.{IsLegal, Layout, is_active, is_layout, is_started, still_open}
use Rattle.cmwq_model.specs.Widths.{is_shut_down}
use Rattle.cmwq_model.specs.declared.call.Call.{Call}
use Rattle.cmwq_model.specs.declared.call.Call.TheVariants as call
use Rattle.cmwq_model.specs.declared.entry.Entry.{Entry}
use Rattle.cmwq_model.specs.declared.id.CallerId.{CallerId}
use Rattle.cmwq_model.specs.declared.id.Who.TheVariants.{Caller, Worker}
use Rattle.cmwq_model.specs.declared.id.WorkerId.{WorkerId}
use Rattle.cmwq_model.specs.declared.record.Queueing.{Queueing}
use Rattle.cmwq_state.specs.Tables.{IsThere}
use Rattle.cmwq_theory_steps.specs.Histories.{OfEachEntry}
use Rattle.cmwq_theory_wakes.specs.Readiness.{is_unready}
use Rattle.cmwq_theory_wakes.specs.Starting.{would_start}
use Rattle.cmwq_waits.specs.HeldUp.{IsDeadlock}
use Rattle.cmwq_waits.specs.Refused.{is_of_run}
use Rattle.cmwq_waits.specs.declared.run_wait.RunWait.{RunWait}
use Rattle.cmwq_waits_laws.specs.Lasting.{scene_of}
use Rattle.cmwq_waiting.specs.Deadlocks.{NoDeadlock, NoneMayTrap}
use Rattle.cmwq_waits.specs.Allowed.{WaitsWereAllowed}
use Rattle.cmwq_waits.specs.Begun.{waits_of}

-- ---- rest

-- no worker of the layout would start anything
abbrev pub NoneStarts : Layout → List Entry → Type 0
NoneStarts s past = (w : WorkerId) → IsThere s (Worker w) → would_start s past w ≡ false

-- At rest no worker would start anything, and no run waits for a ticket that is ready.
pub record IsAtRest (first : ℕ) (s : Layout) (past : List Entry) : Type 0 where
  pub workers : NoneStarts s past
  pub waits : (w : RunWait) → Contains (waits_of first past) w → is_unready past w.ticket.number w.ticket.call ≡ true

-- no run is under way
abbrev pub NoneRuns : List Entry → Type 0
NoneRuns past = (x : Queueing) → Contains (still_open past) x → is_started past x.number ≡ false

-- each run that is under way waits
abbrev pub EachRunWaits : ℕ → List Entry → Type 0
EachRunWaits first past = (x : Queueing) → Contains (still_open past) x → is_started past x.number ≡ true
    → list_any (is_of_run x.number) (waits_of first past) ≡ true

-- nothing that is open is on a queue that a freeze shuts down
abbrev pub NoneShutDown : Layout → List Entry → Type 0
NoneShutDown s past = (x : Queueing) → Contains (still_open past) x → is_shut_down s past x.place.queue.0 ≡ false

-- ---- what is open there

-- Where no run is under way and no worker would start anything, what is open is on a queue that a freeze shuts down.
abbrev pub OnlyFrozenAreOpen : Type 0
OnlyFrozenAreOpen = (s : Layout) (past : List Entry) → IsTrue (is_layout s) → IsLegal s past → NoneStarts s past
    → NoneRuns past → (x : Queueing) → Contains (still_open past) x → is_shut_down s past x.place.queue.0 ≡ true

-- At rest, where each run waits and nothing open is shut down, all waits together are a deadlock.
abbrev pub AtRestWaitsAreDeadlock : Type 0
AtRestWaitsAreDeadlock = (first : ℕ) (s : Layout) (past : List Entry) → IsLegal s past → IsAtRest first s past
    → EachRunWaits first past → NoneShutDown s past → IsDeadlock (scene_of s past) (waits_of first past) (λ n. true)

-- So no run is under way there, if no waits are a deadlock.
abbrev pub AtRestNoneRuns : Type 0
AtRestNoneRuns = (first : ℕ) (s : Layout) (past : List Entry) → IsLegal s past → IsAtRest first s past
    → EachRunWaits first past → NoneShutDown s past → NoDeadlock first s past → NoneRuns past

-- If no entry may trap waits, the history is at rest, each run waits by the hub, and nothing open is shut down, then
-- nothing is open.
abbrev pub NeverHangs : ℕ → Layout → List Entry → Type 0
NeverHangs first s past = NoneMayTrap first s past → IsAtRest first s past → EachRunWaits first past
    → NoneShutDown s past → still_open past ≡ []

-- So it is in a legal history of a layout in which each wait that began was allowed: a hub does not hang by itself.
abbrev pub HubsNeverHang : Type 0
HubsNeverHang = (first : ℕ) (s : Layout) (past : List Entry) → IsTrue (is_layout s) → IsLegal s past
    → WaitsWereAllowed first s past → NeverHangs first s past

-- Where nothing is open, each ticket is ready.
abbrev pub NoneOpenAllReady : Type 0
NoneOpenAllReady = (s : Layout) (past : List Entry) → IsLegal s past → still_open past ≡ [] → (n : ℕ) (c : Call)
    → is_unready past n c ≡ false

-- ---- once a hub is over

-- No active queueing is open, and callers do nothing but end tickets.
abbrev pub NoneActive : Layout → List Entry → Type 0
NoneActive s past = (x : Queueing) → Contains (still_open past) x → is_active s past x ≡ false

abbrev pub ends_ticket : Call → Bool
ends_ticket (call.End n) = true
ends_ticket c = false

abbrev pub CallersOnlyEnd : List Entry → Type 0
CallersOnlyEnd = OfEachEntry (λ past e. (c : CallerId) → e.who ≡ Caller c → ends_ticket e.call ≡ true)

-- Then what is open stays open and inactive, and nothing more is queued.
abbrev pub OverStaysOver : Type 0
OverStaysOver = (s : Layout) (past later : List Entry) → IsLegal s (later ++ past) → NoneActive s past
    → CallersOnlyEnd later → (still_open (later ++ past) ≡ still_open past) × NoneActive s (later ++ past)

-- So a ticket that is not ready never gets ready.
abbrev pub UnreadyStayUnready : Type 0
UnreadyStayUnready = (s : Layout) (past later : List Entry) → IsLegal s (later ++ past) → NoneActive s past
    → CallersOnlyEnd later → (n : ℕ) (c : Call) → is_unready past n c ≡ true → is_unready (later ++ past) n c ≡ true
