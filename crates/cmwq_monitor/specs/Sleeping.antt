-- What becomes of one that has nothing to do: it sleeps, looks again, or may go.
use Rattle.std.specs.Prelude.{◌≡◌, ◌⊎◌, ◌<◌}
use Rattle.cmwq_monitor.specs.Common.{ℕ, Bool, true, false, None, Some, Result, Ok, Caller, Worker, Who, Layout}
use Rattle.cmwq_monitor.specs.Common.{is_done, past_of}
use Rattle.cmwq_model.specs.Prelude.{ticket_of}
use Rattle.cmwq_model.specs.declared.call.Call.TheVariants as call
use Rattle.cmwq_model.specs.declared.record.Ticket.{Ticket}
use Rattle.cmwq_dispatch.specs.Asleep.{Rests, Waits}
use Rattle.cmwq_dispatch.specs.declared.dispatch.Sleep.{Sleep}
use Rattle.cmwq_dispatch.specs.declared.dispatch.Sleep.TheVariants.{Sleeps, LooksAgain, Over}
use Rattle.cmwq_monitor.specs.Held.{GoesOn, Held, is_over}
use Rattle.cmwq_monitor.specs.Participants.{View}
use Rattle.cmwq_monitor.specs.Starts.{StartsOne}
use Rattle.cmwq_monitor.specs.Steps.{WouldNot, is_start}
use Rattle.cmwq_monitor.specs.declared.fault.RunFault.{RunFault}
use Rattle.cmwq_monitor.specs.declared.monitor.Ended.{Ended}
use Rattle.cmwq_monitor.specs.declared.monitor.Ended.TheVariants.{Done, Not}
use Rattle.cmwq_monitor.specs.declared.monitor.Next.{Next}
use Rattle.cmwq_monitor.specs.declared.monitor.Next.TheVariants.{Runs, Nothing}

-- ---- a caller that would end a ticket

-- It begins to sleep until the wait is ready, or has to look again. It is not registered where the wait will never be
-- ready, and sleeps until the hub fails: once the hub is over, or where it has no such ticket.
abbrev pub WaitsFor : Layout → Held → Who → ℕ → Sleep → Held → Type 0
WaitsFor s old who n Sleeps new = (t : Ticket) × (ticket_of (past_of old.history) who n ≡ Some t)
    × (new ≡ record old { asleep = new.asleep }) × Waits t old.asleep new.asleep
WaitsFor s old who n LooksAgain new = new ≡ old
WaitsFor s old who n Over new =
    (new ≡ old) × ((is_over s old ≡ true) ⊎ (ticket_of (past_of old.history) who n ≡ None))

abbrev pub WhetherDone : Ended → Type 0 → Type 0 → Type 0
WhetherDone Done A B = A
WhetherDone (Not instead) A B = B

-- The end is done. Or it would not be, and the caller does something else.
abbrev pub EndsOrWaits : Layout → Held → View → ℕ → Ended → Held → Type 0
EndsOrWaits s old v n Done new = GoesOn old new
EndsOrWaits s old v n (Not instead) new =
    WouldNot is_done s old.history v (call.End n) × WaitsFor s old v.who n instead new

abbrev pub makes_no_end : Result Ended RunFault → Bool
makes_no_end (Ok (Not instead)) = true
makes_no_end r = false

-- ---- a worker that would start something

-- It begins to rest until there is something to start, or has to look again, or may go.
abbrev pub RestsUntil : Layout → Held → Who → Sleep → Held → Type 0
RestsUntil s old (Worker w) Sleeps new =
    (new ≡ record old { asleep = new.asleep }) × Rests w old.asleep new.asleep
RestsUntil s old (Caller c) Sleeps new = ⊥
RestsUntil s old who LooksAgain new = new ≡ old
RestsUntil s old who Over new = (new ≡ old) × (is_over s old ≡ true)

abbrev pub Starts : Layout → View → Next → View → Type 0
Starts s v (Runs item) w = (item.0 < s.items) × StartsOne s v item w
Starts s v (Nothing instead) w = w ≡ v

-- Something starts. Or the worker would start nothing, and does something else.
abbrev pub StartsOrRests : Layout → Held → View → Next → Held → Type 0
StartsOrRests s old v (Runs item) new = GoesOn old new
StartsOrRests s old v (Nothing instead) new =
    WouldNot is_start s old.history v call.Take × RestsUntil s old v.who instead new

abbrev pub makes_no_start : Result Next RunFault → Bool
makes_no_start (Ok (Nothing instead)) = true
makes_no_start r = false
