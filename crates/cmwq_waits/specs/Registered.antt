-- How a run begins to wait, and which waits an entry ends.
use Rattle.std.specs.Prelude.{◌++◌, ◌&&◌, ◌==◌, ◌∷◌, Bool, List, None, Option, Some, ℕ, [], false, filter, not}
use Rattle.std.specs.Prelude.{option_and_then, option_map}
use Rattle.std.specs.Option.{option_map_or}
use Rattle.cmwq_model.specs.Prelude.{Layout, ticket_of}
use Rattle.cmwq_model.specs.declared.call.Call.{Call}
use Rattle.cmwq_model.specs.declared.entry.Entry.{Entry}
use Rattle.cmwq_model.specs.declared.id.CallerId.{CallerId}
use Rattle.cmwq_model.specs.declared.id.Who.TheVariants.{Caller, Worker}
use Rattle.cmwq_model.specs.declared.id.WorkerId.{WorkerId}
use Rattle.cmwq_model.specs.declared.record.Queueing.{Queueing}
use Rattle.cmwq_model.specs.declared.record.Ticket.{Ticket}
use Rattle.cmwq_theory_steps.specs.ItemQueueings.{queueing_run}
use Rattle.cmwq_waits.specs.Refused.{is_other, refusal}
use Rattle.cmwq_waits.specs.declared.run_wait.RunWait.{RunWait}
use Rattle.cmwq_waits.specs.declared.waits.Stuck.{Stuck}

-- ---- a run begins to wait

-- what the worker runs, with this unended ticket of the caller
abbrev pub wait_of : List Entry → WorkerId → CallerId → ℕ → Option RunWait
wait_of past w c n =
    option_and_then (λ (x : Queueing). option_map (λ (t : Ticket). record { run = x; ticket = t })
    (ticket_of past (Caller c) n)) (queueing_run past (Worker w))

abbrev pub registered : List RunWait → Option RunWait → List RunWait
registered waits None = waits
registered waits (Some w) = filter (is_other w.run.number) waits ++ w ∷ []

-- why a wait of what the worker runs is refused
abbrev pub refusal_of : Layout → List Entry → List RunWait → WorkerId → Call → Option Stuck
refusal_of s past waits w c =
    option_and_then (λ (x : Queueing). refusal s past waits x c) (queueing_run past (Worker w))

-- ---- an entry is made

abbrev pub is_run_of : Option Queueing → RunWait → Bool
is_run_of o w = option_map_or (λ (x : Queueing). w.run.number == x.number) o false

abbrev pub is_for : Option Ticket → RunWait → Bool
is_for o w = option_map_or (λ (t : Ticket). w.ticket.number == t.number) o false

-- neither its run nor its ticket has ended
abbrev pub still_waits : Option Queueing → Option Ticket → RunWait → Bool
still_waits ended done w = not (is_run_of ended w) && not (is_for done w)
