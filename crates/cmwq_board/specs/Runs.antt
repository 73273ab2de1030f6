-- The runs that wait by callers that are lent.
use Rattle.std.specs.Prelude.{◌≡◌, ◌<◌, ℕ, Bool, List, Option, Some, None, filter, filter_map, length}
use Rattle.std.specs.Prelude.{slice_index_or, slice_set}
use Rattle.std.specs.Option.{option_map}
use Rattle.cmwq_model.specs.Prelude.{IsLegal}
use Rattle.cmwq_model.specs.declared.call.Call.{Call}
use Rattle.cmwq_model.specs.declared.entry.Entry.{Entry}
use Rattle.cmwq_model.specs.declared.id.Who.TheVariants.{Worker}
use Rattle.cmwq_model.specs.declared.id.WorkerId.{WorkerId}
use Rattle.cmwq_model.specs.declared.record.Queueing.{Queueing}
use Rattle.cmwq_model.specs.declared.record.Ticket.{Ticket}
use Rattle.cmwq_theory_steps.specs.ItemQueueings.{queueing_run}
use Rattle.cmwq_waits.specs.Refused.{is_other}
use Rattle.cmwq_waits.specs.Registered.{refusal_of}
use Rattle.cmwq_waits.specs.declared.run_wait.RunWait.{RunWait}
use Rattle.cmwq_board.specs.Boarded.{Boarded, layout_of, past_of_board}
use Rattle.cmwq_board.specs.Lent.{RunsWaitOnce}
use Rattle.cmwq_board.specs.declared.lending.Lending.{Lending}
use Rattle.cmwq_board.specs.declared.lending.Lending.TheVariants.{Free, Waits}

-- What the worker runs now whose run waits by the caller that does this, and the ticket of that wait.
abbrev pub wait_in : List Entry → Lending → Option RunWait
wait_in past Free = None
wait_in past (Waits t None slept) = None
wait_in past (Waits t (Some w) slept) =
    option_map (λ (x : Queueing). record { run = x; ticket = t }) (queueing_run past (Worker w))

-- in the order of their places
abbrev pub waits_in : List Entry → List Lending → List RunWait
waits_in past lent = filter_map (wait_in past) lent

abbrev pub waiting_runs : Boarded → List RunWait
waiting_runs b = waits_in (past_of_board b) b.lent

-- Once the run of a worker has left its wait by the caller of a place, a wait is refused as if the waits were those of
-- the other runs alone. So no wait is refused because of what the run waited for.
abbrev pub LeftRefusesNothing : Type 0
LeftRefusesNothing = (b : Boarded) (place : ℕ) (t : Ticket) (left : WorkerId) (slept : Bool) (x : Queueing)
    (w : WorkerId) (c : Call) → IsLegal (layout_of b) (past_of_board b) → RunsWaitOnce b.lent → place < length b.lent
    → slice_index_or b.lent place Free ≡ Waits t (Some left) slept
    → queueing_run (past_of_board b) (Worker left) ≡ Some x
    → refusal_of (layout_of b) (past_of_board b) (waits_in (past_of_board b) (slice_set b.lent place Free)) w c
    ≡ refusal_of (layout_of b) (past_of_board b) (filter (is_other x.number) (waiting_runs b)) w c
