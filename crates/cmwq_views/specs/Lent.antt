-- By which caller a run waits that sleeps, and runs that wait for one another in a circle.
use Rattle.std.specs.Prelude.{ℕ, zero, suc, ◌+◌, ◌*◌, Bool, false, ◌==◌, ◌&&◌, not, nat_lt, if◌then◌else◌, List}
use Rattle.std.specs.Prelude.{Option, Some, None, find, is_some, option_and_then}
use Rattle.std.specs.List.{list_any, range_with_len}
use Rattle.std.specs.Option.{option_map_or}
use Rattle.cmwq_model.specs.declared.id.Who.TheVariants.{Worker}
use Rattle.cmwq_model.specs.declared.entry.Entry.{Entry}
use Rattle.cmwq_model.specs.declared.record.Queueing.{Queueing}
use Rattle.cmwq_model.specs.declared.record.Ticket.{Ticket}
use Rattle.cmwq_model.specs.Prelude.{Layout, is_at, most_workers, unended_tickets, unstarted_queueing, waits_for}
use Rattle.cmwq_model.specs.Runs.{runs_asleep}
use Rattle.cmwq_theory_steps.specs.ItemQueueings.{queueing_run}
use Rattle.cmwq_state.specs.History.{ticket_has_number}
use Rattle.cmwq_obstacle.specs.Obstacles.{keeper_of}
use Rattle.cmwq_views.specs.Page.{worker_of_row}
use Rattle.cmwq_views.specs.Since.{last}
use Rattle.cmwq_views.specs.declared.deed.Deed.TheVariants as deed
use Rattle.cmwq_views.specs.declared.since.Since.{Since}

-- ---- by which caller

-- the unended wait whose entry is the next one after that by which the worker's run went to sleep
abbrev pub ticket_after : List Entry → Since → Option Ticket
ticket_after past x = find (ticket_has_number (x.entry + 1)) (unended_tickets past)

abbrev pub ticket_after_sleep : List Entry → ℕ → Option Ticket
ticket_after_sleep past k = option_and_then (ticket_after past) (last deed.Sleep past k)

-- A run waits by it if its caller has made no calls but waits, their ends, and fires, as a caller that is lent, and it
-- does not wait for the run itself.
abbrev pub is_lent_for : List Entry → Queueing → Ticket → Bool
is_lent_for past x t =
    not (is_some (last deed.Other past t.caller.0)) && not (is_at (waits_for past t.number t.call) x.number)

-- ---- what each worker runs, and for which queueing that waits

-- the workers of a CPU's pools are numbered one after another, as many as a shape may have
abbrev pub worker_rows : Layout → ℕ
worker_rows s = 2 * most_workers * s.cpus

abbrev pub run_of_row : Layout → List Entry → ℕ → Option Queueing
run_of_row s past k =
    if nat_lt (worker_of_row k).index s.workers then queueing_run past (Worker (worker_of_row k)) else None

abbrev pub cause_by : List Entry → Queueing → Ticket → Option ℕ
cause_by past x t = if is_lent_for past x t then waits_for past t.number t.call else None

abbrev pub cause_of_run : List Entry → ℕ → Queueing → Option ℕ
cause_of_run past k x =
    if runs_asleep past (worker_of_row k) then option_and_then (cause_by past x) (ticket_after_sleep past k) else None

abbrev pub cause_of_row : Layout → List Entry → ℕ → Option ℕ
cause_of_row s past k = option_and_then (cause_of_run past k) (run_of_row s past k)

-- ---- which run keeps a queueing from its end

-- whether an option is a queueing with this number
abbrev pub has_that_number : ℕ → Option Queueing → Bool
has_that_number n o = option_map_or (λ (x : Queueing). x.number == n) o false

-- the worker that runs it
abbrev pub runs_number : Layout → List Entry → ℕ → ℕ → Bool
runs_number s past n k = has_that_number n (run_of_row s past k)

abbrev pub row_running : Layout → List Entry → ℕ → Option ℕ
row_running s past n = find (runs_number s past n) (range_with_len 0 (worker_rows s))

-- if it has not started, the worker whose run alone keeps it from that
abbrev pub is_queued_as : List Entry → ℕ → ℕ → Bool
is_queued_as past n i = has_that_number n (unstarted_queueing past i)

abbrev pub item_queued : Layout → List Entry → ℕ → Option ℕ
item_queued s past n = find (is_queued_as past n) (range_with_len 0 s.items)

abbrev pub row_keeping_item : Layout → List Entry → ℕ → Option ℕ
row_keeping_item s past i = option_and_then (λ (x : Queueing). row_running s past x.number) (keeper_of s past i)

abbrev pub row_keeping : Layout → List Entry → ℕ → Option ℕ
row_keeping s past n = option_and_then (row_keeping_item s past) (item_queued s past n)

-- the one or the other
abbrev pub row_holding : Layout → List Entry → ℕ → Option ℕ
row_holding s past n = if is_some (row_running s past n) then row_running s past n else row_keeping s past n

-- ---- circles of waits

-- the worker for whose run that of this worker waits
abbrev pub next_row : Layout → List Entry → ℕ → Option ℕ
next_row s past k = option_and_then (row_holding s past) (cause_of_row s past k)

-- the worker to which so many such waits lead
unfoldable pub row_after : Layout → List Entry → ℕ → ℕ → Option ℕ
row_after s past k zero = Some k
row_after s past k (suc n) = option_and_then (next_row s past) (row_after s past k n)

-- A run is in a circle if the waits lead back to it. There are no more waits in it than workers.
abbrev pub leads_back : Layout → List Entry → ℕ → ℕ → Bool
leads_back s past k n = is_at (row_after s past k (n + 1)) k

abbrev pub is_in_circle : Layout → List Entry → ℕ → Bool
is_in_circle s past k = list_any (leads_back s past k) (range_with_len 0 (worker_rows s))
