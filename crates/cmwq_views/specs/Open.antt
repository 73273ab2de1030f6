-- What is still going on at the end of a history: a line for its entries and ticks, and then a line for each queue,
-- run, queueing that hasn't started, booking, and unended wait. Idle queues in a row have one line.
use Rattle.std.specs.Prelude.{ℕ, zero, suc, ◌+◌, ◌-◌, ◌*◌, ◌/◌, ◌%◌, Bool, ◌==◌, ◌&&◌, not, if◌then◌else◌, List, []}
use Rattle.std.specs.Prelude.{◌∷◌, ◌++◌, length, nat_lt, slice_get}
use Rattle.std.specs.Prelude.{Option, Some, None, Result, flat_map, codes, option_and_then}
use Rattle.std.specs.List.{list_any, range_with_len}
use Rattle.std.specs.Option.{option_map_or}
use Rattle.cmwq_model.specs.declared.call.Call.{Call}
use Rattle.cmwq_model.specs.declared.call.Call.TheVariants as call
use Rattle.cmwq_model.specs.declared.entry.Entry.{Entry}
use Rattle.cmwq_model.specs.declared.record.Booking.{Booking}
use Rattle.cmwq_model.specs.declared.record.Place.{Place}
use Rattle.cmwq_model.specs.declared.record.Queueing.{Queueing}
use Rattle.cmwq_model.specs.declared.record.Ticket.{Ticket}
use Rattle.cmwq_model.specs.declared.verdict.Illegal.{Illegal}
use Rattle.cmwq_model.specs.Prelude.{Layout, is_active, max_active, most_cpus, now, past_of, waits_for}
use Rattle.cmwq_model.specs.Prelude.{width}
use Rattle.cmwq_model.specs.Bookings.{booking}
use Rattle.cmwq_model.specs.Queueings.{unstarted_queueing}
use Rattle.cmwq_model.specs.Runs.{runs_asleep}
use Rattle.cmwq_model.specs.Tickets.{is_draining, is_gone, most_tickets, unended_tickets}
use Rattle.cmwq_model.specs.Widths.{is_shut_down}
use Rattle.cmwq_theory_steps.specs.Places.{open_on}
use Rattle.cmwq_refinement.specs.Tickets.{tickets_held}
use Rattle.cmwq_obstacle.specs.Obstacles.{obstacle_of}
use Rattle.cmwq_obstacle.specs.declared.obstacle.Obstacle.{Obstacle}
use Rattle.cmwq_obstacle.specs.declared.obstacle.Obstacle.TheVariants as obstacles
use Rattle.cmwq_base.specs.declared.refusal.Refusal.{Refusal}
use Rattle.cmwq_base.specs.Files.{File}
use Rattle.cmwq_history.specs.Views.{FrontViewEnds}
use Rattle.cmwq_views.specs.Page.{line_end, line_of_entries, named_number, rows_text, worker_name, worker_of_row}
use Rattle.cmwq_views.specs.Lent.{is_in_circle, is_lent_for, run_of_row, ticket_after_sleep, worker_rows}
use Rattle.cmwq_views.specs.Since.{last}
use Rattle.cmwq_views.specs.declared.deed.Deed.TheVariants as deed
use Rattle.cmwq_views.specs.declared.since.Since.{Since}
use Rattle.cmwq_views.specs.declared.standing.Section.{Section}
use Rattle.cmwq_views.specs.declared.standing.Section.TheVariants as section

abbrev pub place_text : Place → List ℕ
place_text p = named_number (codes ", queue ") p.queue.0 ++ named_number (codes " on CPU ") p.cpu.0

-- words that are said where a test holds
abbrev pub said_if : Bool → List ℕ → List ℕ
said_if holds words = if holds then words else []

-- ---- queues: a line for each, but one line for idle ones in a row

-- whether it is frozen, and how wide it is once it is thawed; whether it is drained; whether it is gone
abbrev pub frozen_text : Bool → ℕ → List ℕ
frozen_text frozen most = if frozen then named_number (codes ", frozen, max_active ") most else []

abbrev pub queue_state : Bool → ℕ → Bool → Bool → List ℕ
queue_state frozen most draining gone =
    frozen_text frozen most ++ said_if draining (codes ", draining") ++ said_if gone (codes ", gone")

abbrev pub queue_line : Layout → List Entry → ℕ → List ℕ
queue_line s past q =
    named_number (codes "queue ") q ++ named_number (codes ": width ") (width s past q)
    ++ queue_state (is_shut_down s past q) (max_active s past q) (is_draining past q) (is_gone past q) ++ line_end

-- a queue is idle if it has a width, is neither drained nor gone, and nothing of it is open on any CPU
abbrev pub is_open_on : List Entry → ℕ → ℕ → Bool
is_open_on past q c = nat_lt 0 (length (open_on past q c))

abbrev pub is_open_anywhere : List Entry → ℕ → Bool
is_open_anywhere past q = list_any (is_open_on past q) (range_with_len 0 most_cpus)

abbrev pub is_idle_queue : Layout → List Entry → ℕ → Bool
is_idle_queue s past q =
    nat_lt 0 (width s past q) && not (is_draining past q) && not (is_gone past q) && not (is_open_anywhere past q)

-- the first of the idle queues in a row before this number, or this number where there are none
unfoldable pub idle_from : Layout → List Entry → ℕ → ℕ
idle_from s past zero = zero
idle_from s past (suc q) = if is_idle_queue s past q then idle_from s past q else suc q

abbrev pub queues_text : ℕ → ℕ → List ℕ
queues_text first end =
    if first == end then named_number (codes "queue ") end
    else named_number (codes "queues ") first ++ named_number (codes " to ") end

abbrev pub idle_text : ℕ → ℕ → List ℕ
idle_text first end = queues_text first end ++ codes " idle" ++ line_end

-- the line of idle queues in a row stands where the last of them would
abbrev pub ends_idle : Layout → List Entry → ℕ → Bool
ends_idle s past q = not (nat_lt (q + 1) (length s.queues) && is_idle_queue s past (q + 1))

abbrev pub idle_line : Layout → List Entry → ℕ → List ℕ
idle_line s past q = if ends_idle s past q then idle_text (idle_from s past q) q else []

abbrev pub queue_row : Layout → List Entry → ℕ → List ℕ
queue_row s past q = if is_idle_queue s past q then idle_line s past q else queue_line s past q

-- ---- since when something stands

abbrev pub since_text : List ℕ → Option Since → List ℕ
since_text name None = []
since_text name (Some x) = named_number name x.entry ++ named_number (codes " at tick ") x.tick

-- the same of what has the number of its entry
abbrev pub tick_text : Option Since → List ℕ
tick_text None = []
tick_text (Some x) = named_number (codes ", since tick ") x.tick

-- ---- a call that waits, and the queueing that it waits for

abbrev pub call_text : Call → List ℕ
call_text (call.Flush q) = named_number (codes ", flush ") q.0
call_text (call.Drain q) = named_number (codes ", drain ") q.0
call_text (call.Destroy q) = named_number (codes ", destroy ") q.0
call_text (call.FlushItem i) = named_number (codes ", flush_item ") i.0
call_text (call.FlushDelayed i) = named_number (codes ", flush_delayed ") i.0
call_text (call.CancelSync i) = named_number (codes ", cancel_sync ") i.0
call_text c = []

abbrev pub cause_text : Option ℕ → List ℕ
cause_text None = codes ", may end"
cause_text (Some n) = named_number (codes ", waits for queueing ") n

-- ---- runs: what each worker runs, whether it sleeps and why, and whether it waits for itself in the end

-- what put it to sleep: its work function, or a wait by a caller
abbrev pub by_itself : List ℕ
by_itself = codes ", by its work function"

abbrev pub lent_if : Bool → Ticket → Option ℕ → List ℕ
lent_if lent t cause =
    if lent then named_number (codes ", by caller c") t.caller.0 ++ call_text t.call ++ cause_text cause else by_itself

abbrev pub lent_text : List Entry → Queueing → Ticket → List ℕ
lent_text past x t = lent_if (is_lent_for past x t) t (waits_for past t.number t.call)

abbrev pub asleep_text : List Entry → ℕ → List ℕ
asleep_text past k = codes ", asleep" ++ since_text (codes " since entry ") (last deed.Sleep past k)

abbrev pub waiting_text : List Entry → Queueing → ℕ → List ℕ
waiting_text past x k = option_map_or (lent_text past x) (ticket_after_sleep past k) by_itself

abbrev pub sleep_text : Layout → List Entry → Queueing → ℕ → List ℕ
sleep_text s past x k =
    if runs_asleep past (worker_of_row k)
    then asleep_text past k ++ waiting_text past x k ++ said_if (is_in_circle s past k) (codes ", in a circle")
    else []

abbrev pub queueing_text : Queueing → List ℕ
queueing_text x = named_number (codes "item ") x.item.0 ++ named_number (codes ", queueing ") x.number

abbrev pub run_text : Layout → List Entry → ℕ → Queueing → List ℕ
run_text s past k x =
    codes "worker " ++ worker_name (worker_of_row k) ++ codes " runs " ++ queueing_text x ++ place_text x.place
    ++ since_text (codes ", since entry ") (last deed.Start past k)
    ++ sleep_text s past x k ++ line_end

abbrev pub run_line : Layout → List Entry → ℕ → List ℕ
run_line s past k = option_map_or (run_text s past k) (run_of_row s past k) []

-- ---- queueings that haven't started, whether they are active, and why they haven't

-- the queueings that take the places of a queue on its CPU: the first of n, and how many others
abbrev pub others_text : ℕ → List ℕ
others_text n = if nat_lt 0 n then named_number (codes " and ") n ++ codes " more" else []

abbrev pub first_text : Queueing → ℕ → List ℕ
first_text y others = named_number (codes ", after queueing ") y.number ++ others_text others

abbrev pub taken_text : Option Queueing → ℕ → List ℕ
taken_text None n = []
taken_text (Some y) n = first_text y (n - 1)

abbrev pub reason_text : Option Obstacle → List ℕ
reason_text None = codes ": may start"
reason_text (Some obstacles.Frozen) = codes ": its queue is frozen"
reason_text (Some (obstacles.NoPlace first active)) =
    codes ": its queue has no place left on its CPU" ++ taken_text first active
reason_text (Some obstacles.ItemRuns) = codes ": its item runs"
reason_text (Some (obstacles.Held w)) = codes ": the run of worker " ++ worker_name w ++ codes " is awake"
reason_text (Some obstacles.NoWorker) = codes ": no worker of its pool is idle"
reason_text (Some (obstacles.Behind y)) = named_number (codes ": queueing ") y.number ++ codes " is next"

abbrev pub pending_text : Queueing → Option Since → Bool → Option Obstacle → List ℕ
pending_text x since active why =
    codes "pending " ++ queueing_text x ++ place_text x.place ++ tick_text since
    ++ (if active then codes ", active" else codes ", inactive") ++ reason_text why ++ line_end

abbrev pub pending_line : Layout → List Entry → ℕ → List ℕ
pending_line s past i =
    option_map_or (λ x. pending_text x (last deed.Queue past i) (is_active s past x) (obstacle_of s past i))
    (unstarted_queueing past i) []

-- ---- bookings

abbrev pub booked_text : ℕ → ℕ → Place → Option Since → List ℕ
booked_text i due place since =
    named_number (codes "booked item ") i ++ named_number (codes ", due ") due ++ place_text place
    ++ since_text (codes ", since entry ") since ++ line_end

abbrev pub booked_line : List Entry → ℕ → List ℕ
booked_line past i =
    option_map_or (λ (b : Booking). booked_text i b.due b.place (last deed.Book past i)) (booking past i) []

-- ---- waits: of each caller its unended tickets, each with its call and the queueing that it waits for

-- the tick is told of the last wait that the caller began
abbrev pub is_since : ℕ → Since → Bool
is_since n x = x.entry == n

abbrev pub last_wait : List Entry → Ticket → Option Since
last_wait past t = option_and_then (λ x. if is_since t.number x then Some x else None) (last deed.Wait past t.caller.0)

abbrev pub wait_text : Ticket → Option Since → Option ℕ → List ℕ
wait_text t since cause =
    named_number (codes "caller c") t.caller.0 ++ named_number (codes ": ticket ") t.number ++ call_text t.call
    ++ tick_text since ++ cause_text cause ++ line_end

-- a caller has 64 numbers
abbrev pub wait_line : List Entry → ℕ → List ℕ
wait_line past k =
    option_map_or (λ (t : Ticket). wait_text t (last_wait past t) (waits_for past t.number t.call))
    (slice_get (tickets_held (unended_tickets past) (k / most_tickets)) (k % most_tickets)) []

-- ---- the sections

abbrev pub line_count : Layout → Section → ℕ
line_count s section.Queues = length s.queues
line_count s section.Runs = worker_rows s
line_count s section.Pending = s.items
line_count s section.Booked = s.items
line_count s section.Waits = most_tickets * s.callers

abbrev pub line_text : Layout → List Entry → Section → ℕ → List ℕ
line_text s past section.Queues q = queue_row s past q
line_text s past section.Runs k = run_line s past k
line_text s past section.Pending i = pending_line s past i
line_text s past section.Booked i = booked_line past i
line_text s past section.Waits k = wait_line past k

abbrev pub section_text : Layout → List Entry → Section → List ℕ
section_text s past x = rows_text (line_text s past x) (line_count s x)

-- the sections, in their order
abbrev pub sections : List Section
sections = section.Queues ∷ section.Runs ∷ section.Pending ∷ section.Booked ∷ section.Waits ∷ []

abbrev pub standing_text : Layout → List Entry → List ℕ
standing_text s past = line_of_entries (length past) (now past) ++ flat_map (section_text s past) sections

-- of a legal history all that
abbrev pub open_text : File Entry → List ℕ
open_text f = standing_text f.layout (past_of f.items)

-- what is read is a whole history, or a front of one
abbrev pub OpenEnds : Bool → List ℕ → Option (List ℕ) → Option (List ℕ) → Result (Option Illegal) Refusal → Type 0
OpenEnds front text old new ended = FrontViewEnds open_text front text old new ended
