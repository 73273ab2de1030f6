-- The one answer to each call: the first case that applies, in the order in which the cases stand.
use Rattle.std.specs.Prelude.{ℕ, ◌+◌, Bool, true, false, ◌&&◌, ◌||◌, not, ◌==◌, if◌then◌else◌, List, length, filter}
use Rattle.std.specs.Prelude.{find, Option, Some, None, min, nat_lt, nat_le}
use Rattle.std.specs.List.{list_any}
use Rattle.std.specs.Option.{option_map_or}
use Rattle.cmwq_model.specs.declared.id.WorkerId.{WorkerId}
use Rattle.cmwq_model.specs.declared.id.Who.{Who}
use Rattle.cmwq_model.specs.declared.id.Who.TheVariants.{Caller, Worker}
use Rattle.cmwq_model.specs.declared.call.Call.{Call}
use Rattle.cmwq_model.specs.declared.call.Call.TheVariants as call
use Rattle.cmwq_model.specs.declared.reply.Reply.{Reply}
use Rattle.cmwq_model.specs.declared.reply.Reply.TheVariants as reply
use Rattle.cmwq_model.specs.declared.entry.Entry.{Entry}
use Rattle.cmwq_model.specs.declared.record.Booking.{Booking}
use Rattle.cmwq_model.specs.declared.record.Queueing.{Queueing}
use Rattle.cmwq_model.specs.declared.record.Ticket.{Ticket}
use Rattle.cmwq_model.specs.Layout.{Layout, most_active}
use Rattle.cmwq_model.specs.Calls.{is_at, now}
use Rattle.cmwq_model.specs.Bookings.{booking, is_booked, standing_bookings}
use Rattle.cmwq_model.specs.Runs.{run, has_run, runs_awake, runs_asleep}
use Rattle.cmwq_model.specs.Queueings.{unstarted_queueing, is_pending, is_item_open, run_queue, runs_elsewhere}
use Rattle.cmwq_model.specs.Widths.{is_frozen}
use Rattle.cmwq_model.specs.Active.{next}
use Rattle.cmwq_model.specs.Workers.{is_enlisted, runnable, enlisted_by, may_retire}
use Rattle.cmwq_model.specs.Tickets.{is_cancelling, is_draining, is_being_destroyed, is_gone, is_crowded, ticket_of}
use Rattle.cmwq_model.specs.Waits.{waits_for}

-- a worker may call only from a run that is awake
abbrev pub may_call : List Entry → Who → Bool
may_call past (Caller c) = true
may_call past (Worker w) = runs_awake past w

-- while a queue drains, only a run of that queue may queue on it, and without delay
abbrev pub runs_on : List Entry → Who → ℕ → Bool
runs_on past (Caller c) q = false
runs_on past (Worker w) q = is_at (run_queue past w) q

abbrev pub is_shut : List Entry → Who → ℕ → ℕ → Bool
is_shut past who q ticks = is_draining past q && (not (runs_on past who q) || nat_lt 0 ticks)

-- queue, which is delay by 0 ticks, and delay
unfoldable pub queue_answer : List Entry → Who → ℕ → ℕ → ℕ → Reply
queue_answer past who i q ticks =
    if not (may_call past who) then reply.Misuse
    else if is_gone past q then reply.Gone
    else if is_cancelling past i then reply.No
    else if is_pending past i then reply.No
    else if runs_elsewhere past i q then reply.Foreign
    else if is_shut past who q ticks then reply.Draining
    else if ticks == 0 then reply.Yes (length past)
    else reply.Booked (now past + ticks)

unfoldable pub modify_answer : List Entry → Who → ℕ → ℕ → ℕ → Reply
modify_answer past who i q ticks =
    if not (may_call past who) then reply.Misuse
    else if is_gone past q then reply.Gone
    else if is_cancelling past i then reply.No
    else if runs_elsewhere past i q then reply.Foreign
    else if is_shut past who q ticks then reply.Draining
    else if is_pending past i then (if ticks == 0 then reply.Again (length past) else reply.Rebooked (now past + ticks))
    else if ticks == 0 then reply.Yes (length past)
    else reply.Booked (now past + ticks)

abbrev pub taken_back_answer : Option Queueing → Bool → Reply
taken_back_answer (Some x) booked = reply.Cancelled x.number
taken_back_answer None true = reply.Unbooked
taken_back_answer None false = reply.No

unfoldable pub cancel_answer : List Entry → Who → ℕ → Reply
cancel_answer past who i =
    if not (may_call past who) then reply.Misuse
    else taken_back_answer (unstarted_queueing past i) (is_booked past i)

-- the first that is due on a queue that isn't draining: by due, and then by the number of the booking
abbrev pub may_fire : List Entry → Booking → Bool
may_fire past b = nat_le b.due (now past) && not (is_draining past b.place.queue.0)

abbrev pub is_due_before : Booking → Booking → Bool
is_due_before b a = nat_lt a.due b.due

abbrev pub is_soonest : List Booking → Booking → Bool
is_soonest bs b = not (list_any (is_due_before b) bs)

abbrev pub soonest : List Booking → Option Booking
soonest bs = find (is_soonest bs) bs

unfoldable pub first_due : List Entry → Option Booking
first_due past = soonest (filter (may_fire past) (standing_bookings past))

abbrev pub fired_answer : Option Booking → ℕ → Reply
fired_answer None k = reply.Nothing
fired_answer (Some b) k = reply.Fired b.item k

-- flush and drain
unfoldable pub wait_answer : List Entry → Who → ℕ → Reply
wait_answer past who q =
    if is_gone past q then reply.Gone
    else if is_crowded past who then reply.Crowded
    else reply.Ticket (length past)

abbrev pub is_booked_on : ℕ → Booking → Bool
is_booked_on q b = b.place.queue.0 == q

unfoldable pub destroy_answer : List Entry → Who → ℕ → Reply
destroy_answer past who q =
    if is_gone past q then reply.Gone
    else if is_being_destroyed past q then reply.Draining
    else if list_any (is_booked_on q) (standing_bookings past) then reply.Timers
    else if is_crowded past who then reply.Crowded
    else reply.Ticket (length past)

unfoldable pub set_max_answer : List Entry → ℕ → ℕ → Reply
set_max_answer past q n = if is_gone past q then reply.Gone else reply.Width (min n most_active)

unfoldable pub flush_item_answer : List Entry → Who → ℕ → Reply
flush_item_answer past who i =
    if is_crowded past who then reply.Crowded
    else if is_item_open past i then reply.Ticket (length past)
    else reply.Idle

abbrev pub is_held_back : List Entry → ℕ → Bool
is_held_back past i = option_map_or (λ (b : Booking). is_draining past b.place.queue.0) (booking past i) false

unfoldable pub flush_delayed_answer : List Entry → Who → ℕ → Reply
flush_delayed_answer past who i =
    if is_crowded past who then reply.Crowded
    else if is_held_back past i then reply.Draining
    else if is_booked past i then reply.TicketQueued (length past)
    else if is_item_open past i then reply.Ticket (length past)
    else reply.Idle

abbrev pub taken_back_for : ℕ → Option Queueing → Bool → Reply
taken_back_for k (Some x) booked = reply.TicketCancelled k x.number
taken_back_for k None true = reply.TicketUnbooked k
taken_back_for k None false = reply.TicketNo k

unfoldable pub cancel_sync_answer : List Entry → Who → ℕ → Reply
cancel_sync_answer past who i =
    if is_crowded past who then reply.Crowded
    else taken_back_for (length past) (unstarted_queueing past i) (is_booked past i)

abbrev pub waiting_for : Option ℕ → Reply
waiting_for None = reply.Done
waiting_for (Some n) = reply.Waiting n

abbrev pub end_of_ticket : List Entry → Option Ticket → Reply
end_of_ticket past None = reply.Misuse
end_of_ticket past (Some t) = waiting_for (waits_for past t.number t.call)

abbrev pub started_answer : ℕ → Option ℕ → Reply
started_answer n None = reply.Started n
started_answer n (Some x) = reply.StartedEnlist n x

abbrev pub start_of : Layout → List Entry → WorkerId → Option Queueing → Reply
start_of s past w None = reply.Nothing
start_of s past w (Some x) = if nat_lt 0 (runnable s past w.pool) then reply.Held
    else started_answer x.number (enlisted_by s past w)

unfoldable pub take_answer : Layout → List Entry → WorkerId → Reply
take_answer s past w =
    if not (is_enlisted past w) || has_run past w then reply.Misuse
    else start_of s past w (next s past w.pool)

abbrev pub finished_answer : Option ℕ → Reply
finished_answer None = reply.Misuse
finished_answer (Some n) = reply.Finished n

unfoldable pub finish_answer : List Entry → WorkerId → Reply
finish_answer past w = if runs_awake past w then finished_answer (run past w) else reply.Misuse

unfoldable pub retire_answer : Layout → List Entry → WorkerId → Reply
retire_answer s past w =
    if not (is_enlisted past w) || has_run past w then reply.Misuse
    else if may_retire s past w.pool then reply.Retired
    else reply.Kept

-- a worker's own calls; a caller can't make them
abbrev pub worker_answer : Layout → List Entry → WorkerId → Call → Reply
worker_answer s past w call.Take = take_answer s past w
worker_answer s past w call.Finish = finish_answer past w
worker_answer s past w call.Sleep = if runs_awake past w then reply.Slept else reply.Misuse
worker_answer s past w call.Wake = if runs_asleep past w then reply.Woke else reply.Misuse
worker_answer s past w call.Retire = retire_answer s past w
worker_answer s past w c = reply.Misuse

abbrev pub own_answer : Layout → List Entry → Who → Call → Reply
own_answer s past (Caller c) call = reply.Misuse
own_answer s past (Worker w) call = worker_answer s past w call

unfoldable pub answer : Layout → List Entry → Who → Call → Reply
answer s past who (call.Queue i q c) = queue_answer past who i.0 q.0 0
answer s past who (call.Delay i q c ticks) = queue_answer past who i.0 q.0 ticks
answer s past who (call.Modify i q c ticks) = modify_answer past who i.0 q.0 ticks
answer s past who (call.Cancel i) = cancel_answer past who i.0
answer s past who (call.Tick ticks) = reply.Now (now past + ticks)
answer s past who call.Fire = fired_answer (first_due past) (length past)
answer s past who (call.Flush q) = wait_answer past who q.0
answer s past who (call.Drain q) = wait_answer past who q.0
answer s past who (call.FlushItem i) = flush_item_answer past who i.0
answer s past who (call.FlushDelayed i) = flush_delayed_answer past who i.0
answer s past who (call.CancelSync i) = cancel_sync_answer past who i.0
answer s past who (call.End t) = end_of_ticket past (ticket_of past who t)
answer s past who call.Take = own_answer s past who call.Take
answer s past who call.Finish = own_answer s past who call.Finish
answer s past who call.Sleep = own_answer s past who call.Sleep
answer s past who call.Wake = own_answer s past who call.Wake
answer s past who call.Retire = own_answer s past who call.Retire
answer s past who (call.SetMax q n) = set_max_answer past q.0 n
answer s past who call.Freeze = if is_frozen past then reply.No else reply.Frozen
answer s past who call.Thaw = if is_frozen past then reply.Thawed else reply.No
answer s past who (call.Destroy q) = destroy_answer past who q.0
