-- Why a legal entry's reply is what it is: what held before it, read off the reply.
use Rattle.std.specs.Prelude.{◌≡◌, ◌+◌, ◌<◌, ◌∷◌}
use Rattle.cmwq_theory_steps.specs.Common.{ℕ, Bool, true, false, List, length, Option, Some, None, CallerId, ItemId}
use Rattle.cmwq_theory_steps.specs.Common.{WorkerId, Who, Caller, Worker, Call, Reply, Entry, Booking, Place, Queueing}
use Rattle.cmwq_theory_steps.specs.Common.{Ticket, Layout, item_called, now, booking, is_booked, number_started}
use Rattle.cmwq_theory_steps.specs.Common.{number_finished, number_cancelled, run, has_run, runs_awake, runs_asleep}
use Rattle.cmwq_theory_steps.specs.Common.{place_called, is_pending, unstarted_queueing, runs_elsewhere, next}
use Rattle.cmwq_theory_steps.specs.Common.{is_enlisted, index_enlisted, runnable, enlisted_by, may_retire, gives_ticket}
use Rattle.cmwq_theory_steps.specs.Common.{is_cancelling, is_crowded, ticket_of, waits_for, may_call, is_shut}
use Rattle.cmwq_theory_steps.specs.Common.{first_due, is_held_back, IsLegal}
use Rattle.cmwq_model.specs.declared.call.Call.TheVariants as call
use Rattle.cmwq_model.specs.declared.reply.Reply.TheVariants as reply

-- the number that a reply gives to what it opens
abbrev pub number_given : Reply → Option ℕ
number_given (reply.Yes k) = Some k
number_given (reply.Again k) = Some k
number_given (reply.Fired i k) = Some k
number_given (reply.Ticket k) = Some k
number_given (reply.TicketQueued k) = Some k
number_given (reply.TicketCancelled k n) = Some k
number_given (reply.TicketUnbooked k) = Some k
number_given (reply.TicketNo k) = Some k
number_given r = None

-- what holds of who, call and reply of each legal entry
abbrev pub OfReplies : (Layout → List Entry → Who → Call → Reply → Type 0) → Type 0
OfReplies P = (s : Layout) (past : List Entry) (e : Entry) → IsLegal s (e ∷ past) → P s past e.who e.call e.reply

-- ---- workers: started, finished, slept, woke, retired

-- what is started is the next of the pool of an idle worker; the one enlisted is the one that the rule says
pub record StartsNext (s : Layout) (past : List Entry) (who : Who) (c : Call) (r : Reply) (n : ℕ) : Type 0 where
  pub worker : WorkerId
  pub queueing : Queueing
  pub by_worker : who ≡ Worker worker
  pub is_take : c ≡ call.Take
  pub enlisted : is_enlisted past worker ≡ true
  pub idle : has_run past worker ≡ false
  pub is_next : next s past worker.pool ≡ Some queueing
  pub is_clear : runnable s past worker.pool ≡ 0
  pub number : queueing.number ≡ n
  pub enlists : index_enlisted r ≡ enlisted_by s past worker

abbrev pub StartsAreNext : Type 0
StartsAreNext = OfReplies (λ s past who c r. (n : ℕ) → number_started r ≡ Some n → StartsNext s past who c r n)

-- what is finished is the worker's run, which is awake
pub record FinishesRun (past : List Entry) (who : Who) (c : Call) (n : ℕ) : Type 0 where
  pub worker : WorkerId
  pub by_worker : who ≡ Worker worker
  pub is_finish : c ≡ call.Finish
  pub awake : runs_awake past worker ≡ true
  pub is_run : run past worker ≡ Some n

abbrev pub FinishesAreRuns : Type 0
FinishesAreRuns = OfReplies (λ s past who c r. (n : ℕ) → number_finished r ≡ Some n → FinishesRun past who c n)

abbrev pub SleepersAreAwake : Type 0
SleepersAreAwake =
    OfReplies (λ s past who c r. r ≡ reply.Slept → (w : WorkerId) × (who ≡ Worker w) × (c ≡ call.Sleep)
    × (runs_awake past w ≡ true))

abbrev pub WakersAreAsleep : Type 0
WakersAreAsleep =
    OfReplies (λ s past who c r. r ≡ reply.Woke → (w : WorkerId) × (who ≡ Worker w) × (c ≡ call.Wake)
    × (runs_asleep past w ≡ true))

abbrev pub RetirersMayRetire : Type 0
RetirersMayRetire = OfReplies (λ s past who c r. r ≡ reply.Retired
    → (w : WorkerId) × (who ≡ Worker w) × (c ≡ call.Retire) × (is_enlisted past w ≡ true) × (has_run past w ≡ false)
    × (may_retire s past w.pool ≡ true))

-- ---- items: queued, booked, fired, cancelled

-- the ticks of queue, delay and modify
abbrev pub ticks_asked : Call → Option ℕ
ticks_asked (call.Queue i q c) = Some 0
ticks_asked (call.Delay i q c t) = Some t
ticks_asked (call.Modify i q c t) = Some t
ticks_asked c = None

-- a queue, delay or modify of this many ticks that is granted
pub record IsGranted (past : List Entry) (who : Who) (c : Call) (t : ℕ) (pending : Bool) : Type 0 where
  pub item : ℕ
  pub place : Place
  pub is_item : item_called c ≡ Some item
  pub is_place : place_called c ≡ Some place
  pub is_ticks : ticks_asked c ≡ Some t
  pub awake : may_call past who ≡ true
  pub not_cancelling : is_cancelling past item ≡ false
  pub not_foreign : runs_elsewhere past item place.queue.0 ≡ false
  pub not_shut : is_shut past who place.queue.0 t ≡ false
  pub was_pending : is_pending past item ≡ pending

abbrev pub QueuedWereIdle : Type 0
QueuedWereIdle =
    OfReplies (λ s past who c r. (k : ℕ) → r ≡ reply.Yes k → (k ≡ length past) × IsGranted past who c 0 false)

abbrev pub QueuedAgainWerePending : Type 0
QueuedAgainWerePending =
    OfReplies (λ s past who c r. (k : ℕ) → r ≡ reply.Again k → (k ≡ length past) × IsGranted past who c 0 true)

-- what is booked is due so many ticks from now, and more than none
pub record IsBookedIn (past : List Entry) (who : Who) (c : Call) (due : ℕ) (pending : Bool) : Type 0 where
  pub ticks : ℕ
  pub some_ticks : 0 < ticks
  pub is_due : due ≡ now past + ticks
  pub granted : IsGranted past who c ticks pending

abbrev pub BookedWereIdle : Type 0
BookedWereIdle = OfReplies (λ s past who c r. (d : ℕ) → r ≡ reply.Booked d → IsBookedIn past who c d false)

abbrev pub RebookedWerePending : Type 0
RebookedWerePending = OfReplies (λ s past who c r. (d : ℕ) → r ≡ reply.Rebooked d → IsBookedIn past who c d true)

-- what is fired is the booking that is due first, and that of its item
pub record FiresBooking (past : List Entry) (c : Call) (i : ItemId) (k : ℕ) : Type 0 where
  pub fired : Booking
  pub is_fire : c ≡ call.Fire
  pub number : k ≡ length past
  pub is_due : first_due past ≡ Some fired
  pub item : fired.item ≡ i
  pub stands : booking past i.0 ≡ Some fired

abbrev pub FiredAreDue : Type 0
FiredAreDue = OfReplies (λ s past who c r. (i : ItemId) (k : ℕ) → r ≡ reply.Fired i k → FiresBooking past c i k)

-- a delayed item that a flush queues was booked, on a queue that isn't draining
abbrev pub FlushedDelayedWereBooked : Type 0
FlushedDelayedWereBooked =
    OfReplies (λ s past who c r. (k : ℕ) → r ≡ reply.TicketQueued k → (i : ItemId) × (c ≡ call.FlushDelayed i)
    × (is_booked past i.0 ≡ true) × (is_held_back past i.0 ≡ false))

-- what is cancelled is the item's unstarted queueing
pub record TakesBack (past : List Entry) (c : Call) (n : ℕ) : Type 0 where
  pub item : ℕ
  pub queueing : Queueing
  pub is_item : item_called c ≡ Some item
  pub is_unstarted : unstarted_queueing past item ≡ Some queueing
  pub number : queueing.number ≡ n

abbrev pub CancelledWereUnstarted : Type 0
CancelledWereUnstarted = OfReplies (λ s past who c r. (n : ℕ) → number_cancelled r ≡ Some n → TakesBack past c n)

-- or its booking, where it has no unstarted queueing
abbrev pub unbooks : Reply → Bool
unbooks reply.Unbooked = true
unbooks (reply.TicketUnbooked k) = true
unbooks r = false

abbrev pub UnbookedWereBooked : Type 0
UnbookedWereBooked =
    OfReplies (λ s past who c r. unbooks r ≡ true → (i : ℕ) × (item_called c ≡ Some i) × (is_booked past i ≡ true)
    × (unstarted_queueing past i ≡ None))

-- ---- tickets and time

-- a ticket is given to a caller that isn't crowded, under the number of the entry
abbrev pub TicketsAreForCallers : Type 0
TicketsAreForCallers =
    OfReplies (λ s past who c r. gives_ticket r ≡ true → (caller : CallerId) × (who ≡ Caller caller)
    × (is_crowded past who ≡ false) × (number_given r ≡ Some (length past)))

-- a wait that is done is one of the caller's that stands and waits for nothing
pub record EndsWait (past : List Entry) (who : Who) (c : Call) : Type 0 where
  pub number : ℕ
  pub ticket : Ticket
  pub is_end : c ≡ call.End number
  pub stands : ticket_of past who number ≡ Some ticket
  pub ready : waits_for past ticket.number ticket.call ≡ None

abbrev pub DoneAreReady : Type 0
DoneAreReady = OfReplies (λ s past who c r. r ≡ reply.Done → EndsWait past who c)

abbrev pub TicksTellNow : Type 0
TicksTellNow =
    OfReplies (λ s past who c r. (d : ℕ) → r ≡ reply.Now d → (t : ℕ) × (c ≡ call.Tick t) × (d ≡ now past + t))
