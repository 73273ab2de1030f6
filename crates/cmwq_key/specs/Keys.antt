-- The key of a stand: all that its schedules depend on. Numbers of entries stand in it by their ranks.
use Rattle.std.specs.Prelude.{◌&&◌, ℕ, Bool, true, false, if◌then◌else◌, List, [], ◌∷◌, ◌++◌, length, Option, Some}
use Rattle.std.specs.Prelude.{None, find, is_some}
use Rattle.std.specs.List.{flat_map, range_with_len}
use Rattle.cmwq_model.specs.Prelude.{Layout, holds_up, is_active, is_asleep, is_enlisted, is_frozen, is_gone}
use Rattle.cmwq_model.specs.Prelude.{max_active, now, run, serving_from, unended_tickets, worker_at, worklist}
use Rattle.cmwq_model.specs.declared.call.Call.{Call}
use Rattle.cmwq_model.specs.declared.call.Call.TheVariants as call
use Rattle.cmwq_model.specs.declared.entry.Entry.{Entry}
use Rattle.cmwq_model.specs.declared.id.PoolId.{PoolId}
use Rattle.cmwq_model.specs.declared.id.WorkerId.{WorkerId}
use Rattle.cmwq_model.specs.declared.record.Booking.{Booking}
use Rattle.cmwq_model.specs.declared.record.Queueing.{Queueing}
use Rattle.cmwq_model.specs.declared.record.Ticket.{Ticket}
use Rattle.cmwq_json_script.specs.declared.action.Holder.{Holder}
use Rattle.cmwq_json_script.specs.declared.action.Holder.TheVariants as holders
use Rattle.cmwq_state.specs.History.{past_in, ticket_has_number}
use Rattle.cmwq_kinds.specs.Numbers.{numbers_of_call}
use Rattle.cmwq_play.specs.declared.place.Ticketed.{Ticketed}
use Rattle.cmwq_play.specs.declared.place.CallerAt.{CallerAt}
use Rattle.cmwq_play.specs.declared.place.Doing.{Doing}
use Rattle.cmwq_play.specs.declared.place.Doing.TheVariants.{Acts, AtGate, AtLock, Waits}
use Rattle.cmwq_play.specs.declared.place.RunAt.{RunAt}
use Rattle.cmwq_play.specs.declared.place.WorkerAt.{WorkerAt}
use Rattle.cmwq_key.specs.Codes.{codes, flag, told_flag, told_list, told_option}
use Rattle.cmwq_play.specs.Firsts.{pool_of}
use Rattle.cmwq_key.specs.Numbered.{Gathered, gathered, mark, rank}
use Rattle.cmwq_play.specs.Stands.{Stand}

-- ---- what is open, unended or booked

-- that a queueing is active matters until it starts
abbrev pub told_unstarted : Layout → List Entry → Gathered → Queueing → List ℕ
told_unstarted s past g x =
    rank g.numbers x.number ∷ x.item.0 ∷ x.place.queue.0 ∷ x.place.cpu.0 ∷ flag (is_active s past x) ∷ []

abbrev pub told_running : Gathered → Queueing → List ℕ
told_running g x = rank g.numbers x.number ∷ x.item.0 ∷ x.place.queue.0 ∷ x.place.cpu.0 ∷ []

abbrev pub told_booking : Gathered → Booking → List ℕ
told_booking g b = rank g.booked b.number ∷ b.item.0 ∷ b.place.queue.0 ∷ b.place.cpu.0 ∷ b.due ∷ []

-- which of these hold up a ticket
unfoldable pub told_held_up : List Entry → Ticket → List Queueing → List ℕ
told_held_up past t xs = told_list (λ (x : Queueing). told_flag (holds_up past t.number t.call x)) xs

-- whether a flush is served, and by what it is held up; of other tickets that follows from the rest
unfoldable pub told_flush : List Entry → Gathered → Ticket → Call → List ℕ
told_flush past g t (call.Flush q) =
    flag (is_some (serving_from past q.0 t.number)) ∷ told_held_up past t g.unstarted ++ told_held_up past t g.running
told_flush past g t c = []

abbrev pub told_ticket : List Entry → Gathered → Ticket → List ℕ
told_ticket past g t = rank g.numbers t.number ∷ t.caller.0 ∷ numbers_of_call t.call ++ told_flush past g t t.call

unfoldable pub told_gathered : Layout → List Entry → Gathered → List ℕ
told_gathered s past g =
    told_list (told_unstarted s past g) g.unstarted
    ++ told_list (told_running g) g.running
    ++ told_list (told_ticket past g) g.tickets
    ++ told_list (told_booking g) g.bookings

-- ---- queues, pools and workers

abbrev pub told_queue : Layout → List Entry → ℕ → List ℕ
told_queue s past q = flag (is_gone past q) ∷ max_active s past q ∷ []

unfoldable pub told_queues : Layout → List Entry → List ℕ
told_queues s past = flat_map (told_queue s past) (range_with_len 0 (length s.queues))

abbrev pub told_slot : List Entry → Gathered → WorkerId → List ℕ
told_slot past g w = mark g.numbers (run past w) ∷ flag (is_asleep past w) ∷ flag (is_enlisted past w) ∷ []

abbrev pub told_slots : Layout → List Entry → Gathered → PoolId → List ℕ
told_slots s past g pool = flat_map (λ k. told_slot past g (worker_at pool k)) (range_with_len 0 s.workers)

abbrev pub told_rank : Gathered → Queueing → List ℕ
told_rank g x = rank g.numbers x.number ∷ []

-- what a pool lists, and its workers
abbrev pub told_pool : Layout → List Entry → Gathered → PoolId → List ℕ
told_pool s past g pool =
    told_list (told_rank g) (worklist s past pool) ++ told_slots s past g pool

abbrev pub told_cpu : Layout → List Entry → Gathered → ℕ → List ℕ
told_cpu s past g cpu = told_pool s past g (pool_of cpu false) ++ told_pool s past g (pool_of cpu true)

unfoldable pub told_pools : Layout → List Entry → Gathered → List ℕ
told_pools s past g = flat_map (told_cpu s past g) (range_with_len 0 s.cpus)

abbrev pub told_times : List Entry → List ℕ
told_times past = length past ∷ now past ∷ flag (is_frozen past) ∷ []

unfoldable pub told_history : Layout → List Entry → Gathered → List ℕ
told_history s past g =
    told_times past ++ told_gathered s past g ++ told_queues s past ++ told_pools s past g

-- ---- where callers and workers stand

-- a ticket by which a party waits, if it is unended
abbrev pub still_unended : List Entry → ℕ → Option ℕ
still_unended past n = if is_some (find (ticket_has_number n) (unended_tickets past)) then Some n else None

abbrev pub told_wait : List Entry → Gathered → Ticketed → List ℕ
told_wait past g w = mark g.numbers (still_unended past w.ticket) ∷ numbers_of_call w.call

abbrev pub told_caller : List Entry → Gathered → CallerAt → List ℕ
told_caller past g at = at.id.0 ∷ at.next ∷ told_option (told_wait past g) at.wait

abbrev pub told_doing : List Entry → Gathered → Doing → List ℕ
told_doing past g Acts = 0 ∷ []
told_doing past g (AtGate gate slept) = 1 ∷ gate ∷ flag slept ∷ []
told_doing past g (AtLock lock slept) = 2 ∷ lock ∷ flag slept ∷ []
told_doing past g (Waits caller w) = 3 ∷ caller ∷ told_wait past g w

abbrev pub told_run : List Entry → Gathered → RunAt → List ℕ
told_run past g run = run.item.0 ∷ run.next ∷ told_doing past g run.doing

abbrev pub told_worker : List Entry → Gathered → WorkerAt → List ℕ
told_worker past g at =
    at.id.pool.cpu.0 ∷ flag at.id.pool.high ∷ at.id.index ∷ told_option (told_run past g) at.run

abbrev pub told_lock : Option Holder → List ℕ
told_lock None = 0 ∷ []
told_lock (Some (holders.Caller c)) = 1 ∷ c.0 ∷ []
told_lock (Some (holders.Run i)) = 2 ∷ i.0 ∷ []

abbrev pub told_number : ℕ → List ℕ
told_number n = n ∷ []

-- the gates, the locks, and the callers that may be lent
abbrev pub told_doors : Stand → List ℕ
told_doors p = told_list told_flag p.gates ++ told_list told_lock p.locks ++ told_list told_number p.free

unfoldable pub told_parties : Gathered → Stand → List ℕ
told_parties g p =
    told_list (told_caller (past_in p.history) g) p.callers
    ++ told_list (told_worker (past_in p.history) g) p.workers
    ++ told_doors p

-- ---- the key

abbrev pub told_by : Gathered → Stand → List ℕ
told_by g p = told_history p.history.layout (past_in p.history) g ++ told_parties g p

abbrev pub told : Stand → List ℕ
told p = told_by (gathered p.history.layout (past_in p.history)) p

unfoldable pub key_of : Stand → List ℕ
key_of p = codes (told p)
