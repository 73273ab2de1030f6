-- The figures of a history that count its entries, each by a key.
use Rattle.std.specs.Prelude.{ℕ, ◌+◌, ◌*◌, if◌then◌else◌, List, length, Option, Some, None, option_map}
use Rattle.cmwq_model.specs.declared.id.WorkerId.{WorkerId}
use Rattle.cmwq_model.specs.declared.id.Who.{Who}
use Rattle.cmwq_model.specs.declared.id.Who.TheVariants.{Caller, Worker}
use Rattle.cmwq_model.specs.declared.reply.Reply.{Reply}
use Rattle.cmwq_model.specs.declared.reply.Reply.TheVariants as reply
use Rattle.cmwq_model.specs.declared.entry.Entry.{Entry}
use Rattle.cmwq_model.specs.declared.record.Queueing.{Queueing}
use Rattle.cmwq_model.specs.declared.record.Start.{Start}
use Rattle.cmwq_model.specs.declared.record.Ticket.{Ticket}
use Rattle.cmwq_model.specs.Prelude.{Layout, most_cpus, most_workers, opening, start_in, ticket_in}
use Rattle.cmwq_theory_steps.specs.Endings.{ending}
use Rattle.cmwq_refinement.specs.Flights.{starting}
use Rattle.cmwq_pwq.specs.Pwqs.{place_of}
use Rattle.cmwq_summary.specs.Tallies.{Key, tally}
use Rattle.cmwq_state.specs.declared.effect.Effect.{Effect}
use Rattle.cmwq_summary.specs.declared.counter.Counter.{Counter}
use Rattle.cmwq_summary.specs.declared.counter.Counter.TheVariants as counter
use Rattle.cmwq_summary.specs.Kinds.{call_kind, call_kinds, reply_kind, reply_kinds}

-- ---- what is numbered

abbrev pub number_of_item : Queueing → ℕ
number_of_item x = x.item.0

-- queues on CPUs: as many numbers a queue as there may be CPUs
abbrev pub place_number : Queueing → ℕ
place_number x = place_of x.place.queue.0 x.place.cpu.0

-- workers: as many numbers a CPU as its two pools may have workers, first those of its normal pool
abbrev pub worker_number : WorkerId → ℕ
worker_number w = 2 * most_workers * w.pool.cpu.0 + (if w.pool.high then most_workers else 0) + w.index

abbrev pub caller_in : Who → Option ℕ
caller_in (Caller c) = Some c.0
caller_in (Worker w) = None

abbrev pub caller_number : Ticket → ℕ
caller_number t = t.caller.0

-- the queueing that an entry cancels: the one that it ends otherwise than by a finish
abbrev pub cancelled_from : Reply → Option Queueing → Option Queueing
cancelled_from (reply.Finished n) ended = None
cancelled_from r ended = ended

-- ---- what is counted

-- the key under which an entry is counted that opens, starts and ends these queueings, and gives this ticket
abbrev pub key_by : Counter → Entry → Option Queueing → Option Queueing → Option Queueing → Option Ticket → Option ℕ
key_by counter.Calls e opened started ended given = Some (call_kind e.call)
key_by counter.Replies e opened started ended given = Some (reply_kind e.reply)
key_by counter.Queueings e opened started ended given = option_map place_number opened
key_by counter.Starts e opened started ended given = option_map place_number started
key_by counter.Cancels e opened started ended given = option_map place_number (cancelled_from e.reply ended)
key_by counter.WorkerRuns e opened started ended given =
    option_map (λ (start : Start). worker_number start.worker) (start_in e)
key_by counter.ItemRuns e opened started ended given = option_map number_of_item started
key_by counter.ItemCancels e opened started ended given = option_map number_of_item (cancelled_from e.reply ended)
key_by counter.CallerCalls e opened started ended given = caller_in e.who
key_by counter.CallerTickets e opened started ended given = option_map caller_number given

abbrev pub key_of : Counter → Key
key_of c past e = key_by c e (opening past e) (starting past e) (ending past e) (ticket_in e (length past))

abbrev pub key_from : Counter → Effect → Option ℕ
key_from c t = key_by c t.entry t.opened t.started t.ended t.begun

-- how many entries are counted under a key
abbrev pub counted : Counter → List Entry → ℕ → ℕ
counted c past k = tally (key_of c) past k

-- how many keys there are
abbrev pub keys_of : Layout → Counter → ℕ
keys_of s counter.Calls = call_kinds
keys_of s counter.Replies = reply_kinds
keys_of s counter.Queueings = most_cpus * length s.queues
keys_of s counter.Starts = most_cpus * length s.queues
keys_of s counter.Cancels = most_cpus * length s.queues
keys_of s counter.WorkerRuns = 2 * most_workers * s.cpus
keys_of s counter.ItemRuns = s.items
keys_of s counter.ItemCancels = s.items
keys_of s counter.CallerCalls = s.callers
keys_of s counter.CallerTickets = s.callers

-- their order
abbrev pub number_of : Counter → ℕ
number_of counter.Calls = 0
number_of counter.Replies = 1
number_of counter.Queueings = 2
number_of counter.Starts = 3
number_of counter.Cancels = 4
number_of counter.WorkerRuns = 5
number_of counter.ItemRuns = 6
number_of counter.ItemCancels = 7
number_of counter.CallerCalls = 8
number_of counter.CallerTickets = 9
