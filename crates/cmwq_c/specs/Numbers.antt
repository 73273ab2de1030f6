-- What the numbers that cross to C mean: each field of a call and of a reply, and the kinds by their numbers. cmwq.h
-- has the same tables.
use Rattle.cmwq_c.specs.Common.{not, Who, Caller, Worker, Call, Reply, Entry, Layout, layout_of}
use Rattle.std.specs.Prelude.{◌≡◌, ℕ, Bool, true, false, ◌==◌, if◌then◌else◌, List, map, Option, None, Some}
use Rattle.cmwq_model.specs.declared.id.CpuId.{CpuId}
use Rattle.cmwq_model.specs.declared.id.ItemId.{ItemId}
use Rattle.cmwq_model.specs.declared.id.QueueId.{QueueId}
use Rattle.cmwq_model.specs.declared.id.WorkerId.{WorkerId}
use Rattle.cmwq_model.specs.declared.shape.Counts.{Counts}
use Rattle.cmwq_model.specs.declared.shape.QueueShape.{QueueShape}
use Rattle.cmwq_model.specs.declared.call.Call.TheVariants as call
use Rattle.cmwq_model.specs.declared.reply.Reply.TheVariants as reply
use Rattle.cmwq_c.specs.declared.numbers.ShapeNumbers.{ShapeNumbers}
use Rattle.cmwq_c.specs.declared.numbers.QueueNumbers.{QueueNumbers}
use Rattle.cmwq_c.specs.declared.numbers.WhoNumbers.{WhoNumbers}
use Rattle.cmwq_c.specs.declared.numbers.CallNumbers.{CallNumbers}
use Rattle.cmwq_c.specs.declared.numbers.ReplyNumbers.{ReplyNumbers}
use Rattle.cmwq_c.specs.declared.numbers.EntryNumbers.{EntryNumbers}

-- a flag is set where it isn't 0
abbrev pub queue_of_numbers : QueueNumbers → QueueShape
queue_of_numbers n =
    record {
      max_active = n.max_active;
      high = not (n.high == 0);
      intensive = not (n.intensive == 0);
      freezable =
          not (n.freezable == 0);
    }

abbrev pub counts_of_numbers : ShapeNumbers → Counts
counts_of_numbers n = record { cpus = n.cpus; workers = n.workers; callers = n.callers; items = n.items; room = n.room }

abbrev pub shape_of : ShapeNumbers → List QueueNumbers → Layout
shape_of n queues = layout_of (counts_of_numbers n) (map queue_of_numbers queues)

-- 0 a caller, 1 a worker of a CPU's normal pool, 2 one of its high pool
abbrev pub worker_of_numbers : Bool → WhoNumbers → Who
worker_of_numbers high n =
    Worker (record { pool = record { cpu = record { 0 = n.cpu }; high = high }; index = n.index })

abbrev pub who_of_numbers : WhoNumbers → Option Who
who_of_numbers n = if n.kind == 0 then Some (Caller (record { 0 = n.index }))
    else (if n.kind == 1 then Some (worker_of_numbers false n)
    else (if n.kind == 2 then Some (worker_of_numbers true n) else None))

-- a worker's numbers alone
abbrev pub worker_in : Option Who → Option WorkerId
worker_in (Some (Worker w)) = Some w
worker_in who = None

abbrev pub worker_meant : WhoNumbers → Option WorkerId
worker_meant n = worker_in (who_of_numbers n)

abbrev item_of_call : CallNumbers → ItemId
item_of_call n = record { 0 = n.item }

abbrev queue_of_call : CallNumbers → QueueId
queue_of_call n = record { 0 = n.queue }

abbrev cpu_of_call : CallNumbers → CpuId
cpu_of_call n = record { 0 = n.cpu }

-- the call of each kind
unfoldable pub call_of_numbers : CallNumbers → Option Call
call_of_numbers n =
    if n.kind == 0 then Some (call.Queue (item_of_call n) (queue_of_call n) (cpu_of_call n)) else (
    if n.kind == 1 then Some (call.Delay (item_of_call n) (queue_of_call n) (cpu_of_call n) n.number) else (
    if n.kind == 2 then Some (call.Modify (item_of_call n) (queue_of_call n) (cpu_of_call n) n.number) else (
    if n.kind == 3 then Some (call.Cancel (item_of_call n)) else (
    if n.kind == 4 then Some (call.Tick n.number) else (
    if n.kind == 5 then Some call.Fire else (
    if n.kind == 6 then Some (call.Flush (queue_of_call n)) else (
    if n.kind == 7 then Some (call.Drain (queue_of_call n)) else (
    if n.kind == 8 then Some (call.FlushItem (item_of_call n)) else (
    if n.kind == 9 then Some (call.FlushDelayed (item_of_call n)) else (
    if n.kind == 10 then Some (call.CancelSync (item_of_call n)) else (
    if n.kind == 11 then Some (call.End n.ticket) else (
    if n.kind == 12 then Some call.Take else (
    if n.kind == 13 then Some call.Finish else (
    if n.kind == 14 then Some call.Sleep else (
    if n.kind == 15 then Some call.Wake else (
    if n.kind == 16 then Some call.Retire else (
    if n.kind == 17 then Some (call.SetMax (queue_of_call n) n.number) else (
    if n.kind == 18 then Some call.Freeze else (
    if n.kind == 19 then Some call.Thaw else (
    if n.kind == 20 then Some (call.Destroy (queue_of_call n)) else (
    None)))))))))))))))))))))

-- who calls what
abbrev pub both : Option Who → Option Call → Option (Who × Call)
both (Some who) (Some call) = Some (who, call)
both who call = None

abbrev pub asked_of : CallNumbers → Option (Who × Call)
asked_of n = both (who_of_numbers n.who) (call_of_numbers n)

-- the numbers of each reply: k and n are its number and other, a tick and a max_active its number; what it doesn't have
-- is 0
abbrev pub plain : ℕ → ReplyNumbers
plain kind = record { number = 0; other = 0; item = 0; kind = kind }

abbrev pub with_number : ℕ → ℕ → ReplyNumbers
with_number kind n = record { number = n; other = 0; item = 0; kind = kind }

abbrev pub with_two : ℕ → ℕ → ℕ → ReplyNumbers
with_two kind n m = record { number = n; other = m; item = 0; kind = kind }

unfoldable pub reply_numbers : Reply → ReplyNumbers
reply_numbers (reply.Yes k) = with_number 0 k
reply_numbers (reply.Booked t) = with_number 1 t
reply_numbers (reply.Again k) = with_number 2 k
reply_numbers (reply.Rebooked t) = with_number 3 t
reply_numbers reply.No = plain 4
reply_numbers reply.Foreign = plain 5
reply_numbers reply.Draining = plain 6
reply_numbers reply.Misuse = plain 7
reply_numbers (reply.Cancelled n) = with_number 8 n
reply_numbers reply.Unbooked = plain 9
reply_numbers (reply.Now t) = with_number 10 t
reply_numbers (reply.Fired i k) = record { number = k; other = 0; item = i.0; kind = 11 }
reply_numbers reply.Nothing = plain 12
reply_numbers (reply.Ticket k) = with_number 13 k
reply_numbers (reply.TicketQueued k) = with_number 14 k
reply_numbers (reply.TicketCancelled k n) = with_two 15 k n
reply_numbers (reply.TicketUnbooked k) = with_number 16 k
reply_numbers (reply.TicketNo k) = with_number 17 k
reply_numbers reply.Idle = plain 18
reply_numbers reply.Crowded = plain 19
reply_numbers reply.Done = plain 20
reply_numbers (reply.Waiting n) = with_number 21 n
reply_numbers (reply.Started n) = with_number 22 n
reply_numbers (reply.StartedEnlist n x) = with_two 23 n x
reply_numbers reply.Held = plain 24
reply_numbers (reply.Finished n) = with_number 25 n
reply_numbers reply.Slept = plain 26
reply_numbers reply.Woke = plain 27
reply_numbers reply.Retired = plain 28
reply_numbers reply.Kept = plain 29
reply_numbers (reply.Width w) = with_number 30 w
reply_numbers reply.Frozen = plain 31
reply_numbers reply.Thawed = plain 32
reply_numbers reply.Gone = plain 33
reply_numbers reply.Timers = plain 34

-- the numbers of each call, as an entry has them; what it doesn't have is 0
abbrev pub who_numbers : Who → WhoNumbers
who_numbers (Caller c) = record { kind = 0; index = c.0; cpu = 0 }
who_numbers (Worker w) = record { kind = if w.pool.high then 2 else 1; index = w.index; cpu = w.pool.cpu.0 }

abbrev pub bare : WhoNumbers → ℕ → CallNumbers
bare who kind = record { ticket = 0; number = 0; item = 0; kind = kind; queue = 0; cpu = 0; who = who }

abbrev pub numbers_of_item : WhoNumbers → ℕ → ItemId → CallNumbers
numbers_of_item who kind i = record (bare who kind) { item = i.0 }

abbrev pub of_queue : WhoNumbers → ℕ → QueueId → CallNumbers
of_queue who kind q = record (bare who kind) { queue = q.0 }

abbrev pub of_place : WhoNumbers → ℕ → ItemId → QueueId → CpuId → ℕ → CallNumbers
of_place who kind i q c ticks =
    record { ticket = 0; number = ticks; item = i.0; kind = kind; queue = q.0; cpu = c.0; who = who }

unfoldable pub call_numbers : WhoNumbers → Call → CallNumbers
call_numbers who (call.Queue i q c) = of_place who 0 i q c 0
call_numbers who (call.Delay i q c t) = of_place who 1 i q c t
call_numbers who (call.Modify i q c t) = of_place who 2 i q c t
call_numbers who (call.Cancel i) = numbers_of_item who 3 i
call_numbers who (call.Tick t) = record (bare who 4) { number = t }
call_numbers who call.Fire = bare who 5
call_numbers who (call.Flush q) = of_queue who 6 q
call_numbers who (call.Drain q) = of_queue who 7 q
call_numbers who (call.FlushItem i) = numbers_of_item who 8 i
call_numbers who (call.FlushDelayed i) = numbers_of_item who 9 i
call_numbers who (call.CancelSync i) = numbers_of_item who 10 i
call_numbers who (call.End k) = record (bare who 11) { ticket = k }
call_numbers who call.Take = bare who 12
call_numbers who call.Finish = bare who 13
call_numbers who call.Sleep = bare who 14
call_numbers who call.Wake = bare who 15
call_numbers who call.Retire = bare who 16
call_numbers who (call.SetMax q n) = record (of_queue who 17 q) { number = n }
call_numbers who call.Freeze = bare who 18
call_numbers who call.Thaw = bare who 19
call_numbers who (call.Destroy q) = of_queue who 20 q

abbrev pub entry_numbers : Entry → EntryNumbers
entry_numbers e =
    record { serial = e.serial; call = call_numbers (who_numbers e.who) e.call; reply = reply_numbers e.reply }

-- The numbers of a call are read again as it, so no two calls have the same.
abbrev pub CallNumbersReadAgain : Type 0
CallNumbersReadAgain = (who : Who) (c : Call) → asked_of (call_numbers (who_numbers who) c) ≡ Some (who, c)

-- No two replies have the same numbers.
abbrev pub RepliesStandApart : Type 0
RepliesStandApart = (r s : Reply) → reply_numbers r ≡ reply_numbers s → r ≡ s
