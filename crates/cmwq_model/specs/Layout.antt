-- What a shape lays down, as plain values, and which calls fit it.
use Rattle.std.specs.Prelude.{ℕ, Bool, true, false, ◌&&◌, List, length, slice_index_or, nat_lt, nat_le}
use Rattle.std.specs.List.{range_with_len, list_all}
use Rattle.cmwq_model.specs.declared.id.PoolId.{PoolId}
use Rattle.cmwq_model.specs.declared.id.Who.{Who}
use Rattle.cmwq_model.specs.declared.id.Who.TheVariants.{Caller, Worker}
use Rattle.cmwq_model.specs.declared.call.Call.{Call}
use Rattle.cmwq_model.specs.declared.call.Call.TheVariants as call
use Rattle.cmwq_model.specs.declared.reply.Reply.{Reply}
use Rattle.cmwq_model.specs.declared.reply.Reply.TheVariants as reply
use Rattle.cmwq_model.specs.declared.entry.Entry.{Entry}
use Rattle.cmwq_model.specs.declared.record.Place.{Place}
use Rattle.cmwq_model.specs.declared.shape.Counts.{Counts}
use Rattle.cmwq_model.specs.declared.shape.QueueShape.{QueueShape}

-- workers is the number in each pool, room the greatest length of a history and what it still owes
pub record Layout : Type 0 where
  pub cpus : ℕ
  pub workers : ℕ
  pub callers : ℕ
  pub items : ℕ
  pub room : ℕ
  pub queues : List QueueShape

abbrev pub layout_of : Counts → List QueueShape → Layout
layout_of n queues =
    record { cpus = n.cpus; workers = n.workers; callers = n.callers; items = n.items; room = n.room; queues = queues }

-- the limits of every shape: how many CPUs, workers of a pool, callers, items and queues it may have, and how great a
-- queue's max_active and the room, which is 2 ^ 62 at most
abbrev pub most_cpus : ℕ
most_cpus = 64

abbrev pub most_workers : ℕ
most_workers = 64

abbrev pub most_callers : ℕ
most_callers = 255

abbrev pub most_items : ℕ
most_items = 65535

abbrev pub most_queues : ℕ
most_queues = 255

abbrev pub most_active : ℕ
most_active = 512

abbrev pub most_room : ℕ
most_room = 4611686018427387904

abbrev pub is_between : ℕ → ℕ → ℕ → Bool
is_between low high n = nat_le low n && nat_le n high

abbrev pub are_counts : ℕ → ℕ → ℕ → ℕ → ℕ → Bool
are_counts cpus workers callers items room = is_between 1 most_cpus cpus && is_between 1 most_workers workers
    && is_between 1 most_callers callers && is_between 1 most_items items && nat_le room most_room

abbrev pub is_queue : QueueShape → Bool
is_queue q = is_between 1 most_active q.max_active

abbrev pub are_queues : List QueueShape → Bool
are_queues queues = is_between 1 most_queues (length queues) && list_all is_queue queues

abbrev pub is_layout : Layout → Bool
is_layout s = are_counts s.cpus s.workers s.callers s.items s.room && are_queues s.queues

-- what stands for a queue that the layout doesn't have
abbrev pub no_queue : QueueShape
no_queue = record { max_active = 0; high = false; intensive = false; freezable = false }

abbrev pub queue_at : Layout → ℕ → QueueShape
queue_at s q = slice_index_or s.queues q no_queue

-- max_active at first: how many queueings of a queue may be active on one CPU
abbrev pub first_width : Layout → ℕ → ℕ
first_width s q = (queue_at s q).max_active

abbrev pub is_freezable : Layout → ℕ → Bool
is_freezable s q = (queue_at s q).freezable

abbrev pub is_intensive : Layout → ℕ → Bool
is_intensive s q = (queue_at s q).intensive

-- the pool in which a queueing at this place runs
abbrev pub pool_at : Layout → Place → PoolId
pool_at s p = record { cpu = p.cpu; high = (queue_at s p.queue.0).high }

-- the indices of a pool's workers
abbrev pub indices : Layout → List ℕ
indices s = range_with_len 0 s.workers

-- the numbers of the call are inside the layout
abbrev pub has_place : Layout → ℕ → ℕ → ℕ → Bool
has_place s i q c = nat_lt i s.items && nat_lt q (length s.queues) && nat_lt c s.cpus

abbrev pub has_numbers : Layout → Call → Bool
has_numbers s (call.Queue i q c) = has_place s i.0 q.0 c.0
has_numbers s (call.Delay i q c t) = has_place s i.0 q.0 c.0
has_numbers s (call.Modify i q c t) = has_place s i.0 q.0 c.0
has_numbers s (call.Cancel i) = nat_lt i.0 s.items
has_numbers s (call.Tick t) = true
has_numbers s call.Fire = true
has_numbers s (call.Flush q) = nat_lt q.0 (length s.queues)
has_numbers s (call.Drain q) = nat_lt q.0 (length s.queues)
has_numbers s (call.FlushItem i) = nat_lt i.0 s.items
has_numbers s (call.FlushDelayed i) = nat_lt i.0 s.items
has_numbers s (call.CancelSync i) = nat_lt i.0 s.items
has_numbers s (call.End t) = true
has_numbers s call.Take = true
has_numbers s call.Finish = true
has_numbers s call.Sleep = true
has_numbers s call.Wake = true
has_numbers s call.Retire = true
has_numbers s (call.SetMax q n) = nat_lt q.0 (length s.queues) && nat_le 1 n
has_numbers s call.Freeze = true
has_numbers s call.Thaw = true
has_numbers s (call.Destroy q) = nat_lt q.0 (length s.queues)

-- whether callers make such a call, and whether workers do
abbrev pub is_callers : Call → Bool
is_callers call.Take = false
is_callers call.Finish = false
is_callers call.Sleep = false
is_callers call.Wake = false
is_callers call.Retire = false
is_callers c = true

abbrev pub is_workers : Call → Bool
is_workers (call.Queue i q c) = true
is_workers (call.Delay i q c t) = true
is_workers (call.Modify i q c t) = true
is_workers (call.Cancel i) = true
is_workers call.Take = true
is_workers call.Finish = true
is_workers call.Sleep = true
is_workers call.Wake = true
is_workers call.Retire = true
is_workers c = false

-- the who is inside the layout, and makes such calls
abbrev pub may_make : Layout → Who → Call → Bool
may_make s (Caller c) call = nat_lt c.0 s.callers && is_callers call
may_make s (Worker w) call = nat_lt w.pool.cpu.0 s.cpus && nat_lt w.index s.workers && is_workers call

abbrev pub fits : Layout → Who → Call → Bool
fits s who call = may_make s who call && has_numbers s call

-- the numbers that stand in a reply are inside the layout, and an entry's who, call and reply are
abbrev pub reply_fits : Layout → Reply → Bool
reply_fits s (reply.Fired i k) = nat_lt i.0 s.items
reply_fits s (reply.StartedEnlist n x) = nat_lt x s.workers
reply_fits s r = true

abbrev pub entry_fits : Layout → Entry → Bool
entry_fits s e = fits s e.who e.call && reply_fits s e.reply
