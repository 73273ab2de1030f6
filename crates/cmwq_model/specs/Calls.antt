-- What single entries say: by whom they are, of which item, and which entry has a number. A history is a list of
-- entries with the newest first, called past. So the number of the entry before which past lies is the length of past.
use Rattle.std.specs.Prelude.{ℕ, suc, ◌+◌, ◌-◌, Bool, true, false, ◌&&◌, ◌==◌, if◌then◌else◌, List, [], ◌∷◌, length}
use Rattle.std.specs.Prelude.{slice_get, count_by, Option, Some, None, option_and_then, nat_lt}
use Rattle.std.specs.Option.{option_or}
use mathlib.Core.Bool.{beq}
use Rattle.cmwq_model.specs.declared.id.ItemId.{ItemId}
use Rattle.cmwq_model.specs.declared.id.PoolId.{PoolId}
use Rattle.cmwq_model.specs.declared.id.WorkerId.{WorkerId}
use Rattle.cmwq_model.specs.declared.id.Who.{Who}
use Rattle.cmwq_model.specs.declared.id.Who.TheVariants.{Caller, Worker}
use Rattle.cmwq_model.specs.declared.call.Call.{Call}
use Rattle.cmwq_model.specs.declared.call.Call.TheVariants as call
use Rattle.cmwq_model.specs.declared.reply.Reply.{Reply}
use Rattle.cmwq_model.specs.declared.reply.Reply.TheVariants as reply
use Rattle.cmwq_model.specs.declared.entry.Entry.{Entry}

-- the option is this number
abbrev pub is_at : Option ℕ → ℕ → Bool
is_at None n = false
is_at (Some m) n = m == n

abbrev pub same_pool : PoolId → PoolId → Bool
same_pool p q = (p.cpu.0 == q.cpu.0) && beq p.high q.high

abbrev pub same_worker : WorkerId → WorkerId → Bool
same_worker v w = same_pool v.pool w.pool && (v.index == w.index)

abbrev pub same_who : Who → Who → Bool
same_who (Caller c) (Caller d) = c.0 == d.0
same_who (Worker v) (Worker w) = same_worker v w
same_who (Caller c) (Worker w) = false
same_who (Worker v) (Caller d) = false

abbrev pub is_by : Who → Entry → Bool
is_by who e = same_who e.who who

abbrev pub worker_of : Who → Option WorkerId
worker_of (Worker w) = Some w
worker_of (Caller c) = None

-- the item that stands in a call, or in the reply of a fire
abbrev pub item_called : Call → Option ℕ
item_called (call.Queue i q c) = Some i.0
item_called (call.Delay i q c t) = Some i.0
item_called (call.Modify i q c t) = Some i.0
item_called (call.Cancel i) = Some i.0
item_called (call.FlushItem i) = Some i.0
item_called (call.FlushDelayed i) = Some i.0
item_called (call.CancelSync i) = Some i.0
item_called c = None

abbrev pub item_fired : Reply → Option ℕ
item_fired (reply.Fired i k) = Some i.0
item_fired r = None

abbrev pub item_of : Entry → Option ℕ
item_of e = option_or (item_called e.call) (item_fired e.reply)

-- the number of an item, if there is one
abbrev pub item_number : Option ItemId → Option ℕ
item_number None = None
item_number (Some i) = Some i.0

abbrev pub is_of_item : ℕ → Entry → Bool
is_of_item i e = is_at (item_of e) i

-- the calls that let time go by, and those that wait until a queue is empty and leave it to be used again
abbrev pub is_tick : Call → Bool
is_tick (call.Tick t) = true
is_tick c = false

abbrev pub is_drain : Call → Bool
is_drain (call.Drain q) = true
is_drain c = false

-- the entry with this number, and its item
abbrev pub entry_at : List Entry → ℕ → Option Entry
entry_at past n = if nat_lt n (length past) then slice_get past (length past - suc n) else None

abbrev pub item_at : List Entry → ℕ → Option ℕ
item_at past n = option_and_then item_of (entry_at past n)

-- how many entries a caller or a worker has: the serial of its next
abbrev pub serial_of : List Entry → Who → ℕ
serial_of past who = count_by (is_by who) past

-- time: the ticks that were handed in so far
abbrev pub ticks_told : Call → ℕ
ticks_told (call.Tick t) = t
ticks_told c = 0

unfoldable pub now : List Entry → ℕ
now [] = 0
now (e ∷ past) = now past + ticks_told e.call
