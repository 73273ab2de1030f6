-- Which calls a book may be asked to answer.
use Rattle.std.specs.Prelude.{◌<◌}
use Rattle.cmwq_core.specs.Common.{length, Call, Layout}
use Rattle.cmwq_model.specs.declared.call.Call.TheVariants as call

-- the numbers of the call are inside the layout
abbrev pub IsCallInside : Layout → Call → Type 0
IsCallInside s (call.Queue i q c) = (i.0 < s.items) × (q.0 < length s.queues)
IsCallInside s (call.Delay i q c t) = (i.0 < s.items) × (q.0 < length s.queues)
IsCallInside s (call.Modify i q c t) = (i.0 < s.items) × (q.0 < length s.queues)
IsCallInside s (call.Cancel i) = i.0 < s.items
IsCallInside s (call.Flush q) = q.0 < length s.queues
IsCallInside s (call.Drain q) = q.0 < length s.queues
IsCallInside s (call.FlushItem i) = i.0 < s.items
IsCallInside s (call.FlushDelayed i) = i.0 < s.items
IsCallInside s (call.CancelSync i) = i.0 < s.items
IsCallInside s (call.SetMax q n) = q.0 < length s.queues
IsCallInside s (call.Destroy q) = q.0 < length s.queues
IsCallInside s c = Unit {0}
