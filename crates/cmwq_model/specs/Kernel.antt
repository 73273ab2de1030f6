-- What the kernel's call would return for a reply: true or false, or nothing where it has no such answer.
use Rattle.std.specs.Prelude.{Bool, true, false, Option, Some, None}
use Rattle.cmwq_model.specs.declared.call.Call.{Call}
use Rattle.cmwq_model.specs.declared.call.Call.TheVariants as call
use Rattle.cmwq_model.specs.declared.reply.Reply.{Reply}
use Rattle.cmwq_model.specs.declared.reply.Reply.TheVariants as reply

-- queue_work, queue_delayed_work: whether the item was not pending
abbrev pub queue_returns : Reply → Option Bool
queue_returns (reply.Yes k) = Some true
queue_returns (reply.Booked d) = Some true
queue_returns reply.No = Some false
queue_returns r = None

-- mod_delayed_work: whether it was pending
abbrev pub modify_returns : Reply → Option Bool
modify_returns (reply.Again k) = Some true
modify_returns (reply.Rebooked d) = Some true
modify_returns (reply.Yes k) = Some false
modify_returns (reply.Booked d) = Some false
modify_returns r = None

-- cancel_work, cancel_delayed_work: whether it was pending
abbrev pub cancel_returns : Reply → Option Bool
cancel_returns (reply.Cancelled n) = Some true
cancel_returns reply.Unbooked = Some true
cancel_returns reply.No = Some false
cancel_returns r = None

-- cancel_work_sync: whether it was pending
abbrev pub cancel_sync_returns : Reply → Option Bool
cancel_sync_returns (reply.TicketCancelled k n) = Some true
cancel_sync_returns (reply.TicketUnbooked k) = Some true
cancel_sync_returns (reply.TicketNo k) = Some false
cancel_sync_returns r = None

-- flush_work, flush_delayed_work: whether there was something to wait for
abbrev pub flush_item_returns : Reply → Option Bool
flush_item_returns (reply.Ticket k) = Some true
flush_item_returns (reply.TicketQueued k) = Some true
flush_item_returns reply.Idle = Some false
flush_item_returns r = None

abbrev pub kernel_returns : Call → Reply → Option Bool
kernel_returns (call.Queue i q c) r = queue_returns r
kernel_returns (call.Delay i q c t) r = queue_returns r
kernel_returns (call.Modify i q c t) r = modify_returns r
kernel_returns (call.Cancel i) r = cancel_returns r
kernel_returns (call.CancelSync i) r = cancel_sync_returns r
kernel_returns (call.FlushItem i) r = flush_item_returns r
kernel_returns (call.FlushDelayed i) r = flush_item_returns r
kernel_returns c r = None
