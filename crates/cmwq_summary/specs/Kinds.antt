-- The kinds of calls and replies, by number: replies of one first word are of one kind.
use Rattle.std.specs.Prelude.{ℕ}
use Rattle.cmwq_model.specs.declared.call.Call.{Call}
use Rattle.cmwq_model.specs.declared.call.Call.TheVariants as call
use Rattle.cmwq_model.specs.declared.reply.Reply.{Reply}
use Rattle.cmwq_model.specs.declared.reply.Reply.TheVariants as reply

abbrev pub call_kinds : ℕ
call_kinds = 21

unfoldable pub call_kind : Call → ℕ
call_kind (call.Queue i q c) = 0
call_kind (call.Delay i q c t) = 1
call_kind (call.Modify i q c t) = 2
call_kind (call.Cancel i) = 3
call_kind (call.Tick t) = 4
call_kind call.Fire = 5
call_kind (call.Flush q) = 6
call_kind (call.Drain q) = 7
call_kind (call.FlushItem i) = 8
call_kind (call.FlushDelayed i) = 9
call_kind (call.CancelSync i) = 10
call_kind (call.End t) = 11
call_kind call.Take = 12
call_kind call.Finish = 13
call_kind call.Sleep = 14
call_kind call.Wake = 15
call_kind call.Retire = 16
call_kind (call.SetMax q n) = 17
call_kind call.Freeze = 18
call_kind call.Thaw = 19
call_kind (call.Destroy q) = 20

abbrev pub reply_kinds : ℕ
reply_kinds = 30

unfoldable pub reply_kind : Reply → ℕ
reply_kind (reply.Yes k) = 0
reply_kind (reply.Booked d) = 1
reply_kind (reply.Again k) = 2
reply_kind (reply.Rebooked d) = 3
reply_kind reply.No = 4
reply_kind reply.Foreign = 5
reply_kind reply.Draining = 6
reply_kind reply.Misuse = 7
reply_kind (reply.Cancelled n) = 8
reply_kind reply.Unbooked = 9
reply_kind (reply.Now t) = 10
reply_kind (reply.Fired i k) = 11
reply_kind reply.Nothing = 12
reply_kind (reply.Ticket k) = 13
reply_kind (reply.TicketQueued k) = 13
reply_kind (reply.TicketCancelled k n) = 13
reply_kind (reply.TicketUnbooked k) = 13
reply_kind (reply.TicketNo k) = 13
reply_kind reply.Idle = 14
reply_kind reply.Crowded = 15
reply_kind reply.Done = 16
reply_kind (reply.Waiting n) = 17
reply_kind (reply.Started n) = 18
reply_kind (reply.StartedEnlist n x) = 18
reply_kind reply.Held = 19
reply_kind (reply.Finished n) = 20
reply_kind reply.Slept = 21
reply_kind reply.Woke = 22
reply_kind reply.Retired = 23
reply_kind reply.Kept = 24
reply_kind (reply.Width n) = 25
reply_kind reply.Frozen = 26
reply_kind reply.Thawed = 27
reply_kind reply.Gone = 28
reply_kind reply.Timers = 29
