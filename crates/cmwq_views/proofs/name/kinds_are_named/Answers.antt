use Rattle.std.proofs.Common.{refl}
use Rattle.cmwq_model.specs.declared.call.Call.TheVariants as call
use Rattle.cmwq_model.specs.declared.reply.Reply.TheVariants as reply
use Rattle.cmwq_text.specs.CallText.{call_words}
use Rattle.cmwq_text.specs.ReplyText.{reply_words}
use Rattle.cmwq_text.specs.Keywords.{keyword_text}
use Rattle.cmwq_summary.specs.Kinds.{call_kind, reply_kind}
use Rattle.cmwq_views.specs.Names.{CallsAreNamed, RepliesAreNamed}
use Rattle.cmwq_views.proofs.name.kinds_are_named.Goals as goal

calls_named : CallsAreNamed
unfolding call_words call_kind keyword_text
calls_named (call.Queue a b c) = refl
calls_named (call.Delay a b c d) = refl
calls_named (call.Modify a b c d) = refl
calls_named (call.Cancel a) = refl
calls_named (call.Tick a) = refl
calls_named call.Fire = refl
calls_named (call.Flush a) = refl
calls_named (call.Drain a) = refl
calls_named (call.FlushItem a) = refl
calls_named (call.FlushDelayed a) = refl
calls_named (call.CancelSync a) = refl
calls_named (call.End a) = refl
calls_named call.Take = refl
calls_named call.Finish = refl
calls_named call.Sleep = refl
calls_named call.Wake = refl
calls_named call.Retire = refl
calls_named (call.SetMax a b) = refl
calls_named call.Freeze = refl
calls_named call.Thaw = refl
calls_named (call.Destroy a) = refl

replies_named : RepliesAreNamed
unfolding reply_words reply_kind keyword_text
replies_named (reply.Yes a) = refl
replies_named (reply.Booked a) = refl
replies_named (reply.Again a) = refl
replies_named (reply.Rebooked a) = refl
replies_named reply.No = refl
replies_named reply.Foreign = refl
replies_named reply.Draining = refl
replies_named reply.Misuse = refl
replies_named (reply.Cancelled a) = refl
replies_named reply.Unbooked = refl
replies_named (reply.Now a) = refl
replies_named (reply.Fired a b) = refl
replies_named reply.Nothing = refl
replies_named (reply.Ticket a) = refl
replies_named (reply.TicketQueued a) = refl
replies_named (reply.TicketCancelled a b) = refl
replies_named (reply.TicketUnbooked a) = refl
replies_named (reply.TicketNo a) = refl
replies_named reply.Idle = refl
replies_named reply.Crowded = refl
replies_named reply.Done = refl
replies_named (reply.Waiting a) = refl
replies_named (reply.Started a) = refl
replies_named (reply.StartedEnlist a b) = refl
replies_named reply.Held = refl
replies_named (reply.Finished a) = refl
replies_named reply.Slept = refl
replies_named reply.Woke = refl
replies_named reply.Retired = refl
replies_named reply.Kept = refl
replies_named (reply.Width a) = refl
replies_named reply.Frozen = refl
replies_named reply.Thawed = refl
replies_named reply.Gone = refl
replies_named reply.Timers = refl

pub returns : goal.returns
returns c = record { calls = calls_named; replies = replies_named }
