-- Calls and replies as numbers: that of the kind, and those that stand in it, and 0 for each that it lacks.
use Rattle.std.specs.Prelude.{ℕ, List, [], ◌∷◌}
use Rattle.cmwq_model.specs.declared.call.Call.{Call}
use Rattle.cmwq_model.specs.declared.call.Call.TheVariants as call
use Rattle.cmwq_model.specs.declared.reply.Reply.{Reply}
use Rattle.cmwq_model.specs.declared.reply.Reply.TheVariants as reply

abbrev pub numbers_of_place : ℕ → ℕ → ℕ → ℕ → ℕ → List ℕ
numbers_of_place kind i q c ticks = kind ∷ i ∷ q ∷ c ∷ ticks ∷ []

abbrev pub with_one : ℕ → ℕ → List ℕ
with_one kind n = kind ∷ n ∷ 0 ∷ 0 ∷ 0 ∷ []

unfoldable pub numbers_of_call : Call → List ℕ
numbers_of_call (call.Queue i q c) = numbers_of_place 0 i.0 q.0 c.0 0
numbers_of_call (call.Delay i q c ticks) = numbers_of_place 1 i.0 q.0 c.0 ticks
numbers_of_call (call.Modify i q c ticks) = numbers_of_place 2 i.0 q.0 c.0 ticks
numbers_of_call (call.Cancel i) = with_one 3 i.0
numbers_of_call (call.Tick ticks) = with_one 4 ticks
numbers_of_call call.Fire = with_one 5 0
numbers_of_call (call.Flush q) = with_one 6 q.0
numbers_of_call (call.Drain q) = with_one 7 q.0
numbers_of_call (call.FlushItem i) = with_one 8 i.0
numbers_of_call (call.FlushDelayed i) = with_one 9 i.0
numbers_of_call (call.CancelSync i) = with_one 10 i.0
numbers_of_call (call.End ticket) = with_one 11 ticket
numbers_of_call call.Take = with_one 12 0
numbers_of_call call.Finish = with_one 13 0
numbers_of_call call.Sleep = with_one 14 0
numbers_of_call call.Wake = with_one 15 0
numbers_of_call call.Retire = with_one 16 0
numbers_of_call (call.SetMax q n) = numbers_of_place 17 q.0 n 0 0
numbers_of_call call.Freeze = with_one 18 0
numbers_of_call call.Thaw = with_one 19 0
numbers_of_call (call.Destroy q) = with_one 20 q.0

abbrev pub reply_with : ℕ → ℕ → ℕ → List ℕ
reply_with kind n m = kind ∷ n ∷ m ∷ []

unfoldable pub numbers_of_reply : Reply → List ℕ
numbers_of_reply (reply.Yes k) = reply_with 0 k 0
numbers_of_reply (reply.Booked due) = reply_with 1 due 0
numbers_of_reply (reply.Again k) = reply_with 2 k 0
numbers_of_reply (reply.Rebooked due) = reply_with 3 due 0
numbers_of_reply reply.No = reply_with 4 0 0
numbers_of_reply reply.Foreign = reply_with 5 0 0
numbers_of_reply reply.Draining = reply_with 6 0 0
numbers_of_reply reply.Misuse = reply_with 7 0 0
numbers_of_reply (reply.Cancelled n) = reply_with 8 n 0
numbers_of_reply reply.Unbooked = reply_with 9 0 0
numbers_of_reply (reply.Now t) = reply_with 10 t 0
numbers_of_reply (reply.Fired i k) = reply_with 11 i.0 k
numbers_of_reply reply.Nothing = reply_with 12 0 0
numbers_of_reply (reply.Ticket k) = reply_with 13 k 0
numbers_of_reply (reply.TicketQueued k) = reply_with 14 k 0
numbers_of_reply (reply.TicketCancelled k n) = reply_with 15 k n
numbers_of_reply (reply.TicketUnbooked k) = reply_with 16 k 0
numbers_of_reply (reply.TicketNo k) = reply_with 17 k 0
numbers_of_reply reply.Idle = reply_with 18 0 0
numbers_of_reply reply.Crowded = reply_with 19 0 0
numbers_of_reply reply.Done = reply_with 20 0 0
numbers_of_reply (reply.Waiting n) = reply_with 21 n 0
numbers_of_reply (reply.Started n) = reply_with 22 n 0
numbers_of_reply (reply.StartedEnlist n x) = reply_with 23 n x
numbers_of_reply reply.Held = reply_with 24 0 0
numbers_of_reply (reply.Finished n) = reply_with 25 n 0
numbers_of_reply reply.Slept = reply_with 26 0 0
numbers_of_reply reply.Woke = reply_with 27 0 0
numbers_of_reply reply.Retired = reply_with 28 0 0
numbers_of_reply reply.Kept = reply_with 29 0 0
numbers_of_reply (reply.Width n) = reply_with 30 n 0
numbers_of_reply reply.Frozen = reply_with 31 0 0
numbers_of_reply reply.Thawed = reply_with 32 0 0
numbers_of_reply reply.Gone = reply_with 33 0 0
numbers_of_reply reply.Timers = reply_with 34 0 0
