-- The numbers of calls and replies are read again as themselves.
use Rattle.cmwq_c.specs.Common.{refl, sym, ap, ◌∙◌, Who, Caller, Worker, Call, Reply}
use Rattle.std.proofs.Common.{◌≡◌, true, false, ◌==◌, if◌then◌else◌, Some}
use Rattle.cmwq_model.specs.declared.call.Call.TheVariants as call
use Rattle.cmwq_model.specs.declared.reply.Reply.TheVariants as reply
use Rattle.cmwq_c.specs.declared.numbers.WhoNumbers.{WhoNumbers}
use Rattle.cmwq_c.specs.declared.numbers.ReplyNumbers.{ReplyNumbers}
use Rattle.cmwq_c.specs.Numbers.{who_of_numbers, call_of_numbers, who_numbers, call_numbers, reply_numbers}
use Rattle.cmwq_c.specs.Numbers.{CallNumbersReadAgain, RepliesStandApart}

call_again : (w : WhoNumbers) (c : Call) → call_of_numbers (call_numbers w c) ≡ Some c
unfolding call_of_numbers call_numbers
call_again w (call.Queue i q c) = refl
call_again w (call.Delay i q c t) = refl
call_again w (call.Modify i q c t) = refl
call_again w (call.Cancel i) = refl
call_again w (call.Tick t) = refl
call_again w call.Fire = refl
call_again w (call.Flush q) = refl
call_again w (call.Drain q) = refl
call_again w (call.FlushItem i) = refl
call_again w (call.FlushDelayed i) = refl
call_again w (call.CancelSync i) = refl
call_again w (call.End k) = refl
call_again w call.Take = refl
call_again w call.Finish = refl
call_again w call.Sleep = refl
call_again w call.Wake = refl
call_again w call.Retire = refl
call_again w (call.SetMax q n) = refl
call_again w call.Freeze = refl
call_again w call.Thaw = refl
call_again w (call.Destroy q) = refl

who_stays : (w : WhoNumbers) (c : Call) → (call_numbers w c).who ≡ w
unfolding call_numbers
who_stays w (call.Queue i q c) = refl
who_stays w (call.Delay i q c t) = refl
who_stays w (call.Modify i q c t) = refl
who_stays w (call.Cancel i) = refl
who_stays w (call.Tick t) = refl
who_stays w call.Fire = refl
who_stays w (call.Flush q) = refl
who_stays w (call.Drain q) = refl
who_stays w (call.FlushItem i) = refl
who_stays w (call.FlushDelayed i) = refl
who_stays w (call.CancelSync i) = refl
who_stays w (call.End k) = refl
who_stays w call.Take = refl
who_stays w call.Finish = refl
who_stays w call.Sleep = refl
who_stays w call.Wake = refl
who_stays w call.Retire = refl
who_stays w (call.SetMax q n) = refl
who_stays w call.Freeze = refl
who_stays w call.Thaw = refl
who_stays w (call.Destroy q) = refl

pub who_again : (who : Who) → who_of_numbers (who_numbers who) ≡ Some who
who_again (Caller c) = refl
who_again (Worker w) = by_pool w.pool.high refl
  where
    by_pool : (high : _) → w.pool.high ≡ high → who_of_numbers (who_numbers (Worker w)) ≡ Some (Worker w)
    by_pool true h = rw h refl
    by_pool false h = rw h refl

pub calls_read_again : CallNumbersReadAgain
unfolding call_of_numbers
calls_read_again who c =
    rw (who_stays (who_numbers who) c) (rw (who_again who) (rw (call_again (who_numbers who) c) refl))

-- the reply of some numbers
reply_of : ReplyNumbers → Reply
reply_of n =
    if n.kind == 0 then (reply.Yes n.number) else (
    if n.kind == 1 then (reply.Booked n.number) else (
    if n.kind == 2 then (reply.Again n.number) else (
    if n.kind == 3 then (reply.Rebooked n.number) else (
    if n.kind == 4 then reply.No else (
    if n.kind == 5 then reply.Foreign else (
    if n.kind == 6 then reply.Draining else (
    if n.kind == 7 then reply.Misuse else (
    if n.kind == 8 then (reply.Cancelled n.number) else (
    if n.kind == 9 then reply.Unbooked else (
    if n.kind == 10 then (reply.Now n.number) else (
    if n.kind == 11 then (reply.Fired (record { 0 = n.item }) n.number) else (
    if n.kind == 12 then reply.Nothing else (
    if n.kind == 13 then (reply.Ticket n.number) else (
    if n.kind == 14 then (reply.TicketQueued n.number) else (
    if n.kind == 15 then (reply.TicketCancelled n.number n.other) else (
    if n.kind == 16 then (reply.TicketUnbooked n.number) else (
    if n.kind == 17 then (reply.TicketNo n.number) else (
    if n.kind == 18 then reply.Idle else (
    if n.kind == 19 then reply.Crowded else (
    if n.kind == 20 then reply.Done else (
    if n.kind == 21 then (reply.Waiting n.number) else (
    if n.kind == 22 then (reply.Started n.number) else (
    if n.kind == 23 then (reply.StartedEnlist n.number n.other) else (
    if n.kind == 24 then reply.Held else (
    if n.kind == 25 then (reply.Finished n.number) else (
    if n.kind == 26 then reply.Slept else (
    if n.kind == 27 then reply.Woke else (
    if n.kind == 28 then reply.Retired else (
    if n.kind == 29 then reply.Kept else (
    if n.kind == 30 then (reply.Width n.number) else (
    if n.kind == 31 then reply.Frozen else (
    if n.kind == 32 then reply.Thawed else (
    if n.kind == 33 then reply.Gone else (
    if n.kind == 34 then reply.Timers else (
    reply.Timers)))))))))))))))))))))))))))))))))))

reply_again : (r : Reply) → reply_of (reply_numbers r) ≡ r
unfolding reply_numbers reply_of
reply_again (reply.Yes k) = refl
reply_again (reply.Booked t) = refl
reply_again (reply.Again k) = refl
reply_again (reply.Rebooked t) = refl
reply_again reply.No = refl
reply_again reply.Foreign = refl
reply_again reply.Draining = refl
reply_again reply.Misuse = refl
reply_again (reply.Cancelled n) = refl
reply_again reply.Unbooked = refl
reply_again (reply.Now t) = refl
reply_again (reply.Fired i k) = refl
reply_again reply.Nothing = refl
reply_again (reply.Ticket k) = refl
reply_again (reply.TicketQueued k) = refl
reply_again (reply.TicketCancelled k n) = refl
reply_again (reply.TicketUnbooked k) = refl
reply_again (reply.TicketNo k) = refl
reply_again reply.Idle = refl
reply_again reply.Crowded = refl
reply_again reply.Done = refl
reply_again (reply.Waiting n) = refl
reply_again (reply.Started n) = refl
reply_again (reply.StartedEnlist n x) = refl
reply_again reply.Held = refl
reply_again (reply.Finished n) = refl
reply_again reply.Slept = refl
reply_again reply.Woke = refl
reply_again reply.Retired = refl
reply_again reply.Kept = refl
reply_again (reply.Width w) = refl
reply_again reply.Frozen = refl
reply_again reply.Thawed = refl
reply_again reply.Gone = refl
reply_again reply.Timers = refl

pub replies_stand_apart : RepliesStandApart
replies_stand_apart r s h = sym (reply_again r) ∙ ap reply_of h ∙ reply_again s
