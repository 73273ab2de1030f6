-- Values whose numbers are inside the ranges of their types. Code has no others; a law ranges over every number.
use Rattle.std.specs.Prelude.{ℕ, ◌≤◌}
use Rattle.cmwq_model.specs.declared.id.Who.{Who}
use Rattle.cmwq_model.specs.declared.id.Who.TheVariants.{Caller, Worker}
use Rattle.cmwq_model.specs.declared.call.Call.{Call}
use Rattle.cmwq_model.specs.declared.call.Call.TheVariants as call
use Rattle.cmwq_model.specs.declared.reply.Reply.{Reply}
use Rattle.cmwq_model.specs.declared.reply.Reply.TheVariants as reply
use Rattle.cmwq_model.specs.declared.entry.Entry.{Entry}

-- the greatest numbers of the types: of callers, workers, CPUs and queues, of items, of ticks and widths, and of
-- entries and the time
abbrev pub greatest_byte : ℕ
greatest_byte = 255

abbrev pub greatest_short : ℕ
greatest_short = 65535

abbrev pub greatest : ℕ
greatest = 4294967295

abbrev pub greatest_long : ℕ
greatest_long = 18446744073709551615

abbrev pub IsWho : Who → Type 0
IsWho (Caller c) = c.0 ≤ greatest_byte
IsWho (Worker w) = (w.pool.cpu.0 ≤ greatest_byte) × (w.index ≤ greatest_byte)

abbrev pub IsPlace : ℕ → ℕ → ℕ → Type 0
IsPlace i q c = (i ≤ greatest_short) × (q ≤ greatest_byte) × (c ≤ greatest_byte)

-- the numbers of entries, their serials and tickets are at most so great: greatest where a format's words hold no more,
-- else greatest_long
abbrev pub IsCall : ℕ → Call → Type 0
IsCall most (call.Queue i q c) = IsPlace i.0 q.0 c.0
IsCall most (call.Delay i q c ticks) = IsPlace i.0 q.0 c.0 × (ticks ≤ greatest)
IsCall most (call.Modify i q c ticks) = IsPlace i.0 q.0 c.0 × (ticks ≤ greatest)
IsCall most (call.Cancel i) = i.0 ≤ greatest_short
IsCall most (call.Tick ticks) = ticks ≤ greatest
IsCall most call.Fire = Unit {0}
IsCall most (call.Flush q) = q.0 ≤ greatest_byte
IsCall most (call.Drain q) = q.0 ≤ greatest_byte
IsCall most (call.FlushItem i) = i.0 ≤ greatest_short
IsCall most (call.FlushDelayed i) = i.0 ≤ greatest_short
IsCall most (call.CancelSync i) = i.0 ≤ greatest_short
IsCall most (call.End ticket) = ticket ≤ most
IsCall most call.Take = Unit {0}
IsCall most call.Finish = Unit {0}
IsCall most call.Sleep = Unit {0}
IsCall most call.Wake = Unit {0}
IsCall most call.Retire = Unit {0}
IsCall most (call.SetMax q n) = (q.0 ≤ greatest_byte) × (n ≤ greatest)
IsCall most call.Freeze = Unit {0}
IsCall most call.Thaw = Unit {0}
IsCall most (call.Destroy q) = q.0 ≤ greatest_byte

abbrev pub IsReply : ℕ → Reply → Type 0
IsReply most (reply.Yes k) = k ≤ most
IsReply most (reply.Booked due) = due ≤ greatest_long
IsReply most (reply.Again k) = k ≤ most
IsReply most (reply.Rebooked due) = due ≤ greatest_long
IsReply most (reply.Cancelled n) = n ≤ most
IsReply most (reply.Now t) = t ≤ greatest_long
IsReply most (reply.Fired i k) = (i.0 ≤ greatest_short) × (k ≤ most)
IsReply most (reply.Ticket k) = k ≤ most
IsReply most (reply.TicketQueued k) = k ≤ most
IsReply most (reply.TicketCancelled k n) = (k ≤ most) × (n ≤ most)
IsReply most (reply.TicketUnbooked k) = k ≤ most
IsReply most (reply.TicketNo k) = k ≤ most
IsReply most (reply.Waiting n) = n ≤ most
IsReply most (reply.Started n) = n ≤ most
IsReply most (reply.StartedEnlist n x) = (n ≤ most) × (x ≤ greatest_byte)
IsReply most (reply.Finished n) = n ≤ most
IsReply most (reply.Width n) = n ≤ greatest
IsReply most r = Unit {0}

pub record IsEntry (most : ℕ) (e : Entry) : Type 0 where
  pub who : IsWho e.who
  pub serial : e.serial ≤ most
  pub call : IsCall most e.call
  pub reply : IsReply most e.reply
