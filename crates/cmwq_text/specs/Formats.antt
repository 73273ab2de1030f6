-- The three formats of histories. A history of format 2 begins with the line `history 2`, and has the whole grammar.
-- One of format 1 has no such line, and neither freezable queues, nor set_max, freeze, thaw and destroy, nor the
-- replies that came with them. One of format 3 begins with the line `history 3`, and is as one of format 2 but for its
-- limits, those of its lines, its room and its numbers, and for its last line, which says how many entries stand before
-- it. A file of calls has no line of a format and the limits of the older ones, or begins with the line `calls 3` and
-- has those of format 3.
use Rattle.cmwq_text.specs.Words.{◌>>=◌}
use Rattle.std.specs.Prelude.{◌&&◌, ◌||◌, ◌==◌, if◌then◌else◌}
use Rattle.cmwq_text.specs.Common.{ℕ, Bool, true, false, not, List, Option, Some, None, codes, nat_le, bytes_eq, Call}
use Rattle.cmwq_text.specs.Common.{Reply, Entry, Who, Counts, QueueShape, most_queues, most_room, greatest, most_time}
use Rattle.cmwq_model.specs.declared.call.Call.TheVariants as call
use Rattle.cmwq_model.specs.declared.reply.Reply.TheVariants as reply
use Rattle.cmwq_text.specs.CallText.{call_read}
use Rattle.cmwq_text.specs.Numbers.{greatest_number}
use Rattle.cmwq_text.specs.ShapeText.{counts_read, queue_of_history}
use Rattle.cmwq_text.specs.EntryText.{entry_of}

-- the first line of a history of format 2 or 3, without its line feed
abbrev pub version_name : ℕ → List ℕ
version_name version = if version == 3 then codes "history 3" else codes "history 2"

abbrev pub is_version_line : ℕ → List ℕ → Bool
is_version_line version line = bytes_eq line (version_name version)

-- that of a file of calls of format 3
abbrev pub calls_name : List ℕ
calls_name = codes "calls 3"

abbrev pub is_calls_line : ℕ → List ℕ → Bool
is_calls_line version line = version == 3 && bytes_eq line calls_name

-- the limits of formats 1 and 2, and of files of calls without a line of a format: of the numbers of a shape, of the
-- lines after the queues, and of the room
abbrev pub old_cpus : ℕ
old_cpus = 4

abbrev pub old_workers : ℕ
old_workers = 8

abbrev pub old_callers : ℕ
old_callers = 64

abbrev pub old_items : ℕ
old_items = 256

abbrev pub old_queues : ℕ
old_queues = 64

abbrev pub old_lines : ℕ
old_lines = 1000000

abbrev pub old_room : ℕ
old_room = 1000000

-- the lines of format 3: 2 ^ 62 - 1000000, as many entries as a judge takes. Its other limits are those of every shape.
abbrev pub most_lines : ℕ
most_lines = 4611686018426387904

-- what an older format has at most, and a newer one
unfoldable pub of_version : ℕ → ℕ → ℕ → ℕ
of_version old new version = if nat_le 3 version then new else old

abbrev pub line_limit : ℕ → ℕ
line_limit version = of_version old_lines most_lines version

abbrev pub room_limit : ℕ → ℕ
room_limit version = of_version old_room most_room version

abbrev pub queue_limit : ℕ → ℕ
queue_limit version = of_version old_queues most_queues version

abbrev pub is_old_call : Call → Bool
is_old_call (call.SetMax q n) = false
is_old_call call.Freeze = false
is_old_call call.Thaw = false
is_old_call (call.Destroy q) = false
is_old_call c = true

abbrev pub is_old_reply : Reply → Bool
is_old_reply (reply.Width n) = false
is_old_reply reply.Frozen = false
is_old_reply reply.Thawed = false
is_old_reply reply.Gone = false
is_old_reply reply.Timers = false
is_old_reply r = true

-- the numbers of entries in formats 1 and 2, and in files of calls without a line of a format
abbrev pub is_short : ℕ → Bool
is_short n = nat_le n greatest

abbrev pub is_short_call : Call → Bool
is_short_call (call.End ticket) = is_short ticket
is_short_call c = true

abbrev pub is_short_reply : Reply → Bool
is_short_reply (reply.Yes n) = is_short n
is_short_reply (reply.Again n) = is_short n
is_short_reply (reply.Cancelled n) = is_short n
is_short_reply (reply.Ticket n) = is_short n
is_short_reply (reply.TicketQueued n) = is_short n
is_short_reply (reply.TicketUnbooked n) = is_short n
is_short_reply (reply.TicketNo n) = is_short n
is_short_reply (reply.Waiting n) = is_short n
is_short_reply (reply.Started n) = is_short n
is_short_reply (reply.Finished n) = is_short n
is_short_reply (reply.Fired i n) = is_short n
is_short_reply (reply.TicketCancelled n m) = is_short n && is_short m
is_short_reply (reply.StartedEnlist n x) = is_short n
is_short_reply r = true

abbrev pub is_short_entry : Entry → Bool
is_short_entry e = is_short e.serial && is_short_call e.call && is_short_reply e.reply

-- a time that a runtime reaches
abbrev pub is_timely : Reply → Bool
is_timely (reply.Now time) = nat_le time most_time
is_timely r = true

-- whether a history of this format has a last line
abbrev pub needs_end : ℕ → Bool
needs_end version = nat_le 3 version

-- whether a history of this format may have such a queue, and such an entry; format 3 has numbers beyond 4,294,967,295,
-- and no time beyond 2 ^ 62
abbrev pub allows_queue : ℕ → QueueShape → Bool
allows_queue version q = nat_le 2 version || not q.freezable

abbrev pub allows_entry : ℕ → Entry → Bool
allows_entry version e = if nat_le 3 version then is_timely e.reply
    else (is_short_entry e && (nat_le 2 version || (is_old_call e.call && is_old_reply e.reply)))

abbrev pub are_old_counts : Counts → Bool
are_old_counts c = nat_le c.cpus old_cpus && nat_le c.workers old_workers && nat_le c.callers old_callers
    && nat_le c.items old_items

abbrev pub allows_numbers : ℕ → Counts → Bool
allows_numbers version c = nat_le 3 version || are_old_counts c

abbrev pub allows_counts : ℕ → Counts → Bool
allows_counts version c = nat_le c.room (room_limit version) && allows_numbers version c

-- the counts, the queue and the entry of a line of such a history
unfoldable pub counts_of_format : ℕ → List ℕ → Option Counts
counts_of_format version line = do
  c ← counts_read line
  if allows_counts version c then Some c else None

unfoldable pub queue_of_format : ℕ → List ℕ → Option QueueShape
queue_of_format version line = do
  q ← queue_of_history line
  if allows_queue version q then Some q else None

unfoldable pub entry_of_format : ℕ → List ℕ → Option Entry
entry_of_format version line = do
  e ← entry_of line
  if allows_entry version e then Some e else None

-- the greatest number of an entry
abbrev pub number_limit : ℕ → ℕ
number_limit version = of_version greatest greatest_number version

-- the call of a line in a file of calls, whose format is 3 where its first line says so, and else 1
abbrev pub allows_call : ℕ → Call → Bool
allows_call version c = nat_le 3 version || is_short_call c

unfoldable pub call_of_format : ℕ → List ℕ → Option (Who × Call)
call_of_format version line = do
  x ← call_read line
  if allows_call version x.1 then Some x else None
