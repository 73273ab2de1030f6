-- What has changed since a shell asked.
use Rattle.std.specs.Prelude.{◌||◌, false, true, is_some}
use Rattle.cmwq_model.specs.Prelude.{due_in, is_drain}
use Rattle.cmwq_model.specs.declared.call.Call.{Call}
use Rattle.cmwq_model.specs.declared.reply.Reply.{Reply}
use Rattle.cmwq_board.specs.declared.news.News.{News}

abbrev pub quiet : News
quiet = record { left_ended = false; due_earlier = false }

-- A call that delays an item gets the tick for which it is booked.
abbrev pub after_reply : Reply → News → News
after_reply r n = record n { due_earlier = n.due_earlier || is_some (due_in r) }

-- The end of a drain may let an earlier timer fire.
abbrev pub after_end : Call → News → News
after_end c n = record n { due_earlier = n.due_earlier || is_drain c }

-- So does the end of one that was left, and its caller has one ticket less.
abbrev pub after_left : Call → News → News
after_left c n = record { left_ended = true; due_earlier = n.due_earlier || is_drain c }
