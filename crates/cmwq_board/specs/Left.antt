-- The tickets that were left: unended ones by which nobody waits any more.
use Rattle.std.specs.Prelude.{◌==◌, ◌&&◌, ◌++◌, ℕ, Bool, true, false, not, List, find, nat_lt}
use Rattle.std.specs.Prelude.{Option, option_to_list}
use Rattle.std.specs.List.{list_any, range_with_len}
use Rattle.cmwq_core.specs.History.{is_done_waiting}
use Rattle.cmwq_model.specs.Prelude.{Layout, has_numbers, is_booked, is_pending, unended_tickets, unstarted_queueing}
use Rattle.cmwq_model.specs.declared.call.Call.{Call}
use Rattle.cmwq_model.specs.declared.call.Call.TheVariants as call
use Rattle.cmwq_model.specs.declared.entry.Entry.{Entry}
use Rattle.cmwq_model.specs.declared.record.Queueing.{Queueing}
use Rattle.cmwq_model.specs.declared.record.Ticket.{Ticket}
use Rattle.cmwq_refinement.specs.Tickets.{tickets_held}
use Rattle.cmwq_state.specs.Flights.{run_open}
use Rattle.cmwq_board.specs.Lent.{waits_by}
use Rattle.cmwq_board.specs.declared.left.Sought.{Sought}
use Rattle.cmwq_board.specs.declared.left.Sought.TheVariants.{Any, Ready, For}
use Rattle.cmwq_board.specs.declared.lending.Lending.{Lending}
use Rattle.cmwq_board.specs.declared.lending.Lending.TheVariants.{Free}

abbrev pub is_free : Lending → Bool
is_free Free = true
is_free l = false

-- ---- whether a ticket is as good to wait by as a new one

-- two waits have the same goal
abbrev pub same_wait : Call → Call → Bool
same_wait (call.Flush q) (call.Flush r) = q.0 == r.0
same_wait (call.Drain q) (call.Drain r) = q.0 == r.0
same_wait (call.Destroy q) (call.Destroy r) = q.0 == r.0
same_wait (call.FlushItem i) (call.FlushItem j) = i.0 == j.0
same_wait (call.FlushDelayed i) (call.FlushDelayed j) = i.0 == j.0
same_wait (call.CancelSync i) (call.CancelSync j) = i.0 == j.0
same_wait c d = false

-- a flush is for this queueing
abbrev pub flushes : Call → Queueing → Bool
flushes (call.Flush q) x = x.place.queue.0 == q.0
flushes (call.FlushItem i) x = x.item.0 == i.0
flushes (call.FlushDelayed i) x = x.item.0 == i.0
flushes c x = false

-- what an item runs, and what is queued of it
abbrev pub queueings_of : List Entry → ℕ → List Queueing
queueings_of past i = option_to_list (run_open past i) ++ option_to_list (unstarted_queueing past i)

-- something of the item was queued after this number that a flush by this call is for
abbrev pub is_newer : Call → ℕ → Queueing → Bool
is_newer c n x = flushes c x && nat_lt n x.number

abbrev pub has_newer : List Entry → Call → ℕ → ℕ → Bool
has_newer past c n i = list_any (is_newer c n) (queueings_of past i)

-- Where a wait by this call has the ticket of this number, a new one would wait for nothing more, and its call would
-- neither queue nor cancel anything: a drain and a destroy wait for all of their queue, and a cancel_sync for the run.
abbrev pub is_as_good : Layout → List Entry → Call → ℕ → Bool
is_as_good s past (call.Flush q) n = not (list_any (has_newer past (call.Flush q) n) (range_with_len 0 s.items))
is_as_good s past (call.FlushItem i) n = not (has_newer past (call.FlushItem i) n i.0)
is_as_good s past (call.FlushDelayed i) n = not (is_booked past i.0) && not (has_newer past (call.FlushDelayed i) n i.0)
is_as_good s past (call.CancelSync i) n = not (is_pending past i.0)
is_as_good s past (call.Drain q) n = true
is_as_good s past (call.Destroy q) n = true
is_as_good s past c n = false

-- ---- what is sought among them

-- any; one that is ready; one that is as good to wait by as a new one of this call, of a caller by which nobody waits
abbrev pub is_sought : Layout → List Entry → Lending → Sought → Ticket → Bool
is_sought s past l Any t = not (waits_by t l)
is_sought s past l Ready t = not (waits_by t l) && is_done_waiting past t
is_sought s past l (For c) t = is_free l && same_wait t.call c && is_as_good s past c t.number

-- the numbers of a call that is sought for are there
abbrev pub has_its_numbers : Layout → Sought → Bool
has_its_numbers s (For c) = has_numbers s c
has_its_numbers s x = true

abbrev pub sought_of : Layout → List Entry → ℕ → Lending → Sought → Option Ticket
sought_of s past c l sought = find (is_sought s past l sought) (tickets_held (unended_tickets past) c)
