-- The flush book of a queue refines the queue's open queueings and its unended flushes.
use Rattle.std.specs.Prelude.{◌≡◌, ◌<◌, ◌≤◌, ◌↔◌, ◌==◌, ◌*◌, if◌then◌else◌, ◌∷◌}
use Rattle.cmwq_refinement.specs.Common.{ℕ, Bool, List, length, map, filter, count_by, [], Contains, true, Option, Some}
use Rattle.cmwq_refinement.specs.Common.{None, slice_get, nat_lt, nat_le, AllByRecursion, QueueId, Entry, Queueing}
use Rattle.cmwq_refinement.specs.Common.{Ticket, Layout, still_open, opening, unended_tickets, is_flush_of}
use Rattle.cmwq_refinement.specs.Common.{serving_from, is_within, is_older_flush, waits_for, IsLegal, ending, ticket_ended, Served}
use Rattle.cmwq_refinement.specs.Common.{FlushBook, new_book, flush_tickets, CanOpen, flushes_with_open}
use Rattle.cmwq_refinement.specs.Common.{flushes_without_open, flushes_with_wait, flushes_without_wait, IsServing}
use Rattle.cmwq_model.specs.declared.call.Call.TheVariants as call
use Rattle.cmwq_flush.specs.FlushBook.{IsLatestFlush, IsReady, is_waited_for}
use Rattle.cmwq_flush.specs.FlushBooks.{book_in, overflow_count}
use Rattle.cmwq_refinement.specs.ByNumber.{number_of_queueing, number_of_ticket, ticket_given}

-- the numbers of the queue's open queueings, and of the flushes of it among some tickets
abbrev pub is_on_queue : ℕ → Queueing → Bool
is_on_queue q x = x.place.queue.0 == q

abbrev pub open_numbers : List Entry → ℕ → List ℕ
open_numbers past q = map number_of_queueing (filter (is_on_queue q) (still_open past))

abbrev pub flush_numbers : ℕ → List Ticket → List ℕ
flush_numbers q ts = map number_of_ticket (filter (is_flush_of q) ts)

-- a served flush: of the open numbers those are below its bound that are at most the position from which it is served
pub record IsServedFrom (past : List Entry) (q : ℕ) (opened : List ℕ) (f : Served) : Type 0 where
  pub position : ℕ
  pub is_served : serving_from past q f.ticket ≡ Some position
  pub same : AllByRecursion (λ n. nat_lt n f.bound ≡ nat_le n position) opened

-- the flush book is that of queue q after these entries
pub record AreFlushes (s : Layout) (past : List Entry) (q : ℕ) (b : FlushBook) : Type 0 where
  pub items : b.items ≡ s.items
  pub opened : b.opened ≡ open_numbers past q
  pub older : AllByRecursion (λ n. n < b.next) b.opened
  pub next : b.next ≤ length past
  pub flushes : flush_tickets b ≡ flush_numbers q (unended_tickets past)
  pub few : length b.served ≤ 15
  pub serving : IsServing b
  pub bounds : AllByRecursion (λ f. f.bound ≤ b.next) b.served
  pub served_from : AllByRecursion (IsServedFrom past q b.opened) b.served
  pub overflowed : AllByRecursion (λ t. serving_from past q t ≡ None) b.overflow

-- the book after an open queueing of its queue ended, and after one was opened
abbrev pub flushes_after_end : Option Queueing → ℕ → FlushBook → FlushBook
flushes_after_end None q b = b
flushes_after_end (Some x) q b = if is_on_queue q x then flushes_without_open b x.number else b

abbrev pub flushes_after_opening : Option Queueing → ℕ → FlushBook → FlushBook
flushes_after_opening None q b = b
flushes_after_opening (Some x) q b = if is_on_queue q x then flushes_with_open b x.number else b

-- after a flush ended, and after one began
abbrev pub flushes_after_done : Option Ticket → ℕ → FlushBook → FlushBook
flushes_after_done None q b = b
flushes_after_done (Some t) q b = if is_flush_of q t then flushes_without_wait b t.number else b

abbrev pub flushes_after_begun : Option Ticket → ℕ → FlushBook → FlushBook
flushes_after_begun None q b = b
flushes_after_begun (Some t) q b = if is_flush_of q t then flushes_with_wait b t.number else b

abbrev pub flushes_after_queueings : List Entry → Entry → ℕ → FlushBook → FlushBook
flushes_after_queueings past e q b = flushes_after_opening (opening past e) q (flushes_after_end (ending past e) q b)

abbrev pub flushes_after_tickets : List Entry → Entry → ℕ → FlushBook → FlushBook
flushes_after_tickets past e q b =
    flushes_after_begun (ticket_given past e) q (flushes_after_done (ticket_ended past e) q b)

-- at first the book is a new one, and each entry's calls make it that of the longer history
abbrev pub FlushesAtFirst : Type 0
FlushesAtFirst = (s : Layout) (q : ℕ) → AreFlushes s [] q (new_book s.items)

abbrev pub FlushesRefine : Type 0
FlushesRefine = (s : Layout) (past : List Entry) (e : Entry) (q : ℕ) (b : FlushBook) → IsLegal s (e ∷ past)
    → AreFlushes s past q b
    → AreFlushes s (e ∷ past) q (flushes_after_tickets past e q (flushes_after_queueings past e q b))

-- what the book answers is what the definitions say: a flush is ready where it waits for nothing, and else it waits for
-- the least open queueing
abbrev pub ReadyFlushesWaitForNothing : Type 0
ReadyFlushesWaitForNothing = (s : Layout) (past : List Entry) (q : QueueId) (b : FlushBook) (t : ℕ)
    → AreFlushes s past q.0 b → Contains (flush_tickets b) t
    → IsReady b t ↔ (waits_for past t (call.Flush q) ≡ None)

abbrev pub FlushesWaitForLeastOpen : Type 0
FlushesWaitForLeastOpen = (s : Layout) (past : List Entry) (q : QueueId) (b : FlushBook) (t n : ℕ)
    → AreFlushes s past q.0 b → Contains (flush_tickets b) t
    → waits_for past t (call.Flush q) ≡ Some n → slice_get b.opened 0 ≡ Some n

-- whether it waits for an open queueing of its queue
abbrev pub FlushesWaitWithin : Type 0
FlushesWaitWithin = (s : Layout) (past : List Entry) (q : ℕ) (b : FlushBook) (t : ℕ) (x : Queueing)
    → AreFlushes s past q b → Contains (flush_tickets b) t → Contains (still_open past) x → is_on_queue q x ≡ true
    → is_waited_for b t x.number ≡ is_within (serving_from past q t) x.number

-- and for the one that is opened next
abbrev pub FlushesWaitForNext : Type 0
FlushesWaitForNext = (s : Layout) (past : List Entry) (q : ℕ) (b : FlushBook) (t : ℕ) → AreFlushes s past q b
    → Contains (flush_tickets b) t
    → is_waited_for b t (length past) ≡ is_within (serving_from past q t) (length past)

-- a drain and a destroy wait for the least open queueing
abbrev pub DrainsWaitForLeastOpen : Type 0
DrainsWaitForLeastOpen = (s : Layout) (past : List Entry) (q : QueueId) (b : FlushBook) (t : ℕ)
    → AreFlushes s past q.0 b
    → (waits_for past t (call.Drain q) ≡ slice_get b.opened 0)
    × (waits_for past t (call.Destroy q) ≡ slice_get b.opened 0)

-- a flush that stands is in overflow exactly where 15 older ones of the queue or more are unended
abbrev pub OverflowedAreBehindFifteen : Type 0
OverflowedAreBehindFifteen = (s : Layout) (past : List Entry) (q : ℕ) (b : FlushBook) (t : ℕ) → AreFlushes s past q b
    → Contains (flush_tickets b) t
    → Contains b.overflow t ↔ (15 ≤ count_by (is_older_flush q t) (unended_tickets past))

-- an unended flush of the queue stands in the book, so that the book may be asked for it
abbrev pub UnendedFlushesStand : Type 0
UnendedFlushesStand = (s : Layout) (past : List Entry) (q : ℕ) (b : FlushBook) (t : Ticket) → AreFlushes s past q b
    → Contains (unended_tickets past) t → is_flush_of q t ≡ true → Contains (flush_tickets b) t.number

-- a flush whose end is answered done in a legal history stands in the book and is ready, so that the call may be made
abbrev pub DoneFlushesMayEnd : Type 0
DoneFlushesMayEnd = (s : Layout) (past : List Entry) (e : Entry) (q : ℕ) (b : FlushBook) (t : Ticket)
    → IsLegal s (e ∷ past) → AreFlushes s past q b → ticket_ended past e ≡ Some t → is_flush_of q t ≡ true
    → Contains (flush_tickets b) t.number × IsReady b t.number

-- each call that applies an entry to a book may be made where it is made: what the call requires holds
abbrev pub MayEndInFlushes : Option Queueing → ℕ → FlushBook → Type 0
MayEndInFlushes None q b = Unit {0}
MayEndInFlushes (Some x) q b = is_on_queue q x ≡ true → Contains b.opened x.number

abbrev pub MayOpenInFlushes : Option Queueing → ℕ → FlushBook → Type 0
MayOpenInFlushes None q b = Unit {0}
MayOpenInFlushes (Some x) q b = is_on_queue q x ≡ true → CanOpen b x.number

abbrev pub MayBeDoneInFlushes : Option Ticket → ℕ → FlushBook → Type 0
MayBeDoneInFlushes None q b = Unit {0}
MayBeDoneInFlushes (Some t) q b = is_flush_of q t ≡ true → Contains (flush_tickets b) t.number × IsReady b t.number

abbrev pub MayBeginInFlushes : Option Ticket → ℕ → FlushBook → Type 0
MayBeginInFlushes None q b = Unit {0}
MayBeginInFlushes (Some t) q b = is_flush_of q t ≡ true → IsLatestFlush b t.number

pub record MayApplyToFlushes (past : List Entry) (e : Entry) (q : ℕ) (b : FlushBook) : Type 0 where
  pub ended : MayEndInFlushes (ending past e) q b
  pub opened : MayOpenInFlushes (opening past e) q (flushes_after_end (ending past e) q b)
  pub done : MayBeDoneInFlushes (ticket_ended past e) q (flushes_after_queueings past e q b)
  pub begun : MayBeginInFlushes (ticket_given past e) q
      (flushes_after_done (ticket_ended past e) q (flushes_after_queueings past e q b))

-- so it is in a legal history whose layout is inside the limits
abbrev pub EntriesApplyToFlushes : Type 0
EntriesApplyToFlushes = (s : Layout) (past : List Entry) (e : Entry) (q : ℕ) (b : FlushBook) → IsLegal s (e ∷ past)
    → AreFlushes s past q b → MayApplyToFlushes past e q b

-- where a ticket is given, there is room in overflow: those in overflow of all queues together are unended tickets, of
-- which a caller has 64 at most
pub record AreBegun (s : Layout) (past : List Entry) (e : Entry) (old new : List FlushBook) : Type 0 where
  pub many : length new ≡ length old
  pub before : (q : ℕ) → q < length old → AreFlushes s past q (book_in old q)
  pub after : (q : ℕ)
      → book_in new q ≡ flushes_after_done (ticket_ended past e) q (flushes_after_queueings past e q (book_in old q))

abbrev pub GivenFlushesHaveRoom : Type 0
GivenFlushesHaveRoom = (s : Layout) (past : List Entry) (e : Entry) (t : Ticket) (old new : List FlushBook)
    → IsLegal s (e ∷ past) → ticket_given past e ≡ Some t → AreBegun s past e old new
    → overflow_count new < 64 * s.callers
