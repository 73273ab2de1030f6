-- The calls that apply an entry of a legal history to a flush book may be made.
use Rattle.cmwq_refinement.specs.Common.{◌≡◌, ◌<◌, ◌≤◌, ◌+◌, ℕ, Bool, false, cond, List, [], ◌∷◌, ◌++◌, length, filter}
use Rattle.cmwq_refinement.specs.Common.{count_by, Option, Some, None, option_to_list, refl, ap, ◌∙◌, arith, ◌*◌}
use Rattle.cmwq_refinement.specs.Common.{length-append, length-map, All-from_recursion, length-filter}
use Rattle.cmwq_refinement.specs.Common.{count_by-le-length, Entry, Queueing, Ticket, Layout, still_open, opening}
use Rattle.cmwq_refinement.specs.Common.{unended_tickets, is_flush_of, IsLegal, tickets_of_served, FlushBook}
use Rattle.cmwq_refinement.specs.Common.{flush_tickets, ending, is_kept, ticket_ended, count_by-cons, opening_number}
use Rattle.cmwq_refinement.specs.Common.{two_for_each_item, unended_go_on, nat_tests, Call, flushes, sum_by-cons}
use Rattle.cmwq_refinement.specs.Common.{nat_le, suc}
use Rattle.cmwq_refinement.proofs.Numbers.{all_kept, filter_in, in_contained, in_mapped, number_of_queueing}
use Rattle.cmwq_refinement.proofs.Numbers.{number_of_ticket, ticket_given}
use Rattle.cmwq_flush.specs.FlushBooks.{book_in, overflow_count}
use Rattle.cmwq_model.specs.declared.call.Call.TheVariants as call
use Rattle.cmwq_refinement.specs.FlushBooks.{is_on_queue, open_numbers, AreFlushes, flushes_after_end}
use Rattle.cmwq_refinement.specs.FlushBooks.{flushes_after_done, flushes_after_queueings, MayEndInFlushes}
use Rattle.cmwq_refinement.specs.FlushBooks.{MayOpenInFlushes, MayBeDoneInFlushes, MayBeginInFlushes, MayApplyToFlushes}
use Rattle.cmwq_refinement.specs.FlushBooks.{AreBegun}
use Rattle.cmwq_refinement.proofs.TicketSteps.{unended_below, ticket_step, ticket_in_is}
use Rattle.cmwq_refinement.proofs.TicketLimits.{unended_few}
use Rattle.cmwq_refinement.proofs.QueueingSteps.{QueueingStep, queueing_step, ends_one, ends_none}
use Rattle.cmwq_refinement.proofs.FlushSteps.{StandsAs, ended_on, flush_numbers_below, applied_on, opened_is}
use Rattle.cmwq_refinement.proofs.FlushSteps.{ended_next, soon_after, stands_done}
use Rattle.cmwq_refinement.proofs.FlushEnds.{ended_ready, done_flushes_may_end}

-- ---- what is open

may_end : (past : List Entry) (e : Entry) (q : ℕ) (b : FlushBook) → QueueingStep past e → b.opened ≡ open_numbers past q
    → MayEndInFlushes (ending past e) q b
may_end past e q b (ends_none is all) opened = rw is tt
may_end past e q b (ends_one x is here all) opened =
    rw is (λ on.
    in_contained b.opened x.number
    (rw opened
    (in_mapped number_of_queueing (filter (is_on_queue q) (still_open past)) x
    (filter_in (is_on_queue q) (still_open past) x here on))))

may_open : (s : Layout) (past : List Entry) (e : Entry) (q : ℕ) (b : FlushBook) (o : Option Queueing)
    → IsLegal s (e ∷ past) → AreFlushes s past q b → opening past e ≡ o
    → MayOpenInFlushes o q (flushes_after_end (ending past e) q b)
may_open s past e q b None legal is h = tt
may_open s past e q b (Some x) legal is h = λ on.
    let c = flushes_after_end (ending past e) q b in
    let after : open_numbers (e ∷ past) q ≡ c.opened ++ x.number ∷ [] =
    cc (opened_is s past e q b legal is.opened, h, on) in
    let longer = ap length after ∙ length-append c.opened (x.number ∷ []) in
    let left = ended_on (ending past e) q (length past) b is.older is.next in
    let its : List Queueing = still_open (e ∷ past) in
    let few : length (open_numbers (e ∷ past) q) ≤ 2 * s.items =
    omega (
      arith,
      two_for_each_item s (e ∷ past) legal,
      length-map (filter (is_on_queue q) its) number_of_queueing,
      length-filter (is_on_queue q) its,
      count_by-le-length (is_on_queue q) its,
    ) in (
      omega (arith, opening_number past e x h, ended_next (ending past e) q b, is.next),
      omega (arith, longer, few, left.items ∙ is.items),
    )

-- ---- what is done

may_be_done : (s : Layout) (past : List Entry) (e : Entry) (q : ℕ) (b : FlushBook) (o : Option Ticket)
    → IsLegal s (e ∷ past) → AreFlushes s past q b → ticket_ended past e ≡ o
    → MayBeDoneInFlushes o q (flushes_after_queueings past e q b)
may_be_done s past e q b None legal is h = tt
may_be_done s past e q b (Some t) legal is h = let k = ended_ready s past e t legal h in
    rw (k.ends_none, k.opens_none) (λ flush. done_flushes_may_end s past e q b t legal is h flush)

-- ---- what begins

module _ (s : Layout) (past : List Entry) (e : Entry) (q : ℕ) (b : FlushBook) (legal : IsLegal s (e ∷ past))
    (is : AreFlushes s past q b) where
  stands : StandsAs past q (filter (is_kept e) (unended_tickets past))
      (flushes_after_done (ticket_ended past e) q (flushes_after_queueings past e q b))
  stands = stands_done past e q (flushes_after_queueings past e q b) (ticket_step past e)
      (soon_after s past q b (flushes_after_queueings past e q b) is (applied_on past e q b is.older is.next))

  may_begin : (o : Option Ticket) → ticket_given past e ≡ o
      → MayBeginInFlushes o q (flushes_after_done (ticket_ended past e) q (flushes_after_queueings past e q b))
  may_begin None h = tt
  may_begin (Some t) h =
      λ flush. All-from_recursion (λ u. u < t.number)
      (flush_tickets (flushes_after_done (ticket_ended past e) q (flushes_after_queueings past e q b)))
      (rw (stands.flushes_are, (ticket_in_is e (length past) t h).number)
      (flush_numbers_below (length past) q (filter (is_kept e) (unended_tickets past))
      (all_kept (λ u. u.number < length past) (is_kept e) (unended_tickets past) (unended_below past))))

  -- no more are in overflow than there are unended flushes of the queue
  pub overflow_few : length
      (flushes_after_done (ticket_ended past e) q (flushes_after_queueings past e q b)).overflow ≤ count_by
      (is_flush_of q) (filter (is_kept e) (unended_tickets past))
  overflow_few =
      let c = flushes_after_done (ticket_ended past e) q (flushes_after_queueings past e q b) in
      let kept = filter (is_kept e) (unended_tickets past) in
      omega (
        arith,
        length-append (tickets_of_served c.served) c.overflow,
        ap length stands.flushes_are,
        length-map (filter (is_flush_of q) kept) number_of_ticket,
        length-filter (is_flush_of q) kept,
      )

pub entries_apply_to_flushes : (s : Layout) (past : List Entry) (e : Entry) (q : ℕ) (b : FlushBook)
    → IsLegal s (e ∷ past) → AreFlushes s past q b → MayApplyToFlushes past e q b
entries_apply_to_flushes s past e q b legal is = record {
  ended = may_end past e q b (queueing_step s past e legal) is.opened;
  opened = may_open s past e q b (opening past e) legal is refl;
  done = may_be_done s past e q b (ticket_ended past e) legal is refl;
  begun = may_begin s past e q b legal is (ticket_given past e) refl;
}

-- ---- room in overflow

-- the flushes of a queue and of those after it
is_from : ℕ → Call → Bool
is_from q (call.Flush r) = nat_le q r.0
is_from q c = false

here_or_behind : (q : ℕ) (c : Call) → cond (flushes q c) 1 0 + cond (is_from (suc q) c) 1 0 ≤ cond (is_from q c) 1 0
unfolding is_from
here_or_behind q (call.Flush r) = grind (arith, nat_tests)
here_or_behind q c = omega arith

both_counted : (q : ℕ) (ts : List Ticket)
    → count_by (is_flush_of q) ts + count_by (λ t. is_from (suc q) t.call) ts ≤ count_by (λ t. is_from q t.call) ts
both_counted q [] = omega arith
both_counted q (t ∷ ts) =
    omega (
      arith,
      both_counted q ts,
      count_by-cons (is_flush_of q) t ts,
      count_by-cons (λ u. is_from (suc q) u.call) t ts,
      count_by-cons (λ u. is_from q u.call) t ts,
      here_or_behind q t.call,
    )

-- each of these tickets is a flush of one queue at most
all_counted : (books : List FlushBook) (n : ℕ) (ts : List Ticket)
    → ((k q : ℕ) → q ≡ n + k → k < length books → length (book_in books k).overflow ≤ count_by (is_flush_of q) ts)
    → overflow_count books ≤ count_by (λ t. is_from n t.call) ts
all_counted [] n ts few = omega arith
all_counted (b ∷ books) n ts few =
    let behind = all_counted books (suc n) ts (λ k q at lt. few (suc k) q (omega arith) (omega arith)) in
    omega (
      arith,
      few 0 n (omega arith) (omega arith),
      behind,
      both_counted n ts,
      sum_by-cons (λ (o : FlushBook). length o.overflow) b books,
    )

pub given_flushes_have_room : (s : Layout) (past : List Entry) (e : Entry) (t : Ticket) (old new : List FlushBook)
    → IsLegal s (e ∷ past) → ticket_given past e ≡ Some t → AreBegun s past e old new
    → overflow_count new < 64 * s.callers
given_flushes_have_room s past e t old new legal given are =
    let kept = filter (is_kept e) (unended_tickets past) in
    let flushing = all_counted new 0 kept (λ k q at lt. let same : k ≡ q = omega arith in
    rw (← same, are.after k)
    (overflow_few s past e k (book_in old k) legal (are.before k (omega (arith, are.many))))) in
    let after : length (unended_tickets (e ∷ past)) ≡ length kept + 1 = ap length (unended_go_on s past e legal)
    ∙ length-append kept (option_to_list (ticket_given past e))
    ∙ ap (λ o. length kept + length (option_to_list o)) given in
    omega (arith, flushing, count_by-le-length (λ u. is_from 0 u.call) kept, after, unended_few s (e ∷ past) legal)
