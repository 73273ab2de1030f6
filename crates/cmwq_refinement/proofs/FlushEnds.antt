-- A flush whose end is answered done stands in the book and is ready.
use Rattle.cmwq_refinement.specs.Common.{◌≡◌, ℕ, true, List, ◌∷◌, Some, None, refl, sym, ◌∙◌, Contains, eqb-true}
use Rattle.cmwq_refinement.specs.Common.{same_Some, Call, Entry, Ticket, Layout, opening, flushes, is_flush_of}
use Rattle.cmwq_refinement.specs.Common.{ticket_of, unended_tickets, waits_for, IsLegal, ending, ticket_ended}
use Rattle.cmwq_refinement.specs.Common.{ends_which, FlushBook, flush_tickets, arith}
use Rattle.cmwq_refinement.proofs.Numbers.{In, in_contained}
use Rattle.cmwq_model.specs.declared.call.Call.TheVariants as call
use Rattle.cmwq_model.specs.declared.reply.Reply.TheVariants as reply
use Rattle.cmwq_theory_steps.proofs.Done.{ends_ticket}
use Rattle.cmwq_flush.specs.FlushBook.{IsReady}
use Rattle.cmwq_refinement.specs.FlushBooks.{AreFlushes}
use Rattle.cmwq_refinement.proofs.TicketSteps.{TicketStep, ticket_step, ends_one, ends_none, ends_it}
use Rattle.cmwq_refinement.proofs.FlushReads.{unended_flushes_stand, ready_flushes_wait_for_nothing}

-- what is done neither ends nor opens a queueing
done_opens : (past : List Entry) (e : Entry) → e.reply ≡ reply.Done → opening past e ≡ None
done_opens past e done = rw done refl

done_ends : (s : Layout) (past : List Entry) (e : Entry) → IsLegal s (e ∷ past) → e.reply ≡ reply.Done
    → ending past e ≡ None
done_ends s past e legal done = grind (arith, ends_which s past e legal)

-- the ticket that is ended stands, and waits for nothing
pub record IsEnded (past : List Entry) (e : Entry) (t : Ticket) : Type 0 where
  pub stands : In t (unended_tickets past)
  pub ready : waits_for past t.number t.call ≡ None
  pub ends_none : ending past e ≡ None
  pub opens_none : opening past e ≡ None

pub ended_ready : (s : Layout) (past : List Entry) (e : Entry) (t : Ticket) → IsLegal s (e ∷ past)
    → ticket_ended past e ≡ Some t → IsEnded past e t
ended_ready s past e t legal h = which (ticket_step past e)
  where
    which : TicketStep past e → IsEnded past e t
    which (ends_none is all) = cc
    which (ends_one u is here it) =
        let same : u ≡ t = same_Some u t (sym is ∙ h) in
        let end = ends_it e u it in
        let done = ends_ticket s past e u.number legal (end.call, end.reply) in
        let asked : ticket_ended past e ≡ ticket_of past e.who u.number = rw (end.reply, end.call) refl in
        let one : done.ticket ≡ t = same_Some done.ticket t (sym done.found ∙ sym asked ∙ h) in
        record {
          stands = rw same at here;
          ready = rw one at done.ready;
          ends_none = done_ends s past e legal end.reply;
          opens_none = done_opens past e end.reply;
        }

pub done_flushes_may_end : (s : Layout) (past : List Entry) (e : Entry) (q : ℕ) (b : FlushBook) (t : Ticket)
    → IsLegal s (e ∷ past) → AreFlushes s past q b → ticket_ended past e ≡ Some t → is_flush_of q t ≡ true
    → Contains (flush_tickets b) t.number × IsReady b t.number
done_flushes_may_end s past e q b t legal is h flush = (stands, by t.call flush k.ready)
  where
    k : IsEnded past e t
    k = ended_ready s past e t legal h

    stands : Contains (flush_tickets b) t.number
    stands = unended_flushes_stand s past q b t is (in_contained (unended_tickets past) t k.stands) flush

    by : (c : Call) → flushes q c ≡ true → waits_for past t.number c ≡ None → IsReady b t.number
    by (call.Flush r) same ready =
        (ready_flushes_wait_for_nothing s past r b t.number (rw (eqb-true r.0 q same) is) stands).1 ready
    by c same ready = cc
