-- The ticket that an entry ends stands, and waits for nothing.
use Rattle.cmwq_theory_steps.specs.Common.{◌≡◌, ℕ, List, ◌∷◌, Some, None, sym, ap, ◌∙◌, subst, Entry, Ticket, Layout}
use Rattle.cmwq_theory_steps.specs.Common.{entry_at, ticket_of, waits_for, IsLegal}
use Rattle.cmwq_theory_steps.proofs.Lemmas.{same_Some}
use Rattle.cmwq_theory_steps.specs.TicketSteps.{IsDone}
use Rattle.cmwq_theory_steps.proofs.Causes.{cause_of}
use Rattle.cmwq_theory_steps.proofs.Reasons.{done_reason}
use Rattle.cmwq_theory_steps.proofs.Given.{ticket_is}

pub record EndsTicket (past : List Entry) (e : Entry) (t : ℕ) : Type 0 where
  pub ticket : Ticket
  pub found : ticket_of past e.who t ≡ Some ticket
  pub ready : waits_for past ticket.number ticket.call ≡ None

pub ends_ticket : (s : Layout) (past : List Entry) (e : Entry) (t : ℕ) → IsLegal s (e ∷ past) → IsDone e t
    → EndsTicket past e t
ends_ticket s past e t legal done =
    let r = done_reason s past e.who e.call e.reply (cause_of s past e legal) done.1 in
    let same : r.number ≡ t = cc (r.is_end, done.0) in
    record {
      ticket = r.ticket;
      found = subst (λ n. ticket_of past e.who n ≡ Some r.ticket) same r.stands;
      ready =
          r.ready;
    }

-- the ticket has the call of the entry with its number
pub ended_call : (s : Layout) (past : List Entry) (e : Entry) (t : ℕ) (begun : Entry) (legal : IsLegal s (e ∷ past))
    (done : IsDone e t) → entry_at past t ≡ Some begun → (ends_ticket s past e t legal done).ticket.call ≡ begun.call
ended_call s past e t begun legal done at =
    let ends = ends_ticket s past e t legal done in
    let is = ticket_is past e.who t ends.ticket ends.found in
    let same : is.given.begun ≡ begun =
    same_Some is.given.begun begun (sym is.given.at ∙ ap (entry_at past) is.number ∙ at) in
    sym is.given.call ∙ ap (λ (b : Entry). b.call) same

-- and waits for nothing
pub ready_call : (s : Layout) (past : List Entry) (e : Entry) (t : ℕ) (begun : Entry) → IsLegal s (e ∷ past)
    → IsDone e t → entry_at past t ≡ Some begun → waits_for past t begun.call ≡ None
ready_call s past e t begun legal done at =
    let ends = ends_ticket s past e t legal done in
    let number = (ticket_is past e.who t ends.ticket ends.found).number in
    subst (λ c. waits_for past t c ≡ None) (ended_call s past e t begun legal done at)
    (subst (λ n. waits_for past n ends.ticket.call ≡ None) number ends.ready)
