-- The unended tickets by their numbers, and the one that an entry ends.
use Rattle.cmwq_refinement.specs.Common.{◌≡◌, ◌==◌, ◌<◌, ℕ, true, not, ◌&&◌, List, [], ◌∷◌, length, Option, Some, None}
use Rattle.cmwq_refinement.specs.Common.{refl, sym, ap, ◌∙◌, AllByRecursion, and_parts, eqb-true, eq-eqb}
use Rattle.cmwq_refinement.specs.Common.{false_from_ne_true, Who, Caller, Call, Entry, Ticket, is_by, gives_ticket}
use Rattle.cmwq_refinement.specs.Common.{ticket_in, tickets, is_end_of, is_done, ends, is_unended, unended_tickets}
use Rattle.cmwq_refinement.specs.Common.{All_map, is_kept, is_ended_by, ticket_ended, is_done_reply, one_ticket_ends}
use Rattle.cmwq_refinement.specs.Common.{Bool, if◌then◌else◌, ticket_for, same_Some}
use Rattle.cmwq_refinement.proofs.Numbers.{In, RisesBy, all_in, filter_in, in_filter, number_of_ticket, option_in}
use Rattle.cmwq_refinement.proofs.Numbers.{rises_filter, rises_more, rises_unique, same_bools}
use Rattle.cmwq_model.specs.declared.call.Call.TheVariants as call
use Rattle.cmwq_model.specs.declared.reply.Reply.TheVariants as reply
use Rattle.cmwq_theory_steps.proofs.Given.{IsGiven, tickets_given, unended_given}

-- ---- by their numbers

-- what a given ticket is
pub record IsTicketIn (e : Entry) (n : ℕ) (t : Ticket) : Type 0 where
  pub gives : gives_ticket e.reply ≡ true
  pub call : t.call ≡ e.call
  pub number : t.number ≡ n
  pub caller : e.who ≡ Caller t.caller

pub ticket_in_is : (e : Entry) (n : ℕ) (t : Ticket) → ticket_in e n ≡ Some t → IsTicketIn e n t
ticket_in_is e n t h = with (gives_ticket e.reply) e.who refl refl h
  where
    with : (b : Bool) (who : Who) → gives_ticket e.reply ≡ b → e.who ≡ who
        → (if b then ticket_for who e.call n else None) ≡ Some t → IsTicketIn e n t
    with true (Caller c) gives is k = let same = same_Some _ t k in
        record { gives = gives; call = rw (← same) refl; number = rw (← same) refl; caller = rw (← same) is }
    with b who gives is k = cc

tickets_below : (past : List Entry) → AllByRecursion (λ t. t.number < length past) (tickets past)
tickets_below past =
    All_map (IsGiven past) (λ t. t.number < length past) (tickets past) (λ t h. h.older) (tickets_given past)

pub tickets_rise : (past : List Entry) → RisesBy number_of_ticket (tickets past)
unfolding tickets
tickets_rise [] = tt
tickets_rise (e ∷ past) =
    rises_more number_of_ticket (length past) (tickets past) (ticket_in e (length past)) (tickets_rise past)
    (tickets_below past) (λ t h. (ticket_in_is e (length past) t h).number)

pub unended_rise : (past : List Entry) → RisesBy number_of_ticket (unended_tickets past)
unended_rise past = rises_filter number_of_ticket (is_unended past) (tickets past) (tickets_rise past)

pub unended_below : (past : List Entry) → AllByRecursion (λ t. t.number < length past) (unended_tickets past)
unended_below past =
    All_map (IsGiven past) (λ t. t.number < length past) (unended_tickets past) (λ t h. h.older) (unended_given past)

-- ---- the end of a ticket

end_call : (n : ℕ) (c : Call) → is_end_of n c ≡ true → c ≡ call.End n
end_call n (call.End t) h = ap call.End (eqb-true t n h)
end_call n c h = cc

-- an entry that ends a ticket answers done to its end
pub record EndsIt (e : Entry) (t : Ticket) : Type 0 where
  pub by : is_by (Caller t.caller) e ≡ true
  pub call : e.call ≡ call.End t.number
  pub reply : e.reply ≡ reply.Done

pub ends_it : (e : Entry) (t : Ticket) → ends t e ≡ true → EndsIt e t
ends_it e t h =
    let outer = and_parts (is_by (Caller t.caller) e && is_end_of t.number e.call) (is_done e.reply) h in
    let inner = and_parts (is_by (Caller t.caller) e) (is_end_of t.number e.call) outer.0 in
    record { by = inner.0; call = end_call t.number e.call inner.1; reply = is_done_reply e.reply outer.1 }

-- ---- an entry ends one ticket at most

-- of the unended tickets the entry ends the one with the number of this, and no other
pub ends_only : (past : List Entry) (e : Entry) (u : Ticket) → In u (unended_tickets past) → ends u e ≡ true
    → (t : Ticket) → In t (unended_tickets past) → is_kept e t ≡ not (t.number == u.number)
ends_only past e u here it t there = ap not (same_bools (ends t e) (t.number == u.number)
    (λ h. let calls : call.End t.number ≡ call.End u.number = sym (ends_it e t h).call ∙ (ends_it e u it).call in
    eq-eqb t.number u.number (cc))
    (λ h. ap (λ x. ends x e)
    (rises_unique number_of_ticket (unended_tickets past) t u (unended_rise past) there here
    (eqb-true t.number u.number h)) ∙ it))

pub data TicketStep (past : List Entry) (e : Entry) : Type 0 where
  ends_one : (u : Ticket) → ticket_ended past e ≡ Some u → In u (unended_tickets past) → ends u e ≡ true
      → TicketStep past e
  ends_none : ticket_ended past e ≡ None → AllByRecursion (λ t. is_kept e t ≡ true) (unended_tickets past)
      → TicketStep past e

pub ticket_step : (past : List Entry) (e : Entry) → TicketStep past e
ticket_step past e = which (ticket_ended past e) refl
  where
    which : (o : Option Ticket) → ticket_ended past e ≡ o → TicketStep past e
    which None is =
        ends_none is
        (all_in (λ t. is_kept e t ≡ true) (unended_tickets past)
        (λ t i. ap not
        (false_from_ne_true (ends t e)
        (λ h. rw (one_ticket_ends past e, is) at (filter_in (is_ended_by e) (unended_tickets past) t i h)))))
    which (Some u) is = let k =
        in_filter (is_ended_by e) (unended_tickets past) u
        (rw (one_ticket_ends past e) (option_in (ticket_ended past e) u is)) in ends_one u is k.0 k.1
