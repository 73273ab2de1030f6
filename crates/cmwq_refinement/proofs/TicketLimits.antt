-- No more tickets are unended than 64 for each caller.
use Rattle.cmwq_refinement.specs.Common.{◌≡◌, ◌==◌, ◌<◌, ◌≤◌, ℕ, Bool, true, List, [], ◌∷◌, length, count_by, Option}
use Rattle.cmwq_refinement.specs.Common.{Some, None, refl, sym, ap, ◌∙◌, arith, ◌*◌, AllByRecursion, and_parts}
use Rattle.cmwq_refinement.specs.Common.{eqb-true, ltb-true, leb-false, Entry, Ticket, Layout, is_callers, may_make}
use Rattle.cmwq_refinement.specs.Common.{has_numbers, tickets, unended_tickets, is_unended, ticket_in, is_crowded}
use Rattle.cmwq_refinement.specs.Common.{IsLegal, cause_of, legal_fits, ticket_reason, tickets_go_on}
use Rattle.cmwq_refinement.proofs.Numbers.{all_kept, all_more}
use Rattle.cmwq_theory_steps.proofs.OfEachKind.{no_longer}
use Rattle.cmwq_refinement.proofs.TicketSteps.{ticket_in_is}

-- ---- of each caller

abbrev is_of_caller : ℕ → Ticket → Bool
is_of_caller c t = t.caller.0 == c

-- who is given a ticket isn't crowded
pub given_free : (s : Layout) (past : List Entry) (e : Entry) (t : Ticket) → IsLegal s (e ∷ past)
    → ticket_in e (length past) ≡ Some t → count_by (is_of_caller t.caller.0) (unended_tickets past) < 64
given_free s past e t legal h =
    let is = ticket_in_is e (length past) t h in
    let free =
    (ticket_reason s past e.who e.call e.reply (legal_fits s past e legal) (cause_of s past e legal) is.gives).2 in
    leb-false 64 (count_by (is_of_caller t.caller.0) (unended_tickets past))
    (sym (ap (is_crowded past) is.caller) ∙ free)

few_of_caller : (s : Layout) (past : List Entry) → IsLegal s past → (c : ℕ)
    → count_by (is_of_caller c) (unended_tickets past) ≤ 64
unfolding tickets IsLegal
few_of_caller s [] legal c = omega arith
few_of_caller s (e ∷ past) legal c = by (ticket_in e (length past)) refl (few_of_caller s past legal.2 c)
  where
    by : (o : Option Ticket) → ticket_in e (length past) ≡ o → count_by (is_of_caller c) (unended_tickets past) ≤ 64
        → count_by (is_of_caller c) (unended_tickets (e ∷ past)) ≤ 64
    by None none before = grind (arith, tickets_go_on s past e (is_of_caller c) legal)
    by (Some t) given before =
        grind (
          arith,
          tickets_go_on s past e (is_of_caller c) legal,
          λ (same : (t.caller.0 == c) ≡ true). rw (eqb-true t.caller.0 c same) at (given_free s past e t legal given),
        )

-- ---- of all

pub callers_there : (s : Layout) (past : List Entry) → IsLegal s past
    → AllByRecursion (λ t. t.caller.0 < s.callers) (tickets past)
unfolding tickets IsLegal
callers_there s [] legal = tt
callers_there s (e ∷ past) legal =
    all_more (λ t. t.caller.0 < s.callers) (tickets past) (ticket_in e (length past)) (callers_there s past legal.2)
    (λ t h.
    let makes = (and_parts (may_make s e.who e.call) (has_numbers s e.call) legal.0).0 in
    let caller = sym (ap (λ who. may_make s who e.call) (ticket_in_is e (length past) t h).caller) ∙ makes in
    ltb-true t.caller.0 s.callers (and_parts _ (is_callers e.call) caller).0)

pub unended_few : (s : Layout) (past : List Entry) → IsLegal s past → length (unended_tickets past) ≤ 64 * s.callers
unended_few s past legal =
    no_longer (λ (t : Ticket). t.caller.0) 64 s.callers (unended_tickets past)
    (all_kept (λ t. t.caller.0 < s.callers) (is_unended past) (tickets past) (callers_there s past legal))
    (few_of_caller s past legal)
