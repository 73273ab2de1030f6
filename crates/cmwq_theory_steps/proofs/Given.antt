-- Tickets by their numbers: each was given by the entry with its number.
use Rattle.cmwq_theory_steps.specs.Common.{◌≡◌, ◌<◌, ℕ, List, [], ◌∷◌, length, Some, option_to_list, ap, ◌∙◌, arith}
use Rattle.cmwq_theory_steps.specs.Common.{AllByRecursion, eqb-true, Who, Entry, Ticket, entry_at, tickets}
use Rattle.cmwq_theory_steps.specs.Common.{unended_tickets, is_unended, ticket_in, ticket_of, is_ticket, All_map}
use Rattle.cmwq_theory_steps.specs.Common.{All_append}
use Rattle.cmwq_theory_steps.proofs.Lemmas.{all_kept}
use Rattle.cmwq_theory_steps.proofs.Activated.{find_holds}
use Rattle.cmwq_theory_steps.proofs.Entries.{entry_at-older, entry_at-newest}
use Rattle.cmwq_lemmas.proofs.Lists.{of_option}

pub record IsGiven (past : List Entry) (t : Ticket) : Type 0 where
  pub begun : Entry
  pub older : t.number < length past
  pub at : entry_at past t.number ≡ Some begun
  pub call : begun.call ≡ t.call

given_more : (e : Entry) (past : List Entry) (t : Ticket) → IsGiven past t → IsGiven (e ∷ past) t
given_more e past t h =
    record {
      begun = h.begun;
      older = omega (arith, h.older);
      at = entry_at-older e past t.number h.older ∙ h.at;
      call =
          h.call;
    }

given_now : (e : Entry) (past : List Entry) (t : Ticket) → ticket_in e (length past) ≡ Some t → IsGiven (e ∷ past) t
given_now e past t h =
    let number : t.number ≡ length past = grind arith in
    record {
      begun = e;
      older = omega arith;
      at = ap (entry_at (e ∷ past)) number ∙ entry_at-newest e past;
      call =
          grind arith;
    }

pub tickets_given : (past : List Entry) → AllByRecursion (IsGiven past) (tickets past)
unfolding tickets
tickets_given [] = tt
tickets_given (e ∷ past) =
    All_append (IsGiven (e ∷ past)) (tickets past) (option_to_list (ticket_in e (length past)))
    (All_map (IsGiven past) (IsGiven (e ∷ past)) (tickets past) (given_more e past) (tickets_given past))
    (of_option (IsGiven (e ∷ past)) (ticket_in e (length past)) (given_now e past))

pub unended_given : (past : List Entry) → AllByRecursion (IsGiven past) (unended_tickets past)
unended_given past = all_kept (IsGiven past) (is_unended past) (tickets past) (tickets_given past)

-- the ticket that a caller has under a number is that of the entry with this number
pub record IsTicketOf (past : List Entry) (n : ℕ) (t : Ticket) : Type 0 where
  pub number : t.number ≡ n
  pub given : IsGiven past t

pub ticket_is : (past : List Entry) (who : Who) (n : ℕ) (t : Ticket) → ticket_of past who n ≡ Some t
    → IsTicketOf past n t
ticket_is past who n t h =
    let found = find_holds (IsGiven past) (is_ticket who n) (unended_tickets past) t (unended_given past) h in
    record { number = eqb-true t.number n (grind arith); given = found.holds }
