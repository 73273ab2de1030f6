-- What an unended ticket waits for, by what is read.
use Rattle.std.proofs.Common.{◌≡◌, ℕ, List, Some, None, find, refl}
use Rattle.std.specs.Prelude.{Contains}
use Rattle.cmwq_lemmas.proofs.Members.{found, in_contained}
use Rattle.cmwq_model.specs.Prelude.{unended_tickets, waits_for}
use Rattle.cmwq_model.specs.declared.entry.Entry.{Entry}
use Rattle.cmwq_model.specs.declared.record.Ticket.{Ticket}
use Rattle.cmwq_state.specs.History.{ticket_has_number}
use Rattle.cmwq_awaited.specs.Waits.{waited_for, of_entry}

pub is_unended : (past : List Entry) (n : ℕ) (t : Ticket) → find (ticket_has_number n) (unended_tickets past) ≡ Some t
    → Contains (unended_tickets past) t
is_unended past n t is =
    in_contained (unended_tickets past) t (found (ticket_has_number n) (unended_tickets past) t is).0

pub awaits : (past entries : List Entry) (n k : ℕ) (t : Ticket)
    → find (ticket_has_number n) (unended_tickets past) ≡ Some t → waits_for past t.number t.call ≡ Some k
    → of_entry entries k ≡ waited_for past entries n
awaits past entries n k t is waits = rw (is, waits) refl

pub is_over : (past entries : List Entry) (n : ℕ) (t : Ticket)
    → find (ticket_has_number n) (unended_tickets past) ≡ Some t → waits_for past t.number t.call ≡ None
    → None ≡ waited_for past entries n
is_over past entries n t is waits = rw (is, waits) refl

pub is_none : (past entries : List Entry) (n : ℕ) → find (ticket_has_number n) (unended_tickets past) ≡ None
    → None ≡ waited_for past entries n
is_none past entries n is = rw is refl
