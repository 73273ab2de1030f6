-- What is asked of an execution.
use Rattle.cmwq_theory_steps.specs.Common.{◌≡◌, ℕ, true, List, Some, sym, ap}
use Rattle.cmwq_theory_steps.specs.Common.{ap₂, ◌∙◌, subst, is_some, option_map, Who, Caller}
use Rattle.cmwq_theory_steps.specs.Common.{Entry, Ticket, entry_at, ticket_of, waits_for, ◌==◌}
use Rattle.std.proofs.lemmas.Option.{same_Some}
use Rattle.std.proofs.lemmas.Bool.{and_parts, eqb-true}
use Rattle.cmwq_lemmas.proofs.Members.{found}
use Rattle.cmwq_theory_steps.specs.Common.{CallerId, is_ticket, unended_tickets}
use Rattle.cmwq_theory_steps.proofs.Given.{ticket_is}
use Rattle.cmwq_theory_wakes.specs.Readiness.{is_unready}
use Rattle.cmwq_theory_wakes.specs.Rest.{IsOfItsCall}

-- the ticket that a caller has under a number is the one of the entry with this number
pub found_call : (past : List Entry) (who : Who) (t found : Ticket) → IsOfItsCall past t
    → ticket_of past who t.number ≡ Some found → (found.number ≡ t.number) × (found.call ≡ t.call)
found_call past who t found known h =
    let of = ticket_is past who t.number found h in
    let at : entry_at past t.number ≡ Some of.given.begun =
    subst (λ n. entry_at past n ≡ Some of.given.begun) of.number of.given.at in
    let calls : t.call ≡ found.call =
    same_Some t.call found.call (sym known ∙ (ap (option_map (λ (e : Entry). e.call)) at ∙ ap Some of.given.call)) in
    (of.number, sym calls)

pub found_unready : (past : List Entry) (who : Who) (t found : Ticket) → IsOfItsCall past t
    → ticket_of past who t.number ≡ Some found → is_some (waits_for past found.number found.call) ≡ true
    → is_unready past t.number t.call ≡ true
found_unready past who t found known h waits =
    let same = found_call past who t found known h in
    ap₂ (λ n c. is_some (waits_for past n c)) (sym same.0) (sym same.1) ∙ waits

-- a found ticket is of its own call
pub found_known : (past : List Entry) (who : Who) (n : ℕ) (found : Ticket) → ticket_of past who n ≡ Some found
    → IsOfItsCall past found
found_known past who n found h =
    let of = ticket_is past who n found h in
    ap (option_map (λ (e : Entry). e.call)) of.given.at ∙ ap Some of.given.call

pub found_of_caller : (past : List Entry) (c : CallerId) (n : ℕ) (t : Ticket) → ticket_of past (Caller c) n ≡ Some t
    → t.caller.0 ≡ c.0
found_of_caller past c n t h =
    eqb-true t.caller.0 c.0 (and_parts (t.number == n) (t.caller.0 == c.0)
    (found (is_ticket (Caller c) n) (unended_tickets past) t h).1).1
