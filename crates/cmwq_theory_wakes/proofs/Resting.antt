-- Nobody could go on where everybody sleeps and nobody is forgotten.
use Rattle.std.proofs.lemmas.Bool.{both_ways, and_parts, false_from_ne_true}
use Rattle.std.proofs.lemmas.Option.{same_Some}
use Rattle.cmwq_model.specs.declared.call.Call.TheVariants as call
use Rattle.cmwq_theory_steps.specs.Common.{◌≡◌, ℕ, Bool, true, false, List, Some, refl, sym, ap, ap₂, ◌∙◌, subst}
use Rattle.cmwq_theory_steps.specs.Common.{is_some, option_map, All_both, WorkerId, Caller, Worker, Entry, Ticket}
use Rattle.cmwq_theory_steps.specs.Common.{Layout, IsLegal, entry_at, is_done, number_started, answer, waits_for}
use Rattle.cmwq_theory_steps.proofs.Reasons.{done_reason}
use Rattle.cmwq_theory_steps.proofs.Causes.{causes}
use Rattle.cmwq_theory_steps.proofs.Given.{ticket_is}
use Rattle.cmwq_theory_steps.proofs.TicketSteps.{is_done_reply}
use Rattle.cmwq_theory_wakes.specs.Readiness.{is_unready}
use Rattle.cmwq_theory_wakes.specs.Starting.{worker_is_idle, would_start, allows_start, Attendant}
use Rattle.cmwq_theory_wakes.specs.Rest.{IsOfItsCall, IsUnready, NoneForgotten, NobodyGoesOn}
use Rattle.cmwq_theory_wakes.proofs.Starting.{idle_start_alike}

same_end : (n m : ℕ) → call.End n ≡ call.End m → n ≡ m
same_end n m h = cc

-- the end of a ticket that is not ready does not return done
pub unready_not_done : (s : Layout) (past : List Entry) (t : Ticket) → IsOfItsCall past t → IsUnready past t
    → is_done (answer s past (Caller t.caller) (call.End t.number)) ≡ false
unready_not_done s past t known held = false_from_ne_true _ (λ done.
    let cause = causes s past (Caller t.caller) (call.End t.number) in
    let why = done_reason s past (Caller t.caller) (call.End t.number) _ cause (is_done_reply _ done) in
    let of = ticket_is past (Caller t.caller) why.number why.ticket why.stands in
    let number : t.number ≡ why.number = same_end t.number why.number why.is_end in
    let same : t.number ≡ why.ticket.number = number ∙ sym of.number in
    let at : entry_at past t.number ≡ Some of.given.begun =
    subst (λ n. entry_at past n ≡ Some of.given.begun) (sym same) of.given.at in
    let calls : t.call ≡ why.ticket.call =
    same_Some t.call why.ticket.call
    (sym known ∙ (ap (option_map (λ (e : Entry). e.call)) at ∙ ap Some of.given.call)) in
    let free : is_unready past t.number t.call ≡ false =
    ap₂ (λ n c. is_some (waits_for past n c)) same calls ∙ ap is_some why.ready in
    both_ways _ free held)

-- no worker would start anything if every idle worker rests
none_starts : (s : Layout) (past : List Entry) (tickets : List Ticket) (rests : WorkerId → Bool)
    → NoneForgotten s past tickets rests → ((w : WorkerId) → worker_is_idle past w ≡ true → rests w ≡ true)
    → (w : WorkerId) → is_some (number_started (answer s past (Worker w) call.Take)) ≡ false
none_starts s past tickets rests none all w = false_from_ne_true _ (λ starts.
    let would : would_start s past w ≡ true = sym (idle_start_alike s past w) ∙ starts in
    let free = (and_parts (worker_is_idle past w) (allows_start s past w.pool) would).0 in
    let attendant : Attendant past rests w.pool = none.workers w.pool w refl (all w free) would in
    both_ways _ attendant.does_not_rest (all attendant.worker attendant.idle))

pub at_rest_nobody_goes_on : (s : Layout) (past : List Entry) → IsLegal s past → (tickets : List Ticket)
    (rests : WorkerId → Bool) → NoneForgotten s past tickets rests
    → ((w : WorkerId) → worker_is_idle past w ≡ true → rests w ≡ true) → NobodyGoesOn s past tickets
at_rest_nobody_goes_on s past legal tickets rests none all = (
  All_both (IsOfItsCall past) (IsUnready past) _ tickets (λ t known held. unready_not_done s past t known held)
      none.known none.callers,
  none_starts s past tickets rests none all,
)
