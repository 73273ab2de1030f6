-- What callers wait with, after a call of anyone.
use Rattle.std.specs.Prelude.{◌⊎◌, ◌<◌, ◌==◌}
use Rattle.cmwq_alike.specs.Common.{◌≡◌, ℕ, Bool, true, false, List, [], ◌∷◌, length, map, Option, Some, None}
use Rattle.cmwq_alike.specs.Common.{arith, refl, sym, ap, ◌∙◌, nat_tests, inl, inr, subst, ⊎_elim}
use Rattle.cmwq_alike.specs.Common.{In, in_map, in_mapped, Entry, Ticket, Layout, Who, IsLegal, unended_tickets}
use Rattle.cmwq_alike.specs.Common.{is_done, ticket_of, end_of_ticket}
unfoldable use Rattle.cmwq_model.specs.Prelude.{answer}
use Rattle.cmwq_model.specs.declared.call.Call.TheVariants as call
use Rattle.cmwq_alike.specs.Alike.{ticket_by, IsTicketNumber, ticket_number, next_by, IsStep, IsWaitAlike}
use Rattle.cmwq_alike.specs.Alike.{WaitsGoOnAlike, WaitsEndAlike, Matters, KeepsOrder}
use Rattle.cmwq_theory_steps.proofs.TicketSteps.{ticket_number as number_of_ticket}
use Rattle.cmwq_alike.proofs.Numbers.{old_stays, new_is, same_tests}
use Rattle.cmwq_alike.proofs.Orders.{ticket_old, ticket_below}
use Rattle.cmwq_alike.proofs.Tickets.{tickets_stay, found_matters, done_by}
use Rattle.cmwq_alike.proofs.Answered.{end_is_alike}

-- a number is in a list or isn't
pub is_there : (ns : List ℕ) (n : ℕ) → In n ns ⊎ (In n ns → ⊥)
is_there [] n = inr (λ h. h)
is_there (m ∷ ms) n = at (m == n) refl (is_there ms n)
  where
    at : (b : Bool) → (m == n) ≡ b → In n ms ⊎ (In n ms → ⊥) → In n (m ∷ ms) ⊎ (In n (m ∷ ms) → ⊥)
    at true h rest = inl (inl (grind (arith, nat_tests)))
    at false h (inl i) = inl (inr i)
    at false h (inr not_so) = inr (λ k. ⊎_elim (λ e. grind (arith, nat_tests)) not_so k)

same_number : (f : ℕ → ℕ) (past : List Entry) (a b : ℕ) → KeepsOrder f past → Matters past a → Matters past b
    → f a ≡ f b → a ≡ b
same_number f past a b order ma mb h = let t = same_tests f past a b order ma mb in grind (arith, nat_tests)

-- an older number that is unended after the entry was so before
old_ticket : (s : Layout) (past : List Entry) (e : Entry) (n : ℕ) → IsLegal s (e ∷ past) → n < length past
    → IsTicketNumber (e ∷ past) n → IsTicketNumber past n
old_ticket s past e n legal less h =
    let q = in_map ticket_number (unended_tickets (e ∷ past)) n h in
    ⊎_elim (λ i. subst (IsTicketNumber past) q.2 (in_mapped ticket_number (unended_tickets past) q.0 i))
    (λ new. absurd (let is = number_of_ticket e (length past) q.0 new in let same = q.2 in omega arith))
    (ticket_old s past e q.0 legal q.1)

module _ {s : Layout} {f : ℕ → ℕ} {past other : List Entry} {e d : Entry} (k : IsStep s f past other e d) where
  -- what isn't unended after the entry isn't in the other either
  ended_both : (n m : ℕ) → IsTicketNumber past n → m ≡ f n → m < length other → (IsTicketNumber (e ∷ past) n → ⊥)
      → IsTicketNumber (d ∷ other) m → ⊥
  ended_both n m mn is less not_so h =
      let q = in_map ticket_number (unended_tickets (d ∷ other)) m h in
      let r = in_map (ticket_by (next_by f past other)) (unended_tickets (e ∷ past)) q.0
      (subst (In q.0) (tickets_stay k) q.1) in
      let here = in_mapped ticket_number (unended_tickets (e ∷ past)) r.0 r.1 in
      let same : next_by f past other (ticket_number r.0) ≡ m = ap ticket_number r.2 ∙ q.2 in
      ⊎_elim (λ old. let its = in_mapped ticket_number (unended_tickets past) r.0 old in
      not_so (subst (IsTicketNumber (e ∷ past))
      (same_number f past (ticket_number r.0) n k.alike.order (inr its) (inr mn)
      (sym (old_stays f past other (ticket_number r.0) (ticket_below past (ticket_number r.0) its)) ∙ (same ∙ is)))
      here))
      (λ new. let at = ap (next_by f past other) (number_of_ticket e (length past) r.0 new) ∙ new_is f past other in
      let both : length other ≡ m = sym at ∙ same in absurd (omega arith))
      (ticket_old s past e r.0 k.legal r.1)

  pub wait_stays : (n m : ℕ) → IsWaitAlike f past other n m
      → IsWaitAlike (next_by f past other) (e ∷ past) (d ∷ other) n m
  wait_stays n m w =
      record {
        below = omega (arith, w.below);
        other_below = omega (arith, w.other_below);
        ticket = ⊎_elim
            (λ is. ⊎_elim (λ still. inl (still, is.1 ∙ sym (old_stays f past other n w.below)))
            (λ not_so. inr (not_so, ended_both n m is.0 is.1 w.other_below not_so))
            (is_there (map ticket_number (unended_tickets (e ∷ past))) n))
            (λ not_so. inr (
              (λ h. not_so.0 (old_ticket s past e n k.legal w.below h)),
              (λ h. not_so.1 (old_ticket s other d m k.other_legal w.other_below h)),
            ))
            w.ticket;
      }

pub waits_go_on : WaitsGoOnAlike
waits_go_on s f past other e d k n m w = wait_stays k n m w

none_done : (past : List Entry) (who : Who) (n : ℕ) → (IsTicketNumber past n → ⊥) → (o : Option Ticket)
    → ticket_of past who n ≡ o
    → is_done (end_of_ticket past o) ≡ false
none_done past who n not_so None is = refl
none_done past who n not_so (Some t) is = absurd (not_so (found_matters past who n t is))

-- the end of a ticket that is no longer unended is not done
pub end_not_done : (s : Layout) (past : List Entry) (who : Who) (n : ℕ) → (IsTicketNumber past n → ⊥)
    → is_done (answer s past who (call.End n)) ≡ false
unfolding answer
end_not_done s past who n not_so = none_done past who n not_so (ticket_of past who n) refl

pub waits_end : WaitsEndAlike
unfolding answer
waits_end s f past other who n m legal other_legal a w =
    ⊎_elim
    (λ is. ap (λ j. is_done (end_of_ticket other (ticket_of other who j))) is.1
    ∙ (ap is_done (end_is_alike a legal who n is.0)
    ∙ done_by (next_by f past other) (end_of_ticket past (ticket_of past who n))))
    (λ not_so. end_not_done s other who m not_so.1 ∙ sym (end_not_done s past who n not_so.0))
    w.ticket
