-- After a call the numbers that matter are old ones that mattered and that of the new entry, and their order stays.
use Rattle.std.specs.Prelude.{◌⊎◌, ◌<◌}
use Rattle.cmwq_alike.specs.Common.{◌≡◌, ℕ, nat_lt, List, ◌∷◌, length, filter, Some}
use Rattle.cmwq_alike.specs.Common.{option_to_list, arith, sym, ap, ◌∙◌, nat_tests, inl, inr, subst, ⊎_elim}
use Rattle.cmwq_alike.specs.Common.{In, in_map, in_mapped, in_append, in_filter, in_option, Entry, Queueing, Ticket}
use Rattle.cmwq_alike.specs.Common.{Layout}
use Rattle.cmwq_alike.specs.Common.{still_open, unended_tickets, opening, ticket_in, IsLegal, of_in}
use Rattle.cmwq_alike.specs.Alike.{KeepsOrder, Matters, IsOpenNumber, IsTicketNumber, next_by, number_of, ticket_number}
use Rattle.cmwq_alike.specs.Alike.{IsStep}
use Rattle.cmwq_theory_steps.specs.Endings.{survives}
use Rattle.cmwq_theory_steps.specs.TicketSteps.{is_kept}
use Rattle.cmwq_theory_steps.proofs.Endings.{open_go_on}
use Rattle.cmwq_theory_steps.proofs.Rising.{opening_number}
use Rattle.cmwq_theory_steps.proofs.TicketSteps.{unended_go_on, ticket_number as number_of_ticket}
use Rattle.cmwq_theory_steps.proofs.Given.{IsGiven, unended_given}
use Rattle.cmwq_alike.proofs.Numbers.{matters_below, new_is, old_stays}

pub ticket_below : (past : List Entry) (n : ℕ) → IsTicketNumber past n → n < length past
ticket_below past n h =
    let q = in_map ticket_number (unended_tickets past) n h in
    let given = of_in (IsGiven past) (unended_tickets past) q.0 (unended_given past) q.1 in
    subst (λ k. k < length past) q.2 given.older

-- it mattered before, or is the number of the new entry
pub record IsOld (past : List Entry) (n : ℕ) : Type 0 where
  pub below : n < length past
  pub matters : Matters past n

pub old_of : (past : List Entry) (n : ℕ) → Matters past n → IsOld past n
old_of past n h = record { below = ⊎_elim (matters_below past n) (ticket_below past n) h; matters = h }

pub open_old : (s : Layout) (past : List Entry) (e : Entry) (x : Queueing) → IsLegal s (e ∷ past)
    → In x (still_open (e ∷ past)) → (In x (still_open past)) ⊎ (opening past e ≡ Some x)
open_old s past e x legal h =
    ⊎_elim (λ i. inl (in_filter (survives past e) (still_open past) x i).0) (λ i. inr (in_option (opening past e) x i))
    (in_append (filter (survives past e) (still_open past)) (option_to_list (opening past e)) x
    (subst (In x) (open_go_on s past e legal) h))

pub ticket_old : (s : Layout) (past : List Entry) (e : Entry) (t : Ticket) → IsLegal s (e ∷ past)
    → In t (unended_tickets (e ∷ past)) → (In t (unended_tickets past)) ⊎ (ticket_in e (length past) ≡ Some t)
ticket_old s past e t legal h =
    ⊎_elim (λ i. inl (in_filter (is_kept e) (unended_tickets past) t i).0)
    (λ i. inr (in_option (ticket_in e (length past)) t i))
    (in_append (filter (is_kept e) (unended_tickets past)) (option_to_list (ticket_in e (length past))) t
    (subst (In t) (unended_go_on s past e legal) h))

pub matters_old : (s : Layout) (past : List Entry) (e : Entry) (n : ℕ) → IsLegal s (e ∷ past) → Matters (e ∷ past) n
    → IsOld past n ⊎ (n ≡ length past)
matters_old s past e n legal h = ⊎_elim of_open of_ticket h
  where
    of_open : IsOpenNumber (e ∷ past) n → IsOld past n ⊎ (n ≡ length past)
    of_open i =
        let q = in_map number_of (still_open (e ∷ past)) n i in
        ⊎_elim (λ old. inl (old_of past n
        (subst (Matters past) q.2 (inl (in_mapped number_of (still_open past) q.0 old)))))
        (λ new. inr (sym q.2 ∙ opening_number past e q.0 new)) (open_old s past e q.0 legal q.1)

    of_ticket : IsTicketNumber (e ∷ past) n → IsOld past n ⊎ (n ≡ length past)
    of_ticket i =
        let q = in_map ticket_number (unended_tickets (e ∷ past)) n i in
        ⊎_elim (λ old. inl (old_of past n
        (subst (Matters past) q.2 (inr (in_mapped ticket_number (unended_tickets past) q.0 old)))))
        (λ new. inr (sym q.2 ∙ number_of_ticket e (length past) q.0 new)) (ticket_old s past e q.0 legal q.1)

module _ {s : Layout} {f : ℕ → ℕ} {past other : List Entry} {e d : Entry} (k : IsStep s f past other e d) where
  both_old : (a b : ℕ) → IsOld past a → IsOld past b
      → nat_lt (next_by f past other a) (next_by f past other b) ≡ nat_lt a b
  both_old a b ha hb = rw (old_stays f past other a ha.below, old_stays f past other b hb.below)
      (k.alike.order a b ha.matters hb.matters)

  old_new : (a b : ℕ) → IsOld past a → b ≡ length past
      → nat_lt (next_by f past other a) (next_by f past other b) ≡ nat_lt a b
  old_new a b ha hb =
      let less = k.alike.below a ha.matters in
      let small = ha.below in
      rw (old_stays f past other a ha.below, hb, new_is f past other) (grind (arith, nat_tests))

  new_old : (a b : ℕ) → a ≡ length past → IsOld past b
      → nat_lt (next_by f past other a) (next_by f past other b) ≡ nat_lt a b
  new_old a b ha hb =
      let less = k.alike.below b hb.matters in
      let small = hb.below in
      rw (old_stays f past other b hb.below, ha, new_is f past other) (grind (arith, nat_tests))

  both_new : (a b : ℕ) → a ≡ length past → b ≡ length past
      → nat_lt (next_by f past other a) (next_by f past other b) ≡ nat_lt a b
  both_new a b ha hb = rw (ha, hb) (grind (arith, nat_tests))

  pub order_stays : KeepsOrder (next_by f past other) (e ∷ past)
  order_stays a b ma mb =
      ⊎_elim (λ oa. ⊎_elim (λ ob. both_old a b oa ob) (λ nb. old_new a b oa nb) (matters_old s past e b k.legal mb))
      (λ na. ⊎_elim (λ ob. new_old a b na ob) (λ nb. both_new a b na nb) (matters_old s past e b k.legal mb))
      (matters_old s past e a k.legal ma)

  pub below_stays : (n : ℕ) → Matters (e ∷ past) n → next_by f past other n < length (d ∷ other)
  below_stays n mn =
      ⊎_elim (λ o. let less = k.alike.below n o.matters in rw (old_stays f past other n o.below) (omega arith))
      (λ new. subst (λ m. m < length (d ∷ other)) (sym (ap (next_by f past other) new ∙ new_is f past other))
      (omega arith)) (matters_old s past e n k.legal mn)
