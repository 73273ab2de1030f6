-- The unended tickets after a call.
use Rattle.std.specs.Prelude.{◌&&◌, ◌++◌, if◌then◌else◌}
use Rattle.cmwq_alike.specs.Common.{map-append}
use Rattle.cmwq_alike.specs.Common.{◌≡◌, ℕ, Bool, true, false, not, List, ◌∷◌, length, filter, map, Option, Some, None}
use Rattle.cmwq_alike.specs.Common.{option_map}
use Rattle.cmwq_alike.specs.Common.{option_to_list, arith, refl, sym, ap, ap₂, ◌∙◌, inr, subst, found}
use Rattle.cmwq_alike.specs.Common.{all_in, In, in_mapped, in_filter, Entry, Ticket, Layout, Who, Caller, Worker, Call}
use Rattle.cmwq_alike.specs.Common.{Reply}
use Rattle.cmwq_alike.specs.Common.{unended_tickets, ticket_in, ticket_for, ends, is_done, is_end_of, gives_ticket}
use Rattle.cmwq_alike.specs.Common.{ticket_of, is_ticket, answer, end_of_ticket, same_who}
use Rattle.cmwq_model.specs.declared.call.Call.TheVariants as call
use Rattle.cmwq_alike.specs.Alike.{ticket_by, reply_by, call_by, Matters, IsTicketNumber, next_by, ticket_number}
use Rattle.cmwq_alike.specs.Alike.{IsStep}
use Rattle.cmwq_theory_steps.specs.TicketSteps.{is_kept}
use Rattle.cmwq_theory_steps.proofs.TicketSteps.{unended_go_on, is_done_reply}
use Rattle.cmwq_theory_steps.proofs.Reasons.{done_reason}
use Rattle.cmwq_theory_steps.proofs.Causes.{cause_of}
use Rattle.cmwq_theory_steps.proofs.Inversions.{answer_is}
use Rattle.cmwq_alike.proofs.Lemmas.{filter_mapped, map_alike}
use Rattle.cmwq_alike.proofs.Numbers.{old_stays, new_is, same_tests}
use Rattle.cmwq_alike.proofs.Orders.{ticket_below}

pub done_by : (g : ℕ → ℕ) (r : Reply) → is_done (reply_by g r) ≡ is_done r
done_by g r = grind arith

gives_by : (g : ℕ → ℕ) (r : Reply) → gives_ticket (reply_by g r) ≡ gives_ticket r
gives_by g r = grind arith

pub found_matters : (past : List Entry) (who : Who) (n : ℕ) (t : Ticket) → ticket_of past who n ≡ Some t
    → IsTicketNumber past n
found_matters past who n t h =
    let q = found (is_ticket who n) (unended_tickets past) t h in
    let is : t.number ≡ n = grind (arith, q.1) in
    subst (IsTicketNumber past) is (in_mapped ticket_number (unended_tickets past) t q.0)

-- an end gives no ticket
no_ticket : (past : List Entry) (o : Option Ticket) → gives_ticket (end_of_ticket past o) ≡ false
no_ticket past o = grind arith

call_stays : (s : Layout) (g : ℕ → ℕ) (past : List Entry) (who : Who) (c : Call) (r : Reply) → r ≡ answer s past who c
    → gives_ticket r ≡ true → call_by g c ≡ c
unfolding answer
call_stays s g past who (call.End n) r is gives = absurd (at (ticket_of past who n) (sym (ap gives_ticket is) ∙ gives))
  where
    at : (o : Option Ticket) → gives_ticket (end_of_ticket past o) ≡ true → ⊥
    at o h = let no = no_ticket past o in grind arith
call_stays s g past who c r is gives = refl

module _ {s : Layout} {f : ℕ → ℕ} {past other : List Entry} {e d : Entry} (k : IsStep s f past other e d) where
  pub same_done : is_done d.reply ≡ is_done e.reply
  same_done = ap is_done k.same.reply ∙ done_by (next_by f past other) e.reply

  -- what is ended is one of the old ones
  end_alike : (b : Bool) → is_done e.reply ≡ b → (t : Ticket) → Matters past t.number
      → (is_end_of (f t.number) d.call && b) ≡ (is_end_of t.number e.call && b)
  end_alike false done t mt = grind arith
  end_alike true done t mt =
      let q = done_reason s past e.who e.call e.reply (cause_of s past e k.legal) (is_done_reply e.reply done) in
      let m = found_matters past e.who q.number q.ticket q.stands in
      let mine : d.call ≡ call.End (f q.number) =
      k.same.call ∙ (ap (call_by (next_by f past other)) q.is_end
      ∙ ap (λ n. call.End n) (old_stays f past other q.number (ticket_below past q.number m))) in
      ap (λ b. b && true)
      (ap (is_end_of (f t.number)) mine
      ∙ (same_tests f past q.number t.number k.alike.order (inr m) mt ∙ ap (is_end_of t.number) (sym q.is_end)))

  pub ends_alike : (t : Ticket) → Matters past t.number → ends (ticket_by f t) d ≡ ends t e
  ends_alike t mt =
      joined _ _ _ _ _ _ (ap (λ w. same_who w (Caller t.caller)) k.same.who) same_done
      (end_alike (is_done e.reply) refl t mt)
    where
      joined : (a b p q u v : Bool) → a ≡ b → u ≡ v → (p && v) ≡ (q && v) → (a && p && u) ≡ (b && q && v)
      joined a b p q u v h i j = grind arith

  each_ticket_matters : (t : Ticket) → In t (unended_tickets past) → Matters past t.number
  each_ticket_matters t i = inr (in_mapped ticket_number (unended_tickets past) t i)

  pub ticket_alike : ticket_in d (length other)
      ≡ option_map (ticket_by (next_by f past other)) (ticket_in e (length past))
  ticket_alike = at (gives_ticket e.reply) refl
    where
      given : (w : Who) (c : Call) (n m : ℕ) → m ≡ next_by f past other n
          → ticket_for w c m ≡ option_map (ticket_by (next_by f past other)) (ticket_for w c n)
      given (Caller c) l n m h = ap (λ j. Some (record { caller = c; call = l; number = j })) h
      given (Worker w) l n m h = refl

      at : (b : Bool) → gives_ticket e.reply ≡ b
          → (if gives_ticket d.reply then ticket_for d.who d.call (length other) else None)
          ≡ option_map (ticket_by (next_by f past other))
          (if gives_ticket e.reply then ticket_for e.who e.call (length past) else None)
      at false h = rw (ap gives_ticket k.same.reply ∙ (gives_by (next_by f past other) e.reply ∙ h), h) refl
      at true h = rw (
        ap gives_ticket k.same.reply ∙ (gives_by (next_by f past other) e.reply ∙ h),
        h,
        k.same.who,
        k.same.call ∙ call_stays s (next_by f past other) past e.who e.call e.reply (answer_is s past e k.legal) h,
      )
          (given e.who e.call (length past) (length other) (sym (new_is f past other)))

  listed : (o : Option Ticket) → option_to_list (option_map (ticket_by (next_by f past other)) o)
      ≡ map (ticket_by (next_by f past other)) (option_to_list o)
  listed None = refl
  listed (Some x) = refl

  pub tickets_stay : unended_tickets (d ∷ other) ≡ map (ticket_by (next_by f past other)) (unended_tickets (e ∷ past))
  tickets_stay =
      unended_go_on s other d k.other_legal
      ∙ (ap₂ (λ xs ys. xs ++ ys)
      (ap (filter (is_kept d)) k.alike.tickets
      ∙ (filter_mapped (ticket_by f) (is_kept d) (is_kept e) (unended_tickets past)
      (all_in _ (unended_tickets past) (λ t i. ap not (ends_alike t (each_ticket_matters t i))))
      ∙ map_alike (ticket_by f) (ticket_by (next_by f past other)) (filter (is_kept e) (unended_tickets past))
      (all_in _ (filter (is_kept e) (unended_tickets past))
      (λ t i. ap (λ n. record t { number = n })
      (sym (old_stays f past other t.number
      (ticket_below past t.number (in_mapped ticket_number (unended_tickets past) t
      (in_filter (is_kept e) (unended_tickets past) t i).0))))))))
      (ap option_to_list ticket_alike ∙ listed (ticket_in e (length past)))
      ∙ (sym (map-append (ticket_by (next_by f past other)) (filter (is_kept e) (unended_tickets past))
      (option_to_list (ticket_in e (length past))))
      ∙ ap (map (ticket_by (next_by f past other))) (sym (unended_go_on s past e k.legal))))
