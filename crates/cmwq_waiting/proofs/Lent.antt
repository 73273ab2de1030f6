-- The unended tickets of lent callers are those for which runs wait.
use Rattle.std.proofs.Common.{◌≡◌, ◌∙◌, ◌∷◌, ◌==◌, ◌<◌, Bool, List, None, Option, Some, ℕ, ap, ap₂, arith, eqb-true}
use Rattle.std.proofs.Common.{false, filter, length, not, option_to_list, refl, subst, sym, true, ⊎_elim, []}
use Rattle.std.specs.Prelude.{◌&&◌, if◌then◌else◌, is_some}
use Rattle.std.proofs.lemmas.Bool.{false_from_ne_true}
use Rattle.std.proofs.lemmas.Option.{same_Some}
use Rattle.cmwq_lemmas.proofs.Members.{In, contained_in, filter_in, in_append, in_contained, in_filter, in_left}
use Rattle.cmwq_lemmas.proofs.Members.{in_option, in_right, option_in}
unfoldable use Rattle.cmwq_model.specs.Prelude.{IsLegal, tickets}
use Rattle.cmwq_model.specs.Prelude.{gives_ticket, is_unended, ticket_for, ticket_in, unended_tickets}
use Rattle.cmwq_model.specs.declared.entry.Entry.{Entry}
use Rattle.cmwq_model.specs.declared.id.Who.{Who}
use Rattle.cmwq_model.specs.declared.id.Who.TheVariants.{Caller, Worker}
use Rattle.cmwq_model.specs.declared.record.Queueing.{Queueing}
use Rattle.cmwq_model.specs.declared.record.Ticket.{Ticket}
use Rattle.cmwq_theory_steps.specs.TicketSteps.{is_ended_by, is_kept, ticket_ended}
use Rattle.cmwq_theory_steps.proofs.TicketSteps.{one_ticket_ends, ticket_number, unended_go_on}
use Rattle.cmwq_waits.specs.Registered.{is_for}
use Rattle.cmwq_waits.specs.declared.run_wait.RunWait.{RunWait}
unfoldable use Rattle.cmwq_waits.specs.Begun.{waits_of}
use Rattle.cmwq_waits.specs.Begun.{is_lent, laid, wait_begun, wait_by, waits_on}
use Rattle.cmwq_waiting.specs.Waits.{LentTicketsAreWaits, WaitsFor}
use Rattle.cmwq_waiting.proofs.Waits.{gives}

-- ---- tickets differ in their numbers

below : (past : List Entry) (t : Ticket) → In t (tickets past) → t.number < length past
unfolding tickets
below [] t here = absurd here
below (e ∷ past) t here =
    ⊎_elim (λ old. let less = below past t old in omega (arith, less))
    (λ new. let number = ticket_number e (length past) t (in_option (ticket_in e (length past)) t new) in
    omega (arith, number))
    (in_append (tickets past) (option_to_list (ticket_in e (length past))) t here)

same_number : (past : List Entry) (t u : Ticket) → In t (tickets past) → In u (tickets past) → t.number ≡ u.number
    → t ≡ u
unfolding tickets
same_number [] t u here there same = absurd here
same_number (e ∷ past) t u here there same =
    let new = option_to_list (ticket_in e (length past)) in
    ⊎_elim
    (λ t_old. ⊎_elim (λ u_old. same_number past t u t_old u_old same)
    (λ u_new. let less = below past t t_old in
    let number = ticket_number e (length past) u (in_option (ticket_in e (length past)) u u_new) in
    absurd (omega (arith, less, number, same))) (in_append (tickets past) new u there))
    (λ t_new. ⊎_elim
    (λ u_old. let less = below past u u_old in
    let number = ticket_number e (length past) t (in_option (ticket_in e (length past)) t t_new) in
    absurd (omega (arith, less, number, same)))
    (λ u_new. same_Some t u
    (sym (in_option (ticket_in e (length past)) t t_new) ∙ in_option (ticket_in e (length past)) u u_new))
    (in_append (tickets past) new u there))
    (in_append (tickets past) new t here)

-- ---- the law

not_ended : (past : List Entry) (e : Entry) (t : Ticket) (w : RunWait) → In t (unended_tickets past)
    → is_kept e t ≡ true → w.ticket ≡ t → is_for (ticket_ended past e) w ≡ false
not_ended past e t w here kept is = by (ticket_ended past e) refl
  where
    by : (o : Option Ticket) → ticket_ended past e ≡ o → is_for o w ≡ false
    by None none = refl
    by (Some u) some = false_from_ne_true (w.ticket.number == u.number) (λ same.
        let ended = in_filter (is_ended_by e) (unended_tickets past) u
        (subst (In u) (sym (one_ticket_ends past e)) (option_in (ticket_ended past e) u some)) in
        let number : t.number ≡ u.number =
        ap (λ (v : Ticket). v.number) (sym is) ∙ eqb-true w.ticket.number u.number same in
        let one = same_number past t u (in_filter (is_unended past) (tickets past) t here).0
        (in_filter (is_unended past) (tickets past) u ended.0).0 number in
        let own = subst (λ (v : Ticket). is_ended_by e v ≡ true) (sym one) ended.1 in
        absurd (grind (arith, own, kept)))

by_whom : (e : Entry) (n : ℕ) (t : Ticket) → ticket_in e n ≡ Some t → e.who ≡ Caller t.caller
by_whom e n t is = by (gives_ticket e.reply) is
  where
    of_who : (who : Who) → ticket_for who e.call n ≡ Some t → who ≡ Caller t.caller
    of_who (Caller c) h = ap (λ (u : Ticket). Caller u.caller) (same_Some _ t h)
    of_who (Worker w) h = absurd (cc h)

    by : (b : Bool) → (if b then ticket_for e.who e.call n else None) ≡ Some t → e.who ≡ Caller t.caller
    by true h = of_who e.who h
    by false h = absurd (cc h)

pub lent_tickets_are_waits : LentTicketsAreWaits
unfolding IsLegal tickets waits_of
lent_tickets_are_waits first s [] legal follow none t here lent = absurd (contained_in [] t here)
lent_tickets_are_waits first s (e ∷ past) legal follow none t here lent =
    ⊎_elim
    (λ old. let k = in_filter (is_kept e) (unended_tickets past) t old in
    kept k.1 k.0 (lent_tickets_are_waits first s past legal.2 follow.1 none.1 t (in_contained
    (unended_tickets past) t k.0)
    lent))
    (λ new. begun (in_option (ticket_in e (length past)) t new))
    (in_append (filter (is_kept e) (unended_tickets past)) (option_to_list (ticket_in e (length past))) t
    (subst (In t) (unended_go_on s past e legal) (contained_in (unended_tickets (e ∷ past)) t here)))
  where
    kept : is_kept e t ≡ true → In t (unended_tickets past) → WaitsFor first past t → WaitsFor first (e ∷ past) t
    kept stays unended was =
        let on : waits_on past e was.wait ≡ true =
        ap₂ (λ a b. not a && not b) (none.0 was.wait was.there)
        (not_ended past e t was.wait unended stays was.ticket) in
        record {
          wait = was.wait;
          there = in_contained (waits_of first (e ∷ past)) was.wait
              (in_left (filter (waits_on past e) (waits_of first past)) (option_to_list
              (wait_begun first past e)) was.wait
              (filter_in (waits_on past e) (waits_of first past) was.wait
              (contained_in (waits_of first past) was.wait was.there) on));
          ticket = was.ticket;
        }

    begun : ticket_in e (length past) ≡ Some t → WaitsFor first (e ∷ past) t
    begun given =
        let its : is_lent first e.who ≡ true = ap (is_lent first) (by_whom e (length past) t given) ∙ lent in
        by its (laid past) refl (follow.0 its (gives e (length past) t given))
      where
        by : is_lent first e.who ≡ true → (o : Option Queueing) → laid past ≡ o → is_some o ≡ true
            → WaitsFor first (e ∷ past) t
        by its None nothing h = absurd (cc h)
        by its (Some x) lies h =
            let w : RunWait = record { run = x; ticket = t } in
            let begins : wait_begun first past e ≡ Some w =
            ap (λ b. if b then wait_by (laid past) (ticket_in e (length past)) else None) its
            ∙ ap₂ wait_by lies given in
            record {
              wait = w;
              there = in_contained (waits_of first (e ∷ past)) w
                  (in_right (filter (waits_on past e) (waits_of first past)) (option_to_list
                  (wait_begun first past e)) w
                  (option_in (wait_begun first past e) w begins));
              ticket = refl;
            }
