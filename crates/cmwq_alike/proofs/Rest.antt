-- Bookings, time and queues that are gone, after a call.
use Rattle.std.specs.Prelude.{◌&&◌, ◌||◌, ◌+◌, if◌then◌else◌}
use Rattle.cmwq_alike.specs.Common.{◌≡◌, ℕ, Bool, true, false, List, ◌∷◌, length, find, Option, Some, None, option_map}
use Rattle.cmwq_alike.specs.Common.{option_and_then, option_map_or, is_at}
use Rattle.cmwq_alike.specs.Common.{arith, refl, sym, ap, ap₂, ◌∙◌, inr, all_in, in_mapped, Entry, Layout, Who, Caller}
use Rattle.cmwq_alike.specs.Common.{Worker, Call, Reply, Ticket}
use Rattle.cmwq_alike.specs.Common.{now, ticks_told, booking, booking_of, settles, due_in, is_of_item, is_gone}
use Rattle.cmwq_alike.specs.Common.{ends_destroy, is_done, ticket_of, is_ticket, unended_tickets}
use Rattle.cmwq_model.specs.Prelude.{booked_by, is_destroy_of, is_held_by}
use Rattle.cmwq_model.specs.declared.call.Call.TheVariants as call
use Rattle.cmwq_alike.specs.Alike.{call_by, reply_by, ticket_by, unnumbered, next_by, IsStep, IsAlike, IsTicketNumber}
use Rattle.cmwq_alike.specs.Alike.{ticket_number}
use Rattle.cmwq_theory_steps.proofs.Reasons.{done_reason}
use Rattle.cmwq_theory_steps.proofs.Causes.{cause_of}
use Rattle.cmwq_theory_steps.proofs.TicketSteps.{is_done_reply}
use Rattle.cmwq_alike.proofs.Lemmas.{find_mapped}
use Rattle.cmwq_alike.proofs.Numbers.{old_stays, same_tests}
use Rattle.cmwq_alike.proofs.Orders.{ticket_below}
use Rattle.cmwq_alike.proofs.Opens.{same_item}
use Rattle.cmwq_alike.proofs.Tickets.{same_done, found_matters}

ticks_by : (g : ℕ → ℕ) (c : Call) → ticks_told (call_by g c) ≡ ticks_told c
ticks_by g c = grind arith

pub settles_by : (g : ℕ → ℕ) (r : Reply) → settles (reply_by g r) ≡ settles r
settles_by g r = grind arith

pub due_by : (g : ℕ → ℕ) (r : Reply) → due_in (reply_by g r) ≡ due_in r
due_by g r = grind arith

pub made_by : (g : ℕ → ℕ) (c : Call) (n m due : ℕ)
    → option_map unnumbered (booked_by (call_by g c) m due) ≡ option_map unnumbered (booked_by c n due)
made_by g c n m due = grind arith

pub held_by : (f : ℕ → ℕ) (who : Who) (t : Ticket) → is_held_by who (ticket_by f t) ≡ is_held_by who t
held_by f (Caller c) t = refl
held_by f (Worker w) t = refl

-- a ticket that is found is found alike
pub ticket_found : (s : Layout) (f : ℕ → ℕ) (past other : List Entry) (who : Who) (n : ℕ) → IsAlike s f past other
    → IsTicketNumber past n
    → ticket_of other who (f n) ≡ option_map (ticket_by f) (ticket_of past who n)
ticket_found s f past other who n a m =
    ap (find (is_ticket who (f n))) a.tickets
    ∙ find_mapped (ticket_by f) (is_ticket who (f n)) (is_ticket who n) (unended_tickets past)
    (all_in _ (unended_tickets past) (λ t i. ap₂ (λ b h. b && h)
    (same_tests f past t.number n a.order (inr (in_mapped ticket_number (unended_tickets past) t i)) (inr m))
    (held_by f who t)))

module _ {s : Layout} {f : ℕ → ℕ} {past other : List Entry} {e d : Entry} (k : IsStep s f past other e d) where
  pub time_stays : now (d ∷ other) ≡ now (e ∷ past)
  unfolding now
  time_stays = ap₂ (λ n t. n + t) k.alike.time (ap ticks_told k.same.call ∙ ticks_by (next_by f past other) e.call)

  pub bookings_stay : (i : ℕ) → option_map unnumbered (booking (d ∷ other) i)
      ≡ option_map unnumbered (booking (e ∷ past) i)
  unfolding booking
  bookings_stay i =
      rw (ap settles k.same.reply ∙ settles_by (next_by f past other) e.reply, ap (λ o. is_at o i) (same_item k))
      (at (settles e.reply && is_of_item i e))
    where
      made : (o : Option ℕ) → option_map unnumbered
          (option_and_then (booked_by (call_by (next_by f past other) e.call) (length other)) o)
          ≡ option_map unnumbered (option_and_then (booked_by e.call (length past)) o)
      made None = refl
      made (Some due) = made_by (next_by f past other) e.call (length past) (length other) due

      at : (b : Bool) → option_map unnumbered (if b then booking_of d (length other) else booking other i)
          ≡ option_map unnumbered (if b then booking_of e (length past) else booking past i)
      at true = rw (k.same.call, k.same.reply, due_by (next_by f past other) e.reply) (made (due_in e.reply))
      at false = k.alike.bookings i

  at_destroy : (q : ℕ) (o : Option Ticket)
      → (true && option_map_or (is_destroy_of q) (option_map (ticket_by f) o) false)
      ≡ (true && option_map_or (is_destroy_of q) o false)
  at_destroy q None = refl
  at_destroy q (Some t) = refl

  destroyed : (b : Bool) (q : ℕ) → is_done e.reply ≡ b
      → (b && ends_destroy other q d.who d.call) ≡ (b && ends_destroy past q e.who e.call)
  destroyed false q done = refl
  destroyed true q done =
      let r = done_reason s past e.who e.call e.reply (cause_of s past e k.legal) (is_done_reply e.reply done) in
      by_number r.number r.is_end (found_matters past e.who r.number r.ticket r.stands)
    where
      by_number : (n : ℕ) → e.call ≡ call.End n → IsTicketNumber past n
          → (true && ends_destroy other q d.who d.call) ≡ (true && ends_destroy past q e.who e.call)
      by_number n is m =
          ap₂ (λ w c. true && ends_destroy other q w c) k.same.who
          (k.same.call ∙ (ap (call_by (next_by f past other)) is
          ∙ ap (λ n. call.End n) (old_stays f past other n (ticket_below past n m))))
          ∙ (ap (λ o. true && option_map_or (is_destroy_of q) o false) (ticket_found s f past other e.who n k.alike m)
          ∙ (at_destroy q (ticket_of past e.who n) ∙ sym (ap (λ c. true && ends_destroy past q e.who c) is)))

  pub gone_stay : (q : ℕ) → is_gone (d ∷ other) q ≡ is_gone (e ∷ past) q
  unfolding is_gone
  gone_stay q =
      ap₂ (λ a b. a || b) (k.alike.gone q)
      (ap (λ b. b && ends_destroy other q d.who d.call) (same_done k) ∙ destroyed (is_done e.reply) q refl)
