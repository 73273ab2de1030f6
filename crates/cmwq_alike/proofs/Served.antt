-- From when flushes are served after a call.
use Rattle.std.specs.Prelude.{◌<◌, ◌≤◌, ◌==◌, ◌&&◌, if◌then◌else◌}
use Rattle.cmwq_alike.specs.Common.{◌≡◌, ℕ, Bool, true, false, nat_lt, List, [], ◌∷◌, length, count_by, Option, Some}
use Rattle.cmwq_alike.specs.Common.{None, is_some, option_or}
use Rattle.cmwq_alike.specs.Common.{arith, refl, ap, ◌∙◌, inr, ⊎_elim, nat_tests}
use Rattle.cmwq_alike.specs.Common.{AllByRecursion, all_in, of_in, In, in_mapped, Entry, Ticket, Queueing, Layout}
use Rattle.cmwq_alike.specs.Common.{unended_tickets, still_open, opening, ticket_in, serving_from, is_older_flush}
use Rattle.cmwq_alike.specs.Common.{is_served_after, is_flush_of, is_within}
use Rattle.cmwq_alike.specs.Alike.{ticket_by, Matters, next_by, ticket_number, IsStep, IsServedAlike}
use Rattle.cmwq_theory_steps.proofs.TicketSteps.{not_served_yet, ticket_number as number_of_ticket}
use Rattle.cmwq_theory_steps.proofs.Rising.{opening_number, open_below}
use Rattle.cmwq_alike.proofs.Lemmas.{count_mapped}
use Rattle.cmwq_alike.proofs.Numbers.{old_stays, new_is, open_matters}
use Rattle.cmwq_alike.proofs.Orders.{order_stays, below_stays, ticket_old, ticket_below, open_old}
use Rattle.cmwq_alike.proofs.Tickets.{tickets_stay}

-- what is served is so from an older entry on
pub served_below : (past : List Entry) (q n b : ℕ) → serving_from past q n ≡ Some b → b < length past
unfolding serving_from
served_below [] q n b h = absurd (grind arith)
served_below (e ∷ past) q n b h = grind (arith, served_below past q n b)

-- and in the next entry, where it wasn't
served_next : (e : Entry) (past : List Entry) (q n : ℕ) → n ≤ length past
    → serving_from (e ∷ past) q n
    ≡ option_or (serving_from past q n) (if is_served_after (e ∷ past) q n then Some (length past) else None)
unfolding serving_from
served_next e past q n less = grind (arith, nat_tests)

both_served : (a b : Option ℕ) (c d : Bool) (n m : ℕ) → is_some a ≡ is_some b → c ≡ d
    → is_some (option_or a (if c then Some n else None)) ≡ is_some (option_or b (if d then Some m else None))
both_served a b c d n m h k = grind arith

-- an old queueing is within both or none, and a new one as it is served now
old_within : (a b : Option ℕ) (c d : Bool) (n m x y : ℕ) → is_some a ≡ is_some b → c ≡ d
    → is_within a x ≡ is_within b y → x ≤ n → y ≤ m
    → is_within (option_or a (if c then Some n else None)) x ≡ is_within (option_or b (if d then Some m else None)) y
old_within a b c d n m x y h k j less more = grind (arith, nat_tests)

new_within : (a b : Option ℕ) (c d : Bool) (n m : ℕ) → is_some a ≡ is_some b → c ≡ d
    → ((i : ℕ) → a ≡ Some i → i < n) → ((i : ℕ) → b ≡ Some i → i < m)
    → is_within (option_or a (if c then Some n else None)) n ≡ is_within (option_or b (if d then Some m else None)) m
new_within None None true d n m h k la lb = grind (arith, nat_tests)
new_within None None false d n m h k la lb = grind (arith, nat_tests)
new_within (Some i) None c d n m h k la lb = grind arith
new_within None (Some j) c d n m h k la lb = grind arith
new_within (Some i) (Some j) c d n m h k la lb = let p = la i refl in let q = lb j refl in grind (arith, nat_tests)

module _ {s : Layout} {f : ℕ → ℕ} {past other : List Entry} {e d : Entry} (k : IsStep s f past other e d) (q : ℕ) where
  count_alike : (n : ℕ) → Matters (e ∷ past) n
      → is_served_after (d ∷ other) q (next_by f past other n) ≡ is_served_after (e ∷ past) q n
  count_alike n mn =
      ap (λ m. nat_lt m 15)
      (ap (count_by (is_older_flush q (next_by f past other n))) (tickets_stay k)
      ∙ count_mapped (ticket_by (next_by f past other)) (is_older_flush q (next_by f past other n)) (is_older_flush q n)
      (unended_tickets (e ∷ past))
      (all_in _ (unended_tickets (e ∷ past))
      (λ t i. ap (λ b. is_flush_of q t && b)
      (order_stays k t.number n (inr (in_mapped ticket_number (unended_tickets (e ∷ past)) t i)) mn))))

  -- where before the entry it was served in both or in none
  served_on : (n : ℕ) → Matters (e ∷ past) n → n ≤ length past → next_by f past other n ≤ length other
      → is_some (serving_from other q (next_by f past other n)) ≡ is_some (serving_from past q n)
      → ((x : Queueing) → In x (still_open past) → (x.place.queue.0 == q) ≡ true
      → is_within (serving_from other q (next_by f past other n)) (f x.number)
      ≡ is_within (serving_from past q n) x.number)
      → IsServedAlike (next_by f past other) (e ∷ past) (d ∷ other) q n
  served_on n mn less more both within =
      record {
        both = rw (served_next e past q n less, served_next d other q (next_by f past other n) more)
            (both_served _ _ _ _ _ _ both (count_alike n mn));
        within = all_in _ (still_open (e ∷ past)) (λ x i on.
            rw (served_next e past q n less, served_next d other q (next_by f past other n) more)
            (⊎_elim (λ j. old x j on) (new x) (open_old s past e x k.legal i)));
      }
    where
      old : (x : Queueing) → In x (still_open past) → (x.place.queue.0 == q) ≡ true
          → is_within (option_or (serving_from other q (next_by f past other n))
          (if is_served_after (d ∷ other) q (next_by f past other n) then Some (length other) else None))
          (next_by f past other x.number)
          ≡ is_within (option_or (serving_from past q n)
          (if is_served_after (e ∷ past) q n then Some (length past) else None)) x.number
      old x i on =
          let young : x.number < length past = of_in _ (still_open past) x (open_below past) i in
          let small : f x.number < length other = k.alike.below x.number (open_matters past x i) in
          rw (old_stays f past other x.number young)
          (old_within _ _ _ _ _ _ _ _ both (count_alike n mn) (within x i on) (omega arith) (omega arith))

      new : (x : Queueing) → opening past e ≡ Some x
          → is_within (option_or (serving_from other q (next_by f past other n))
          (if is_served_after (d ∷ other) q (next_by f past other n) then Some (length other) else None))
          (next_by f past other x.number)
          ≡ is_within (option_or (serving_from past q n)
          (if is_served_after (e ∷ past) q n then Some (length past) else None)) x.number
      new x is =
          rw (ap (next_by f past other) (opening_number past e x is) ∙ new_is f past other, opening_number past e x is)
          (new_within _ _ _ _ _ _ both (count_alike n mn) (λ i h. served_below other q (next_by f past other n) i h)
          (λ i h. served_below past q n i h))

  pub served_stays : AllByRecursion
      (λ t. is_flush_of q t ≡ true → IsServedAlike (next_by f past other) (e ∷ past) (d ∷ other) q t.number)
      (unended_tickets (e ∷ past))
  served_stays =
      all_in _ (unended_tickets (e ∷ past))
      (λ t i flush. let mt : Matters (e ∷ past) t.number =
      inr (in_mapped ticket_number (unended_tickets (e ∷ past)) t i) in
      let more = below_stays k t.number mt in
      ⊎_elim (λ old. of_old t old flush mt) (λ new. of_new t new mt) (ticket_old s past e t k.legal i))
    where
      of_old : (t : Ticket) → In t (unended_tickets past) → is_flush_of q t ≡ true → Matters (e ∷ past) t.number
          → IsServedAlike (next_by f past other) (e ∷ past) (d ∷ other) q t.number
      of_old t old flush mt =
          let m = in_mapped ticket_number (unended_tickets past) t old in
          let less = ticket_below past t.number m in
          let stays = old_stays f past other t.number less in
          let small = k.alike.below t.number (inr m) in
          let a : IsServedAlike f past other q t.number =
          of_in _ (unended_tickets past) t (k.alike.served q) old flush in
          served_on t.number mt (omega arith) (rw stays (omega arith)) (rw stays a.both)
          (λ x i on. rw stays (of_in _ (still_open past) x a.within i on))

      of_new : (t : Ticket) → ticket_in e (length past) ≡ Some t → Matters (e ∷ past) t.number
          → IsServedAlike (next_by f past other) (e ∷ past) (d ∷ other) q t.number
      of_new t new mt =
          let is = number_of_ticket e (length past) t new in
          let so : next_by f past other t.number ≡ length other = ap (next_by f past other) is ∙ new_is f past other in
          let none = not_served_yet past q t.number (omega arith) in
          let other_none = not_served_yet other q (next_by f past other t.number) (omega arith) in
          served_on t.number mt (omega arith) (omega arith) (rw (none, other_none) refl)
          (λ x i on. rw (none, other_none) refl)
