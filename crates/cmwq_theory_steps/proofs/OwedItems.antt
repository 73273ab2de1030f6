-- What a history owes after one more entry: tickets, bookings and what waits to start.
use Rattle.cmwq_theory_steps.specs.Common.{◌≡◌, ◌<◌, ◌+◌, ◌==◌, ℕ, Bool, true, false, ◌&&◌, List, [], ◌∷◌, length}
use Rattle.cmwq_theory_steps.specs.Common.{length-append, filter, Option, Some, None, option_to_list, nat_lt, refl, sym}
use Rattle.cmwq_theory_steps.specs.Common.{ap, ap₂, ◌∙◌, arith, option_and_then, is_some, if◌then◌else◌, IsTrue}
use Rattle.cmwq_theory_steps.specs.Common.{range_with_len, option_or, option_map_or, ltb-true, eqb-true, eq-eqb}
use Rattle.cmwq_theory_steps.specs.Common.{nat_tests, length-filter_both, Who, Call, Reply, Entry, Booking, Ticket}
use Rattle.cmwq_theory_steps.specs.Common.{Layout, fits, may_make, has_numbers, is_at, item_called, item_fired, item_of}
use Rattle.cmwq_theory_steps.specs.Common.{is_of_item, settles, due_in, booking, booking_of, booked_by, is_booked}
use Rattle.cmwq_theory_steps.specs.Common.{gives_ticket, is_done, ticket_in, ticket_for, unended_tickets, IsLegal}
use Rattle.cmwq_theory_steps.specs.Common.{All_each}
use Rattle.cmwq_model.specs.declared.call.Call.TheVariants as call
use Rattle.cmwq_theory_steps.specs.TicketSteps.{is_kept, is_ended_by, ticket_asked, ticket_ended}
use Rattle.cmwq_theory_steps.specs.Histories.{one}
use Rattle.cmwq_theory_steps.specs.RoomSteps.{booked_count, settles_booked}
use Rattle.std.proofs.lemmas.Bool.{and_parts}
use Rattle.cmwq_lemmas.proofs.Filters.{count_by-same}
use Rattle.cmwq_theory_steps.proofs.Points.{count_point, is_number, number_once}
use Rattle.cmwq_theory_steps.proofs.Standing.{booking_after, due_own, due_settles, made_for}
use Rattle.cmwq_theory_steps.proofs.Causes.{Cause, cause_of}
use Rattle.cmwq_theory_steps.proofs.Causes as cause
use Rattle.cmwq_theory_steps.proofs.Reasons.{legal_fits, ticket_reason, done_reason}
use Rattle.cmwq_theory_steps.proofs.TicketSteps.{is_done_reply, unended_go_on, one_ticket_ends}

-- ---- tickets

ended_length : (s : Layout) (past : List Entry) (e : Entry) → IsLegal s (e ∷ past)
    → length (option_to_list (ticket_ended past e)) ≡ one (is_done e.reply)
ended_length s past e legal = at (is_done e.reply) refl
  where
    at : (b : Bool) → is_done e.reply ≡ b → length (option_to_list (if b then ticket_asked past e.who e.call else None))
        ≡ one b
    at true h =
        let r = done_reason s past e.who e.call e.reply (cause_of s past e legal) (is_done_reply e.reply h) in
        ap (λ (o : Option Ticket). length (option_to_list o)) (ap (ticket_asked past e.who) r.is_end ∙ r.stands)
    at false h = refl

given_length : (s : Layout) (past : List Entry) (e : Entry) → IsLegal s (e ∷ past)
    → length (option_to_list (ticket_in e (length past))) ≡ one (gives_ticket e.reply)
given_length s past e legal = at (gives_ticket e.reply) refl
  where
    at : (b : Bool) → gives_ticket e.reply ≡ b
        → length (option_to_list (if b then ticket_for e.who e.call (length past) else None)) ≡ one b
    at true h = let caller =
        ticket_reason s past e.who e.call e.reply (legal_fits s past e legal) (cause_of s past e legal) h in
        ap (λ (w : Who). length (option_to_list (ticket_for w e.call (length past)))) caller.1
    at false h = refl

pub tickets_counted : (s : Layout) (past : List Entry) (e : Entry) → IsLegal s (e ∷ past)
    → length (unended_tickets (e ∷ past)) + one (is_done e.reply)
    ≡ length (unended_tickets past) + one (gives_ticket e.reply)
tickets_counted s past e legal =
    let after = ap length (unended_go_on s past e legal)
    ∙ length-append (filter (is_kept e) (unended_tickets past)) (option_to_list (ticket_in e (length past))) in
    let both = length-filter_both (is_ended_by e) (is_kept e) (λ t. refl) (unended_tickets past) in
    omega (arith, ap length (one_ticket_ends past e) ∙ ended_length s past e legal, given_length s past e legal)

-- ---- items are those of the layout

item_within : (s : Layout) (who : Who) (c : Call) (i : ℕ) → IsTrue (fits s who c) → item_called c ≡ Some i → i < s.items
item_within s who c i fit is = ltb-true i s.items (numbered c (and_parts (may_make s who c) (has_numbers s c) fit).1 is)
  where
    numbered : (c : Call) → has_numbers s c ≡ true → item_called c ≡ Some i → nat_lt i s.items ≡ true
    numbered (call.Queue j q p) h is = grind arith
    numbered c h is = grind arith

pub booked_within : (s : Layout) (past : List Entry) (i : ℕ) (b : Booking) → IsLegal s past → booking past i ≡ Some b
    → i < s.items
unfolding booking IsLegal
booked_within s [] i b legal h = cc
booked_within s (e ∷ past) i b legal h =
    at (settles e.reply && is_of_item i e) refl h (booked_within s past i b legal.2)
  where
    called : (o : Option ℕ) → due_in e.reply ≡ o → option_and_then (booked_by e.call (length past)) o ≡ Some b
        → is_of_item i e ≡ true → i < s.items
    called None is h k = cc
    called (Some d) is h k =
        let f = made_for e.call (length past) d b h in
        let same = eqb-true b.item.0 i (sym (ap (λ o. is_at (option_or o (item_fired e.reply)) i) f.item) ∙ k) in
        item_within s e.who e.call i (legal_fits s past e legal) (f.item ∙ ap Some same)

    at : (a : Bool) → (settles e.reply && is_of_item i e) ≡ a
        → (if a then booking_of e (length past) else booking past i) ≡ Some b → (booking past i ≡ Some b → i < s.items)
        → i < s.items
    at true is h earlier = called (due_in e.reply) refl h (and_parts (settles e.reply) (is_of_item i e) is).1
    at false is h earlier = earlier h

pub record SettlesItem (s : Layout) (c : Call) (r : Reply) : Type 0 where
  pub item : ℕ
  pub is_item : option_or (item_called c) (item_fired r) ≡ Some item
  pub within : item < s.items

-- where no item is called, that of the booking that fires
settles_fired : (s : Layout) (past : List Entry) (who : Who) (c : Call) (r : Reply) → Cause s past who c r
    → IsLegal s past → settles r ≡ true → item_called c ≡ None → SettlesItem s c r
settles_fired s past who c r (cause.fires w b due) legal h none =
    record { item = b.item.0; is_item = refl; within = booked_within s past b.item.0 b legal (due_own past b due) }
settles_fired s past who c r other legal h none = cc

pub settles_item : (s : Layout) (past : List Entry) (who : Who) (c : Call) (r : Reply) → Cause s past who c r
    → IsLegal s past → IsTrue (fits s who c) → settles r ≡ true → SettlesItem s c r
settles_item s past who c r k legal fit h = at (item_called c) refl
  where
    at : (o : Option ℕ) → item_called c ≡ o → SettlesItem s c r
    at None is = settles_fired s past who c r k legal h is
    at (Some i) is =
        record { item = i; is_item = ap (λ o. option_or o (item_fired r)) is; within = item_within s who c i fit is }

-- ---- bookings

booked_left : (s : Layout) (past : List Entry) (e : Entry) → IsLegal s (e ∷ past) → settles e.reply ≡ false
    → booked_count s (e ∷ past) + one (settles_booked past e)
    ≡ booked_count s past + one (is_some (booking_of e (length past)))
booked_left s past e legal none =
    ap₂ (λ n b. n + one (b && option_map_or (is_booked past) (item_of e) false)) same none
    ∙ ap (λ b. booked_count s past + one b) (sym (unbooked (due_in e.reply) refl))
  where
    same : booked_count s (e ∷ past) ≡ booked_count s past
    same = count_by-same (is_booked (e ∷ past)) (is_booked past) (range_with_len 0 s.items)
        (All_each _ (range_with_len 0 s.items)
        (λ i. ap is_some (booking_after past e i false (ap (λ b. b && is_of_item i e) none))))

    unbooked : (o : Option ℕ) → due_in e.reply ≡ o → is_some (option_and_then (booked_by e.call (length past)) o)
        ≡ false
    unbooked None h = refl
    unbooked (Some d) h = let bad : true ≡ false = sym (due_settles e.reply d h) ∙ none in cc

booked_changed : (s : Layout) (past : List Entry) (e : Entry) → IsLegal s (e ∷ past) → settles e.reply ≡ true
    → SettlesItem s e.call e.reply → booked_count s (e ∷ past) + one (settles_booked past e)
    ≡ booked_count s past + one (is_some (booking_of e (length past)))
booked_changed s past e legal settled k =
    ap₂ (λ b o. booked_count s (e ∷ past) + one (b && option_map_or (is_booked past) o false)) settled k.is_item
    ∙ count_point (is_number k.item) (is_booked past) (is_booked (e ∷ past)) (is_booked past k.item)
    (is_some (booking_of e (length past))) (range_with_len 0 s.items) (number_once k.item s.items k.within)
    (λ i h. ap (is_booked past) (eqb-true i k.item h))
    (λ i h. ap is_some (booking_after past e i true (ap₂ (λ a b. a && b) settled (of i h))))
    (λ i h. sym (ap is_some (booking_after past e i false (ap₂ (λ a b. a && b) settled (other i h)))))
  where
    of : (i : ℕ) → is_number k.item i ≡ true → is_of_item i e ≡ true
    of i h = ap (λ o. is_at o i) k.is_item ∙ eq-eqb k.item i (sym (eqb-true i k.item h))

    other : (i : ℕ) → is_number k.item i ≡ false → is_of_item i e ≡ false
    other i h = ap (λ o. is_at o i) k.is_item ∙ (let apart : (k.item == i) ≡ false = grind (arith, nat_tests) in apart)

pub booked_counted : (s : Layout) (past : List Entry) (e : Entry) → IsLegal s (e ∷ past)
    → booked_count s (e ∷ past) + one (settles_booked past e)
    ≡ booked_count s past + one (is_some (booking_of e (length past)))
unfolding IsLegal
booked_counted s past e legal = at (settles e.reply) refl
  where
    at : (b : Bool) → settles e.reply ≡ b → booked_count s (e ∷ past) + one (settles_booked past e)
        ≡ booked_count s past + one (is_some (booking_of e (length past)))
    at true h =
        booked_changed s past e legal h
        (settles_item s past e.who e.call e.reply (cause_of s past e legal) legal.2 (legal_fits s past e legal) h)
    at false h = booked_left s past e legal h
