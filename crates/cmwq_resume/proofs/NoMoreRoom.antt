-- The history that resumes another needs no more room than that one.
use Rattle.cmwq_resume.specs.Common.{◌≡◌, ◌<◌, ◌≤◌, ◌+◌, ◌*◌, ◌==◌, ◌&&◌, ◌||◌, ℕ, Bool, true, false, not}
use Rattle.cmwq_resume.specs.Common.{List, [], ◌∷◌, ◌++◌, length, map, filter, count_by, cond, Option, Some, None}
use Rattle.cmwq_resume.specs.Common.{refl, sym, ap, ap₂, ◌∙◌, arith, AllByRecursion, if◌then◌else◌, is_some}
use Rattle.cmwq_resume.specs.Common.{option_map_or, option_to_list, nat_lt, nat_tests, range_with_len}
use Rattle.cmwq_resume.specs.Common.{flat_map, length-map, count_by-cons, All_each, All_append, all_mapped}
use Rattle.cmwq_resume.specs.Common.{and_parts, or_parts, or_right, eq-eqb, inl, inr, ◌⊎◌, list_any}
use Rattle.cmwq_resume.specs.Common.{Call, Entry, Queueing, Booking, Layout, CallerId, Caller, Who, Worker, Reply}
use Rattle.cmwq_resume.specs.Common.{IsLegal, answer, entry_for, now, ticks_told, opening, booking, booking_of}
use Rattle.cmwq_resume.specs.Common.{bookings}
use Rattle.cmwq_resume.specs.Common.{gives_ticket, is_done, is_started, has_not_started, still_open}
use Rattle.cmwq_resume.specs.Common.{queueings, standing_bookings, stands, is_booked, max_active, is_frozen}
use Rattle.cmwq_resume.specs.Common.{first_width, is_gone, ends_destroy, tickets, is_unended, number_finished}
use Rattle.cmwq_resume.specs.Common.{number_started, sets_max, unended_tickets, width_set, width_told}
use Rattle.std.proofs.lemmas.List.Sums.{length-filter}
use Rattle.std.proofs.lemmas.Bool.{or_cases}
use Rattle.std.proofs.lemmas.Option.{same_Some}
use Rattle.std.proofs.lemmas.List.Filters.{length-filter_both}
use Rattle.std.proofs.lemmas.List.{length-append}
use Rattle.cmwq_model.specs.Prelude.{destroys, is_destroy_of, is_layout, is_ticket, room_needed, ticket_for}
use Rattle.cmwq_model.specs.Prelude.{ticket_in, ticket_of}
use Rattle.cmwq_model.specs.declared.call.Call.TheVariants as call
use Rattle.cmwq_model.specs.declared.record.Ticket.{Ticket}
use Rattle.cmwq_model.specs.declared.reply.Reply.TheVariants as reply
use Rattle.cmwq_lemmas.proofs.Filters.{count_by-fewer, count_by-same, count_by-wider, filter_none}
use Rattle.cmwq_lemmas.proofs.Lists.{count_by-none}
use Rattle.cmwq_lemmas.proofs.Members.{In, all_in, found, in_append, in_filter, in_option, in_range, of_in}
use Rattle.cmwq_lemmas.proofs.Passing.{once_among}
use Rattle.cmwq_refinement.proofs.FirstDue.{standing_fits, standing_is}
use Rattle.cmwq_theory_steps.specs.Endings.{ending, is_ended, survives}
use Rattle.cmwq_theory_steps.specs.Histories.{one}
use Rattle.cmwq_theory_steps.specs.RoomSteps.{booked_count, ends_unstarted, is_frozen_now}
use Rattle.cmwq_theory_steps.specs.RoomSteps.{is_woke, room_paid, taken_on}
use Rattle.cmwq_theory_steps.proofs.Causes.{Cause, cause_of}
use Rattle.cmwq_theory_steps.proofs.Causes as cause
use Rattle.cmwq_theory_steps.proofs.Ended.{one_ends}
use Rattle.cmwq_theory_steps.proofs.Endings.{open_go_on}
use Rattle.cmwq_theory_steps.proofs.Inversions.{answer_is}
use Rattle.cmwq_theory_steps.proofs.OwedFrozen.{frozen_counted}
use Rattle.cmwq_theory_steps.proofs.OwedItems.{booked_counted}
use Rattle.cmwq_theory_steps.proofs.Owing.{nothing_owed, owed_goes_on}
use Rattle.cmwq_resume.specs.Resume.{asked, broken_off, by_due, due_call, first_calls, freeze_calls, gone_calls}
use Rattle.cmwq_resume.specs.Resume.{gone_queues, is_broken_off, is_due, is_later, kept, later, later_call, left_at}
use Rattle.cmwq_resume.specs.Resume.{overdue, plan_calls, queue_call, resume_calls, tick_calls, waiting, widen}
use Rattle.cmwq_resume.specs.Plays.{AllSucceed, AreApart, is_number, item_booked, item_queued, played}
use Rattle.cmwq_resume.specs.Plays.{ResumesFitAgain, ResumesNeedNoMoreRoom}
use Rattle.cmwq_resume.proofs.ByDue.{all_by_due}
use Rattle.cmwq_resume.proofs.Resumed.{resumes_play}
use Rattle.cmwq_resume.proofs.Room.{all_short, cost, costs, costs_append, have_room, legal_after, of, one_few}
use Rattle.cmwq_resume.proofs.Room.{taken_few}
use Rattle.cmwq_resume.proofs.Sound.{old_sound}

-- ---- what the calls need

needed_after : (s : Layout) (c : CallerId) (past : List Entry) (cs : List Call) → AllSucceed s (Caller c) past cs
    → IsLegal s (played s (Caller c) past cs)
    → room_needed s (played s (Caller c) past cs) ≤ room_needed s past + costs cs
needed_after s c past [] ok legal = omega arith
needed_after s c past (k ∷ ks) ok legal =
    let e = entry_for s past (Caller c) k in
    let here : IsLegal s (e ∷ past) = legal_after s (Caller c) (e ∷ past) ks legal in
    let few : taken_on past e + 1 ≤ cost k + room_paid past e =
    taken_few s past e.serial (Caller c) k e.reply (cause_of s past e here) ok.0 in
    let more = owed_goes_on s past e here in
    let rest = needed_after s c (e ∷ past) ks ok.1 legal in
    omega arith

-- ---- what a plan needs

abbrev is_wide : Layout → (ℕ → ℕ) → ℕ → Bool
is_wide s w q = not (w q == first_width s q)

costs_widths : (s : Layout) (w : ℕ → ℕ) (qs : List ℕ) → costs (flat_map (widen s w) qs) ≡ count_by (is_wide s w) qs
costs_widths s w [] = refl
costs_widths s w (q ∷ qs) =
    costs_append (widen s w q) (flat_map (widen s w) qs)
    ∙ ap₂ (λ m n. m + n) (own (w q == first_width s q)) (costs_widths s w qs)
    ∙ sym (count_by-cons (is_wide s w) q qs)
  where
    own : (b : Bool) → costs (if b then [] else call.SetMax (record { 0 = q }) (w q) ∷ []) ≡ cond (not b) 1 0
    own true = refl
    own false = refl

costs_gone : (n : ℕ) (qs : List ℕ) → costs (gone_calls n qs) ≡ 2 * length qs
costs_gone n [] = refl
costs_gone n (q ∷ qs) = omega (arith, costs_gone (n + 2) qs)

costs_freeze : (f : Bool) → costs (freeze_calls f) ≡ 2 * one f
costs_freeze true = refl
costs_freeze false = refl

costs_queue : (ks : List Queueing) → costs (map queue_call ks) ≡ 3 * length ks
costs_queue [] = refl
costs_queue (k ∷ ks) = omega (arith, costs_queue ks)

costs_due : (os : List Booking) → costs (map due_call os) ≡ 4 * length os
costs_due [] = refl
costs_due (o ∷ os) = omega (arith, costs_due os)

costs_later : (ls : List Booking) → costs (map later_call ls) ≡ 4 * length ls
costs_later [] = refl
costs_later (l ∷ ls) = omega (arith, costs_later ls)

abbrev is_any : {X : Type 0} → List X → Bool
is_any [] = false
is_any (x ∷ xs) = true

costs_tick : (os : List Booking) → costs (tick_calls os) ≡ one (is_any os)
costs_tick [] = refl
costs_tick (o ∷ os) = refl

costs_plan : (s : Layout) (w : ℕ → ℕ) (gs : List ℕ) (f : Bool) (ks : List Queueing) (os ls : List Booking)
    → costs (plan_calls s w gs f ks os ls)
    ≡ count_by (is_wide s w) (range_with_len 0 (length s.queues)) + 2 * length gs + 2 * one f + 3 * length ks
    + 4 * length os + one (is_any os) + 4 * length ls
costs_plan s w gs f ks os ls =
    let a = first_calls s w in
    let b = gone_calls (length a) gs in
    let c = freeze_calls f in
    let d = map queue_call ks in
    let e = map due_call os in
    let g = tick_calls os in
    let h = map later_call ls in
    omega (
      arith,
      costs_append a (b ++ (c ++ (d ++ (e ++ (g ++ h))))),
      costs_append b (c ++ (d ++ (e ++ (g ++ h)))),
      costs_append c (d ++ (e ++ (g ++ h))),
      costs_append d (e ++ (g ++ h)),
      costs_append e (g ++ h),
      costs_append g h,
      costs_widths s w (range_with_len 0 (length s.queues)),
      costs_gone (length a) gs,
      costs_freeze f,
      costs_queue ks,
      costs_due os,
      costs_tick os,
      costs_later ls,
    )

-- ---- what a history has that a plan needs

-- there was such an entry
abbrev was : (Entry → Bool) → List Entry → Bool
was p [] = false
was p (e ∷ past) = p e || was p past

-- a set_max of the queue, and a destroy of it that was given a ticket
abbrev sets : ℕ → Entry → Bool
sets q e = is_some (width_set e q)

abbrev dooms : ℕ → Entry → Bool
dooms q e = gives_ticket e.reply && destroys q e.call

abbrev queue_count : Layout → (ℕ → Entry → Bool) → List Entry → ℕ
queue_count s p past = count_by (λ q. was (p q) past) (range_with_len 0 (length s.queues))

unfoldable needs : Layout → List Entry → ℕ
needs s past =
    queue_count s sets past + 2 * queue_count s dooms past + 2 * one (is_frozen past) + 3 * length (still_open past)
    + 4 * booked_count s past + one (nat_lt 0 (now past))

-- ---- each of these after one more entry

-- tests that differ at one number
few_more : (k : ℕ) (f g : ℕ → Bool) (xs : List ℕ) → ((x : ℕ) → is_number k x ≡ false → g x ≡ f x)
    → count_by g xs ≤ count_by f xs + count_by (is_number k) xs
few_more k f g [] same = omega arith
few_more k f g (x ∷ xs) same =
    grind (
      arith,
      count_by-cons g x xs,
      count_by-cons f x xs,
      count_by-cons (is_number k) x xs,
      same x,
      few_more k f g xs same,
    )

one_more : (s : Layout) (p : ℕ → Entry → Bool) (past : List Entry) (e : Entry) (k : ℕ)
    → ((q : ℕ) → is_number k q ≡ false → p q e ≡ false)
    → queue_count s p (e ∷ past) ≤ queue_count s p past + 1
one_more s p past e k other =
    let qs = range_with_len 0 (length s.queues) in
    omega (
      arith,
      few_more k (λ q. was (p q) past) (λ q. was (p q) (e ∷ past)) qs
          (λ q h. ap (λ b. b || was (p q) past) (other q h)),
      once_among 0 (length s.queues) k,
    )

none_more : (s : Layout) (p : ℕ → Entry → Bool) (past : List Entry) (e : Entry) → ((q : ℕ) → p q e ≡ false)
    → queue_count s p (e ∷ past) ≡ queue_count s p past
none_more s p past e none =
    let qs = range_with_len 0 (length s.queues) in
    count_by-same (λ q. was (p q) (e ∷ past)) (λ q. was (p q) past) qs
    (All_each _ qs (λ q. ap (λ b. b || was (p q) past) (none q)))

abbrev is_width : Reply → Bool
is_width r = is_some (width_told r)

other_number : (k q : ℕ) → is_number k q ≡ false → (k == q) ≡ false
other_number k q h = grind (arith, nat_tests)

-- the queue of which a call sets the width, or any
number_set : (c : Call) → (k : ℕ) × ((q : ℕ) → is_number k q ≡ false → sets_max c q ≡ false)
number_set (call.SetMax r n) = (r.0, other_number r.0)
number_set c = (0, λ q h. refl)

abbrev nothing_told : Option ℕ
nothing_told = None

sets_more : (s : Layout) (past : List Entry) (e : Entry)
    → queue_count s sets (e ∷ past) ≤ queue_count s sets past + one (is_width e.reply)
sets_more s past e = at (width_told e.reply) refl
  where
    neither : (b : Bool) → is_some (if b then nothing_told else None) ≡ false
    neither true = refl
    neither false = refl

    at : (o : Option ℕ) → width_told e.reply ≡ o
        → queue_count s sets (e ∷ past) ≤ queue_count s sets past + one (is_some o)
    at None h =
        omega (
          arith,
          none_more s sets past e
              (λ q. ap (λ o. is_some (if sets_max e.call q then o else None)) h ∙ neither (sets_max e.call q)),
        )
    at (Some n) h =
        let k = number_set e.call in
        one_more s sets past e k.0
        (λ q other. ap (λ b. is_some (if b then width_told e.reply else None)) (k.1 q other))

abbrev is_destroy : Call → Bool
is_destroy (call.Destroy q) = true
is_destroy c = false

dooms_more : (s : Layout) (past : List Entry) (e : Entry)
    → queue_count s dooms (e ∷ past) ≤ queue_count s dooms past + one (gives_ticket e.reply && is_destroy e.call)
dooms_more s past e = at e.call (gives_ticket e.reply) refl refl
  where
    at : (c : Call) (b : Bool) → e.call ≡ c → gives_ticket e.reply ≡ b
        → queue_count s dooms (e ∷ past) ≤ queue_count s dooms past + one (b && is_destroy c)
    at c false is h = omega (arith, none_more s dooms past e (λ q. ap (λ x. x && destroys q e.call) h))
    at (call.Destroy r) true is h =
        one_more s dooms past e r.0 (λ q other. ap₂ (λ x c. x && destroys q c) h is ∙ other_number r.0 q other)
    at c true is h = omega (arith, none_more s dooms past e (λ q. ap₂ (λ x c. x && destroys q c) h is))

option_length : {X : Type 0} (o : Option X) → length (option_to_list o) ≡ one (is_some o)
option_length None = refl
option_length (Some x) = refl

open_counted : (s : Layout) (past : List Entry) (e : Entry) → IsLegal s (e ∷ past)
    → length (still_open (e ∷ past)) + one (is_some (ending past e))
    ≡ length (still_open past) + one (is_some (opening past e))
open_counted s past e legal =
    omega (
      arith,
      ap length (open_go_on s past e legal)
          ∙ length-append (filter (survives past e) (still_open past)) (option_to_list (opening past e)),
      length-filter_both (survives past e) (is_ended past e) (λ x. refl) (still_open past),
      ap length (one_ends s past e legal) ∙ option_length (ending past e),
      option_length (opening past e),
    )

ends_fewer : (past : List Entry) (e : Entry) → one (ends_unstarted past e) ≤ one (is_some (ending past e))
ends_fewer past e = at (ending past e)
  where
    at : (o : Option Queueing) → one (option_map_or (has_not_started past) o false) ≤ one (is_some o)
    at None = omega arith
    at (Some x) = one_few (has_not_started past x)

abbrev is_told : Reply → Bool
is_told (reply.Now t) = true
is_told r = false

time_more : (s : Layout) (past : List Entry) (e : Entry) → IsLegal s (e ∷ past)
    → one (nat_lt 0 (now (e ∷ past))) ≤ one (nat_lt 0 (now past)) + one (is_told e.reply)
unfolding now answer
time_more s past e legal = at e.call refl
  where
    at : (c : Call) → e.call ≡ c
        → one (nat_lt 0 (now past + ticks_told e.call)) ≤ one (nat_lt 0 (now past)) + one (is_told e.reply)
    at (call.Tick t) is =
        let told : e.reply ≡ reply.Now (now past + t) = answer_is s past e legal ∙ ap (answer s past e.who) is in
        omega (arith, one_few (nat_lt 0 (now past + ticks_told e.call)), ap (λ r. one (is_told r)) told)
    at c is =
        let none : now past + ticks_told e.call ≡ now past = omega (arith, ap ticks_told is) in
        omega (arith, ap (λ n. one (nat_lt 0 n)) none)

-- ---- so an entry needs no more than it takes

once : (s : Layout) (past : List Entry) (n : ℕ) (who : Who) (c : Call) (r : Reply) → Cause s past who c r
    → one (is_width r) + 2 * one (gives_ticket r && is_destroy c) + one (is_frozen_now r)
    + one (is_some (opening past (of who n c r))) + one (is_some (booking_of (of who n c r) (length past)))
    + one (is_told r) + one (is_some (number_started r)) + one (is_some (number_finished r)) + one (is_woke r)
    + one (is_done r) ≤ 1 + one (gives_ticket r)
once s past n who c r (cause.queued w i q p free none) =
    omega (arith, one_few (is_some (opening past (of who n c r))))
once s past n who c r (cause.delayed_by_none w i q p t is free none) =
    omega (arith, one_few (is_some (opening past (of who n c r))))
once s past n who c r (cause.modified_idle w i q p t is free none) =
    omega (arith, one_few (is_some (opening past (of who n c r))))
once s past n who c r (cause.modified_again w i q p t is free some) =
    omega (arith, one_few (is_some (opening past (of who n c r))))
once s past n who c r (cause.fires w b due) = omega (arith, one_few (is_some (opening past (of who n c r))))
once s past n who c r (cause.delayed_queued w i few not_held booked) =
    omega (arith, one_few (is_some (opening past (of who n c r))))
once s past n who c r other = omega arith

needs_more : (s : Layout) (past : List Entry) (e : Entry) → IsLegal s (e ∷ past)
    → needs s (e ∷ past) + room_paid past e ≤ needs s past + 1 + taken_on past e
unfolding needs
needs_more s past e legal =
    omega (
      arith,
      sets_more s past e,
      dooms_more s past e,
      frozen_counted s past e legal,
      open_counted s past e legal,
      ends_fewer past e,
      booked_counted s past e legal,
      time_more s past e legal,
      once s past e.serial e.who e.call e.reply (cause_of s past e legal),
    )

nothing_needed : (s : Layout) → needs s [] ≡ 0
unfolding needs queueings booking is_frozen now
nothing_needed s =
    let qs = range_with_len 0 (length s.queues) in
    omega (
      arith,
      count_by-none (λ q. was (sets q) []) qs (All_each _ qs (λ q. refl)),
      count_by-none (λ q. was (dooms q) []) qs (All_each _ qs (λ q. refl)),
      count_by-none (is_booked []) (range_with_len 0 s.items) (All_each _ (range_with_len 0 s.items) (λ i. refl)),
    )

needs_fit : (s : Layout) (past : List Entry) → IsLegal s past → needs s past ≤ room_needed s past
unfolding IsLegal
needs_fit s [] legal = omega (arith, nothing_needed s)
needs_fit s (e ∷ past) legal =
    omega (
      arith,
      needs_more s past e legal,
      owed_goes_on s past e legal,
      needs_fit s past legal.2,
    )

-- ---- what a plan needs is there

never_set : (s : Layout) (past : List Entry) (q : ℕ) → was (sets q) past ≡ false
    → max_active s past q ≡ first_width s q
unfolding max_active
never_set s [] q h = refl
never_set s (e ∷ past) q h =
    let parts = or_parts (sets q e) (was (sets q) past) h in
    at (width_set e q) refl parts.0 (never_set s past q parts.1)
  where
    at : (o : Option ℕ) → width_set e q ≡ o → sets q e ≡ false → max_active s past q ≡ first_width s q
        → option_map_or (λ n. n) (width_set e q) (max_active s past q) ≡ first_width s q
    at None is not_now before = ap (λ o. option_map_or (λ n. n) o (max_active s past q)) is ∙ before
    at (Some n) is not_now before = let bad : true ≡ false = sym (ap is_some is) ∙ not_now in cc

wide_set : (s : Layout) (past : List Entry) (q : ℕ) → is_wide s (max_active s past) q ≡ true
    → was (sets q) past ≡ true
wide_set s past q h = at (was (sets q) past) refl
  where
    at : (b : Bool) → was (sets q) past ≡ b → b ≡ true
    at true is = refl
    at false is = let same = never_set s past q is in grind (arith, nat_tests, h, same)

ticket_doomed : (past : List Entry) (q : ℕ) (t : Ticket) → In t (tickets past) → is_destroy_of q t ≡ true
    → was (dooms q) past ≡ true
unfolding tickets
ticket_doomed [] q t there is = absurd there
ticket_doomed (e ∷ past) q t there is =
    at (in_append (tickets past) _ t there) (λ older. ticket_doomed past q t older is)
  where
    own : (b : Bool) (who : Who) → gives_ticket e.reply ≡ b → e.who ≡ who
        → (if b then ticket_for who e.call (length past) else None) ≡ Some t → dooms q e ≡ true
    own true (Caller c) gives by given =
        ap₂ (λ a (u : Ticket). a && is_destroy_of q u) gives (same_Some _ t given) ∙ is
    own true (Worker w) gives by given = cc
    own false who gives by given = cc

    at : In t (tickets past) ⊎ In t (option_to_list (ticket_in e (length past)))
        → (In t (tickets past) → was (dooms q) past ≡ true) → (dooms q e || was (dooms q) past) ≡ true
    at (inl older) before = or_right (dooms q e) (was (dooms q) past) (before older)
    at (inr newest) before = ap (λ b. b || was (dooms q) past)
        (own (gives_ticket e.reply) e.who refl refl (in_option (ticket_in e (length past)) t newest))

gone_doomed : (past : List Entry) (q : ℕ) → is_gone past q ≡ true → was (dooms q) past ≡ true
unfolding is_gone
gone_doomed [] q h = cc
gone_doomed (e ∷ past) q h = at (or_cases (is_gone past q) _ h) (gone_doomed past q)
  where
    ends : (c : Call) → ends_destroy past q e.who c ≡ true → was (dooms q) past ≡ true
    ends (call.End n) h = found_of (ticket_of past e.who n) refl h
      where
        found_of : (o : Option Ticket) → ticket_of past e.who n ≡ o → option_map_or (is_destroy_of q) o false ≡ true
            → was (dooms q) past ≡ true
        found_of None is h = cc
        found_of (Some t) is h =
            let there = (found (is_ticket e.who n) (unended_tickets past) t is).0 in
            ticket_doomed past q t (in_filter (is_unended past) (tickets past) t there).0 h
    ends c h = cc

    at : (is_gone past q ≡ true) ⊎ ((is_done e.reply && ends_destroy past q e.who e.call) ≡ true)
        → (is_gone past q ≡ true → was (dooms q) past ≡ true) → (dooms q e || was (dooms q) past) ≡ true
    at (inl gone) before = or_right (dooms q e) (was (dooms q) past) (before gone)
    at (inr now_gone) before =
        or_right (dooms q e) (was (dooms q) past) (ends e.call (and_parts (is_done e.reply) _ now_gone).1)

-- tests that never both pass
apart_counted : {X : Type 0} (p q : X → Bool) (xs : List X) → ((x : X) → p x ≡ true → q x ≡ false)
    → count_by p xs + count_by q xs ≤ length xs
apart_counted p q [] apart = omega arith
apart_counted p q (x ∷ xs) apart =
    grind (arith, count_by-cons p x xs, count_by-cons q x xs, apart x, apart_counted p q xs apart)

kept_few : (again : ℕ → Bool) (past : List Entry) → length (kept again past) ≤ length (still_open past)
kept_few again past =
    let p = is_broken_off again past in
    let q = has_not_started past in
    omega (
      arith,
      length-append (broken_off again past) (waiting past),
      length-map (filter p (still_open past)) asked,
      length-map (filter q (still_open past)) asked,
      length-filter p (still_open past),
      length-filter q (still_open past),
      apart_counted p q (still_open past) (λ x h. ap not (and_parts (is_started past x.number) _ h).0),
    )

-- numbers that are apart, each of which passes
pigeons : (n : ℕ) (p : ℕ → Bool) (is : List ℕ) → AreApart is → AllByRecursion (λ i. (i < n) × (p i ≡ true)) is
    → length is ≤ count_by p (range_with_len 0 n)
pigeons n p [] apart all = omega arith
pigeons n p (i ∷ is) apart all =
    let q : ℕ → Bool = λ j. p j && not (is_number i j) in
    let rest = pigeons n q is apart.1 (others is apart.0 all.1) in
    let range = range_with_len 0 n in
    let fewer =
    of_in _ range i (count_by-fewer range) (in_range 0 n i (omega arith) (omega (arith, all.0.0))) q p
    (λ j h. (and_parts (p j) _ h).0)
    (ap₂ (λ a b. a && not b) all.0.1 (eq-eqb i i refl)) all.0.1 in
    omega arith
  where
    others : (js : List ℕ) → list_any (is_number i) js ≡ false → AllByRecursion (λ j. (j < n) × (p j ≡ true)) js
        → AllByRecursion (λ j. (j < n) × ((p j && not (is_number i j)) ≡ true)) js
    others [] none all = tt
    others (j ∷ js) none all =
        let parts = or_parts (is_number i j) (list_any (is_number i) js) none in (
          (all.0.0, ap₂ (λ a b. a && not b) all.0.1 parts.0),
          others js parts.1 all.1,
        )

apart_rest : (xs ys : List ℕ) → AreApart (xs ++ ys) → AreApart ys
apart_rest [] ys apart = apart
apart_rest (x ∷ xs) ys apart = apart_rest xs ys apart.1

module _ (s : Layout) (again : ℕ → Bool) (past : List Entry) (ok : is_layout s ≡ true) (legal : IsLegal s past) where
  abbrev IsItem : ℕ → Type 0
  IsItem i = (i < s.items) × (is_booked past i ≡ true)

  items_of : (p : Booking → Bool)
      → AllByRecursion (λ (b : Booking). IsItem b.item.0) (filter p (standing_bookings past))
  items_of p =
      all_in (λ (b : Booking). IsItem b.item.0) (filter p (standing_bookings past)) (λ b there.
      let here = (in_filter p (standing_bookings past) b there).0 in
      ((standing_fits s past b legal here).item, ap is_some (standing_is past b here)))

  left_items : (bs : List Booking) → AllByRecursion (λ (b : Booking). IsItem b.item.0) bs
      → AllByRecursion IsItem (map item_booked (map (left_at (now past)) bs))
  left_items bs all =
      all_mapped item_booked IsItem (map (left_at (now past)) bs)
      (all_mapped (left_at (now past)) (λ (b : Booking). IsItem b.item.0) bs all)

  booked_few : length (overdue past) + length (later past) ≤ booked_count s past
  booked_few =
      let os = map item_booked (overdue past) in
      let ls = map item_booked (later past) in
      omega (
        arith,
        length-append os ls,
        length-map (overdue past) item_booked,
        length-map (later past) item_booked,
        pigeons s.items (is_booked past) (os ++ ls)
            (apart_rest (map item_queued (kept again past)) (os ++ ls) (old_sound s again past ok legal).apart)
            (All_append IsItem os ls
            (left_items (by_due (filter (is_due past) (standing_bookings past)))
            (all_by_due (λ (b : Booking). IsItem b.item.0) (filter (is_due past) (standing_bookings past))
            (items_of (is_due past))))
            (left_items (filter (is_later past) (standing_bookings past)) (items_of (is_later past)))),
      )

-- ---- something is due only after a tick

made_later : (s : Layout) (past : List Entry) (n m : ℕ) (who : Who) (c : Call) (r : Reply) → Cause s past who c r
    → AllByRecursion (λ (b : Booking). 0 < b.due) (option_to_list (booking_of (of who n c r) m))
made_later s past n m who c r (cause.delayed w i q p t is free none) = (grind (arith, nat_tests, is), tt)
made_later s past n m who c r (cause.modified_booked w i q p t is free none) = (grind (arith, nat_tests, is), tt)
made_later s past n m who c r (cause.modified_rebooked w i q p t is free some) = (grind (arith, nat_tests, is), tt)
made_later s past n m who c r other = tt

booked_later : (s : Layout) (past : List Entry) → IsLegal s past
    → AllByRecursion (λ (b : Booking). 0 < b.due) (bookings past)
unfolding bookings IsLegal
booked_later s [] legal = tt
booked_later s (e ∷ past) legal =
    All_append (λ (b : Booking). 0 < b.due) (bookings past) (option_to_list (booking_of e (length past)))
    (booked_later s past legal.2)
    (made_later s past e.serial (length past) e.who e.call e.reply (cause_of s past e legal))

due_ticked : (s : Layout) (past : List Entry) → IsLegal s past
    → one (is_any (overdue past)) ≤ one (nat_lt 0 (now past))
due_ticked s past legal = at (nat_lt 0 (now past)) refl
  where
    at : (b : Bool) → nat_lt 0 (now past) ≡ b → one (is_any (overdue past)) ≤ one b
    at true h = one_few (is_any (overdue past))
    at false h =
        let none : filter (is_due past) (standing_bookings past) ≡ [] =
        filter_none (is_due past) (standing_bookings past)
        (all_in (λ b. is_due past b ≡ false) (standing_bookings past) (λ b there.
        let due =
        of_in (λ (b : Booking). 0 < b.due) (bookings past) b (booked_later s past legal)
        (in_filter (stands past) (bookings past) b there).0 in
        grind (arith, nat_tests, h, due))) in
        omega (arith, ap (λ bs. one (is_any (map (left_at (now past)) (by_due bs)))) none)

-- ---- so the history that resumes another fits where that one did

costs_few : (s : Layout) (again : ℕ → Bool) (old : List Entry) → is_layout s ≡ true → IsLegal s old
    → costs (resume_calls s again old) ≤ room_needed s old
unfolding needs
costs_few s again old ok legal =
    let qs = range_with_len 0 (length s.queues) in
    omega (
      arith,
      costs_plan s (max_active s old) (gone_queues s old) (is_frozen old) (kept again old) (overdue old) (later old),
      count_by-wider (is_wide s (max_active s old)) (λ q. was (sets q) old) qs (All_each _ qs (wide_set s old)),
      length-filter (is_gone old) qs,
      count_by-wider (is_gone old) (λ q. was (dooms q) old) qs (All_each _ qs (gone_doomed old)),
      kept_few again old,
      booked_few s again old ok legal,
      due_ticked s old legal,
      needs_fit s old legal,
    )

pub resumes_need_no_more_room : ResumesNeedNoMoreRoom
resumes_need_no_more_room s c again old ok there legal =
    let k = resumes_play s c again old ok there legal in
    omega (
      arith,
      needed_after s c [] (resume_calls s again old) k.0 k.1,
      nothing_owed s,
      costs_few s again old ok legal,
    )

pub resumes_fit_again : ResumesFitAgain
unfolding now
resumes_fit_again s c again old room ok there legal enough time =
    let k = resumes_play s c again old ok there legal in
    let nothing = nothing_owed s in
    let few = costs_few s again old ok legal in
    have_room s room c [] (resume_calls s again old) k.0
    (all_short s (max_active s old) (gone_queues s old) (is_frozen old) (kept again old) (overdue old) (later old)) k.1
    (omega arith) (omega arith)
