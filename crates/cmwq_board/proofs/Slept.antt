-- A run falls asleep: that takes two entries, and the call of a wait needs as much room after it as before.
use Rattle.cmwq_theory_steps.specs.Common.{◌≡◌, ◌≤◌, ◌+◌, ◌&&◌, ◌||◌, ◌==◌, ◌∷◌, ◌++◌, ℕ, Bool, true, false, not, suc}
use Rattle.cmwq_theory_steps.specs.Common.{List, Option, Some, None, length, filter, find, option_to_list}
use Rattle.cmwq_theory_steps.specs.Common.{option_and_then, refl, option_map, option_map_or, option_or, is_some, sym}
use Rattle.cmwq_theory_steps.specs.Common.{ap, ap₂, ◌∙◌, subst, arith, append-nil, if◌then◌else◌, count_by, list_any}
use Rattle.cmwq_theory_steps.specs.Common.{nat_le, Entry, Layout, Reply, Call, Queueing, Booking, CallerId, WorkerId}
use Rattle.cmwq_theory_steps.specs.Common.{Who, Caller, Worker, IsLegal, All_each, answer, booking, booked_by}
use Rattle.cmwq_theory_steps.specs.Common.{booking_of, bookings, destroy_answer, fits, flush_delayed_answer}
use Rattle.cmwq_theory_steps.specs.Common.{cancel_sync_answer, flush_item_answer, wait_answer, is_gone}
use Rattle.cmwq_theory_steps.specs.Common.{standing_bookings, due_in, gives_ticket, has_not_started, is_at}
use Rattle.cmwq_theory_steps.specs.Common.{is_being_destroyed, is_booked, is_booked_on, is_crowded, is_done}
use Rattle.cmwq_theory_steps.specs.Common.{is_held_back, is_item_open, is_of_item, is_started, is_unstarted}
use Rattle.cmwq_theory_steps.specs.Common.{item_called, item_fired, item_of, number_booked, number_cancelled}
use Rattle.cmwq_theory_steps.specs.Common.{number_finished, number_started, opening, opens, owed, place_called}
use Rattle.cmwq_theory_steps.specs.Common.{place_wanted, queued_at, replaces, room_needed, runs_awake, settles, stands}
use Rattle.cmwq_theory_steps.specs.Common.{still_open, taken_back_for, ticket_in, unended_tickets, unstarted_queueing}
use Rattle.std.proofs.Common.{true≢false}
use Rattle.std.proofs.lemmas.Bool.{and_parts, le-leb, leb-true}
use Rattle.std.specs.Cmp.Derive.{both_true}
use Rattle.std.specs.Prelude.{IsTrue}
use Rattle.cmwq_lemmas.proofs.Filters.{filter_same, find_same}
use Rattle.cmwq_lemmas.proofs.Lists.{filter_all}
use Rattle.cmwq_model.specs.Prelude.{entry_for, is_held_by, most_tickets, has_time}
use Rattle.cmwq_model.specs.declared.call.Call.TheVariants as call
use Rattle.cmwq_model.specs.declared.reply.Reply.TheVariants as reply
use Rattle.cmwq_theory_steps.specs.Endings.{ending, is_ended, survives}
use Rattle.cmwq_theory_steps.specs.RoomSteps.{ends_unstarted, is_frozen_now, is_slept, is_thawed_now, is_woke}
use Rattle.cmwq_theory_steps.specs.RoomSteps.{room_paid, settles_booked, taken_on}
use Rattle.cmwq_theory_steps.proofs.OwedFrozen.{frozen_counted}
use Rattle.cmwq_theory_steps.proofs.OwedItems.{booked_counted, tickets_counted}
use Rattle.cmwq_theory_steps.proofs.OwedSteps.{runs_counted, sleepers_counted}
use Rattle.cmwq_theory_steps.proofs.OwedWaiting.{waiting_counted}
use Rattle.cmwq_theory_steps.specs.TicketSteps.{is_kept}
use Rattle.cmwq_theory_steps.proofs.Endings.{open_go_on}
use Rattle.cmwq_theory_steps.proofs.Owing.{owed_goes_on}
use Rattle.cmwq_theory_steps.proofs.Standing.{booking_after}
use Rattle.cmwq_theory_steps.proofs.TicketSteps.{unended_go_on}
use Rattle.cmwq_core.specs.History.{History, next_entry, past_in, takes, takes_with, with_entry}
use Rattle.cmwq_dispatch.proofs.Steady.{newest}
use Rattle.cmwq_dispatch.specs.Dispatched.{Dispatched, past_now}
use Rattle.cmwq_dispatch.specs.declared.wakes.Wakes.{Wakes}
use Rattle.cmwq_board.specs.Asked.{is_wait}
use Rattle.cmwq_board.specs.Waits.{MayEnterOf, more_made, sleeps_first}

-- ---- a sleep owes one entry, which is the wake

sleep_owes : (s : Layout) (past : List Entry) (e : Entry) → IsLegal s (e ∷ past) → e.reply ≡ reply.Slept
    → owed s (e ∷ past) ≤ owed s past + 1
unfolding owed
sleep_owes s past e legal is =
    grind (
      arith,
      waiting_counted s past e legal,
      runs_counted s past e legal,
      sleepers_counted s past e legal,
      booked_counted s past e legal,
      tickets_counted s past e legal,
      frozen_counted s past e legal,
    )

-- ---- the reply of a wait, whose number is greater by one

abbrev moved : Reply → Reply
moved (reply.Ticket k) = reply.Ticket (suc k)
moved (reply.TicketQueued k) = reply.TicketQueued (suc k)
moved (reply.TicketCancelled k n) = reply.TicketCancelled (suc k) n
moved (reply.TicketUnbooked k) = reply.TicketUnbooked (suc k)
moved (reply.TicketNo k) = reply.TicketNo (suc k)
moved r = r

waits_alike : (a b : Bool) (n : ℕ)
    → (if a then reply.Gone else if b then reply.Crowded else reply.Ticket (suc n))
    ≡ moved (if a then reply.Gone else if b then reply.Crowded else reply.Ticket n)
waits_alike true b n = refl
waits_alike false true n = refl
waits_alike false false n = refl

destroys_alike : (a b c d : Bool) (n : ℕ)
    → (if a then reply.Gone else if b then reply.Draining else if c then reply.Timers else if d then reply.Crowded
    else reply.Ticket (suc n))
    ≡ moved (if a then reply.Gone else if b then reply.Draining else if c then reply.Timers else if d then reply.Crowded
    else reply.Ticket n)
destroys_alike true b c d n = refl
destroys_alike false true c d n = refl
destroys_alike false false true d n = refl
destroys_alike false false false true n = refl
destroys_alike false false false false n = refl

items_alike : (a b : Bool) (n : ℕ)
    → (if a then reply.Crowded else if b then reply.Ticket (suc n) else reply.Idle)
    ≡ moved (if a then reply.Crowded else if b then reply.Ticket n else reply.Idle)
items_alike true b n = refl
items_alike false true n = refl
items_alike false false n = refl

delayed_alike : (a b c d : Bool) (n : ℕ)
    → (if a then reply.Crowded else if b then reply.Draining else if c then reply.TicketQueued (suc n)
    else if d then reply.Ticket (suc n) else reply.Idle)
    ≡ moved (if a then reply.Crowded else if b then reply.Draining else if c then reply.TicketQueued n
    else if d then reply.Ticket n else reply.Idle)
delayed_alike true b c d n = refl
delayed_alike false true c d n = refl
delayed_alike false false true d n = refl
delayed_alike false false false true n = refl
delayed_alike false false false false n = refl

cancels_alike : (a b : Bool) (o : Option Queueing) (n : ℕ)
    → (if a then reply.Crowded else taken_back_for (suc n) o b)
    ≡ moved (if a then reply.Crowded else taken_back_for n o b)
cancels_alike true b o n = refl
cancels_alike false b (Some x) n = refl
cancels_alike false true None n = refl
cancels_alike false false None n = refl

-- ---- a run falls asleep

module _ (s : Layout) (past : List Entry) (e : Entry) (legal : IsLegal s (e ∷ past))
    (slept : e.reply ≡ reply.Slept) where
  opens_none : opening past e ≡ None
  opens_none =
      ap (λ b. if b then option_and_then (λ i. option_map (queued_at past i) (place_wanted past e.call i)) (item_of e)
      else None) (ap opens slept)

  all_survive : (x : Queueing) → survives past e x ≡ true
  all_survive x = rw (ap number_finished slept, ap number_cancelled slept, ap replaces slept) refl

  same_open : still_open (e ∷ past) ≡ still_open past
  same_open =
      open_go_on s past e legal
      ∙ (ap₂ (λ xs ys. xs ++ ys)
      (filter_all (survives past e) (still_open past) (All_each _ (still_open past) all_survive))
      (ap option_to_list opens_none) ∙ append-nil (still_open past))

  same_started : (n : ℕ) → is_started (e ∷ past) n ≡ is_started past n
  same_started n = ap (λ o. is_at o n || is_started past n) (ap number_started slept)

  pub same_unended : unended_tickets (e ∷ past) ≡ unended_tickets past
  same_unended =
      unended_go_on s past e legal
      ∙ (ap₂ (λ xs ys. xs ++ ys)
      (filter_all (is_kept e) (unended_tickets past)
      (All_each _ (unended_tickets past) (λ t. let none = ap is_done slept in grind (arith, none))))
      (ap option_to_list gives_none) ∙ append-nil (unended_tickets past))
    where
      gives_none : ticket_in e (length past) ≡ None
      gives_none = let none = slept in grind (arith, none)

  same_booking : (i : ℕ) → booking (e ∷ past) i ≡ booking past i
  same_booking i = booking_after past e i false (ap (λ b. b && is_of_item i e) (ap settles slept))

  same_standing : standing_bookings (e ∷ past) ≡ standing_bookings past
  unfolding bookings
  same_standing =
      ap (λ bs. filter (stands (e ∷ past)) (bookings past ++ option_to_list bs)) books_none
      ∙ ap (filter (stands (e ∷ past))) (append-nil (bookings past))
      ∙ filter_same (stands (e ∷ past)) (stands past) (bookings past)
      (All_each _ (bookings past) (λ b. ap (λ o. is_at (option_map number_booked o) b.number) (same_booking b.item.0)))
    where
      books_none : booking_of e (length past) ≡ None
      books_none = let none = ap due_in slept in grind (arith, none)

  same_unstarted : (i : ℕ) → unstarted_queueing (e ∷ past) i ≡ unstarted_queueing past i
  same_unstarted i =
      ap (find (is_unstarted (e ∷ past) i)) same_open
      ∙ find_same (is_unstarted (e ∷ past) i) (is_unstarted past i) (still_open past)
      (All_each _ (still_open past) (λ x. ap (λ b. (x.item.0 == i) && not b) (same_started x.number)))

  same_gone : (q : ℕ) → is_gone (e ∷ past) q ≡ is_gone past q
  unfolding is_gone
  same_gone q = let none = ap is_done slept in grind (arith, none)

  same_crowded : (who : Who) → is_crowded (e ∷ past) who ≡ is_crowded past who
  same_crowded who = ap (λ ts. nat_le most_tickets (count_by (is_held_by who) ts)) same_unended

  -- ---- the call of a wait after that

  same_answer : (who : Who) (c : Call) → is_wait c ≡ true → answer s (e ∷ past) who c ≡ moved (answer s past who c)
  unfolding answer wait_answer destroy_answer flush_item_answer flush_delayed_answer cancel_sync_answer
  same_answer who (call.Flush q) wait =
      rw (same_gone q.0, same_crowded who) (waits_alike (is_gone past q.0) (is_crowded past who) (length past))
  same_answer who (call.Drain q) wait =
      rw (same_gone q.0, same_crowded who) (waits_alike (is_gone past q.0) (is_crowded past who) (length past))
  same_answer who (call.Destroy q) wait =
      rw (same_gone q.0, same_unended, same_standing)
      (destroys_alike (is_gone past q.0) (is_being_destroyed past q.0)
      (list_any (is_booked_on q.0) (standing_bookings past)) (is_crowded past who) (length past))
  same_answer who (call.FlushItem i) wait =
      rw (same_crowded who, same_open) (items_alike (is_crowded past who) (is_item_open past i.0) (length past))
  same_answer who (call.FlushDelayed i) wait =
      rw (same_unended, same_booking i.0, same_open)
      (delayed_alike (is_crowded past who) (is_held_back past i.0) (is_booked past i.0) (is_item_open past i.0)
      (length past))
  same_answer who (call.CancelSync i) wait =
      rw (same_crowded who, same_unstarted i.0, same_booking i.0)
      (cancels_alike (is_crowded past who) (is_booked past i.0) (unstarted_queueing past i.0) (length past))
  same_answer who c wait = absurd (cc wait)

-- ---- what the number of a ticket does not tell

record IsAlike (r q : Reply) : Type 0 where
  started : number_started r ≡ number_started q
  finished : number_finished r ≡ number_finished q
  cancelled : number_cancelled r ≡ number_cancelled q
  fired : item_fired r ≡ item_fired q
  replaced : replaces r ≡ replaces q
  settled : settles r ≡ settles q
  opened : opens r ≡ opens q
  given : gives_ticket r ≡ gives_ticket q
  done : is_done r ≡ is_done q
  slept : is_slept r ≡ is_slept q
  woke : is_woke r ≡ is_woke q
  frozen : is_frozen_now r ≡ is_frozen_now q
  thawed : is_thawed_now r ≡ is_thawed_now q

alike : (r : Reply) → IsAlike r r
alike r = record {
  started = refl;
  finished = refl;
  cancelled = refl;
  fired = refl;
  replaced = refl;
  settled = refl;
  opened = refl;
  given = refl;
  done = refl;
  slept = refl;
  woke = refl;
  frozen = refl;
  thawed = refl;
}

moved_alike : (r : Reply) → IsAlike (moved r) r
moved_alike (reply.Ticket k) = record {
  started = refl;
  finished = refl;
  cancelled = refl;
  fired = refl;
  replaced = refl;
  settled = refl;
  opened = refl;
  given = refl;
  done = refl;
  slept = refl;
  woke = refl;
  frozen = refl;
  thawed = refl;
}
moved_alike (reply.TicketQueued k) = record {
  started = refl;
  finished = refl;
  cancelled = refl;
  fired = refl;
  replaced = refl;
  settled = refl;
  opened = refl;
  given = refl;
  done = refl;
  slept = refl;
  woke = refl;
  frozen = refl;
  thawed = refl;
}
moved_alike (reply.TicketCancelled k n) = record {
  started = refl;
  finished = refl;
  cancelled = refl;
  fired = refl;
  replaced = refl;
  settled = refl;
  opened = refl;
  given = refl;
  done = refl;
  slept = refl;
  woke = refl;
  frozen = refl;
  thawed = refl;
}
moved_alike (reply.TicketUnbooked k) = record {
  started = refl;
  finished = refl;
  cancelled = refl;
  fired = refl;
  replaced = refl;
  settled = refl;
  opened = refl;
  given = refl;
  done = refl;
  slept = refl;
  woke = refl;
  frozen = refl;
  thawed = refl;
}
moved_alike (reply.TicketNo k) = record {
  started = refl;
  finished = refl;
  cancelled = refl;
  fired = refl;
  replaced = refl;
  settled = refl;
  opened = refl;
  given = refl;
  done = refl;
  slept = refl;
  woke = refl;
  frozen = refl;
  thawed = refl;
}
moved_alike r = alike r

-- ---- a wait books nothing, and takes no time

books_nothing : (c : Call) (k : ℕ) (o : Option ℕ) → is_wait c ≡ true
    → is_some (option_and_then (booked_by c k) o) ≡ false
books_nothing (call.Delay i q p t) k o wait = absurd (true≢false (sym wait))
books_nothing (call.Modify i q p t) k o wait = absurd (true≢false (sym wait))
books_nothing c k None wait = refl
books_nothing c k (Some d) wait = refl

takes_no_time : (past : List Entry) (c : Call) → is_wait c ≡ true → has_time past c ≡ true
takes_no_time past (call.Tick t) wait = absurd (true≢false (sym wait))
takes_no_time past c wait = refl

-- ---- so it needs as much room after the sleep as before, and two entries more

mapped : {X Y : Type 0} (f g : X → Y) (o : Option X) → is_some (option_map f o) ≡ is_some (option_map g o)
mapped f g None = refl
mapped f g (Some x) = refl

module _ (s : Layout) (past : List Entry) (e : Entry) (legal : IsLegal s (e ∷ past)) (slept : e.reply ≡ reply.Slept)
    (who : Who) (c : Call) (wait : is_wait c ≡ true) where
  abbrev now : Entry
  now = entry_for s past who c

  abbrev later : Entry
  later = entry_for s (e ∷ past) who c

  replies : later.reply ≡ moved now.reply
  replies = same_answer s past e legal slept who c wait

  kinds : IsAlike later.reply now.reply
  kinds = subst (λ r. IsAlike r now.reply) (sym replies) (moved_alike now.reply)

  items : item_of later ≡ item_of now
  items = ap (option_or (item_called c)) kinds.fired

  same_ended : (x : Queueing) → is_ended (e ∷ past) later x ≡ is_ended past now x
  same_ended x =
      rw (kinds.finished, kinds.cancelled, kinds.replaced, kinds.fired, same_started s past e legal slept x.number) refl

  same_ending : ending (e ∷ past) later ≡ ending past now
  same_ending =
      ap (find (is_ended (e ∷ past) later)) (same_open s past e legal slept)
      ∙ find_same (is_ended (e ∷ past) later) (is_ended past now) (still_open past)
      (All_each _ (still_open past) same_ended)

  same_ends : ends_unstarted (e ∷ past) later ≡ ends_unstarted past now
  same_ends = ap (λ o. option_map_or (has_not_started (e ∷ past)) o false) same_ending ∙ at (ending past now)
    where
      at : (o : Option Queueing)
          → option_map_or (has_not_started (e ∷ past)) o false ≡ option_map_or (has_not_started past) o false
      at None = refl
      at (Some x) = ap not (same_started s past e legal slept x.number)

  same_settles : settles_booked (e ∷ past) later ≡ settles_booked past now
  same_settles =
      ap₂ (λ b o. b && option_map_or (is_booked (e ∷ past)) o false) kinds.settled items
      ∙ ap (λ b. settles now.reply && b) (at (item_of now))
    where
      at : (o : Option ℕ) → option_map_or (is_booked (e ∷ past)) o false ≡ option_map_or (is_booked past) o false
      at None = refl
      at (Some i) = ap is_some (same_booking s past e legal slept i)

  same_opens : is_some (opening (e ∷ past) later) ≡ is_some (opening past now)
  same_opens =
      ap₂ (λ b o. is_some (if b then option_and_then
      (λ i. option_map (queued_at (e ∷ past) i) (place_wanted (e ∷ past) c i)) o else None)) kinds.opened items
      ∙ at (opens now.reply) (item_of now)
    where
      at : (b : Bool) (o : Option ℕ)
          → is_some (if b then option_and_then
          (λ i. option_map (queued_at (e ∷ past) i) (place_wanted (e ∷ past) c i)) o else None)
          ≡ is_some (if b then option_and_then (λ i. option_map (queued_at past i) (place_wanted past c i)) o else None)
      at false o = refl
      at true None = refl
      at true (Some i) =
          mapped (queued_at (e ∷ past) i) (queued_at past i) (place_wanted (e ∷ past) c i)
          ∙ ap (λ (b : Option Booking). is_some (option_map (queued_at past i)
          (option_or (place_called c) (option_map (λ (k : Booking). k.place) b)))) (same_booking s past e legal slept i)

  same_books : is_some (booking_of later (length (e ∷ past))) ≡ is_some (booking_of now (length past))
  same_books = books_nothing c (length (e ∷ past)) _ wait ∙ sym (books_nothing c (length past) _ wait)

  same_paid : room_paid (e ∷ past) later ≡ room_paid past now
  same_paid =
      rw (kinds.started, same_ends, kinds.finished, kinds.woke, same_settles, kinds.done, kinds.thawed) refl

  same_taken : taken_on (e ∷ past) later ≡ taken_on past now
  same_taken = rw (same_opens, kinds.started, kinds.slept, same_books, kinds.given, kinds.frozen) refl

  pub needs_more : IsLegal s (now ∷ past) → IsLegal s (later ∷ e ∷ past)
      → room_needed s (later ∷ e ∷ past) ≤ room_needed s (now ∷ past) + 2
  needs_more legal_now legal_later =
      omega (
        arith,
        same_paid,
        same_taken,
        owed_goes_on s past now legal_now,
        owed_goes_on s (e ∷ past) later legal_later,
        sleep_owes s past e legal slept,
      )

-- ---- there is room for the call once the run sleeps

-- the entry of the sleep
slept_reply : (s : Layout) (past : List Entry) (w : WorkerId) → runs_awake past w ≡ true
    → answer s past (Worker w) call.Sleep ≡ reply.Slept
unfolding answer
slept_reply s past w awake = ap (λ b. if b then reply.Slept else reply.Misuse) awake

takes_more : (h g : History) (w : WorkerId) (c : CallerId) (cl : Call) → runs_awake (past_in h) w ≡ true
    → g ≡ with_entry h (next_entry h (Worker w) call.Sleep) → IsLegal g.layout (past_in g)
    → IsTrue (fits h.layout (Caller c) cl) → is_wait cl ≡ true → takes_with h (Caller c) cl 2 ≡ true
    → takes g (Caller c) cl ≡ true
unfolding IsLegal
takes_more h g w c cl awake made legal fit wait room =
    let e = next_entry h (Worker w) call.Sleep in
    let s = h.layout in
    let past : past_in g ≡ e ∷ past_in h = newest h g e made in
    let layout : g.layout ≡ s = ap (λ (k : History). k.layout) made in
    let legal_e : IsLegal s (e ∷ past_in h) =
    subst (λ l. IsLegal l (e ∷ past_in h)) layout (subst (IsLegal g.layout) past legal) in
    let slept : e.reply ≡ reply.Slept = slept_reply s (past_in h) w awake in
    let parts = and_parts (has_time (past_in h) cl) _ room in
    let within : room_needed s (entry_for s (past_in h) (Caller c) cl ∷ past_in h) + 2 ≤ h.room =
    leb-true _ h.room parts.1 in
    let more =
    needs_more s (past_in h) e legal_e slept (Caller c) cl wait (fit, refl, legal_e.2) (fit, refl, legal_e) in
    let fits_in : room_needed s (entry_for s (e ∷ past_in h) (Caller c) cl ∷ e ∷ past_in h) ≤ h.room = omega arith in
    let taken : takes (with_entry h e) (Caller c) cl ≡ true =
    subst (λ p. (has_time p cl && nat_le (room_needed s (entry_for s p (Caller c) cl ∷ p)) h.room) ≡ true)
    (sym (newest h (with_entry h e) e refl))
    (both_true (takes_no_time (e ∷ past_in h) cl wait) (le-leb _ h.room fits_in)) in
    subst (λ (k : History). takes k (Caller c) cl ≡ true) (sym made) taken

takes_alone : (h : History) (c : CallerId) (cl : Call) (more : ℕ) → takes_with h (Caller c) cl more ≡ true
    → takes h (Caller c) cl ≡ true
takes_alone h c cl more room =
    let parts = and_parts (has_time (past_in h) cl) _ room in
    let within = leb-true _ h.room parts.1 in
    both_true parts.0 (le-leb _ h.room (omega arith))

pub takes_after : (d n : Dispatched) (run : Option WorkerId) (c : CallerId) (cl : Call) (v w : Wakes)
    → MayEnterOf run call.Sleep (sleeps_first d run) d n v w → IsLegal n.history.layout (past_now n)
    → IsTrue (fits d.history.layout (Caller c) cl) → is_wait cl ≡ true
    → takes_with d.history (Caller c) cl (more_made run) ≡ true → takes n.history (Caller c) cl ≡ true
takes_after d n None c cl v w sleeps legal fit wait room =
    subst (λ (k : Dispatched). takes k.history (Caller c) cl ≡ true) (sym sleeps.0) (takes_alone d.history c cl 0 room)
takes_after d n (Some worker) c cl v w sleeps legal fit wait room = at (runs_awake (past_now d) worker) refl sleeps
  where
    at : (b : Bool) → runs_awake (past_now d) worker ≡ b → MayEnterOf (Some worker) call.Sleep b d n v w
        → takes n.history (Caller c) cl ≡ true
    at true awake is =
        takes_more d.history n.history worker c cl awake (ap (λ (k : Dispatched). k.history) is.made) legal fit wait
        room
    at false awake is =
        subst (λ (k : Dispatched). takes k.history (Caller c) cl ≡ true) (sym is.0) (takes_alone d.history c cl 2 room)
