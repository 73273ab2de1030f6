-- Entries that are refused change nothing.
use Rattle.cmwq_theory_steps.specs.Common.{◌≡◌, ◌<◌, ◌+◌, ℕ, Bool, true, false, not, ◌&&◌, ◌||◌, List, [], ◌∷◌, ◌++◌}
use Rattle.cmwq_theory_steps.specs.Common.{length, filter, find, count_by, Option, Some, None, option_to_list}
use Rattle.cmwq_theory_steps.specs.Common.{append-nil, nat_lt, refl, sym, ap, ap₂, ◌∙◌, subst, arith, option_map}
use Rattle.cmwq_theory_steps.specs.Common.{option_and_then, is_some, if◌then◌else◌, option_map_or, nat_tests, PoolId}
use Rattle.cmwq_theory_steps.specs.Common.{Who, Caller, Worker, Call, Reply, Entry, Queueing, Start, Ticket, Layout}
use Rattle.cmwq_theory_steps.specs.Common.{is_at, is_by, is_of_item, item_of, ticks_told, now, settles, due_in, booking}
use Rattle.cmwq_theory_steps.specs.Common.{booked_by, number_started, number_finished, number_cancelled, replaces}
use Rattle.cmwq_theory_steps.specs.Common.{is_started, run, item_run, is_asleep, asleep_after, start_in, queueings}
use Rattle.cmwq_theory_steps.specs.Common.{is_of, opens, opening, is_live, still_open, is_unstarted, unstarted_queueing}
use Rattle.cmwq_theory_steps.specs.Common.{queued_at, place_wanted, run_queue, is_frozen, is_ahead, is_below_max_active}
use Rattle.cmwq_theory_steps.specs.Common.{is_active, newly_active, worklist, next, is_startable, is_enlisted}
use Rattle.cmwq_theory_steps.specs.Common.{index_enlisted, is_in_pool, is_retired, unended_tickets, gives_ticket}
use Rattle.cmwq_theory_steps.specs.Common.{ticket_for, ticket_in, is_end_of, is_done, is_gone, ends_destroy, IsLegal}
use Rattle.cmwq_theory_steps.specs.Common.{bits, owed, answer, All_map, All_each}
use Rattle.cmwq_model.specs.Widths.{keeps_widths}
use Rattle.cmwq_theory_steps.proofs.Joined.{active_go_on, active_live}
use Rattle.cmwq_theory_steps.proofs.Widths.{frozen_same, max_same, width_same}
use Rattle.cmwq_theory_steps.proofs.Rising.{open_below}
use Rattle.cmwq_model.specs.declared.call.Call.TheVariants as call
use Rattle.cmwq_model.specs.declared.reply.Reply.TheVariants as reply
use Rattle.cmwq_theory_steps.specs.Histories.{one}
use Rattle.cmwq_theory_steps.specs.Places.{is_on, active_count}
use Rattle.cmwq_theory_steps.specs.Endings.{survives, ending}
use Rattle.cmwq_theory_steps.specs.Activations.{is_left, is_in, waits, behind_width, is_below_max_active_at_once}
use Rattle.cmwq_theory_steps.specs.TicketSteps.{ticket_asked, is_kept}
use Rattle.cmwq_theory_steps.specs.RoomSteps.{is_slept, is_woke, is_frozen_now, is_thawed_now, room_paid, taken_on}
use Rattle.cmwq_theory_steps.specs.RunSteps.{run_after, ends_run}
use Rattle.cmwq_theory_steps.specs.Waiting.{waiting_queueings, is_active_on}
use Rattle.cmwq_theory_steps.specs.Queued.{run_queue_after}
use Rattle.cmwq_theory_steps.specs.Refusals.{is_refusal, DoesNothing, ChangesNothing}
use Rattle.cmwq_lemmas.proofs.Filters.{filter_same, find_same}
use Rattle.cmwq_theory_steps.proofs.Inversions.{answer_is}
use Rattle.cmwq_theory_steps.proofs.Standing.{booking_after}
use Rattle.cmwq_theory_steps.proofs.Endings.{live_goes_on, open_go_on}
use Rattle.cmwq_theory_steps.proofs.Ended.{ends_which}
use Rattle.cmwq_theory_steps.proofs.NewlyActive.{newly_active_are}
use Rattle.cmwq_theory_steps.proofs.WorklistSteps.{worklists_go_on}
use Rattle.cmwq_theory_steps.proofs.ActiveCounts.{active_count_goes_on, stays_counted}
use Rattle.cmwq_theory_steps.proofs.RunSteps.{workers_run_on}
use Rattle.cmwq_theory_steps.proofs.ItemSteps.{none_started, items_run_on}
use Rattle.cmwq_theory_steps.proofs.Queued.{run_queues_go_on}
use Rattle.cmwq_theory_steps.proofs.TicketSteps.{unended_go_on}
use Rattle.cmwq_theory_steps.proofs.Owing.{owed_goes_on}
use Rattle.cmwq_lemmas.proofs.Lists.{filter_all}
use Rattle.cmwq_lemmas.proofs.Truth.{and_false, and_true, or_true, or_false, same_bools}
use Rattle.std.proofs.lemmas.Bool.{true≢false}

-- ---- what such a reply doesn't say

record SaysNothing (r : Reply) : Type 0 where
  opens_none : opens r ≡ false
  settles_none : settles r ≡ false
  due : due_in r ≡ None
  replaces_none : replaces r ≡ false
  started : number_started r ≡ None
  finished : number_finished r ≡ None
  cancelled : number_cancelled r ≡ None
  gives : gives_ticket r ≡ false
  done : is_done r ≡ false
  widths : keeps_widths r ≡ true
  frozen : is_frozen_now r ≡ false
  thawed : is_thawed_now r ≡ false
  slept : is_slept r ≡ false
  woke : is_woke r ≡ false
  enlisted : index_enlisted r ≡ None
  retired : is_retired r ≡ false
  asleep : (b : Bool) → asleep_after r b ≡ b
  runs : (o : Option ℕ) → run_after r o ≡ o
  queues : (past : List Entry) (o : Option ℕ) → run_queue_after past r o ≡ o

says_nothing : (r : Reply) → is_refusal r ≡ true → SaysNothing r
says_nothing reply.Misuse h =
    record {
      opens_none = refl;
      settles_none = refl;
      due = refl;
      replaces_none = refl;
      started = refl;
      finished = refl;
      cancelled = refl;
      gives = refl;
      done = refl;
      widths = refl;
      frozen = refl;
      thawed = refl;
      slept = refl;
      woke = refl;
      enlisted = refl;
      retired = refl;
      asleep = λ b. refl;
      runs = λ o. refl;
      queues = λ past o. refl;
    }
says_nothing r h = grind arith

-- ---- so the entry does nothing

pub none_mapped : (o : Option Queueing) → option_map (λ (x : Queueing). x.number) o ≡ None → o ≡ None
none_mapped None h = refl
none_mapped (Some x) h = cc

does_nothing : (s : Layout) (past : List Entry) (e : Entry) → IsLegal s (e ∷ past) → SaysNothing e.reply
    → DoesNothing s past e
does_nothing s past e legal q =
    let none =
    none_mapped (ending past e) (ends_which s past e legal ∙ rw (q.finished, q.cancelled, q.replaces_none) refl) in
    let shut : opening past e ≡ None =
    ap (λ b. if b then option_and_then (λ i. option_map (queued_at past i) (place_wanted past e.call i)) (item_of e)
    else None) q.opens_none in
    record {
      ended = none;
      opened = shut;
      booked = ap (option_and_then (booked_by e.call (length past))) q.due;
      done = ap (λ b. if b then ticket_asked past e.who e.call else None) q.done;
      given = ap (λ b. if b then ticket_for e.who e.call (length past) else None) q.gives;
      newly = newly_active_are s past e legal q.widths
          ∙ ap₂ (λ o x. filter (waits s past) (option_to_list (behind_width s past o))
          ++ filter (is_below_max_active_at_once s past e) (option_to_list x)) none shut;
    }

pub refusals_do_nothing : (s : Layout) (past : List Entry) (e : Entry) → IsLegal s (e ∷ past)
    → is_refusal e.reply ≡ true → DoesNothing s past e
refusals_do_nothing s past e legal h = does_nothing s past e legal (says_nothing e.reply h)

-- ---- lists

module _ {X : Type 0} where
  nothing_more : (p : X → Bool) (xs ys : List X) → ((x : X) → p x ≡ true) → ys ≡ [] → filter p xs ++ ys ≡ xs
  nothing_more p xs ys all none = ap₂ (λ a b. a ++ b) (filter_all p xs (All_each _ xs all)) none ∙ append-nil xs

-- ---- queueings

survivors : (past : List Entry) (e : Entry) → SaysNothing e.reply → (x : Queueing) → survives past e x ≡ true
survivors past e q x = rw (q.finished, q.cancelled, q.replaces_none) refl

left : (past : List Entry) (e : Entry) → SaysNothing e.reply → (x : Queueing) → is_left past e x ≡ true
left past e q x = rw (q.finished, q.cancelled, q.replaces_none, q.started) refl

same_queueings : (past : List Entry) (e : Entry) → opening past e ≡ None → queueings (e ∷ past) ≡ queueings past
unfolding queueings
same_queueings past e none = ap (λ o. queueings past ++ option_to_list o) none ∙ append-nil (queueings past)

same_open : (s : Layout) (past : List Entry) (e : Entry) → IsLegal s (e ∷ past) → SaysNothing e.reply
    → opening past e ≡ None → still_open (e ∷ past) ≡ still_open past
same_open s past e legal q none =
    open_go_on s past e legal ∙ nothing_more (survives past e) (still_open past) (option_to_list (opening past e))
    (survivors past e q) (ap option_to_list none)

-- what is open and is below max_active is active
way_active : (s : Layout) (past : List Entry) (x : Queueing) → is_live past x ≡ true
    → is_below_max_active s past x ≡ true → is_active s past x ≡ true
way_active s [] x live way = let none : nat_lt x.number 0 ≡ false = grind (arith, nat_tests) in grind arith
way_active s (e ∷ past) x live way = active_go_on s past e x ∙ ap₂ (λ a b. a && (is_active s past x || b)) live way
    ∙ or_true (is_active s past x)

same_active : (s : Layout) (past : List Entry) (e : Entry) → IsLegal s (e ∷ past) → SaysNothing e.reply
    → opening past e ≡ None → (x : Queueing) → x.number < length past → is_active s (e ∷ past) x ≡ is_active s past x
same_active s past e legal q none x less =
    let live : is_live (e ∷ past) x ≡ is_live past x =
    live_goes_on past e x less ∙ ap (λ b. is_live past x && b) (survivors past e q x) ∙ and_true (is_live past x) in
    let way : is_below_max_active s (e ∷ past) x ≡ is_below_max_active s past x =
    ap₂ nat_lt (ap (count_by (is_ahead x)) (same_open s past e legal q none))
    (width_same s past e x.place.queue.0 q.widths) in
    active_go_on s past e x ∙ ap₂ (λ a b. a && (is_active s past x || b)) live way
    ∙ same_bools _ _ (λ h. grind (arith, way_active s past x)) (λ h. grind (arith, active_live s past x h))

same_waiting : (s : Layout) (past : List Entry) (e : Entry) → IsLegal s (e ∷ past) → SaysNothing e.reply
    → opening past e ≡ None → waiting_queueings s (e ∷ past) ≡ waiting_queueings s past
same_waiting s past e legal q none = ap (filter (waits s (e ∷ past))) (same_open s past e legal q none)
    ∙ filter_same (waits s (e ∷ past)) (waits s past) (still_open past)
    (All_map (λ x. x.number < length past) _ (still_open past)
    (λ x less. ap not (same_active s past e legal q none x less)) (open_below past))

same_count : (s : Layout) (past : List Entry) (e : Entry) (a c : ℕ) → IsLegal s (e ∷ past) → DoesNothing s past e
    → active_count s (e ∷ past) a c ≡ active_count s past a c
same_count s past e a c legal d =
    let none = ap (count_by (is_on a c)) d.newly in
    let nobody = ap (λ o. one (option_map_or (is_active_on s past a c) o false)) d.ended in
    omega (arith, active_count_goes_on s past e a c, stays_counted s past e legal a c)

same_worklist : (s : Layout) (past : List Entry) (e : Entry) (p : PoolId) → IsLegal s (e ∷ past) → SaysNothing e.reply
    → newly_active s past e ≡ [] → worklist s (e ∷ past) p ≡ worklist s past p
same_worklist s past e p legal q none =
    worklists_go_on s past e p legal
    ∙ nothing_more (is_left past e) (worklist s past p) (filter (is_in s p) (newly_active s past e)) (left past e q)
    (ap (filter (is_in s p)) none)

same_unstarted : (s : Layout) (past : List Entry) (e : Entry) (i : ℕ) → IsLegal s (e ∷ past) → SaysNothing e.reply
    → opening past e ≡ None → unstarted_queueing (e ∷ past) i ≡ unstarted_queueing past i
same_unstarted s past e i legal q none = ap (find (is_unstarted (e ∷ past) i)) (same_open s past e legal q none)
    ∙ find_same (is_unstarted (e ∷ past) i) (is_unstarted past i) (still_open past)
    (All_each _ (still_open past)
    (λ x. ap (λ o. (is_of i x) && not (is_at o x.number || is_started past x.number)) q.started))

-- ---- runs

not_ended : (e : Entry) → SaysNothing e.reply → (o : Option Start) → (if ends_run e o then None else o) ≡ o
not_ended e q None = refl
not_ended e q (Some st) = ap (λ k. if is_at k st.number then None else Some st) q.finished

same_item_run : (s : Layout) (past : List Entry) (e : Entry) (i : ℕ) → IsLegal s (e ∷ past) → SaysNothing e.reply
    → item_run (e ∷ past) i ≡ item_run past i
same_item_run s past e i legal q =
    items_run_on s past e i legal
    ∙ ap (λ b. if b then start_in e else if ends_run e (item_run past i) then None else item_run past i)
    (none_started e.who past i (number_started e.reply) q.started) ∙ not_ended e q (item_run past i)

module _ {X : Type 0} where
  either : (b : Bool) (x y : X) → x ≡ y → (if b then x else y) ≡ y
  either true x y h = h
  either false x y h = refl

same_next : (s : Layout) (past : List Entry) (e : Entry) (p : PoolId) → IsLegal s (e ∷ past) → SaysNothing e.reply
    → newly_active s past e ≡ [] → next s (e ∷ past) p ≡ next s past p
unfolding next
same_next s past e p legal q none = ap (find (is_startable (e ∷ past))) (same_worklist s past e p legal q none)
    ∙ find_same (is_startable (e ∷ past)) (is_startable past) (worklist s past p)
    (All_each _ (worklist s past p) (λ x. ap (λ o. not (is_some o)) (same_item_run s past e x.item.0 legal q)))

-- ---- items, tickets, time and room

same_booking : (past : List Entry) (e : Entry) (i : ℕ) → SaysNothing e.reply → booking (e ∷ past) i ≡ booking past i
same_booking past e i q = booking_after past e i false (ap (λ b. b && is_of_item i e) q.settles_none)

same_bits : (s : Layout) (past : List Entry) (e : Entry) (i : ℕ) → IsLegal s (e ∷ past) → SaysNothing e.reply
    → opening past e ≡ None → bits (e ∷ past) i ≡ bits past i
same_bits s past e i legal q none = ap₂ (λ a b. (if a then 1 else 0) + (if b then 2 else 0))
    (ap₂ (λ a b. is_some a || is_some b) (same_booking past e i q) (same_unstarted s past e i legal q none))
    (ap is_some (same_item_run s past e i legal q))

same_unended : (s : Layout) (past : List Entry) (e : Entry) → IsLegal s (e ∷ past) → SaysNothing e.reply
    → ticket_in e (length past) ≡ None → unended_tickets (e ∷ past) ≡ unended_tickets past
same_unended s past e legal q none =
    unended_go_on s past e legal
    ∙ nothing_more (is_kept e) (unended_tickets past) (option_to_list (ticket_in e (length past))) kept
    (ap option_to_list none)
  where
    kept : (t : Ticket) → is_kept e t ≡ true
    kept t = ap (λ b. not (is_by (Caller t.caller) e && is_end_of t.number e.call && b)) q.done ∙ ap not (and_false _)

-- a tick is never refused
no_ticks : (s : Layout) (past : List Entry) (who : Who) (c : Call) → is_refusal (answer s past who c) ≡ true
    → ticks_told c ≡ 0
unfolding answer
no_ticks s past who (call.Tick t) h = absurd (true≢false (sym h))
no_ticks s past who c h = refl

same_time : (s : Layout) (past : List Entry) (e : Entry) → IsLegal s (e ∷ past) → is_refusal e.reply ≡ true
    → now (e ∷ past) ≡ now past
unfolding now
same_time s past e legal h =
    omega (arith, no_ticks s past e.who e.call (subst (λ r. is_refusal r ≡ true) (answer_is s past e legal) h))

same_owed : (s : Layout) (past : List Entry) (e : Entry) → IsLegal s (e ∷ past) → SaysNothing e.reply
    → DoesNothing s past e → owed s (e ∷ past) ≡ owed s past
same_owed s past e legal q d =
    let step = owed_goes_on s past e legal in
    let pays : room_paid past e ≡ 0 =
    rw (q.started, q.finished, q.woke, q.done, q.thawed, q.settles_none, d.ended) refl in
    let takes : taken_on past e ≡ 0 = rw (q.started, q.slept, q.gives, q.frozen, d.opened, d.booked) refl in
    omega arith

pub refusals_change_nothing : (s : Layout) (past : List Entry) (e : Entry) → IsLegal s (e ∷ past)
    → is_refusal e.reply ≡ true → ChangesNothing s past e
unfolding is_asleep is_enlisted is_gone is_frozen
refusals_change_nothing s past e legal h =
    let q = says_nothing e.reply h in
    let d = does_nothing s past e legal q in
    record {
      queueings = same_queueings past e d.opened;
      open_ones = same_open s past e legal q d.opened;
      active = same_active s past e legal q d.opened;
      active_count = λ a c. same_count s past e a c legal d;
      waiting = same_waiting s past e legal q d.opened;
      worklists = λ p. same_worklist s past e p legal q d.newly;
      next = λ p. same_next s past e p legal q d.newly;
      unstarted = λ i. same_unstarted s past e i legal q d.opened;
      booking = λ i. same_booking past e i q;
      bits = λ i. same_bits s past e i legal q d.opened;
      item_run = λ i. same_item_run s past e i legal q;
      run = λ w. workers_run_on s past e w legal
          ∙ either (is_by (Worker w) e) (run_after e.reply (run past w)) (run past w) (q.runs (run past w));
      run_queue = λ w. run_queues_go_on s past e legal w
          ∙ either (is_by (Worker w) e) (run_queue_after past e.reply (run_queue past w)) (run_queue past w)
          (q.queues past (run_queue past w));
      asleep = λ w. either (is_by (Worker w) e) (asleep_after e.reply (is_asleep past w)) (is_asleep past w)
          (q.asleep (is_asleep past w));
      enlisted =
          λ w. ap₂ (λ o b. (is_in_pool w.pool e.who && is_at o w.index)
          || (not (is_by (Worker w) e && b) && is_enlisted past w)) q.enlisted q.retired ∙ simp and_false refl;
      unended = same_unended s past e legal q d.given;
      gone = λ a. ap (λ b. is_gone past a || (b && ends_destroy past a e.who e.call)) q.done
          ∙ or_false (is_gone past a);
      frozen = frozen_same e.reply (is_frozen past) q.widths;
      max_active = λ a. max_same s past e a q.widths;
      width = λ a. width_same s past e a q.widths;
      time = same_time s past e legal h;
      owed = same_owed s past e legal q d;
    }
