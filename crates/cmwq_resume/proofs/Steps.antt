-- One more call of a plan: what it is answered, and what stands after it.
use Rattle.cmwq_resume.specs.Common.{◌≡◌, ◌<◌, ◌≤◌, ◌+◌, ◌==◌, ◌||◌, ◌&&◌, ◌++◌, ℕ, Bool, true, false, not, List, []}
use Rattle.cmwq_resume.specs.Common.{◌∷◌, length, filter, map, None, Some, refl, sym, ap, ap₂, ◌∙◌, arith, subst}
use Rattle.cmwq_resume.specs.Common.{nat_le, AllByRecursion, option_and_then, option_map, option_map_or, is_some}
use Rattle.cmwq_resume.specs.Common.{option_to_list, if◌then◌else◌, list_any, lt-ltb, eq-eqb, ne_eqb, append-nil}
use Rattle.cmwq_resume.specs.Common.{map-append, list_any-append, filter_all, none_found}
use Rattle.cmwq_resume.specs.Common.{All_append, All_map, All_both, or_parts, Entry, Start}
use Rattle.cmwq_resume.specs.Common.{is_at, nat_tests, le-leb}
use Rattle.cmwq_resume.specs.Common.{Caller, CallerId, Call, Queueing, Booking, Layout, entry_for}
use Rattle.cmwq_resume.specs.Common.{answer, queue_answer, set_max_answer, is_gone, is_cancelling, is_pending}
use Rattle.cmwq_resume.specs.Common.{runs_elsewhere, is_shut, unstarted_queueing, is_unstarted, queue_of, is_started}
use Rattle.cmwq_resume.specs.Common.{is_cancel_sync_of, is_drain_of, queued_at, opens}
use Rattle.cmwq_resume.specs.Common.{queueings, still_open, is_live, booking, bookings, booking_of, booked_by}
use Rattle.cmwq_resume.specs.Common.{standing_bookings, stands, number_booked, settles, is_of_item, max_active}
use Rattle.cmwq_resume.specs.Common.{is_frozen}
use Rattle.cmwq_resume.specs.Common.{now, IsLegal, most_active, due_in, place_wanted, item_of}
use Rattle.cmwq_model.specs.declared.call.Call.TheVariants as call
use Rattle.cmwq_model.specs.declared.reply.Reply.TheVariants as reply
use Rattle.cmwq_model.specs.Prelude.{serial_of}
use Rattle.cmwq_resume.specs.Resume.{asked, queue_call}
use Rattle.cmwq_resume.specs.Plays.{unnumbered, is_number, item_queued, item_booked, HasPlace, IsBookable}
use Rattle.cmwq_model.specs.Prelude.{holds_up, is_being_destroyed, is_booked_on, is_destroy_of}
use Rattle.cmwq_model.specs.Prelude.{is_held_by, is_ticket, ticket_of, unended_tickets, most_tickets}
use Rattle.cmwq_model.specs.Prelude.{end_of_ticket, waiting_for}
unfoldable use Rattle.cmwq_model.specs.Prelude.{destroy_answer}
use Rattle.cmwq_model.specs.declared.record.Ticket.{Ticket}
use Rattle.cmwq_resume.specs.Common.{find, count_by}
use Rattle.std.proofs.Math.Bool.{or-false}
use Rattle.cmwq_theory_steps.specs.TicketSteps.{is_kept}
use Rattle.cmwq_theory_steps.proofs.TicketSteps.{unended_go_on}
use Rattle.cmwq_resume.proofs.Safe.{IsSafe, Closed, stays_open, no_run, still_closed}

abbrev pub used : List Queueing → List Booking → List ℕ
used ks bs = map item_queued ks ++ map item_booked bs

abbrev pub IsUnused : List Queueing → List Booking → ℕ → Type 0
IsUnused ks bs i = list_any (is_number i) (used ks bs) ≡ false

-- what stands so far
pub record Stands (s : Layout) (w : ℕ → ℕ) (f : Bool) (t : ℕ) (ks : List Queueing) (bs : List Booking)
    (past : List Entry) : Type 0 where
  pub legal : IsLegal s past
  pub all : AllByRecursion IsSafe past
  pub widths : (q : ℕ) → max_active s past q ≡ w q
  pub frozen : is_frozen past ≡ f
  pub time : now past ≡ t
  pub queued : map asked (queueings past) ≡ map asked ks
  pub items : map item_queued (queueings past) ≡ map item_queued ks
  pub booked : map unnumbered (bookings past) ≡ map unnumbered bs
  pub booked_items : map item_booked (bookings past) ≡ map item_booked bs
  pub older : AllByRecursion (λ (x : Queueing). x.number < length past) (queueings past)
  pub standing : AllByRecursion (λ b. stands past b ≡ true) (bookings past)
  pub fresh : (i : ℕ) → IsUnused ks bs i → booking past i ≡ None

-- ---- lists

pub any_none : {X Y : Type 0} (p : Y → Bool) (f : X → Y) (xs : List X) → list_any p (map f xs) ≡ false
    → AllByRecursion (λ x. p (f x) ≡ false) xs
any_none p f [] h = tt
any_none p f (x ∷ xs) h = let k = or_parts (p (f x)) (list_any p (map f xs)) h in (k.0, any_none p f xs k.1)

pub eq_flip : (a b : ℕ) → (a == b) ≡ false → (b == a) ≡ false
eq_flip a b h = grind (arith, nat_tests)

pub unused_parts : (ks : List Queueing) (bs : List Booking) (i : ℕ) → IsUnused ks bs i
    → (list_any (is_number i) (map item_queued ks) ≡ false) × (list_any (is_number i) (map item_booked bs) ≡ false)
unused_parts ks bs i h =
    or_parts (list_any (is_number i) (map item_queued ks)) (list_any (is_number i) (map item_booked bs))
    (sym (list_any-append (is_number i) (map item_queued ks) (map item_booked bs)) ∙ h)

pub unused_less : (ks : List Queueing) (x : Queueing) (bs : List Booking) (i : ℕ) → IsUnused (ks ++ x ∷ []) bs i
    → IsUnused ks bs i × ((x.item.0 == i) ≡ false)
unused_less ks x bs i h =
    let k = unused_parts (ks ++ x ∷ []) bs i h in
    let both = or_parts (list_any (is_number i) (map item_queued ks)) (list_any (is_number i) (item_queued x ∷ []))
    (sym (list_any-append (is_number i) (map item_queued ks) (item_queued x ∷ []))
    ∙ ap (list_any (is_number i)) (sym (map-append item_queued ks (x ∷ []))) ∙ k.0) in (
      list_any-append (is_number i) (map item_queued ks) (map item_booked bs) ∙ ap₂ (λ a b. a || b) both.0 k.1,
      (or_parts (x.item.0 == i) false both.1).0,
    )

pub unused_less_booked : (ks : List Queueing) (bs : List Booking) (b : Booking) (i : ℕ)
    → IsUnused ks (bs ++ b ∷ []) i → IsUnused ks bs i × ((b.item.0 == i) ≡ false)
unused_less_booked ks bs b i h =
    let k = unused_parts ks (bs ++ b ∷ []) i h in
    let both = or_parts (list_any (is_number i) (map item_booked bs)) (list_any (is_number i) (item_booked b ∷ []))
    (sym (list_any-append (is_number i) (map item_booked bs) (item_booked b ∷ []))
    ∙ ap (list_any (is_number i)) (sym (map-append item_booked bs (b ∷ []))) ∙ k.1) in (
      list_any-append (is_number i) (map item_queued ks) (map item_booked bs) ∙ ap₂ (λ a b. a || b) k.0 both.0,
      (or_parts (b.item.0 == i) false both.1).0,
    )

module _ (s : Layout) (c : CallerId) (w : ℕ → ℕ) (f : Bool) (t : ℕ) (ks : List Queueing) (bs : List Booking)
    (past : List Entry) (there : c.0 < s.callers) (h : Stands s w f t ks bs past) where
  pub open_are : still_open past ≡ queueings past
  open_are =
      filter_all (is_live past) (queueings past)
      (All_map (λ (x : Queueing). x.number < length past) (λ x. is_live past x ≡ true) (queueings past)
      (λ x less. stays_open past x.item.0 x.number h.all ∙ lt-ltb x.number (length past) less) h.older)

  pub standing_are : standing_bookings past ≡ bookings past
  standing_are = filter_all (stands past) (bookings past) h.standing

  -- ---- an entry that neither queues nor books

  module _ (e : Entry) (legal : IsLegal s (e ∷ past)) (safe : IsSafe e) (none_opened : opens e.reply ≡ false)
      (none_booked : due_in e.reply ≡ None) (none_settled : settles e.reply ≡ false) where
    same_queueings : queueings (e ∷ past) ≡ queueings past
    unfolding queueings
    same_queueings =
        ap (λ a. queueings past ++ option_to_list (if a
        then option_and_then (λ i. option_map (queued_at past i) (place_wanted past e.call i)) (item_of e) else None))
        none_opened ∙ append-nil (queueings past)

    same_bookings : bookings (e ∷ past) ≡ bookings past
    unfolding bookings
    same_bookings =
        ap (λ o. bookings past ++ option_to_list (option_and_then (booked_by e.call (length past)) o)) none_booked
        ∙ append-nil (bookings past)

    same_booking : (i : ℕ) → booking (e ∷ past) i ≡ booking past i
    unfolding booking
    same_booking i =
        ap (λ a. if a && is_of_item i e then booking_of e (length past) else booking past i) none_settled

    pub quiet_stands : (v : ℕ → ℕ) (g : Bool) (u : ℕ) → ((q : ℕ) → max_active s (e ∷ past) q ≡ v q)
        → is_frozen (e ∷ past) ≡ g → now (e ∷ past) ≡ u → Stands s v g u ks bs (e ∷ past)
    quiet_stands v g u wide frozen time =
        record {
          legal = legal;
          all = (safe, h.all);
          widths = wide;
          frozen = frozen;
          time = time;
          queued = ap (map asked) same_queueings ∙ h.queued;
          items = ap (map item_queued) same_queueings ∙ h.items;
          booked = ap (map unnumbered) same_bookings ∙ h.booked;
          booked_items = ap (map item_booked) same_bookings ∙ h.booked_items;
          older =
              subst (AllByRecursion (λ (y : Queueing). y.number < length (e ∷ past))) (sym same_queueings)
              (All_map (λ (y : Queueing). y.number < length past) _ (queueings past) (λ y less. omega arith) h.older);
          standing =
              subst (AllByRecursion (λ b. stands (e ∷ past) b ≡ true)) (sym same_bookings)
              (All_map (λ b. stands past b ≡ true) _ (bookings past)
              (λ b stood. ap (λ o. is_at (option_map number_booked o) b.number) (same_booking b.item.0) ∙ stood)
              h.standing);
          fresh = λ i none. same_booking i ∙ h.fresh i none;
        }

module _ (s : Layout) (c : CallerId) (w : ℕ → ℕ) (f : Bool) (t : ℕ) (ks : List Queueing) (bs : List Booking)
    (past : List Entry) (there : c.0 < s.callers) (h : Stands s w f t ks bs past) (gone : ℕ → Bool)
    (k : Closed gone past) where
  open_here : still_open past ≡ queueings past
  open_here = open_are s c w f t ks bs past there h

  none_of : (i : ℕ) → IsUnused ks bs i → AllByRecursion (λ (x : Queueing). (x.item.0 == i) ≡ false) (queueings past)
  none_of i unused =
      any_none (is_number i) item_queued (queueings past)
      (ap (list_any (is_number i)) h.items ∙ (unused_parts ks bs i unused).0)

  none_for : (i : ℕ) → IsUnused ks bs i → AllByRecursion (λ (b : Booking). (b.item.0 == i) ≡ false) (bookings past)
  none_for i unused =
      any_none (is_number i) item_booked (bookings past)
      (ap (list_any (is_number i)) h.booked_items ∙ (unused_parts ks bs i unused).1)

  free : (i : ℕ) → IsUnused ks bs i → unstarted_queueing past i ≡ None
  free i unused =
      none_found (is_unstarted past i) (still_open past)
      (subst (AllByRecursion (λ x. is_unstarted past i x ≡ false)) (sym open_here)
      (All_map (λ (x : Queueing). (x.item.0 == i) ≡ false) (λ x. is_unstarted past i x ≡ false) (queueings past)
      (λ x other. ap (λ b. b && not (is_started past x.number)) other) (none_of i unused)))

  -- a call that queues or delays an item that is neither queued nor booked
  pub answered : (i q ticks : ℕ) → IsUnused ks bs i → gone q ≡ false
      → queue_answer past (Caller c) i q ticks
      ≡ (if ticks == 0 then reply.Yes (length past) else reply.Booked (now past + ticks))
  unfolding queue_answer
  answered i q ticks unused alive =
      at (is_gone past q) (is_cancelling past i) (is_pending past i) (runs_elsewhere past i q)
      (is_shut past (Caller c) q ticks) (k.are_gone q ∙ alive)
      (ap (list_any (is_cancel_sync_of i)) k.unended)
      (ap₂ (λ a b. is_some a || is_some b) (h.fresh i unused) (free i unused))
      (ap (λ o. option_map_or (λ (start : Start). not (is_at (queue_of past start.number) q)) o false)
      (no_run past i h.all))
      (ap (λ ts. list_any (is_drain_of q) ts && true) k.unended)
    where
      at : (gone cancelling pending elsewhere shut : Bool) → gone ≡ false → cancelling ≡ false → pending ≡ false
          → elsewhere ≡ false → shut ≡ false
          → (if gone then reply.Gone else if cancelling then reply.No else if pending then reply.No else if elsewhere
          then reply.Foreign else if shut then reply.Draining else if ticks == 0 then reply.Yes (length past)
          else reply.Booked (now past + ticks))
          ≡ (if ticks == 0 then reply.Yes (length past) else reply.Booked (now past + ticks))
      at gone cancelling pending elsewhere shut a b c d e = grind arith

  -- ---- an item is queued

  module _ (x : Queueing) (place : HasPlace s x) (unused : IsUnused ks bs x.item.0)
      (alive : gone x.place.queue.0 ≡ false) where
    abbrev pub queue_entry : Entry
    queue_entry =
        record {
          who = Caller c;
          serial = serial_of past (Caller c);
          call = queue_call x;
          reply =
              reply.Yes (length past);
        }

    pub queue_answered : answer s past (Caller c) (queue_call x) ≡ reply.Yes (length past)
    unfolding answer
    queue_answered = answered x.item.0 x.place.queue.0 0 unused alive

    pub queue_entry_is : entry_for s past (Caller c) (queue_call x) ≡ queue_entry
    queue_entry_is =
        ap (λ r. record { who = Caller c; serial = serial_of past (Caller c); call = queue_call x; reply = r })
        queue_answered

    queue_legal : IsLegal s (queue_entry ∷ past)
    unfolding IsLegal
    queue_legal = (
      ap₂ (λ a b. (a && true) && b) (lt-ltb c.0 s.callers there) place,
      sym queue_entry_is,
      h.legal,
    )

    queue_opened : asked (queued_at past x.item.0 x.place) ≡ asked x
    queue_opened = ap (λ o.
        record {
          item = x.item;
          place =
              record {
                queue = x.place.queue;
                cpu =
                    option_map_or (λ (start : Start). start.worker.pool.cpu) o x.place.cpu;
              };
          number = 0;
        }) (no_run past x.item.0 h.all)

    pub queue_closed : Closed gone (queue_entry ∷ past)
    queue_closed = still_closed s past queue_entry gone queue_legal refl refl k

    pub queue_stands : Stands s w f t (ks ++ x ∷ []) bs (queue_entry ∷ past)
    unfolding max_active is_frozen now queueings bookings booking
    queue_stands =
        record {
          legal = queue_legal;
          all = (
            record {
              who = refl;
              says =
                  record {
                    starts = refl;
                    finishes = refl;
                    cancels = refl;
                    replaces = refl;
                  };
            },
            h.all,
          );
          widths = λ q. h.widths q;
          frozen = h.frozen;
          time = omega (arith, h.time);
          queued =
              map-append asked (queueings past) (queued_at past x.item.0 x.place ∷ [])
              ∙ ap₂ (λ xs y. xs ++ y ∷ []) h.queued queue_opened
              ∙ sym (map-append asked ks (x ∷ []));
          items =
              map-append item_queued (queueings past) (queued_at past x.item.0 x.place ∷ [])
              ∙ ap (λ xs. xs ++ x.item.0 ∷ []) h.items
              ∙ sym (map-append item_queued ks (x ∷ []));
          booked = ap (map unnumbered) (append-nil (bookings past)) ∙ h.booked;
          booked_items = ap (map item_booked) (append-nil (bookings past)) ∙ h.booked_items;
          older =
              All_append (λ (y : Queueing). y.number < length (queue_entry ∷ past)) (queueings past)
              (queued_at past x.item.0 x.place ∷ [])
              (All_map (λ (y : Queueing). y.number < length past) _ (queueings past) (λ y less. omega arith) h.older)
              (omega arith, tt);
          standing =
              subst (AllByRecursion (λ b. stands (queue_entry ∷ past) b ≡ true)) (sym (append-nil (bookings past)))
              (All_both (λ b. stands past b ≡ true) (λ (b : Booking). (b.item.0 == x.item.0) ≡ false) _ (bookings past)
              (λ b stood other. ap (λ a. is_at (option_map number_booked (if a then None else booking past b.item.0))
              b.number) (eq_flip b.item.0 x.item.0 other) ∙ stood) h.standing (none_for x.item.0 unused));
          fresh =
              λ i none. let k = unused_less ks x bs i none in
              ap (λ a. if a then None else booking past i) k.1 ∙ h.fresh i k.0;
        }

  -- ---- an item is delayed

  module _ (b : Booking) (ticks : ℕ) (some : 0 < ticks) (place : IsBookable s b) (unused : IsUnused ks bs b.item.0)
      (alive : gone b.place.queue.0 ≡ false) where
    abbrev pub delay_call : Call
    delay_call = call.Delay b.item b.place.queue b.place.cpu ticks

    abbrev pub delay_entry : Entry
    delay_entry =
        record {
          who = Caller c;
          serial = serial_of past (Caller c);
          call = delay_call;
          reply =
              reply.Booked (now past + ticks);
        }

    abbrev pub made : Booking
    made = record { item = b.item; place = b.place; due = now past + ticks; number = length past }

    pub delay_answered : answer s past (Caller c) delay_call ≡ reply.Booked (now past + ticks)
    unfolding answer
    delay_answered =
        answered b.item.0 b.place.queue.0 ticks unused alive
        ∙ ap (λ a. if a then reply.Yes (length past) else reply.Booked (now past + ticks))
        (ne_eqb ticks 0 (λ same. absurd (omega arith)))

    pub delay_entry_is : entry_for s past (Caller c) delay_call ≡ delay_entry
    delay_entry_is =
        ap (λ r. record { who = Caller c; serial = serial_of past (Caller c); call = delay_call; reply = r })
        delay_answered

    delay_legal : IsLegal s (delay_entry ∷ past)
    unfolding IsLegal
    delay_legal = (
      ap₂ (λ a b. (a && true) && b) (lt-ltb c.0 s.callers there) place,
      sym delay_entry_is,
      h.legal,
    )

    pub delay_closed : Closed gone (delay_entry ∷ past)
    delay_closed = still_closed s past delay_entry gone delay_legal refl refl k

    pub delay_stands : Stands s w f t ks (bs ++ record b { due = t + ticks } ∷ []) (delay_entry ∷ past)
    unfolding max_active is_frozen now queueings bookings booking
    delay_stands =
        record {
          legal = delay_legal;
          all = (
            record {
              who = refl;
              says =
                  record {
                    starts = refl;
                    finishes = refl;
                    cancels = refl;
                    replaces = refl;
                  };
            },
            h.all,
          );
          widths = λ q. h.widths q;
          frozen = h.frozen;
          time = omega (arith, h.time);
          queued = ap (map asked) (append-nil (queueings past)) ∙ h.queued;
          items = ap (map item_queued) (append-nil (queueings past)) ∙ h.items;
          booked =
              map-append unnumbered (bookings past) (made ∷ [])
              ∙ ap₂ (λ xs d. xs ++ record { item = b.item; place = b.place; due = d; number = 0 } ∷ []) h.booked
              (ap (λ n. n + ticks) h.time)
              ∙ sym (map-append unnumbered bs (record b { due = t + ticks } ∷ []));
          booked_items =
              map-append item_booked (bookings past) (made ∷ [])
              ∙ ap (λ xs. xs ++ b.item.0 ∷ []) h.booked_items
              ∙ sym (map-append item_booked bs (record b { due = t + ticks } ∷ []));
          older =
              subst (AllByRecursion (λ (y : Queueing). y.number < length (delay_entry ∷ past)))
              (sym (append-nil (queueings past)))
              (All_map (λ (y : Queueing). y.number < length past) _ (queueings past) (λ y less. omega arith) h.older);
          standing =
              All_append (λ a. stands (delay_entry ∷ past) a ≡ true) (bookings past) (made ∷ [])
              (All_both (λ a. stands past a ≡ true) (λ (a : Booking). (a.item.0 == b.item.0) ≡ false) _ (bookings past)
              (λ a stood other. ap (λ z. is_at (option_map number_booked (if z then Some made
              else booking past a.item.0)) a.number) (eq_flip a.item.0 b.item.0 other) ∙ stood) h.standing
              (none_for b.item.0 unused)) (
                ap (λ z. is_at (option_map number_booked (if z then Some made else booking past b.item.0))
                    (length past)) (eq-eqb b.item.0 b.item.0 refl)
                    ∙ eq-eqb (length past) (length past) refl,
                tt,
              );
          fresh =
              λ i none. let k = unused_less_booked ks bs (record b { due = t + ticks }) i none in
              ap (λ a. if a then Some made else booking past i) k.1 ∙ h.fresh i k.0;
        }

  -- ---- a width is set

  module _ (q n : ℕ) (less : q < length s.queues) (least : 1 ≤ n) (most : n ≤ most_active)
      (alive : gone q ≡ false) where
    abbrev pub width_call : Call
    width_call = call.SetMax (record { 0 = q }) n

    abbrev pub width_entry : Entry
    width_entry =
        record { who = Caller c; serial = serial_of past (Caller c); call = width_call; reply = reply.Width n }

    pub width_answered : answer s past (Caller c) width_call ≡ reply.Width n
    unfolding answer set_max_answer
    width_answered =
        ap₂ (λ a m. if a then reply.Gone else reply.Width m) (k.are_gone q ∙ alive) (omega arith)

    pub width_entry_is : entry_for s past (Caller c) width_call ≡ width_entry
    width_entry_is =
        ap (λ r. record { who = Caller c; serial = serial_of past (Caller c); call = width_call; reply = r })
        width_answered

    width_legal : IsLegal s (width_entry ∷ past)
    unfolding IsLegal
    width_legal = (
      ap₂ (λ a b. (a && true) && b) (lt-ltb c.0 s.callers there)
          (ap₂ (λ a b. a && b) (lt-ltb q (length s.queues) less) (le-leb 1 n least)),
      sym width_entry_is,
      h.legal,
    )

    wider : (p : ℕ) → max_active s (width_entry ∷ past) p ≡ (if q == p then n else w p)
    unfolding max_active
    wider p = at (q == p)
      where
        at : (a : Bool) → option_map_or (λ m. m) (if a then Some n else None) (max_active s past p)
            ≡ (if a then n else w p)
        at true = refl
        at false = h.widths p

    pub width_closed : Closed gone (width_entry ∷ past)
    width_closed = still_closed s past width_entry gone width_legal refl refl k

    pub width_stands : Stands s (λ p. if q == p then n else w p) f t ks bs (width_entry ∷ past)
    unfolding is_frozen now
    width_stands =
        quiet_stands s c w f t ks bs past there h width_entry width_legal
        (record {
          who = refl;
          says =
              record { starts = refl; finishes = refl; cancels = refl; replaces = refl };
        }) refl refl refl (λ p. if q == p then n else w p) f t wider h.frozen (omega (arith, h.time))

  -- ---- the system is frozen, and a tick goes by

  abbrev pub freeze_entry : Entry
  freeze_entry =
      record { who = Caller c; serial = serial_of past (Caller c); call = call.Freeze; reply = reply.Frozen }

  module _ (thawed : f ≡ false) where
    pub freeze_answered : answer s past (Caller c) call.Freeze ≡ reply.Frozen
    unfolding answer
    freeze_answered = ap (λ a. if a then reply.No else reply.Frozen) (h.frozen ∙ thawed)

    pub freeze_entry_is : entry_for s past (Caller c) call.Freeze ≡ freeze_entry
    freeze_entry_is =
        ap (λ r. record { who = Caller c; serial = serial_of past (Caller c); call = call.Freeze; reply = r })
        freeze_answered

    freeze_legal : IsLegal s (freeze_entry ∷ past)
    unfolding IsLegal
    freeze_legal = (ap (λ a. (a && true) && true) (lt-ltb c.0 s.callers there), sym freeze_entry_is, h.legal)

    pub freeze_closed : Closed gone (freeze_entry ∷ past)
    freeze_closed = still_closed s past freeze_entry gone freeze_legal refl refl k

    pub freeze_stands : Stands s w true t ks bs (freeze_entry ∷ past)
    unfolding is_frozen now max_active
    freeze_stands =
        quiet_stands s c w f t ks bs past there h freeze_entry freeze_legal
        (record {
          who = refl;
          says =
              record { starts = refl; finishes = refl; cancels = refl; replaces = refl };
        }) refl refl refl w true t h.widths refl (omega (arith, h.time))

  abbrev pub tick_entry : Entry
  tick_entry =
      record {
        who = Caller c;
        serial = serial_of past (Caller c);
        call = call.Tick 1;
        reply =
            reply.Now (now past + 1);
      }

  pub tick_entry_is : entry_for s past (Caller c) (call.Tick 1) ≡ tick_entry
  unfolding answer
  tick_entry_is = refl

  tick_legal : IsLegal s (tick_entry ∷ past)
  unfolding IsLegal
  tick_legal = (ap (λ a. (a && true) && true) (lt-ltb c.0 s.callers there), sym tick_entry_is, h.legal)

  pub tick_closed : Closed gone (tick_entry ∷ past)
  tick_closed = still_closed s past tick_entry gone tick_legal refl refl k

  pub tick_stands : Stands s w f (t + 1) ks bs (tick_entry ∷ past)
  unfolding is_frozen now max_active
  tick_stands =
      quiet_stands s c w f t ks bs past there h tick_entry tick_legal
      (record {
        who = refl;
        says =
            record { starts = refl; finishes = refl; cancels = refl; replaces = refl };
      }) refl refl refl w f (t + 1) h.widths h.frozen (omega (arith, h.time))

-- ---- a queue is destroyed, and at once it is gone

unmapped : {X Y : Type 0} (f : X → Y) (xs : List X) → map f xs ≡ [] → xs ≡ []
unmapped f [] h = refl
unmapped f (x ∷ xs) h = cc

find_one : {X : Type 0} (p : X → Bool) (x : X) → p x ≡ true → find p (x ∷ []) ≡ Some x
find_one p x h = grind (arith, h)

filter_out : {X : Type 0} (p : X → Bool) (x : X) → p x ≡ false → filter p (x ∷ []) ≡ []
filter_out p x h = grind (arith, h)

module _ (s : Layout) (c : CallerId) (w : ℕ → ℕ) (past : List Entry) (there : c.0 < s.callers)
    (h : Stands s w false 0 [] [] past) (gone : ℕ → Bool) (k : Closed gone past) (q : ℕ) (less : q < length s.queues)
    (alive : gone q ≡ false) where
  abbrev pub destroy_call : Call
  destroy_call = call.Destroy (record { 0 = q })

  abbrev ticket : Ticket
  ticket = record { caller = c; call = destroy_call; number = length past }

  abbrev pub destroy_entry : Entry
  destroy_entry =
      record {
        who = Caller c;
        serial = serial_of past (Caller c);
        call = destroy_call;
        reply =
            reply.Ticket (length past);
      }

  abbrev pub middle : List Entry
  middle = destroy_entry ∷ past

  abbrev pub end_call : Call
  end_call = call.End (length past)

  abbrev pub end_entry : Entry
  end_entry =
      record { who = Caller c; serial = serial_of middle (Caller c); call = end_call; reply = reply.Done }

  pub destroy_answered : answer s past (Caller c) destroy_call ≡ reply.Ticket (length past)
  unfolding answer destroy_answer
  destroy_answered =
      at (is_gone past q) (is_being_destroyed past q) (list_any (is_booked_on q) (standing_bookings past))
      (nat_le most_tickets (count_by (is_held_by (Caller c)) (unended_tickets past)))
      (k.are_gone q ∙ alive) (ap (list_any (is_destroy_of q)) k.unended)
      (ap (λ bs. list_any (is_booked_on q) (filter (stands past) bs)) (unmapped unnumbered (bookings past) h.booked))
      (ap (λ ts. nat_le most_tickets (count_by (is_held_by (Caller c)) ts)) k.unended)
    where
      at : (a b d e : Bool) → a ≡ false → b ≡ false → d ≡ false → e ≡ false
          → (if a then reply.Gone else if b then reply.Draining else if d then reply.Timers else if e then reply.Crowded
          else reply.Ticket (length past))
          ≡ reply.Ticket (length past)
      at a b d e ha hb hd he = grind arith

  pub destroy_entry_is : entry_for s past (Caller c) destroy_call ≡ destroy_entry
  destroy_entry_is =
      ap (λ r. record { who = Caller c; serial = serial_of past (Caller c); call = destroy_call; reply = r })
      destroy_answered

  destroy_legal : IsLegal s middle
  unfolding IsLegal
  destroy_legal = (
    ap₂ (λ a b. (a && true) && b) (lt-ltb c.0 s.callers there) (lt-ltb q (length s.queues) less),
    sym destroy_entry_is,
    h.legal,
  )

  middle_stands : Stands s w false 0 [] [] middle
  unfolding is_frozen now max_active
  middle_stands =
      quiet_stands s c w false 0 [] [] past there h destroy_entry destroy_legal
      (record {
        who = refl;
        says =
            record { starts = refl; finishes = refl; cancels = refl; replaces = refl };
      }) refl refl refl w false 0 h.widths h.frozen (omega (arith, h.time))

  one_unended : unended_tickets middle ≡ ticket ∷ []
  one_unended =
      unended_go_on s past destroy_entry destroy_legal
      ∙ ap (λ ts. filter (is_kept destroy_entry) ts ++ ticket ∷ []) k.unended

  ticket_there : ticket_of middle (Caller c) (length past) ≡ Some ticket
  ticket_there =
      ap (find (is_ticket (Caller c) (length past))) one_unended
      ∙ find_one (is_ticket (Caller c) (length past)) ticket
      (ap₂ (λ a b. a && b) (eq-eqb (length past) (length past) refl) (eq-eqb c.0 c.0 refl))

  nothing_open : still_open middle ≡ []
  nothing_open =
      open_are s c w false 0 [] [] middle there middle_stands
      ∙ unmapped asked (queueings middle) middle_stands.queued

  pub end_answered : answer s middle (Caller c) end_call ≡ reply.Done
  unfolding answer
  end_answered =
      ap (end_of_ticket middle) ticket_there
      ∙ ap (λ xs. waiting_for
      (option_map (λ (x : Queueing). x.number) (find (holds_up middle (length past) destroy_call) xs))) nothing_open

  pub end_entry_is : entry_for s middle (Caller c) end_call ≡ end_entry
  end_entry_is =
      ap (λ r. record { who = Caller c; serial = serial_of middle (Caller c); call = end_call; reply = r })
      end_answered

  end_legal : IsLegal s (end_entry ∷ middle)
  unfolding IsLegal
  end_legal = (ap (λ a. (a && true) && true) (lt-ltb c.0 s.callers there), sym end_entry_is, destroy_legal)

  pub destroyed_stands : Stands s w false 0 [] [] (end_entry ∷ middle)
  unfolding is_frozen now max_active
  destroyed_stands =
      quiet_stands s c w false 0 [] [] middle there middle_stands end_entry end_legal
      (record {
        who = refl;
        says =
            record { starts = refl; finishes = refl; cancels = refl; replaces = refl };
      }) refl refl refl w false 0 middle_stands.widths middle_stands.frozen (omega (arith, middle_stands.time))

  pub destroyed_closed : Closed (λ p. gone p || (q == p)) (end_entry ∷ middle)
  unfolding is_gone
  destroyed_closed =
      record {
        unended =
            unended_go_on s middle end_entry end_legal
            ∙ ap (λ ts. filter (is_kept end_entry) ts ++ []) one_unended
            ∙ ap (λ ts. ts ++ [])
            (filter_out (is_kept end_entry) ticket
            (grind (arith, eq-eqb c.0 c.0 refl, eq-eqb (length past) (length past) refl)));
        are_gone =
            λ p. ap₂ (λ a o. (a || false) || option_map_or (is_destroy_of p) o false) (k.are_gone p) ticket_there
            ∙ ap (λ a. a || (q == p)) (or-false (gone p));
      }
