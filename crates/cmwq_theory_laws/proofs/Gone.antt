-- A queue that is gone has nothing open and nothing booked on it; one that is being destroyed has nothing booked on it.
use Rattle.cmwq_theory_laws.specs.Common.{◌≡◌, ◌==◌, ℕ, Bool, true, false, ◌&&◌, ◌||◌, List, [], ◌∷◌, length, filter}
use Rattle.cmwq_theory_laws.specs.Common.{Option, Some, None, option_to_list, refl, sym, ap, ◌∙◌, subst, arith}
use Rattle.cmwq_theory_laws.specs.Common.{if◌then◌else◌, option_and_then, option_map, option_or, option_map_or}
use Rattle.cmwq_theory_laws.specs.Common.{AllByRecursion, list_any, eq-eqb, eqb-true, nat_tests, Who, Call, Reply}
use Rattle.cmwq_theory_laws.specs.Common.{Entry, Booking, Queueing, Layout, is_at, item_fired, is_of_item, settles}
use Rattle.cmwq_theory_laws.specs.Common.{due_in, booking, booking_of, booked_by, bookings, standing_bookings, stands}
use Rattle.cmwq_theory_laws.specs.Common.{number_booked, opens, opening, queued_at, still_open, tickets}
use Rattle.cmwq_theory_laws.specs.Common.{unended_tickets, gives_ticket, drains, destroys, is_drain_of, is_destroy_of}
use Rattle.cmwq_theory_laws.specs.Common.{is_draining, is_being_destroyed, is_done, ends_destroy, is_gone, holds_up}
use Rattle.cmwq_theory_laws.specs.Common.{waits_for, is_booked_on, IsLegal, All_append, All_unfilter, find_none, Cause}
use Rattle.cmwq_theory_laws.specs.Common.{cause_of, booking_after, opening_opens}
use Rattle.cmwq_model.specs.declared.record.Place.{Place}
use Rattle.cmwq_model.specs.declared.call.Call.TheVariants as call
use Rattle.cmwq_model.specs.declared.reply.Reply.TheVariants as reply
use Rattle.cmwq_theory_steps.specs.Endings.{survives}
use Rattle.cmwq_theory_laws.specs.Gone.{NoneBooked, NoneOpen}
use Rattle.cmwq_theory_steps.proofs.Causes as cause
use Rattle.cmwq_theory_laws.proofs.Cancelling.{unended_kind}
use Rattle.cmwq_theory_steps.proofs.Endings.{open_go_on}
use Rattle.std.proofs.Common.{inl, inr}
use Rattle.std.proofs.lemmas.Bool.{and_parts, both_ways, false_from_ne_true, or_from, or_left, or_right}
use Rattle.std.proofs.lemmas.Option.{same_Some}
use Rattle.cmwq_lemmas.proofs.Filters.{count_by-wider}
use Rattle.cmwq_lemmas.proofs.Lists.{All_each}
use Rattle.cmwq_lemmas.proofs.Passing.{all_kept, all_split, any_counted, counted_any}
use Rattle.cmwq_theory_steps.proofs.PendingSteps.{none_opened}
use Rattle.cmwq_theory_steps.proofs.Pools.{PlacedAt, as_booked, books_at, freely, opens_at}
use Rattle.cmwq_theory_steps.proofs.Standing.{made_for}
use Rattle.cmwq_theory_steps.proofs.StateSteps.{opens_as_asked}
use Rattle.cmwq_lemmas.proofs.Passing.{any_found, none_pass}
use Rattle.cmwq_theory_steps.proofs.Refusals.{none_mapped}

-- ---- what an entry books is on a queue that isn't draining, and isn't gone

-- so a queue that drains or is gone gets no booking
none_more_booked : (s : Layout) (past : List Entry) (e : Entry) (q : ℕ) → IsLegal s (e ∷ past)
    → (is_draining past q || is_gone past q) ≡ true → NoneBooked past q → NoneBooked (e ∷ past) q
none_more_booked s past e q legal busy none i b h = at (settles e.reply && is_of_item i e) refl
  where
    at : (a : Bool) → (settles e.reply && is_of_item i e) ≡ a → (b.place.queue.0 == q) ≡ false
    at true ha = false_from_ne_true _ (λ is.
        let k = and_parts (settles e.reply) (is_of_item i e) ha in
        let m = books_at s past e i (length past) b legal k.0 k.1 (sym (booking_after past e i true ha) ∙ h) in
        let some = m.some in
        let shut = m.free.not_shut in
        both_ways _ (or_from (is_draining past b.place.queue.0) _ (grind (arith, nat_tests)) m.free.not_gone)
        (ap (λ k. is_draining past k || is_gone past k) (eqb-true b.place.queue.0 q is) ∙ busy))
    at false ha = none i b (sym (booking_after past e i false ha) ∙ h)

-- ---- what an entry opens is on a queue that isn't gone, or on one where it was booked

-- what is open after an entry is on no queue on which nothing was, nor what it opens
stays_empty : (s : Layout) (past : List Entry) (e : Entry) (q : ℕ) → IsLegal s (e ∷ past) → NoneOpen past q
    → AllByRecursion (λ x. (x.place.queue.0 == q) ≡ false) (option_to_list (opening past e)) → NoneOpen (e ∷ past) q
stays_empty s past e q legal empty none =
    subst (AllByRecursion (λ x. (x.place.queue.0 == q) ≡ false)) (sym (open_go_on s past e legal))
    (All_append _ (filter (survives past e) (still_open past)) (option_to_list (opening past e))
    (all_kept _ (survives past e) (still_open past) empty) none)

none_more_open : (s : Layout) (past : List Entry) (e : Entry) (q : ℕ) → IsLegal s (e ∷ past) → is_gone past q ≡ true
    → NoneBooked past q → NoneOpen past q → NoneOpen (e ∷ past) q
none_more_open s past e q legal gone none empty = stays_empty s past e q legal empty (of (opening past e) refl)
  where
    off : (i : ℕ) (p : Place) → PlacedAt past e.who i p → (p.queue.0 == q) ≡ false
    off i p (freely t free) =
        false_from_ne_true _ (λ on. both_ways _ free.not_gone (ap (is_gone past) (eqb-true p.queue.0 q on) ∙ gone))
    off i p (as_booked b is same) = ap (λ (x : Place). x.queue.0 == q) (sym same) ∙ none i b is

    of : (o : Option Queueing) → opening past e ≡ o
        → AllByRecursion (λ x. (x.place.queue.0 == q) ≡ false) (option_to_list o)
    of None is = tt
    of (Some x) is =
        let shown = opening_opens past e x is in
        let k = opens_as_asked s past e legal shown in
        let same = same_Some x (queued_at past k.item k.place) (sym is ∙ k.opened) in (
          ap (λ (y : Queueing). y.place.queue.0 == q) same
              ∙ off k.item k.place (opens_at s past e k.item k.place legal shown k.is_item k.is_place),
          tt,
        )

destroy_drains : (q : ℕ) (c : Call) → destroys q c ≡ true → drains q c ≡ true
destroy_drains q (call.Destroy k) h = h
destroy_drains q c h = cc

any_more : {X : Type 0} (p r : X → Bool) (xs : List X) → ((x : X) → p x ≡ true → r x ≡ true) → list_any p xs ≡ true
    → list_any r xs ≡ true
any_more p r xs more h =
    counted_any r xs (omega (arith, any_counted p xs h, count_by-wider p r xs (All_each _ xs more)))

-- ---- a booking is one of those that stand

last_holds : (P : Booking → Type 0) (o : Option Booking) (b : Booking) → AllByRecursion P (option_to_list o)
    → o ≡ Some b → P b
last_holds P None b h is = cc
last_holds P (Some a) b h is = subst P (same_Some a b is) h.0

its_booking : (past : List Entry) (i : ℕ) (P : Booking → Type 0) (b : Booking) → AllByRecursion P (bookings past)
    → booking past i ≡ Some b → (b.item.0 ≡ i) × P b
unfolding booking bookings
its_booking [] i P b all h = cc
its_booking (e ∷ past) i P b all h = at (settles e.reply && is_of_item i e) refl h (its_booking past i P b parts.0)
  where
    parts : AllByRecursion P (bookings past) × AllByRecursion P (option_to_list (booking_of e (length past)))
    parts = all_split P (bookings past) (option_to_list (booking_of e (length past))) all

    item_is : (o : Option ℕ) → due_in e.reply ≡ o → option_and_then (booked_by e.call (length past)) o ≡ Some b
        → is_of_item i e ≡ true → b.item.0 ≡ i
    item_is None due is of = cc
    item_is (Some d) due is of =
        eqb-true b.item.0 i
        (sym (ap (λ o. is_at (option_or o (item_fired e.reply)) i) (made_for e.call (length past) d b is).item) ∙ of)

    at : (a : Bool) → (settles e.reply && is_of_item i e) ≡ a
        → (if a then booking_of e (length past) else booking past i) ≡ Some b
        → (booking past i ≡ Some b → (b.item.0 ≡ i) × P b) → (b.item.0 ≡ i) × P b
    at true ha is rest = (
      item_is (due_in e.reply) refl is (and_parts (settles e.reply) (is_of_item i e) ha).1,
      last_holds P (booking_of e (length past)) b parts.1 is,
    )
    at false ha is rest = rest is

none_standing : (past : List Entry) (q : ℕ) → list_any (is_booked_on q) (standing_bookings past) ≡ false
    → NoneBooked past q
none_standing past q h i b is =
    let k = its_booking past i (λ a. stands past a ≡ true → (a.place.queue.0 == q) ≡ false) b
    (All_unfilter (λ a. (a.place.queue.0 == q) ≡ false) (stands past) (bookings past)
    (none_pass (is_booked_on q) (standing_bookings past) h)) is in
    k.1 (ap (λ o. is_at (option_map number_booked o) b.number) (ap (booking past) k.0 ∙ is)
    ∙ eq-eqb b.number b.number refl)

-- ---- the invariant

record IsEmptied (past : List Entry) (q : ℕ) : Type 0 where
  destroying : is_being_destroyed past q ≡ true → NoneBooked past q
  gone : is_gone past q ≡ true → NoneOpen past q × NoneBooked past q

-- a destroy begins where nothing is booked
begun_none : (s : Layout) (past : List Entry) (who : Who) (c : Call) (r : Reply) (q : ℕ) → Cause s past who c r
    → destroys q c ≡ true → gives_ticket r ≡ true → NoneBooked past q × (settles r ≡ false)
begun_none s past who c r q (cause.destroyed w k free there new none) h given = (
  none_standing past q
      (subst (λ m. list_any (is_booked_on m) (standing_bookings past) ≡ false) (eqb-true k.0 q h) none),
  refl,
)
begun_none s past who c r q other h given = cc

left_none : (past : List Entry) (e : Entry) (q : ℕ) → settles e.reply ≡ false → NoneBooked past q
    → NoneBooked (e ∷ past) q
left_none past e q quiet none i b h =
    none i b (sym (booking_after past e i false (ap (λ a. a && is_of_item i e) quiet)) ∙ h)

destroying_step : (s : Layout) (past : List Entry) (e : Entry) (q : ℕ) → IsLegal s (e ∷ past) → IsEmptied past q
    → is_being_destroyed (e ∷ past) q ≡ true → NoneBooked (e ∷ past) q
destroying_step s past e q legal before h = elim (unended_kind s past e (destroys q) legal h) [
  | inl held ↦
      none_more_booked s past e q legal
      (or_left (is_draining past q) (is_gone past q)
      (any_more (is_destroy_of q) (is_drain_of q) (unended_tickets past) (λ t. destroy_drains q t.call) held))
      (before.destroying held)
  | inr begins ↦ let k = begun_none s past e.who e.call e.reply q (cause_of s past e legal) begins.0 begins.1 in
      left_none past e q k.1 k.0
]

waits_none : (past : List Entry) (n q : ℕ) (c : Call) → destroys q c ≡ true → waits_for past n c ≡ None
    → NoneOpen past q
waits_none past n q (call.Destroy k) h ready =
    subst (λ m. NoneOpen past m) (eqb-true k.0 q h)
    (find_none (holds_up past n (call.Destroy k)) (still_open past) (none_mapped _ ready))
waits_none past n q c h ready = cc

-- the end of a destroy: it was unended, and nothing of the queue is open
ends_which : (s : Layout) (past : List Entry) (who : Who) (c : Call) (r : Reply) (q : ℕ) → Cause s past who c r
    → is_done r ≡ true → ends_destroy past q who c ≡ true → (is_being_destroyed past q ≡ true) × NoneOpen past q
ends_which s past who c r q (cause.ended w n t found ready) done h =
    let is : destroys q t.call ≡ true = sym (ap (λ o. option_map_or (is_destroy_of q) o false) found) ∙ h in
    (any_found _ (is_destroy_of q) t (unended_tickets past) found is, waits_none past t.number q t.call is ready)
ends_which s past who c r q other done h = cc

-- a done settles nothing, and opens nothing
done_quiet : (r : Reply) → is_done r ≡ true → (settles r ≡ false) × (opens r ≡ false)
done_quiet reply.Done h = (refl, refl)
done_quiet r h = cc

gone_step : (s : Layout) (past : List Entry) (e : Entry) (q : ℕ) → IsLegal s (e ∷ past) → IsEmptied past q
    → is_gone (e ∷ past) q ≡ true → NoneOpen (e ∷ past) q × NoneBooked (e ∷ past) q
unfolding is_gone
gone_step s past e q legal before h = at (is_gone past q) (is_done e.reply) refl refl h
  where
    at : (a b : Bool) → is_gone past q ≡ a → is_done e.reply ≡ b → (a || (b && ends_destroy past q e.who e.call)) ≡ true
        → NoneOpen (e ∷ past) q × NoneBooked (e ∷ past) q
    at true b ha hb h =
        let was = before.gone ha in (
          none_more_open s past e q legal ha was.1 was.0,
          none_more_booked s past e q legal (or_right (is_draining past q) (is_gone past q) ha) was.1,
        )
    at false true ha hb h =
        let ends = ends_which s past e.who e.call e.reply q (cause_of s past e legal) hb h in
        let quiet = done_quiet e.reply hb in (
          stays_empty s past e q legal ends.1
              (subst (λ o. AllByRecursion (λ x. (x.place.queue.0 == q) ≡ false) (option_to_list o))
              (sym (none_opened past e quiet.1)) tt),
          left_none past e q quiet.0 (before.destroying ends.0),
        )
    at false false ha hb h = cc

emptied : (s : Layout) (past : List Entry) (q : ℕ) → IsLegal s past → IsEmptied past q
unfolding IsLegal is_gone tickets
emptied s [] q legal = record { destroying = λ h. cc; gone = λ h. cc }
emptied s (e ∷ past) q legal =
    let before = emptied s past q legal.2 in
    record { destroying = destroying_step s past e q legal before; gone = gone_step s past e q legal before }

pub gone_stay_empty : (s : Layout) (past : List Entry) → IsLegal s past → (q : ℕ) → is_gone past q ≡ true
    → NoneOpen past q × NoneBooked past q
gone_stay_empty s past legal q h = (emptied s past q legal).gone h

pub gone_stay_gone : (past : List Entry) (e : Entry) (q : ℕ) → is_gone past q ≡ true → is_gone (e ∷ past) q ≡ true
unfolding is_gone
gone_stay_gone past e q h = or_left (is_gone past q) (is_done e.reply && ends_destroy past q e.who e.call) h
