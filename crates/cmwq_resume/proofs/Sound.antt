-- What a legal history leaves is a sound plan.
use Rattle.cmwq_resume.specs.Common.{◌≡◌, ◌<◌, ◌≤◌, ◌+◌, ◌==◌, ◌-◌, ◌||◌, ◌&&◌, ◌++◌, ℕ, Bool, true, false}
use Rattle.cmwq_resume.specs.Common.{List, [], ◌∷◌, length, map, filter, count_by, Some, None, Option, min, cond}
use Rattle.cmwq_resume.specs.Common.{refl, sym, ap, ap₂, ◌∙◌, arith, subst, AllByRecursion, list_any, nat_le, is_some}
use Rattle.cmwq_resume.specs.Common.{if◌then◌else◌, option_map_or, map-append, All_map, All_each, and_parts, le-leb}
use Rattle.cmwq_resume.specs.Common.{leb-true, lt-ltb, nat_tests, eqb-true, ne_eqb, nat_lt, eq-eqb, both_ways}
use Rattle.cmwq_resume.specs.Common.{count_by-cons, Call, Entry}
use Rattle.cmwq_resume.specs.Common.{Queueing, Booking, Layout, Who, first_width, most_active, max_active, IsLegal}
use Rattle.cmwq_resume.specs.Common.{answer, set_max_answer, sets_max, width_told, is_gone, has_place}
use Rattle.cmwq_resume.specs.Common.{still_open, has_not_started, is_pending, is_booked}
use Rattle.cmwq_resume.specs.Common.{is_unstarted, unstarted_queueing, standing_bookings, bookings, booking}
use Rattle.cmwq_resume.specs.Common.{booking_of, number_booked, stands, now, booked_by, due_in, option_and_then}
use Rattle.cmwq_resume.specs.Common.{All_append}
use Rattle.cmwq_model.specs.Prelude.{is_layout, is_queue, queue_at, has_numbers, may_make}
use Rattle.cmwq_model.specs.Layout.{no_queue}
use Rattle.cmwq_model.specs.declared.call.Call.TheVariants as call
use Rattle.cmwq_model.specs.declared.reply.Reply.TheVariants as reply
use Rattle.std.specs.List.{list_all}
use Rattle.std.proofs.lemmas.List.Folds.{list_all_at}
use Rattle.std.proofs.lemmas.List.Filters.{sum_by-filter_both}
use Rattle.std.proofs.lemmas.Bool.{ltb-true, true_from_ne_false, cases_lt}
use Rattle.std.proofs.Common.{inl, inr, ◌⊎◌}
use Rattle.cmwq_lemmas.proofs.Members.{In, of_in, all_in, in_filter}
use Rattle.cmwq_lemmas.proofs.Lists.{count_append, count_by-filter, count_by-none, all_mapped, All_filter}
use Rattle.cmwq_lemmas.proofs.Filters.{count_by-wider}
use Rattle.cmwq_lemmas.proofs.Passing.{any_counted, fewer_kept, once_among}
use Rattle.cmwq_lemmas.proofs.Lists.{range_below}
use Rattle.cmwq_theory_laws.proofs.Gone.{gone_stay_empty}
use Rattle.cmwq_resume.specs.Common.{range_with_len}
use Rattle.cmwq_resume.specs.Resume.{by_due, gone_queues}
use Rattle.cmwq_resume.proofs.ByDue.{all_by_due, count_by_due}
use Rattle.cmwq_resume.specs.Plays.{IsAlive, IsBookedAlive}
use Rattle.cmwq_lemmas.proofs.Rising.{RisesBy, rises_filter}
use Rattle.cmwq_theory_steps.proofs.Pending.{few_pending, pending_count, none_unstarted, not_idle}
use Rattle.cmwq_theory_steps.proofs.OneRun.{one_run}
use Rattle.cmwq_theory_steps.specs.Pending.{is_run_of}
use Rattle.cmwq_refinement.proofs.FirstDue.{standing_is, standing_fits}
use Rattle.cmwq_refinement.proofs.PlacesFit.{open_there}
use Rattle.cmwq_lemmas.proofs.Numbers.{rises_more}
use Rattle.cmwq_lemmas.proofs.Members.{all_more}
use Rattle.cmwq_theory_steps.proofs.Standing.{made_for}
use Rattle.cmwq_resume.specs.Resume.{asked, left_at, is_broken_off, broken_off, waiting, kept, is_due, is_later}
use Rattle.cmwq_resume.specs.Resume.{overdue}
use Rattle.cmwq_resume.specs.Resume.{later}
use Rattle.cmwq_resume.specs.Plays.{AreApart, is_number, item_queued, item_booked, HasPlace, IsBookable, IsSound}

-- ---- widths are within their bounds

abbrev IsWide : ℕ → Type 0
IsWide n = (1 ≤ n) × (n ≤ most_active)

first_wide : (s : Layout) (q : ℕ) → is_layout s ≡ true → q < length s.queues → IsWide (first_width s q)
first_wide s q ok less =
    let queues : list_all is_queue s.queues ≡ true = (and_parts _ _ (and_parts _ _ ok).1).1 in
    let here : is_queue (queue_at s q) ≡ true =
    true_from_ne_false _ (λ bad. both_ways _ (list_all_at is_queue s.queues q no_queue less bad) queues) in
    let parts = and_parts _ _ here in
    (leb-true 1 (first_width s q) parts.0, leb-true (first_width s q) most_active parts.1)

set_wide : (s : Layout) (past : List Entry) (who : Who) (c : Call) (q m : ℕ) → has_numbers s c ≡ true → IsWide m
    → IsWide (option_map_or (λ n. n) (if sets_max c q then width_told (answer s past who c) else None) m)
unfolding answer set_max_answer
set_wide s past who (call.SetMax r n) q m fit old = at (r.0 == q) (is_gone past r.0)
  where
    at : (a gone : Bool) → IsWide (option_map_or (λ n. n) (if a then width_told (if gone then reply.Gone
        else reply.Width (min n most_active)) else None) m)
    at true true = old
    at true false =
        let parts = and_parts (nat_lt r.0 (length s.queues)) (nat_le 1 n) fit in
        let least : 1 ≤ n = leb-true 1 n parts.1 in (omega arith, omega arith)
    at false gone = old
set_wide s past who c q m fit old = old

pub widths_wide : (s : Layout) (past : List Entry) (q : ℕ) → is_layout s ≡ true → IsLegal s past
    → q < length s.queues → IsWide (max_active s past q)
unfolding max_active IsLegal
widths_wide s [] q ok legal less = first_wide s q ok less
widths_wide s (e ∷ past) q ok legal less =
    subst (λ r. IsWide (option_map_or (λ n. n) (if sets_max e.call q then width_told r else None)
    (max_active s past q))) (sym (ap (λ (x : Entry). x.reply) legal.1))
    (set_wide s past e.who e.call q (max_active s past q) (and_parts (may_make s e.who e.call) (has_numbers s e.call)
    legal.0).1 (widths_wide s past q ok legal.2 less))

none_set : (s : Layout) (c : Call) (q : ℕ) → has_numbers s c ≡ true → length s.queues ≤ q → sets_max c q ≡ false
none_set s (call.SetMax r n) q fit more =
    let less = ltb-true r.0 (length s.queues) (and_parts _ _ fit).0 in grind (arith, nat_tests)
none_set s c q fit more = refl

pub widths_beyond : (s : Layout) (past : List Entry) (q : ℕ) → IsLegal s past → length s.queues ≤ q
    → max_active s past q ≡ first_width s q
unfolding max_active IsLegal
widths_beyond s [] q legal more = refl
widths_beyond s (e ∷ past) q legal more =
    ap (λ a. option_map_or (λ n. n) (if a then width_told e.reply else None) (max_active s past q))
    (none_set s e.call q (and_parts (may_make s e.who e.call) (has_numbers s e.call) legal.0).1 more)
    ∙ widths_beyond s past q legal.2 more

-- ---- lists

counted_map : {X : Type 0} (f : X → ℕ) (i : ℕ) (xs : List X)
    → count_by (is_number i) (map f xs) ≡ count_by (λ x. f x == i) xs
counted_map f i [] = refl
counted_map f i (x ∷ xs) =
    count_by-cons (is_number i) (f x) (map f xs) ∙ ap (λ n. cond (f x == i) 1 0 + n) (counted_map f i xs)
    ∙ sym (count_by-cons (λ x. f x == i) x xs)

apart_counted : (is : List ℕ) → ((i : ℕ) → count_by (is_number i) is ≤ 1) → AreApart is
apart_counted [] few = tt
apart_counted (i ∷ is) few = (none (list_any (is_number i) is) refl, apart_counted is fewer)
  where
    none : (b : Bool) → list_any (is_number i) is ≡ b → list_any (is_number i) is ≡ false
    none true h =
        absurd (omega (
          arith,
          few i,
          count_by-cons (is_number i) i is,
          any_counted (is_number i) is h,
          ap {B = ℕ} (λ b. cond b 1 0) (eq-eqb i i refl),
        ))
    none false h = h

    fewer : (j : ℕ) → count_by (is_number j) is ≤ 1
    fewer j = omega (arith, few j, count_by-cons (is_number j) i is)

mapped_all : {X Y : Type 0} (f : X → Y) (P : Y → Type 0) (xs : List X) → AllByRecursion P (map f xs)
    → AllByRecursion (λ x. P (f x)) xs
mapped_all f P [] h = tt
mapped_all f P (x ∷ xs) h = (h.0, mapped_all f P xs h.1)

-- ---- what stands booked is one of an item

abbrev has_no : ℕ → Booking → Bool
has_no n b = b.number == n

few_of : (n : ℕ) (xs : List Booking) → RisesBy number_booked xs → count_by (has_no n) xs ≤ 1
few_of n [] h = omega arith
few_of n (x ∷ xs) h = at (x.number == n) refl (few_of n xs h.1)
  where
    at : (b : Bool) → (x.number == n) ≡ b → count_by (has_no n) xs ≤ 1 → count_by (has_no n) (x ∷ xs) ≤ 1
    at true is few =
        omega (
          arith,
          count_by-cons (has_no n) x xs,
          ap {B = ℕ} (λ b. cond b 1 0) is,
          count_by-none (has_no n) xs
              (All_map (λ (y : Booking). x.number < y.number) (λ y. has_no n y ≡ false) xs
              (λ y less. ne_eqb y.number n (λ same. absurd (omega (arith, eqb-true x.number n is)))) h.0),
        )
    at false is few = omega (arith, count_by-cons (has_no n) x xs, ap {B = ℕ} (λ b. cond b 1 0) is)

abbrev is_for : ℕ → Booking → Bool
is_for i b = b.item.0 == i

few_standing : (past : List Entry) (i : ℕ) → RisesBy number_booked (standing_bookings past)
    → count_by (is_for i) (standing_bookings past) ≤ cond (is_booked past i) 1 0
few_standing past i rise = at (booking past i) refl
  where
    at : (o : Option Booking) → booking past i ≡ o
        → count_by (is_for i) (standing_bookings past) ≤ cond (is_some (booking past i)) 1 0
    at None none =
        omega (
          arith,
          ap {B = ℕ} (λ o. cond (is_some o) 1 0) none,
          count_by-none (is_for i) (standing_bookings past)
              (all_in (λ b. is_for i b ≡ false) (standing_bookings past) (λ b there. other b there (is_for i b) refl)),
        )
      where
        other : (b : Booking) → In b (standing_bookings past) → (a : Bool) → is_for i b ≡ a → is_for i b ≡ false
        other b there true same =
            let is = standing_is past b there in
            let its = ap (booking past) (eqb-true b.item.0 i same) in cc
        other b there false same = same
    at (Some x) is =
        omega (
          arith,
          ap {B = ℕ} (λ o. cond (is_some o) 1 0) is,
          few_of x.number (standing_bookings past) rise,
          count_by-wider (is_for i) (has_no x.number) (standing_bookings past)
              (all_in (λ b. is_for i b ≡ true → has_no x.number b ≡ true) (standing_bookings past)
              (λ b there same. eq-eqb b.number x.number (number b there same))),
        )
      where
        number : (b : Booking) → In b (standing_bookings past) → is_for i b ≡ true → b.number ≡ x.number
        number b there same =
            let own = standing_is past b there in
            let its = ap (booking past) (eqb-true b.item.0 i same) in cc

-- ---- each item is left once

module _ (s : Layout) (again : ℕ → Bool) (past : List Entry) (legal : IsLegal s past) where
  abbrev breaks_of : ℕ → Queueing → Bool
  breaks_of i x = is_broken_off again past x && (x.item.0 == i)

  abbrev waits_of : ℕ → Queueing → Bool
  waits_of i x = has_not_started past x && (x.item.0 == i)

  abbrev queued_of : ℕ → Queueing → Bool
  queued_of i x = item_queued x == i

  abbrev booked_for : ℕ → Booking → Bool
  booked_for i b = item_booked b == i

  counted_queued : (i : ℕ) (p : Queueing → Bool)
      → count_by (is_number i) (map item_queued (map asked (filter p (still_open past))))
      ≡ count_by (λ x. p x && (x.item.0 == i)) (still_open past)
  counted_queued i p =
      counted_map item_queued i (map asked (filter p (still_open past)))
      ∙ counted_asked (filter p (still_open past))
      ∙ sym (count_by-filter (λ x. p x && (x.item.0 == i)) p (queued_of i) (still_open past) (λ x. refl))
    where
      counted_asked : (xs : List Queueing) → count_by (queued_of i) (map asked xs) ≡ count_by (queued_of i) xs
      counted_asked [] = refl
      counted_asked (x ∷ xs) =
          count_by-cons (queued_of i) (asked x) (map asked xs)
          ∙ ap (λ n. cond (x.item.0 == i) 1 0 + n) (counted_asked xs)
          ∙ sym (count_by-cons (queued_of i) x xs)

  counted_booked : (i : ℕ) (p : Booking → Bool)
      → count_by (is_number i) (map item_booked (map (left_at (now past)) (filter p (standing_bookings past))))
      ≡ count_by (booked_for i) (filter p (standing_bookings past))
  counted_booked i p =
      counted_map item_booked i (map (left_at (now past)) (filter p (standing_bookings past)))
      ∙ counted_left (filter p (standing_bookings past))
    where
      counted_left : (xs : List Booking)
          → count_by (booked_for i) (map (left_at (now past)) xs) ≡ count_by (booked_for i) xs
      counted_left [] = refl
      counted_left (x ∷ xs) =
          count_by-cons (booked_for i) (left_at (now past) x) (map (left_at (now past)) xs)
          ∙ ap (λ n. cond (x.item.0 == i) 1 0 + n) (counted_left xs)
          ∙ sym (count_by-cons (booked_for i) x xs)

  counted_due : (i : ℕ) → count_by (is_number i) (map item_booked (overdue past))
      ≡ count_by (booked_for i) (filter (is_due past) (standing_bookings past))
  counted_due i =
      counted_map item_booked i (overdue past)
      ∙ counted_left (by_due (filter (is_due past) (standing_bookings past)))
      ∙ count_by_due (booked_for i) (filter (is_due past) (standing_bookings past))
    where
      counted_left : (xs : List Booking)
          → count_by (booked_for i) (map (left_at (now past)) xs) ≡ count_by (booked_for i) xs
      counted_left [] = refl
      counted_left (x ∷ xs) =
          count_by-cons (booked_for i) (left_at (now past) x) (map (left_at (now past)) xs)
          ∙ ap (λ n. cond (x.item.0 == i) 1 0 + n) (counted_left xs)
          ∙ sym (count_by-cons (booked_for i) x xs)

  waiting_few : (i : ℕ) → count_by (waits_of i) (still_open past) ≤ count_by (is_unstarted past i) (still_open past)
  waiting_few i =
      count_by-wider (waits_of i) (is_unstarted past i) (still_open past)
      (All_each (λ x. waits_of i x ≡ true → is_unstarted past i x ≡ true) (still_open past) (λ x h. grind arith))

  broken_few : (i : ℕ) → count_by (breaks_of i) (still_open past) + cond (is_pending past i) 1 0 ≤ 1
  broken_few i = at (is_pending past i) refl
    where
      at : (b : Bool) → is_pending past i ≡ b
          → count_by (breaks_of i) (still_open past) + cond (is_pending past i) 1 0 ≤ 1
      at true pending =
          omega (
            arith,
            ap {B = ℕ} (λ b. cond b 1 0) pending,
            count_by-none (breaks_of i) (still_open past)
                (All_each (λ x. breaks_of i x ≡ false) (still_open past) (λ x. none x (x.item.0 == i) refl)),
          )
        where
          none : (x : Queueing) (b : Bool) → (x.item.0 == i) ≡ b → breaks_of i x ≡ false
          none x true same =
              let its : is_pending past x.item.0 ≡ true = ap (is_pending past) (eqb-true x.item.0 i same) ∙ pending in
              grind (arith, its)
          none x false other = grind (arith, other)
      at false idle =
          omega (
            arith,
            ap {B = ℕ} (λ b. cond b 1 0) idle,
            one_run s past legal i,
            count_by-wider (breaks_of i) (is_run_of past i) (still_open past)
                (All_each (λ x. breaks_of i x ≡ true → is_run_of past i x ≡ true) (still_open past)
                (λ x h. grind arith)),
          )

  pending_covers : (i : ℕ) → count_by (is_unstarted past i) (still_open past) + cond (is_booked past i) 1 0
      ≤ cond (is_pending past i) 1 0
  pending_covers i = at (is_booked past i) (is_some (unstarted_queueing past i)) refl refl (few_pending s past i legal)
    where
      at : (a b : Bool) → is_booked past i ≡ a → is_some (unstarted_queueing past i) ≡ b
          → pending_count past i ≤ 1
          → pending_count past i ≤ cond (is_booked past i || is_some (unstarted_queueing past i)) 1 0
      at true b ha hb few = omega (arith, few, ap₂ {C = ℕ} (λ x y. cond (x || y) 1 0) ha hb)
      at false true ha hb few = omega (arith, few, ap₂ {C = ℕ} (λ x y. cond (x || y) 1 0) ha hb)
      at false false ha hb few =
          omega (
            arith,
            ap₂ {C = ℕ} (λ x y. cond (x || y) 1 0) ha hb,
            ap {B = ℕ} (λ x. cond x 1 0) ha,
            none_unstarted past i (not_idle past i (ap₂ (λ x y. x || y) ha hb)),
          )

  both_booked : (i : ℕ) → count_by (booked_for i) (filter (is_due past) (standing_bookings past))
      + count_by (booked_for i) (filter (is_later past) (standing_bookings past))
      ≡ count_by (booked_for i) (standing_bookings past)
  both_booked i =
      sum_by-filter_both (is_due past) (is_later past) (λ b. refl) (λ b. cond (booked_for i b) 1 0)
      (standing_bookings past)

  each_once : (rise : RisesBy number_booked (standing_bookings past)) (i : ℕ)
      → count_by (is_number i) (map item_queued (kept again past) ++ (map item_booked (overdue past)
      ++ map item_booked (later past))) ≤ 1
  each_once rise i =
      omega (
        arith,
        count_append (is_number i) (map item_queued (kept again past))
            (map item_booked (overdue past) ++ map item_booked (later past)),
        count_append (is_number i) (map item_booked (overdue past)) (map item_booked (later past)),
        ap (count_by (is_number i)) (map-append item_queued (broken_off again past) (waiting past)),
        count_append (is_number i) (map item_queued (broken_off again past)) (map item_queued (waiting past)),
        counted_queued i (is_broken_off again past),
        counted_queued i (has_not_started past),
        counted_due i,
        counted_booked i (is_later past),
        both_booked i,
        few_standing past i rise,
        waiting_few i,
        broken_few i,
        pending_covers i,
      )

-- ---- bookings rise by number

booking_number : (e : Entry) (n : ℕ) (b : Booking) → booking_of e n ≡ Some b → b.number ≡ n
booking_number e n b h = at (due_in e.reply) h
  where
    at : (o : Option ℕ) → option_and_then (booked_by e.call n) o ≡ Some b → b.number ≡ n
    at None h = cc
    at (Some d) h = (made_for e.call n d b h).number

pub bookings_below : (past : List Entry) → AllByRecursion (λ (b : Booking). b.number < length past) (bookings past)
unfolding bookings
bookings_below [] = tt
bookings_below (e ∷ past) =
    all_more (λ (b : Booking). b.number < length (e ∷ past)) (bookings past) (booking_of e (length past))
    (All_map (λ (b : Booking). b.number < length past) _ (bookings past) (λ b less. omega arith) (bookings_below past))
    (λ b is. omega (arith, booking_number e (length past) b is))

pub bookings_rise : (past : List Entry) → RisesBy number_booked (bookings past)
unfolding bookings
bookings_rise [] = tt
bookings_rise (e ∷ past) =
    rises_more number_booked (length past) (bookings past) (booking_of e (length past)) (bookings_rise past)
    (bookings_below past) (λ b is. booking_number e (length past) b is)

-- ---- the plan of a legal history is sound

place_there : (s : Layout) (i q c : ℕ) → i < s.items → q < length s.queues → c < s.cpus → has_place s i q c ≡ true
place_there s i q c hi hq hc = rw (lt-ltb i s.items hi, lt-ltb q (length s.queues) hq, lt-ltb c s.cpus hc) refl

kept_places : (s : Layout) (past : List Entry) (p : Queueing → Bool) → IsLegal s past
    → AllByRecursion (HasPlace s) (map asked (filter p (still_open past)))
kept_places s past p legal =
    all_mapped asked (HasPlace s) (filter p (still_open past))
    (all_in (λ x. HasPlace s (asked x)) (filter p (still_open past)) (λ x there.
    let k = open_there s past x legal (in_filter p (still_open past) x there).0 in
    place_there s x.item.0 x.place.queue.0 x.place.cpu.0 k.item k.queue k.cpu))

booked_places : (s : Layout) (past : List Entry) (p : Booking → Bool) → IsLegal s past
    → AllByRecursion (IsBookable s) (map (left_at (now past)) (filter p (standing_bookings past)))
booked_places s past p legal =
    all_mapped (left_at (now past)) (IsBookable s) (filter p (standing_bookings past))
    (all_in (λ b. IsBookable s (left_at (now past) b)) (filter p (standing_bookings past)) (λ b there.
    let k = standing_fits s past b legal (in_filter p (standing_bookings past) b there).0 in
    place_there s b.item.0 b.place.queue.0 b.place.cpu.0 k.item k.queue k.cpu))

pub some_left : (past : List Entry) → AllByRecursion (λ (b : Booking). 0 < b.due) (later past)
some_left past =
    all_mapped (left_at (now past)) (λ (b : Booking). 0 < b.due) (filter (is_later past) (standing_bookings past))
    (all_in (λ b. 0 < b.due - now past) (filter (is_later past) (standing_bookings past)) (λ b there.
    at b (cases_lt (now past) b.due) (in_filter (is_later past) (standing_bookings past) b there).1))
  where
    at : (b : Booking) → (now past < b.due) ⊎ (b.due ≤ now past) → is_later past b ≡ true → 0 < b.due - now past
    at b (inl less) h = omega arith
    at b (inr more) h = let due = le-leb b.due (now past) more in grind (arith, due)

-- ---- nothing is left on a queue that is gone

open_alive : (s : Layout) (past : List Entry) (x : Queueing) → IsLegal s past → In x (still_open past)
    → is_gone past x.place.queue.0 ≡ false
open_alive s past x legal there = at (is_gone past x.place.queue.0) refl
  where
    at : (b : Bool) → is_gone past x.place.queue.0 ≡ b → is_gone past x.place.queue.0 ≡ false
    at true h =
        absurd (both_ways _ (of_in (λ (y : Queueing). (y.place.queue.0 == x.place.queue.0) ≡ false) (still_open past) x
        (gone_stay_empty s past legal x.place.queue.0 h).0 there) (eq-eqb x.place.queue.0 x.place.queue.0 refl))
    at false h = h

booked_alive : (s : Layout) (past : List Entry) (x : Booking) → IsLegal s past → In x (standing_bookings past)
    → is_gone past x.place.queue.0 ≡ false
booked_alive s past x legal there = at (is_gone past x.place.queue.0) refl
  where
    at : (b : Bool) → is_gone past x.place.queue.0 ≡ b → is_gone past x.place.queue.0 ≡ false
    at true h =
        absurd (both_ways _ ((gone_stay_empty s past legal x.place.queue.0 h).1 x.item.0 x (standing_is past x there))
        (eq-eqb x.place.queue.0 x.place.queue.0 refl))
    at false h = h

pub not_among : (p : ℕ → Bool) (q : ℕ) (qs : List ℕ) → p q ≡ false → list_any (is_number q) (filter p qs) ≡ false
not_among p q [] h = refl
not_among p q (r ∷ rs) h = at (p r) refl (not_among p q rs h)
  where
    at : (b : Bool) → p r ≡ b → list_any (is_number q) (filter p rs) ≡ false
        → list_any (is_number q) (cond b (r ∷ filter p rs) (filter p rs)) ≡ false
    at true is none =
        ap₂ (λ x y. x || y) (ne_eqb r q (λ same. both_ways _ h (ap p (sym same) ∙ is))) none
    at false is none = none

kept_alive : (s : Layout) (past : List Entry) (p : Queueing → Bool) → IsLegal s past
    → AllByRecursion (IsAlive (gone_queues s past)) (map asked (filter p (still_open past)))
kept_alive s past p legal =
    all_mapped asked (IsAlive (gone_queues s past)) (filter p (still_open past))
    (all_in (λ x. IsAlive (gone_queues s past) (asked x)) (filter p (still_open past)) (λ x there.
    not_among (is_gone past) x.place.queue.0 (range_with_len 0 (length s.queues))
    (open_alive s past x legal (in_filter p (still_open past) x there).0)))

booked_on_alive : (s : Layout) (past : List Entry) (p : Booking → Bool) → IsLegal s past
    → AllByRecursion (IsBookedAlive (gone_queues s past)) (map (left_at (now past)) (filter p (standing_bookings past)))
booked_on_alive s past p legal =
    all_mapped (left_at (now past)) (IsBookedAlive (gone_queues s past)) (filter p (standing_bookings past))
    (all_in (λ b. IsBookedAlive (gone_queues s past) (left_at (now past) b)) (filter p (standing_bookings past))
    (λ b there. not_among (is_gone past) b.place.queue.0 (range_with_len 0 (length s.queues))
    (booked_alive s past b legal (in_filter p (standing_bookings past) b there).0)))

pub old_sound : (s : Layout) (again : ℕ → Bool) (past : List Entry) → is_layout s ≡ true → IsLegal s past
    → IsSound s (max_active s past) (gone_queues s past) (kept again past) (overdue past) (later past)
old_sound s again past ok legal =
    record {
      gone_there =
          All_filter (λ q. q < length s.queues) (is_gone past) (range_with_len 0 (length s.queues))
          (All_map (λ q. q < 0 + length s.queues) (λ q. is_gone past q ≡ true → q < length s.queues)
          (range_with_len 0 (length s.queues)) (λ q less gone. omega arith) (range_below 0 (length s.queues)));
      gone_apart =
          apart_counted (gone_queues s past) (λ i. omega (
            arith,
            fewer_kept (is_number i) (is_gone past) (range_with_len 0 (length s.queues)),
            once_among 0 (length s.queues) i,
          ));
      alive =
          All_append (IsAlive (gone_queues s past)) (broken_off again past) (waiting past)
          (kept_alive s past (is_broken_off again past) legal) (kept_alive s past (has_not_started past) legal);
      due_alive =
          all_mapped (left_at (now past)) (IsBookedAlive (gone_queues s past))
          (by_due (filter (is_due past) (standing_bookings past)))
          (all_by_due (λ b. IsBookedAlive (gone_queues s past) (left_at (now past) b))
          (filter (is_due past) (standing_bookings past))
          (mapped_all (left_at (now past)) (IsBookedAlive (gone_queues s past))
          (filter (is_due past) (standing_bookings past)) (booked_on_alive s past (is_due past) legal)));
      later_alive = booked_on_alive s past (is_later past) legal;
      narrow = λ q less. widths_wide s past q ok legal less;
      beyond = λ q more. widths_beyond s past q legal more;
      places =
          All_append (HasPlace s) (broken_off again past) (waiting past)
          (kept_places s past (is_broken_off again past) legal)
          (kept_places s past (has_not_started past) legal);
      due_places =
          all_mapped (left_at (now past)) (IsBookable s) (by_due (filter (is_due past) (standing_bookings past)))
          (all_by_due (λ b. IsBookable s (left_at (now past) b)) (filter (is_due past) (standing_bookings past))
          (mapped_all (left_at (now past)) (IsBookable s) (filter (is_due past) (standing_bookings past))
          (booked_places s past (is_due past) legal)));
      later_places = booked_places s past (is_later past) legal;
      later = some_left past;
      apart =
          apart_counted
          (map item_queued (kept again past) ++ (map item_booked (overdue past) ++ map item_booked (later past)))
          (each_once s again past legal
          (rises_filter number_booked (stands past) (bookings past) (bookings_rise past)));
    }
