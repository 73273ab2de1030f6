-- Runs, queueings and bookings of one item keep together: on one queue, and in one pool.
use Rattle.cmwq_theory_steps.specs.Common.{booking_of, item_of, place_called, ◌≡◌, ◌==◌, ℕ, Bool, true, false, not}
use Rattle.cmwq_theory_steps.specs.Common.{◌&&◌, List, [], ◌∷◌, ◌++◌, length, filter, Option, Some, None}
use Rattle.cmwq_theory_steps.specs.Common.{option_to_list, refl, sym, ap, ap₂, ◌∙◌, subst, arith, option_map}
use Rattle.cmwq_theory_steps.specs.Common.{option_and_then, is_some, if◌then◌else◌, option_or, option_map_or}
use Rattle.cmwq_theory_steps.specs.Common.{AllByRecursion, eq-eqb, eqb-true, PoolId, WorkerId, Who, Reply, Entry}
use Rattle.cmwq_theory_steps.specs.Common.{Booking, Place, Queueing, Start, Layout, pool_at, queue_at, is_at, same_pool}
use Rattle.cmwq_theory_steps.specs.Common.{item_fired, is_of_item, item_at, settles, due_in, booked_by, booking}
use Rattle.cmwq_theory_steps.specs.Common.{number_started, starts, is_started, run, item_start, item_run, start_in}
use Rattle.cmwq_theory_steps.specs.Common.{starts_item, queueings, queue_of, has_number, is_live, still_open, opening}
use Rattle.cmwq_theory_steps.specs.Common.{opens, queued_at, place_wanted, cpu_for, is_unstarted, unstarted_queueing}
use Rattle.cmwq_theory_steps.specs.Common.{runs_elsewhere, IsLegal, All_map, All_unfilter, All_append, All_filter}
use Rattle.cmwq_theory_steps.proofs.Joined.{active_live, listed_live}
use Rattle.cmwq_model.specs.declared.reply.Reply.TheVariants as reply
use Rattle.cmwq_theory_steps.specs.Endings.{survives}
use Rattle.cmwq_theory_steps.specs.RunSteps.{ends_run}
use Rattle.cmwq_theory_steps.specs.Pools.{IsRunIn}
use Rattle.std.proofs.Common.{subst₂}
use Rattle.std.proofs.lemmas.Bool.{and_parts, false_from_ne_true, not-false}
use Rattle.std.proofs.lemmas.Option.{same_Some}
use Rattle.cmwq_lemmas.proofs.Members.{all_in, in_option}
use Rattle.cmwq_theory_steps.proofs.RunsActive.{run_is_active, found_known}
use Rattle.cmwq_theory_steps.proofs.Activated.{find_holds}
use Rattle.cmwq_theory_steps.proofs.Entries.{is_at-true}
use Rattle.cmwq_theory_steps.proofs.ItemRuns.{flags_same}
use Rattle.cmwq_theory_steps.proofs.StartsListed.{queueing_at-older, starts_listed}
use Rattle.cmwq_theory_steps.proofs.Fresh.{unstarted_is}
use Rattle.cmwq_theory_steps.proofs.Endings.{open_go_on}
use Rattle.cmwq_theory_steps.proofs.ItemSteps.{StartsOf, starts_of, items_run_on, left_run, runs_its_item}
use Rattle.cmwq_theory_steps.proofs.Standing.{booking_after, made_for}
use Rattle.cmwq_theory_steps.proofs.Pending.{Settling, of_booking, of_call, one_unstarted, booked_or_unstarted}
use Rattle.cmwq_theory_steps.proofs.Pending.{opening_opens, opens_settles, opens_undue, own_item, settling}
use Rattle.cmwq_theory_steps.proofs.StateSteps.{opens_as_asked}
use Rattle.cmwq_theory_steps.proofs.Causes.{IsFree, cause_of}

-- ---- a run is in the pool of its worker

pub same_pool-true : (p q : PoolId) → same_pool p q ≡ true → p ≡ q
same_pool-true p q h =
    let cpu : p.cpu.0 ≡ q.cpu.0 = eqb-true p.cpu.0 q.cpu.0 (grind arith) in
    let high : p.high ≡ q.high = flags_same p.high q.high (grind arith) in
    λ i. record { cpu = record { 0 = cpu i }; high = high i }

pub runs_are_in_pools : (s : Layout) (past : List Entry) (w : WorkerId) (n : ℕ) → IsLegal s past → run past w ≡ Some n
    → IsRunIn s past w n
runs_are_in_pools s past w n legal runs =
    let r = run_is_active s past w n legal runs in
    record {
      queueing = r.queueing;
      found = r.found;
      live = active_live s past r.queueing r.active;
      pool =
          same_pool-true (pool_at s r.queueing.place) w.pool r.pool;
    }

-- ---- what is open and not started is the item's unstarted queueing

pub unstarted_alone : (s : Layout) (past : List Entry) (i : ℕ) → IsLegal s past
    → AllByRecursion (λ x. is_unstarted past i x ≡ true → unstarted_queueing past i ≡ Some x) (still_open past)
unstarted_alone s past i legal =
    All_unfilter (λ x. unstarted_queueing past i ≡ Some x) (is_unstarted past i) (still_open past)
    (subst (AllByRecursion (λ x. unstarted_queueing past i ≡ Some x)) (sym (one_unstarted s past i legal))
    (all_in _ (option_to_list (unstarted_queueing past i)) (in_option (unstarted_queueing past i))))

-- ---- where what is opened or booked is placed: where the item is free, or where it was booked

pub data PlacedAt (past : List Entry) (who : Who) (i : ℕ) (p : Place) : Type 0 where
  freely : (t : ℕ) → IsFree past who i p.queue.0 t → PlacedAt past who i p
  as_booked : (b : Booking) → booking past i ≡ Some b → b.place ≡ p → PlacedAt past who i p

some_same : {A : Type 0} (a b : A) (o : Option A) → o ≡ Some a → o ≡ Some b → a ≡ b
some_same a b o h k = same_Some a b (sym h ∙ k)

pub opens_at : (s : Layout) (past : List Entry) (e : Entry) (i : ℕ) (p : Place) → IsLegal s (e ∷ past)
    → opens e.reply ≡ true → item_of e ≡ Some i → place_wanted past e.call i ≡ Some p → PlacedAt past e.who i p
opens_at s past e i p legal h item placed =
    of (settling s past e.who e.call e.reply (cause_of s past e legal) (opens_settles e.reply h))
  where
    wanted : (o : Option Booking) → booking past i ≡ o
        → option_or (place_called e.call) (option_map (λ (b : Booking). b.place) o) ≡ Some p
        → place_called e.call ≡ None → PlacedAt past e.who i p
    wanted None is k none = cc
    wanted (Some b) is k none = as_booked b is (some_same b.place p _ (ap (λ o. option_or o (Some b.place)) none) k)

    of : Settling past e.who e.call e.reply → PlacedAt past e.who i p
    of (of_call j t q own place free pending o) =
        let same = some_same j i (item_of e) (ap (λ o. option_or o (item_fired e.reply)) own) item in
        let there =
        some_same q p (place_wanted past e.call i)
        (ap (λ o. option_or o (option_map (λ (b : Booking). b.place) (booking past i))) place) placed in
        freely t (subst₂ (λ k (x : Place). IsFree past e.who k x.queue.0 t) same there free)
    of (of_booking j own none was due) = wanted (booking past i) refl placed none

pub record BooksFreely (past : List Entry) (who : Who) (i q : ℕ) : Type 0 where
  pub ticks : ℕ
  pub some : (ticks == 0) ≡ false
  pub free : IsFree past who i q ticks

pub books_at : (s : Layout) (past : List Entry) (e : Entry) (i n : ℕ) (b : Booking) → IsLegal s (e ∷ past)
    → settles e.reply ≡ true → is_of_item i e ≡ true → booking_of e n ≡ Some b
    → BooksFreely past e.who i b.place.queue.0
books_at s past e i n b legal h mine made =
    of (due_in e.reply) refl made (settling s past e.who e.call e.reply (cause_of s past e legal) h)
  where
    of : (o : Option ℕ) → due_in e.reply ≡ o → option_and_then (booked_by e.call n) o ≡ Some b
        → Settling past e.who e.call e.reply → BooksFreely past e.who i b.place.queue.0
    of None due k settled = cc
    of (Some d) due k (of_booking j own none was undue) = cc
    of (Some d) due k (of_call j t q own place free pending o) =
        let here = own_item i j e (ap (λ o. option_or o (item_fired e.reply)) own) mine in
        record {
          ticks = t;
          some = o ∙ false_from_ne_true _ (λ opens. let none = opens_undue e.reply opens in cc);
          free = subst₂ (λ m (x : Place). IsFree past e.who m x.queue.0 t) here
              (some_same q b.place _ place (made_for e.call n d b k).place) free;
        }

-- ---- what is unstarted after an entry was so before, or is opened by it

data Came (past : List Entry) (e : Entry) (i : ℕ) (x : Queueing) : Type 0 where
  earlier : unstarted_queueing past i ≡ Some x → Came past e i x
  at_once : opening past e ≡ Some x → Came past e i x

unstarted_came : (s : Layout) (past : List Entry) (e : Entry) (i : ℕ) (x : Queueing) → IsLegal s (e ∷ past)
    → unstarted_queueing (e ∷ past) i ≡ Some x → Came past e i x
unfolding IsLegal
unstarted_came s past e i x legal h =
    let f = find_holds (λ y. is_unstarted (e ∷ past) i y ≡ true → Came past e i y) (is_unstarted (e ∷ past) i)
    (still_open (e ∷ past)) x
    (subst (AllByRecursion (λ y. is_unstarted (e ∷ past) i y ≡ true → Came past e i y))
    (sym (open_go_on s past e legal)) all) h in
    f.holds f.passes
  where
    all : AllByRecursion (λ y. is_unstarted (e ∷ past) i y ≡ true → Came past e i y)
        (filter (survives past e) (still_open past) ++ option_to_list (opening past e))
    all = All_append _ (filter (survives past e) (still_open past)) (option_to_list (opening past e))
        (All_filter _ (survives past e) (still_open past)
        (All_map (λ y. is_unstarted past i y ≡ true → unstarted_queueing past i ≡ Some y) _ (still_open past)
        (λ y alone survivors new. earlier (alone (grind arith))) (unstarted_alone s past i legal.2)))
        (all_in _ (option_to_list (opening past e)) (λ y there new. at_once (in_option (opening past e) y there)))

-- ---- where an item runs, it is queued and booked

record KeepsTogether (past : List Entry) (i : ℕ) (start : Start) : Type 0 where
  booked : (b : Booking) → booking past i ≡ Some b → queue_of past start.number ≡ Some b.place.queue.0
  queued : (x : Queueing) → unstarted_queueing past i ≡ Some x → (queue_of past start.number ≡ Some x.place.queue.0)
      × (x.place.cpu ≡ start.worker.pool.cpu)

not_elsewhere : (past : List Entry) (i q : ℕ) (start : Start) → item_run past i ≡ Some start
    → runs_elsewhere past i q ≡ false → queue_of past start.number ≡ Some q
not_elsewhere past i q start runs h =
    is_at-true (queue_of past start.number) q
    (not-false _
    (sym (ap (λ (o : Option Start). option_map_or (λ (st : Start). not (is_at (queue_of past st.number) q)) o false)
    runs) ∙ h))

queue_of-older : (e : Entry) (past : List Entry) (n q : ℕ) → queue_of past n ≡ Some q → queue_of (e ∷ past) n ≡ Some q
queue_of-older e past n q h = grind (arith, queueing_at-older e past n)

-- an entry that starts the item's queueing leaves it neither booked nor queued
starting_quiet : (r : Reply) (n : ℕ) → number_started r ≡ Some n → (settles r ≡ false) × (opens r ≡ false)
starting_quiet (reply.Started m) n h = (refl, refl)
starting_quiet r n h = grind arith

pub started_was : (s : Layout) (past : List Entry) (e : Entry) (i n : ℕ) → IsLegal s (e ∷ past)
    → number_started e.reply ≡ Some n → item_at past n ≡ Some i → (y : Queueing) × (unstarted_queueing past i ≡ Some y)
    × (y.number ≡ n)
unfolding IsLegal
started_was s past e i n legal h item =
    let st = starts_listed s past e n legal (ap (λ o. is_at o n) h ∙ eq-eqb n n refl) in
    let known = found_known past n st.queueing st.found in
    let same = same_Some st.queueing.item.0 i (sym known.item ∙ ap (item_at past) st.number ∙ item) in
    let live = listed_live s past st.worker.pool st.queueing st.listed in
    let new : is_started past st.queueing.number ≡ false = grind arith in
    let waits : is_unstarted past i st.queueing ≡ true =
    ap₂ (λ a b. a && not b) (eq-eqb st.queueing.item.0 i same) new in
    let found =
    find_holds (λ x. is_live past x ≡ true → is_unstarted past i x ≡ true → unstarted_queueing past i ≡ Some x)
    (has_number n) (queueings past) st.queueing
    (All_unfilter _ (is_live past) (queueings past) (unstarted_alone s past i legal.2)) st.found in
    (st.queueing, found.holds live waits, st.number)

begun_together : (s : Layout) (past : List Entry) (e : Entry) (i : ℕ) (start : Start) → IsLegal s (e ∷ past)
    → starts_item past e i ≡ true → start_in e ≡ Some start → KeepsTogether (e ∷ past) i start
unfolding IsLegal
begun_together s past e i start legal is h = record {
  booked = λ b booked. absurd
      (not_booked b (sym (booking_after past e i false (ap (λ a. a && is_of_item i e) quiet.0)) ∙ booked));
  queued = λ x queued. absurd (not_queued x queued (unstarted_came s past e i x legal queued));
}
  where
    st : StartsOf past e i start
    st = starts_of past e i start is h

    quiet : (settles e.reply ≡ false) × (opens e.reply ≡ false)
    quiet = starting_quiet e.reply start.number st.number

    was : (y : Queueing) × (unstarted_queueing past i ≡ Some y) × (y.number ≡ start.number)
    was = started_was s past e i start.number legal st.number st.item

    not_booked : (b : Booking) → booking past i ≡ Some b → ⊥
    not_booked b booked = let none = booked_or_unstarted s past i legal.2 (ap is_some booked) in let some = was.1 in cc

    not_queued : (x : Queueing) → unstarted_queueing (e ∷ past) i ≡ Some x → Came past e i x → ⊥
    not_queued x queued (earlier before) =
        let new : is_started (e ∷ past) x.number ≡ false = (unstarted_is (e ∷ past) i x queued).not_started in
        let number : x.number ≡ start.number =
        ap (λ (y : Queueing). y.number) (let same : x ≡ was.0 = let some = was.1 in cc in same) ∙ was.2 in
        let starts_it : starts x.number e ≡ true = ap (λ o. is_at o x.number) st.number
        ∙ eq-eqb start.number x.number (sym number) in
        let started : is_started (e ∷ past) x.number ≡ true = grind arith in
        cc
    not_queued x queued (at_once opened) = let bad : true ≡ false = sym (opening_opens past e x opened) ∙ quiet.1 in cc

left_together : (s : Layout) (past : List Entry) (e : Entry) (i : ℕ) (start : Start) → IsLegal s (e ∷ past)
    → item_run past i ≡ Some start → KeepsTogether past i start → KeepsTogether (e ∷ past) i start
left_together s past e i start legal runs kept = record {
  booked = λ b h. queue_of-older e past start.number b.place.queue.0
      (books (settles e.reply && is_of_item i e) refl b h);
  queued = λ x h. let q = queues x h (unstarted_came s past e i x legal h) in
      (queue_of-older e past start.number x.place.queue.0 q.0, q.1);
}
  where
    books : (a : Bool) → (settles e.reply && is_of_item i e) ≡ a → (b : Booking) → booking (e ∷ past) i ≡ Some b
        → queue_of past start.number ≡ Some b.place.queue.0
    books true ha b h =
        let both = and_parts (settles e.reply) (is_of_item i e) ha in
        let made = sym (booking_after past e i true ha) ∙ h in
        not_elsewhere past i b.place.queue.0 start runs
        (books_at s past e i (length past) b legal both.0 both.1 made).free.not_foreign
    books false ha b h = kept.booked b (sym (booking_after past e i false ha) ∙ h)

    from_place : (p : Place) → PlacedAt past e.who i p → queue_of past start.number ≡ Some p.queue.0
    from_place p (freely t free) = not_elsewhere past i p.queue.0 start runs free.not_foreign
    from_place p (as_booked b booked same) = kept.booked b booked ∙ ap (λ (x : Place). Some x.queue.0) same

    queues : (x : Queueing) → unstarted_queueing (e ∷ past) i ≡ Some x → Came past e i x
        → (queue_of past start.number ≡ Some x.place.queue.0) × (x.place.cpu ≡ start.worker.pool.cpu)
    queues x h (earlier before) = kept.queued x before
    queues x h (at_once opened) =
        let item = (unstarted_is (e ∷ past) i x h).item in
        let shown = opening_opens past e x opened in
        let k = opens_as_asked s past e legal shown in
        let same = same_Some x (queued_at past k.item k.place) (sym opened ∙ k.opened) in
        let own : k.item ≡ i = sym (ap (λ (y : Queueing). y.item.0) same) ∙ item in (
          from_place k.place
              (subst (λ j. PlacedAt past e.who j k.place) own
              (opens_at s past e k.item k.place legal shown k.is_item k.is_place))
              ∙ ap (λ (y : Queueing). Some y.place.queue.0) (sym same),
          ap (λ (y : Queueing). y.place.cpu) same ∙ ap (λ j. cpu_for past j k.place.cpu) own
              ∙ ap (λ (r : Option Start). option_map_or (λ (st : Start). st.worker.pool.cpu) r k.place.cpu) runs,
        )

together : (s : Layout) (past : List Entry) (i : ℕ) (start : Start) → IsLegal s past → item_run past i ≡ Some start
    → KeepsTogether past i start
unfolding IsLegal item_start
together s [] i start legal h = cc
together s (e ∷ past) i start legal h =
    at (starts_item past e i) refl (sym (items_run_on s past e i legal) ∙ h) (together s past i start legal.2)
  where
    at : (b : Bool) → starts_item past e i ≡ b
        → (if b then start_in e else if ends_run e (item_run past i) then None else item_run past i) ≡ Some start
        → (item_run past i ≡ Some start → KeepsTogether past i start) → KeepsTogether (e ∷ past) i start
    at true is h until = begun_together s past e i start legal is h
    at false is h until = let was = left_run e (item_run past i) start h in
        left_together s past e i start legal was.0 (until was.0)

-- ---- the laws

pub booked_where_it_runs : (s : Layout) (past : List Entry) (i : ℕ) (start : Start) (b : Booking) → IsLegal s past
    → item_run past i ≡ Some start → booking past i ≡ Some b → queue_of past start.number ≡ Some b.place.queue.0
booked_where_it_runs s past i start b legal runs h = (together s past i start legal runs).booked b h

pub queued_where_it_runs : (s : Layout) (past : List Entry) (i : ℕ) (start : Start) (x : Queueing) → IsLegal s past
    → item_run past i ≡ Some start → unstarted_queueing past i ≡ Some x → pool_at s x.place ≡ start.worker.pool
queued_where_it_runs s past i start x legal runs h =
    let q = (together s past i start legal runs).queued x h in
    let r = runs_are_in_pools s past start.worker start.number legal (runs_its_item s past i start legal runs) in
    let queue =
    same_Some r.queueing.place.queue.0 x.place.queue.0
    (sym (ap (option_map (λ (y : Queueing). y.place.queue.0)) r.found) ∙ q.0) in
    let high : (queue_at s x.place.queue.0).high ≡ start.worker.pool.high = ap (λ n. (queue_at s n).high) (sym queue)
    ∙ ap (λ (p : PoolId). p.high) r.pool in
    λ i. record { cpu = q.1 i; high = high i }
