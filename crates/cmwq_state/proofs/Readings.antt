-- What a book reads off its parts is what the definitions say.
use Rattle.cmwq_state.specs.Common.{◌≡◌, ℕ, ◌<◌, Bool, true, false, not, ◌||◌, ◌==◌, List, [], ◌∷◌, length, map, find}
use Rattle.cmwq_state.specs.Common.{cond, Option, Some, None, is_some, refl, sym, ap, ap₂, ◌∙◌, subst, nat_le}
use Rattle.cmwq_state.specs.Common.{option_map_or, option_and_then, option_map, Who, Worker, Entry, Queueing, Booking}
use Rattle.cmwq_state.specs.Common.{Start, Layout, is_at, item_at, booking, run, item_run, unstarted_queueing}
use Rattle.cmwq_state.specs.Common.{queueing_at, queue_of, runs_elsewhere, still_open, is_item_open, is_of, IsLegal}
use Rattle.cmwq_state.specs.Common.{queueings, is_live, has_number, unended_tickets, ticket_of, is_ticket, is_crowded}
use Rattle.cmwq_state.specs.Common.{is_held_by, queueing_run, runs_are_queueings, in_standing, standing_fits, timer_row}
use Rattle.cmwq_state.specs.Common.{timer_for, filter, ◌++◌, option_to_list, same_Some, count_by-none, none_found}
use Rattle.cmwq_state.specs.Common.{found_known, found_number, runs_are_items, Task, number_of_queueing, task_for}
use Rattle.cmwq_state.specs.Common.{run_task, found, filter_in, open_there, Flight, flight_at, flight_of, flights_of}
use Rattle.cmwq_state.specs.Common.{flights_for_items}
use Rattle.cmwq_model.specs.declared.id.WorkerId.{WorkerId}
use Rattle.cmwq_timer.specs.declared.timer.Timer.{Timer}
use Rattle.cmwq_refinement.proofs.ItemNumbers.{run_then_unstarted}
use Rattle.cmwq_refinement.proofs.FlightRefine.{row_of as flight_row}
use Rattle.cmwq_state.specs.Flights.{run_open}
use Rattle.cmwq_lemmas.proofs.Truth.{and_false}
use Rattle.cmwq_lemmas.proofs.Lists.{All_each}

pub some_mapped : {X Y : Type 0} (f : X → Y) (o : Option X) → is_some (option_map f o) ≡ is_some o
some_mapped f None = refl
some_mapped f (Some x) = refl

-- what is in flight of an item
pub flight_there : (s : Layout) (past : List Entry) (rows : List Flight) (i : ℕ) → rows ≡ flights_of s past
    → i < s.items → i < length rows
flight_there s past rows i are here = rw (are, flights_for_items s past) here

pub flight_read : (s : Layout) (past : List Entry) (rows : List Flight) (i : ℕ) → rows ≡ flights_of s past → i < s.items
    → flight_at rows i ≡ flight_of past i
flight_read s past rows i are here = ap (λ (all : List Flight). flight_at all i) are ∙ flight_row s past i here

-- the queue of an item's run
pub elsewhere : (s : Layout) (past : List Entry) (i q : ℕ) → IsLegal s past
    → option_map_or (λ (x : Queueing). not (x.place.queue.0 == q)) (run_open past i) false ≡ runs_elsewhere past i q
elsewhere s past i q legal = by (item_run past i) refl
  where
    by : (o : Option Start) → item_run past i ≡ o
        → option_map_or (λ (x : Queueing). not (x.place.queue.0 == q))
        (option_and_then (λ (t : Start). queueing_at past t.number) o) false
        ≡ option_map_or (λ (t : Start). not (is_at (queue_of past t.number) q)) o false
    by None h = refl
    by (Some t) h = let r = runs_are_queueings s past legal i t h in
        ap (λ o. option_map_or (λ (x : Queueing). not (x.place.queue.0 == q)) o false) r.found
        ∙ sym (ap (λ o. not (is_at (option_map (λ (x : Queueing). x.place.queue.0) o) q)) r.found)

pub elsewhere_none : (s : Layout) (past : List Entry) (i q : ℕ) → IsLegal s past → run_open past i ≡ None
    → false ≡ runs_elsewhere past i q
elsewhere_none s past i q legal none =
    ap (λ o. option_map_or (λ (x : Queueing). not (x.place.queue.0 == q)) o false) (sym none)
    ∙ elsewhere s past i q legal

-- ---- tickets

pub no_ticket : (past : List Entry) {who : Who} {w : WorkerId} (n : ℕ) → who ≡ Worker w → None ≡ ticket_of past who n
no_ticket past {who} {w} n h =
    rw h (sym
    (none_found (is_ticket (Worker w) n) (unended_tickets past)
    (All_each (λ t. is_ticket (Worker w) n t ≡ false) (unended_tickets past) (λ t. and_false (t.number == n)))))

pub not_crowded : (past : List Entry) {who : Who} {w : WorkerId} → who ≡ Worker w → false ≡ is_crowded past who
not_crowded past {who} {w} h =
    rw h (sym
    (ap (nat_le 64)
    (count_by-none (is_held_by (Worker w)) (unended_tickets past)
    (All_each (λ t. is_held_by (Worker w) t ≡ false) (unended_tickets past) (λ t. refl)))))

-- ---- an item is open where it runs or has an unstarted queueing

abbrev has_any : List ℕ → Bool
has_any [] = false
has_any (n ∷ ns) = true

found_has_any : (p : Queueing → Bool) (xs : List Queueing)
    → is_some (find p xs) ≡ has_any (map number_of_queueing (filter p xs))
found_has_any p [] = refl
found_has_any p (x ∷ xs) = by (p x) (found_has_any p xs)
  where
    by : (b : Bool) → is_some (find p xs) ≡ has_any (map number_of_queueing (filter p xs))
        → is_some (cond b (Some x) (find p xs))
        ≡ has_any (map number_of_queueing (cond b (x ∷ filter p xs) (filter p xs)))
    by true h = refl
    by false h = h

either_has_any : (a b : Option ℕ) → has_any (option_to_list a ++ option_to_list b) ≡ (is_some a || is_some b)
either_has_any None None = refl
either_has_any None (Some n) = refl
either_has_any (Some m) b = refl

pub run_some : (s : Layout) (past : List Entry) (i : ℕ) → IsLegal s past
    → is_some (run_open past i) ≡ is_some (option_map (λ (t : Start). t.number) (item_run past i))
run_some s past i legal = by (item_run past i) refl
  where
    by : (o : Option Start) → item_run past i ≡ o
        → is_some (option_and_then (λ (t : Start). queueing_at past t.number) o)
        ≡ is_some (option_map (λ (t : Start). t.number) o)
    by None h = refl
    by (Some t) h = let r = runs_are_queueings s past legal i t h in ap is_some r.found

pub open_as : (s : Layout) (past : List Entry) (i : ℕ) → IsLegal s past
    → (is_some (run_open past i) || is_some (unstarted_queueing past i)) ≡ is_item_open past i
open_as s past i legal =
    ap₂ (λ a b. a || b) (run_some s past i legal) (sym (some_mapped number_of_queueing (unstarted_queueing past i)))
    ∙ (sym (either_has_any (option_map (λ (t : Start). t.number) (item_run past i))
    (option_map number_of_queueing (unstarted_queueing past i)))
    ∙ (ap has_any (sym (run_then_unstarted s past i legal)) ∙ sym (found_has_any (is_of i) (still_open past))))

-- ---- what a worker's slot runs

pub record SlotRuns (s : Layout) (past : List Entry) (w : WorkerId) (t : Task) : Type 0 where
  pub item : t.item.0 < s.items
  pub run : run_open past t.item.0 ≡ queueing_run past (Worker w)

pub slot_runs : (s : Layout) (past : List Entry) (w : WorkerId) (t : Task) → IsLegal s past → run_task s past w ≡ Some t
    → SlotRuns s past w t
slot_runs s past w t legal h = by (run past w) refl h
  where
    by_found : (n : ℕ) → run past w ≡ Some n → (o : Option Queueing) → queueing_at past n ≡ o
        → option_map (task_for s) o ≡ Some t → SlotRuns s past w t
    by_found n is None at k = cc
    by_found n is (Some x) at k =
        let known = found_known past n x at in
        let number = found_number past n x at in
        let item : item_at past n ≡ Some x.item.0 = ap (item_at past) (sym number) ∙ known.item in
        let starts = runs_are_items s past w n x.item.0 legal is item in
        let r = runs_are_queueings s past legal x.item.0 (record { worker = w; number = n }) starts in
        let same : r.queueing ≡ x = same_Some r.queueing x (sym r.found ∙ at) in
        let live : is_live past x ≡ true = ap (is_live past) (sym same) ∙ r.live in
        let stands = filter_in (is_live past) (queueings past) x (found (has_number n) (queueings past) x at).0 live in
        let task : task_for s x ≡ t = same_Some (task_for s x) t k in
        let of_task : x.item.0 ≡ t.item.0 = ap (λ (u : Task). u.item.0) task in
        record {
          item = subst (λ i. i < s.items) of_task (open_there s past x legal stands).item;
          run = ap (run_open past) (sym of_task)
              ∙ (ap (option_and_then (λ (u : Start). queueing_at past u.number)) starts
              ∙ sym (ap (option_and_then (queueing_at past)) is));
        }

    by : (o : Option ℕ) → run past w ≡ o → option_map (task_for s) (option_and_then (queueing_at past) (run past w))
        ≡ Some t → SlotRuns s past w t
    by None is k = let bad : None ≡ Some t =
        sym (ap (λ o. option_map (task_for s) (option_and_then (queueing_at past) o)) is) ∙ k in cc
    by (Some n) is k =
        by_found n is (queueing_at past n) refl
        (sym (ap (λ o. option_map (task_for s) (option_and_then (queueing_at past) o)) is) ∙ k)

-- ---- bookings

pub timer_there : (s : Layout) (past : List Entry) (i : ℕ) (t : Timer) → IsLegal s past → timer_row past i ≡ Some t
    → t.place.queue.0 < length s.queues
timer_there s past i t legal h = by (booking past i) refl h
  where
    by : (o : Option Booking) → booking past i ≡ o → option_map timer_for o ≡ Some t → t.place.queue.0 < length s.queues
    by None is k = cc
    by (Some b) is k =
        subst (λ (u : Timer). u.place.queue.0 < length s.queues) (same_Some (timer_for b) t k)
        (standing_fits s past b legal (in_standing past i b is)).queue
