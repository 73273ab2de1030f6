-- What is gathered is open, unended or booked.
use Rattle.std.proofs.Common.{ℕ, suc, ◌≡◌, ◌==◌, ◌+◌, ◌<◌, ◌≤◌, ◌&&◌, Bool, true, false, List, [], ◌∷◌, ◌++◌, length}
use Rattle.std.proofs.Common.{find, map, Option, Some, None, option_to_list, ap, sym, ◌∙◌, refl, arith, ⊎_elim, inl}
use Rattle.std.proofs.Common.{inr}
use Rattle.std.specs.Prelude.{All, Contains, option_map, option_and_then, slice_get}
use Rattle.std.proofs.Common.{take, append_assoc, ◌-◌}
use Rattle.std.proofs.lemmas.List.{length_push, take_all, take_more}
use Rattle.std.specs.List.{flat_map, range_with_len}
use Rattle.std.specs.Option.{option_or}
use Rattle.std.proofs.lemmas.Bool.{and_parts, cond_both, eqb-true}
use Rattle.std.proofs.lemmas.List.Elements.{All-from_recursion}
use Rattle.std.proofs.lemmas.Option.{get_or_from_slice_get, same_Some, slice_get-get_or, slice_get_within}
use Rattle.std.proofs.lemmas.Bool.{cases_lt}
use Rattle.cmwq_lemmas.proofs.Members.{In, all_in, contained_in, filter_in, found, in_append, in_contained, in_filter}
use Rattle.cmwq_lemmas.proofs.Members.{in_at, in_option, of_in}
use Rattle.cmwq_model.specs.Prelude.{IsLegal, Layout, booked_by, booking_of, due_in, is_at, is_live, is_of_item}
use Rattle.cmwq_model.specs.Prelude.{has_number, item_fired, queueing_at, item_run, past_of, settles, still_open}
use Rattle.cmwq_model.specs.Prelude.{unended_tickets, is_unstarted, unstarted_queueing, worklist}
use Rattle.cmwq_model.specs.Bookings.{booking}
use Rattle.cmwq_model.specs.Queueings.{queueings}
use Rattle.cmwq_model.specs.declared.entry.Entry.{Entry}
use Rattle.cmwq_model.specs.declared.call.Call.{Call}
use Rattle.cmwq_model.specs.declared.call.Call.TheVariants as call
use Rattle.cmwq_model.specs.declared.id.ItemId.{ItemId}
use Rattle.cmwq_model.specs.declared.id.PoolId.{PoolId}
use Rattle.cmwq_model.specs.declared.id.QueueId.{QueueId}
use Rattle.cmwq_model.specs.declared.record.Booking.{Booking}
use Rattle.cmwq_model.specs.declared.record.Queueing.{Queueing}
use Rattle.cmwq_model.specs.declared.record.Start.{Start}
use Rattle.cmwq_model.specs.declared.record.Ticket.{Ticket}
use Rattle.cmwq_timer.specs.declared.timer.Timer.{Timer}
use Rattle.cmwq_theory_steps.proofs.Standing.{made_for}
use Rattle.cmwq_theory_steps.proofs.EndsAsTold.{runs_are_queueings}
use Rattle.cmwq_refinement.specs.Tickets.{tickets_held}
use Rattle.cmwq_refinement.specs.Timers.{timer_for, timer_row}
use Rattle.cmwq_state.specs.Flights.{run_open}
use Rattle.cmwq_refinement.proofs.PlacesFit.{open_there}
use Rattle.cmwq_refinement.proofs.PoolReads.{IsOnList, worklist_has}
use Rattle.cmwq_key.specs.Keys.{told_flush}
use Rattle.cmwq_key.specs.Numbered.{Gathered, each_of, gathered, running_in, tickets_in, unstarted_in}

-- ---- what each of some has

pub in_rows : {A : Type 0} (f : ℕ → List A) (ks : List ℕ) (x : A) → In x (flat_map f ks) → (k : ℕ) × In k ks
    × In x (f k)
in_rows f [] x i = absurd i
in_rows f (k ∷ ks) x i =
    ⊎_elim (λ here. (k, inl refl, here)) (λ later. let r = in_rows f ks x later in (r.0, inr r.1, r.2))
    (in_append (f k) (flat_map f ks) x i)

pub in_each : {A : Type 0} (f : ℕ → Option A) (n : ℕ) (x : A) → In x (each_of f n) → (k : ℕ) × (f k ≡ Some x)
in_each f n x i =
    let r = in_rows (λ k. option_to_list (f k)) (range_with_len 0 n) x i in (r.0, in_option (f r.0) x r.2)

-- ---- queueings

pub unstarted_open : (past : List Entry) (i : ℕ) (x : Queueing) → unstarted_queueing past i ≡ Some x
    → In x (still_open past) × (is_unstarted past i x ≡ true)
unstarted_open past i x is = found (is_unstarted past i) (still_open past) x is

pub run_is_open : (s : Layout) (past : List Entry) (i : ℕ) (x : Queueing) → IsLegal s past → run_open past i ≡ Some x
    → In x (still_open past)
run_is_open s past i x legal is = by (item_run past i) refl is
  where
    by : (o : Option Start) → item_run past i ≡ o → option_and_then (λ (start : Start). queueing_at past start.number) o
        ≡ Some x → In x (still_open past)
    by None none h = cc
    by (Some start) runs h =
        let r = runs_are_queueings s past legal i start runs in
        let same : r.queueing ≡ x = same_Some r.queueing x (sym r.found ∙ h) in
        filter_in (is_live past) (queueings past) x (found (has_number start.number) (queueings past) x h).0
        (ap (is_live past) (sym same) ∙ r.live)

pub all_unstarted_open : (s : Layout) (past : List Entry)
    → All (λ x. Contains (still_open past) x) (unstarted_in s past)
all_unstarted_open s past =
    All-from_recursion (λ x. Contains (still_open past) x) (unstarted_in s past)
    (all_in (λ x. Contains (still_open past) x) (unstarted_in s past)
    (λ x i. let r = in_each (unstarted_queueing past) s.items x i in
    in_contained (still_open past) x (unstarted_open past r.0 x r.1).0))

pub all_running_open : (s : Layout) (past : List Entry) → IsLegal s past
    → All (λ x. Contains (still_open past) x) (running_in s past)
all_running_open s past legal =
    All-from_recursion (λ x. Contains (still_open past) x) (running_in s past)
    (all_in (λ x. Contains (still_open past) x) (running_in s past)
    (λ x i. let r = in_each (run_open past) s.items x i in
    in_contained (still_open past) x (run_is_open s past r.0 x legal r.1)))

-- ---- tickets

pub all_tickets_unended : (s : Layout) (past : List Entry)
    → All (λ t. Contains (unended_tickets past) t) (tickets_in s past)
all_tickets_unended s past =
    All-from_recursion (λ t. Contains (unended_tickets past) t) (tickets_in s past)
    (all_in (λ t. Contains (unended_tickets past) t) (tickets_in s past)
    (λ t i. let r = in_rows (tickets_held (unended_tickets past)) (range_with_len 0 s.callers) t i in
    in_contained (unended_tickets past) t (in_filter _ (unended_tickets past) t r.2).0))

-- ---- bookings

booked_of : (e : Entry) (n i : ℕ) (b : Booking) → booking_of e n ≡ Some b → is_of_item i e ≡ true → b.item.0 ≡ i
booked_of e n i b is of = by (due_in e.reply) is
  where
    by : (o : Option ℕ) → option_and_then (booked_by e.call n) o ≡ Some b → b.item.0 ≡ i
    by None h = cc
    by (Some d) h =
        let f = made_for e.call n d b h in
        let own = ap (λ o. is_at (option_or o (item_fired e.reply)) i) f.item in
        eqb-true b.item.0 i (sym own ∙ of)

-- an item's booking is of the item
pub booking_item : (past : List Entry) (i : ℕ) (b : Booking) → booking past i ≡ Some b → b.item.0 ≡ i
unfolding booking
booking_item [] i b h = cc
booking_item (e ∷ past) i b h =
    cond_both (settles e.reply && is_of_item i e) (booking_of e (length past)) (booking past i)
    (λ o. o ≡ Some b → b.item.0 ≡ i)
    (λ settled is. booked_of e (length past) i b is (and_parts (settles e.reply) (is_of_item i e) settled).1)
    (λ kept is. booking_item past i b is) h

pub timer_booking : (past : List Entry) (i : ItemId) (t : Timer) → timer_row past i.0 ≡ Some t
    → Some (record { item = i; place = t.place; due = t.due; number = t.number }) ≡ booking past i.0
timer_booking past i t is = by (booking past i.0) refl
  where
    by : (o : Option Booking) → booking past i.0 ≡ o
        → Some (record { item = i; place = t.place; due = t.due; number = t.number }) ≡ booking past i.0
    by None none = let h = rw none at is in cc
    by (Some b) some =
        let h = rw some at is in
        let same : t ≡ timer_for b = sym (same_Some (timer_for b) t h) in
        let item : b.item ≡ i = ap (λ n. record { 0 = n }) (booking_item past i.0 b some) in
        ap (λ (u : Timer). Some (record { item = i; place = u.place; due = u.due; number = u.number })) same
        ∙ ap (λ (j : ItemId). Some (record { item = j; place = b.place; due = b.due; number = b.number })) (sym item)
        ∙ sym some

-- ---- of what was gathered

pub gathered_unstarted : (s : Layout) (past : List Entry) (g : Gathered) → g ≡ gathered s past
    → All (λ x. Contains (still_open past) x) g.unstarted
unfolding gathered
gathered_unstarted s past g is = rw is (all_unstarted_open s past)

pub gathered_running : (s : Layout) (past : List Entry) (g : Gathered) → IsLegal s past → g ≡ gathered s past
    → All (λ x. Contains (still_open past) x) g.running
unfolding gathered
gathered_running s past g legal is = rw is (all_running_open s past legal)

pub gathered_tickets : (s : Layout) (past : List Entry) (g : Gathered) → g ≡ gathered s past
    → All (λ t. Contains (unended_tickets past) t) g.tickets
unfolding gathered
gathered_tickets s past g is = rw is (all_tickets_unended s past)

-- of a call that is no flush nothing more is told
pub no_flush : (past : List Entry) (g : Gathered) (t : Ticket) (c : Call) → ((q : QueueId) → c ≡ call.Flush q → ⊥)
    → told_flush past g t c ≡ []
unfolding told_flush
no_flush past g t (call.Flush q) never = absurd (never q refl)
no_flush past g t c never = refl

-- ---- one more of a list is taken

pub one_taken : {A : Type 0} (xs : List A) (n : ℕ) (x : A) → slice_get xs n ≡ Some x
    → take (n + 1) xs ≡ take n xs ++ x ∷ []
one_taken xs n x is =
    let less = slice_get_within xs n x is in
    take_more xs n x less ∙ ap (λ y. take n xs ++ y ∷ []) (get_or_from_slice_get xs n x x is)

some_there : {A : Type 0} (xs : List A) (n : ℕ) → slice_get xs n ≡ None → n < length xs → ⊥
some_there [] n none less = omega arith
some_there (x ∷ xs) n none less = let h = slice_get-get_or (x ∷ xs) n x less in cc

pub all_taken : {A : Type 0} (xs : List A) (n : ℕ) → slice_get xs n ≡ None → take n xs ≡ xs
all_taken xs n none =
    ⊎_elim (λ less. absurd (some_there xs n none less)) (λ over. take_all n xs over)
    (cases_lt n (length xs))

-- ---- a caller's tickets are added one by one

pub row_goes_on : {A : Type 0} (before list new held : List A) (m b : ℕ) (t : A) → b ≡ length before → b ≤ length list
    → list ≡ before ++ take (length list - b) held → m ≡ length list → slice_get held (m - b) ≡ Some t
    → new ≡ list ++ t ∷ []
    → (b ≡ length before) × (b ≤ length new) × (new ≡ before ++ take (length new - b) held)
row_goes_on before list new held m b t is within so_far long one more =
    let longer : length new ≡ length list + 1 = ap length more ∙ length_push list t in
    let next : length new - b ≡ (length list - b) + 1 = omega arith in
    let here : slice_get held (length list - b) ≡ Some t = ap (λ k. slice_get held (k - b)) (sym long) ∙ one in (
      is,
      omega arith,
      more ∙ ap (λ xs. xs ++ t ∷ []) so_far ∙ append_assoc before (take (length list - b) held) (t ∷ [])
          ∙ ap (λ xs. before ++ xs) (sym (one_taken held (length list - b) t here) ∙ ap (λ k. take k held) (sym next)),
    )

pub row_ends : {A : Type 0} (before list held : List A) (m b : ℕ) → list ≡ before ++ take (length list - b) held
    → m ≡ length list → slice_get held (m - b) ≡ None → list ≡ before ++ held
row_ends before list held m b so_far long none =
    so_far
    ∙ ap (λ xs. before ++ xs) (all_taken held (length list - b) (ap (λ k. slice_get held (k - b)) (sym long) ∙ none))

-- ---- and so are the queueings of a worklist

pub listing_goes_on : {A : Type 0} (all list new : List A) (x : A) → list ≡ take (length list) all
    → slice_get all (length list) ≡ Some x → new ≡ list ++ x ∷ []
    → (new ≡ take (length new) all) × (length new ≡ length list + 1)
listing_goes_on all list new x so_far here more =
    let longer : length new ≡ length list + 1 = ap length more ∙ length_push list x in (
      more ∙ ap (λ xs. xs ++ x ∷ []) so_far
          ∙ sym (ap (λ k. take k all) longer ∙ one_taken all (length list) x here),
      longer,
    )

-- what is listed is of an item that there is
pub listed_there : (s : Layout) (past : List Entry) (p : PoolId) (k : ℕ) (x : Queueing) → IsLegal s past
    → slice_get (worklist s past p) k ≡ Some x → x.item.0 < s.items
listed_there s past p k x legal here =
    let less = slice_get_within (worklist s past p) k x here in
    let i = in_at (worklist s past p) k x less (get_or_from_slice_get (worklist s past p) k x x here) in
    (open_there s past x legal (of_in (IsOnList s past p) (worklist s past p) x (worklist_has s past p) i).stands).item
