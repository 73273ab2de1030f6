-- What answers read is alike.
use Rattle.std.specs.Prelude.{◌&&◌, ◌||◌, ◌==◌, if◌then◌else◌, nat_le}
use Rattle.cmwq_alike.specs.Common.{◌≡◌, ℕ, Bool, false, not, nat_lt, List, [], ◌∷◌, filter, find, map, count_by}
use Rattle.cmwq_alike.specs.Common.{Option, Some, None, option_map, option_map_or, option_and_then, list_any, is_at}
use Rattle.cmwq_alike.specs.Common.{is_some}
use Rattle.cmwq_alike.specs.Common.{refl, sym, ap, ap₂, ◌∙◌, subst, count_by-same, find_same, All_each}
use Rattle.cmwq_alike.specs.Common.{all_in, of_in, In, in_mapped, in_map, Entry, Queueing, Start, Ticket, Booking}
use Rattle.cmwq_alike.specs.Common.{Layout, Who, Caller, Worker, WorkerId, PoolId}
use Rattle.cmwq_alike.specs.Common.{still_open, unended_tickets, standing_bookings, IsLegal, run, has_run, runs_awake}
use Rattle.cmwq_alike.specs.Common.{runs_asleep, item_run, item_runs, queue_of, run_queue, runs_elsewhere, is_booked}
use Rattle.cmwq_alike.specs.Common.{booking, is_pending, unstarted_queueing, is_unstarted, is_item_open, is_of}
use Rattle.cmwq_alike.specs.Common.{may_call, is_shut, is_cancelling, is_being_destroyed, is_crowded, is_held_by}
use Rattle.cmwq_alike.specs.Common.{is_startable, worklist, indices, worker_at, is_booked_on, is_held_back}
use Rattle.cmwq_model.specs.Prelude.{is_draining, is_holding, runs_on, is_cancel_sync_of, is_drain_of, is_destroy_of}
use Rattle.cmwq_model.specs.Prelude.{is_intensive, is_other_idle, is_reserve, is_idle, is_occupied, has_spare}
unfoldable use Rattle.cmwq_model.specs.Prelude.{first_due, next, runnable, enlisted_by, may_retire}
use Rattle.cmwq_model.specs.Prelude.{may_fire, is_soonest, soonest, is_due_before}
use Rattle.cmwq_alike.specs.Alike.{queueing_by, start_by, ticket_by, unnumbered, IsAlike, IsOpenNumber, number_of}
use Rattle.cmwq_theory_steps.proofs.Ended.{found_open}
use Rattle.cmwq_theory_steps.proofs.RunsActive.{run_is_active}
use Rattle.cmwq_theory_steps.proofs.Joined.{active_live}
use Rattle.cmwq_alike.proofs.Lemmas.{find_mapped, count_mapped, filter_mapped}
use Rattle.cmwq_alike.proofs.Rest.{held_by}
use Rattle.cmwq_alike.proofs.Runs.{item_run_open, found_open_number}

pub any_mapped : {X Y : Type 0} (g : X → Y) (p : Y → Bool) (q : X → Bool) (xs : List X)
    → ((x : X) → p (g x) ≡ q x) → list_any p (map g xs) ≡ list_any q xs
any_mapped g p q [] h = refl
any_mapped g p q (x ∷ xs) h = ap₂ (λ a b. a || b) (h x) (any_mapped g p q xs h)

pub mapped_some : {X Y : Type 0} (g : X → Y) (o : Option X) → is_some (option_map g o) ≡ is_some o
mapped_some g None = refl
mapped_some g (Some x) = refl

module _ {s : Layout} {f : ℕ → ℕ} {past other : List Entry} (a : IsAlike s f past other) (legal : IsLegal s past) where
  pub has_alike : (w : WorkerId) → has_run other w ≡ has_run past w
  has_alike w = ap is_some (a.runs w) ∙ mapped_some f (run past w)

  pub awake_alike : (w : WorkerId) → runs_awake other w ≡ runs_awake past w
  awake_alike w = ap₂ (λ b c. b && not c) (has_alike w) (a.sleepers w)

  pub asleep_alike : (w : WorkerId) → runs_asleep other w ≡ runs_asleep past w
  asleep_alike w = ap₂ (λ b c. b && c) (has_alike w) (a.sleepers w)

  pub may_alike : (who : Who) → may_call other who ≡ may_call past who
  may_alike (Caller c) = refl
  may_alike (Worker w) = awake_alike w

  -- ---- tickets
  tickets_pass : (p q : Ticket → Bool) → ((t : Ticket) → p (ticket_by f t) ≡ q t)
      → list_any p (unended_tickets other) ≡ list_any q (unended_tickets past)
  tickets_pass p q h = ap (list_any p) a.tickets ∙ any_mapped (ticket_by f) p q (unended_tickets past) h

  pub cancelling_alike : (i : ℕ) → is_cancelling other i ≡ is_cancelling past i
  cancelling_alike i = tickets_pass (is_cancel_sync_of i) (is_cancel_sync_of i) (λ t. refl)

  pub draining_alike : (q : ℕ) → is_draining other q ≡ is_draining past q
  draining_alike q = tickets_pass (is_drain_of q) (is_drain_of q) (λ t. refl)

  pub destroyed_alike : (q : ℕ) → is_being_destroyed other q ≡ is_being_destroyed past q
  destroyed_alike q = tickets_pass (is_destroy_of q) (is_destroy_of q) (λ t. refl)

  pub crowded_alike : (who : Who) → is_crowded other who ≡ is_crowded past who
  crowded_alike who =
      ap (λ n. nat_le 64 n)
      (ap (count_by (is_held_by who)) a.tickets
      ∙ count_mapped (ticket_by f) (is_held_by who) (is_held_by who) (unended_tickets past)
      (all_in _ (unended_tickets past) (λ t i. held_by f who t)))

  -- ---- items
  pub booked_alike : (i : ℕ) → is_booked other i ≡ is_booked past i
  booked_alike i = sym (mapped_some unnumbered (booking other i))
      ∙ (ap is_some (a.bookings i) ∙ mapped_some unnumbered (booking past i))

  pub held_back_alike : (i : ℕ) → is_held_back other i ≡ is_held_back past i
  held_back_alike i =
      sym (at other (booking other i))
      ∙ (ap (λ o. option_map_or (λ (b : Booking). is_draining other b.place.queue.0) o false) (a.bookings i)
      ∙ (at other (booking past i) ∙ each (booking past i)))
    where
      at : (p : List Entry) (o : Option Booking)
          → option_map_or (λ (b : Booking). is_draining p b.place.queue.0) (option_map unnumbered o) false
          ≡ option_map_or (λ (b : Booking). is_draining p b.place.queue.0) o false
      at p None = refl
      at p (Some b) = refl

      each : (o : Option Booking)
          → option_map_or (λ (b : Booking). is_draining other b.place.queue.0) o false
          ≡ option_map_or (λ (b : Booking). is_draining past b.place.queue.0) o false
      each None = refl
      each (Some b) = draining_alike b.place.queue.0

  pub unstarted_alike : (i : ℕ) → unstarted_queueing other i ≡ option_map (queueing_by f) (unstarted_queueing past i)
  unstarted_alike i =
      ap (find (is_unstarted other i)) a.opened
      ∙ find_mapped (queueing_by f) (is_unstarted other i) (is_unstarted past i) (still_open past)
      (all_in _ (still_open past) (λ x j. ap (λ b. (x.item.0 == i) && not b) (of_in _ (still_open past) x a.started j)))

  pub pending_alike : (i : ℕ) → is_pending other i ≡ is_pending past i
  pending_alike i = ap₂ (λ b c. b || c) (booked_alike i)
      (ap is_some (unstarted_alike i) ∙ mapped_some (queueing_by f) (unstarted_queueing past i))

  pub item_open_alike : (i : ℕ) → is_item_open other i ≡ is_item_open past i
  item_open_alike i =
      ap is_some (ap (find (is_of i)) a.opened
      ∙ find_mapped (queueing_by f) (is_of i) (is_of i) (still_open past)
      (all_in _ (still_open past) (λ x j. refl)))
      ∙ mapped_some (queueing_by f) (find (is_of i) (still_open past))

  pub item_runs_alike : (i : ℕ) → item_runs other i ≡ item_runs past i
  item_runs_alike i = ap is_some (a.item_runs i) ∙ mapped_some (start_by f) (item_run past i)

  -- ---- the queue of an open queueing
  pub queue_alike : (n : ℕ) → IsOpenNumber past n → queue_of other (f n) ≡ queue_of past n
  queue_alike n h = known (in_map number_of (still_open past) n h)
    where
      known : (x : Queueing) × In x (still_open past) × (number_of x ≡ n) → queue_of other (f n) ≡ queue_of past n
      known q =
          let there : In (queueing_by f q.0) (still_open other) =
          subst (In (queueing_by f q.0)) (sym a.opened) (in_mapped (queueing_by f) (still_open past) q.0 q.1) in
          let mine = (of_in _ (still_open past) q.0 (found_open past) q.1) in
          let its = (of_in _ (still_open other) (queueing_by f q.0) (found_open other) there) in
          subst (λ m. queue_of other (f m) ≡ queue_of past m) q.2
          (ap (option_map (λ (x : Queueing). x.place.queue.0)) its
          ∙ sym (ap (option_map (λ (x : Queueing). x.place.queue.0)) mine))

  pub run_queue_alike : (w : WorkerId) → run_queue other w ≡ run_queue past w
  run_queue_alike w = ap (option_and_then (queue_of other)) (a.runs w) ∙ at (run past w) refl
    where
      at : (o : Option ℕ) → run past w ≡ o
          → option_and_then (queue_of other) (option_map f o) ≡ option_and_then (queue_of past) o
      at None h = refl
      at (Some n) h = let q = run_is_active s past w n legal h in
          queue_alike n (found_open_number past n q.queueing q.found (active_live s past q.queueing q.active))

  pub elsewhere_alike : (i q : ℕ) → runs_elsewhere other i q ≡ runs_elsewhere past i q
  elsewhere_alike i q = ap (λ o. option_map_or (λ (x : Start). not (is_at (queue_of other x.number) q)) o false)
      (a.item_runs i) ∙ at (item_run past i) refl
    where
      at : (o : Option Start) → item_run past i ≡ o
          → option_map_or (λ (x : Start). not (is_at (queue_of other x.number) q)) (option_map (start_by f) o) false
          ≡ option_map_or (λ (x : Start). not (is_at (queue_of past x.number) q)) o false
      at None h = refl
      at (Some x) h = ap (λ o. not (is_at o q)) (queue_alike x.number (item_run_open s past i x legal h))

  pub runs_on_alike : (who : Who) (q : ℕ) → runs_on other who q ≡ runs_on past who q
  runs_on_alike (Caller c) q = refl
  runs_on_alike (Worker w) q = ap (λ o. is_at o q) (run_queue_alike w)

  pub shut_alike : (who : Who) (q t : ℕ) → is_shut other who q t ≡ is_shut past who q t
  shut_alike who q t = ap₂ (λ b c. b && (not c || nat_lt 0 t)) (draining_alike q) (runs_on_alike who q)

  -- ---- what is due
  unnumbered_find : (p : Booking → Bool) → ((b : Booking) → p (unnumbered b) ≡ p b) → (xs : List Booking)
      → option_map unnumbered (find p xs) ≡ find p (map unnumbered xs)
  unnumbered_find p h xs = sym (find_mapped unnumbered p p xs (all_in _ xs (λ b i. h b)))

  soonest_plain : (xs : List Booking) → option_map unnumbered (soonest xs) ≡ soonest (map unnumbered xs)
  soonest_plain xs =
      sym (find_mapped unnumbered (is_soonest (map unnumbered xs)) (is_soonest xs) xs
      (all_in _ xs (λ b i. ap not (any_mapped unnumbered (is_due_before (unnumbered b)) (is_due_before b) xs
      (λ c. refl)))))

  fires_alike : (b : Booking) → may_fire other b ≡ may_fire past b
  fires_alike b = ap₂ (λ n c. nat_le b.due n && not c) a.time (draining_alike b.place.queue.0)

  pub due_alike : option_map unnumbered (first_due other) ≡ option_map unnumbered (first_due past)
  unfolding first_due
  due_alike =
      soonest_plain (filter (may_fire other) (standing_bookings other))
      ∙ (ap soonest
      (sym (filter_mapped unnumbered (may_fire other) (may_fire other) (standing_bookings other)
      (all_in _ (standing_bookings other) (λ b i. refl)))
      ∙ (ap (filter (may_fire other)) a.standing
      ∙ filter_mapped unnumbered (may_fire other) (may_fire past) (standing_bookings past)
      (all_in _ (standing_bookings past) (λ b i. fires_alike b))))
      ∙ sym (soonest_plain (filter (may_fire past) (standing_bookings past))))

  pub timers_alike : (q : ℕ) → list_any (is_booked_on q) (standing_bookings other)
      ≡ list_any (is_booked_on q) (standing_bookings past)
  timers_alike q =
      sym (any_mapped unnumbered (is_booked_on q) (is_booked_on q) (standing_bookings other) (λ b. refl))
      ∙ (ap (list_any (is_booked_on q)) a.standing
      ∙ any_mapped unnumbered (is_booked_on q) (is_booked_on q) (standing_bookings past) (λ b. refl))

  -- ---- pools
  pub next_alike : (p : PoolId) → next s other p ≡ option_map (queueing_by f) (next s past p)
  unfolding next
  next_alike p =
      ap (find (is_startable other)) (a.worklists p)
      ∙ find_mapped (queueing_by f) (is_startable other) (is_startable past) (worklist s past p)
      (all_in _ (worklist s past p) (λ x i. ap not (item_runs_alike x.item.0)))

  pub runnable_alike : (p : PoolId) → runnable s other p ≡ runnable s past p
  unfolding runnable
  runnable_alike p =
      count_by-same (is_holding s other p) (is_holding s past p) (indices s)
      (All_each _ (indices s) (λ x. ap₂ (λ b o. b && not (option_map_or (is_intensive s) o false))
      (awake_alike (worker_at p x)) (run_queue_alike (worker_at p x))))

  idle_alike : (p : PoolId) (x : ℕ) → is_idle other p x ≡ is_idle past p x
  idle_alike p x = ap₂ (λ b c. b && not c) (a.enlisted (worker_at p x)) (has_alike (worker_at p x))

  pub enlisting_alike : (w : WorkerId) → enlisted_by s other w ≡ enlisted_by s past w
  unfolding enlisted_by
  enlisting_alike w =
      ap₂ (λ b o. if b then None else o)
      (any_same (indices s))
      (find_same (is_reserve other w.pool) (is_reserve past w.pool) (indices s)
      (All_each _ (indices s) (λ x. ap not (a.enlisted (worker_at w.pool x)))))
    where
      any_same : (xs : List ℕ) → list_any (is_other_idle other w) xs ≡ list_any (is_other_idle past w) xs
      any_same [] = refl
      any_same (x ∷ xs) = ap₂ (λ b c. (not (x == w.index) && b) || c) (idle_alike w.pool x) (any_same xs)

  pub retiring_alike : (p : PoolId) → may_retire s other p ≡ may_retire s past p
  unfolding may_retire
  retiring_alike p =
      ap₂ (λ n m. has_spare n m)
      (count_by-same (is_idle other p) (is_idle past p) (indices s) (All_each _ (indices s) (idle_alike p)))
      (count_by-same (is_occupied other p) (is_occupied past p) (indices s)
      (All_each _ (indices s) (λ x. ap₂ (λ b c. b && c) (a.enlisted (worker_at p x)) (has_alike (worker_at p x)))))
