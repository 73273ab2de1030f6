-- Of two histories of which the same is told, each number that matters of the one has the number of the same rank in
-- the other.
use Rattle.std.proofs.Common.{ℕ, ◌≡◌, ◌==◌, ◌+◌, ◌<◌, ◌≤◌, ◌&&◌, Bool, true, false, List, [], ◌∷◌, ◌++◌, length, map}
use Rattle.std.proofs.Common.{Option, Some, None, ap, ap₂, sym, ◌∙◌, refl, arith, subst, ⊎_elim, ◌⊎◌, inl, inr, nat_lt}
use Rattle.std.specs.Prelude.{is_some, option_and_then, option_map}
use Rattle.std.specs.List.{AllByRecursion, range_with_len}
use Rattle.std.proofs.lemmas.Bool.{and_parts, cases_lt, eq-eqb, eqb-true, lt-ltb, ltb-true}
use Rattle.std.proofs.lemmas.Option.{same_Some}
use Rattle.cmwq_lemmas.proofs.Members.{In, filter_in, found, in_append, in_filter, in_map, in_mapped, in_range, none_in}
use Rattle.cmwq_lemmas.proofs.Members.{of_in}
use Rattle.cmwq_lemmas.proofs.Rising.{RisesBy, rises_unique}
use Rattle.cmwq_model.specs.Prelude.{IsLegal, Layout, holds_up, is_active, is_flush_of, is_started, is_within, run}
use Rattle.cmwq_model.specs.Prelude.{flushes, has_number, is_asleep, is_enlisted, is_gone, is_live, item_at, max_active}
use Rattle.cmwq_model.specs.Prelude.{queueings, worker_at, worklist, item_run, queueing_at, serving_from, still_open}
use Rattle.cmwq_model.specs.Prelude.{unended_tickets}
use Rattle.cmwq_model.specs.declared.call.Call.{Call}
use Rattle.cmwq_model.specs.declared.call.Call.TheVariants as call
use Rattle.cmwq_model.specs.declared.entry.Entry.{Entry}
use Rattle.cmwq_model.specs.declared.id.PoolId.{PoolId}
use Rattle.cmwq_model.specs.declared.id.QueueId.{QueueId}
use Rattle.cmwq_model.specs.declared.id.WorkerId.{WorkerId}
use Rattle.cmwq_model.specs.declared.record.Queueing.{Queueing}
use Rattle.cmwq_model.specs.declared.record.Start.{Start}
use Rattle.cmwq_model.specs.declared.record.Ticket.{Ticket}
use Rattle.cmwq_theory_steps.proofs.ItemSteps.{items_are_run}
use Rattle.cmwq_theory_steps.proofs.RunsActive.{found_number, run_is_active}
use Rattle.cmwq_theory_steps.proofs.EndsAsTold.{runs_are_queueings}
use Rattle.cmwq_theory_steps.proofs.Entries.{IsKnown, queueings_known}
use Rattle.cmwq_theory_steps.proofs.ItemRuns.{runs_are_items}
use Rattle.cmwq_theory_steps.proofs.Pools.{runs_are_in_pools}
use Rattle.cmwq_refinement.proofs.PlacesFit.{open_there}
use Rattle.cmwq_refinement.proofs.PoolReads.{IsOnList, worklist_has}
use Rattle.cmwq_state.specs.Flights.{run_open}
use Rattle.cmwq_refinement.proofs.Numbers.{number_of_queueing, number_of_ticket}
use Rattle.cmwq_refinement.proofs.QueueingSteps.{open_numbers_rise}
use Rattle.cmwq_refinement.proofs.TicketSteps.{unended_rise}
use Rattle.cmwq_key.specs.Alike.{ListsMatch}
use Rattle.cmwq_play.specs.Firsts.{pool_of}
use Rattle.cmwq_key.specs.Numbered.{Gathered, gathered, mark, number_of, numbers_of, rank, running_in}
use Rattle.cmwq_key.specs.Numbered.{ticket_number, tickets_in, unstarted_in}
use Rattle.cmwq_key.proofs.Gathering.{in_each}
use Rattle.cmwq_key.proofs.Listed.{numbers_are, open_numbered, open_runs, open_waits, runs_numbered, runs_open}
use Rattle.cmwq_key.proofs.Listed.{tickets_numbered, tickets_unended, unended_listed, unended_numbered}
use Rattle.cmwq_key.proofs.Listed.{waits_numbered, waits_open}
use Rattle.cmwq_key.proofs.Ranking.{of_rank, of_rank_is, rank_order}
use Rattle.cmwq_key.proofs.Outside.{IsInside, asleep_outside, enlisted_outside, gone_outside, run_outside}
use Rattle.cmwq_key.proofs.Outside.{width_outside}
use Rattle.cmwq_key.proofs.Splitting.{match_back, match_both, match_in, match_map}
use Rattle.cmwq_key.proofs.Telling.{AreFlushesAlike, AreHeldAlike, AreListedAlike, AreSamePools, IsSameFlush}
use Rattle.cmwq_key.proofs.Telling.{IsSameHistory, IsSamePool, IsSameQueue, IsSameQueueing, IsSameSlot}
use Rattle.cmwq_key.proofs.Telling.{IsSameTicket, IsSameUnstarted}

-- ---- lists that rise

module _ {X : Type 0} (f : X → ℕ) where
  least_first : (x : X) (xs : List X) (y : X) → AllByRecursion (λ z. f x < f z) xs → In y (x ∷ xs) → f x ≤ f y
  least_first x xs y later i =
      ⊎_elim (λ e. let same : f x ≡ f y = ap f e in omega arith)
      (λ j. let less = of_in (λ z. f x < f z) xs y later j in omega arith) i

  rest_in : (x : X) (xs : List X) (z : X) → f x < f z → In z (x ∷ xs) → In z xs
  rest_in x xs z less i = ⊎_elim (λ e. absurd (let same : f x ≡ f z = ap f e in omega arith)) (λ j. j) i

  -- with the same elements they are the same
  pub rising_same : (xs ys : List X) → RisesBy f xs → RisesBy f ys → ((z : X) → In z xs → In z ys)
      → ((z : X) → In z ys → In z xs) → ys ≡ xs
  rising_same [] [] a b there back = refl
  rising_same [] (y ∷ ys) a b there back = absurd (back y (inl refl))
  rising_same (x ∷ xs) [] a b there back = absurd (there x (inl refl))
  rising_same (x ∷ xs) (y ∷ ys) a b there back =
      let low = least_first x xs y a.0 (back y (inl refl)) in
      let high = least_first y ys x b.0 (there x (inl refl)) in
      let number : f y ≡ f x = omega arith in
      let head : y ≡ x = rises_unique f (x ∷ xs) y x a (back y (inl refl)) (inl refl) number in
      let tail =
      rising_same xs ys a.1 b.1
      (λ z i. let less = of_in (λ w. f x < f w) xs z a.0 i in rest_in y ys z (omega arith) (there z (inr i)))
      (λ z i. let less = of_in (λ w. f y < f w) ys z b.0 i in rest_in x xs z (omega arith) (back z (inr i))) in
      cc

  pub rising_map : (g : X → X) (xs : List X) → RisesBy f xs
      → ((x y : X) → In x xs → In y xs → f x < f y → f (g x) < f (g y)) → RisesBy f (map g xs)
  rising_map g [] h keeps = tt
  rising_map g (x ∷ xs) h keeps = (
    later xs (λ y i. keeps x y (inl refl) (inr i) (of_in (λ z. f x < f z) xs y h.0 i)),
    rising_map g xs h.1 (λ y z i j. keeps y z (inr i) (inr j)),
  )
    where
      later : (ys : List X) → ((y : X) → In y ys → f (g x) < f (g y)) → AllByRecursion (λ z. f (g x) < f z) (map g ys)
      later [] k = tt
      later (y ∷ ys) k = (k y (inl refl), later ys (λ z i. k z (inr i)))

-- ---- the number of the same rank

module _ (s : Layout) (past other : List Entry) (legal : IsLegal s past) (other_legal : IsLegal s other)
    (same : IsSameHistory s past other (gathered s past) (gathered s other)) where
  abbrev pub numbers : List ℕ
  numbers = (gathered s past).numbers

  abbrev pub other_numbers : List ℕ
  other_numbers = (gathered s other).numbers

  -- the number of the other that has the rank of this one
  abbrev pub renumbered : ℕ → ℕ
  renumbered n = of_rank other_numbers (rank numbers n)

  lists_of : (past : List Entry) → ((gathered s past).unstarted ≡ unstarted_in s past)
      × ((gathered s past).running ≡ running_in s past)
      × ((gathered s past).tickets ≡ tickets_in s past)
  unfolding gathered
  lists_of past = (refl, refl, refl)

  abbrev IsSameWaiting : Queueing → Queueing → Type 0
  IsSameWaiting = IsSameUnstarted s past other (gathered s past) (gathered s other)

  abbrev IsSameRunning : Queueing → Queueing → Type 0
  IsSameRunning = IsSameQueueing s past other (gathered s past) (gathered s other)

  abbrev IsSameUnended : Ticket → Ticket → Type 0
  IsSameUnended = IsSameTicket s past other (gathered s past) (gathered s other)

  waiting : ListsMatch IsSameWaiting (unstarted_in s past) (unstarted_in s other)
  waiting =
      subst (λ xs. ListsMatch IsSameWaiting xs (unstarted_in s other)) (lists_of past).0
      (subst (λ ys. ListsMatch IsSameWaiting (gathered s past).unstarted ys) (lists_of other).0 same.unstarted)

  runs : ListsMatch IsSameRunning (running_in s past) (running_in s other)
  runs =
      subst (λ xs. ListsMatch IsSameRunning xs (running_in s other)) (lists_of past).1
      (subst (λ ys. ListsMatch IsSameRunning (gathered s past).running ys) (lists_of other).1 same.running)

  unended : ListsMatch IsSameUnended (tickets_in s past) (tickets_in s other)
  unended =
      subst (λ xs. ListsMatch IsSameUnended xs (tickets_in s other)) (lists_of past).2
      (subst (λ ys. ListsMatch IsSameUnended (gathered s past).tickets ys) (lists_of other).2 same.tickets)

  -- a number has a counterpart
  pub record HasCounterpart (n : ℕ) : Type 0 where
    pub number : ℕ
    pub there : In number other_numbers
    pub ranks : rank numbers n ≡ rank other_numbers number

  pub counterpart : (n : ℕ) → In n numbers → HasCounterpart n
  counterpart n i = of_lists (subst (λ ns. In n ns) (numbers_are s past legal) i)
    where
      of_waiting : In n (map number_of (unstarted_in s past)) → HasCounterpart n
      of_waiting j =
          let x = in_map number_of (unstarted_in s past) n j in
          let y = match_in IsSameWaiting (unstarted_in s past) (unstarted_in s other) x.0 waiting x.1 in
          record {
            number = y.0.number;
            there = waits_numbered s other other_legal y.0 y.1;
            ranks = ap (rank numbers) (sym x.2) ∙ y.2.queueing.rank;
          }

      of_runs : In n (map number_of (running_in s past)) → HasCounterpart n
      of_runs j =
          let x = in_map number_of (running_in s past) n j in
          let y = match_in IsSameRunning (running_in s past) (running_in s other) x.0 runs x.1 in
          record {
            number = y.0.number;
            there = runs_numbered s other other_legal y.0 y.1;
            ranks = ap (rank numbers) (sym x.2) ∙ y.2.rank;
          }

      of_tickets : In n (map ticket_number (tickets_in s past)) → HasCounterpart n
      of_tickets j =
          let t = in_map ticket_number (tickets_in s past) n j in
          let u = match_in IsSameUnended (tickets_in s past) (tickets_in s other) t.0 unended t.1 in
          record {
            number = u.0.number;
            there = tickets_numbered s other other_legal u.0 u.1;
            ranks = ap (rank numbers) (sym t.2) ∙ u.2.rank;
          }

      of_lists : In n (numbers_of (unstarted_in s past) (running_in s past) (tickets_in s past)) → HasCounterpart n
      of_lists j =
          ⊎_elim
          (λ k. ⊎_elim of_waiting of_runs
          (in_append (map number_of (unstarted_in s past)) (map number_of (running_in s past)) n k)) of_tickets
          (in_append (map number_of (unstarted_in s past) ++ map number_of (running_in s past))
          (map ticket_number (tickets_in s past)) n j)

  -- it is the renumbered one
  pub renumbered_is : (n m : ℕ) → In m other_numbers → rank numbers n ≡ rank other_numbers m → renumbered n ≡ m
  renumbered_is n m there ranks = of_rank_is other_numbers (rank numbers n) m there (sym ranks)

  pub renumbered_there : (n : ℕ) → In n numbers
      → In (renumbered n) other_numbers × (rank numbers n ≡ rank other_numbers (renumbered n))
  renumbered_there n i =
      let k = counterpart n i in
      let is = sym (renumbered_is n k.number k.there k.ranks) in
      (subst (λ m. In m other_numbers) is k.there, k.ranks ∙ ap (rank other_numbers) is)

  -- the order stays
  pub order_stays : (a b : ℕ) → In a numbers → In b numbers → nat_lt (renumbered a) (renumbered b) ≡ nat_lt a b
  order_stays a b i j =
      let x = renumbered_there a i in
      let y = renumbered_there b j in
      sym (rank_order other_numbers (renumbered a) (renumbered b) x.0 y.0)
      ∙ ap (λ r. nat_lt r (rank other_numbers (renumbered b))) (sym x.1) ∙ ap (nat_lt (rank numbers a)) (sym y.1)
      ∙ rank_order numbers a b i j

  -- ---- open queueings

  abbrev pub moved : Queueing → Queueing
  moved x = record x { number = renumbered x.number }

  moved_is : (x y : Queueing) → y.item ≡ x.item → y.place ≡ x.place → y.number ≡ renumbered x.number → y ≡ moved x
  moved_is x y i p n =
      ap (λ j. record { item = j; place = y.place; number = y.number }) i
      ∙ ap (λ r. record { item = x.item; place = r; number = y.number }) p
      ∙ ap (λ k. record { item = x.item; place = x.place; number = k }) n

  run_active : (past : List Entry) → IsLegal s past → (x : Queueing) → In x (running_in s past) → is_active s past x
      ≡ true
  run_active past legal x i =
      let r = in_each (run_open past) s.items x i in by r.0 (item_run past r.0) refl r.1
    where
      by : (k : ℕ) (o : Option Start) → item_run past k ≡ o
          → option_and_then (λ (start : Start). queueing_at past start.number) o ≡ Some x → is_active s past x ≡ true
      by k None none h = cc
      by k (Some start) is h =
          let r = run_is_active s past start.worker start.number legal (items_are_run s past k start legal is).0 in
          let same : r.queueing ≡ x = same_Some r.queueing x (sym r.found ∙ h) in
          subst (λ y. is_active s past y ≡ true) same r.active

  -- an open queueing, and that of the other
  pub record AreCounterparts (x y : Queueing) : Type 0 where
    pub here : In x (still_open past)
    pub there : In y (still_open other)
    pub is : y ≡ moved x
    pub started : is_started other y.number ≡ is_started past x.number
    pub active : is_active s other y ≡ is_active s past x

  of_waiting : (x y : Queueing) → In x (unstarted_in s past) → In y (unstarted_in s other) → IsSameWaiting x y
      → AreCounterparts x y
  of_waiting x y i j alike =
      let a = waits_open s past legal x i in
      let b = waits_open s other other_legal y j in
      record {
        here = a.0;
        there = b.0;
        is = moved_is x y alike.queueing.item alike.queueing.place
            (sym (renumbered_is x.number y.number (waits_numbered s other other_legal y j) alike.queueing.rank));
        started = b.1 ∙ sym a.1;
        active = alike.active;
      }

  of_running : (x y : Queueing) → In x (running_in s past) → In y (running_in s other) → IsSameRunning x y
      → AreCounterparts x y
  of_running x y i j alike =
      let a = runs_open s past legal x i in
      let b = runs_open s other other_legal y j in
      record {
        here = a.0;
        there = b.0;
        is = moved_is x y alike.item alike.place
            (sym (renumbered_is x.number y.number (runs_numbered s other other_legal y j) alike.rank));
        started = b.1 ∙ sym a.1;
        active = run_active other other_legal y j ∙ sym (run_active past legal x i);
      }

  pub open_counterpart : (x : Queueing) → In x (still_open past) → (y : Queueing) × AreCounterparts x y
  open_counterpart x i = by (is_started past x.number) refl
    where
      by : (b : Bool) → is_started past x.number ≡ b → (y : Queueing) × AreCounterparts x y
      by true is =
          let k = open_runs s past legal x i is in
          let y = match_in IsSameRunning (running_in s past) (running_in s other) x runs k in
          (y.0, of_running x y.0 k y.1 y.2)
      by false is =
          let k = open_waits s past legal x i is in
          let y = match_in IsSameWaiting (unstarted_in s past) (unstarted_in s other) x waiting k in
          (y.0, of_waiting x y.0 k y.1 y.2)

  pub open_of : (y : Queueing) → In y (still_open other) → (x : Queueing) × AreCounterparts x y
  open_of y i = by (is_started other y.number) refl
    where
      by : (b : Bool) → is_started other y.number ≡ b → (x : Queueing) × AreCounterparts x y
      by true is =
          let k = open_runs s other other_legal y i is in
          let x = match_back IsSameRunning (running_in s past) (running_in s other) y runs k in
          (x.0, of_running x.0 y x.1 k x.2)
      by false is =
          let k = open_waits s other other_legal y i is in
          let x = match_back IsSameWaiting (unstarted_in s past) (unstarted_in s other) y waiting k in
          (x.0, of_waiting x.0 y x.1 k x.2)

  keeps_order : (a b : ℕ) → In a numbers → In b numbers → a < b → renumbered a < renumbered b
  keeps_order a b i j less = ltb-true (renumbered a) (renumbered b) (order_stays a b i j ∙ lt-ltb a b less)

  pub opened : still_open other ≡ map moved (still_open past)
  opened =
      rising_same number_of_queueing (map moved (still_open past)) (still_open other)
      (rising_map number_of_queueing moved (still_open past) (open_numbers_rise past)
      (λ x y i j less.
      keeps_order x.number y.number (open_numbered s past legal x i) (open_numbered s past legal y j) less))
      (open_numbers_rise other)
      (λ z i.
      let x = in_map moved (still_open past) z i in
      let y = open_counterpart x.0 x.1 in
      subst (λ w. In w (still_open other)) (y.1.is ∙ x.2) y.1.there)
      (λ z i.
      let x = open_of z i in
      subst (λ w. In w (map moved (still_open past))) (sym x.1.is) (in_mapped moved (still_open past) x.0 x.1.here))

  pub started : (x : Queueing) → In x (still_open past) → is_started other (renumbered x.number)
      ≡ is_started past x.number
  started x i =
      let y = open_counterpart x i in
      ap (λ (z : Queueing). is_started other z.number) (sym y.1.is) ∙ y.1.started

  pub active : (x : Queueing) → In x (still_open past) → is_active s other (moved x) ≡ is_active s past x
  active x i = let y = open_counterpart x i in ap (is_active s other) (sym y.1.is) ∙ y.1.active

  pub moved_there : (x : Queueing) → In x (still_open past) → In (moved x) (still_open other)
  moved_there x i = let y = open_counterpart x i in subst (λ z. In z (still_open other)) y.1.is y.1.there

  -- ---- unended tickets

  abbrev pub moved_ticket : Ticket → Ticket
  moved_ticket t = record t { number = renumbered t.number }

  ticket_is : (t u : Ticket) → u.caller ≡ t.caller → u.call ≡ t.call → u.number ≡ renumbered t.number → u
      ≡ moved_ticket t
  ticket_is t u c d n =
      ap (λ a. record { caller = a; call = u.call; number = u.number }) c
      ∙ ap (λ a. record { caller = t.caller; call = a; number = u.number }) d
      ∙ ap (λ k. record { caller = t.caller; call = t.call; number = k }) n

  pub record AreTicketCounterparts (t u : Ticket) : Type 0 where
    pub here : In t (unended_tickets past)
    pub there : In u (unended_tickets other)
    pub is : u ≡ moved_ticket t
    pub alike : IsSameTicket s past other (gathered s past) (gathered s other) t u

  of_unended : (t u : Ticket) → In t (tickets_in s past) → In u (tickets_in s other) → IsSameUnended t u
      → AreTicketCounterparts t u
  of_unended t u i j alike =
      record {
        here = tickets_unended s past legal t i;
        there = tickets_unended s other other_legal u j;
        is = ticket_is t u alike.caller alike.call
            (sym (renumbered_is t.number u.number (tickets_numbered s other other_legal u j) alike.rank));
        alike = alike;
      }

  pub ticket_counterpart : (t : Ticket) → In t (unended_tickets past) → (u : Ticket) × AreTicketCounterparts t u
  ticket_counterpart t i =
      let k = unended_listed s past legal t i in
      let u = match_in IsSameUnended (tickets_in s past) (tickets_in s other) t unended k in
      (u.0, of_unended t u.0 k u.1 u.2)

  pub ticket_of : (u : Ticket) → In u (unended_tickets other) → (t : Ticket) × AreTicketCounterparts t u
  ticket_of u i =
      let k = unended_listed s other other_legal u i in
      let t = match_back IsSameUnended (tickets_in s past) (tickets_in s other) u unended k in
      (t.0, of_unended t.0 u t.1 k t.2)

  pub tickets_are : unended_tickets other ≡ map moved_ticket (unended_tickets past)
  tickets_are =
      rising_same number_of_ticket (map moved_ticket (unended_tickets past)) (unended_tickets other)
      (rising_map number_of_ticket moved_ticket (unended_tickets past) (unended_rise past)
      (λ t u i j less.
      keeps_order t.number u.number (unended_numbered s past legal t i) (unended_numbered s past legal u j) less))
      (unended_rise other)
      (λ z i.
      let t = in_map moved_ticket (unended_tickets past) z i in
      let u = ticket_counterpart t.0 t.1 in
      subst (λ w. In w (unended_tickets other)) (u.1.is ∙ t.2) u.1.there)
      (λ z i.
      let t = ticket_of z i in
      subst (λ w. In w (map moved_ticket (unended_tickets past))) (sym t.1.is)
      (in_mapped moved_ticket (unended_tickets past) t.0 t.1.here))

  -- ---- pools and workers

  listed_is : (p : PoolId) (x y : Queueing) → In x (worklist s past p) → In y (worklist s other p)
      → rank numbers x.number ≡ rank other_numbers y.number → y ≡ moved x
  listed_is p x y i j ranks =
      let a = of_in (IsOnList s past p) (worklist s past p) x (worklist_has s past p) i in
      let b = of_in (IsOnList s other p) (worklist s other p) y (worklist_has s other p) j in
      let number = sym (renumbered_is x.number y.number (open_numbered s other other_legal y b.stands) ranks) in
      rises_unique number_of_queueing (still_open other) y (moved x) (open_numbers_rise other) b.stands
      (moved_there x a.stands) number

  same_pools : (cpu : ℕ) → cpu < s.cpus → AreSamePools s past other (gathered s past) (gathered s other) cpu
  same_pools cpu less =
      of_in (AreSamePools s past other (gathered s past) (gathered s other)) (range_with_len 0 s.cpus) cpu same.pools
      (in_range 0 s.cpus cpu (omega arith) (omega arith))

  same_pool_at : (cpu : ℕ) (high : Bool) → cpu < s.cpus
      → IsSamePool s past other (gathered s past) (gathered s other) (pool_of cpu high)
  same_pool_at cpu true less = (same_pools cpu less).1
  same_pool_at cpu false less = (same_pools cpu less).0

  none_listed : (past : List Entry) → IsLegal s past → (p : PoolId) → s.cpus ≤ p.cpu.0 → worklist s past p ≡ []
  none_listed past legal p out =
      none_in (worklist s past p)
      (λ x i.
      let a = of_in (IsOnList s past p) (worklist s past p) x (worklist_has s past p) i in
      let there = (open_there s past x legal a.stands).cpu in
      let same : x.place.cpu.0 ≡ p.cpu.0 = ap (λ (r : PoolId). r.cpu.0) a.pool in
      omega arith)

  pub worklists : (p : PoolId) → worklist s other p ≡ map moved (worklist s past p)
  worklists p =
      ⊎_elim
      (λ less.
      match_map (AreListedAlike s past other (gathered s past) (gathered s other)) moved (worklist s past p)
      (worklist s other p) (same_pool_at p.cpu.0 p.high less).listed (λ x y i j ranks. listed_is p x y i j ranks))
      (λ out.
      none_listed other other_legal p out ∙ sym (ap (map moved) (none_listed past legal p out)))
      (cases_lt p.cpu.0 s.cpus)

  abbrev Slot : WorkerId → Type 0
  Slot = IsSameSlot s past other (gathered s past) (gathered s other)

  slot_at : (w : WorkerId) → IsInside s w → Slot w
  slot_at w there =
      of_in (λ k. Slot (worker_at w.pool k)) (range_with_len 0 s.workers) w.index
      (same_pool_at w.pool.cpu.0 w.pool.high there.0).slots
      (in_range 0 s.workers w.index (omega arith) (let less = there.1 in omega arith))

  inside_or_not : (w : WorkerId) → IsInside s w ⊎ (IsInside s w → ⊥)
  inside_or_not w =
      ⊎_elim
      (λ cpu. ⊎_elim (λ index. inl (cpu, index)) (λ over. inr (λ h. let less = h.1 in omega arith))
      (cases_lt w.index s.workers)) (λ over. inr (λ h. let less = h.0 in omega arith)) (cases_lt w.pool.cpu.0 s.cpus)

  run_numbered : (past : List Entry) (legal : IsLegal s past) (w : WorkerId) (n : ℕ) → run past w ≡ Some n
      → In n (gathered s past).numbers
  run_numbered past legal w n is =
      let r = runs_are_in_pools s past w n legal is in
      let here =
      filter_in (is_live past) (queueings past) r.queueing (found (has_number n) (queueings past) r.queueing r.found).0
      r.live in
      subst (λ m. In m (gathered s past).numbers) (found_number past n r.queueing r.found)
      (open_numbered s past legal r.queueing here)

  marked : (w : WorkerId) (o u : Option ℕ) → run past w ≡ o → run other w ≡ u
      → mark numbers o ≡ mark other_numbers u → u ≡ option_map renumbered o
  marked w None None is it h = refl
  marked w None (Some m) is it h = absurd (omega arith)
  marked w (Some n) None is it h = absurd (omega arith)
  marked w (Some n) (Some m) is it h =
      let ranks : rank numbers n ≡ rank other_numbers m = omega arith in
      ap Some (sym (renumbered_is n m (run_numbered other other_legal w m it) ranks))

  pub runs_are : (w : WorkerId) → run other w ≡ option_map renumbered (run past w)
  runs_are w =
      ⊎_elim (λ there. marked w (run past w) (run other w) refl refl (slot_at w there).run)
      (λ out.
      run_outside s w other other_legal out ∙ sym (ap (option_map renumbered) (run_outside s w past legal out)))
      (inside_or_not w)

  pub sleepers : (w : WorkerId) → is_asleep other w ≡ is_asleep past w
  sleepers w =
      ⊎_elim (λ there. (slot_at w there).asleep)
      (λ out. asleep_outside s w other other_legal out ∙ sym (asleep_outside s w past legal out)) (inside_or_not w)

  pub enlisted : (w : WorkerId) → is_enlisted other w ≡ is_enlisted past w
  enlisted w =
      ⊎_elim (λ there. (slot_at w there).enlisted)
      (λ out. enlisted_outside s w other other_legal out ∙ sym (enlisted_outside s w past legal out)) (inside_or_not w)

  -- ---- queues

  same_queue : (q : ℕ) → q < length s.queues → IsSameQueue s past other (gathered s past) (gathered s other) q
  same_queue q less =
      of_in (IsSameQueue s past other (gathered s past) (gathered s other)) (range_with_len 0 (length s.queues)) q
      same.queues (in_range 0 (length s.queues) q (omega arith) (omega arith))

  pub gone : (q : ℕ) → is_gone other q ≡ is_gone past q
  gone q =
      ⊎_elim (λ less. (same_queue q less).gone)
      (λ out. gone_outside s q other other_legal out ∙ sym (gone_outside s q past legal out))
      (cases_lt q (length s.queues))

  pub widths : (q : ℕ) → max_active s other q ≡ max_active s past q
  widths q =
      ⊎_elim (λ less. (same_queue q less).width)
      (λ out. width_outside s q other other_legal out ∙ sym (width_outside s q past legal out))
      (cases_lt q (length s.queues))

  -- ---- the runs of items

  abbrev pub moved_start : Start → Start
  moved_start start = record start { number = renumbered start.number }

  item_at_open : (past : List Entry) → IsLegal s past → (x : Queueing) → In x (still_open past)
      → item_at past x.number ≡ Some x.item.0
  item_at_open past legal x i =
      (of_in (IsKnown past) (queueings past) x (queueings_known past)
      (in_filter (is_live past) (queueings past) x i).0).item

  run_of_item : (past : List Entry) (legal : IsLegal s past) (i : ℕ) (start : Start) → item_run past i ≡ Some start
      → (x : Queueing) × In x (still_open past) × (x.number ≡ start.number) × (x.item.0 ≡ i)
  run_of_item past legal i start is =
      let r = runs_are_queueings s past legal i start is in
      let here =
      filter_in (is_live past) (queueings past) r.queueing
      (found (has_number start.number) (queueings past) r.queueing r.found).0 r.live in
      (r.queueing, here, found_number past start.number r.queueing r.found, r.item)

  item_run_goes_on : (i : ℕ) (start : Start) → item_run past i ≡ Some start → item_run other i
      ≡ Some (moved_start start)
  item_run_goes_on i start is =
      let own = items_are_run s past i start legal is in
      let x = run_of_item past legal i start is in
      let y = open_counterpart x.0 x.1 in
      let number : y.0.number ≡ renumbered start.number =
      ap number_of_queueing y.1.is ∙ ap renumbered x.2 in
      let runs = runs_are start.worker ∙ ap (option_map renumbered) own.0 in
      let item : item_at other (renumbered start.number) ≡ Some i =
      ap (item_at other) (sym number) ∙ item_at_open other other_legal y.0 y.1.there
      ∙ ap (λ (z : Queueing). Some z.item.0) y.1.is ∙ ap Some x.3 in
      runs_are_items s other start.worker (renumbered start.number) i other_legal runs item

  no_item_run : (i : ℕ) (start : Start) → item_run past i ≡ None → item_run other i ≡ Some start → ⊥
  no_item_run i start none is =
      let own = items_are_run s other i start other_legal is in
      by (run past start.worker) refl own.0 own.1
    where
      by : (o : Option ℕ) → run past start.worker ≡ o → run other start.worker ≡ Some start.number
          → item_at other start.number ≡ Some i → ⊥
      by None idle runs item =
          let h = sym (runs_are start.worker ∙ ap (option_map renumbered) idle) ∙ runs in cc
      by (Some n) runs_it runs item =
          let number : renumbered n ≡ start.number =
          same_Some (renumbered n) start.number
          (sym (runs_are start.worker ∙ ap (option_map renumbered) runs_it) ∙ runs) in
          let r = runs_are_in_pools s past start.worker n legal runs_it in
          let here =
          filter_in (is_live past) (queueings past) r.queueing
          (found (has_number n) (queueings past) r.queueing r.found).0 r.live in
          let own : r.queueing.number ≡ n = found_number past n r.queueing r.found in
          let y = open_counterpart r.queueing here in
          let other_number : y.0.number ≡ start.number = ap number_of_queueing y.1.is ∙ ap renumbered own ∙ number in
          let items : Some y.0.item.0 ≡ Some i =
          sym (item_at_open other other_legal y.0 y.1.there) ∙ ap (item_at other) other_number ∙ item in
          let same_item : r.queueing.item.0 ≡ i =
          ap (λ (z : Queueing). z.item.0) (sym y.1.is) ∙ same_Some y.0.item.0 i items in
          let at : item_at past n ≡ Some i =
          ap (item_at past) (sym own) ∙ item_at_open past legal r.queueing here ∙ ap Some same_item in
          let h = runs_are_items s past start.worker n i legal runs_it at in
          cc

  pub item_runs : (i : ℕ) → item_run other i ≡ option_map moved_start (item_run past i)
  item_runs i = by (item_run past i) (item_run other i) refl refl
    where
      by : (o u : Option Start) → item_run past i ≡ o → item_run other i ≡ u → item_run other i
          ≡ option_map moved_start o
      by (Some start) u is it = item_run_goes_on i start is
      by None None is it = it
      by None (Some start) is it = absurd (no_item_run i start is it)

  -- ---- flushes

  flush_call : (q : ℕ) (c : Call) → flushes q c ≡ true → (r : QueueId) × (c ≡ call.Flush r) × (r.0 ≡ q)
  flush_call q (call.Flush r) h = (r, refl, eqb-true r.0 q h)
  flush_call q c h = absurd (grind arith)

  abbrev HeldAlike : Ticket → Ticket → Queueing → Queueing → Type 0
  HeldAlike t u = AreHeldAlike s past other (gathered s past) (gathered s other) t u t.call

  held_open : (t u : Ticket) (q : QueueId)
      → IsSameFlush s past other (gathered s past) (gathered s other) q t u → (x : Queueing) → In x (still_open past)
      → holds_up other u.number u.call (moved x) ≡ holds_up past t.number t.call x
  held_open t u q flush x i = by (is_started past x.number) refl
    where
      by : (b : Bool) → is_started past x.number ≡ b
          → holds_up other u.number u.call (moved x) ≡ holds_up past t.number t.call x
      by true is =
          let k = open_runs s past legal x i is in
          let held =
          subst (λ xs. ListsMatch (HeldAlike t u) xs (running_in s other)) (lists_of past).1
          (subst (λ ys. ListsMatch (HeldAlike t u) (gathered s past).running ys) (lists_of other).1 flush.running) in
          let y =
          match_in (λ z w. IsSameRunning z w × HeldAlike t u z w) (running_in s past) (running_in s other) x
          (match_both IsSameRunning (HeldAlike t u) (running_in s past) (running_in s other) runs held) k in
          let c = of_running x y.0 k y.1 y.2.0 in
          ap (holds_up other u.number u.call) (sym c.is) ∙ y.2.1
      by false is =
          let k = open_waits s past legal x i is in
          let held =
          subst (λ xs. ListsMatch (HeldAlike t u) xs (unstarted_in s other)) (lists_of past).0
          (subst (λ ys. ListsMatch (HeldAlike t u) (gathered s past).unstarted ys) (lists_of other).0
          flush.unstarted) in
          let y =
          match_in (λ z w. IsSameWaiting z w × HeldAlike t u z w) (unstarted_in s past) (unstarted_in s other) x
          (match_both IsSameWaiting (HeldAlike t u) (unstarted_in s past) (unstarted_in s other) waiting held) k in
          let c = of_waiting x y.0 k y.1 y.2.0 in
          ap (holds_up other u.number u.call) (sym c.is) ∙ y.2.1

  -- a flush is served in both or in neither, and of the queueings of its queue it waits for the same
  pub record IsServedBoth (q : ℕ) (t : Ticket) : Type 0 where
    pub both : is_some (serving_from other q (renumbered t.number)) ≡ is_some (serving_from past q t.number)
    pub within : (x : Queueing) → In x (still_open past) → (x.place.queue.0 == q) ≡ true
        → is_within (serving_from other q (renumbered t.number)) (renumbered x.number)
        ≡ is_within (serving_from past q t.number) x.number

  pub served : (q : ℕ) (t : Ticket) → In t (unended_tickets past) → is_flush_of q t ≡ true → IsServedBoth q t
  served q t i flush =
      let u = ticket_counterpart t i in
      let c = flush_call q t.call flush in
      by u.0 c.0 u.1 c.1 c.2
      (subst (AreFlushesAlike s past other (gathered s past) (gathered s other) t u.0) c.1 u.1.alike.flush)
    where
      by : (u : Ticket) (r : QueueId) → AreTicketCounterparts t u → t.call ≡ call.Flush r → r.0 ≡ q
          → IsSameFlush s past other (gathered s past) (gathered s other) r t u → IsServedBoth q t
      by u r own named is same_flush =
          let number : u.number ≡ renumbered t.number = ap number_of_ticket own.is in
          let other_call : u.call ≡ call.Flush r = own.alike.call ∙ named in
          record {
            both = ap₂ (λ k n. is_some (serving_from other k n)) (sym is) (sym number)
                ∙ same_flush.served ∙ ap (λ k. is_some (serving_from past k t.number)) is;
            within = λ x j on.
                let held = held_open t u r same_flush x j in
                let left : holds_up other u.number u.call (moved x)
                ≡ is_within (serving_from other q (renumbered t.number)) (renumbered x.number) =
                ap (λ c. holds_up other u.number c (moved x)) other_call
                ∙ ap₂ (λ k n. (x.place.queue.0 == k) && is_within (serving_from other k n) (renumbered x.number)) is
                number
                ∙ ap (λ b. b && is_within (serving_from other q (renumbered t.number)) (renumbered x.number)) on in
                let right : holds_up past t.number t.call x ≡ is_within (serving_from past q t.number) x.number =
                ap (λ c. holds_up past t.number c x) named
                ∙ ap (λ k. (x.place.queue.0 == k) && is_within (serving_from past k t.number) x.number) is
                ∙ ap (λ b. b && is_within (serving_from past q t.number) x.number) on in
                sym left ∙ held ∙ right;
          }
