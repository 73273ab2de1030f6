-- Workers and the runs of items after a call.
use Rattle.std.specs.Prelude.{◌<◌, ◌||◌, if◌then◌else◌}
use Rattle.cmwq_alike.specs.Common.{◌≡◌, ℕ, Bool, true, false, List, ◌∷◌, length, Option, Some, None, option_map}
use Rattle.cmwq_alike.specs.Common.{option_map_or, option_and_then, is_at}
use Rattle.cmwq_alike.specs.Common.{arith, refl, sym, ap, ap₂, ◌∙◌, inl, subst, ⊎_elim, found, filter_in}
use Rattle.cmwq_alike.specs.Common.{AllByRecursion, all_in, of_in, In, in_mapped, in_map, Entry, Queueing, Start}
use Rattle.cmwq_alike.specs.Common.{Layout, Who, Worker, WorkerId, Reply}
use Rattle.cmwq_alike.specs.Common.{still_open, opening, is_started, IsLegal, run, is_asleep, asleep_after, is_enlisted}
use Rattle.cmwq_alike.specs.Common.{index_enlisted, is_retired, is_by, item_run, item_at, start_in, starts_item}
use Rattle.cmwq_alike.specs.Common.{worker_of, number_started, queueing_at, has_number, queueings, is_live, same_who}
use Rattle.cmwq_alike.specs.Alike.{queueing_by, start_by, reply_by, IsOpenNumber, next_by, number_of, IsStep}
use Rattle.cmwq_theory_steps.specs.RunSteps.{run_after, ends_run}
use Rattle.cmwq_theory_steps.proofs.RunSteps.{workers_run_on}
use Rattle.cmwq_theory_steps.proofs.ItemSteps.{items_run_on}
use Rattle.cmwq_theory_steps.proofs.RunsActive.{run_is_active, found_number}
use Rattle.cmwq_theory_steps.proofs.EndsAsTold.{runs_are_queueings}
use Rattle.cmwq_theory_steps.proofs.Joined.{active_older}
use Rattle.cmwq_theory_steps.proofs.Fresh.{open_known}
use Rattle.cmwq_theory_steps.proofs.WorklistSteps.{opening_inert}
use Rattle.cmwq_theory_steps.proofs.Rising.{open_below}
use Rattle.cmwq_alike.proofs.Numbers.{old_stays, started_by, matters_below, open_matters}
use Rattle.cmwq_alike.proofs.Opens.{same_finishes, same_opening}
use Rattle.cmwq_alike.proofs.Orders.{open_old}
use Rattle.cmwq_alike.proofs.Actives.{same_starts, started_matters}

asleep_by : (g : ℕ → ℕ) (r : Reply) (b : Bool) → asleep_after (reply_by g r) b ≡ asleep_after r b
asleep_by g r b = grind arith

enlisted_by : (g : ℕ → ℕ) (r : Reply) → index_enlisted (reply_by g r) ≡ index_enlisted r
enlisted_by g r = grind arith

retired_by : (g : ℕ → ℕ) (r : Reply) → is_retired (reply_by g r) ≡ is_retired r
retired_by g r = grind arith

ran_by : (f g : ℕ → ℕ) (r : Reply) (o : Option ℕ) → option_map f o ≡ option_map g o
    → run_after (reply_by g r) (option_map f o) ≡ option_map g (run_after r o)
ran_by f g r o h = grind arith

-- a run is an open queueing
pub run_number : (s : Layout) (past : List Entry) (w : WorkerId) (n : ℕ) → IsLegal s past → run past w ≡ Some n
    → n < length past
run_number s past w n legal h =
    let q = run_is_active s past w n legal h in
    subst (λ m. m < length past) (found_number past n q.queueing q.found) (active_older s past q.queueing q.active)

pub found_open_number : (past : List Entry) (n : ℕ) (x : Queueing) → queueing_at past n ≡ Some x → is_live past x ≡ true
    → IsOpenNumber past n
found_open_number past n x h live =
    subst (IsOpenNumber past) (found_number past n x h)
    (in_mapped number_of (still_open past) x
    (filter_in (is_live past) (queueings past) x (found (has_number n) (queueings past) x h).0 live))

pub item_run_open : (s : Layout) (past : List Entry) (i : ℕ) (start : Start) → IsLegal s past
    → item_run past i ≡ Some start → IsOpenNumber past start.number
item_run_open s past i start legal h =
    let q = runs_are_queueings s past legal i start h in
    found_open_number past start.number q.queueing q.found q.live

module _ {s : Layout} {f : ℕ → ℕ} {past other : List Entry} {e d : Entry} (k : IsStep s f past other e d) where
  same_by : (w : Who) → is_by w d ≡ is_by w e
  same_by w = ap (λ v. same_who v w) k.same.who

  pub runs_stay : (w : WorkerId) → run (d ∷ other) w ≡ option_map (next_by f past other) (run (e ∷ past) w)
  unfolding IsLegal
  runs_stay w =
      workers_run_on s other d w k.other_legal
      ∙ (rw (same_by (Worker w), k.same.reply, k.alike.runs w) (at (is_by (Worker w) e))
      ∙ ap (option_map (next_by f past other)) (sym (workers_run_on s past e w k.legal)))
    where
      stays : (o : Option ℕ) → run past w ≡ o → option_map f o ≡ option_map (next_by f past other) o
      stays None h = refl
      stays (Some n) h = ap Some (sym (old_stays f past other n (run_number s past w n k.legal.2 h)))

      at : (b : Bool) → (if b then run_after (reply_by (next_by f past other) e.reply) (option_map f (run past w))
          else option_map f (run past w))
          ≡ option_map (next_by f past other) (if b then run_after e.reply (run past w) else run past w)
      at true = ran_by f (next_by f past other) e.reply (run past w) (stays (run past w) refl)
      at false = stays (run past w) refl

  pub sleepers_stay : (w : WorkerId) → is_asleep (d ∷ other) w ≡ is_asleep (e ∷ past) w
  unfolding is_asleep
  sleepers_stay w =
      rw (same_by (Worker w), k.same.reply, k.alike.sleepers w)
      (ap (λ b. if is_by (Worker w) e then b else is_asleep past w)
      (asleep_by (next_by f past other) e.reply (is_asleep past w)))

  pub enlisted_stay : (w : WorkerId) → is_enlisted (d ∷ other) w ≡ is_enlisted (e ∷ past) w
  unfolding is_enlisted
  enlisted_stay w =
      rw (
        same_by (Worker w),
        k.same.who,
        k.same.reply,
        k.alike.enlisted w,
        enlisted_by (next_by f past other) e.reply,
        retired_by (next_by f past other) e.reply,
      ) refl

  -- ---- what has started
  pub started_stay : AllByRecursion
      (λ x. is_started (d ∷ other) (next_by f past other x.number) ≡ is_started (e ∷ past) x.number)
      (still_open (e ∷ past))
  started_stay =
      all_in _ (still_open (e ∷ past)) (λ x i. ⊎_elim (old x) (λ is. new x is) (open_old s past e x k.legal i))
    where
      old : (x : Queueing) → In x (still_open past)
          → is_started (d ∷ other) (next_by f past other x.number) ≡ is_started (e ∷ past) x.number
      old x i =
          ap (is_started (d ∷ other)) (old_stays f past other x.number
          (of_in _ (still_open past) x (open_below past) i))
          ∙ ap₂ (λ a b. a || b) (same_starts k x.number (open_matters past x i))
          (of_in _ (still_open past) x k.alike.started i)

      new : (x : Queueing) → opening past e ≡ Some x
          → is_started (d ∷ other) (next_by f past other x.number) ≡ is_started (e ∷ past) x.number
      new x is =
          (opening_inert s other d (Some (queueing_by (next_by f past other) x)) k.other_legal
          (same_opening k ∙ ap (option_map (queueing_by (next_by f past other))) is)).0
          ∙ sym (opening_inert s past e (Some x) k.legal is).0

  -- ---- runs of items
  item_alike : (n : ℕ) → IsOpenNumber past n → item_at other (f n) ≡ item_at past n
  item_alike n h = known (in_map number_of (still_open past) n h)
    where
      known : (x : Queueing) × In x (still_open past) × (number_of x ≡ n) → item_at other (f n) ≡ item_at past n
      known q =
          let mine = (of_in _ (still_open past) q.0 (open_known past) q.1).known in
          let there : In (queueing_by f q.0) (still_open other) =
          subst (In (queueing_by f q.0)) (sym k.alike.opened) (in_mapped (queueing_by f) (still_open past) q.0 q.1)
          in
          let its = (of_in _ (still_open other) (queueing_by f q.0) (open_known other) there).known in
          subst (λ m. item_at other (f m) ≡ item_at past m) q.2 (its.item ∙ sym mine.item)

  starts_in : start_in d ≡ option_map (start_by (next_by f past other)) (start_in e)
  starts_in = rw (k.same.who, k.same.reply, started_by (next_by f past other) e.reply)
      (at (worker_of e.who) (number_started e.reply))
    where
      at : (w : Option WorkerId) (o : Option ℕ)
          → option_and_then (λ w. option_map (λ (n : ℕ). record { worker = w; number = n })
          (option_map (next_by f past other) o)) w
          ≡ option_map (start_by (next_by f past other))
          (option_and_then (λ w. option_map (λ (n : ℕ). record { worker = w; number = n }) o) w)
      at None o = refl
      at (Some w) None = refl
      at (Some w) (Some n) = refl

  pub starts_items : (i : ℕ) → starts_item other d i ≡ starts_item past e i
  starts_items i = ap (λ o. option_map_or (λ (x : Start). is_at (item_at other x.number) i) o false) starts_in
      ∙ at (start_in e) refl
    where
      number : (r : Reply) (who : Who) (x : Start)
          → option_and_then (λ w. option_map (λ (n : ℕ). record { worker = w; number = n }) (number_started r))
          (worker_of who) ≡ Some x
          → number_started r ≡ Some x.number
      number r who x h = grind arith

      at : (o : Option Start) → start_in e ≡ o
          → option_map_or (λ (x : Start). is_at (item_at other x.number) i)
          (option_map (start_by (next_by f past other)) o) false
          ≡ option_map_or (λ (x : Start). is_at (item_at past x.number) i) o false
      at None h = refl
      at (Some x) h =
          let m = started_matters k x.number (number e.reply e.who x h) in
          ap (λ o. is_at o i) (ap (item_at other) (old_stays f past other x.number (matters_below past x.number m))
          ∙ item_alike x.number m)

  ends_runs : (o : Option Start) → ((x : Start) → o ≡ Some x → IsOpenNumber past x.number)
      → ends_run d (option_map (start_by f) o) ≡ ends_run e o
  ends_runs None h = refl
  ends_runs (Some x) h = same_finishes k x.number (inl (h x refl))

  pub item_runs_stay : (i : ℕ) → item_run (d ∷ other) i
      ≡ option_map (start_by (next_by f past other)) (item_run (e ∷ past) i)
  unfolding IsLegal
  item_runs_stay i =
      items_run_on s other d i k.other_legal
      ∙ (rw (
        starts_items i,
        starts_in,
        k.alike.item_runs i,
        ends_runs (item_run past i)
            (λ x h. item_run_open s past i x k.legal.2 h),
      )
      (at (starts_item past e i) (ends_run e (item_run past i)))
      ∙ ap (option_map (start_by (next_by f past other))) (sym (items_run_on s past e i k.legal)))
    where
      stays : (o : Option Start) → item_run past i ≡ o
          → option_map (start_by f) o ≡ option_map (start_by (next_by f past other)) o
      stays None h = refl
      stays (Some x) h = ap (λ n. Some (record x { number = n }))
          (sym (old_stays f past other x.number (matters_below past x.number (item_run_open s past i x k.legal.2 h))))

      at : (a b : Bool)
          → (if a then option_map (start_by (next_by f past other)) (start_in e) else if b then None
          else option_map (start_by f) (item_run past i))
          ≡ option_map (start_by (next_by f past other)) (if a then start_in e else if b then None else item_run past i)
      at true b = refl
      at false true = refl
      at false false = stays (item_run past i) refl
