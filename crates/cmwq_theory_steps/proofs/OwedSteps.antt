-- What a history owes after one more entry: runs, sleepers, bookings, tickets and what waits.
use Rattle.cmwq_theory_steps.specs.Common.{◌≡◌, ◌<◌, ◌+◌, ℕ, Bool, true, false, ◌&&◌, List, ◌∷◌, count_by, Option, None}
use Rattle.cmwq_theory_steps.specs.Common.{nat_lt, refl, sym, ap, ap₂, ◌∙◌, subst, arith, is_some, if◌then◌else◌}
use Rattle.cmwq_theory_steps.specs.Common.{IsTrue, ltb-true, CallerId, WorkerId, Who, Caller, Worker, Call, Reply}
use Rattle.cmwq_theory_steps.specs.Common.{Entry, Layout, fits, is_workers, has_numbers, is_by, same_who, same_worker}
use Rattle.cmwq_theory_steps.specs.Common.{number_started, number_finished, run, has_run, asleep_after, is_asleep}
use Rattle.cmwq_theory_steps.specs.Common.{runs_asleep, workers, IsLegal, All_each}
use Rattle.cmwq_theory_steps.specs.RunSteps.{run_after}
use Rattle.cmwq_theory_steps.specs.Histories.{one}
use Rattle.cmwq_theory_steps.specs.RoomSteps.{is_slept, is_woke, run_count, sleeper_count}
use Rattle.cmwq_lemmas.proofs.Filters.{count_by-same}
use Rattle.cmwq_theory_steps.proofs.Points.{count_point, is_worker, worker_once}
use Rattle.cmwq_theory_steps.proofs.ItemRuns.{same_worker-true, same_worker_itself}
use Rattle.cmwq_theory_steps.proofs.RunSteps.{workers_run_on}
use Rattle.cmwq_theory_steps.proofs.Causes.{Cause, cause_of}
use Rattle.cmwq_theory_steps.proofs.Causes as cause
use Rattle.cmwq_theory_steps.proofs.Reasons.{legal_fits}
use Rattle.std.proofs.lemmas.Bool.{and_parts, both_ways, false_from_ne_true}

-- ---- the worker of an entry is one of the layout's

worker_within : (s : Layout) (w : WorkerId) (c : Call) → IsTrue (fits s (Worker w) c)
    → (w.pool.cpu.0 < s.cpus) × (w.index < s.workers)
worker_within s w c fit =
    let k = and_parts _ _
    (and_parts _ _
    (and_parts (nat_lt w.pool.cpu.0 s.cpus && nat_lt w.index s.workers && is_workers c) (has_numbers s c)
    fit).0).0 in
    (ltb-true w.pool.cpu.0 s.cpus k.0, ltb-true w.index s.workers k.1)

same_swap : (v w : WorkerId) → same_worker w v ≡ false → same_worker v w ≡ false
same_swap v w h =
    false_from_ne_true _ (λ k. let is = same_worker-true v w k in
    both_ways _ h (subst (λ u. same_worker u v ≡ true) is (same_worker_itself v)))

-- an entry changes what is said of its own worker alone
abbrev ChangesOwn : Entry → (WorkerId → Bool) → (WorkerId → Bool) → Type 0
ChangesOwn e f g = (v : WorkerId) → is_by (Worker v) e ≡ false → f v ≡ g v

own_counted : (s : Layout) (past : List Entry) (e : Entry) (f g : WorkerId → Bool) (w : WorkerId) → IsLegal s (e ∷ past)
    → e.who ≡ Worker w → ChangesOwn e f g → count_by g (workers s) + one (f w) ≡ count_by f (workers s) + one (g w)
own_counted s past e f g w legal who others =
    let within = worker_within s w e.call (subst (λ x. IsTrue (fits s x e.call)) who (legal_fits s past e legal)) in
    count_point (is_worker w) f g (f w) (g w) (workers s) (worker_once s w within.0 within.1)
    (λ v h. ap f (same_worker-true v w h)) (λ v h. ap g (same_worker-true v w h))
    (λ v h. others v (ap (λ x. same_who x (Worker v)) who ∙ same_swap w v h))

-- a caller's entry starts, finishes, puts to sleep and wakes nothing
record IsNoWorkers (r : Reply) : Type 0 where
  started : number_started r ≡ None
  finished : number_finished r ≡ None
  woke : is_woke r ≡ false
  slept : is_slept r ≡ false

callers_reply : (s : Layout) (past : List Entry) (c : Call) (r : Reply) (d : CallerId) → Cause s past (Caller d) c r
    → IsNoWorkers r
callers_reply s past c r d (cause.told w t) = record { started = refl; finished = refl; woke = refl; slept = refl }
callers_reply s past c r d other = record { started = refl; finished = refl; woke = refl; slept = refl }

-- ---- runs

abbrev has_after : List Entry → WorkerId → Reply → Bool
has_after past w r = is_some (run_after r (run past w))

abbrev run_when : List Entry → WorkerId → Reply → Bool → Option ℕ
run_when past w r b = if b then run_after r (run past w) else run past w

has_run_on : (s : Layout) (past : List Entry) (e : Entry) (w : WorkerId) (b : Bool) → IsLegal s (e ∷ past)
    → is_by (Worker w) e ≡ b → has_run (e ∷ past) w ≡ is_some (run_when past w e.reply b)
has_run_on s past e w b legal h = ap is_some (workers_run_on s past e w legal ∙ ap (run_when past w e.reply) h)

pub by_itself : (e : Entry) (w : WorkerId) → e.who ≡ Worker w → is_by (Worker w) e ≡ true
by_itself e w who = ap (λ (x : Who). same_who x (Worker w)) who ∙ same_worker_itself w

pub by_whom : (e : Entry) (v w : WorkerId) → e.who ≡ Worker v → is_by (Worker w) e ≡ true → v ≡ w
by_whom e v w who by = same_worker-true v w (sym (ap (λ (x : Who). same_who x (Worker w)) who) ∙ by)

pub same_starter : (v w : WorkerId) → Worker v ≡ Worker w → v ≡ w
same_starter v w h = cc

-- what is counted of the workers changes as what an entry says of its own
counted_on : (s : Layout) (past : List Entry) (e : Entry) (f g : WorkerId → Bool) (a b : Bool) (who : Who)
    → IsLegal s (e ∷ past) → e.who ≡ who → ChangesOwn e f g
    → (IsNoWorkers e.reply → (a ≡ false) × (b ≡ false))
    → ((w : WorkerId) → Cause s past (Worker w) e.call e.reply → is_by (Worker w) e ≡ true
    → one (g w) + one a ≡ one (f w) + one b) → count_by g (workers s) + one a ≡ count_by f (workers s) + one b
counted_on s past e f g a b (Caller d) legal who others quiet own =
    let k = quiet
    (callers_reply s past e.call e.reply d
    (subst (λ x. Cause s past x e.call e.reply) who (cause_of s past e legal))) in
    let same =
    count_by-same g f (workers s)
    (All_each _ (workers s) (λ v. sym (others v (ap (λ x. same_who x (Worker v)) who)))) in
    omega (arith, ap one (k.0 ∙ sym k.1))
counted_on s past e f g a b (Worker w) legal who others quiet own =
    omega (
      arith,
      own_counted s past e f g w legal who others,
      own w (subst (λ x. Cause s past x e.call e.reply) who (cause_of s past e legal)) (by_itself e w who),
    )

runs_balance : (s : Layout) (past : List Entry) (c : Call) (r : Reply) (w : WorkerId) → Cause s past (Worker w) c r
    → one (has_after past w r) + one (is_some (number_finished r))
    ≡ one (has_run past w) + one (is_some (number_started r))
runs_balance s past c r w (cause.starts v x enlisted idle found clear none) = ap (λ b. one b + 1) (sym idle)
runs_balance s past c r w (cause.enlists v x y enlisted idle found clear some) = ap (λ b. one b + 1) (sym idle)
runs_balance s past c r w (cause.finishes v n awake runs) = ap (λ o. one (is_some o) + 0) (sym runs)
runs_balance s past c r w other = refl

pub runs_counted : (s : Layout) (past : List Entry) (e : Entry) → IsLegal s (e ∷ past)
    → run_count s (e ∷ past) + one (is_some (number_finished e.reply))
    ≡ run_count s past + one (is_some (number_started e.reply))
runs_counted s past e legal =
    counted_on s past e (has_run past) (has_run (e ∷ past)) _ _ e.who legal refl
    (λ v other. sym (has_run_on s past e v false legal other)) (λ k. (ap is_some k.finished, ap is_some k.started))
    (λ w c own. ap (λ b. one b + one (is_some (number_finished e.reply))) (has_run_on s past e w true legal own)
    ∙ runs_balance s past e.call e.reply w c)

-- ---- sleepers

abbrev sleeps_after : List Entry → WorkerId → Reply → Bool
sleeps_after past w r = has_after past w r && asleep_after r (is_asleep past w)

sleeps_on : (s : Layout) (past : List Entry) (e : Entry) (w : WorkerId) (b : Bool) → IsLegal s (e ∷ past)
    → is_by (Worker w) e ≡ b
    → runs_asleep (e ∷ past) w ≡ (if b then sleeps_after past w e.reply else runs_asleep past w)
unfolding is_asleep
sleeps_on s past e w true legal h =
    ap₂ (λ a c. a && (if c then asleep_after e.reply (is_asleep past w) else is_asleep past w))
    (has_run_on s past e w true legal h) h
sleeps_on s past e w false legal h =
    ap₂ (λ a c. a && (if c then asleep_after e.reply (is_asleep past w) else is_asleep past w))
    (has_run_on s past e w false legal h) h

sleepers_balance : (s : Layout) (past : List Entry) (c : Call) (r : Reply) (w : WorkerId) → Cause s past (Worker w) c r
    → one (sleeps_after past w r) + one (is_woke r) ≡ one (runs_asleep past w) + one (is_slept r)
sleepers_balance s past c r w (cause.starts v x enlisted idle found clear none) =
    ap (λ b. one (b && is_asleep past w) + 0) (sym idle)
sleepers_balance s past c r w (cause.enlists v x y enlisted idle found clear some) =
    ap (λ b. one (b && is_asleep past w) + 0) (sym idle)
sleepers_balance s past c r w (cause.finishes v n awake runs) = grind arith
sleepers_balance s past c r w (cause.sleeps v awake) = grind arith
sleepers_balance s past c r w (cause.wakes v asleep) = grind arith
sleepers_balance s past c r w other = refl

pub sleepers_counted : (s : Layout) (past : List Entry) (e : Entry) → IsLegal s (e ∷ past)
    → sleeper_count s (e ∷ past) + one (is_woke e.reply) ≡ sleeper_count s past + one (is_slept e.reply)
sleepers_counted s past e legal =
    counted_on s past e (runs_asleep past) (runs_asleep (e ∷ past)) _ _ e.who legal refl
    (λ v other. sym (sleeps_on s past e v false legal other)) (λ k. (k.woke, k.slept))
    (λ w c own. ap (λ b. one b + one (is_woke e.reply)) (sleeps_on s past e w true legal own)
    ∙ sleepers_balance s past e.call e.reply w c)
