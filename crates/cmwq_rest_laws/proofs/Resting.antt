-- Where all threads of a script sleep, nobody may move.
use Rattle.std.proofs.Common.{⊎_elim}
use Rattle.std.specs.Prelude.{◌-◌, IfSome, MatchOption, not}
use Rattle.std.specs.Option.{option_map_or}
use Rattle.std.proofs.lemmas.Bool.{both_ways}
use Rattle.std.proofs.lemmas.Option.{get_or_from_slice_get, slice_get_within}
use Rattle.cmwq_theory_steps.specs.Common.{◌≡◌, ◌||◌, ℕ, zero, suc, Bool, true, false, List, [], ◌∷◌, Option, Some}
use Rattle.cmwq_theory_steps.specs.Common.{None, refl, sym, ap, ap₂, ◌∙◌, subst, if◌then◌else◌, is_some, nat_lt}
use Rattle.cmwq_theory_steps.specs.Common.{length, slice_get, Ticket, Caller, Worker, WorkerId, fits, answer}
use Rattle.cmwq_theory_steps.specs.Common.{is_done, number_started}
use Rattle.cmwq_lemmas.proofs.Members.{In, any_in, in_at, in_contained, none_in}
use Rattle.cmwq_model.specs.declared.call.Call.TheVariants as call
use Rattle.cmwq_json_script.specs.declared.action.Action.{Action}
use Rattle.cmwq_json_script.specs.declared.action.Action.TheVariants as action
use Rattle.cmwq_json_script.specs.declared.action.Holder.{Holder}
use Rattle.cmwq_core.specs.History.{IsThere}
use Rattle.cmwq_state.proofs.Steps.{fits_there}
use Rattle.cmwq_theory_wakes.proofs.Starting.{idle_start_alike}
use Rattle.cmwq_dispatch.specs.Dispatched.{Dispatched, past_now}
use Rattle.cmwq_play.specs.Machines.{ends, starts}
use Rattle.cmwq_play.specs.Searches.{AllEnd, IsFine, IsSchedule, after}
use Rattle.cmwq_play.specs.Stands.{Stand, IsDone, has_run, is_free, is_open, may, may_act, may_call}
use Rattle.cmwq_play.specs.Stands.{may_do, may_work, moved, script_at}
use Rattle.cmwq_play.specs.declared.place.CallerAt.{CallerAt}
use Rattle.cmwq_play.specs.declared.place.Doing.{Doing}
use Rattle.cmwq_play.specs.declared.place.Doing.TheVariants.{Acts, AtGate, AtLock, Waits}
use Rattle.cmwq_play.specs.declared.place.RunAt.{RunAt}
use Rattle.cmwq_play.specs.declared.place.Ticketed.{Ticketed}
use Rattle.cmwq_play.specs.declared.place.WorkerAt.{WorkerAt}
use Rattle.cmwq_play.proofs.Ending.{never_ends}
use Rattle.cmwq_play.proofs.Starting.{starts_nothing as planned_starts_nothing, unfit_starts_nothing}
use Rattle.cmwq_rest_laws.specs.Asleep.{AllSleep, Blocks, CallerSleeps, IsHeld, IsShut, RunSleeps, SleepsFor}
use Rattle.cmwq_rest_laws.specs.Asleep.{WorkerSleeps}
use Rattle.cmwq_rest_laws.specs.Resting.{CallerWaits, NoCallerIsLeftAsleep, RunWaits, SleepersAreDone, SleepersAreStuck}
use Rattle.cmwq_rest_laws.specs.Resting.{SleepersMayNotMove}
use Rattle.cmwq_dispatch.proofs.Quiet.{starts_nothing}
use Rattle.cmwq_rest_laws.proofs.Quiet.{sleeper_not_done}

-- ---- a wait for which a caller sleeps does not end

module _ (d : Dispatched) (p : Stand) (asleep : AllSleep d p) where
  sleeper_waits : (c n : ℕ) → SleepsFor d c n → ends p.history (Caller (record { 0 = c })) n ≡ false
  sleeper_waits c n sleeps =
      never_ends p.history (Caller (record { 0 = c })) n
      (ap₂ (λ s past. is_done (answer s past (Caller (record { 0 = c })) (call.End n))) asleep.layout asleep.past
      ∙ ap₂ (λ b m. is_done (answer d.history.layout (past_now d) (Caller (record { 0 = b })) (call.End m)))
      (sym sleeps.of_caller) (sym sleeps.of_number)
      ∙ sleeper_not_done d asleep.stands sleeps.ticket sleeps.registered)

  -- ---- no idle worker starts anything

  none_started : (o : Option ℕ) → is_some o ≡ false → o ≡ None
  none_started None is = refl
  none_started (Some n) is = cc

  worker_starts_nothing : (w : WorkerId) → starts p.history w ≡ None
  worker_starts_nothing w = at (fits p.history.layout (Worker w) call.Take) refl
    where
      at : (b : Bool) → fits p.history.layout (Worker w) call.Take ≡ b → starts p.history w ≡ None
      at false is = unfit_starts_nothing p.history w is
      at true is =
          planned_starts_nothing p.history w
          (none_started _
          (ap₂ (λ s past. is_some (number_started (answer s past (Worker w) call.Take))) asleep.layout asleep.past
          ∙ idle_start_alike d.history.layout (past_now d) w
          ∙ starts_nothing d asleep.legal asleep.stands asleep.lives asleep.idle w
          (subst (λ s. IsThere s (Worker w)) asleep.layout (fits_there p.history.layout (Worker w) call.Take is))))

  -- ---- so nobody may move

  gate_may_not : (gate : ℕ) → IsShut p gate → is_open p gate ≡ false
  gate_may_not gate = by (slice_get p.gates gate)
    where
      by : (o : Option Bool) → (o ≡ Some true → ⊥) → option_map_or (λ is. is) o false ≡ false
      by None shut = refl
      by (Some false) shut = refl
      by (Some true) shut = absurd (shut refl)

  lock_may_not : (lock : ℕ) → IsHeld p lock → is_free p lock ≡ false
  lock_may_not lock = by (slice_get p.locks lock)
    where
      by : (o : Option (Option Holder)) → (o ≡ Some None → ⊥)
          → option_map_or (λ (holder : Option Holder). not (is_some holder)) o false ≡ false
      by None held = refl
      by (Some (Some holder)) held = refl
      by (Some None) held = absurd (held refl)

  action_may_not : (a : Action) → Blocks p a → may_act p a ≡ false
  action_may_not (action.Call c) blocks = absurd blocks
  action_may_not (action.Open gate) blocks = absurd blocks
  action_may_not (action.SleepAt gate) blocks = gate_may_not gate blocks
  action_may_not (action.Lock lock) blocks = lock_may_not lock blocks
  action_may_not (action.Unlock lock) blocks = absurd blocks

  next_may_not : (next : Option Action) → IfSome next (Blocks p) → option_map_or (may_act p) next false ≡ false
  next_may_not None blocks = refl
  next_may_not (Some a) blocks = action_may_not a blocks

  caller_may_not : (k : ℕ) (at : CallerAt) → CallerSleeps d p k at → may_call p k at ≡ false
  caller_may_not k at sleeps = by at.wait (slice_get (script_at p k) at.next) sleeps
    where
      by : (o : Option Ticketed) (next : Option Action)
          → MatchOption o (IfSome next (Blocks p)) (λ wait. SleepsFor d at.id.0 wait.ticket)
          → option_map_or (λ w. ends p.history (Caller at.id) w.ticket) o (option_map_or (may_act p) next false)
          ≡ false
      by None next blocks = next_may_not next blocks
      by (Some wait) next is = sleeper_waits at.id.0 wait.ticket is

  run_may_not : (doing : Doing) → RunSleeps d p doing → may_do p doing ≡ false
  run_may_not Acts sleeps = absurd sleeps
  run_may_not (AtGate gate slept) shut = gate_may_not gate shut
  run_may_not (AtLock lock slept) held = lock_may_not lock held
  run_may_not (Waits caller wait) sleeps = sleeper_waits caller wait.ticket sleeps

  worker_may_not : (at : WorkerAt) → WorkerSleeps d p at → may_work p at ≡ false
  worker_may_not at sleeps = by at.run sleeps
    where
      by : (o : Option RunAt) → IfSome o (λ run. RunSleeps d p run.doing)
          → option_map_or (λ (run : RunAt). may_do p run.doing) o (is_some (starts p.history at.id)) ≡ false
      by None is = ap is_some (worker_starts_nothing at.id)
      by (Some run) is = run_may_not run.doing is

pub sleepers_may_not_move : SleepersMayNotMove
unfolding may
sleepers_may_not_move d p asleep k = at (nat_lt k (length p.callers))
  where
    of_caller : (o : Option CallerAt) → slice_get p.callers k ≡ o → option_map_or (may_call p k) o false ≡ false
    of_caller None is = refl
    of_caller (Some at) is = caller_may_not d p asleep k at (asleep.callers k at is)

    of_worker : (o : Option WorkerAt) → slice_get p.workers (k - length p.callers) ≡ o
        → option_map_or (may_work p) o false ≡ false
    of_worker None is = refl
    of_worker (Some at) is = worker_may_not d p asleep at (asleep.workers (k - length p.callers) at is)

    at : (b : Bool)
        → (if b then option_map_or (may_call p k) (slice_get p.callers k) false
        else option_map_or (may_work p) (slice_get p.workers (k - length p.callers)) false) ≡ false
    at true = of_caller (slice_get p.callers k) refl
    at false = of_worker (slice_get p.workers (k - length p.callers)) refl

pub sleepers_are_stuck : SleepersAreStuck
sleepers_are_stuck start schedule d goes asleep left = record {
  goes = goes;
  rests = sleepers_may_not_move d (after start schedule) asleep;
  not_done = left;
}

-- ---- where every schedule ends, each one leads to a stand that is not stuck

fine_after : (n : ℕ) (p : Stand) (schedule : List ℕ) → AllEnd n p → IsSchedule p schedule → IsFine (after p schedule)
unfolding AllEnd
fine_after zero p [] all goes = all.0
fine_after zero p (party ∷ more) all goes = absurd (both_ways (may p party) (all.1 party) goes.0)
fine_after (suc n) p [] all goes = all.0
fine_after (suc n) p (party ∷ more) all goes = fine_after n (moved p party) more (all.1 party goes.0) goes.1

pub sleepers_are_done : SleepersAreDone
sleepers_are_done n start schedule d all goes asleep =
    fine_after n start schedule all goes (sleepers_may_not_move d (after start schedule) asleep)

-- ---- and nobody sleeps there

no_caller_waits : (p : Stand) (t : Ticket) → IsDone p → CallerWaits p t → ⊥
no_caller_waits p t done at =
    both_ways _ (done.callers at.place at.caller at.stands)
    (ap (λ o. is_some o || nat_lt at.caller.next (length (script_at p at.place))) at.waits)

no_run_waits : (p : Stand) (t : Ticket) → IsDone p → RunWaits p t → ⊥
no_run_waits p t done at =
    let here : In at.worker p.workers =
    in_at p.workers at.place at.worker (slice_get_within p.workers at.place at.worker at.stands)
    (get_or_from_slice_get p.workers at.place at.worker at.worker at.stands) in
    both_ways _ done.workers (any_in has_run p.workers at.worker here (ap is_some at.runs))

pub no_caller_is_left_asleep : NoCallerIsLeftAsleep
no_caller_is_left_asleep n start schedule d all goes asleep of_script =
    none_in d.asleep.tickets (λ t here.
    ⊎_elim (λ waits. no_caller_waits (after start schedule) t done waits)
    (λ waits. no_run_waits (after start schedule) t done waits)
    (of_script t (in_contained d.asleep.tickets t here)))
  where
    done : IsDone (after start schedule)
    done = sleepers_are_done n start schedule d all goes asleep
