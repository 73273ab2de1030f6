-- The examples, by computation.
use Rattle.std.proofs.Common.{⊎_elim}
use Rattle.std.specs.Prelude.{◌⊎◌, ◌*◌}
use Rattle.std.specs.Option.{option_map_or}
use Rattle.std.specs.List.{AllByRecursion}
use Rattle.std.proofs.lemmas.Bool.{both_ways, and_parts, eqb-true, false_from_ne_true}
use Rattle.std.proofs.lemmas.Option.{same_Some, slice_get_past}
use Rattle.cmwq_theory_steps.specs.Common.{◌≡◌, ◌<◌, ◌+◌, ◌||◌, ◌==◌, ℕ, zero, suc, Bool, true, false, List, []}
use Rattle.cmwq_theory_steps.specs.Common.{◌∷◌, Option, Some, None, refl, sym, ap, ap₂, ◌∙◌, subst, arith, inl}
use Rattle.cmwq_theory_steps.specs.Common.{inr, if◌then◌else◌, map, slice_get, Entry, Ticket}
use Rattle.cmwq_theory_steps.specs.Common.{Worker, WorkerId, PoolId, Who, Call, fits, worker_at, IsLegal, past_of}
use Rattle.cmwq_lemmas.proofs.Truth.{or_false}
use Rattle.cmwq_model.specs.Prelude.{steps}
use Rattle.cmwq_model_examples.specs.Words.{call_made, flush}
use Rattle.cmwq_model_examples.proofs.Definitions.{definitions}
use Rattle.cmwq_theory_laws.proofs.OneEntry.{steps_are_legal}
use Rattle.cmwq_json_script.specs.declared.action.Action.{Action}
use Rattle.cmwq_json_script.specs.declared.action.Action.TheVariants as action
use Rattle.cmwq_core.specs.History.{IsThere}
use Rattle.cmwq_theory_wakes.specs.Starting.{Attendant, IsAttended, allows_start, worker_is_idle}
use Rattle.cmwq_theory_wakes.specs.Rest.{NoneForgotten}
use Rattle.cmwq_dispatch.specs.Asleep.{IsLookedAfter, NobodySleeps}
use Rattle.cmwq_dispatch.specs.Dispatched.{Dispatched, Stands}
use Rattle.cmwq_dispatch.specs.Pools.{AllRecorded, pool_number, rests}
use Rattle.cmwq_dispatch.specs.Resting.{IsRecorded, rests_in}
use Rattle.cmwq_dispatch.specs.Sets.{has}
use Rattle.cmwq_dispatch.specs.declared.resting.RestingWorkers.{RestingWorkers}
use Rattle.cmwq_dispatch.proofs.Sets.{has_more, none_has}
use Rattle.cmwq_play.specs.Machines.{called, ends, replied, starts, stepped}
use Rattle.cmwq_play.specs.Searches.{IsSchedule, after}
use Rattle.cmwq_play.specs.Stands.{Stand, IsDone, caller_acted, caller_moved, may, moved}
use Rattle.cmwq_play.specs.declared.place.CallerAt.{CallerAt}
use Rattle.cmwq_play.specs.declared.place.Doing.TheVariants.{Acts, AtGate, AtLock, Waits}
use Rattle.cmwq_play.specs.declared.place.Doing.{Doing}
use Rattle.cmwq_play.specs.declared.place.WorkerAt.{WorkerAt}
use Rattle.cmwq_rest_laws.specs.Asleep.{AllSleep, CallerSleeps, SleepsFor, WorkerSleeps}
use Rattle.cmwq_rest_laws.specs.Needed.{Holds, IsNeeded, Premise, PremisesAreNeeded, SleepForEver, SomeSleepForEver}
use Rattle.cmwq_rest_laws.specs.Needed.{about_to, elsewhere, empty_hub, flushed, flusher, freezing, frozen, frozen_hub}
use Rattle.cmwq_rest_laws.specs.Needed.{frozen_stand, history_of, hub_where, locked_stand, locking, made_up}
use Rattle.cmwq_rest_laws.specs.Needed.{pool_where, queued, queued_behind, queuer, runner, running, small}
use Rattle.cmwq_rest_laws.specs.Needed.{ticket_where, wait_where, waiting}
use Rattle.cmwq_rest_laws.specs.Needed as needed
use Rattle.cmwq_rest_laws.proofs.Resting.{sleepers_are_stuck}

-- ---- histories that are legal

legal_by : (entries : List Entry)
    → AllByRecursion (λ (c : Who × Call). fits small c.0 c.1 ≡ true) (map call_made entries)
    → (steps small 100 (map call_made entries)).past ≡ past_of entries → IsLegal small (past_of entries)
legal_by entries fit gives = subst (IsLegal small) gives (steps_are_legal small 100 (map call_made entries) fit)

-- ---- the two pools

abbrev pool : Bool → PoolId
pool high = record { cpu = record { 0 = 0 }; high = high }

abbrev pools_where : Bool → Bool → List RestingWorkers
pools_where a b = pool_where a ∷ pool_where b ∷ []

abbrev rests_where : Bool → Bool → Bool → Bool
rests_where a b high = if high then b else a

-- whatever stands at a pool's number is that pool's
at_pool : (a b : Bool) (c : ℕ) (high : Bool) (z : RestingWorkers)
    → slice_get (pools_where a b) (2 * c + (if high then 1 else 0)) ≡ Some z
    → (c ≡ 0) × (z ≡ pool_where (rests_where a b high))
at_pool a b zero false z is = (refl, sym (same_Some (pool_where a) z is))
at_pool a b zero true z is = (refl, sym (same_Some (pool_where b) z is))
at_pool a b (suc c) high z is =
    let none = slice_get_past (pools_where a b) (2 * suc c + (if high then 1 else 0)) (omega arith) in
    cc

of_pool : (p : PoolId) → p.cpu.0 ≡ 0 → p ≡ pool p.high
of_pool p is = ap (λ n. record { cpu = record { 0 = n }; high = p.high }) is

has_one : (x : ℕ) → has 1 x ≡ true → x ≡ 0
has_one x is = eqb-true x 0 (sym (has_more 0 0 x (omega arith) ∙ ap (λ b. b || (x == 0)) (none_has x)) ∙ is)

-- the only worker of the pool rests, and no other
enlisted_one : (b : Bool) (x : ℕ) → has (if b then 1 else 0) x ≡ true → (b ≡ true) × (x ≡ 0)
enlisted_one true x is = (refl, has_one x is)
enlisted_one false x is = absurd (both_ways _ (none_has x) is)

rests_one : (b : Bool) (x : ℕ) → rests_in (pool_where b) x ≡ true → (b ≡ true) × (x ≡ 0)
rests_one b x is =
    enlisted_one b x (sym (ap (λ c. has (if b then 1 else 0) x || c) (none_has x) ∙ or_false _) ∙ is)

rests_there : (a b high : Bool) → rests (pools_where a b) (worker_at (pool high) 0) ≡ rests_where a b high
rests_there true true true = refl
rests_there true true false = refl
rests_there true false true = refl
rests_there true false false = refl
rests_there false true true = refl
rests_there false true false = refl
rests_there false false true = refl
rests_there false false false = refl

-- ---- the hub

module _ (before : List Entry) where
  recorded_in : (high rest : Bool) → (rest ≡ true → worker_is_idle before (worker_at (pool high) 0) ≡ true)
      → IsRecorded before (pool high) (pool_where rest)
  recorded_in high rest idle = record {
    enlisted = λ x is.
        let one = enlisted_one rest x is in
        subst (λ y. worker_is_idle before (worker_at (pool high) y) ≡ true) (sym one.1) (idle one.0);
    reserve = λ x is. absurd (both_ways _ (none_has x) is);
    named = λ x is. cc;
    looks = λ x is. cc;
  }

  recorded : (a b : Bool)
      → ((high : Bool) → rests_where a b high ≡ true → worker_is_idle before (worker_at (pool high) 0) ≡ true)
      → AllRecorded before (pools_where a b)
  recorded a b idle p z is =
      let k = at_pool a b p.cpu.0 p.high z is in
      subst (λ q. IsRecorded before q z) (sym (of_pool p k.0))
      (subst (IsRecorded before (pool p.high)) (sym k.1)
      (recorded_in p.high (rests_where a b p.high) (idle p.high)))

  -- each pool that has a resting worker has nothing to start, or an attendant
  attended_or : (a b : Bool)
      → ((high : Bool) → rests_where a b high ≡ true → (allows_start small before (pool high) ≡ false)
      ⊎ Attendant before (rests (pools_where a b)) (pool high)) → (p : PoolId)
      → IsAttended small before (rests (pools_where a b)) p
  attended_or a b each p w of resting would = at (slice_get (pools_where a b) (pool_number w.pool)) refl
    where
      at : (o : Option RestingWorkers) → slice_get (pools_where a b) (pool_number w.pool) ≡ o
          → Attendant before (rests (pools_where a b)) p
      at None is = absurd (both_ways _ (ap (λ o. option_map_or (λ z. rests_in z w.index) o false) is) resting)
      at (Some z) is =
          let k = at_pool a b w.pool.cpu.0 w.pool.high z is in
          let there : rests_in (pool_where (rests_where a b w.pool.high)) w.index ≡ true =
          ap (λ y. rests_in y w.index) (sym k.1)
          ∙ sym (ap (λ o. option_map_or (λ y. rests_in y w.index) o false) is) ∙ resting in
          ⊎_elim (λ none. absurd (both_ways _ (ap (allows_start small before) (of_pool w.pool k.0) ∙ none)
          (and_parts (worker_is_idle before w) (allows_start small before w.pool) would).1))
          (λ one. subst (Attendant before (rests (pools_where a b))) (sym (of_pool w.pool k.0) ∙ of) one)
          (each w.pool.high (rests_one (rests_where a b w.pool.high) w.index there).0)

  attended : (a b : Bool)
      → ((high : Bool) → rests_where a b high ≡ true → allows_start small before (pool high) ≡ false)
      → (p : PoolId) → IsAttended small before (rests (pools_where a b)) p
  attended a b none = attended_or a b (λ high is. inl (none high is))

  looked_after : (tickets : List Ticket) (a b : Bool)
      → NoneForgotten small before tickets (rests (pools_where a b))
      → AllByRecursion (λ t. t.caller.0 < 2) tickets
      → ((high : Bool) → rests_where a b high ≡ true → worker_is_idle before (worker_at (pool high) 0) ≡ true)
      → IsLookedAfter small before (record { tickets = tickets; pools = pools_where a b })
  looked_after tickets a b none there idle =
      record { none_forgotten = none; callers = there; recorded = recorded a b idle; places = refl }

  -- each worker of the layout is the only one of its pool
  idle_rest : (a b : Bool)
      → ((high : Bool) → worker_is_idle before (worker_at (pool high) 0) ≡ true → rests_where a b high ≡ true)
      → (w : WorkerId) → IsThere small (Worker w) → worker_is_idle before w ≡ true → rests (pools_where a b) w ≡ true
  idle_rest a b all w there idle =
      let one : w ≡ worker_at (pool w.pool.high) 0 = only w there in
      ap (rests (pools_where a b)) one ∙ rests_there a b w.pool.high
      ∙ all w.pool.high (sym (ap (worker_is_idle before) one) ∙ idle)
    where
      only : (w : WorkerId) → IsThere small (Worker w) → w ≡ worker_at (pool w.pool.high) 0
      only w there =
          ap₂ (λ c x. record { pool = record { cpu = record { 0 = c }; high = w.pool.high }; index = x })
          (let less = there.0 in omega (arith, less)) (let less = there.1 in omega (arith, less))

stands_open : (entries : List Entry) (tickets : List Ticket) (a b : Bool)
    → IsLookedAfter small (past_of entries) (record { tickets = tickets; pools = pools_where a b })
    → Stands (hub_where entries false tickets a b)
stands_open entries tickets a b after =
    record { looked_after = after; over = λ is. cc }

-- ---- the stand

one_of : {X : Type 0} (x y : X) (k : ℕ) → slice_get (x ∷ []) k ≡ Some y → (k ≡ 0) × (x ≡ y)
one_of x y zero is = (refl, same_Some x y is)
one_of x y (suc k) is = let none = slice_get_past (x ∷ []) (suc k) (omega arith) in cc

two_of : {X : Type 0} (P : X → Type 0) (x y z : X) (k : ℕ) → P x → P y → slice_get (x ∷ y ∷ []) k ≡ Some z → P z
two_of P x y z zero px py is = subst P (same_Some x z is) px
two_of P x y z (suc zero) px py is = subst P (same_Some y z is) py
two_of P x y z (suc (suc k)) px py is = let none = slice_get_past (x ∷ y ∷ []) (suc (suc k)) (omega arith) in cc

only_caller : (d : Dispatched) (p : Stand) (c : CallerAt) → p.callers ≡ c ∷ [] → CallerSleeps d p 0 c
    → (k : ℕ) (at : CallerAt) → slice_get p.callers k ≡ Some at → CallerSleeps d p k at
only_caller d p c only sleeps k at is =
    let one = one_of c at k (ap (λ cs. slice_get cs k) (sym only) ∙ is) in
    subst (λ (j : ℕ). CallerSleeps d p j at) (sym one.0) (subst (CallerSleeps d p 0) one.1 sleeps)

both_workers : (d : Dispatched) (p : Stand) (v w : WorkerAt) → p.workers ≡ v ∷ w ∷ [] → WorkerSleeps d p v
    → WorkerSleeps d p w → (k : ℕ) (at : WorkerAt) → slice_get p.workers k ≡ Some at → WorkerSleeps d p at
both_workers d p v w both sv sw k at is =
    two_of (WorkerSleeps d p) v w at k sv sw (ap (λ ws. slice_get ws k) (sym both) ∙ is)

-- ---- all sleep

frozen_legal : IsLegal small (past_of frozen)
unfolding definitions
frozen_legal = legal_by frozen (refl, (refl, (refl, tt))) refl

frozen_stands : Stands frozen_hub
unfolding definitions
frozen_stands =
    stands_open frozen (ticket_where 0 (flush 0) 2 ∷ []) true true
    (looked_after (past_of frozen) (ticket_where 0 (flush 0) 2 ∷ []) true true
    (record {
      known = (refl, tt);
      callers = (refl, tt);
      workers = attended (past_of frozen) true true none;
    }) (omega arith, tt) idle)
  where
    none : (high : Bool) → rests_where true true high ≡ true → allows_start small (past_of frozen) (pool high) ≡ false
    none true is = refl
    none false is = refl

    idle : (high : Bool) → rests_where true true high ≡ true
        → worker_is_idle (past_of frozen) (worker_at (pool high) 0) ≡ true
    idle true is = refl
    idle false is = refl

frozen_asleep : AllSleep frozen_hub frozen_stand
frozen_asleep = record {
  legal = frozen_legal;
  stands = frozen_stands;
  lives = refl;
  idle = λ lasts. idle_rest (past_of frozen) true true both;
  layout = refl;
  past = refl;
  callers = only_caller frozen_hub frozen_stand _ refl
      (record {
        ticket = ticket_where 0 (flush 0) 2;
        registered = (0, omega arith, refl);
        of_caller = refl;
        of_number = refl;
      });
  workers = both_workers frozen_hub frozen_stand _ _ refl tt tt;
}
  where
    both : (high : Bool) → worker_is_idle (past_of frozen) (worker_at (pool high) 0) ≡ true
        → rests_where true true high ≡ true
    both true is = refl
    both false is = refl

frozen_leads : after freezing (0 ∷ 0 ∷ 0 ∷ []) ≡ frozen_stand
unfolding definitions moved caller_moved caller_acted called stepped replied ends
frozen_leads = refl

frozen_goes : IsSchedule freezing (0 ∷ 0 ∷ 0 ∷ [])
unfolding definitions may moved caller_moved caller_acted called stepped replied ends
frozen_goes = (refl, (refl, (refl, tt)))

frozen_for_ever : SleepForEver freezing (0 ∷ 0 ∷ 0 ∷ []) frozen_hub frozen_stand
frozen_for_ever = record {
  leads = frozen_leads;
  asleep = frozen_asleep;
  stuck = sleepers_are_stuck freezing (0 ∷ 0 ∷ 0 ∷ []) frozen_hub frozen_goes
      (subst (AllSleep frozen_hub) (sym frozen_leads) frozen_asleep)
      (λ done. both_ways _ ((subst IsDone frozen_leads done).callers 0 _ refl) refl);
}

-- ---- all sleep in an empty hub

-- which of the two workers rest
both_rest : (high : Bool) → rests_where true true high ≡ true
both_rest true = refl
both_rest false = refl

none_rests : (high : Bool) → rests_where false false high ≡ true → ⊥
none_rests true is = cc
none_rests false is = cc

empty_legal : IsLegal small []
unfolding IsLegal
empty_legal = tt

-- a hub in which nobody sleeps but these workers
resting_hub : (entries : List Entry) (a b : Bool)
    → ((high : Bool) → rests_where a b high ≡ true → allows_start small (past_of entries) (pool high) ≡ false)
    → ((high : Bool) → rests_where a b high ≡ true
    → worker_is_idle (past_of entries) (worker_at (pool high) 0) ≡ true) → Stands (hub_where entries false [] a b)
resting_hub entries a b none rests_idle =
    stands_open entries [] a b
    (looked_after (past_of entries) [] a b
    (record { known = tt; callers = tt; workers = attended (past_of entries) a b none }) tt rests_idle)

empty_stands : Stands empty_hub
unfolding definitions
empty_stands = resting_hub [] true true none at_rest
  where
    none : (high : Bool) → rests_where true true high ≡ true → allows_start small [] (pool high) ≡ false
    none true is = refl
    none false is = refl

    at_rest : (high : Bool) → rests_where true true high ≡ true → worker_is_idle [] (worker_at (pool high) 0) ≡ true
    at_rest true is = refl
    at_rest false is = refl

empty_rest : (w : WorkerId) → IsThere small (Worker w) → worker_is_idle [] w ≡ true
    → rests (pools_where true true) w ≡ true
empty_rest = idle_rest [] true true (λ high is. both_rest high)

locked_asleep : AllSleep empty_hub locked_stand
locked_asleep = record {
  legal = empty_legal;
  stands = empty_stands;
  lives = refl;
  idle = λ lasts. empty_rest;
  layout = refl;
  past = refl;
  callers = only_caller empty_hub locked_stand _ refl (λ is. cc);
  workers = both_workers empty_hub locked_stand _ _ refl tt tt;
}

locked_leads : after locking (0 ∷ []) ≡ locked_stand
unfolding moved caller_moved caller_acted
locked_leads = refl

locked_goes : IsSchedule locking (0 ∷ [])
unfolding may
locked_goes = (refl, tt)

locked_for_ever : SleepForEver locking (0 ∷ []) empty_hub locked_stand
locked_for_ever = record {
  leads = locked_leads;
  asleep = locked_asleep;
  stuck = sleepers_are_stuck locking (0 ∷ []) empty_hub locked_goes
      (subst (AllSleep empty_hub) (sym locked_leads) locked_asleep)
      (λ done. both_ways _ ((subst IsDone locked_leads done).callers 0 _ refl) refl);
}

pub some_sleep_for_ever : SomeSleepForEver
some_sleep_for_ever = record { in_hub = frozen_for_ever; at_lock = locked_for_ever }

-- ---- where a premise is left out, one moves

queued_legal : IsLegal small (past_of queued)
unfolding definitions
queued_legal = legal_by queued (refl, tt) refl

flushed_legal : IsLegal small (past_of flushed)
unfolding definitions
flushed_legal = legal_by flushed (refl, tt) refl

running_legal : IsLegal small (past_of running)
unfolding definitions
running_legal = legal_by running (refl, (refl, tt)) refl

waiting_legal : IsLegal small (past_of waiting)
unfolding definitions
waiting_legal = legal_by waiting (refl, (refl, (refl, (refl, tt)))) refl

queued_behind_legal : IsLegal small (past_of queued_behind)
unfolding definitions
queued_behind_legal = legal_by queued_behind (refl, (refl, (refl, tt))) refl

-- in a hub that has failed nobody sleeps
nobody_rests : (w : WorkerId) → rests (pools_where false false) w ≡ false
nobody_rests w = at (slice_get (pools_where false false) (pool_number w.pool)) refl
  where
    at : (o : Option RestingWorkers) → slice_get (pools_where false false) (pool_number w.pool) ≡ o
        → rests (pools_where false false) w ≡ false
    at None is = ap (λ o. option_map_or (λ z. rests_in z w.index) o false) is
    at (Some z) is =
        let k = at_pool false false w.pool.cpu.0 w.pool.high z is in
        ap (λ o. option_map_or (λ y. rests_in y w.index) o false) is ∙ ap (λ y. rests_in y w.index) k.1
        ∙ false_from_ne_true _ (λ resting.
        none_rests w.pool.high (rests_one (rests_where false false w.pool.high) w.index resting).0)

nobody_sleeps : NobodySleeps (record { tickets = []; pools = pools_where false false })
nobody_sleeps = record {
  callers = refl;
  workers = nobody_rests;
  recorded = λ before. recorded before false false (λ high is. absurd (none_rests high is));
}

failed_hub : Stands (hub_where queued true [] false false)
failed_hub = record {
  looked_after = looked_after (past_of queued) [] false false
      (record {
        known = tt;
        callers = tt;
        workers = attended (past_of queued) false false (λ high is. absurd (none_rests high is));
      }) tt (λ high is. absurd (none_rests high is));
  over = λ is. nobody_sleeps;
}

-- the caller that flushes sleeps, and the others have made their call
flush_sleeps : (a b : Bool) → SleepsFor (hub_where flushed false (ticket_where 0 (flush 0) 0 ∷ []) a b) 0 0
flush_sleeps a b = record {
  ticket = ticket_where 0 (flush 0) 0;
  registered = (0, omega arith, refl);
  of_caller = refl;
  of_number = refl;
}

queuer_is_done : (d : Dispatched) (entries : List Entry) (k : ℕ) (at : CallerAt)
    → slice_get (queuer entries).callers k ≡ Some at → CallerSleeps d (queuer entries) k at
queuer_is_done d entries = only_caller d (queuer entries) _ refl tt

queuer_runs_none : (d : Dispatched) (entries : List Entry) (k : ℕ) (at : WorkerAt)
    → slice_get (queuer entries).workers k ≡ Some at → WorkerSleeps d (queuer entries) at
queuer_runs_none d entries = both_workers d (queuer entries) _ _ refl tt tt

flusher_runs_none : (d : Dispatched) (k : ℕ) (at : WorkerAt) → slice_get flusher.workers k ≡ Some at
    → WorkerSleeps d flusher at
flusher_runs_none d = both_workers d flusher _ _ refl tt tt

needs_stands : IsNeeded needed.stands (hub_where flushed false (ticket_where 0 (flush 0) 0 ∷ []) true true) flusher 0
unfolding definitions may ends replied
needs_stands = record { others = others; moves = refl }
  where
    others : (r : Premise) → (r ≡ needed.stands → ⊥)
        → Holds r (hub_where flushed false (ticket_where 0 (flush 0) 0 ∷ []) true true) flusher
    others needed.legal not = flushed_legal
    others needed.stands not = absurd (not refl)
    others needed.lives not = refl
    others needed.idle not = λ lasts. idle_rest (past_of flushed) true true (λ high is. both_rest high)
    others needed.layout not = refl
    others needed.past not = refl
    others needed.callers not = only_caller _ flusher _ refl (flush_sleeps true true)
    others needed.workers not = flusher_runs_none _

needs_lives : IsNeeded needed.lives (hub_where queued true [] false false) (queuer queued) 1
unfolding definitions may starts replied
needs_lives = record { others = others; moves = refl }
  where
    others : (r : Premise) → (r ≡ needed.lives → ⊥) → Holds r (hub_where queued true [] false false) (queuer queued)
    others needed.legal not = queued_legal
    others needed.stands not = failed_hub
    others needed.lives not = absurd (not refl)
    others needed.idle not = λ lasts. cc
    others needed.layout not = refl
    others needed.past not = refl
    others needed.callers not = queuer_is_done _ queued
    others needed.workers not = queuer_runs_none _ queued

needs_idle : IsNeeded needed.idle (hub_where queued false [] false true) (queuer queued) 1
unfolding definitions may starts replied
needs_idle = record { others = others; moves = refl }
  where
    none : (high : Bool) → rests_where false true high ≡ true → allows_start small (past_of queued) (pool high) ≡ false
    none true is = refl
    none false is = cc

    at_rest : (high : Bool) → rests_where false true high ≡ true
        → worker_is_idle (past_of queued) (worker_at (pool high) 0) ≡ true
    at_rest true is = refl
    at_rest false is = cc

    others : (r : Premise) → (r ≡ needed.idle → ⊥) → Holds r (hub_where queued false [] false true) (queuer queued)
    others needed.legal not = queued_legal
    others needed.stands not = resting_hub queued false true none at_rest
    others needed.lives not = refl
    others needed.idle not = absurd (not refl)
    others needed.layout not = refl
    others needed.past not = refl
    others needed.callers not = queuer_is_done _ queued
    others needed.workers not = queuer_runs_none _ queued

needs_past : IsNeeded needed.past empty_hub (queuer queued) 1
unfolding definitions may starts replied
needs_past = record { others = others; moves = refl }
  where
    others : (r : Premise) → (r ≡ needed.past → ⊥) → Holds r empty_hub (queuer queued)
    others needed.legal not = empty_legal
    others needed.stands not = empty_stands
    others needed.lives not = refl
    others needed.idle not = λ lasts. empty_rest
    others needed.layout not = refl
    others needed.past not = absurd (not refl)
    others needed.callers not = queuer_is_done _ queued
    others needed.workers not = queuer_runs_none _ queued

needs_registered : IsNeeded needed.callers (hub_where flushed false [] true true) flusher 0
unfolding definitions may ends replied
needs_registered = record { others = others; moves = refl }
  where
    none : (high : Bool) → rests_where true true high ≡ true → allows_start small (past_of flushed) (pool high) ≡ false
    none true is = refl
    none false is = refl

    at_rest : (high : Bool) → rests_where true true high ≡ true
        → worker_is_idle (past_of flushed) (worker_at (pool high) 0) ≡ true
    at_rest true is = refl
    at_rest false is = refl

    others : (r : Premise) → (r ≡ needed.callers → ⊥) → Holds r (hub_where flushed false [] true true) flusher
    others needed.legal not = flushed_legal
    others needed.stands not = resting_hub flushed true true none at_rest
    others needed.lives not = refl
    others needed.idle not = λ lasts. idle_rest (past_of flushed) true true (λ high is. both_rest high)
    others needed.layout not = refl
    others needed.past not = refl
    others needed.callers not = absurd (not refl)
    others needed.workers not = flusher_runs_none _

-- a caller whose next action may be done
needs_next : (next : Action) → may (about_to next) 0 ≡ true → IsNeeded needed.callers empty_hub (about_to next) 0
needs_next next moves = record { others = others; moves = moves }
  where
    others : (r : Premise) → (r ≡ needed.callers → ⊥) → Holds r empty_hub (about_to next)
    others needed.legal not = empty_legal
    others needed.stands not = empty_stands
    others needed.lives not = refl
    others needed.idle not = λ lasts. empty_rest
    others needed.layout not = refl
    others needed.past not = refl
    others needed.callers not = absurd (not refl)
    others needed.workers not = both_workers _ (about_to next) _ _ refl tt tt

calls_next : may (about_to (action.Call (flush 0))) 0 ≡ true
unfolding may
calls_next = refl

passes_next : may (about_to (action.SleepAt 0)) 0 ≡ true
unfolding may
passes_next = refl

locks_next : may (about_to (action.Lock 0)) 0 ≡ true
unfolding may
locks_next = refl

-- while the worker of the normal pool has a run
running_hub : Stands (hub_where running false [] false true)
unfolding definitions
running_hub = resting_hub running false true none at_rest
  where
    none : (high : Bool) → rests_where false true high ≡ true → allows_start small (past_of running) (pool high) ≡ false
    none true is = refl
    none false is = cc

    at_rest : (high : Bool) → rests_where false true high ≡ true
        → worker_is_idle (past_of running) (worker_at (pool high) 0) ≡ true
    at_rest true is = refl
    at_rest false is = cc

running_rest : (w : WorkerId) → IsThere small (Worker w) → worker_is_idle (past_of running) w ≡ true
    → rests (pools_where false true) w ≡ true
unfolding definitions
running_rest = idle_rest (past_of running) false true all
  where
    all : (high : Bool) → worker_is_idle (past_of running) (worker_at (pool high) 0) ≡ true
        → rests_where false true high ≡ true
    all true is = refl
    all false is = cc

waiting_hub : Stands (hub_where waiting false [] false true)
unfolding definitions
waiting_hub = resting_hub waiting false true none at_rest
  where
    none : (high : Bool) → rests_where false true high ≡ true → allows_start small (past_of waiting) (pool high) ≡ false
    none true is = refl
    none false is = cc

    at_rest : (high : Bool) → rests_where false true high ≡ true
        → worker_is_idle (past_of waiting) (worker_at (pool high) 0) ≡ true
    at_rest true is = refl
    at_rest false is = cc

waiting_rest : (w : WorkerId) → IsThere small (Worker w) → worker_is_idle (past_of waiting) w ≡ true
    → rests (pools_where false true) w ≡ true
unfolding definitions
waiting_rest = idle_rest (past_of waiting) false true all
  where
    all : (high : Bool) → worker_is_idle (past_of waiting) (worker_at (pool high) 0) ≡ true
        → rests_where false true high ≡ true
    all true is = refl
    all false is = cc

needs_acting : IsNeeded needed.workers (hub_where running false [] false true) (runner running Acts) 1
unfolding may
needs_acting = record { others = others; moves = refl }
  where
    others : (r : Premise) → (r ≡ needed.workers → ⊥)
        → Holds r (hub_where running false [] false true) (runner running Acts)
    others needed.legal not = running_legal
    others needed.stands not = running_hub
    others needed.lives not = refl
    others needed.idle not = λ lasts. running_rest
    others needed.layout not = refl
    others needed.past not = refl
    others needed.callers not = only_caller _ (runner running Acts) _ refl tt
    others needed.workers not = absurd (not refl)

-- a run that has slept
needs_run : (doing : Doing) → may (runner waiting doing) 1 ≡ true
    → IsNeeded needed.workers (hub_where waiting false [] false true) (runner waiting doing) 1
needs_run doing moves = record { others = others; moves = moves }
  where
    others : (r : Premise) → (r ≡ needed.workers → ⊥)
        → Holds r (hub_where waiting false [] false true) (runner waiting doing)
    others needed.legal not = waiting_legal
    others needed.stands not = waiting_hub
    others needed.lives not = refl
    others needed.idle not = λ lasts. waiting_rest
    others needed.layout not = refl
    others needed.past not = refl
    others needed.callers not = only_caller _ (runner waiting doing) _ refl tt
    others needed.workers not = absurd (not refl)

passes_gate : may (runner waiting (AtGate 0 true)) 1 ≡ true
unfolding may
passes_gate = refl

takes_lock : may (runner waiting (AtLock 0 true)) 1 ≡ true
unfolding may
takes_lock = refl

wait_ends : may (runner waiting (Waits 1 (wait_where (flush 1) 3))) 1 ≡ true
unfolding definitions may ends replied
wait_ends = refl

-- in a made-up history a worker outside the layout attends the pool
needs_legal : IsNeeded needed.legal (hub_where made_up false [] true true) (queuer made_up) 1
unfolding definitions may starts replied
needs_legal = record { others = others; moves = refl }
  where
    attends : (high : Bool) → rests_where true true high ≡ true
        → (allows_start small (past_of made_up) (pool high) ≡ false)
        ⊎ Attendant (past_of made_up) (rests (pools_where true true)) (pool high)
    attends true is = inl refl
    attends false is =
        inr (record { worker = worker_at (pool false) 5; pool = refl; idle = refl; does_not_rest = refl })

    at_rest : (high : Bool) → rests_where true true high ≡ true
        → worker_is_idle (past_of made_up) (worker_at (pool high) 0) ≡ true
    at_rest true is = refl
    at_rest false is = refl

    others : (r : Premise) → (r ≡ needed.legal → ⊥) → Holds r (hub_where made_up false [] true true) (queuer made_up)
    others needed.legal not = absurd (not refl)
    others needed.stands not =
        stands_open made_up [] true true
        (looked_after (past_of made_up) [] true true
        (record { known = tt; callers = tt; workers = attended_or (past_of made_up) true true attends }) tt at_rest)
    others needed.lives not = refl
    others needed.idle not = λ lasts. idle_rest (past_of made_up) true true (λ high is. both_rest high)
    others needed.layout not = refl
    others needed.past not = refl
    others needed.callers not = queuer_is_done _ made_up
    others needed.workers not = queuer_runs_none _ made_up

needs_layout : IsNeeded needed.layout (hub_where queued_behind false [] false true) elsewhere 2
unfolding definitions may starts replied
needs_layout = record { others = others; moves = refl }
  where
    none : (high : Bool) → rests_where false true high ≡ true
        → allows_start small (past_of queued_behind) (pool high) ≡ false
    none true is = refl
    none false is = cc

    at_rest : (high : Bool) → rests_where false true high ≡ true
        → worker_is_idle (past_of queued_behind) (worker_at (pool high) 0) ≡ true
    at_rest true is = refl
    at_rest false is = cc

    all : (high : Bool) → worker_is_idle (past_of queued_behind) (worker_at (pool high) 0) ≡ true
        → rests_where false true high ≡ true
    all true is = refl
    all false is = cc

    is_shut : Some false ≡ Some true → ⊥
    is_shut is = cc

    others : (r : Premise) → (r ≡ needed.layout → ⊥) → Holds r (hub_where queued_behind false [] false true) elsewhere
    others needed.legal not = queued_behind_legal
    others needed.stands not = resting_hub queued_behind false true none at_rest
    others needed.lives not = refl
    others needed.idle not = λ lasts. idle_rest (past_of queued_behind) false true all
    others needed.layout not = absurd (not refl)
    others needed.past not = refl
    others needed.callers not = only_caller _ elsewhere _ refl tt
    others needed.workers not = both_workers _ elsewhere _ _ refl is_shut tt

pub premises_are_needed : PremisesAreNeeded
premises_are_needed = record {
  made_up = needs_legal;
  forgotten = needs_stands;
  failed = needs_lives;
  awake = needs_idle;
  other_layout = needs_layout;
  unseen = needs_past;
  unregistered = needs_registered;
  unfinished = needs_next (action.Call (flush 0)) calls_next;
  before_open_gate = needs_next (action.SleepAt 0) passes_next;
  before_free_lock = needs_next (action.Lock 0) locks_next;
  acting = needs_acting;
  at_open_gate = needs_run (AtGate 0 true) passes_gate;
  at_free_lock = needs_run (AtLock 0 true) takes_lock;
  lent = needs_run (Waits 1 (wait_where (flush 1) 3)) wait_ends;
}
