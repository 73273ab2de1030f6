-- Runs cease to hold a pool only if one of its workers sleeps or finishes.
use Rattle.std.proofs.lemmas.Bool.{both_ways, and_parts}
use Rattle.cmwq_model.specs.Workers.{runnable}
use Rattle.cmwq_model.specs.Prelude.{is_holding, is_intensive}
use Rattle.cmwq_model.specs.declared.reply.Reply.TheVariants as reply
use Rattle.cmwq_lemmas.proofs.Filters.{count_by-wider}
use Rattle.cmwq_theory_steps.specs.Common.{◌≡◌, ◌==◌, ℕ, Bool, true, false, not, ◌&&◌, List, ◌∷◌, Option, Some, nat_lt}
use Rattle.cmwq_theory_steps.specs.Common.{refl, sym, ap, ap₂, ◌∙◌, subst, arith, is_some, option_map_or, if◌then◌else◌}
use Rattle.cmwq_theory_steps.specs.Common.{nat_tests, All_each, Entry, Layout, PoolId, WorkerId, Who, Caller, Worker}
use Rattle.cmwq_theory_steps.specs.Common.{Reply, IsLegal, is_by, has_run, run, run_queue, is_asleep, asleep_after}
use Rattle.cmwq_theory_steps.specs.Common.{indices, worker_at, is_in_pool, same_pool, same_who, number_started}
use Rattle.cmwq_theory_steps.specs.RunSteps.{run_after}
use Rattle.cmwq_theory_steps.specs.Queued.{run_queue_after}
use Rattle.cmwq_theory_steps.proofs.RunSteps.{workers_run_on}
use Rattle.cmwq_theory_steps.proofs.StateSteps.{sleepers_go_on}
use Rattle.cmwq_theory_steps.proofs.Queued.{run_queues_go_on}
use Rattle.cmwq_theory_steps.proofs.Starts.{starts_next}
use Rattle.cmwq_theory_steps.proofs.Reasons.{wake_reason}
use Rattle.cmwq_theory_steps.proofs.Causes.{cause_of}
use Rattle.cmwq_theory_steps.proofs.OwedSteps.{by_whom}
use Rattle.cmwq_theory_steps.proofs.Pools.{same_pool-true}

-- a worker that sleeps or finishes lets go of its pool
abbrev pub lets_go : Reply → Bool
lets_go reply.Slept = true
lets_go (reply.Finished n) = true
lets_go r = false

abbrev holds : Layout → Option ℕ → Bool → Option ℕ → Bool
holds s o asleep q = is_some o && not asleep && not (option_map_or (is_intensive s) q false)

holds_on : (s : Layout) (past : List Entry) (e : Entry) (p : PoolId) (x : ℕ) → IsLegal s (e ∷ past)
    → (is_by (Worker (worker_at p x)) e && lets_go e.reply) ≡ false → is_holding s past p x ≡ true
    → is_holding s (e ∷ past) p x ≡ true
holds_on s past e p x legal kept h = at (is_by (Worker w) e) refl
  where
    w : WorkerId
    w = worker_at p x

    new : (b : Bool) → is_by (Worker w) e ≡ b
        → is_holding s (e ∷ past) p x
        ≡ holds s (if b then run_after e.reply (run past w) else run past w)
        (if b then asleep_after e.reply (is_asleep past w) else is_asleep past w)
        (if b then run_queue_after past e.reply (run_queue past w) else run_queue past w)
    new b by =
        ap₂ (λ o q. is_some o && not (is_asleep (e ∷ past) w) && not (option_map_or (is_intensive s) q false))
        (workers_run_on s past e w legal
        ∙ ap (λ b. if b then run_after e.reply (run past w) else run past w) by)
        (run_queues_go_on s past e legal w
        ∙ ap (λ b. if b then run_queue_after past e.reply (run_queue past w) else run_queue past w) by)
        ∙ ap (λ a. is_some (if b then run_after e.reply (run past w) else run past w) && not a
        && not (option_map_or (is_intensive s)
        (if b then run_queue_after past e.reply (run_queue past w) else run_queue past w) false))
        (sleepers_go_on past e w
        ∙ ap (λ b. if b then asleep_after e.reply (is_asleep past w) else is_asleep past w) by)

    runs : has_run past w ≡ true
    runs = grind arith

    awake : is_asleep past w ≡ false
    awake = grind arith

    no_start : (n : ℕ) → is_by (Worker w) e ≡ true → number_started e.reply ≡ Some n
        → is_holding s (e ∷ past) p x ≡ true
    no_start n by is =
        let k = starts_next s past e n legal is in
        absurd (both_ways _ (subst (λ v. has_run past v ≡ false) (by_whom e k.worker w k.by_worker by) k.idle) runs)

    own : (r : Reply) → e.reply ≡ r → is_by (Worker w) e ≡ true → is_holding s (e ∷ past) p x ≡ true
    own (reply.Started n) is by = no_start n by (ap number_started is)
    own (reply.StartedEnlist n y) is by = no_start n by (ap number_started is)
    own (reply.Finished n) is by = absurd (both_ways _ kept (ap₂ (λ a b. a && b) by (ap lets_go is)))
    own reply.Slept is by = absurd (both_ways _ kept (ap₂ (λ a b. a && b) by (ap lets_go is)))
    own reply.Woke is by =
        let k = wake_reason s past e.who e.call e.reply (cause_of s past e legal) is in
        let sleeps : is_asleep past k.0 ≡ true = (and_parts _ _ k.3).1 in
        absurd (both_ways _ awake (subst (λ v. is_asleep past v ≡ true) (by_whom e k.0 w k.1 by) sleeps))
    own r is by =
        new true by
        ∙ ap (λ r. holds s (run_after r (run past w)) (asleep_after r (is_asleep past w))
        (run_queue_after past r (run_queue past w))) is ∙ h

    at : (b : Bool) → is_by (Worker w) e ≡ b → is_holding s (e ∷ past) p x ≡ true
    at false by = new false by ∙ h
    at true by = own e.reply refl by

-- a worker of the pool lets go of it
pub record LetsGo (e : Entry) (p : PoolId) : Type 0 where
  pub worker : WorkerId
  pub by_worker : e.who ≡ Worker worker
  pub pool : worker.pool ≡ p
  pub lets : lets_go e.reply ≡ true

drops : (a b c : Bool) → (a && c) ≡ false → ((a && b) && c) ≡ false
drops a b c h = grind arith

none_let_go : (e : Entry) (p : PoolId) (x : ℕ) → (is_in_pool p e.who && lets_go e.reply) ≡ false
    → (is_by (Worker (worker_at p x)) e && lets_go e.reply) ≡ false
none_let_go e p x none = at e.who refl
  where
    at : (who : Who) → e.who ≡ who → (is_by (Worker (worker_at p x)) e && lets_go e.reply) ≡ false
    at (Caller c) is = ap (λ (a : Who). same_who a (Worker (worker_at p x)) && lets_go e.reply) is
    at (Worker v) is =
        let before : (same_pool v.pool p && lets_go e.reply) ≡ false =
        sym (ap (λ a. is_in_pool p a && lets_go e.reply) is) ∙ none in
        ap (λ (a : Who). same_who a (Worker (worker_at p x)) && lets_go e.reply) is
        ∙ drops (same_pool v.pool p) (v.index == x) (lets_go e.reply) before

pub was_let_go : (s : Layout) (past : List Entry) (e : Entry) (p : PoolId) → IsLegal s (e ∷ past)
    → nat_lt 0 (runnable s past p) ≡ true → nat_lt 0 (runnable s (e ∷ past) p) ≡ false → LetsGo e p
unfolding runnable
was_let_go s past e p legal held free = at e.who refl (is_in_pool p e.who && lets_go e.reply) refl
  where
    at : (who : Who) → e.who ≡ who → (b : Bool) → (is_in_pool p e.who && lets_go e.reply) ≡ b → LetsGo e p
    at who is false none =
        let fewer = count_by-wider (is_holding s past p) (is_holding s (e ∷ past) p) (indices s)
        (All_each _ (indices s) (λ x. holds_on s past e p x legal (none_let_go e p x none))) in
        absurd (both_ways _ free (grind (arith, nat_tests)))
    at (Caller c) is true some =
        absurd (both_ways false refl (sym (ap (λ a. is_in_pool p a && lets_go e.reply) is) ∙ some))
    at (Worker v) is true some =
        let k = and_parts (same_pool v.pool p) (lets_go e.reply)
        (sym (ap (λ a. is_in_pool p a && lets_go e.reply) is) ∙ some) in
        record { worker = v; by_worker = is; pool = same_pool-true v.pool p k.0; lets = k.1 }
