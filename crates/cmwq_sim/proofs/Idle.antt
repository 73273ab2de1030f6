-- Of each pool's workers one is always enlisted and idle, or all are enlisted.
use Rattle.cmwq_sim.specs.Common.{◌≡◌, ◌≢◌, ◌==◌, ◌<◌, ℕ, Bool, true, false, not, ◌&&◌, ◌||◌, List, [], ◌∷◌, find}
use Rattle.cmwq_sim.specs.Common.{Option, Some, None, refl, sym, ap, ap₂, ◌∙◌, subst, arith, is_some, if◌then◌else◌}
use Rattle.cmwq_sim.specs.Common.{AllByRecursion, eq-eqb, ne_eqb, and_parts, PoolId, WorkerId, Worker, Reply, Entry}
use Rattle.cmwq_sim.specs.Common.{Layout, indices, is_at, is_by, same_who, same_pool, number_started, run, has_run}
use Rattle.cmwq_sim.specs.Common.{last_start, worker_at, index_enlisted, is_in_pool, is_retired, is_enlisted, is_idle}
use Rattle.cmwq_sim.specs.Common.{is_other_idle, is_reserve, enlisted_by, IsLegal, run_after, workers_run_on}
use Rattle.cmwq_sim.specs.Common.{same_worker_itself}
use Rattle.cmwq_model.specs.declared.reply.Reply.TheVariants as reply
use Rattle.cmwq_theory_steps.proofs.Starts.{starts_next}
use Rattle.cmwq_theory_steps.proofs.Reasons.{retire_reason}
use Rattle.cmwq_theory_steps.proofs.Causes.{cause_of}
use Rattle.cmwq_sim.proofs.Lists.{one, none, any_below, none_found_any, and_false, both_ways, not-true, not-false}
use Rattle.cmwq_theory_steps.proofs.OwedSteps.{by_whom}

enlisted_go_on : (past : List Entry) (e : Entry) (w : WorkerId) → (is_by (Worker w) e && is_retired e.reply) ≡ false
    → is_enlisted past w ≡ true → is_enlisted (e ∷ past) w ≡ true
unfolding is_enlisted
enlisted_go_on past e w kept h = grind arith

-- a worker that runs is enlisted
pub runners_are_enlisted : (s : Layout) (past : List Entry) (w : WorkerId) (n : ℕ) → IsLegal s past
    → run past w ≡ Some n → is_enlisted past w ≡ true
unfolding IsLegal last_start
runners_are_enlisted s [] w n legal h = cc
runners_are_enlisted s (e ∷ past) w n legal h =
    at (is_by (Worker w) e) refl (λ k. runners_are_enlisted s past w n legal.2 k)
  where
    on : run (e ∷ past) w ≡ (if is_by (Worker w) e then run_after e.reply (run past w) else run past w)
    on = workers_run_on s past e w legal

    start : (m : ℕ) → is_by (Worker w) e ≡ true → number_started e.reply ≡ Some m → is_retired e.reply ≡ false
        → is_enlisted (e ∷ past) w ≡ true
    start m by is kept =
        let k = starts_next s past e m legal is in
        enlisted_go_on past e w (ap₂ (λ a b. a && b) by kept)
        (subst (λ v. is_enlisted past v ≡ true) (by_whom e k.worker w k.by_worker by) k.enlisted)

    own : (r : Reply) → (run past w ≡ Some n → is_enlisted past w ≡ true) → is_by (Worker w) e ≡ true → e.reply ≡ r
        → run_after r (run past w) ≡ Some n → is_enlisted (e ∷ past) w ≡ true
    own (reply.Started m) before by is k = start m by (ap number_started is) (ap is_retired is)
    own (reply.StartedEnlist m x) before by is k = start m by (ap number_started is) (ap is_retired is)
    own (reply.Finished m) before by is k = cc
    own reply.Retired before by is k =
        let t = retire_reason s past e.who e.call e.reply (cause_of s past e legal) is in
        let none : has_run past w ≡ false = subst (λ v. has_run past v ≡ false) (by_whom e t.0 w t.1 by) t.4 in
        let some : has_run past w ≡ true = ap is_some k in
        cc
    own r before by is k = enlisted_go_on past e w (ap₂ (λ a b. a && b) by (ap is_retired is)) (before k)

    at : (b : Bool) → is_by (Worker w) e ≡ b → (run past w ≡ Some n → is_enlisted past w ≡ true)
        → is_enlisted (e ∷ past) w ≡ true
    at false by before =
        enlisted_go_on past e w (ap (λ a. a && is_retired e.reply) by)
        (before (sym (on ∙ ap (λ b. if b then run_after e.reply (run past w) else run past w) by) ∙ h))
    at true by before =
        own e.reply before by refl (sym (on ∙ ap (λ b. if b then run_after e.reply (run past w) else run past w) by)
        ∙ h)

-- ---- one is idle, or all are enlisted

pub data IdleOrAll (s : Layout) (past : List Entry) (p : PoolId) : Type 0 where
  idle : (x : ℕ) → x < s.workers → is_idle past p x ≡ true → IdleOrAll s past p
  all : ((x : ℕ) → x < s.workers → is_enlisted past (worker_at p x) ≡ true) → IdleOrAll s past p

pub idle_parts : (past : List Entry) (p : PoolId) (x : ℕ) → is_idle past p x ≡ true
    → (is_enlisted past (worker_at p x) ≡ true) × (run past (worker_at p x) ≡ None)
idle_parts past p x h = grind arith

pub not_by : (e : Entry) (p : PoolId) (x y : ℕ) → e.who ≡ Worker (worker_at p x) → x ≢ y
    → is_by (Worker (worker_at p y)) e ≡ false
not_by e p x y who differs = ap (λ w. same_who w (Worker (worker_at p y))) who
    ∙ ap (λ b. same_pool p p && b) (ne_eqb x y differs) ∙ and_false (same_pool p p)

-- who doesn't run and stays enlisted is idle
idle_then : (s : Layout) (past : List Entry) (e : Entry) (p : PoolId) (x : ℕ) → IsLegal s (e ∷ past)
    → (if is_by (Worker (worker_at p x)) e then run_after e.reply (run past (worker_at p x))
    else run past (worker_at p x)) ≡ None
    → is_enlisted (e ∷ past) (worker_at p x) ≡ true → is_idle (e ∷ past) p x ≡ true
idle_then s past e p x legal runs enlisted =
    ap₂ (λ c o. c && not (is_some o)) enlisted (workers_run_on s past e (worker_at p x) legal ∙ runs)

-- a worker that the entry isn't of stays idle
others_idle : (s : Layout) (past : List Entry) (e : Entry) (p : PoolId) (x : ℕ) → IsLegal s (e ∷ past)
    → is_by (Worker (worker_at p x)) e ≡ false → is_idle past p x ≡ true → is_idle (e ∷ past) p x ≡ true
others_idle s past e p x legal by is =
    let k = idle_parts past p x is in
    idle_then s past e p x legal
    (ap (λ b. if b then run_after e.reply (run past (worker_at p x)) else run past (worker_at p x)) by ∙ k.1)
    (enlisted_go_on past e (worker_at p x) (ap (λ a. a && is_retired e.reply) by) k.0)

-- where one starts and leaves no other idle one, the reserve is enlisted, or there is none
after_start : (s : Layout) (past : List Entry) (e : Entry) (p : PoolId) (x n : ℕ) → IsLegal s (e ∷ past)
    → is_retired e.reply ≡ false → e.who ≡ Worker (worker_at p x) → is_idle past p x ≡ true
    → index_enlisted e.reply ≡ enlisted_by s past (worker_at p x) → IdleOrAll s (e ∷ past) p
unfolding IsLegal is_enlisted enlisted_by
after_start s past e p x n legal kept who is enlists_it =
    elim (any_below (is_other_idle past (worker_at p x)) s.workers) [
      | one y less other first ↦
          let k = and_parts (not (y == x)) (is_idle past p y) other in
          idle y less
          (others_idle s past e p y legal
          (not_by e p x y who (λ same. both_ways (y == x) (not-true (y == x) k.0) (eq-eqb y x (sym same)))) k.1)
      | none nothing missed ↦
          reserve (enlists_it
          ∙ ap (λ b. if b then None else find (is_reserve past p) (indices s))
          (none_found_any (is_other_idle past (worker_at p x)) (indices s) missed))
    ]
  where
    reserve : index_enlisted e.reply ≡ find (is_reserve past p) (indices s) → IdleOrAll s (e ∷ past) p
    reserve told = elim (any_below (is_reserve past p) s.workers) [
      | none nobody missed ↦
          all (λ y less. enlisted_go_on past e (worker_at p y) (ap (λ r. is_by (Worker (worker_at p y)) e && r) kept
          ∙ and_false (is_by (Worker (worker_at p y)) e))
          (not-false (is_enlisted past (worker_at p y)) (nobody y less)))
      | one z less other first ↦
          let out : is_enlisted past (worker_at p z) ≡ false = not-true (is_enlisted past (worker_at p z)) other in
          let by : is_by (Worker (worker_at p z)) e ≡ false =
          not_by e p x z who
          (λ same. both_ways (is_enlisted past (worker_at p z)) out
          (ap (λ y. is_enlisted past (worker_at p y)) (sym same) ∙ (idle_parts past p x is).0)) in
          idle z less (idle_then s past e p z legal
          (ap (λ b. if b then run_after e.reply (run past (worker_at p z)) else run past (worker_at p z)) by
          ∙ free (run past (worker_at p z))
          (λ m runs. both_ways (is_enlisted past (worker_at p z)) out
          (runners_are_enlisted s past (worker_at p z) m legal.2 runs)))
          (ap (λ b. b
          || (not (is_by (Worker (worker_at p z)) e && is_retired e.reply) && is_enlisted past (worker_at p z)))
          (ap₂ (λ w o. is_in_pool p w && is_at o z) who (told ∙ first)
          ∙ ap₂ (λ a b. a && b) (and_parts (same_pool p p) (0 == 0) (same_worker_itself (worker_at p 0))).0
          (eq-eqb z z refl))))
    ]
      where
        free : (o : Option ℕ) → ((m : ℕ) → o ≡ Some m → ⊥) → o ≡ None
        free None h = refl
        free (Some m) h = absurd (h m refl)

pub idle_or_all : (s : Layout) (past : List Entry) (p : PoolId) → IsLegal s past
    → AllByRecursion (λ e. is_retired e.reply ≡ false) past → 0 < s.workers → IdleOrAll s past p
unfolding IsLegal is_enlisted last_start
idle_or_all s [] p legal kept some = idle 0 some refl
idle_or_all s (e ∷ past) p legal kept some = elim (idle_or_all s past p legal.2 kept.1 some) [
  | all f ↦
      all (λ x less. enlisted_go_on past e (worker_at p x) (ap (λ r. is_by (Worker (worker_at p x)) e && r) kept.0
      ∙ and_false (is_by (Worker (worker_at p x)) e)) (f x less))
  | idle x less is ↦ at x less is (is_by (Worker (worker_at p x)) e) refl (number_started e.reply) refl
]
  where
    at : (x : ℕ) → x < s.workers → is_idle past p x ≡ true → (b : Bool) → is_by (Worker (worker_at p x)) e ≡ b
        → (o : Option ℕ) → number_started e.reply ≡ o → IdleOrAll s (e ∷ past) p
    at x less is false by o st = idle x less (others_idle s past e p x legal by is)
    at x less is true by (Some n) st =
        let k = starts_next s past e n legal st in
        let same = by_whom e k.worker (worker_at p x) k.by_worker by in
        after_start s past e p x n legal kept.0 (k.by_worker ∙ ap Worker same) is
        (k.enlists ∙ ap (enlisted_by s past) same)
    at x less is true by None st =
        let k = idle_parts past p x is in
        idle x less (idle_then s past e p x legal
        (ap (λ b. if b then run_after e.reply (run past (worker_at p x)) else run past (worker_at p x)) by
        ∙ ap (run_after e.reply) k.1 ∙ stays e.reply st)
        (enlisted_go_on past e (worker_at p x) (ap₂ (λ a b. a && b) by kept.0) k.0))
      where
        stays : (r : Reply) → number_started r ≡ None → run_after r None ≡ None
        stays r h = grind arith
