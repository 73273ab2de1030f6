-- An attended pool stays attended after an entry that does not touch it.
use Rattle.std.proofs.Common.{⊎_elim}
use Rattle.std.proofs.lemmas.Bool.{both_ways, and_parts, and_from, false_from_ne_true}
use Rattle.cmwq_model.specs.declared.reply.Reply.TheVariants as reply
use Rattle.cmwq_theory_steps.specs.Common.{◌≡◌, ℕ, Bool, true, false, not, ◌&&◌, List, [], ◌∷◌, Option, Some, None}
use Rattle.cmwq_theory_steps.specs.Common.{refl, sym, ap, ap₂, ◌∙◌, subst, arith, is_some, if◌then◌else◌, Entry, Layout}
use Rattle.cmwq_theory_steps.specs.Common.{PoolId, WorkerId, Who, Caller, Worker, Reply, IsLegal, is_by, is_at}
use Rattle.cmwq_theory_steps.specs.Common.{same_who, is_enlisted, has_run, run, last_start, number_started}
use Rattle.cmwq_theory_steps.specs.Common.{number_finished, is_retired, index_enlisted, enlists, is_in_pool}
use Rattle.cmwq_theory_steps.specs.RunSteps.{run_after}
use Rattle.cmwq_theory_steps.proofs.RunSteps.{workers_run_on}
use Rattle.cmwq_theory_steps.proofs.Starts.{starts_next}
use Rattle.cmwq_theory_steps.proofs.Reasons.{retire_reason}
use Rattle.cmwq_theory_steps.proofs.Causes.{cause_of}
use Rattle.cmwq_theory_steps.proofs.OwedSteps.{by_whom, by_itself}
use Rattle.cmwq_theory_steps.proofs.ItemRuns.{same_worker-true}
use Rattle.cmwq_theory_steps.proofs.Pools.{same_pool-true}
use Rattle.cmwq_theory_steps.proofs.Fresh.{finishes_run}
use Rattle.cmwq_theory_wakes.specs.Starting as touch
use Rattle.cmwq_theory_wakes.specs.Starting.{allows_start, worker_is_idle, would_start, leaves_next, is_finish, Touches}
use Rattle.cmwq_theory_wakes.specs.Starting.{FinishesIn, Attendant, IsAttended}
use Rattle.cmwq_theory_wakes.proofs.Starting.{starts_allowed}

enlisted_go_on : (past : List Entry) (e : Entry) (w : WorkerId) → (is_by (Worker w) e && is_retired e.reply) ≡ false
    → is_enlisted past w ≡ true → is_enlisted (e ∷ past) w ≡ true
unfolding is_enlisted
enlisted_go_on past e w kept h = grind arith

-- a worker that has a run is enlisted
pub run_is_enlisted : (s : Layout) (past : List Entry) (w : WorkerId) (n : ℕ) → IsLegal s past
    → run past w ≡ Some n → is_enlisted past w ≡ true
unfolding IsLegal last_start
run_is_enlisted s [] w n legal h = cc
run_is_enlisted s (e ∷ past) w n legal h =
    at (is_by (Worker w) e) refl (λ k. run_is_enlisted s past w n legal.2 k)
  where
    on : run (e ∷ past) w ≡ (if is_by (Worker w) e then run_after e.reply (run past w) else run past w)
    on = workers_run_on s past e w legal

    start : (m : ℕ) → is_by (Worker w) e ≡ true → number_started e.reply ≡ Some m → is_retired e.reply ≡ false
        → is_enlisted (e ∷ past) w ≡ true
    start m by is kept =
        let k = starts_next s past e m legal is in
        enlisted_go_on past e w (ap₂ (λ a b. a && b) by kept)
        (subst (λ v. is_enlisted past v ≡ true) (by_whom e k.worker w k.by_worker by) k.enlisted)

    own : (r : Reply) → (run past w ≡ Some n → is_enlisted past w ≡ true) → is_by (Worker w) e ≡ true → e.reply ≡ r
        → run_after r (run past w) ≡ Some n → is_enlisted (e ∷ past) w ≡ true
    own (reply.Started m) before by is k = start m by (ap number_started is) (ap is_retired is)
    own (reply.StartedEnlist m x) before by is k = start m by (ap number_started is) (ap is_retired is)
    own (reply.Finished m) before by is k = cc
    own reply.Retired before by is k =
        let t = retire_reason s past e.who e.call e.reply (cause_of s past e legal) is in
        let none : has_run past w ≡ false = subst (λ v. has_run past v ≡ false) (by_whom e t.0 w t.1 by) t.4 in
        let some : has_run past w ≡ true = ap is_some k in
        cc
    own r before by is k = enlisted_go_on past e w (ap₂ (λ a b. a && b) by (ap is_retired is)) (before k)

    at : (b : Bool) → is_by (Worker w) e ≡ b → (run past w ≡ Some n → is_enlisted past w ≡ true)
        → is_enlisted (e ∷ past) w ≡ true
    at false by before =
        enlisted_go_on past e w (ap (λ a. a && is_retired e.reply) by)
        (before (sym (on ∙ ap (λ b. if b then run_after e.reply (run past w) else run past w) by) ∙ h))
    at true by before =
        own e.reply before by refl (sym (on ∙ ap (λ b. if b then run_after e.reply (run past w) else run past w) by)
        ∙ h)

pub runners_are_enlisted : (s : Layout) (past : List Entry) → IsLegal s past → (w : WorkerId) → has_run past w ≡ true
    → is_enlisted past w ≡ true
runners_are_enlisted s past legal w h = at (run past w) refl h
  where
    at : (o : Option ℕ) → run past w ≡ o → is_some o ≡ true → is_enlisted past w ≡ true
    at None is k = cc
    at (Some n) is k = run_is_enlisted s past w n legal is

-- ---- an idle worker stays idle unless it starts something or retires

pub whose : (e : Entry) (w : WorkerId) → is_by (Worker w) e ≡ true → e.who ≡ Worker w
whose e w by = at e.who refl by
  where
    at : (who : Who) → e.who ≡ who → same_who who (Worker w) ≡ true → e.who ≡ Worker w
    at (Caller c) is k = cc
    at (Worker v) is k = is ∙ ap Worker (same_worker-true v w k)

runs_none : (s : Layout) (past : List Entry) (e : Entry) (w : WorkerId) → IsLegal s (e ∷ past) → (b : Bool)
    → is_by (Worker w) e ≡ b
    → is_some (if b then run_after e.reply (run past w) else run past w) ≡ false → has_run (e ∷ past) w ≡ false
runs_none s past e w legal b by none =
    ap is_some (workers_run_on s past e w legal
    ∙ ap (λ b. if b then run_after e.reply (run past w) else run past w) by) ∙ none

pub stays_idle : (s : Layout) (past : List Entry) (e : Entry) (w : WorkerId) → IsLegal s (e ∷ past)
    → (is_by (Worker w) e && leaves_next e.reply) ≡ false → worker_is_idle past w ≡ true
    → worker_is_idle (e ∷ past) w ≡ true
unfolding IsLegal
stays_idle s past e w legal calm is_idle = at (is_by (Worker w) e) refl
  where
    enlisted : is_enlisted past w ≡ true
    enlisted = (and_parts (is_enlisted past w) (not (has_run past w)) is_idle).0

    without_run : has_run past w ≡ false
    without_run = grind arith

    own : (r : Reply) → e.reply ≡ r → is_by (Worker w) e ≡ true → leaves_next r ≡ false
        → worker_is_idle (e ∷ past) w ≡ true
    own (reply.Finished n) is by quiet =
        let f = finishes_run s past e n legal (ap number_finished is) in
        let runs = subst (λ v. run past v ≡ Some n) (by_whom e f.worker w f.by_worker by) f.is_run in
        absurd (both_ways _ without_run (ap is_some runs))
    own (reply.Started n) is by quiet = cc
    own (reply.StartedEnlist n x) is by quiet = cc
    own reply.Retired is by quiet = cc
    own r is by quiet =
        and_from _ _ (enlisted_go_on past e w (ap₂ (λ a r. a && is_retired r) by is) enlisted)
        (ap not (runs_none s past e w legal true by (ap (λ r. is_some (run_after r (run past w))) is ∙ without_run)))

    at : (b : Bool) → is_by (Worker w) e ≡ b → worker_is_idle (e ∷ past) w ≡ true
    at false by =
        and_from _ _ (enlisted_go_on past e w (ap (λ a. a && is_retired e.reply) by) enlisted)
        (ap not (runs_none s past e w legal false by without_run))
    at true by = own e.reply refl by (sym (ap (λ a. a && leaves_next e.reply) by) ∙ calm)

-- ---- a worker that is idle after an entry of another was idle before, unless a start of its pool enlisted it

was_idle : (s : Layout) (past : List Entry) (e : Entry) (w : WorkerId) → IsLegal s (e ∷ past)
    → is_by (Worker w) e ≡ false → worker_is_idle (e ∷ past) w ≡ true → enlists e w ≡ false
    → worker_is_idle past w ≡ true
unfolding is_enlisted
was_idle s past e w legal by is_idle apart =
    let same : has_run (e ∷ past) w ≡ has_run past w =
    ap is_some (workers_run_on s past e w legal
    ∙ ap (λ b. if b then run_after e.reply (run past w) else run past w) by) in
    grind arith

enlists_touches : (s : Layout) (past : List Entry) (e : Entry) (w : WorkerId) → enlists e w ≡ true
    → Touches s past e w.pool
enlists_touches s past e w h =
    let k = and_parts (is_in_pool w.pool e.who) (is_at (index_enlisted e.reply) w.index) h in
    at e.who refl k.0 e.reply refl k.1
  where
    at : (who : Who) → e.who ≡ who → is_in_pool w.pool who ≡ true → (r : Reply) → e.reply ≡ r
        → is_at (index_enlisted r) w.index ≡ true → Touches s past e w.pool
    at (Caller c) is there r told by = cc
    at (Worker v) is there (reply.StartedEnlist n x) told by =
        touch.leaves v is (same_pool-true v.pool w.pool there) (ap leaves_next told)
    at (Worker v) is there r told by = cc

-- ---- an attended pool stays attended

finisher_idle : (s : Layout) (past : List Entry) (e : Entry) (p : PoolId) → IsLegal s (e ∷ past) → (f : FinishesIn e p)
    → worker_is_idle (e ∷ past) f.worker ≡ true
unfolding IsLegal
finisher_idle s past e p legal f = of_number (number_finished e.reply) refl f.finishes
  where
    after : (r : Reply) (n : ℕ) (o : Option ℕ) → number_finished r ≡ Some n
        → (run_after r o ≡ None) × (is_retired r ≡ false)
    after (reply.Finished m) n o is = (refl, refl)
    after r n o is = cc

    of_number : (o : Option ℕ) → number_finished e.reply ≡ o → is_some o ≡ true
        → worker_is_idle (e ∷ past) f.worker ≡ true
    of_number None is h = cc
    of_number (Some n) is h =
        let g = finishes_run s past e n legal is in
        let by = by_itself e f.worker f.by_worker in
        let same = by_whom e g.worker f.worker g.by_worker by in
        let runs : run past f.worker ≡ Some n = subst (λ v. run past v ≡ Some n) same g.is_run in
        let k = after e.reply n (run past f.worker) is in
        and_from _ _ (enlisted_go_on past e f.worker (ap₂ (λ a b. a && b) by k.1)
        (run_is_enlisted s past f.worker n legal.2 runs))
        (ap not (runs_none s past e f.worker legal true by (ap is_some k.0)))

pub stay_attended : (s : Layout) (past : List Entry) (e : Entry) → IsLegal s (e ∷ past)
    → (rests : WorkerId → Bool) (p : PoolId) → ((w : WorkerId) → e.who ≡ Worker w → rests w ≡ false)
    → (Touches s past e p → ⊥) → IsAttended s past rests p → IsAttended s (e ∷ past) rests p
stay_attended s past e legal rests p own calm attended w pool resting would =
    let k = and_parts (worker_is_idle (e ∷ past) w) (allows_start s (e ∷ past) w.pool) would in
    at (allows_start s past p) refl k.0 (subst (λ q. allows_start s (e ∷ past) q ≡ true) pool k.1)
  where
    apart : is_by (Worker w) e ≡ false
    apart = false_from_ne_true _ (λ by. both_ways _ (own w (whose e w by)) resting)

    calm_here : Touches s past e w.pool → ⊥
    calm_here t = calm (subst (λ q. Touches s past e q) pool t)

    kept : (u : Attendant past rests p) → Attendant (e ∷ past) rests p
    kept u = record {
      worker = u.worker;
      pool = u.pool;
      idle = stays_idle s past e u.worker legal (false_from_ne_true _ (λ both. let b = and_parts _ _ both in
          calm (touch.leaves u.worker (whose e u.worker b.0) u.pool b.1))) u.idle;
      does_not_rest = u.does_not_rest;
    }

    at : (b : Bool) → allows_start s past p ≡ b → worker_is_idle (e ∷ past) w ≡ true
        → allows_start s (e ∷ past) p ≡ true → Attendant (e ∷ past) rests p
    at false was is_idle new = ⊎_elim (λ t. absurd (calm t)) (λ f. record {
      worker = f.worker;
      pool = f.pool;
      idle = finisher_idle s past e p legal f;
      does_not_rest = own f.worker f.by_worker;
    }) (starts_allowed s past e legal p was new)
    at true was is_idle new =
        let before = was_idle s past e w legal apart is_idle
        (false_from_ne_true _ (λ en. calm_here (enlists_touches s past e w en))) in
        kept (attended w pool resting (and_from _ _ before (subst (λ q. allows_start s past q ≡ true) (sym pool) was)))
