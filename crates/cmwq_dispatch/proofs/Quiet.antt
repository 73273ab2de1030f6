-- Nobody could go on where all idle workers of the layout rest.
use Rattle.std.specs.Prelude.{Contains}
use Rattle.std.specs.List.{AllByRecursion}
use Rattle.cmwq_theory_steps.specs.Common.{◌≡◌, ◌<◌, ℕ, Bool, true, false, List, [], ◌∷◌, Option, Some, None, refl, sym}
use Rattle.cmwq_theory_steps.specs.Common.{ap}
use Rattle.cmwq_theory_steps.specs.Common.{◌∙◌, subst, arith, ◌&&◌, ◌||◌, not, Layout, IsLegal}
use Rattle.cmwq_theory_steps.specs.Common.{Entry, WorkerId}
use Rattle.cmwq_theory_steps.specs.Common.{PoolId, Caller, Worker, Reply, Ticket, is_enlisted, eqb-true, is_done}
use Rattle.cmwq_theory_steps.specs.Common.{answer, number_started, index_enlisted, enlists}
use Rattle.cmwq_theory_steps.specs.Common.{is_at, is_by, is_retired, is_in_pool, worker_at}
use Rattle.std.proofs.lemmas.Bool.{both_ways, and_parts, false_from_ne_true}
use Rattle.cmwq_lemmas.proofs.Members.{contained_in, of_in}
use Rattle.cmwq_model.specs.declared.call.Call.TheVariants as call
use Rattle.cmwq_model.specs.declared.reply.Reply.TheVariants as reply
use Rattle.cmwq_state.specs.Tables.{IsThere}
use Rattle.cmwq_theory_steps.proofs.Starts.{reserve_there, starts_next}
use Rattle.cmwq_theory_wakes.proofs.Resting.{unready_not_done}
use Rattle.cmwq_theory_wakes.proofs.Starting.{idle_start_alike}
use Rattle.cmwq_theory_wakes.specs.Rest.{IsOfItsCall, IsUnready}
use Rattle.cmwq_theory_wakes.specs.Starting.{Attendant, worker_is_idle, would_start}
use Rattle.cmwq_dispatch.specs.Dispatched.{Dispatched, IdleWorkersRest, IsAtRest, NobodyGoesOn, Stands, is_over}
use Rattle.cmwq_dispatch.specs.Dispatched.{past_now}
use Rattle.cmwq_dispatch.specs.Pools.{rests}
use Rattle.cmwq_dispatch.proofs.Over.{nobody_starts, over_parts}

-- ---- enlisted workers are inside the layout

enlisting_starts : (r : Reply) (x : ℕ) → index_enlisted r ≡ Some x → (n : ℕ) × (number_started r ≡ Some n)
enlisting_starts (reply.StartedEnlist n y) x is = (n, refl)
enlisting_starts r x is = cc

-- one that a start enlists is
enlisted_is_there : (s : Layout) (past : List Entry) (e : Entry) (x : ℕ) → IsLegal s (e ∷ past)
    → index_enlisted e.reply ≡ Some x → x < s.workers
enlisted_is_there s past e x legal is =
    let it = enlisting_starts e.reply x is in
    let next = starts_next s past e it.0 legal it.1 in
    reserve_there s past next.worker x (sym next.enlists ∙ is)

pub enlisted_inside : (s : Layout) (past : List Entry) (p : PoolId) (x : ℕ) → IsLegal s past → 0 < s.workers
    → is_enlisted past (worker_at p x) ≡ true → x < s.workers
unfolding IsLegal is_enlisted
enlisted_inside s [] p x legal some enlisted = let zero_is = eqb-true x 0 enlisted in omega (arith, zero_is)
enlisted_inside s (e ∷ past) p x legal some enlisted =
    at (enlists e (worker_at p x)) refl (enlisted_inside s past p x legal.2 some)
  where
    by : (o : Option ℕ) → index_enlisted e.reply ≡ o → is_at (index_enlisted e.reply) x ≡ true → x < s.workers
    by (Some y) known same =
        enlisted_is_there s past e x legal
        (known ∙ ap Some (eqb-true y x (ap (λ o. is_at o x) (sym known) ∙ same)))
    by None known same = absurd (both_ways _ (ap (λ o. is_at o x) known) same)

    at : (b : Bool) → enlists e (worker_at p x) ≡ b → (is_enlisted past (worker_at p x) ≡ true → x < s.workers)
        → x < s.workers
    at true is before = by (index_enlisted e.reply) refl (and_parts (is_in_pool p e.who) _ is).1
    at false is before =
        before
        (and_parts (not (is_by (Worker (worker_at p x)) e && is_retired e.reply)) _
        (sym (ap (λ b. b || (not (is_by (Worker (worker_at p x)) e && is_retired e.reply)
        && is_enlisted past (worker_at p x))) is) ∙ enlisted)).1

-- ---- so no worker of the layout would start anything

starts_nothing_there : (d : Dispatched) → IsLegal d.history.layout (past_now d) → Stands d
    → IdleWorkersRest d → is_over d ≡ false → (w : WorkerId) → IsThere d.history.layout (Worker w)
    → would_start d.history.layout (past_now d) w ≡ false
starts_nothing_there d legal stands idle_rest lasts w there = false_from_ne_true _ (λ would.
    let idle = (and_parts (worker_is_idle (past_now d) w) _ would).0 in
    let at : Attendant (past_now d) (rests d.asleep.pools) w.pool =
    stands.looked_after.none_forgotten.workers w.pool w refl (idle_rest lasts w there idle) would in
    let enlisted = (and_parts (is_enlisted (past_now d) at.worker) _ at.idle).0 in
    let inside : at.worker.index < d.history.layout.workers =
    enlisted_inside d.history.layout (past_now d) at.worker.pool at.worker.index legal (omega (arith, there.1))
    enlisted in
    let cpu : at.worker.pool.cpu.0 < d.history.layout.cpus =
    subst (λ (p : PoolId). p.cpu.0 < d.history.layout.cpus) (sym at.pool) there.0 in
    both_ways _ at.does_not_rest (idle_rest lasts at.worker (cpu, inside) at.idle))

pub starts_nothing : (d : Dispatched) → IsLegal d.history.layout (past_now d) → Stands d → d.failed ≡ false
    → IdleWorkersRest d → (w : WorkerId) → IsThere d.history.layout (Worker w)
    → would_start d.history.layout (past_now d) w ≡ false
starts_nothing d legal stands lives idle_rest w there = at (is_over d) refl
  where
    at : (b : Bool) → is_over d ≡ b → would_start d.history.layout (past_now d) w ≡ false
    at false is = starts_nothing_there d legal stands idle_rest is w there
    at true is = nobody_starts d.history.layout (past_now d) w (over_parts d is lives).1

-- ---- and no caller that sleeps would end its wait

pub sleeper_not_done : (d : Dispatched) → Stands d → (t : Ticket) → Contains d.asleep.tickets t
    → is_done (answer d.history.layout (past_now d) (Caller t.caller) (call.End t.number)) ≡ false
sleeper_not_done d stands t here =
    let none = stands.looked_after.none_forgotten in
    let at = contained_in d.asleep.tickets t here in
    unready_not_done d.history.layout (past_now d) t
    (of_in (IsOfItsCall (past_now d)) d.asleep.tickets t none.known at)
    (of_in (IsUnready (past_now d)) d.asleep.tickets t none.callers at)

-- ---- so nobody could go on

all_of : {X : Type 0} (P Q : X → Type 0) (R : X → Type 0) (xs : List X) → ((x : X) → P x → Q x → R x)
    → AllByRecursion P xs → AllByRecursion Q xs → AllByRecursion R xs
all_of P Q R [] f p q = tt
all_of P Q R (x ∷ xs) f p q = (f x p.0 q.0, all_of P Q R xs f p.1 q.1)

pub at_rest : (d : Dispatched) → IsLegal d.history.layout (past_now d) → Stands d → IsAtRest d → NobodyGoesOn d
at_rest d legal stands rest =
    let none = stands.looked_after.none_forgotten in (
      all_of (IsOfItsCall (past_now d)) (IsUnready (past_now d)) _ d.asleep.tickets
          (λ t known unready. unready_not_done d.history.layout (past_now d) t known unready) none.known none.callers,
      λ w there. idle_start_alike d.history.layout (past_now d) w
          ∙ starts_nothing d legal stands rest.lives rest.workers w there,
    )
