-- The slots of a pool, entry by entry.
use Rattle.cmwq_refinement.specs.Common.{◌≡◌, ◌≢◌, ◌==◌, ℕ, Bool, true, false, not, ◌&&◌, ◌||◌, List, ◌∷◌, map, Option}
use Rattle.cmwq_refinement.specs.Common.{Some, None, refl, sym, ap, ap₂, ◌∙◌, arith, ⊎_elim, option_map, if◌then◌else◌}
use Rattle.cmwq_refinement.specs.Common.{eq-eqb, ne_eqb, cases_eq, and_parts, get_or-map-range_with_len, PoolId}
use Rattle.cmwq_refinement.specs.Common.{WorkerId, Who, Caller, Worker, Reply, Entry, Queueing, Layout, indices, is_at}
use Rattle.cmwq_refinement.specs.Common.{is_by, same_pool, same_who, number_started, run, is_asleep, asleep_after}
use Rattle.cmwq_refinement.specs.Common.{queueing_at, next, worker_at, index_enlisted, is_in_pool, enlists, is_retired}
use Rattle.cmwq_refinement.specs.Common.{is_enlisted, enlisted_by, IsLegal, run_after, starts_next, IsFound}
use Rattle.cmwq_refinement.specs.Common.{queueings_found, queueing_at-older, workers_run_on, same_worker_itself}
use Rattle.cmwq_refinement.specs.Common.{by_itself, same_starter, same_pool-true, Task, Slot, no_slot, slot_at}
use Rattle.cmwq_refinement.specs.Common.{with_slot, slot_running, slot_enlisted, slot_asleep, slot_awake, slot_free}
use Rattle.cmwq_refinement.specs.Common.{slot_retired, next_task, nat_tests, and_false}
use Rattle.cmwq_refinement.proofs.Numbers.{cond_both}
use Rattle.cmwq_model.specs.declared.reply.Reply.TheVariants as reply
use Rattle.cmwq_theory_steps.proofs.Activated.{next_holds}
use Rattle.cmwq_pool.specs.Slots.{slots_enlisted_by}
use Rattle.cmwq_refinement.specs.Pools.{task_for, run_task, slot_of, pool_of, start_next, pool_after_reply}
use Rattle.cmwq_refinement.specs.Pools.{pool_after_worker}
use Rattle.cmwq_refinement.proofs.TimerSteps.{set_row, same_rows}
use Rattle.cmwq_refinement.proofs.PoolReads.{idle, busy, run_of, run_task_none, slot_is, starts_enlist_alike}
use Rattle.cmwq_refinement.proofs.PoolNext.{worker_fits, next_task_is}
use Rattle.cmwq_theory_steps.proofs.Starts.{reserve_there}

-- ---- a run that goes on

same_run : (s : Layout) (past : List Entry) (e : Entry) (w : WorkerId) → IsLegal s (e ∷ past)
    → run (e ∷ past) w ≡ run past w → run_task s (e ∷ past) w ≡ run_task s past w
unfolding IsLegal
same_run s past e w legal is = elim (run_of s past w legal.2) [
  | idle none ↦ rw (is, none) refl
  | busy x runs at pool ↦ rw (is, runs, queueing_at-older e past x.number x at, at) refl
]

-- ---- a slot after an entry

slot_like : (s t : Slot) → s.enlisted ≡ t.enlisted → s.run ≡ t.run → s.asleep ≡ t.asleep → s ≡ t
slot_like s t enlisted run asleep = λ i. record { enlisted = enlisted i; run = run i; asleep = asleep i }

-- of a worker that isn't the entry's: it may be enlisted
other_slot : (s : Layout) (past : List Entry) (e : Entry) (p : PoolId) (x : ℕ) (a : Bool) → IsLegal s (e ∷ past)
    → is_by (Worker (worker_at p x)) e ≡ false → enlists e (worker_at p x) ≡ a
    → slot_of s (e ∷ past) p x
    ≡ record {
      enlisted = a || is_enlisted past (worker_at p x);
      run = run_task s past (worker_at p x);
      asleep =
          is_asleep past (worker_at p x);
    }
unfolding is_enlisted is_asleep
other_slot s past e p x a legal by en =
    slot_like (slot_of s (e ∷ past) p x)
    (record {
      enlisted = a || is_enlisted past (worker_at p x);
      run = run_task s past (worker_at p x);
      asleep =
          is_asleep past (worker_at p x);
    })
    (ap₂ (λ c b. c || (not (b && is_retired e.reply) && is_enlisted past (worker_at p x))) en by)
    (same_run s past e (worker_at p x) legal
    (workers_run_on s past e (worker_at p x) legal
    ∙ ap (λ b. if b then run_after e.reply (run past (worker_at p x)) else run past (worker_at p x)) by))
    (ap (λ b. if b then asleep_after e.reply (is_asleep past (worker_at p x)) else is_asleep past (worker_at p x)) by)

-- of the entry's own
own_after : Layout → List Entry → WorkerId → Reply → Option Task → Slot
own_after s past w r o =
    record {
      enlisted = is_at (index_enlisted r) w.index || (not (is_retired r) && is_enlisted past w);
      run = o;
      asleep = asleep_after r (is_asleep past w);
    }

pub pool_itself : (w : WorkerId) → same_pool w.pool w.pool ≡ true
pool_itself w = (and_parts (same_pool w.pool w.pool) (w.index == w.index) (same_worker_itself w)).0

own_slot : (s : Layout) (past : List Entry) (e : Entry) (w : WorkerId) (r : Reply) → IsLegal s (e ∷ past)
    → e.who ≡ Worker w → e.reply ≡ r → slot_of s (e ∷ past) w.pool w.index
    ≡ own_after s past w r (run_task s (e ∷ past) w)
unfolding is_enlisted is_asleep own_after
own_slot s past e w r legal who is =
    let by = by_itself e w who in
    slot_like (slot_of s (e ∷ past) w.pool w.index) (own_after s past w r (run_task s (e ∷ past) w))
    (rw (by, who, pool_itself w, is) refl) refl (rw (by, is) refl)

own_run : (s : Layout) (past : List Entry) (e : Entry) (w : WorkerId) (r : Reply) → IsLegal s (e ∷ past)
    → e.who ≡ Worker w → e.reply ≡ r → run (e ∷ past) w ≡ run_after r (run past w)
own_run s past e w r legal who is = rw (workers_run_on s past e w legal, by_itself e w who, is) refl

not_by : (e : Entry) (w : WorkerId) (x : ℕ) → e.who ≡ Worker w → x ≢ w.index → is_by (Worker (worker_at w.pool x)) e
    ≡ false
not_by e w x who differs = rw (who, ne_eqb w.index x (λ e. differs (sym e)), and_false) refl

enlists_at : (e : Entry) (w : WorkerId) (x : ℕ) (r : Reply) → e.who ≡ Worker w → e.reply ≡ r
    → enlists e (worker_at w.pool x) ≡ is_at (index_enlisted r) x
enlists_at e w x r who is = rw (who, is, pool_itself w) refl

-- where the reply enlists nobody, the other slots stay
others_stay : (s : Layout) (past : List Entry) (e : Entry) (w : WorkerId) (r : Reply) (x : ℕ) → IsLegal s (e ∷ past)
    → e.who ≡ Worker w → e.reply ≡ r → index_enlisted r ≡ None → x ≢ w.index
    → slot_of s (e ∷ past) w.pool x ≡ slot_of s past w.pool x
others_stay s past e w r x legal who is none differs =
    other_slot s past e w.pool x false legal (not_by e w x who differs)
    (enlists_at e w x r who is ∙ ap (λ o. is_at o x) none)

-- where it changes the run, its sleep or the enlisting of its own worker alone
own_changes : (s : Layout) (past : List Entry) (e : Entry) (w : WorkerId) (r : Reply) (change : Slot → Slot)
    (o : Option Task) → IsLegal s (e ∷ past) → e.who ≡ Worker w → e.reply ≡ r → index_enlisted r ≡ None
    → run_task s (e ∷ past) w ≡ o
    → own_after s past w r o ≡ change (slot_of s past w.pool w.index) → map (slot_of s (e ∷ past) w.pool) (indices s)
    ≡ with_slot change w.index (pool_of s past w.pool).slots
own_changes s past e w r change o legal who is none runs own =
    set_row (slot_of s past w.pool) (slot_of s (e ∷ past) w.pool) s.workers w.index
    (change (slot_at (pool_of s past w.pool).slots w.index))
    (own_slot s past e w r legal who is ∙ ap (own_after s past w r) runs ∙ own
    ∙ ap change (sym (slot_is s past w.pool w.index (worker_fits s past e w legal (by_itself e w who)))))
    (λ x differs. others_stay s past e w r x legal who is none differs)

-- ---- a start

pub record StartsTask (s : Layout) (past : List Entry) (e : Entry) (w : WorkerId) (n : ℕ) : Type 0 where
  pub queueing : Queueing
  pub number : queueing.number ≡ n
  pub found : queueing_at past queueing.number ≡ Some queueing
  pub task : next_task (pool_of s past w.pool) ≡ Some (task_for s queueing)
  pub runs : run_task s (e ∷ past) w ≡ Some (task_for s queueing)
  pub enlists : slots_enlisted_by (pool_of s past w.pool).slots w.index ≡ index_enlisted e.reply

after_start : (n : ℕ) (r : Reply) (q : Option ℕ) → number_started r ≡ Some n → run_after r q ≡ Some n
after_start n r q h = grind arith

pub starts_task : (s : Layout) (past : List Entry) (e : Entry) (w : WorkerId) (n : ℕ) → IsLegal s (e ∷ past)
    → e.who ≡ Worker w → number_started e.reply ≡ Some n → StartsTask s past e w n
unfolding IsLegal
starts_task s past e w n legal who number =
    let st = starts_next s past e n legal number in
    let same : st.worker ≡ w = same_starter st.worker w (sym st.by_worker ∙ who) in
    let next_is : next s past w.pool ≡ Some st.queueing = rw same at st.is_next in
    let at : queueing_at past n ≡ Some st.queueing = ap (queueing_at past) (sym st.number)
    ∙ (next_holds s IsFound (λ f h x k. queueing_at-older f h x.number x k) queueings_found past w.pool st.queueing
    next_is).holds in
    record {
      queueing = st.queueing;
      number = st.number;
      found = ap (queueing_at past) st.number ∙ at;
      task = next_task_is s past w.pool legal.2 ∙ ap (option_map (task_for s)) next_is;
      runs = rw (
        own_run s past e w e.reply legal who refl,
        after_start n e.reply (run past w) number,
        queueing_at-older e past n st.queueing at,
      ) refl;
      enlists = starts_enlist_alike s past w legal.2 ∙ sym (ap (enlisted_by s past) same) ∙ sym st.enlists;
    }

start_refines : (s : Layout) (past : List Entry) (e : Entry) (w : WorkerId) (n : ℕ) → IsLegal s (e ∷ past)
    → e.who ≡ Worker w → e.reply ≡ reply.Started n
    → map (slot_of s (e ∷ past) w.pool) (indices s)
    ≡ (start_next w.index (next_task (pool_of s past w.pool)) (pool_of s past w.pool)).slots
unfolding own_after
start_refines s past e w n legal who is =
    let st = starts_task s past e w n legal who (ap number_started is) in
    rw (st.task, st.enlists ∙ ap index_enlisted is)
    (own_changes s past e w (reply.Started n) (slot_running (task_for s st.queueing))
    (Some (task_for s st.queueing)) legal who is refl st.runs refl)

enlist_refines : (s : Layout) (past : List Entry) (e : Entry) (w : WorkerId) (n y : ℕ) → IsLegal s (e ∷ past)
    → e.who ≡ Worker w → e.reply ≡ reply.StartedEnlist n y
    → map (slot_of s (e ∷ past) w.pool) (indices s)
    ≡ (start_next w.index (next_task (pool_of s past w.pool)) (pool_of s past w.pool)).slots
unfolding IsLegal own_after
enlist_refines s past e w n y legal who is =
    rw (st.task, enlists, ← first)
    (set_row between (slot_of s (e ∷ past) w.pool) s.workers y (slot_enlisted (slot_at (map between (indices s)) y))
    (slot_now y true (eq-eqb y y refl)
    ∙ ap slot_enlisted
    (sym (get_or-map-range_with_len between 0 s.workers y y no_slot
    (reserve_there s past w y (sym (starts_enlist_alike s past w legal.2) ∙ enlists)) (omega arith))))
    (λ x differs. slot_now x false (ne_eqb y x (λ same. differs (sym same)))))
  where
    st : StartsTask s past e w n
    st = starts_task s past e w n legal who (ap number_started is)

    enlists : slots_enlisted_by (pool_of s past w.pool).slots w.index ≡ Some y
    enlists = st.enlists ∙ ap index_enlisted is

    t : Task
    t = task_for s st.queueing

    -- the slots with one that runs, before another is enlisted
    between : ℕ → Slot
    between x = if x == w.index then slot_running t (slot_of s past w.pool x) else slot_of s past w.pool x

    first : map between (indices s) ≡ with_slot (slot_running t) w.index (pool_of s past w.pool).slots
    first = set_row (slot_of s past w.pool) between s.workers w.index
        (slot_running t (slot_at (pool_of s past w.pool).slots w.index))
        (rw (
          eq-eqb w.index w.index refl,
          slot_is s past w.pool w.index (worker_fits s past e w legal (by_itself e w who)),
        ) refl)
        (λ x differs. rw (ne_eqb x w.index differs) refl)

    -- each slot after the entry is what stands between, unless it is enlisted
    slot_now : (x : ℕ) (b : Bool) → (y == x) ≡ b
        → slot_of s (e ∷ past) w.pool x
        ≡ record { enlisted = b || (between x).enlisted; run = (between x).run; asleep = (between x).asleep }
    slot_now x b h = ⊎_elim
        (λ own. grind (arith, nat_tests, own_slot s past e w (reply.StartedEnlist n y) legal who is, st.runs))
        (λ differs.
        rw (ne_eqb x w.index differs)
        (other_slot s past e w.pool x b legal (not_by e w x who differs)
        (enlists_at e w x (reply.StartedEnlist n y) who is ∙ h))) (cases_eq x w.index)

-- ---- an entry of one of its workers

-- a reply that changes no slot
unchanged : (s : Layout) (past : List Entry) (e : Entry) (w : WorkerId) (r : Reply) → IsLegal s (e ∷ past)
    → e.who ≡ Worker w → e.reply ≡ r → index_enlisted r ≡ None → is_retired r ≡ false
    → asleep_after r (is_asleep past w) ≡ is_asleep past w
    → run_after r (run past w) ≡ run past w → map (slot_of s (e ∷ past) w.pool) (indices s)
    ≡ (pool_of s past w.pool).slots
unfolding own_after
unchanged s past e w r legal who is none stays sleeps runs =
    same_rows (slot_of s past w.pool) (slot_of s (e ∷ past) w.pool) (indices s) (λ x. ⊎_elim
    (λ own. rw own
    (own_slot s past e w r legal who is
    ∙ slot_like (own_after s past w r (run_task s (e ∷ past) w)) (slot_of s past w.pool w.index)
    (rw (none, stays) refl) (same_run s past e w legal (own_run s past e w r legal who is ∙ runs)) sleeps))
    (others_stay s past e w r x legal who is none) (cases_eq x w.index))

reply_refines : (s : Layout) (past : List Entry) (e : Entry) (w : WorkerId) (r : Reply) → IsLegal s (e ∷ past)
    → e.who ≡ Worker w → e.reply ≡ r → map (slot_of s (e ∷ past) w.pool) (indices s)
    ≡ (pool_after_reply r w.index (pool_of s past w.pool)).slots
unfolding own_after
reply_refines s past e w (reply.Started n) legal who is = start_refines s past e w n legal who is
reply_refines s past e w (reply.StartedEnlist n y) legal who is = enlist_refines s past e w n y legal who is
reply_refines s past e w (reply.Finished n) legal who is =
    own_changes s past e w (reply.Finished n) slot_free None legal who is refl
    (run_task_none s (e ∷ past) w (own_run s past e w (reply.Finished n) legal who is)) refl
reply_refines s past e w reply.Slept legal who is =
    own_changes s past e w reply.Slept slot_asleep (run_task s past w) legal who is refl
    (same_run s past e w legal (own_run s past e w reply.Slept legal who is)) refl
reply_refines s past e w reply.Woke legal who is =
    own_changes s past e w reply.Woke slot_awake (run_task s past w) legal who is refl
    (same_run s past e w legal (own_run s past e w reply.Woke legal who is)) refl
reply_refines s past e w reply.Retired legal who is =
    own_changes s past e w reply.Retired slot_retired (run_task s past w) legal who is refl
    (same_run s past e w legal (own_run s past e w reply.Retired legal who is)) refl
reply_refines s past e w r legal who is = unchanged s past e w r legal who is refl refl refl refl

-- ---- any entry

-- of another pool's worker, or of a caller
elsewhere : (s : Layout) (past : List Entry) (e : Entry) (p : PoolId) → IsLegal s (e ∷ past)
    → is_in_pool p e.who ≡ false → map (slot_of s (e ∷ past) p) (indices s) ≡ (pool_of s past p).slots
elsewhere s past e p legal out =
    same_rows (slot_of s past p) (slot_of s (e ∷ past) p) (indices s)
    (λ x. other_slot s past e p x false legal (not_here x e.who out)
    (ap (λ b. b && is_at (index_enlisted e.reply) x) out))
  where
    not_here : (x : ℕ) (who : Who) → is_in_pool p who ≡ false → same_who who (Worker (worker_at p x)) ≡ false
    not_here x who h = grind arith

pub slots_refine : (s : Layout) (past : List Entry) (e : Entry) (p : PoolId) → IsLegal s (e ∷ past)
    → map (slot_of s (e ∷ past) p) (indices s) ≡ (pool_after_worker p e.who e.reply (pool_of s past p)).slots
slots_refine s past e p legal = by e.who refl
  where
    by : (who : Who) → e.who ≡ who → map (slot_of s (e ∷ past) p) (indices s)
        ≡ (pool_after_worker p who e.reply (pool_of s past p)).slots
    by (Caller c) is = elsewhere s past e p legal (ap (is_in_pool p) is)
    by (Worker w) is =
        cond_both (same_pool w.pool p) (pool_after_reply e.reply w.index (pool_of s past p)) (pool_of s past p)
        (λ l. map (slot_of s (e ∷ past) p) (indices s) ≡ l.slots)
        (λ same. rw (← same_pool-true w.pool p same) (reply_refines s past e w e.reply legal is refl))
        (λ other. elsewhere s past e p legal (ap (is_in_pool p) is ∙ other))
